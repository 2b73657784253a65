-- `naming::name_copy` meets its contract. Two names where the value is carried, else none.
-- Assumes nothing.
use Prim.Native.Nat.{◌+◌, ◌≤◌}
use mathlib.Core.List.{[], ◌∷◌}
use mathlib.Core.Path.{refl, sym, ◌∙◌}
use native.Mathlib.Omega.{arith}
use lib.ListN.{length}
use Rattle.naming.proofs.Writing.{two_written, room_when, when, unless}
use Rattle.lowered.specs.Sources.{carried}
use Rattle.naming.proofs.name_copy.Goals as goal

pub three-requires : goal.three-requires
three-requires c = let a = c.args in let h : a.at + 6 ≤ length a.nodes.now = room_when (carried a.notes.now.passed.words.now a.l a.v) (4 ∷ a.l ∷ a.v ∷ 5 ∷ a.l ∷ a.v ∷ []) a.nodes.now a.at (sym c.is_carried.ensures ∙ c.if-is_carried.true) c.requires.4 in omega arith

pub three-requires-then-is_carried : goal.three-requires-then-is_carried
three-requires-then-is_carried c = let a = c.args in let k = c.three.auto.graph in let h : a.at + 6 ≤ length a.nodes.now = room_when (carried a.notes.now.passed.words.now a.l a.v) (4 ∷ a.l ∷ a.v ∷ 5 ∷ a.l ∷ a.v ∷ []) a.nodes.now a.at (sym c.is_carried.ensures ∙ c.if-is_carried.true) c.requires.4 in omega arith

pub returns-then-is_carried : goal.returns-then-is_carried
returns-then-is_carried c = let a = c.args in when (carried a.notes.now.passed.words.now a.l a.v) (4 ∷ a.l ∷ a.v ∷ 5 ∷ a.l ∷ a.v ∷ []) a.nodes.now a.at (sym c.is_carried.ensures ∙ c.if-is_carried.true) refl (two_written (4 ∷ a.l ∷ a.v ∷ []) (5 ∷ a.l ∷ a.v ∷ []) a.nodes.now a.at (a.at + 3) c.three.ensures c.three-then-is_carried.ensures refl)

pub returns : goal.returns
returns c = let a = c.args in unless (carried a.notes.now.passed.words.now a.l a.v) (4 ∷ a.l ∷ a.v ∷ 5 ∷ a.l ∷ a.v ∷ []) a.nodes.now a.at (sym c.is_carried.ensures ∙ c.if-is_carried.false)
