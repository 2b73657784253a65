-- `naming::is_carried` meets its contract. Marked, and at home outside the loop.
-- Assumes nothing.
use Prim.Native.Nat.{ℕ}
use mathlib.Core.Path.{sym, ap, ◌∙◌, subst}
use lib.Dec.{eqb}
use Rattle.naming.proofs.Inside.{home_is_body, at_home_inside, carried_by_marks}
use Rattle.naming.specs.Carried.{Body}
use Rattle.lowered.specs.Sources.{inside}
use Rattle.naming.proofs.is_carried.Goals as goal

pub lies_in-requires : goal.lies_in-requires
lies_in-requires c = let a = c.args in let q = c.requires in (q.0, q.1, subst (Body a.notes.now.passed.words.now) (sym c.home_of-h.ensures) (home_is_body a.notes.now.passed.words.now a.notes.now.passed.rows c.args.notes.now.noted.passing a.v q.2))

pub returns-then-lies_in : goal.returns-then-lies_in
returns-then-lies_in c = let a = c.args in at_home_inside a.notes.now.passed.words.now a.l a.v (c.lies_in.ensures ∙ ap (inside a.notes.now.passed.words.now a.l) c.home_of-h.ensures) c.if-lies_in.true

pub returns : goal.returns
returns c = let a = c.args in ap (λ (x : ℕ). eqb x 1) c.noted_at.ensures ∙ carried_by_marks a.notes.now.passed.words.now a.l a.notes.now.passed.rows a.v a.marks.now c.args.notes.now.noted.passing c.requires.2 c.requires.3 (c.lies_in.ensures ∙ ap (inside a.notes.now.passed.words.now a.l) c.home_of-h.ensures) c.if-lies_in.false
