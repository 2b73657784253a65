-- `naming::name_starts` meets its contract. After r rows the names of their starts stand in a run.
-- Assumes nothing.
use Prim.Native.Nat.{ℕ}
use mathlib.Core.List.{List, [], ◌∷◌}
use mathlib.Core.Bool.{cond}
use mathlib.Core.Path.{ap}
use native.Mathlib.Omega.{arith}
use lib.Dec.{leb}
use Rattle.naming.proofs.Writing.{nothing_written, same_long, room_left, one_written, all_written}
use Rattle.naming.specs.Parts.{start_names}
use Rattle.naming.proofs.name_starts.Goals as goal

pub loop-r-init : goal.loop-r-init
loop-r-init c = nothing_written (start_names c.args.passed.now.words.now) 0 c.args.wires.now

pub name_start-p-requires : goal.name_start-p-requires
name_start-p-requires c = let a = c.args in let l = c.loop-r in let h = c.requires in room_left (start_names a.passed.now.words.now) 0 l.invariant a.passed.now.rows c.loop-r-test.true (omega arith) _ (ap (λ (k : ℕ). cond {A = List ℕ} (leb k 1) (0 ∷ l.r ∷ 0 ∷ []) []) c.kind.ensures)

pub loop-r-preserved : goal.loop-r-preserved
loop-r-preserved c = let a = c.args in let l = c.loop-r in let e = c.name_start-p.ensures in one_written (start_names a.passed.now.words.now) 0 l.invariant _ (ap (λ (k : ℕ). cond {A = List ℕ} (leb k 1) (0 ∷ l.r ∷ 0 ∷ []) []) c.kind.ensures) e.0 e.1

pub shape_of-wires : goal.shape_of-wires
shape_of-wires c = same_long (start_names c.args.passed.now.words.now) 0 c.loop-r.invariant

pub returns : goal.returns
returns c = let w = all_written (start_names c.args.passed.now.words.now) 0 c.loop-r.invariant c.args.passed.now.rows (omega arith) in let w0 = w.0 in (omega arith, w.1)
