-- `naming::mark_loop` meets its contract. After r rows the marks are those of the rows before r.
-- Assumes nothing.
use Prim.Native.Nat.{ℕ}
use mathlib.Core.Path.{subst}
use native.Mathlib.Omega.{arith}
use Rattle.naming.proofs.Inside.{no_marks}
use Rattle.naming.specs.Carried.{Marks}
use Rattle.naming.proofs.mark_loop.Goals as goal

pub loop-r-init : goal.loop-r-init
loop-r-init c = no_marks c.args.notes.now.passed.words.now c.args.l

pub mark_row-requires : goal.mark_row-requires
mark_row-requires c = let q = c.requires in (q.0, q.1, c.loop-r-test.true, c.loop-r.invariant)

pub loop-r-preserved : goal.loop-r-preserved
loop-r-preserved c = c.mark_row.ensures

pub returns : goal.returns
returns c = let a = c.args in subst (λ (k : ℕ). Marks a.notes.now.passed.words.now a.l k c.loop-r.marks) (omega arith) c.loop-r.invariant
