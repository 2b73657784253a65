-- `table::loops::OpenLoops::holds` meets its contract. Invariant: none of the entries below k is the loop's. Assumes nothing.
use mathlib.Core.Path.{refl, sym}
use native.Mathlib.Omega.{arith}
use Rattle.table.specs.Kept.{open_loops}
use Rattle.table.proofs.Opened.{holds_here, holds_more}
use Rattle.table.proofs.loops.OpenLoops.holds.Goals as goal

pub loop-k-init : goal.loop-k-init
unfolding open_loops
loop-k-init c = refl

pub returns-then-self-k : goal.returns-then-self-k
returns-then-self-k c = sym (holds_here _ _ c.loop-k.k _ (omega arith) c.if-self-k.true)

pub loop-k-preserved : goal.loop-k-preserved
loop-k-preserved c = holds_more _ _ _ c.if-self-k.false c.loop-k.invariant
