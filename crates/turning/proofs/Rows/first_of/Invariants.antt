use Rattle.table.specs.Bodies.{first_of}
use Prim.Native.Nat.{◌-◌, ◌≤◌, ◌<◌}
use Rattle.turning.proofs.Rows.first_of.Given as goal

abbrev pub invariant-loop-r : goal.invariant-loop-r
invariant-loop-r l = (l.l < l.r) × (l.r ≤ first_of l.self.table.now l.l)

abbrev pub decreases-loop-r : goal.decreases-loop-r
decreases-loop-r l = first_of l.self.table.now l.l - l.r
