use mathlib.Core.Bool.{false}
use mathlib.Core.Path.{◌≡◌}
use Rattle.table.specs.Scan.{holds}
use Rattle.table.specs.Kept.{open_loops}
use Rattle.table.proofs.loops.OpenLoops.holds.Given as goal

abbrev pub invariant-loop-k : goal.invariant-loop-k
invariant-loop-k l = holds l.row (open_loops l.self.entries l.k) ≡ false
