use Rattle.std.specs.Prelude.{◌≡◌, ◌≤◌}
use Rattle.table.specs.Counted.{rows_of}
use Rattle.readings.proofs.rows_of.Given as goal

abbrev pub invariant-loop-r : goal.invariant-loop-r
invariant-loop-r l = (l.count ≤ l.r) × (l.count ≡ rows_of l.number l.table l.r)
