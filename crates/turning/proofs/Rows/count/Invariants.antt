use mathlib.Core.Path.{◌≡◌}
use Rattle.table.specs.Kinds.{kind_number}
use Rattle.table.specs.Counted.{rows_of}
use Rattle.turning.proofs.Rows.count.Given as goal

abbrev pub invariant-loop-r : goal.invariant-loop-r
invariant-loop-r l = l.count ≡ rows_of (kind_number l.kind) l.self.table.now l.r
