use Rattle.table.specs.Kept.{Noted}
use Rattle.table.specs.Check.{rows_from}
use mathlib.Core.Path.{◌≡◌}
use Prim.Native.Nat.{◌-◌}
use Rattle.table.proofs.tell_each.Given as goal

abbrev pub invariant-loop-row : goal.invariant-loop-row
invariant-loop-row l = Noted l.table l.row l.notes × (l.notes.size ≡ l.size) × (rows_from (l.size - l.row) l.table l.row ≡ rows_from l.size l.table 0)
