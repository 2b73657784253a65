use Prim.Native.Nat.{◌-◌}
use mathlib.Core.Path.{◌≡◌}
use Rattle.sheet.specs.Sheet.{fault_from}
use Rattle.sheet_written.proofs.check_rows.Given as goal

abbrev pub invariant-loop-row : goal.invariant-loop-row
invariant-loop-row l = fault_from (l.n - l.row) l.table l.row ≡ fault_from l.n l.table 0
