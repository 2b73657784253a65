use Prim.Native.Nat.{◌-◌, ◌≤◌}
use mathlib.Core.Path.{◌≡◌}
use lib.ListN.{length}
use Rattle.sheet.specs.Sheet.{rows_text}
use Rattle.sheet.proofs.Writing.{Left}
use Rattle.sheet_written.proofs.put_rows.Given as goal

abbrev pub invariant-loop-r : goal.invariant-loop-r
invariant-loop-r l = (l.r ≤ l.n) × (length l.out ≡ length l.initial.out) × Left l.initial.out l.at (rows_text l.n l.table 0) l.out l.p (rows_text (l.n - l.r) l.table l.r)
