use mathlib.Core.Path.{◌≡◌}
use lib.ListN.{length, drop}
use Prim.Native.Nat.{◌-◌, ◌*◌, ◌≤◌}
use Rattle.sheet.specs.Reader.{rows_from}
use Rattle.sheet_read.proofs.Storing.{Going}
use Rattle.sheet_read.proofs.rows.Given as goal

abbrev pub invariant-loop-r : goal.invariant-loop-r
invariant-loop-r l = (l.p ≤ length l.text) × (length l.out ≡ length l.initial.out) × Going l.initial.out 0 (6 * l.r) l.out (rows_from l.r (l.count - l.r) (drop l.p l.text)) (rows_from 0 l.count (drop l.at l.text))
