use Prim.Native.Nat.{◌≤◌}
use mathlib.Core.Path.{◌≡◌}
use lib.ListN.{length, drop}
use Rattle.sheet.specs.Reader.{bad, farthest, names_from}
use Rattle.table.specs.Rows.{row_kinds}
use Rattle.sheet_read.proofs.kind_at.Given as goal

abbrev pub invariant-loop-kind : goal.invariant-loop-kind
invariant-loop-kind l = (l.far ≤ length l.text) × (l.at ≤ l.far) × (farthest (bad (drop l.far l.text)) (names_from (drop l.kind row_kinds) l.kind (drop l.at l.text)) ≡ names_from row_kinds 0 (drop l.at l.text))
