use Prim.Native.Nat.{◌≤◌}
use mathlib.Core.Path.{◌≡◌}
use lib.ListN.{length, drop}
use Rattle.sheet.specs.Reader.{fixed_from}
use Rattle.sheet_read.proofs.fixed.Given as goal

abbrev pub invariant-loop-due : goal.invariant-loop-due
invariant-loop-due l = (l.p ≤ length l.text) × (fixed_from (drop l.due-index l.key) l.v (drop l.p l.text) ≡ fixed_from l.key l.v (drop l.at l.text))
