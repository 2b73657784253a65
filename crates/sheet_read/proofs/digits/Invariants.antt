-- What is read from p on with v is what is read from the start on with the first digit.
use Prim.Native.Nat.{◌≤◌}
use mathlib.Core.Path.{◌≡◌}
use lib.ListN.{drop}
use Rattle.sheet.specs.Reader.{digits_from}
use Rattle.sheet_read.proofs.digits.Given as goal

abbrev pub invariant-loop-p : goal.invariant-loop-p
invariant-loop-p l = (l.v ≤ l.most) × (digits_from l.most l.v (drop l.p l.text) ≡ digits_from l.most l.first (drop l.at l.text))
