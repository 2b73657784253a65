use mathlib.Core.Path.{◌≡◌}
use lib.ListN.{length, drop}
use Prim.Native.Nat.{◌+◌, ◌-◌, ◌≤◌}
use Rattle.sheet.specs.Reader.{words_from}
use Rattle.sheet_read.proofs.Storing.{Going}
use Rattle.sheet_read.proofs.words.Given as goal

abbrev pub invariant-loop-i : goal.invariant-loop-i
invariant-loop-i l = (l.p ≤ length l.text) × (length l.out ≡ length l.initial.out) × Going l.initial.out l.to l.i l.out (words_from (l.i + 1) (l.count - l.i) (drop l.p l.text)) (words_from 1 l.count (drop l.at l.text))
