use Prim.Native.Nat.{◌+◌, ◌-◌, ◌≤◌}
use mathlib.Core.Path.{◌≡◌}
use lib.ListN.{length}
use Rattle.sheet.specs.Sheet.{words_text}
use Rattle.sheet.proofs.Writing.{Left}
use Rattle.sheet_written.proofs.put_words.Given as goal

abbrev pub invariant-loop-k : goal.invariant-loop-k
invariant-loop-k l = (1 ≤ l.k) × (l.k ≤ l.used + 1) × (length l.out ≡ length l.initial.out) × Left l.initial.out l.at (words_text l.used l.table l.r 1) l.out l.p (words_text (l.used + 1 - l.k) l.table l.r l.k)
