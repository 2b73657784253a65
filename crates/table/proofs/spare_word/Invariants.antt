use Rattle.table.specs.Clauses.{first_from, is_zero, spare_word}
use mathlib.Core.Path.{◌≡◌}
use Prim.Native.Nat.{◌-◌}
use Rattle.table.proofs.spare_word.Given as goal

abbrev pub invariant-loop-k : goal.invariant-loop-k
invariant-loop-k l = first_from (is_zero l.table l.r) (6 - l.k) l.k ≡ spare_word l.table l.r
