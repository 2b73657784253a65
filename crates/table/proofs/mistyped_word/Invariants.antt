use Rattle.table.specs.Clauses.{first_from, is_sorted, mistyped_word}
use mathlib.Core.Path.{◌≡◌}
use Prim.Native.Nat.{◌-◌}
use Rattle.table.proofs.mistyped_word.Given as goal

abbrev pub invariant-loop-k : goal.invariant-loop-k
invariant-loop-k l = first_from (is_sorted l.table l.r) (l.k-end - l.k) l.k ≡ mistyped_word l.table l.r
