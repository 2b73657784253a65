use Rattle.table.specs.Clauses.{first_from, is_seen, hidden_word}
use mathlib.Core.Path.{◌≡◌}
use Prim.Native.Nat.{◌-◌}
use Rattle.table.proofs.Notes.check_names.Given as goal

abbrev pub invariant-loop-k : goal.invariant-loop-k
invariant-loop-k l = first_from (is_seen l.table l.r) (l.k-end - l.k) l.k ≡ hidden_word l.table l.r
