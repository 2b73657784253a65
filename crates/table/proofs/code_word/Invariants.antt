use Rattle.table.specs.Clauses.{first_from, code_word}
use Rattle.table.specs.Check.{is_code}
use mathlib.Core.Path.{◌≡◌}
use Prim.Native.Nat.{◌-◌}
use Rattle.table.proofs.code_word.Given as goal

abbrev pub invariant-loop-k : goal.invariant-loop-k
invariant-loop-k l = first_from (is_code l.table l.r) (6 - l.k) l.k ≡ code_word l.table l.r
