use mathlib.Core.Path.{◌≡◌}
use lib.Dec.{eqb}
use Rattle.carrying.proofs.Counting.{of_kind}
use Rattle.carrying.proofs.Passed.count_results.Given as goal

abbrev pub invariant-loop-r : goal.invariant-loop-r
invariant-loop-r l = l.count ≡ of_kind (λ k. eqb k 8) l.self.words.now l.r
