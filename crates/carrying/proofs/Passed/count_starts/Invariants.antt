use mathlib.Core.Path.{◌≡◌}
use lib.Dec.{leb}
use Rattle.carrying.proofs.Counting.{of_kind}
use Rattle.carrying.proofs.Passed.count_starts.Given as goal

abbrev pub invariant-loop-r : goal.invariant-loop-r
invariant-loop-r l = l.count ≡ of_kind (λ k. leb k 1) l.self.words.now l.r
