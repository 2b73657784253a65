use Prim.Native.Nat.{◌≤◌}
use mathlib.Core.Path.{◌≡◌}
use Rattle.word.specs.Words.{flag}
use Rattle.graph.specs.Below.{total}
use Rattle.lowered.specs.Sources.{carried}
use Rattle.counting.proofs.count_carried.Given as goal

abbrev pub invariant-loop-v : goal.invariant-loop-v
invariant-loop-v l = (l.count ≤ l.v) × (l.count ≡ total (λ x. flag (carried l.notes.passed.words.now l.l x)) l.v)
