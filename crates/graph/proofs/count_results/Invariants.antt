use Prim.Native.Nat.{◌≤◌}
use mathlib.Core.Path.{◌≡◌}
use Rattle.graph.specs.Counted.{counted}
use Rattle.graph.specs.Graph.{results}
use Rattle.graph.proofs.count_results.Given as goal

abbrev pub invariant-loop-k : goal.invariant-loop-k
invariant-loop-k l = (l.k ≤ l.results) × (l.seen ≡ counted l.initial.seen (results l.graph l.k))
