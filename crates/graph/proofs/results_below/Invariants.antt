use Prim.Native.Nat.{◌-◌, ◌≤◌}
use mathlib.Core.Path.{◌≡◌}
use Rattle.graph.specs.Below.{every_from, every}
use Rattle.graph.specs.Graph.{result_count}
use Rattle.graph.specs.Refusal.{result_below}
use Rattle.graph.proofs.results_below.Given as goal

abbrev pub invariant-loop-k : goal.invariant-loop-k
invariant-loop-k l = (l.k ≤ l.results) × (every_from (l.results - l.k) l.k (result_below l.graph) ≡ every (result_count l.graph) (result_below l.graph))
