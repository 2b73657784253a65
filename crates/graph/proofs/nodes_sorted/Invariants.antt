use Prim.Native.Nat.{◌-◌, ◌≤◌}
use mathlib.Core.Path.{◌≡◌}
use Rattle.graph.specs.Below.{every_from, every}
use Rattle.graph.specs.Graph.{node_count}
use Rattle.graph.specs.Refusal.{node_sorted}
use Rattle.graph.proofs.nodes_sorted.Given as goal

abbrev pub invariant-loop-i : goal.invariant-loop-i
invariant-loop-i l = (l.i ≤ l.nodes) × (every_from (l.nodes - l.i) l.i (node_sorted l.graph) ≡ every (node_count l.graph) (node_sorted l.graph))
