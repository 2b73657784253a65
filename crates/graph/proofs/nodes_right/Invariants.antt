use Prim.Native.Nat.{◌+◌, ◌-◌, ◌*◌, ◌≤◌}
use mathlib.Core.Path.{◌≡◌}
use Rattle.graph.specs.Below.{every_from, every}
use Rattle.graph.specs.Graph.{node_count, first_at}
use Rattle.graph.specs.Refusal.{node_right}
use Rattle.graph.proofs.nodes_right.Given as goal

abbrev pub invariant-loop-i : goal.invariant-loop-i
invariant-loop-i l = (l.i ≤ l.nodes) × (l.next ≡ first_at l.graph l.i) × (l.next ≤ 512 + 2 * l.i) × (every_from (l.nodes - l.i) l.i (node_right l.graph) ≡ every (node_count l.graph) (node_right l.graph))
