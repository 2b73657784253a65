use Rattle.state.specs.Legal.{legal_node}
use Rattle.graph.specs.Graph.{node_count}
use Rattle.graph.specs.Below.{every_from, every}
use mathlib.Core.Path.{◌≡◌}
use Prim.Native.Nat.{◌-◌, ◌≤◌}
use Rattle.machine.proofs.Fitted.nodes_legal.Given as goal

abbrev pub invariant-loop-i : goal.invariant-loop-i
invariant-loop-i l = (l.i ≤ l.nodes) × (l.nodes ≡ node_count l.self.graph.now) × (every_from (l.nodes - l.i) l.i (legal_node l.self.graph.now l.self.state.now) ≡ every (node_count l.self.graph.now) (legal_node l.self.graph.now l.self.state.now))
