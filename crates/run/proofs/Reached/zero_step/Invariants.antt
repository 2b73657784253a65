use Rattle.state.specs.Run.{zero_step_at, first_from, zero_step}
use Rattle.graph.specs.Graph.{node_count}
use mathlib.Core.Path.{◌≡◌}
use Prim.Native.Nat.{◌-◌, ◌≤◌}
use Rattle.run.proofs.Reached.zero_step.Given as goal

abbrev pub invariant-loop-node : goal.invariant-loop-node
invariant-loop-node l = (l.node ≤ node_count l.self.graph.now) × (first_from (node_count l.self.graph.now - l.node) l.node (zero_step_at l.self.graph.now l.self.state.now) ≡ zero_step l.self.graph.now l.self.state.now)
