use Rattle.graph.specs.Graph.{node_count}
use lib.ListN.{get_or, length}
use lib.Dec.{ltb}
use Rattle.graph.specs.Below.{every_from, every}
use mathlib.Core.Path.{◌≡◌}
use Prim.Native.Nat.{◌-◌, ◌≤◌}
use Rattle.run.proofs.order_below.Given as goal

abbrev pub invariant-loop-node : goal.invariant-loop-node
invariant-loop-node l = (l.node-index ≤ length l.order) × (l.nodes ≡ node_count l.graph) × (every_from (length l.order - l.node-index) l.node-index (λ k'. ltb (get_or l.order k' 0) (node_count l.graph)) ≡ every (length l.order) (λ k'. ltb (get_or l.order k' 0) (node_count l.graph)))
