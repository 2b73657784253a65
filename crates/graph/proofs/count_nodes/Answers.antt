-- `graph::count_nodes` meets its contract. The table after i nodes holds their reads.
-- Assumes nothing.
use mathlib.Core.Path.{refl}
use native.Mathlib.Omega.{arith}
use Rattle.graph.specs.Below.{joined}
use Rattle.graph.specs.Counted.{counted}
use Rattle.graph.specs.Graph.{node_at, node_reads}
use Rattle.graph.specs.Refusal.{node_is_below}
use Rattle.graph.proofs.Readers.{one_more_lem}
use Rattle.graph.proofs.count_nodes.Goals as goal

pub loop-i-init : goal.loop-i-init
unfolding counted joined
loop-i-init c = (omega arith, refl)

pub count_node-requires : goal.count_node-requires
count_node-requires c = (c.requires.0, omega arith, node_is_below _ c.requires.1 _ (omega arith))

pub loop-i-preserved : goal.loop-i-preserved
loop-i-preserved c = (omega arith, one_more_lem (λ j. node_reads (node_at _ j)) _ _ c.loop-i.invariant.1 c.count_node.ensures)
