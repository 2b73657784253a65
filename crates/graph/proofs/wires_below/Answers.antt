-- `graph::wires_below` meets its contract. Nodes first, then results.
-- Assumes nothing.
use Rattle.graph.specs.Refusal.{wires_below}
use Rattle.graph.proofs.wires_below.Goals as goal

pub returns-else-nodes_below : goal.returns-else-nodes_below
unfolding wires_below
returns-else-nodes_below c = rw (← c.nodes_below.ensures, c.if-nodes_below.false)

pub returns-then-nodes_below : goal.returns-then-nodes_below
unfolding wires_below
returns-then-nodes_below c = rw (← c.nodes_below.ensures, c.if-nodes_below.true) c.results_below.ensures
