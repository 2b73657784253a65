-- `graph::sorts_agree` meets its contract. The table of sorts, then nodes, then results.
-- Assumes nothing.
use Rattle.graph.specs.Refusal.{sorts_agree}
use Rattle.graph.proofs.Sorts.{table_filled}
use Rattle.graph.proofs.sorts_agree.Goals as goal

pub nodes_sorted-requires : goal.nodes_sorted-requires
nodes_sorted-requires c = (c.requires.0, c.requires.2, table_filled c.args.graph.now c.requires.0.wires c.requires.1 c.mark_nodes.ensures)

pub returns-else-nodes_sorted : goal.returns-else-nodes_sorted
unfolding sorts_agree
returns-else-nodes_sorted c = rw (← c.nodes_sorted.ensures, c.if-nodes_sorted.false)

pub results_sorted-requires : goal.results_sorted-requires
results_sorted-requires c = (c.requires.0, c.requires.2, table_filled c.args.graph.now c.requires.0.wires c.requires.1 c.mark_nodes.ensures)

pub returns-then-nodes_sorted : goal.returns-then-nodes_sorted
unfolding sorts_agree
returns-then-nodes_sorted c = rw (← c.nodes_sorted.ensures, c.if-nodes_sorted.true) c.results_sorted.ensures
