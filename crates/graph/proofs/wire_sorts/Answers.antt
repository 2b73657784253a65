-- `graph::wire_sorts` meets its contract. The filled table reads like the list of sorts, starts and places past W included.
-- Assumes nothing.
use Rattle.graph.proofs.Sorts.{table_filled}
use Rattle.graph.proofs.wire_sorts.Goals as goal

pub returns : goal.returns
returns c = table_filled c.args.graph.now c.requires.0.wires c.requires.1 c.mark_nodes.ensures
