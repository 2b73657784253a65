-- `graph::count_node` meets its contract. Three reads, in input order; each wire has a place in the table since the row is below W.
-- Assumes nothing.
use Rattle.std.proofs.Common.{refl, ap, ◌∙◌}
use Rattle.graph.specs.Counted.{counted}
use Rattle.graph.specs.Said.{listed_of}
use Rattle.graph.proofs.Rows.{at_input0, at_input1, at_input2, in_table0, in_table1, in_table2}
use Rattle.graph.proofs.Readers.{one_node}
use Rattle.graph.proofs.count_node.Goals as goal

pub count-requires : goal.count-requires
count-requires c = in_table0 c.args.graph.now c.args.i c.row_place-at.result c.requires.1 c.row_place-at.ensures 8192 c.requires.0.wires c.inputs_at.ensures c.requires.2

pub count-requires-2 : goal.count-requires-2
count-requires-2 c = in_table1 c.args.graph.now c.args.i c.row_place-at.result c.requires.1 c.row_place-at.ensures 8192 c.requires.0.wires c.inputs_at.ensures c.requires.2

pub count-requires-3 : goal.count-requires-3
count-requires-3 c = in_table2 c.args.graph.now c.args.i c.row_place-at.result c.requires.1 c.row_place-at.ensures 8192 c.requires.0.wires c.inputs_at.ensures c.requires.2

pub returns : goal.returns
returns c = one_node _ _ _ c.requires.1 c.row_place-at.ensures _ _ refl (c.count.ensures ∙ ap (counted _) (at_input0 listed_of c.args.graph.now c.row_place-at.result c.inputs_at.ensures)) (c.count-2.ensures ∙ ap (counted _) (at_input1 listed_of c.args.graph.now c.row_place-at.result c.inputs_at.ensures)) (c.count-3.ensures ∙ ap (counted _) (at_input2 listed_of c.args.graph.now c.row_place-at.result c.inputs_at.ensures))
