-- `graph::node_sorted` meets its contract. Each early return is the first input whose sort differs.
-- Assumes nothing.
use Rattle.std.proofs.Common.{refl, ◌∙◌, ◌+◌, get_or}
use Rattle.step.specs.Kinds.{kind_of, inputs, in0, in1}
use Rattle.graph.specs.Graph.{column}
use Rattle.graph.specs.Said.{sorted_of}
use Rattle.graph.proofs.Rows.{at_input0, at_input1, at_input2, in_table0, in_table1, in_table2}
use Rattle.graph.proofs.Sorts.{first_unsorted, second_unsorted, third_decides}
use Rattle.graph.proofs.node_sorted.Goals as goal

pub sorted-requires : goal.sorted-requires
sorted-requires c = in_table0 c.args.graph.now c.args.i c.row_place-at.result c.requires.1 c.row_place-at.ensures 8192 c.requires.0.wires c.inputs_at.ensures c.requires.2

pub returns-then-not-sorted : goal.returns-then-not-sorted
returns-then-not-sorted c = first_unsorted c.args.graph.now c.args.i c.row_place-at.result c.requires.1 c.row_place-at.ensures c.args.sorts.now c.requires.3 (column inputs (kind_of (get_or c.args.graph.now c.row_place-at.result 0))) c.input_sort.result refl (c.input_sort.ensures in0 refl) (c.sorted.ensures ∙ at_input0 (λ t. sorted_of c.args.sorts.now t c.input_sort.result) c.args.graph.now c.row_place-at.result c.inputs_at.ensures) c.if-not-sorted.true

pub sorted-requires-2 : goal.sorted-requires-2
sorted-requires-2 c = in_table1 c.args.graph.now c.args.i c.row_place-at.result c.requires.1 c.row_place-at.ensures 8192 c.requires.0.wires c.inputs_at.ensures c.requires.2

pub returns-then-not-sorted-2 : goal.returns-then-not-sorted-2
returns-then-not-sorted-2 c = second_unsorted c.args.graph.now c.args.i c.row_place-at.result c.requires.1 c.row_place-at.ensures c.args.sorts.now c.requires.3 (column inputs (kind_of (get_or c.args.graph.now c.row_place-at.result 0))) c.input_sort.result refl (c.input_sort.ensures in0 refl) (c.sorted.ensures ∙ at_input0 (λ t. sorted_of c.args.sorts.now t c.input_sort.result) c.args.graph.now c.row_place-at.result c.inputs_at.ensures) c.input_sort-2.result c.if-not-sorted.false (c.input_sort-2.ensures in1 refl) (c.sorted-2.ensures ∙ at_input1 (λ t. sorted_of c.args.sorts.now t c.input_sort-2.result) c.args.graph.now c.row_place-at.result c.inputs_at.ensures) c.if-not-sorted-2.true

pub sorted-requires-3 : goal.sorted-requires-3
sorted-requires-3 c = in_table2 c.args.graph.now c.args.i c.row_place-at.result c.requires.1 c.row_place-at.ensures 8192 c.requires.0.wires c.inputs_at.ensures c.requires.2

pub returns : goal.returns
returns c = third_decides c.args.graph.now c.args.i c.row_place-at.result c.requires.1 c.row_place-at.ensures c.args.sorts.now c.requires.3 (column inputs (kind_of (get_or c.args.graph.now c.row_place-at.result 0))) c.input_sort.result refl (c.input_sort.ensures in0 refl) (c.sorted.ensures ∙ at_input0 (λ t. sorted_of c.args.sorts.now t c.input_sort.result) c.args.graph.now c.row_place-at.result c.inputs_at.ensures) c.input_sort-2.result c.if-not-sorted.false (c.input_sort-2.ensures in1 refl) (c.sorted-2.ensures ∙ at_input1 (λ t. sorted_of c.args.sorts.now t c.input_sort-2.result) c.args.graph.now c.row_place-at.result c.inputs_at.ensures) c.if-not-sorted-2.false (c.sorted-3.ensures ∙ at_input2 (λ t. sorted_of c.args.sorts.now t (get_or c.args.graph.now (c.row_place-at.result + 2) 0)) c.args.graph.now c.row_place-at.result c.inputs_at.ensures)
