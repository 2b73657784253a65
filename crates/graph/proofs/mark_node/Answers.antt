-- `graph::mark_node` meets its contract. Two stores, in output order; both are in the table since all outputs are below W.
-- Assumes nothing.
use mathlib.Core.Path.{refl}
use native.Mathlib.Omega.{arith}
use lib.ListN.{get_or}
use borrow.Author.Tests.{ltb-true}
use Rattle.step.specs.Kinds.{kind_of, out0, out1}
use Rattle.std.proofs.Common.{◌∙◌, ◌+◌}
use lib.Dec.{ltb}
use Rattle.graph.specs.Said.{marked}
use Rattle.graph.proofs.Rows.{if_there, below_there, outputs_at, outputs_small}
use Rattle.graph.proofs.Sorts.{one_node_marked, right_row_sorts}
use Rattle.graph.proofs.mark_node.Goals as goal

pub mark-requires : goal.mark-requires
mark-requires c = (below_there (ltb 0 c.outputs_of-outputs.result) c.args.next c.then_some.ensures (λ t. omega (arith, ltb-true 0 c.outputs_of-outputs.result t, outputs_at c.args.graph.now _ _ c.requires.1 c.row_place-at.ensures)), right_row_sorts c.args.graph.now _ _ c.requires.1 c.row_place-at.ensures c.requires.3 out0 (c.output_sort.ensures out0 refl))

pub mark-requires-2 : goal.mark-requires-2
mark-requires-2 c = (below_there (ltb 1 c.outputs_of-outputs.result) (c.args.next + 1) c.then_some-2.ensures (λ t. omega (arith, ltb-true 1 c.outputs_of-outputs.result t, outputs_at c.args.graph.now _ _ c.requires.1 c.row_place-at.ensures)), right_row_sorts c.args.graph.now _ _ c.requires.1 c.row_place-at.ensures c.requires.3 out1 (c.output_sort-2.ensures out1 refl))

pub returns : goal.returns
returns c = let p = c.row_place-at.result in
    let small = outputs_small (kind_of (get_or c.args.graph.now p 0)) in
    one_node_marked _ _ _ c.requires.1 c.row_place-at.ensures _ _ (omega arith) c.outputs_of-outputs.ensures (c.output_sort.ensures out0 refl) (c.output_sort-2.ensures out1 refl) (c.mark.ensures ∙ if_there (λ t. marked c.args.sorts.now t c.output_sort.result) (ltb 0 c.outputs_of-outputs.result) c.args.next c.then_some.ensures) (c.mark-2.ensures ∙ if_there (λ t. marked c.mark.new.sorts t c.output_sort-2.result) (ltb 1 c.outputs_of-outputs.result) (c.args.next + 1) c.then_some-2.ensures)
