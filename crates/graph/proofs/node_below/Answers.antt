-- `graph::node_below` meets its contract. Each early return is the first input that is not below W.
-- Assumes nothing.
use Rattle.std.proofs.Common.{refl, sym, ◌∙◌}
use Rattle.graph.specs.Graph.{wire_count}
use Rattle.graph.specs.Said.{below_of}
use Rattle.graph.proofs.Rows.{below_at_lem, below_to_the_last, at_input0, at_input1, at_input2}
use Rattle.graph.proofs.node_below.Goals as goal

pub returns-then-not-below : goal.returns-then-not-below
returns-then-not-below c =
    let b0 = (c.below.ensures ∙ at_input0 (λ t. below_of t (wire_count c.args.graph.now)) c.args.graph.now c.row_place-at.result c.inputs_at.ensures) in
    sym (below_at_lem _ _ _ c.requires.1 c.row_place-at.ensures _ ∙ simp (← b0, c.if-not-below.true))

pub returns-then-not-below-2 : goal.returns-then-not-below-2
returns-then-not-below-2 c =
    let b0 = (c.below.ensures ∙ at_input0 (λ t. below_of t (wire_count c.args.graph.now)) c.args.graph.now c.row_place-at.result c.inputs_at.ensures) in
    let b1 = (c.below-2.ensures ∙ at_input1 (λ t. below_of t (wire_count c.args.graph.now)) c.args.graph.now c.row_place-at.result c.inputs_at.ensures) in
    sym (below_at_lem _ _ _ c.requires.1 c.row_place-at.ensures _ ∙ simp (← b0, c.if-not-below.false, ← b1, c.if-not-below-2.true))

pub returns : goal.returns
returns c =
    below_to_the_last _ _ _ c.requires.1 c.row_place-at.ensures _ refl
    (c.below.ensures ∙ at_input0 (λ t. below_of t (wire_count c.args.graph.now)) c.args.graph.now c.row_place-at.result c.inputs_at.ensures) c.if-not-below.false (c.below-2.ensures ∙ at_input1 (λ t. below_of t (wire_count c.args.graph.now)) c.args.graph.now c.row_place-at.result c.inputs_at.ensures) c.if-not-below-2.false (c.below-3.ensures ∙ at_input2 (λ t. below_of t (wire_count c.args.graph.now)) c.args.graph.now c.row_place-at.result c.inputs_at.ensures)
