-- `graph::node_right` meets its contract. Each early return is the first test of the row that fails; the tests are read by columns (`Rows`).
-- Assumes nothing.
use mathlib.Core.Path.{sym, ◌∙◌}
use borrow.Author.Tests.{lt-ltb, le-ltb}
use Rattle.graph.proofs.Rows.{right_to_the_last, right_at}
use Rattle.graph.proofs.node_right.Goals as goal

pub returns-then-codes_of-graph : goal.returns-then-codes_of-graph
returns-then-codes_of-graph c = sym (right_at _ _ _ c.requires.1 c.row_place-at.ensures _ ∙ rw (← c.codes_of.ensures, le-ltb _ _ c.if-codes_of-graph.true))

pub returns-then-sorts_of-graph : goal.returns-then-sorts_of-graph
returns-then-sorts_of-graph c = sym (right_at _ _ _ c.requires.1 c.row_place-at.ensures _ ∙ simp (← c.codes_of.ensures, lt-ltb _ _ c.if-codes_of-graph.false, ← c.sorts_of.ensures, le-ltb _ _ c.if-sorts_of-graph.true))

pub returns-then-not-spare : goal.returns-then-not-spare
returns-then-not-spare c = sym (right_at _ _ _ c.requires.1 c.row_place-at.ensures _ ∙ simp (← c.codes_of.ensures, lt-ltb _ _ c.if-codes_of-graph.false, ← c.sorts_of.ensures, lt-ltb _ _ c.if-sorts_of-graph.false, ← c.inputs_of-inputs.ensures, ← c.spare.ensures, c.if-not-spare.true))

pub returns-then-not-spare-2 : goal.returns-then-not-spare-2
returns-then-not-spare-2 c = sym (right_at _ _ _ c.requires.1 c.row_place-at.ensures _ ∙ simp (← c.codes_of.ensures, lt-ltb _ _ c.if-codes_of-graph.false, ← c.sorts_of.ensures, lt-ltb _ _ c.if-sorts_of-graph.false, ← c.inputs_of-inputs.ensures, ← c.spare.ensures, c.if-not-spare.false, ← c.spare-2.ensures, c.if-not-spare-2.true))

pub returns-then-not-spare-3 : goal.returns-then-not-spare-3
returns-then-not-spare-3 c = sym (right_at _ _ _ c.requires.1 c.row_place-at.ensures _ ∙ simp (← c.codes_of.ensures, lt-ltb _ _ c.if-codes_of-graph.false, ← c.sorts_of.ensures, lt-ltb _ _ c.if-sorts_of-graph.false, ← c.inputs_of-inputs.ensures, ← c.spare.ensures, c.if-not-spare.false, ← c.spare-2.ensures, c.if-not-spare-2.false, ← c.spare-3.ensures, c.if-not-spare-3.true))

pub returns : goal.returns
returns c = right_to_the_last _ _ _ c.requires.1 c.row_place-at.ensures _
    c.codes_of.ensures c.if-codes_of-graph.false
    c.sorts_of.ensures c.if-sorts_of-graph.false
    c.inputs_of-inputs.ensures
    c.spare.ensures c.if-not-spare.false
    c.spare-2.ensures c.if-not-spare-2.false
    c.spare-3.ensures c.if-not-spare-3.false
    c.first_output.ensures
