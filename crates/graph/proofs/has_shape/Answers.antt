-- `graph::has_shape` meets its contract. Each early return is the first test of the rule that fails.
-- Assumes nothing.
use borrow.Author.Tests.{le-leb, lt-leb}
use Rattle.graph.specs.Refusal.{has_shape}
use Rattle.graph.proofs.has_shape.Goals as goal

pub returns-then-graph-lt4 : goal.returns-then-graph-lt4
unfolding has_shape
returns-then-graph-lt4 c = rw (lt-leb _ _ c.if-graph-lt4.true)

pub returns-then-graph-gt-MOST_NODES : goal.returns-then-graph-gt-MOST_NODES
unfolding has_shape
returns-then-graph-gt-MOST_NODES c = simp (le-leb _ _ c.if-graph-lt4.false, lt-leb _ _ c.if-graph-gt-MOST_NODES.true)

pub returns-then-graph-gt-MOST_WIRES : goal.returns-then-graph-gt-MOST_WIRES
unfolding has_shape
returns-then-graph-gt-MOST_WIRES c = simp (le-leb _ _ c.if-graph-lt4.false, le-leb _ _ c.if-graph-gt-MOST_NODES.false, lt-leb _ _ c.if-graph-gt-MOST_WIRES.true)

pub returns-then-graph-gt-MOST_STARTS : goal.returns-then-graph-gt-MOST_STARTS
unfolding has_shape
returns-then-graph-gt-MOST_STARTS c = simp (le-leb _ _ c.if-graph-lt4.false, le-leb _ _ c.if-graph-gt-MOST_NODES.false, le-leb _ _ c.if-graph-gt-MOST_WIRES.false, lt-leb _ _ c.if-graph-gt-MOST_STARTS.true)

pub returns-then-graph-gt-MOST_RESULTS : goal.returns-then-graph-gt-MOST_RESULTS
unfolding has_shape
returns-then-graph-gt-MOST_RESULTS c = simp (le-leb _ _ c.if-graph-lt4.false, le-leb _ _ c.if-graph-gt-MOST_NODES.false, le-leb _ _ c.if-graph-gt-MOST_WIRES.false, le-leb _ _ c.if-graph-gt-MOST_STARTS.false, lt-leb _ _ c.if-graph-gt-MOST_RESULTS.true)

pub returns : goal.returns
unfolding has_shape
returns c = simp (le-leb _ _ c.if-graph-lt4.false, le-leb _ _ c.if-graph-gt-MOST_NODES.false, le-leb _ _ c.if-graph-gt-MOST_WIRES.false, le-leb _ _ c.if-graph-gt-MOST_STARTS.false, le-leb _ _ c.if-graph-gt-MOST_RESULTS.false, c.wide-starts.ensures.0, c.wide-results.ensures.0, c.wide-nodes.ensures.0)
