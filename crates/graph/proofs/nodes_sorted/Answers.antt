-- `graph::nodes_sorted` meets its contract. The loop follows `every`.
-- Assumes nothing.
use mathlib.Core.Path.{sym, ◌∙◌}
use native.Mathlib.Omega.{arith}
use Rattle.graph.specs.Below.{every_go, every_stop, every_end}
use Rattle.graph.specs.Refusal.{node_is_below}
use Rattle.graph.proofs.nodes_sorted.Goals as goal

pub node_sorted-requires : goal.node_sorted-requires
node_sorted-requires c = (c.requires.0, omega arith, node_is_below _ c.requires.1 _ (omega arith), c.requires.2)

pub loop-i-preserved : goal.loop-i-preserved
loop-i-preserved c = (omega arith, sym (every_go _ _ _ c.loop-i-test.true c.node_sorted.ensures c.if-not-node_sorted.false) ∙ c.loop-i.invariant.1)

pub returns-then-not-node_sorted : goal.returns-then-not-node_sorted
returns-then-not-node_sorted c = sym (every_stop _ _ _ c.loop-i-test.true c.node_sorted.ensures c.if-not-node_sorted.true) ∙ c.loop-i.invariant.1

pub returns : goal.returns
returns c = sym (every_end _ _ _ c.loop-i-test.false) ∙ c.loop-i.invariant.1
