-- `graph::nodes_below` meets its contract. The loop follows `every`.
-- Assumes nothing.
use mathlib.Core.Path.{sym, ◌∙◌}
use native.Mathlib.Omega.{arith}
use Rattle.graph.specs.Below.{every_go, every_stop, every_end}
use Rattle.graph.proofs.nodes_below.Goals as goal

pub loop-i-preserved : goal.loop-i-preserved
loop-i-preserved c = (omega arith, sym (every_go _ _ _ c.loop-i-test.true c.node_below.ensures c.if-not-node_below.false) ∙ c.loop-i.invariant.1)

pub returns-then-not-node_below : goal.returns-then-not-node_below
returns-then-not-node_below c = sym (every_stop _ _ _ c.loop-i-test.true c.node_below.ensures c.if-not-node_below.true) ∙ c.loop-i.invariant.1

pub returns : goal.returns
returns c = sym (every_end _ _ _ c.loop-i-test.false) ∙ c.loop-i.invariant.1
