-- `run::order_below` meets its contract. Assumes nothing.
use Rattle.run.specs.Entry.{order_below}
use borrow.Author.Tests.{lt-ltb, le-ltb}
use Rattle.graph.specs.Accepted.{accepted}
use Rattle.graph.specs.Below.{every_go, every_stop, every_end}
use native.Mathlib.Omega.{arith}
use mathlib.Core.Path.{refl, sym, ◌∙◌}
use Rattle.run.proofs.order_below.Goals as goal

pub bounds-graph-0 : goal.bounds-graph-0
bounds-graph-0 c = let a = (accepted _ c.requires).shape in omega arith

pub loop-node-preserved : goal.loop-node-preserved
loop-node-preserved c = (omega arith, c.loop-node.invariant.1, sym (every_go _ _ _ c.loop-node-test.true refl (lt-ltb _ _ c.if-nodes-node.false)) ∙ c.loop-node.invariant.2)

pub returns-then-nodes-node : goal.returns-then-nodes-node
unfolding order_below
returns-then-nodes-node c = record { answer = sym (sym c.loop-node.invariant.2 ∙ every_stop _ _ _ c.loop-node-test.true refl (le-ltb _ _ c.if-nodes-node.true)) }

pub returns : goal.returns
unfolding order_below
returns c = record { answer = sym (every_end _ _ _ c.loop-node-test.false) ∙ c.loop-node.invariant.2 }
