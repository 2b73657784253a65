-- `run::follow_order` meets its contract. Assumes nothing.
use Rattle.run.proofs.Turns.{follow_go, follow_end}
use native.Mathlib.Omega.{arith}
use mathlib.Core.Path.{sym, ◌∙◌}
use Rattle.run.proofs.follow_order.Goals as goal

pub loop-node-preserved : goal.loop-node-preserved
loop-node-preserved c = (omega arith, c.turn_of-left.auto.state ∙ c.loop-node.invariant.1, omega arith, rw (c.turn_of-left.ensures.turn.0, c.wide.ensures.0) (sym (follow_go _ _ _ _ c.loop-node-test.true) ∙ c.loop-node.invariant.3))

pub returns : goal.returns
returns c = record { followed = (sym (follow_end _ _ _ _ c.loop-node-test.false) ∙ c.loop-node.invariant.3, omega arith) }
