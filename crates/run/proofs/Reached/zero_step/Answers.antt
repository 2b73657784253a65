-- `run::zero_step` meets its contract. Assumes nothing.
use Rattle.run.proofs.Ends.{first_found, first_later, first_none}
use Rattle.state.specs.Run.{zero_step_at}
use Rattle.graph.specs.Graph.{node_count}
use mathlib.Core.Path.{◌≡◌}
use Rattle.graph.specs.Accepted.{accepted}
use native.Mathlib.Omega.{arith}
use mathlib.Core.Path.{sym, ap, ◌∙◌}
use Rattle.run.proofs.Reached.zero_step.Goals as goal

pub bounds-self-0 : goal.bounds-self-0
bounds-self-0 c = let a = (accepted _ c.args.self.now.accepted).shape in omega arith

pub returns-then-zero_step_at : goal.returns-then-zero_step_at
returns-then-zero_step_at c = record { answer = sym (sym c.loop-node.invariant.1 ∙ first_found _ _ _ c.loop-node-test.true (c.zero_step_at.ensures.answer ∙ ap (zero_step_at _ _) c.wide.ensures.0) c.if-zero_step_at.true); below = c.loop-node-test.true }

pub loop-node-preserved : goal.loop-node-preserved
loop-node-preserved c = (omega arith, sym (first_later _ _ _ c.loop-node-test.true (c.zero_step_at.ensures.answer ∙ ap (zero_step_at _ _) c.wide.ensures.0) c.if-zero_step_at.false) ∙ c.loop-node.invariant.1)

pub returns : goal.returns
returns c = record { answer = let e : node_count c.args.self.now.graph.now ≡ c.loop-node.node = omega arith in e ∙ sym (sym c.loop-node.invariant.1 ∙ first_none _ _ _ c.loop-node-test.false); below = tt }
