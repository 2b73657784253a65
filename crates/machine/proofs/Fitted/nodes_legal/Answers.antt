-- `machine::nodes_legal` meets its contract. Assumes nothing.
use Rattle.graph.specs.Accepted.{accepted}
use Rattle.graph.specs.Below.{every_go, every_stop, every_end}
use native.Mathlib.Omega.{arith}
use mathlib.Core.Path.{sym, ◌∙◌}
use Rattle.machine.proofs.Fitted.nodes_legal.Goals as goal

pub loop-i-preserved : goal.loop-i-preserved
loop-i-preserved c = (omega arith, c.loop-i.invariant.1, sym (every_go _ _ _ c.loop-i-test.true c.node_legal.ensures.answer c.if-not-node_legal.false) ∙ c.loop-i.invariant.2)

pub returns-then-not-node_legal : goal.returns-then-not-node_legal
returns-then-not-node_legal c = record { answer = sym (sym c.loop-i.invariant.2 ∙ every_stop _ _ _ c.loop-i-test.true c.node_legal.ensures.answer c.if-not-node_legal.true) }

pub returns : goal.returns
returns c = record { answer = sym (every_end _ _ _ c.loop-i-test.false) ∙ c.loop-i.invariant.2 }

pub bounds-self-0 : goal.bounds-self-0
bounds-self-0 c = let a = (accepted _ c.args.self.now.accepted).shape in omega arith
