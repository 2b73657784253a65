-- `run::none_ready` meets its contract. Assumes nothing.
use Rattle.run.proofs.Ends.{not_is, not_isnt}
use Rattle.machine.proofs.Answers.{placed}
use Rattle.graph.specs.Accepted.{accepted}
use Rattle.graph.specs.Below.{every_go, every_stop, every_end}
use native.Mathlib.Omega.{arith}
use mathlib.Core.Path.{refl, sym, ◌∙◌}
use Rattle.run.proofs.Reached.none_ready.Goals as goal

pub bounds-self-0 : goal.bounds-self-0
bounds-self-0 c = let a = (accepted _ c.args.self.now.accepted).shape in omega arith

pub node_ready-requires : goal.node_ready-requires
node_ready-requires c = placed _ _ _ c.args.self.now.accepted c.args.self.now.whole (omega arith)

pub returns-then-node_ready : goal.returns-then-node_ready
returns-then-node_ready c = record { answer = sym (sym c.loop-i.invariant.2 ∙ every_stop _ _ _ c.loop-i-test.true refl (not_is c.node_ready.ensures.ready c.if-node_ready.true)) }

pub loop-i-preserved : goal.loop-i-preserved
loop-i-preserved c = (omega arith, c.loop-i.invariant.1, sym (every_go _ _ _ c.loop-i-test.true refl (not_isnt c.node_ready.ensures.ready c.if-node_ready.false)) ∙ c.loop-i.invariant.2)

pub returns : goal.returns
returns c = record { answer = sym (every_end _ _ _ c.loop-i-test.false) ∙ c.loop-i.invariant.2 }
