-- `run::phases_zero` meets its contract. Assumes nothing.
use Rattle.run.proofs.Ends.{phase_zero, phase_not}
use Rattle.run.specs.Entry.{at_rest}
use Rattle.state.specs.Run.{phases_zero}
use Rattle.graph.specs.Accepted.{accepted}
use Rattle.graph.specs.Below.{every_go, every_stop, every_end}
use native.Mathlib.Omega.{arith}
use mathlib.Core.Path.{refl, sym, ◌∙◌}
use Rattle.run.proofs.Reached.phases_zero.Goals as goal

pub bounds-self-0 : goal.bounds-self-0
bounds-self-0 c = let a = (accepted _ c.args.self.now.accepted).shape in omega arith

pub bounds-self-1 : goal.bounds-self-1
bounds-self-1 c = let a = (accepted _ c.args.self.now.accepted).shape in omega arith

pub loop-i-preserved : goal.loop-i-preserved
loop-i-preserved c = (omega arith, c.loop-i.invariant.1, sym (every_go (at_rest c.args.self.now.graph.now c.args.self.now.state.now) _ _ c.loop-i-test.true refl (phase_zero c.args.self.now.graph.now c.args.self.now.state.now c.loop-i.i c.wide-wires.ensures.0 c.if-self-wires-ne0.false)) ∙ c.loop-i.invariant.2)

pub returns-then-self-wires-ne0 : goal.returns-then-self-wires-ne0
unfolding phases_zero
returns-then-self-wires-ne0 c = record { answer = sym (sym c.loop-i.invariant.2 ∙ every_stop (at_rest c.args.self.now.graph.now c.args.self.now.state.now) _ _ c.loop-i-test.true refl (phase_not c.args.self.now.graph.now c.args.self.now.state.now c.loop-i.i c.wide-wires.ensures.0 c.if-self-wires-ne0.true)) }

pub returns : goal.returns
unfolding phases_zero
returns c = record { answer = sym (every_end _ _ _ c.loop-i-test.false) ∙ c.loop-i.invariant.2 }
