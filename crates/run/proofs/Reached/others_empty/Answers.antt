-- `run::others_empty` meets its contract. Assumes nothing.
use Rattle.run.proofs.Ends.{other_is}
use Rattle.run.specs.Entry.{other_empty}
use Rattle.state.specs.Run.{others_empty}
use Rattle.graph.specs.Accepted.{passed}
use Rattle.graph.specs.Accepted.{accepted}
use Rattle.graph.specs.Below.{every_go, every_stop, every_end}
use native.Mathlib.Omega.{arith}
use mathlib.Core.Path.{sym, ◌∙◌}
use Rattle.run.proofs.Reached.others_empty.Goals as goal

pub count_results-requires : goal.count_results-requires
count_results-requires c = ((accepted _ c.args.self.now.accepted).shape, (passed _ c.args.self.now.accepted).below)

pub bounds-self-1 : goal.bounds-self-1
bounds-self-1 c = let a = (accepted _ c.args.self.now.accepted).shape in omega arith

pub bounds-marks-w : goal.bounds-marks-w
bounds-marks-w c = let a = (accepted _ c.args.self.now.accepted).shape in omega arith

pub loop-w-preserved : goal.loop-w-preserved
loop-w-preserved c = (omega arith, c.loop-w.invariant.1, sym (every_go (other_empty c.args.self.now.graph.now c.args.self.now.state.now) _ _ c.loop-w-test.true (other_is c.args.self.now.graph.now c.args.self.now.state.now c.loop-w.w (let a = (accepted _ c.args.self.now.accepted).shape in omega arith) c.count_results.ensures c.rest_empty.ensures.answer) c.if-not-rest_empty.false) ∙ c.loop-w.invariant.2)

pub returns-then-not-rest_empty : goal.returns-then-not-rest_empty
unfolding others_empty
returns-then-not-rest_empty c = record { answer = sym (sym c.loop-w.invariant.2 ∙ every_stop (other_empty c.args.self.now.graph.now c.args.self.now.state.now) _ _ c.loop-w-test.true (other_is c.args.self.now.graph.now c.args.self.now.state.now c.loop-w.w (let a = (accepted _ c.args.self.now.accepted).shape in omega arith) c.count_results.ensures c.rest_empty.ensures.answer) c.if-not-rest_empty.true) }

pub returns : goal.returns
unfolding others_empty
returns c = record { answer = sym (every_end _ _ _ c.loop-w-test.false) ∙ c.loop-w.invariant.2 }
