-- `run::sweep_once` meets its contract. Assumes nothing.
use Rattle.run.proofs.Turns.{sweep_go, sweep_end}
use Rattle.graph.specs.Accepted.{accepted}
use native.Mathlib.Omega.{arith}
use mathlib.Core.Path.{sym, ◌∙◌}
use Rattle.run.proofs.sweep_once.Goals as goal

pub bounds-graph-0 : goal.bounds-graph-0
bounds-graph-0 c = let a = (accepted _ c.requires.graph).shape in omega arith

pub loop-i-preserved : goal.loop-i-preserved
loop-i-preserved c = (omega arith, c.loop-i.invariant.1, c.sweep_turn-left.auto.state ∙ c.loop-i.invariant.2, omega arith, rw c.sweep_turn-left.ensures.turn.0 (sym (sweep_go _ _ _ _ c.loop-i-test.true) ∙ c.loop-i.invariant.4))

pub returns : goal.returns
returns c = record { swept = (sym (sweep_end _ _ _ _ c.loop-i-test.false) ∙ c.loop-i.invariant.4, omega arith) }
