-- `traced::sweep_told` meets its contract: one sweep, told, by the run's rule. Assumes nothing.
use Rattle.run.proofs.Turns.{sweep_go, sweep_end}
use Rattle.graph.specs.Accepted.{accepted}
use native.Mathlib.Nat.{sub-zero}
use native.Mathlib.Omega.{arith}
use mathlib.Core.Path.{refl, sym, ◌∙◌}
use Rattle.traced.proofs.sweep_told.Goals as goal

pub bounds-graph-0 : goal.bounds-graph-0
bounds-graph-0 g c = let a = (accepted _ c.requires.0.graph).shape in omega arith

pub loop-i-init : goal.loop-i-init
loop-i-init g c = (omega arith, refl, refl, omega arith, rw sub-zero refl)

pub turn_of-left-requires : goal.turn_of-left-requires
turn_of-left-requires g c = (record { graph = c.requires.0.graph; size = c.loop-i.invariant.2 ∙ c.requires.0.size }, omega arith, omega arith)

pub loop-i-preserved : goal.loop-i-preserved
loop-i-preserved g c = (omega arith, c.loop-i.invariant.1, c.turn_of-left.auto.state ∙ c.loop-i.invariant.2, omega arith, rw c.turn_of-left.ensures.turn.0 (sym (sweep_go _ _ _ _ c.loop-i-test.true) ∙ c.loop-i.invariant.4))

pub shape_of-state : goal.shape_of-state
shape_of-state g c = c.loop-i.invariant.2

pub returns : goal.returns
returns g c = record { swept = (sym (sweep_end _ _ _ _ c.loop-i-test.false) ∙ c.loop-i.invariant.4, omega arith) }
