-- `traced::follow_told` meets its contract: the caller's list once, told, by the run's rule. Assumes nothing.
use Rattle.run.proofs.Turns.{follow_go, follow_end}
use native.Mathlib.Omega.{arith}
use mathlib.Core.Path.{refl, sym, ◌∙◌}
use Rattle.traced.proofs.follow_told.Goals as goal

pub loop-node-init : goal.loop-node-init
loop-node-init g c = (omega arith, refl, omega arith, refl)

pub turn_of-left-requires : goal.turn_of-left-requires
turn_of-left-requires g c = (record { graph = c.requires.0.graph; size = c.loop-node.invariant.1 ∙ c.requires.0.size }, c.requires.1 c.loop-node.node-index (omega arith), omega arith)

pub loop-node-preserved : goal.loop-node-preserved
loop-node-preserved g c = (omega arith, c.turn_of-left.auto.state ∙ c.loop-node.invariant.1, omega arith, rw c.turn_of-left.ensures.turn.0 (sym (follow_go _ _ _ _ c.loop-node-test.true) ∙ c.loop-node.invariant.3))

pub shape_of-state : goal.shape_of-state
shape_of-state g c = c.loop-node.invariant.1

pub returns : goal.returns
returns g c = record { followed = (sym (follow_end _ _ _ _ c.loop-node-test.false) ∙ c.loop-node.invariant.3, omega arith) }
