-- `traced::turn_of` meets its contract: one turn of the run's rule, told. Assumes nothing.
use Rattle.run.proofs.Turns.{turn_spent, turn_made_lem, turn_missed}
use Rattle.machine.proofs.Answers.{placed}
use native.Mathlib.Omega.{arith}
use mathlib.Core.Path.{sym}
use Rattle.traced.proofs.turn_of.Goals as goal

pub returns-then-left-eq0 : goal.returns-then-left-eq0
returns-then-left-eq0 g c = record { turn = (turn_spent _ _ _ c.if-left-eq0.true, omega arith) }

pub fire_node-requires : goal.fire_node-requires
fire_node-requires g c = rw c.wide.ensures.0 (placed _ _ _ c.requires.0.graph c.requires.0.size c.requires.1)

pub returns-then-fire_node : goal.returns-then-fire_node
returns-then-fire_node g c = record { turn = (rw (sym c.wide.ensures.0) (turn_made_lem _ _ _ c.if-left-eq0.false c.fire_node.ensures.fired c.if-fire_node.true), omega arith) }

pub returns : goal.returns
returns g c = record { turn = (rw (sym c.wide.ensures.0) (turn_missed _ _ _ c.fire_node.ensures.fired c.if-fire_node.false), omega arith) }
