-- `run::turn_of` meets its contract. Assumes nothing.
use Rattle.run.proofs.Turns.{turn_spent, turn_made_lem, turn_missed}
use Rattle.machine.proofs.Answers.{placed}
use native.Mathlib.Omega.{arith}
use Rattle.run.proofs.turn_of.Goals as goal

pub returns-then-left-eq0 : goal.returns-then-left-eq0
returns-then-left-eq0 c = record { turn = (turn_spent _ _ _ c.if-left-eq0.true, omega arith) }

pub fire_node-requires : goal.fire_node-requires
fire_node-requires c = placed _ _ _ c.requires.0.graph c.requires.0.size c.requires.1

pub returns-then-fire_node : goal.returns-then-fire_node
returns-then-fire_node c = record { turn = (turn_made_lem _ _ _ c.if-left-eq0.false c.fire_node.ensures.fired c.if-fire_node.true, omega arith) }

pub returns : goal.returns
returns c = record { turn = (turn_missed _ _ _ c.fire_node.ensures.fired c.if-fire_node.false, omega arith) }
