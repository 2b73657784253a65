-- `run::sweep_turn` meets its contract: a node that waits is not ready, so its turn changes nothing. Assumes nothing.
use mathlib.Core.Path.{sym, ◌∙◌}
use native.Mathlib.Omega.{arith}
use Rattle.firing.proofs.NotReady.{waiting_is_not_ready}
use Rattle.machine.proofs.Answers.{placed}
use Rattle.run.proofs.Turns.{turn_waited}
use Rattle.run.proofs.sweep_turn.Goals as goal

pub waits-requires : goal.waits-requires
waits-requires c = placed _ _ _ c.requires.0.graph c.requires.0.size c.requires.1

pub returns-then-waits : goal.returns-then-waits
returns-then-waits c = record { turn = (turn_waited _ _ _ (waiting_is_not_ready _ _ _ (sym c.waits.ensures.waits ∙ c.if-waits.true)), omega arith) }
