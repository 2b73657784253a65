-- `step::drain` meets its contract. Arm by arm: the phase fixes the program. Assumes nothing.
use mathlib.Core.Path.{refl}
use Rattle.step.specs.Machines.{drain}
use Rattle.step.specs.Shown.{decided}
use Rattle.step.proofs.Laws.{past_0}
use Rattle.step.proofs.drain.Goals as goal

pub returns-in-0 : goal.returns-in-0
unfolding decided
returns-in-0 c = record { decision = λ words. simp (c.in-0.is, c.fires.ensures.effect) }

pub returns-in_default : goal.returns-in_default
unfolding decided
returns-in_default c = record { decision = λ words. rw (past_0 drain (λ p. refl) _ c.in_default.in_default-own.rest.1) }
