-- `step::stream` meets its contract. Arm by arm: the phase, then the step or the condition, fix the program. Assumes nothing.
use mathlib.Core.Path.{refl}
use Rattle.step.specs.Machines.{stream}
use Rattle.step.specs.Shown.{decided}
use Rattle.step.proofs.Laws.{past_1, true_flag}
use Rattle.step.proofs.stream.Goals as goal

pub returns-in-0-step : goal.returns-in-0-step
unfolding decided
returns-in-0-step c = record { decision = simp (c.in-0.is, c.in-0-step.is) }

pub returns-in_default-step : goal.returns-in_default-step
unfolding decided
returns-in_default-step c = record { decision = let q = true_flag c.in_default-step.in_default-step-own.rest.1 in simp (c.in-0.is, q.1, c.hold.ensures.record, c.fires.ensures.effect) }

pub returns-in-0-condition : goal.returns-in-0-condition
unfolding decided
returns-in-0-condition c = record { decision = simp (c.in-1.is, ← c.condition.ensures.answer, c.in-0-condition.is, c.fires-in-0-condition.ensures.effect) }

pub returns-in_default-condition : goal.returns-in_default-condition
unfolding decided
returns-in_default-condition c = record { decision = let q = true_flag c.in_default-condition.in_default-condition-own.rest.1 in simp (c.in-1.is, ← c.condition.ensures.answer, q.1, c.update-index.ensures.answer, c.hold-in_default-condition.ensures.record, c.fires-in_default-condition.ensures.effect) }

pub returns-in_default : goal.returns-in_default
unfolding decided
returns-in_default c = record { decision = rw (past_1 (stream _ _) (λ p. refl) _ c.in_default.in_default-own.rest.0.1 c.in_default.in_default-own.rest.1) }
