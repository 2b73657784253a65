-- `step::gate` meets its contract. Arm by arm: the phase, then the condition, fix the program. Assumes nothing.
use mathlib.Core.Path.{refl}
use Rattle.step.specs.Machines.{gate}
use Rattle.step.specs.Shown.{decided}
use Rattle.step.proofs.Laws.{past_1, true_flag}
use Rattle.step.proofs.gate.Goals as goal

pub returns-in-0-condition : goal.returns-in-0-condition
unfolding decided
returns-in-0-condition c = record { decision = simp (c.in-0.is, c.in-0-condition.is, c.fires.ensures.effect) }

pub returns-in_default-condition : goal.returns-in_default-condition
unfolding decided
returns-in_default-condition c = record { decision = let q = true_flag c.in_default-condition.in_default-condition-own.rest.1 in simp (c.in-0.is, q.1, c.in_phase.ensures.record, c.fires-in_default-condition.ensures.effect) }

pub returns-in-0-condition-2 : goal.returns-in-0-condition-2
unfolding decided
returns-in-0-condition-2 c = record { decision = simp (c.in-1.is, c.in-0-condition-2.is, c.fires-in-0-condition-2.ensures.effect) }

pub returns-in_default-condition-2 : goal.returns-in_default-condition-2
unfolding decided
returns-in_default-condition-2 c = record { decision = let q = true_flag c.in_default-condition-2.in_default-condition-2-own.rest.1 in simp (c.in-1.is, q.1, c.in_phase-in_default-condition-2.ensures.record, c.fires-in_default-condition-2.ensures.effect) }

pub returns-in_default : goal.returns-in_default
unfolding decided
returns-in_default c = record { decision = rw (past_1 gate (λ p. refl) _ c.in_default.in_default-own.rest.0.1 c.in_default.in_default-own.rest.1) }
