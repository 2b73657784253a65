-- `step::carry` meets its contract. Arm by arm: the phase, then `d`, fix the program. Assumes nothing.
use mathlib.Core.Path.{refl}
use Rattle.step.specs.Machines.{carry}
use Rattle.step.specs.Shown.{decided}
use Rattle.step.proofs.Laws.{past_2, true_flag}
use Rattle.step.proofs.carry.Goals as goal

pub returns-in-0 : goal.returns-in-0
unfolding decided
returns-in-0 c = record { decision = simp (c.in-0.is, c.in_phase.ensures.record, c.fires.ensures.effect) }

pub returns-in-0-d : goal.returns-in-0-d
unfolding decided
returns-in-0-d c = record { decision = simp (c.in-1.is, c.in-0-d.is, c.in_phase-in-0-d.ensures.record, c.fires-in-0-d.ensures.effect) }

pub returns-in_default-d : goal.returns-in_default-d
unfolding decided
returns-in_default-d c = record { decision = let q = true_flag c.in_default-d.in_default-d-own.rest.1 in simp (c.in-1.is, q.1, c.in_phase-in_default-d.ensures.record, c.fires-in_default-d.ensures.effect) }

pub returns-in-2 : goal.returns-in-2
unfolding decided
returns-in-2 c = record { decision = simp (c.in-2.is, c.in_phase-in-2.ensures.record, c.fires-in-2.ensures.effect) }

pub returns-in_default : goal.returns-in_default
unfolding decided
returns-in_default c = record { decision = rw (past_2 carry (λ p. refl) _ c.in_default.in_default-own.rest.0.0.1 c.in_default.in_default-own.rest.0.1 c.in_default.in_default-own.rest.1) }
