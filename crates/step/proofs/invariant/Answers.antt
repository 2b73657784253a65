-- `step::invariant` meets its contract. Arm by arm: the phase, then `d`, fix the program. Assumes nothing.
use mathlib.Core.Path.{refl}
use Rattle.step.specs.Machines.{invariant}
use Rattle.step.specs.Shown.{decided}
use Rattle.step.proofs.Laws.{past_1, true_flag}
use Rattle.step.proofs.invariant.Goals as goal

pub returns-in-0 : goal.returns-in-0
unfolding decided
returns-in-0 c = record { decision = simp (c.in-0.is, c.hold.ensures.record, c.fires.ensures.effect) }

pub returns-in-0-d : goal.returns-in-0-d
unfolding decided
returns-in-0-d c = record { decision = simp (c.in-1.is, c.in-0-d.is, c.fires-in-0-d.ensures.effect) }

pub returns-in_default-d : goal.returns-in_default-d
unfolding decided
returns-in_default-d c = record { decision = let q = true_flag c.in_default-d.in_default-d-own.rest.1 in simp (c.in-1.is, q.1, c.hold-in_default-d.ensures.record, c.fires-in_default-d.ensures.effect) }

pub returns-in_default : goal.returns-in_default
unfolding decided
returns-in_default c = record { decision = rw (past_1 (invariant _) (λ p. refl) _ c.in_default.in_default-own.rest.0.1 c.in_default.in_default-own.rest.1) }
