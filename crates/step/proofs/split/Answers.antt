-- `step::split` meets its contract. Arm by arm: the phase, then the flag, fix the program. Assumes nothing.
use mathlib.Core.Path.{refl}
use Rattle.step.specs.Machines.{split}
use Rattle.step.specs.Shown.{decided}
use Rattle.step.proofs.Laws.{past_0, true_flag}
use Rattle.step.proofs.split.Goals as goal

pub returns-in-0-flag : goal.returns-in-0-flag
unfolding decided
returns-in-0-flag c = record { decision = simp (c.in-0.is, c.in-0-flag.is, c.fires.ensures.effect) }

pub returns-in_default-flag : goal.returns-in_default-flag
unfolding decided
returns-in_default-flag c = record { decision = let q = true_flag c.in_default-flag.in_default-flag-own.rest.1 in simp (c.in-0.is, q.1, c.fires-in_default-flag.ensures.effect) }

pub returns-in_default : goal.returns-in_default
unfolding decided
returns-in_default c = record { decision = rw (past_0 split (λ p. refl) _ c.in_default.in_default-own.rest.1) }
