-- `forking::tally` meets its contract. One place grows by one; X has no place.
-- Assumes nothing.
use mathlib.Core.Path.{refl}
use native.Mathlib.Omega.{arith}
use Rattle.forking.proofs.Tallies.{placed, used, unused}
use Rattle.forking.proofs.tally.Goals as goal

pub bounds-seen-w : goal.bounds-seen-w
bounds-seen-w c = let h = placed c.requires.0 c.if-x-ne-ABSENT.true in omega arith

pub overflow_add-seen : goal.overflow_add-seen
overflow_add-seen c = let h = placed c.requires.0 c.if-x-ne-ABSENT.true in omega (arith, c.requires.1.low c.args.x (omega arith))

pub bounds-seen-w-then-x-ne-ABSENT : goal.bounds-seen-w-then-x-ne-ABSENT
bounds-seen-w-then-x-ne-ABSENT c = let h = placed c.requires.0 c.if-x-ne-ABSENT.true in omega arith

pub returns-then-x-ne-ABSENT : goal.returns-then-x-ne-ABSENT
returns-then-x-ne-ABSENT c = used _ refl c.if-x-ne-ABSENT.true

pub returns-else-x-ne-ABSENT : goal.returns-else-x-ne-ABSENT
returns-else-x-ne-ABSENT c = unused _ c.if-x-ne-ABSENT.false
