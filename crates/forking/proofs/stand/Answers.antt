-- `forking::stand` meets its contract. The leg by the uses seen so far, of which there is then one more.
-- Assumes nothing.
use mathlib.Core.Path.{refl}
use native.Mathlib.Omega.{arith}
use Rattle.forking.proofs.Tallies.{placed, unused, stands_nowhere, stands_here}
use Rattle.forking.proofs.stand.Goals as goal

pub returns-then-x-eq-ABSENT : goal.returns-then-x-eq-ABSENT
returns-then-x-eq-ABSENT c = (stands_nowhere _ _ _ c.if-x-eq-ABSENT.true, unused _ c.if-x-eq-ABSENT.true)

pub leg-wire-requires : goal.leg-wire-requires
leg-wire-requires c = let h = placed c.requires.0 c.if-x-eq-ABSENT.false in
    let l = c.args.x in let U = c.args.uses.now in
    (U.low.low l (omega arith), U.few.low l (omega arith), c.requires.1.low l (omega arith))

pub tally-requires : goal.tally-requires
tally-requires c = (c.requires.0, c.requires.1)

pub returns : goal.returns
returns c = (stands_here _ _ _ refl c.if-x-eq-ABSENT.false c.leg-wire.ensures, c.tally.ensures)
