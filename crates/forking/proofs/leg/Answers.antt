-- `forking::leg` meets its contract. One use has the wire itself; each but the last of several has a fork's first leg, the last one the second leg of the last fork.
-- Assumes nothing.
use Rattle.forking.proofs.Tallies.{leg_whole, leg_first, leg_last}
use Rattle.forking.proofs.leg.Goals as goal

pub returns-then-uses-le1 : goal.returns-then-uses-le1
returns-then-uses-le1 c = leg_whole _ _ _ _ c.if-uses-le1.true

pub returns-then-seen-uses : goal.returns-then-seen-uses
returns-then-seen-uses c = leg_first _ _ _ _ c.if-uses-le1.false c.if-seen-uses.true

pub returns : goal.returns
returns c = leg_last _ _ _ _ c.if-uses-le1.false c.if-seen-uses.false
