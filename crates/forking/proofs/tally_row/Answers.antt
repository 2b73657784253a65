-- `forking::tally_row` meets its contract. Three uses, in input order.
-- Assumes nothing.
use Prim.Native.Nat.{◌+◌, ◌*◌}
use native.Mathlib.Omega.{arith}
use lib.ListN.{get_or}
use Rattle.forking.proofs.Tallies.{looser, one_more_below, three_uses}
use Rattle.forking.proofs.tally_row.Goals as goal

pub tally-requires : goal.tally-requires
tally-requires c = (c.requires.1.in0, looser c.requires.2 (omega arith))

pub tally-requires-2 : goal.tally-requires-2
tally-requires-2 c = let a = c.args in (c.requires.1.in1, one_more_below {n = 40000} (get_or a.rows.now (7 * a.i + 3) 0) c.requires.2 (omega arith) c.tally.ensures)

pub tally-requires-3 : goal.tally-requires-3
tally-requires-3 c = let a = c.args in let r = a.rows.now in let i = a.i in (c.requires.1.in2, one_more_below {n = 40000} (get_or r (7 * i + 4) 0) (one_more_below {n = 30001} (get_or r (7 * i + 3) 0) c.requires.2 (omega arith) c.tally.ensures) (omega arith) c.tally-2.ensures)

pub returns : goal.returns
returns c = let a = c.args in let r = a.rows.now in let i = a.i in three_uses _ (get_or r (7 * i + 3) 0) (get_or r (7 * i + 4) 0) (get_or r (7 * i + 5) 0) c.tally.ensures c.tally-2.ensures c.tally-3.ensures
