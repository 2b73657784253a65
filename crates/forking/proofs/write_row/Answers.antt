-- `forking::write_row` meets its contract. Seven words: the inputs' legs in input order, the rest as it was laid down.
-- Assumes nothing.
use Prim.Native.Nat.{◌+◌, ◌*◌}
use native.Mathlib.Omega.{arith}
use lib.ListN.{get_or}
use Rattle.forking.proofs.Words.{row_written}
use Rattle.forking.proofs.Tallies.{looser, one_more_below, three_uses}
use Rattle.forking.proofs.write_row.Goals as goal

pub stand-in0-requires : goal.stand-in0-requires
stand-in0-requires c = (c.requires.1.in0, looser c.requires.2 (omega arith))

pub stand-in1-requires : goal.stand-in1-requires
stand-in1-requires c = let a = c.args in (c.requires.1.in1, one_more_below {n = 40000} (get_or a.rows.now (7 * a.i + 3) 0) c.requires.2 (omega arith) c.stand-in0.ensures.1)

pub stand-in2-requires : goal.stand-in2-requires
stand-in2-requires c = let a = c.args in let r = a.rows.now in let i = a.i in (c.requires.1.in2, one_more_below {n = 40000} (get_or r (7 * i + 4) 0) (one_more_below {n = 30001} (get_or r (7 * i + 3) 0) c.requires.2 (omega arith) c.stand-in0.ensures.1) (omega arith) c.stand-in1.ensures.1)

pub returns : goal.returns
returns c = let a = c.args in let r = a.rows.now in let i = a.i in (
  three_uses a.seen.now (get_or r (7 * i + 3) 0) (get_or r (7 * i + 4) 0) (get_or r (7 * i + 5) 0) c.stand-in0.ensures.1 c.stand-in1.ensures.1 c.stand-in2.ensures.1,
  row_written _ _ r a.seen.now i a.graph.now a.at c.stand-in0.ensures.0 c.stand-in0.ensures.1 c.stand-in1.ensures.0 c.stand-in1.ensures.1 c.stand-in2.ensures.0 c.three.ensures c.four.ensures,
)
