-- `counting::note_carried` meets its contract. After r rows the loops before r are noted.
-- Assumes nothing.
use Rattle.std.proofs.Common.{refl, arith}
use Rattle.counting.proofs.Counting.{one_noted, all_noted}
use Rattle.counting.proofs.note_carried.Goals as goal

pub loop-r-init : goal.loop-r-init
loop-r-init c = record { long = refl; count = λ L l k. absurd (omega arith) }

pub loop-r-preserved : goal.loop-r-preserved
loop-r-preserved c = let l = c.loop-r in let f = c.args.notes.now.passed.passing.few in let t = c.loop-r-test.true in one_noted _ l.r _ l.counts l.invariant (omega arith) c.carried_of.ensures

pub returns : goal.returns
returns c = let P = c.args.notes.now.passed in let l = c.loop-r in all_noted P.words.now P.rows l.r l.counts P.passing.rows (omega arith) l.invariant
