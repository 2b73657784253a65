use Rattle.turning.proofs.Beginning.{none_begun, one_begun, begun_all, none_counted, one_counted}
use Rattle.table.specs.Counted.{rows_few}
use native.Mathlib.Omega.{arith}
use Rattle.turning.proofs.Rows.first_words.Goals as goal

pub loop-r-init : goal.loop-r-init
loop-r-init c = (none_begun _ _, none_counted 0 _)

pub one_more-before-requires : goal.one_more-before-requires
one_more-before-requires c = let f = rows_few 0 c.args.self.now.table.now c.loop-r.r in omega (arith, c.loop-r-test.true, c.args.self.now.passes.few, c.loop-r.invariant.1)

pub loop-r-preserved : goal.loop-r-preserved
loop-r-preserved c = (one_begun _ _ _ _ _ (omega (arith, c.loop-r-test.true, c.args.self.now.passes.few)) c.loop-r.invariant.0 c.first_word.ensures, one_counted 0 _ _ _ _ _ c.loop-r.invariant.1 c.kind.ensures c.one_more-before.ensures)

pub returns : goal.returns
returns c = let P = c.args.self.now.passes in begun_all _ _ _ _ _ P.right P.rows c.requires c.loop-r.auto.r-end c.loop-r-test.false c.loop-r.invariant.0
