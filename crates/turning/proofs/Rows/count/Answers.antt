use Rattle.turning.proofs.Beginning.{none_counted, one_counted, all_counted}
use Rattle.table.specs.Kinds.{kind_number}
use Rattle.table.specs.Counted.{rows_few}
use native.Mathlib.Omega.{arith}
use Rattle.turning.proofs.Rows.count.Goals as goal

pub loop-r-init : goal.loop-r-init
loop-r-init c = none_counted _ _

pub one_more-count-requires : goal.one_more-count-requires
one_more-count-requires c = let f = rows_few (kind_number c.args.kind) c.args.self.now.table.now c.loop-r.r in omega (arith, c.loop-r-test.true, c.args.self.now.passes.few, c.loop-r.invariant)

pub loop-r-preserved : goal.loop-r-preserved
loop-r-preserved c = one_counted _ _ _ _ _ _ c.loop-r.invariant c.kind.ensures c.one_more-count.ensures

pub returns : goal.returns
returns c = all_counted _ _ _ _ _ (omega arith) (omega arith) c.loop-r.invariant
