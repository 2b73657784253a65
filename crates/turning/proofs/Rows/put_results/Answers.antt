use Rattle.turning.proofs.Beginning.{none_counted, one_counted, one_result, no_results_left, result_inside, results_start}
use Rattle.table.specs.Counted.{rows_few}
use mathlib.Core.Path.{refl, ◌∙◌, sym}
use native.Mathlib.Omega.{arith}
use Rattle.turning.proofs.Rows.put_results.Goals as goal

pub loop-r-init : goal.loop-r-init
loop-r-init c = (none_counted _ _, refl, results_start _ _ _ _)

pub put_result-k-requires : goal.put_result-k-requires
put_result-k-requires c = (c.loop-r-test.true, (let f = rows_few 8 c.args.self.now.table.now c.loop-r.r in omega (arith, c.loop-r.invariant.0, c.loop-r-test.true, c.args.self.now.passes.few)), λ e. result_inside _ _ _ _ _ c.loop-r-test.true c.loop-r.invariant.0 (omega (arith, c.requires, c.loop-r.invariant.1)) e)

pub loop-r-preserved : goal.loop-r-preserved
loop-r-preserved c = (one_counted _ _ _ _ _ _ c.loop-r.invariant.0 refl c.put_result-k.ensures.0, c.put_result-k.auto.results ∙ c.loop-r.invariant.1, one_result _ _ _ _ _ _ _ _ c.loop-r-test.true c.put_result-k.ensures.0 c.put_result-k.ensures.1 ∙ c.loop-r.invariant.2)

pub returns : goal.returns
returns c = sym (no_results_left _ _ _ _ _ _ c.loop-r-test.false) ∙ c.loop-r.invariant.2
