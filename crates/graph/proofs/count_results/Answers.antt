-- `graph::count_results` meets its contract. The table after k results holds their reads.
-- Assumes nothing.
use mathlib.Core.Path.{refl}
use native.Mathlib.Omega.{arith}
use Rattle.graph.specs.Below.{joined}
use Rattle.graph.specs.Counted.{counted}
use Rattle.graph.specs.Refusal.{result_is_below}
use Rattle.graph.proofs.Readers.{one_result}
use Rattle.graph.proofs.count_results.Goals as goal

pub loop-k-init : goal.loop-k-init
unfolding counted joined
loop-k-init c = (omega arith, refl)

pub count-requires : goal.count-requires
count-requires c = omega (arith, result_is_below _ c.requires.1 c.loop-k.k (omega arith))

pub loop-k-preserved : goal.loop-k-preserved
loop-k-preserved c = (omega arith, one_result c.args.graph.now _ _ c.loop-k.invariant.1 c.result_at.ensures c.count.ensures)
