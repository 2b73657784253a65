-- `graph::results_sorted` meets its contract. The loop follows `every`.
-- Assumes nothing.
use mathlib.Core.Path.{sym, ◌∙◌}
use native.Mathlib.Omega.{arith}
use Rattle.graph.specs.Below.{every_go, every_stop, every_end}
use Rattle.graph.specs.Refusal.{result_is_below}
use Rattle.graph.proofs.Sorts.{result_sorted_is}
use Rattle.graph.proofs.results_sorted.Goals as goal

pub sorted-requires : goal.sorted-requires
sorted-requires c = omega (arith, result_is_below _ c.requires.1 c.loop-k.k (omega arith))

pub loop-k-preserved : goal.loop-k-preserved
loop-k-preserved c = (
  omega arith,
  sym (every_go _ _ _ c.loop-k-test.true (result_sorted_is c.args.graph.now c.args.sorts.now c.loop-k.k c.requires.2 c.result_at.ensures c.sorted.ensures) c.if-not-sorted.false)
      ∙ c.loop-k.invariant.1,
)

pub returns-then-not-sorted : goal.returns-then-not-sorted
returns-then-not-sorted c = sym (every_stop _ _ _ c.loop-k-test.true (result_sorted_is c.args.graph.now c.args.sorts.now c.loop-k.k c.requires.2 c.result_at.ensures c.sorted.ensures) c.if-not-sorted.true)
    ∙ c.loop-k.invariant.1

pub returns : goal.returns
returns c = sym (every_end _ _ _ c.loop-k-test.false) ∙ c.loop-k.invariant.1
