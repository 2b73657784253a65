-- `graph::results_below` meets its contract. The loop follows `every`.
-- Assumes nothing.
use mathlib.Core.Path.{sym, ◌∙◌, ap}
use native.Mathlib.Omega.{arith}
use lib.Dec.{ltb}
use borrow.Author.Tests.{lt-ltb, le-ltb}
use Rattle.graph.specs.Below.{every_go, every_stop, every_end}
use Rattle.graph.specs.Graph.{wire_count}
use Rattle.graph.proofs.results_below.Goals as goal

pub loop-k-preserved : goal.loop-k-preserved
loop-k-preserved c = let g = c.args.graph.now in
    (omega arith, sym (every_go _ _ _ c.loop-k-test.true (ap (λ w. ltb w (wire_count g)) c.result_at.ensures) (lt-ltb _ _ c.if-graph-result_at.false)) ∙ c.loop-k.invariant.1)

pub returns-then-graph-result_at : goal.returns-then-graph-result_at
returns-then-graph-result_at c = let g = c.args.graph.now in
    sym (every_stop _ _ _ c.loop-k-test.true (ap (λ w. ltb w (wire_count g)) c.result_at.ensures) (le-ltb _ _ c.if-graph-result_at.true)) ∙ c.loop-k.invariant.1

pub returns : goal.returns
returns c = sym (every_end _ _ _ c.loop-k-test.false) ∙ c.loop-k.invariant.1
