-- `graph::nodes_right` meets its contract. The loop follows `every`; beside it runs the next output number, which the last turn leaves at S plus all outputs.
-- Assumes nothing.
use Prim.Native.Nat.{◌<◌}
use mathlib.Core.Path.{◌≡◌, sym, ◌∙◌, ap}
use native.Mathlib.Nat.{sub-zero}
use native.Mathlib.Omega.{arith}
use lib.ListN.{get_or}
use Rattle.step.specs.Kinds.{kind_of}
use Rattle.graph.specs.Below.{total, every_go, every_stop, every_end, total_more}
use Rattle.graph.specs.Graph.{node_count, node_at, output_count}
use Rattle.graph.specs.Refusal.{row_right}
use Rattle.graph.proofs.Rows.{outputs_small, outputs_at}
use Rattle.graph.proofs.nodes_right.Goals as goal

pub loop-i-init : goal.loop-i-init
unfolding total
loop-i-init c = (omega arith, omega arith, omega arith, rw (sub-zero, c.wide-nodes.ensures.0))

pub loop-i-preserved : goal.loop-i-preserved
loop-i-preserved c = let g = c.args.graph.now in
    let i = c.loop-i.i in
    let h : i < node_count g = omega arith in
    let at = outputs_at g i c.row_place.result h c.row_place.ensures in
    let more = total_more (λ j. output_count (node_at g j)) i in (
      omega arith,
      omega (arith, at, more),
      omega (arith, outputs_small (kind_of (get_or g c.row_place.result 0))),
      sym (every_go _ _ _ c.loop-i-test.true (c.node_right.ensures ∙ ap (row_right (node_at g i)) c.loop-i.invariant.1) c.if-not-node_right.false)
          ∙ c.loop-i.invariant.3,
    )

pub returns-then-not-node_right : goal.returns-then-not-node_right
returns-then-not-node_right c = let g = c.args.graph.now in
    rw (
    sym c.loop-i.invariant.3
    ∙ every_stop _ _ _ c.loop-i-test.true (c.node_right.ensures ∙ ap (row_right (node_at g c.loop-i.i)) c.loop-i.invariant.1) c.if-not-node_right.true
    )

pub returns : goal.returns
returns c = let last : c.loop-i.i ≡ node_count c.args.graph.now = omega arith in
    rw (sym c.loop-i.invariant.3 ∙ every_end _ _ _ c.loop-i-test.false, ← last, ← c.loop-i.invariant.1)
