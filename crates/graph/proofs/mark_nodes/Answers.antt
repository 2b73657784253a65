-- `graph::mark_nodes` meets its contract. The table after i nodes holds the sorts of their outputs, from S on; beside it runs the next output number.
-- Assumes nothing.
use Prim.Native.Nat.{◌<◌}
use mathlib.Core.Path.{refl}
use native.Mathlib.Omega.{arith}
use Rattle.graph.specs.Below.{joined, total, total_more, total_within}
use Rattle.graph.specs.Graph.{node_count, node_at, output_count}
use Rattle.graph.specs.Refusal.{node_is_right, wires_are_all_outputs}
use Rattle.graph.proofs.Rows.{outputs_at}
use Rattle.graph.proofs.Sorts.{one_more_marked}
use Rattle.graph.proofs.mark_nodes.Goals as goal

pub loop-i-init : goal.loop-i-init
unfolding total joined
loop-i-init c = (omega arith, omega arith, refl)

pub mark_node-requires : goal.mark_node-requires
mark_node-requires c = let g = c.args.graph.now in
    (c.requires.0, omega arith, omega (arith, total_within (λ j. output_count (node_at g j)) c.loop-i.i (node_count g) (omega arith), wires_are_all_outputs g c.requires.1), node_is_right g c.requires.1 c.loop-i.i (omega arith))

pub overflow_add-next : goal.overflow_add-next
overflow_add-next c = let g = c.args.graph.now in
    let h : c.loop-i.i < node_count g = omega arith in
    omega (
      arith,
      outputs_at g c.loop-i.i c.row_place.result h c.row_place.ensures,
      total_within (λ j. output_count (node_at g j)) c.loop-i.i (node_count g) h,
      wires_are_all_outputs g c.requires.1,
    )

pub loop-i-preserved : goal.loop-i-preserved
loop-i-preserved c = let g = c.args.graph.now in
    let i = c.loop-i.i in
    let h : i < node_count g = omega arith in (
      omega arith,
      omega (arith, outputs_at g i c.row_place.result h c.row_place.ensures, total_more (λ j. output_count (node_at g j)) i),
      one_more_marked g i _ c.loop-i.next c.loop-i.invariant.1 c.loop-i.invariant.2 c.mark_node.ensures,
    )
