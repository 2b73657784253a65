-- `forking::note_free` meets its contract. Before wire w both sums run over the wires below it, and w's free number is what they leave.
-- Assumes nothing.
use Rattle.std.proofs.Common.{ℕ, ◌+◌, ◌≡◌, refl, ap, arith}
use Rattle.graph.specs.Below.{total, total_more}
use Rattle.forking.specs.Forked.{nodes_by, wires_by, free_of, added_nodes_low}
use Rattle.forking.specs.Tallied.{filled_more}
use Rattle.forking.proofs.Tallies.{below_set}
use Rattle.forking.proofs.note_free.Goals as goal

pub loop-w-init : goal.loop-w-init
unfolding total
loop-w-init c = (refl, refl, omega arith, omega arith, λ p h. absurd (omega arith), c.requires.2)

pub added_wires-added-requires : goal.added_wires-added-requires
added_wires-added-requires c = c.requires.1.low c.loop-w.w (omega arith)

pub overflow_add-added : goal.overflow_add-added
overflow_add-added c = let u = c.requires.1.low c.loop-w.w (omega arith) in omega (arith, c.added_wires-added.ensures)

pub added_nodes-nodes-requires : goal.added_nodes-nodes-requires
added_nodes-nodes-requires c = c.requires.1.low c.loop-w.w (omega arith)

pub overflow_add-nodes : goal.overflow_add-nodes
overflow_add-nodes c = let u = added_nodes_low _ (c.requires.1.low c.loop-w.w (omega arith)) in omega (arith, c.added_nodes-nodes.ensures)

pub loop-w-preserved : goal.loop-w-preserved
loop-w-preserved c = let l = c.loop-w in let uses = c.args.count.now in let wires = c.args.wires in
    let u = c.requires.1.low l.w (omega arith) in
    let n = added_nodes_low _ u in
    let tn = total_more (nodes_by uses) l.w in
    let tw = total_more (wires_by uses) l.w in
    let en = c.added_nodes-nodes.ensures in
    let ew = c.added_wires-added.ensures in
    let long = l.invariant.5.long in
    (omega arith, omega arith, omega arith, omega arith, filled_more l.free l.w _ (free_of uses wires) (omega arith) l.invariant.4 (ap (λ (z : ℕ). wires + z) l.invariant.1), below_set l.w _ l.invariant.5 (omega arith))

pub returns : goal.returns
returns c = let l = c.loop-w in let last : l.w ≡ c.args.wires = omega arith in
    record { free = λ w h. l.invariant.4 w (omega arith); small = l.invariant.5; nodes = rw (← last) l.invariant.0; wires = rw (← last) l.invariant.1; nodes_low = omega arith; wires_low = omega arith }
