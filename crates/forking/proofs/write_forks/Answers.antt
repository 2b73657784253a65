-- `forking::write_forks` meets its contract. After w wires their forks' words stand in a run, seven for each node they add.
-- Assumes nothing.
use mathlib.Core.Path.{◌≡◌, refl, ◌∙◌}
use native.Mathlib.Omega.{arith}
use Rattle.graph.specs.Below.{joined, total, total_more, total_within}
use Rattle.forking.specs.Forked.{nodes_by}
use Rattle.forking.proofs.Words.{forks_at}
use Rattle.forking.proofs.write_forks.Goals as goal

pub loop-w-init : goal.loop-w-init
unfolding joined total
loop-w-init c = (refl, omega arith, refl)

pub write_forks_of-requires : goal.write_forks_of-requires
write_forks_of-requires c = let i = c.loop-w.w in let l = c.loop-w in let a = c.args in
    let t = total_within (nodes_by a.uses.now.count) i a.wires (omega arith) in
    (a.uses.now.few.low i (omega arith), a.uses.now.low.low i (omega arith), omega arith)

pub added_nodes-requires : goal.added_nodes-requires
added_nodes-requires c = c.args.uses.now.few.low c.loop-w.w (omega arith)

pub overflow_mul-p : goal.overflow_mul-p
overflow_mul-p c = omega arith

pub overflow_add-p : goal.overflow_add-p
overflow_add-p c = let i = c.loop-w.w in let l = c.loop-w in let a = c.args in
    let t = total_within (nodes_by a.uses.now.count) i a.wires (omega arith) in
    let n = c.added_nodes.ensures in
    let g = c.slice_known-1.given in
    omega arith

pub loop-w-preserved : goal.loop-w-preserved
loop-w-preserved c = let i = c.loop-w.w in let l = c.loop-w in let a = c.args in
    let u = a.uses.now.count in
    let t = total_more (nodes_by u) l.w in
    let n = c.added_nodes.ensures in
    (c.write_forks_of.auto.graph ∙ l.invariant.0, omega arith, forks_at a.sorts.now u a.uses.now.free a.at l.w a.graph.now refl l.invariant.1 l.invariant.2 c.write_forks_of.ensures)

pub shape_of-graph : goal.shape_of-graph
shape_of-graph c = c.loop-w.invariant.0

pub returns : goal.returns
returns c = let last : c.loop-w.w ≡ c.args.wires = omega arith in rw (← last) c.loop-w.invariant.2
