-- `forking::write_results` meets its contract. After i results their words stand in a run, and their uses are tallied.
-- Assumes nothing.
use Prim.Native.Nat.{◌+◌}
use mathlib.Core.Path.{◌≡◌, refl, ◌∙◌}
use native.Mathlib.Omega.{arith}
use lib.ListN.{get_or, length-set}
use Rattle.graph.specs.Below.{joined}
use Rattle.forking.specs.Written.{row_outs, tallied_more, joined_long}
use Rattle.forking.specs.Tallied.{tallied}
use Rattle.forking.proofs.Words.{next_result_written}
use Rattle.forking.proofs.Tallies.{tally_below, one_use}
use Rattle.forking.proofs.write_results.Goals as goal

pub loop-i-init : goal.loop-i-init
unfolding joined tallied
loop-i-init c = (refl, refl, refl)

pub offset_bounds-outs-i : goal.offset_bounds-outs-i
offset_bounds-outs-i c = omega arith

pub bounds-outs-i : goal.bounds-outs-i
bounds-outs-i c = omega arith

pub stand-requires : goal.stand-requires
stand-requires c = let a = c.args in let l = c.loop-i in let n = joined_long (row_outs a.outs.now) 1 (λ j. refl) l.i in (c.requires.1 l.i (omega arith), tally_below {n = 40000} a.seen.now (joined (row_outs a.outs.now) l.i) c.requires.2 l.invariant.1 (omega arith))

pub overflow_add-graph : goal.overflow_add-graph
overflow_add-graph c = omega arith

pub offset_bounds-graph-at : goal.offset_bounds-graph-at
offset_bounds-graph-at c = omega arith

pub bounds-graph-at : goal.bounds-graph-at
bounds-graph-at c = omega arith

pub loop-i-preserved : goal.loop-i-preserved
loop-i-preserved c = let a = c.args in let l = c.loop-i in
    (length-set l.graph (a.at + l.i) _ ∙ l.invariant.0, tallied_more (row_outs a.outs.now) l.i a.seen.now l.invariant.1 (one_use l.seen (get_or a.outs.now l.i 0) c.stand.ensures.1), next_result_written _ _ a.outs.now a.seen.now a.at l.i a.graph.now l.invariant.2 l.invariant.1 c.stand.ensures.0)

pub shape_of-graph : goal.shape_of-graph
shape_of-graph c = c.loop-i.invariant.0

pub returns : goal.returns
returns c = let last : c.loop-i.i ≡ c.args.results = omega arith in rw (← last) c.loop-i.invariant.2
