-- `forking::write_rows` meets its contract. After i rows their words stand in a run, and the uses of their inputs are tallied.
-- Assumes nothing.
use mathlib.Core.Path.{◌≡◌, refl, ◌∙◌}
use native.Mathlib.Omega.{arith}
use Rattle.graph.specs.Below.{joined}
use Rattle.forking.specs.Written.{row_inputs, tallied_more, joined_long}
use Rattle.forking.specs.Tallied.{tallied}
use Rattle.forking.proofs.Words.{next_row_written}
use Rattle.forking.proofs.Tallies.{tally_below}
use Rattle.forking.proofs.write_rows.Goals as goal

pub loop-i-init : goal.loop-i-init
unfolding joined tallied
loop-i-init c = (refl, refl, refl)

pub overflow_mul-i : goal.overflow_mul-i
overflow_mul-i c = omega arith

pub overflow_add-at : goal.overflow_add-at
overflow_add-at c = omega arith

pub write_row-requires : goal.write_row-requires
write_row-requires c = let a = c.args in let l = c.loop-i in let n = joined_long (row_inputs a.rows.now) 3 (λ j. refl) l.i in (omega arith, c.requires.1 l.i (omega arith), tally_below {n = 30000} a.seen.now (joined (row_inputs a.rows.now) l.i) c.requires.2 l.invariant.1 (omega arith), omega arith)

pub loop-i-preserved : goal.loop-i-preserved
loop-i-preserved c = let a = c.args in let l = c.loop-i in
    (c.write_row.auto.graph ∙ l.invariant.0, tallied_more (row_inputs a.rows.now) l.i a.seen.now l.invariant.1 c.write_row.ensures.0, next_row_written _ _ a.rows.now a.seen.now a.at l.i a.graph.now l.invariant.2 l.invariant.1 c.write_row.ensures.1)

pub shape_of-graph : goal.shape_of-graph
shape_of-graph c = c.loop-i.invariant.0

pub returns : goal.returns
returns c = let last : c.loop-i.i ≡ c.args.nodes = omega arith in rw (← last) c.loop-i.invariant.2
