-- `forking::tally_rows` meets its contract. The table after i rows holds the uses of their inputs.
-- Assumes nothing.
use mathlib.Core.Path.{◌≡◌, refl}
use native.Mathlib.Omega.{arith}
use Rattle.graph.specs.Below.{joined}
use Rattle.forking.specs.Written.{row_inputs, tallied_more, joined_long}
use Rattle.forking.specs.Tallied.{tallied}
use Rattle.forking.proofs.Tallies.{tally_below}
use Rattle.forking.proofs.tally_rows.Goals as goal

pub loop-i-init : goal.loop-i-init
unfolding joined tallied
loop-i-init c = refl

pub tally_row-requires : goal.tally_row-requires
tally_row-requires c = let a = c.args in let l = c.loop-i in let n = joined_long (row_inputs a.rows.now) 3 (λ j. refl) l.i in (omega arith, c.requires.1 l.i (omega arith), tally_below {n = 30000} a.seen.now (joined (row_inputs a.rows.now) l.i) c.requires.2 l.invariant (omega arith))

pub loop-i-preserved : goal.loop-i-preserved
loop-i-preserved c = tallied_more (row_inputs c.args.rows.now) c.loop-i.i c.args.seen.now c.loop-i.invariant c.tally_row.ensures

pub returns : goal.returns
returns c = let last : c.loop-i.i ≡ c.args.nodes = omega arith in rw (← last) c.loop-i.invariant
