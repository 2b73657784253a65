-- `forking::tally_outs` meets its contract. The table after i results holds their uses besides.
-- Assumes nothing.
use mathlib.Core.Path.{◌≡◌, refl}
use native.Mathlib.Omega.{arith}
use lib.ListN.{get_or}
use Rattle.graph.specs.Below.{joined}
use Rattle.forking.specs.Written.{row_outs, tallied_more, joined_long}
use Rattle.forking.specs.Tallied.{tallied}
use Rattle.forking.proofs.Tallies.{tally_below, one_use}
use Rattle.forking.proofs.tally_outs.Goals as goal

pub loop-i-init : goal.loop-i-init
unfolding joined tallied
loop-i-init c = refl

pub offset_bounds-outs-i : goal.offset_bounds-outs-i
offset_bounds-outs-i c = omega arith

pub bounds-outs-i : goal.bounds-outs-i
bounds-outs-i c = omega arith

pub tally-requires : goal.tally-requires
tally-requires c = let a = c.args in let l = c.loop-i in let n = joined_long (row_outs a.outs.now) 1 (λ j. refl) l.i in (c.requires.1 l.i (omega arith), tally_below {n = 40000} a.seen.now (joined (row_outs a.outs.now) l.i) c.requires.2 l.invariant (omega arith))

pub loop-i-preserved : goal.loop-i-preserved
loop-i-preserved c = let a = c.args in let l = c.loop-i in tallied_more (row_outs a.outs.now) l.i a.seen.now l.invariant (one_use l.seen (get_or a.outs.now l.i 0) c.tally.ensures)

pub returns : goal.returns
returns c = let last : c.loop-i.i ≡ c.args.results = omega arith in rw (← last) c.loop-i.invariant
