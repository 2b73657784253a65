-- `forking::note_sorts` meets its contract. The table after i rows holds the sorts of their outputs.
-- Assumes nothing.
use mathlib.Core.Path.{◌≡◌, refl}
use native.Mathlib.Omega.{arith}
use Rattle.forking.specs.Sorted.{sorted_rows}
use Rattle.forking.proofs.Words.{sorted_more}
use Rattle.forking.proofs.note_sorts.Goals as goal

pub loop-i-init : goal.loop-i-init
unfolding sorted_rows
loop-i-init c = refl

pub note_sort-requires : goal.note_sort-requires
note_sort-requires c = (omega arith, c.requires.1 c.loop-i.i (omega arith))

pub loop-i-preserved : goal.loop-i-preserved
loop-i-preserved c = sorted_more c.args.rows.now c.loop-i.i c.args.sorts.now c.loop-i.invariant c.note_sort.ensures

pub returns : goal.returns
returns c = let last : c.loop-i.i ≡ c.args.nodes = omega arith in rw (← last) c.loop-i.invariant
