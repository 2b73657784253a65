use Rattle.turning.proofs.Turns.{first_inside, nexts_to_args, next_turn_is}
use Rattle.reading.specs.Reading.{set_row}
use native.Mathlib.Omega.{arith}
use mathlib.Core.Path.{◌∙◌, ap}
use Rattle.turning.proofs.Rows.next_turn.Goals as goal

pub overflow_sub-k : goal.overflow_sub-k
overflow_sub-k c = let f = first_inside _ _ _ c.requires.at in omega (arith, f.0)

pub overflow_sub-l : goal.overflow_sub-l
overflow_sub-l c = let f = first_inside _ _ _ c.requires.at in omega (arith, f.0, f.1, f.2, f.3, c.requires.last)

pub copy-requires : goal.copy-requires
copy-requires c = nexts_to_args _ _ _ c.requires.at _ c.requires.last

pub returns : goal.returns
returns c = c.set_row.ensures ∙ ap (set_row c.args.l.now.row c.args.index) c.copy.ensures ∙ next_turn_is _ _ _ c.requires.at _ _ c.requires.last _
