use Rattle.turning.proofs.Turns.{first_inside, args_to_args, first_turn_is}
use Rattle.reading.specs.Reading.{set_row}
use native.Mathlib.Omega.{arith}
use mathlib.Core.Path.{◌∙◌, ap}
use Rattle.turning.proofs.Rows.first_turn.Goals as goal

pub overflow_sub-k : goal.overflow_sub-k
overflow_sub-k c = let f = first_inside _ _ _ c.requires.at in omega (arith, f.0)

pub copy-requires : goal.copy-requires
copy-requires c = args_to_args _ _ _ c.requires.at

pub returns : goal.returns
returns c = c.set_row.ensures ∙ ap (set_row c.args.l.now.row c.args.index) c.copy.ensures ∙ first_turn_is _ _ _ c.requires.at _ _
