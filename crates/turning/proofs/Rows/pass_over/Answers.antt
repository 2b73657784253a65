use Rattle.turning.proofs.Turns.{first_inside, args_to_nexts, passing_is}
use native.Mathlib.Omega.{arith}
use mathlib.Core.Path.{◌∙◌}
use Rattle.turning.proofs.Rows.pass_over.Goals as goal

pub overflow_sub-k : goal.overflow_sub-k
overflow_sub-k c = let f = first_inside _ _ _ c.requires.at in omega (arith, f.0)

pub overflow_sub-l : goal.overflow_sub-l
overflow_sub-l c = let f = first_inside _ _ _ c.requires.at in omega (arith, f.0, f.1, f.2, f.3, c.requires.last)

pub copy-requires : goal.copy-requires
copy-requires c = args_to_nexts _ _ _ c.requires.at _ c.requires.last

pub returns : goal.returns
returns c = c.copy.ensures ∙ passing_is _ _ _ c.requires.at _ _ c.requires.last
