use Rattle.turning.proofs.Turns.{first_inside, nexts_to_nexts, leaving_is}
use native.Mathlib.Omega.{arith}
use mathlib.Core.Path.{◌∙◌}
use Rattle.turning.proofs.Rows.leave.Goals as goal

pub overflow_sub-k : goal.overflow_sub-k
overflow_sub-k c = let f = first_inside _ _ _ c.requires.at in omega (arith, f.0)

pub overflow_sub-l : goal.overflow_sub-l
overflow_sub-l c = let f = first_inside _ _ _ c.requires.at in omega (arith, f.0, f.1, f.2, f.3, c.requires.last)

pub overflow_sub-l-2 : goal.overflow_sub-l-2
overflow_sub-l-2 c = let f = first_inside _ _ _ c.requires.at in omega (arith, f.0, f.1, f.2, f.3, c.requires.last)

pub copy-requires : goal.copy-requires
copy-requires c = nexts_to_nexts _ _ _ c.requires.at _ c.requires.last

pub returns : goal.returns
returns c = c.copy.ensures ∙ leaving_is _ _ _ c.requires.at _ _ c.requires.last
