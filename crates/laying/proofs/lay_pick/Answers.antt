-- `laying::lay_pick` meets its contract: one row. Assumes nothing.
use Rattle.laying.proofs.lay_pick.Goals as goal

pub returns : goal.returns
returns c = cc
