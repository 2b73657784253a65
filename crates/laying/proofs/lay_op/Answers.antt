-- `laying::lay_op` meets its contract: one row. Assumes nothing.
use Rattle.laying.proofs.lay_op.Goals as goal

pub returns : goal.returns
returns c = cc
