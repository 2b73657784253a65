use Rattle.turning.proofs.Copying.{placed_none, placed_one}
use native.Mathlib.Omega.{arith}
use Rattle.turning.proofs.put_back.Goals as goal

pub loop-j-init : goal.loop-j-init
loop-j-init c = placed_none _ _ _

pub loop-j-preserved : goal.loop-j-preserved
loop-j-preserved c = placed_one _ _ c.args.aside.now c.loop-j.words _ _ (omega arith) c.word_of.ensures c.loop-j.invariant
