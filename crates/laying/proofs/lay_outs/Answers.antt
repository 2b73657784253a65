-- `laying::lay_outs` meets its contract. Invariant: the first k results are those of the OUT rows before r. Assumes nothing.
use Rattle.std.proofs.Common.{arith}
use Rattle.laying.proofs.Results.{no_outs, all_outs}
use Rattle.laying.proofs.lay_outs.Goals as goal

pub loop-r-init : goal.loop-r-init
loop-r-init c = no_outs _ _ (omega arith)

pub lay_out-k-requires : goal.lay_out-k-requires
lay_out-k-requires c = (c.requires, c.loop-r-test.true, c.loop-r.invariant)

pub returns : goal.returns
returns c = all_outs _ _ c.args.passed.now.passing _ _ _ (omega arith) (omega arith) c.loop-r.invariant
