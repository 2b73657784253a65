use Rattle.turning.proofs.Copying.{aside_one}
use native.Mathlib.Omega.{arith}
use Rattle.turning.proofs.Rows.put_aside.Goals as goal

pub loop-j-preserved : goal.loop-j-preserved
loop-j-preserved c = aside_one _ _ c.loop-j.j _ _ c.loop-j.aside c.loop-j.invariant (omega (arith, c.loop-j-test.true, c.requires.rows, c.args.self.now.passes.rows, c.args.self.now.passes.few)) c.named.ensures
