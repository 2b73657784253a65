use Rattle.laying.specs.Rows.{OutsLaid}
use Rattle.laying.proofs.lay_outs.Given as goal

abbrev pub invariant-loop-r : goal.invariant-loop-r
invariant-loop-r l = OutsLaid l.passed.words.now l.r l.k l.outs
