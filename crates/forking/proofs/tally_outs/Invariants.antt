use mathlib.Core.Path.{◌≡◌}
use Rattle.graph.specs.Below.{joined}
use Rattle.forking.specs.Written.{row_outs}
use Rattle.forking.specs.Tallied.{tallied}
use Rattle.forking.proofs.tally_outs.Given as goal

abbrev pub invariant-loop-i : goal.invariant-loop-i
invariant-loop-i l = l.seen ≡ tallied l.initial.seen (joined (row_outs l.outs) l.i)
