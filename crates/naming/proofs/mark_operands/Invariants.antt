use Rattle.naming.specs.Carried.{Marked}
use Rattle.naming.proofs.mark_operands.Given as goal

abbrev pub invariant-loop-j : goal.invariant-loop-j
invariant-loop-j l = Marked l.table l.r l.j l.initial.marks l.marks
