use Rattle.naming.specs.Carried.{Marks}
use Rattle.naming.proofs.mark_loop.Given as goal

abbrev pub invariant-loop-r : goal.invariant-loop-r
invariant-loop-r l = Marks l.notes.passed.words.now l.l l.r l.marks
