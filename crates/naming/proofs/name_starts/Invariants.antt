use Rattle.naming.proofs.Writing.{Written}
use Rattle.naming.specs.Parts.{start_names}
use Rattle.naming.proofs.name_starts.Given as goal

abbrev pub invariant-loop-r : goal.invariant-loop-r
invariant-loop-r l = Written (start_names l.passed.words.now) 0 l.r l.p l.initial.wires l.wires
