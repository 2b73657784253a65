use Rattle.naming.proofs.Writing.{Written}
use Rattle.naming.specs.Parts.{copy_names}
use Rattle.naming.proofs.name_copies.Given as goal

abbrev pub invariant-loop-v : goal.invariant-loop-v
invariant-loop-v l = Written (copy_names l.notes.passed.words.now l.l) l.at l.v l.p l.initial.nodes l.nodes
