use Rattle.naming.proofs.Writing.{Written}
use Rattle.naming.specs.Parts.{row_names}
use Rattle.naming.proofs.name_rows.Given as goal

abbrev pub invariant-loop-r : goal.invariant-loop-r
invariant-loop-r l = Written (row_names l.notes.passed.words.now) 0 l.r l.p l.initial.nodes l.nodes
