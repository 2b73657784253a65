use Rattle.laying.specs.Using.{Values}
use Rattle.laying.proofs.resolve_values.Given as goal

abbrev pub invariant-loop-v : goal.invariant-loop-v
invariant-loop-v l = Values l.notes.passed.words.now l.v l.bases.nodes l.bases.wires l.copies.counts l.copies.lasts l.rows l.at
