use Rattle.laying.specs.Using.{Using}
use Rattle.laying.proofs.resolve_uses.Given as goal

abbrev pub invariant-loop-c : goal.invariant-loop-c
invariant-loop-c l = Using l.notes.passed.words.now l.v l.c l.bases.nodes l.bases.wires l.initial.rows l.initial.at l.copies.counts l.copies.lasts l.rows l.at

abbrev pub decreases-loop-c : goal.decreases-loop-c
decreases-loop-c l = l.c
