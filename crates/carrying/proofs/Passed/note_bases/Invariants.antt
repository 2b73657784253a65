use Rattle.carrying.proofs.Counting.{BasesBefore}
use Rattle.carrying.proofs.Passed.note_bases.Given as goal

abbrev pub invariant-loop-r : goal.invariant-loop-r
invariant-loop-r l = BasesBefore l.self.words.now l.r l.nodes l.wires l.node l.wire
