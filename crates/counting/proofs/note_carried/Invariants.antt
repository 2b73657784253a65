use Rattle.counting.proofs.Counting.{CountedBefore}
use Rattle.counting.proofs.note_carried.Given as goal

abbrev pub invariant-loop-r : goal.invariant-loop-r
invariant-loop-r l = CountedBefore l.notes.passed.words.now l.r l.counts
