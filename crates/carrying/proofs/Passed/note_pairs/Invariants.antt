use Rattle.carrying.specs.Kept.{PairsBefore}
use Rattle.carrying.proofs.Passed.note_pairs.Given as goal

abbrev pub invariant-loop-r : goal.invariant-loop-r
invariant-loop-r l = PairsBefore l.self.words.now l.r l.pairs
