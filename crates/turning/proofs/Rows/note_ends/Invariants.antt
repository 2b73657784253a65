use Rattle.turning.proofs.Scanning.{Noted}
use Rattle.turning.proofs.Rows.note_ends.Given as goal

abbrev pub invariant-loop-r : goal.invariant-loop-r
invariant-loop-r l = Noted l.self.table.now l.r l.body l.notes
