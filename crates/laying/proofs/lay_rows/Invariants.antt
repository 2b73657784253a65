use Rattle.laying.specs.Rows.{RowsLaid}
use Rattle.laying.proofs.lay_rows.Given as goal

abbrev pub invariant-loop-r : goal.invariant-loop-r
invariant-loop-r l = RowsLaid l.notes.passed.words.now l.r l.initial.rows l.rows
