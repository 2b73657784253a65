use Rattle.turning.proofs.Beginning.{Begun}
use Rattle.table.specs.Counted.{rows_of}
use mathlib.Core.Path.{◌≡◌}
use Rattle.turning.proofs.Rows.first_words.Given as goal

abbrev pub invariant-loop-r : goal.invariant-loop-r
invariant-loop-r l = Begun l.self.table.now l.inputs l.r l.words × (l.before ≡ rows_of 0 l.self.table.now l.r)
