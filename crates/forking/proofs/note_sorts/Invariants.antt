use mathlib.Core.Path.{◌≡◌}
use Rattle.forking.specs.Sorted.{sorted_rows}
use Rattle.forking.proofs.note_sorts.Given as goal

abbrev pub invariant-loop-i : goal.invariant-loop-i
invariant-loop-i l = l.sorts ≡ sorted_rows l.rows l.i l.initial.sorts
