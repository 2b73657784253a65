-- `table::Notes::place` meets its contract. The rule on neighbours, then the rule on open loops. Assumes nothing.
use borrow.Author.Tests.{ne_eqb}
use Rattle.table.specs.Clauses.{place_fault}
use Rattle.table.proofs.Different.{place_fault_counts}
use Rattle.table.proofs.Notes.place.Goals as goal

pub returns-in-Some : goal.returns-in-Some
unfolding place_fault
returns-in-Some c = λ t r k b l. rw (← k, ← b, ← c.in-Some.ensures, ne_eqb _ 0 (place_fault_counts c.in-Some.fault))

pub returns-in-None : goal.returns-in-None
unfolding place_fault
returns-in-None c = λ t r k b l. rw (← k, ← b, ← c.in-None.ensures, ← l) c.stands.ensures
