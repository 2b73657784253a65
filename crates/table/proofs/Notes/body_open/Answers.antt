-- `table::Notes::body_open` meets its contract. The outermost body is always open. Assumes nothing.
use borrow.Author.Tests.{ne_eqb, eq-eqb}
use Rattle.table.specs.Scan.{body_open}
use Rattle.table.proofs.Notes.body_open.Goals as goal

pub returns-then-body-self : goal.returns-then-body-self
unfolding body_open
returns-then-body-self c = rw (eq-eqb _ _ c.if-body-self.true)

pub returns-else-body-self : goal.returns-else-body-self
unfolding body_open
returns-else-body-self c = rw (ne_eqb _ _ c.if-body-self.false) c.holds.ensures
