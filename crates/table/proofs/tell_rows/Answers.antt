-- `table::tell_rows` meets its contract. LENGTH first, then the rows. Assumes nothing.
use Rattle.table.specs.Clauses.{explained, length_fault}
use Rattle.table.specs.Check.{table_refusal, length_right}
use borrow.Author.Tests.{ne_eqb, le-leb, lt-leb}
use Rattle.table.proofs.tell_rows.Goals as goal

pub returns-then-table-ne0 : goal.returns-then-table-ne0
unfolding table_refusal length_right explained length_fault
returns-then-table-ne0 c = let a = ne_eqb _ 0 c.if-table-ne0.true in record { refusal = rw a; clause = rw a }

pub returns-then-size-lt1 : goal.returns-then-size-lt1
unfolding table_refusal length_right explained length_fault
returns-then-size-lt1 c = let a = c.if-table-ne0.false in let b = lt-leb 1 _ c.if-size-lt1.true in record { refusal = rw (a, b); clause = rw (a, b) }

pub returns-then-size-gt-MOST_ROWS : goal.returns-then-size-gt-MOST_ROWS
unfolding table_refusal length_right explained length_fault
returns-then-size-gt-MOST_ROWS c = let a = c.if-table-ne0.false in let b = le-leb 1 _ c.if-size-lt1.false in record { refusal = rw (a, b, lt-leb _ 512 c.if-size-gt-MOST_ROWS.true); clause = rw (a, b) }

pub returns-else-size-gt-MOST_ROWS : goal.returns-else-size-gt-MOST_ROWS
unfolding table_refusal length_right
returns-else-size-gt-MOST_ROWS c = let e = c.tell_each.ensures in record { refusal = rw (c.if-table-ne0.false, le-leb 1 _ c.if-size-lt1.false, le-leb _ 512 c.if-size-gt-MOST_ROWS.false) e.0; clause = e.1 }
