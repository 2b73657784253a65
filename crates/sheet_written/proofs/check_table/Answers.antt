-- `sheet_written::check_table` meets its contract. Assumes nothing.
use native.Mathlib.Omega.{arith}
use borrow.Author.Tests.{ne_eqb, le-leb, lt-leb}
use Rattle.std.proofs.lemmas.Result.{err_from_is_err_and}
use Rattle.table.specs.Check.{length_right}
use Rattle.sheet.specs.Sheet.{sheet_refusal}
use Rattle.sheet_written.proofs.check_table.Goals as goal
use Rattle.sheet_written.proofs.check_table.Goals.{then-table-ne0-via-then-table-ne0, then-table-ne0-via-else-table-ne0+then-n-lt1, then-table-ne0-via-else-table-ne0+else-n-lt1+then-n-gt-MOST_ROWS}

pub returns-then-table-ne0 : goal.returns-then-table-ne0
unfolding sheet_refusal length_right
returns-then-table-ne0 c =
    elim c.then-table-ne0.branch [
      | then-table-ne0-via-then-table-ne0 w ↦ (rw (ne_eqb _ 0 w.if-table-ne0.true), tt)
      | then-table-ne0-via-else-table-ne0+then-n-lt1 w ↦ (rw (w.if-table-ne0.false, lt-leb 1 _ w.if-n-lt1.true), tt)
      | then-table-ne0-via-else-table-ne0+else-n-lt1+then-n-gt-MOST_ROWS w ↦ (rw (w.if-table-ne0.false, le-leb 1 _ w.if-n-lt1.false, lt-leb _ 512 w.if-n-gt-MOST_ROWS.true), tt)
    ]

pub returns-in_err-check_rows : goal.returns-in_err-check_rows
unfolding sheet_refusal length_right
returns-in_err-check_rows c = let p = err_from_is_err_and c.from_residual.result c.from_residual.ensures.1 in
    rw (p.1, p.2) (rw (c.if-table-ne0.false, le-leb 1 _ c.if-n-lt1.false, le-leb _ 512 c.if-n-gt-MOST_ROWS.false) c.in_err-check_rows.ensures, tt)

pub returns : goal.returns
unfolding sheet_refusal length_right
returns c = (rw (c.if-table-ne0.false, le-leb 1 _ c.if-n-lt1.false, le-leb _ 512 c.if-n-gt-MOST_ROWS.false) c.in_ok-check_rows.ensures, (omega arith, omega arith))
