-- `sheet_read::counted_rows` meets its contract. The count's line stops, its number stops, or the rows are read; 512 rows have 3,072 words. Assumes nothing.
use mathlib.Core.Path.{refl}
use Rattle.std.proofs.lemmas.Result.{err_from_is_err_and}
use Rattle.sheet_read.proofs.Tables.{table_no_key, table_no_number, table_read}
use Rattle.sheet_read.proofs.counted_rows.Goals as goal

pub returns-in_err-start : goal.returns-in_err-start
returns-in_err-start c = let p = err_from_is_err_and c.from_residual.result c.from_residual.ensures.1 in
    rw (p.1, p.2) (table_no_key _ _ _ c.in_err-start.ensures tt)

pub returns-in_err-count : goal.returns-in_err-count
returns-in_err-count c = let p = err_from_is_err_and c.from_residual-in_err-count.result c.from_residual-in_err-count.ensures.1 in
    rw (p.1, p.2) (table_no_number _ _ _ c.in_ok-start.ensures refl c.in_err-count.ensures tt)

pub returns : goal.returns
returns c = (table_read _ _ _ c.in_ok-start.ensures refl c.in_ok-count.ensures refl c.rows.ensures.0, c.rows.ensures.1)
