-- `sheet_read::line` meets its contract. The key stops, or the number behind it is read. Assumes nothing.
use mathlib.Core.Path.{refl}
use Rattle.std.proofs.lemmas.Result.{err_from_is_err_and}
use Rattle.sheet_read.proofs.Bytes.{line_no_key, line_number}
use Rattle.sheet_read.proofs.line.Goals as goal

pub returns-in_err-start : goal.returns-in_err-start
returns-in_err-start c = let p = err_from_is_err_and c.from_residual.result c.from_residual.ensures.1 in
    rw (p.1, p.2) (line_no_key c.args.text.now c.args.at c.args.k c.in_err-start.ensures tt)

pub returns : goal.returns
returns c = line_number c.args.text.now c.args.at c.args.k c.in_ok-start.ensures refl c.number.ensures
