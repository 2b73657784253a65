-- `sheet_read::whole` meets its contract. The rows stop, something stands behind them, or they are all. Assumes nothing.
use mathlib.Core.Path.{refl}
use Rattle.std.proofs.lemmas.Result.{err_from_is_err_and}
use Rattle.sheet_read.proofs.Tables.{whole_stop, whole_more, whole_all}
use Rattle.sheet_read.proofs.whole.Goals as goal

pub returns-in_err-all : goal.returns-in_err-all
returns-in_err-all c = let p = err_from_is_err_and c.from_residual.result c.from_residual.ensures.1 in
    rw (p.1, p.2) (whole_stop _ _ _ c.in_err-all.ensures.0 tt, c.in_err-all.ensures.1)

pub returns-then-all-text : goal.returns-then-all-text
returns-then-all-text c = whole_more _ _ _ c.in_ok-all.ensures.0 refl c.if-all-text.true

pub returns : goal.returns
returns c = (whole_all _ _ _ c.in_ok-all.ensures.0 refl c.if-all-text.false, c.in_ok-all.ensures.1)
