-- `sheet_read::rows` meets its contract. Invariant: r rows are stored, and the rows from r on decide, at p, what is read. Assumes nothing.
use Rattle.std.proofs.lemmas.Result.{err_from_is_err_and}
use mathlib.Core.Path.{refl, ◌∙◌}
use native.Mathlib.Omega.{arith}
use Rattle.sheet_read.proofs.Tables.{rows_on, rows_stop, rows_end}
use Rattle.sheet_read.proofs.rows.Goals as goal

pub returns-in_err-p : goal.returns-in_err-p
returns-in_err-p c = let v = c.loop-r.invariant in let p = err_from_is_err_and c.from_residual.result c.from_residual.ensures.1 in
    rw (p.1, p.2) (rows_stop c.args.text.now c.loop-r.p v.2 c.loop-r-test.true c.in_err-p.ensures tt, omega arith)

pub loop-r-preserved : goal.loop-r-preserved
loop-r-preserved c = let v = c.loop-r.invariant in
    (c.in_ok-p.ensures.inside, c.row.auto.out ∙ v.1, rows_on c.args.text.now c.loop-r.p v.2 c.loop-r-test.true c.in_ok-p.ensures refl)

pub returns : goal.returns
returns c = let v = c.loop-r.invariant in (rows_end c.args.text.now c.loop-r.p v.2 c.loop-r-test.false c.loop-r.auto.r-end v.0, c.requires.1)
