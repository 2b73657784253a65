-- `sheet_written::write_sheet` meets its contract. Assumes nothing.
use Rattle.std.proofs.lemmas.Result.{err_from_is_err_and}
use Rattle.sheet_written.proofs.Answered.{refused}
use Rattle.table.proofs.Different.{refusal_counts}
use Rattle.sheet_written.proofs.write_sheet.Goals as goal

pub returns-in_err-n : goal.returns-in_err-n
returns-in_err-n c = let p = err_from_is_err_and c.from_residual.result c.from_residual.ensures.1 in
    rw (p.1, p.2) (record { answer = refused c.args.table.now c.args.text.now c.in_err-n.ensures.0 (refusal_counts _) })
