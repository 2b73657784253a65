-- `lowering::check_table` meets its contract. 1 to 9 by the rows, then 10 by the counts.
-- Assumes nothing.
use Rattle.std.proofs.Common.{refl, arith}
use Rattle.refusal.specs.Numbers.{number_above, passed_on}
use Rattle.lowering.proofs.Answers.{check_refused, check_measured}
use Rattle.lowering.proofs.check_table.Goals as goal

pub returns-in_err-passed : goal.returns-in_err-passed
returns-in_err-passed c =
    let e = c.in_err-passed.field-0.0 in
    record { answer = rw (passed_on _ _ c.from_residual.ensures.1) (check_refused c.args.table.now c.in_err-passed.ensures.answer (λ z. let a = number_above e.why in omega arith)) }

pub returns-in_err-measure : goal.returns-in_err-measure
returns-in_err-measure c =
    let w = c.in_ok-passed.ensures.words in
    record { answer = rw (passed_on _ _ c.from_residual-in_err-measure.ensures.1) (check_measured c.args.table.now c.in_ok-passed.ensures.answer refl (rw w at c.in_err-measure.ensures.answer)) }

pub returns : goal.returns
returns c =
    let w = c.in_ok-passed.ensures.words in
    record { answer = check_measured c.args.table.now c.in_ok-passed.ensures.answer refl (rw w at c.in_ok-measure.ensures.answer) }
