use Rattle.engine.proofs.Answers.{is_right, few_rows, refused_by_rows, refused_by_inputs, refused_by_room, read_answer_lem}
use Rattle.std.proofs.lemmas.Result.{err_from_is_err_and}
use Rattle.table.proofs.Different.{refusal_counts}
use native.Mathlib.Omega.{arith}
use mathlib.Core.Path.{refl, ◌∙◌}
use Rattle.engine.proofs.read_plain.Goals as goal

pub returns-in_err-check_rows : goal.returns-in_err-check_rows
returns-in_err-check_rows c = let p = err_from_is_err_and c.from_residual.result c.from_residual.ensures.1 in
    rw (p.1, p.2) (record { answer = refused_by_rows _ c.in_err-check_rows.ensures _ _ _ (refusal_counts _) })

pub overflow_cast-rows : goal.overflow_cast-rows
overflow_cast-rows c = let f = few_rows _ c.in_ok-check_rows.ensures refl in omega arith

pub invariant_of-rows : goal.invariant_of-rows
invariant_of-rows c = record { passes = record { right = is_right _ c.in_ok-check_rows.ensures refl; rows = refl; few = few_rows _ c.in_ok-check_rows.ensures refl } }

pub returns-then-inputs-count : goal.returns-then-inputs-count
returns-then-inputs-count c = record { answer = refused_by_inputs _ c.in_ok-check_rows.ensures _ _ _ refl refl c.count.ensures c.if-inputs-count.true }

pub returns-then-results-count : goal.returns-then-results-count
returns-then-results-count c = record { answer = refused_by_room _ c.in_ok-check_rows.ensures _ _ _ refl refl c.count.ensures c.if-inputs-count.false c.count-2.ensures c.if-results-count.true }

pub read_rows-requires : goal.read_rows-requires
read_rows-requires c = let j = c.count-2.ensures in let h = c.if-results-count.false in (c.if-inputs-count.false ∙ c.count.ensures, omega arith)

pub returns : goal.returns
returns c = record { answer = read_answer_lem _ c.in_ok-check_rows.ensures _ _ _ refl refl c.count.ensures c.if-inputs-count.false c.count-2.ensures c.if-results-count.false c.read_rows.ensures }
