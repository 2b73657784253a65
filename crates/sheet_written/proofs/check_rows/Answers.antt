-- `sheet_written::check_rows` meets its contract. Assumes nothing.
use mathlib.Core.Path.{refl, sym, ◌∙◌}
use Rattle.table.proofs.Different.{refusal_counts}
use Rattle.sheet_written.proofs.Faults.{next_row, this_row, no_row_left}
use Rattle.sheet_written.proofs.check_rows.Goals as goal

pub returns-in-Err : goal.returns-in-Err
returns-in-Err c = sym (this_row _ _ _ c.loop-row-test.true c.in-Err.ensures (refusal_counts c.in-Err.why)) ∙ c.loop-row.invariant

pub loop-row-preserved : goal.loop-row-preserved
loop-row-preserved c = sym (next_row _ _ _ c.loop-row-test.true c.in_default.ensures refl) ∙ c.loop-row.invariant

pub returns : goal.returns
returns c = sym (no_row_left _ _ _ c.loop-row-test.false) ∙ c.loop-row.invariant
