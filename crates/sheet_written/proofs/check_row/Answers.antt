-- `sheet_written::check_row` meets its contract. Assumes nothing.
use mathlib.Core.Path.{sym, ◌∙◌}
use Rattle.sheet_written.proofs.Faults.{unread, read, some_spare, no_spare, no_kind_lem, not_spare, row_passes}
use Rattle.sheet_written.proofs.check_row.Goals as goal

pub returns-then-is_err : goal.returns-then-is_err
returns-then-is_err c = no_kind_lem _ _ c.kind_at.ensures (unread _ _ c.try_from.ensures (sym c.is_err.ensures.value ∙ c.if-is_err.true))

pub returns-then-is_some : goal.returns-then-is_some
returns-then-is_some c = not_spare _ _ c.kind_at.ensures (read _ _ c.try_from.ensures (sym c.is_err.ensures.value ∙ c.if-is_err.false)) (some_spare _ _ c.spare_word.ensures (sym c.is_some.ensures ∙ c.if-is_some.true))

pub returns : goal.returns
returns c = row_passes _ _ c.kind_at.ensures (read _ _ c.try_from.ensures (sym c.is_err.ensures.value ∙ c.if-is_err.false)) (no_spare _ _ c.spare_word.ensures (sym c.is_some.ensures ∙ c.if-is_some.false))
