-- `table::wanted_sort` meets its contract. Only one word names a flag. Assumes nothing.
use Rattle.table.specs.Rows.{field_at, wanted_sort}
use Rattle.table.proofs.Words.{no_flag}
use mathlib.Core.Path.{sym}
use Rattle.table.proofs.wanted_sort.Goals as goal

pub returns-in-Flag : goal.returns-in-Flag
unfolding wanted_sort field_at
returns-in-Flag c = rw (← c.fields_by_number.ensures, ← c.at.ensures, c.in-Flag.is)

pub returns-in_default : goal.returns-in_default
unfolding wanted_sort field_at
returns-in_default c = rw (← c.fields_by_number.ensures, ← c.at.ensures) (sym (no_flag _ c.in_default.not-Flag))
