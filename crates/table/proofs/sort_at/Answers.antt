-- `table::sort_at` meets its contract. One return for each sort. Assumes nothing.
use Rattle.table.specs.Rows.{sort_of}
use borrow.Author.Tests.{ne_eqb, le-leb, lt-leb}
use Rattle.table.proofs.sort_at.Goals as goal

pub returns-then-kind_at-number : goal.returns-then-kind_at-number
unfolding sort_of
returns-then-kind_at-number c = rw (← c.kind_at.ensures, ← c.number.ensures, ne_eqb _ _ c.if-kind_at-number.true)

pub returns-then-word_at-ge-COMPARISONS : goal.returns-then-word_at-ge-COMPARISONS
unfolding sort_of
returns-then-word_at-ge-COMPARISONS c = rw (← c.kind_at.ensures, c.if-kind_at-number.false, c.number.ensures, ← c.word_at.ensures, le-leb 3 _ c.if-word_at-ge-COMPARISONS.true)

pub returns-else-word_at-ge-COMPARISONS : goal.returns-else-word_at-ge-COMPARISONS
unfolding sort_of
returns-else-word_at-ge-COMPARISONS c = rw (← c.kind_at.ensures, c.if-kind_at-number.false, c.number.ensures, ← c.word_at.ensures, lt-leb 3 _ c.if-word_at-ge-COMPARISONS.false)
