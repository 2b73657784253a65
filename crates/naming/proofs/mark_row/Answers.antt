-- `naming::mark_row` meets its contract. A row that reads in the loop marks what it names; another leaves the marks.
-- Assumes nothing.
use mathlib.Core.Path.{sym, ap, ◌∙◌, subst}
use native.Mathlib.Omega.{arith}
use Rattle.naming.proofs.Inside.{reads_is_body, operands_low, row_marked, row_passed}
use Rattle.naming.specs.Carried.{Body}
use Rattle.lowered.specs.Sources.{inside}
use Rattle.table.specs.Rows.{operand_count}
use Rattle.naming.proofs.mark_row.Goals as goal

pub reads_of-b-requires : goal.reads_of-b-requires
reads_of-b-requires c = c.requires.2

pub lies_in-requires : goal.lies_in-requires
lies_in-requires c = let a = c.args in let q = c.requires in (q.0, q.1, subst (Body a.notes.now.passed.words.now) (sym c.reads_of-b.ensures) (reads_is_body a.notes.now.passed.words.now a.notes.now.passed.rows c.args.notes.now.noted.passing a.r q.2))

pub mark_operands-requires : goal.mark_operands-requires
mark_operands-requires c = let a = c.args in let q = c.requires in let e = c.operand_count-count.ensures in let m = c.args.notes.now.noted.passing.rows in let f = c.args.notes.now.noted.passing.few in (omega arith, omega arith, e.1, operands_low a.notes.now.passed.words.now a.notes.now.passed.rows c.args.notes.now.noted.passing a.r _ q.2 (e.0 ∙ ap operand_count (c.number.ensures ∙ c.kind.ensures)))

pub returns-then-lies_in : goal.returns-then-lies_in
returns-then-lies_in c = let a = c.args in row_marked a.notes.now.passed.words.now a.l a.r _ _ _ c.requires.3 (c.lies_in.ensures ∙ ap (inside a.notes.now.passed.words.now a.l) c.reads_of-b.ensures) c.if-lies_in.true (c.operand_count-count.ensures.0 ∙ ap operand_count (c.number.ensures ∙ c.kind.ensures)) c.mark_operands.ensures

pub returns-else-lies_in : goal.returns-else-lies_in
returns-else-lies_in c = let a = c.args in row_passed a.notes.now.passed.words.now a.l a.r _ c.requires.3 (c.lies_in.ensures ∙ ap (inside a.notes.now.passed.words.now a.l) c.reads_of-b.ensures) c.if-lies_in.false
