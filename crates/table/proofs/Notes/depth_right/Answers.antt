-- `table::Notes::depth_right` meets its contract. The depth is the number of open loops. Assumes nothing.
use borrow.Author.Tests.{ne_eqb}
use Rattle.table.specs.declared.Kind.TheVariants.{For}
use Rattle.table.specs.Check.{depth_right}
use Rattle.table.proofs.Opened.{open_length, not_full}
use Rattle.table.proofs.Different.{other_kind}
use Rattle.table.proofs.Notes.depth_right.Goals as goal

pub returns-in-For : goal.returns-in-For
unfolding depth_right
returns-in-For c = λ t r k l. let d = c.args.self.now.loops in rw (← k, c.in-For.is, ← l, open_length d.entries d.depth, c.is_full.ensures) (not_full d.depth)

pub returns-in_default : goal.returns-in_default
unfolding depth_right
returns-in_default c = λ t r k l. rw (← k, ne_eqb _ 4 (other_kind For c.args.kind c.in_default.not-For))
