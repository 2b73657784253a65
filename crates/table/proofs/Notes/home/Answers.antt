-- `table::Notes::home` meets its contract. One return for each kind of home. Assumes nothing.
use borrow.Author.Tests.{ne_eqb}
use Rattle.table.specs.declared.Kind.TheVariants.{For, Next}
use Rattle.table.specs.Scan.{home_by}
use Rattle.table.proofs.Different.{other_kind, early, late}
use Rattle.table.proofs.Notes.home.Goals as goal

pub returns-in-Input : goal.returns-in-Input
unfolding home_by
returns-in-Input c = rw (early c.args.kind c.in-Input.is)

pub returns-in-For : goal.returns-in-For
unfolding home_by
returns-in-For c = rw c.in-For.is

pub returns-in-Next : goal.returns-in-Next
unfolding home_by
returns-in-Next c = rw (c.in-Next.is, ← c.outward.ensures.0) c.inner.ensures

pub returns-in_default : goal.returns-in_default
unfolding home_by
returns-in_default c = let d = c.in_default in let k = c.args.kind in
    rw (late k d.not-Input d.not-Const, ne_eqb _ 4 (other_kind For k d.not-For), ne_eqb _ 6 (other_kind Next k d.not-Next)) c.inner-in_default.ensures
