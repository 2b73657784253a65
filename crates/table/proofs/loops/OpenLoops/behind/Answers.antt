-- `table::loops::OpenLoops::behind` meets its contract. One return for each kind that changes the loops; counts stay below the row count. Assumes nothing.
use mathlib.Core.Path.{◌∙◌}
use borrow.Author.Tests.{ne_eqb}
use Rattle.table.specs.declared.Kind.TheVariants.{For, Arg, Next, End}
use Rattle.table.specs.Scan.{after}
use Rattle.table.proofs.Different.{other_kind}
use Rattle.table.proofs.loops.OpenLoops.behind.Goals as goal

pub returns-in-For : goal.returns-in-For
unfolding after
returns-in-For c = rw c.in-For.is c.inward.ensures

pub returns-in-End : goal.returns-in-End
unfolding after
returns-in-End c = rw c.in-End.is c.outward.ensures.0

pub returns-in-None : goal.returns-in-None
unfolding after
returns-in-None c = rw (c.in-Arg.is, c.in-None.ensures)

pub returns-in-Some : goal.returns-in-Some
unfolding after
returns-in-Some c = let l = c.in-Some.ensures.0 in let e = c.inward-in-Some.ensures in rw (c.in-Arg.is, l) (e ∙ rw c.outward-in-Some.ensures.0)

pub returns-in-None-innermost : goal.returns-in-None-innermost
unfolding after
returns-in-None-innermost c = rw (c.in-Next.is, c.in-None-innermost.ensures)

pub returns-in-Some-innermost : goal.returns-in-Some-innermost
unfolding after
returns-in-Some-innermost c = let l = c.in-Some-innermost.ensures.0 in let e = c.inward-in-Some-innermost.ensures in rw (c.in-Next.is, l) (e ∙ rw c.outward-in-Some-innermost.ensures.0)

pub returns-in_default : goal.returns-in_default
unfolding after
returns-in_default c = let d = c.in_default in let k = c.args.kind in
    rw (ne_eqb _ 4 (other_kind For k d.not-For), ne_eqb _ 5 (other_kind Arg k d.not-Arg), ne_eqb _ 6 (other_kind Next k d.not-Next), ne_eqb _ 7 (other_kind End k d.not-End))
