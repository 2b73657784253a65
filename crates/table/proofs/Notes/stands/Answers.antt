-- `table::Notes::stands` meets its contract. One return for each kind that needs a place among the loops. Assumes nothing.
use borrow.Author.Tests.{ne_eqb, eq-eqb, lt-ltb, le-ltb}
use Rattle.table.specs.declared.Kind.TheVariants.{Next, End, Out}
use Rattle.table.specs.Clauses.{stands_fault}
use Rattle.table.proofs.Different.{other_kind}
use Rattle.table.proofs.Notes.stands.Goals as goal

pub returns-in-None : goal.returns-in-None
unfolding stands_fault
returns-in-None c = rw (c.in-Next.is, c.in-None.ensures)

pub returns-in-Some : goal.returns-in-Some
unfolding stands_fault
returns-in-Some c = rw (c.in-Next.is, c.in-Some.ensures.0, lt-ltb _ _ c.if-last.true)

pub returns-in-Some-2 : goal.returns-in-Some-2
unfolding stands_fault
returns-in-Some-2 c = rw (c.in-Next.is, c.in-Some.ensures.0, le-ltb _ _ c.if-last.false)

pub returns-in-None-innermost : goal.returns-in-None-innermost
unfolding stands_fault
returns-in-None-innermost c = rw (c.in-End.is, c.in-None-innermost.ensures)

pub returns-in-Some-innermost : goal.returns-in-Some-innermost
unfolding stands_fault
returns-in-Some-innermost c = rw (c.in-End.is, c.in-Some-innermost.ensures.0, eq-eqb _ _ c.if-last-2.true)

pub returns-in-Some-2-innermost : goal.returns-in-Some-2-innermost
unfolding stands_fault
returns-in-Some-2-innermost c = rw (c.in-End.is, c.in-Some-innermost.ensures.0, ne_eqb _ _ c.if-last-2.false)

pub returns-in-None-innermost-2 : goal.returns-in-None-innermost-2
unfolding stands_fault
returns-in-None-innermost-2 c = rw (c.in-Out.is, c.in-None-innermost-2.ensures)

pub returns-in-Some-innermost-2 : goal.returns-in-Some-innermost-2
unfolding stands_fault
returns-in-Some-innermost-2 c = rw (c.in-Out.is, c.in-Some-innermost-2.ensures.0)

pub returns-in_default : goal.returns-in_default
unfolding stands_fault
returns-in_default c = let d = c.in_default in let k = c.args.kind in
    rw (ne_eqb _ 6 (other_kind Next k d.not-Next), ne_eqb _ 7 (other_kind End k d.not-End), ne_eqb _ 8 (other_kind Out k d.not-Out))
