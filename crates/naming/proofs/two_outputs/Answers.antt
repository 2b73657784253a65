-- `naming::two_outputs` meets its contract. Arm by arm: the role fixes whether it has a second output.
-- Assumes nothing.
use borrow.Author.Tests.{ne_eqb}
use Rattle.naming.specs.Parts.{two_outputs}
use Rattle.naming.proofs.two_outputs.Goals as goal

pub returns-in-1 : goal.returns-in-1
unfolding two_outputs
returns-in-1 c = rw c.in-1.is

pub returns-in-2 : goal.returns-in-2
unfolding two_outputs
returns-in-2 c = rw c.in-2.is

pub returns-in-4 : goal.returns-in-4
unfolding two_outputs
returns-in-4 c = rw c.in-4.is

pub returns-in-7 : goal.returns-in-7
unfolding two_outputs
returns-in-7 c = rw c.in-7.is

pub returns-in_default : goal.returns-in_default
unfolding two_outputs
returns-in_default c = let r = c.in_default.in_default-own.rest in simp (ne_eqb _ 1 r.0.0.0.1, ne_eqb _ 2 r.0.0.1, ne_eqb _ 4 r.0.1, ne_eqb _ 7 r.1)
