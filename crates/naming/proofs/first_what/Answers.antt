-- `naming::first_what` meets its contract. Arm by arm: the role fixes what its first output is.
-- Assumes nothing.
use native.Mathlib.Omega.{arith}
use borrow.Author.Tests.{ne_eqb}
use Rattle.naming.specs.Parts.{first_what}
use Rattle.naming.proofs.first_what.Goals as goal

pub returns-in-0 : goal.returns-in-0
unfolding first_what
returns-in-0 c = (rw c.in-0.is, omega arith)

pub returns-in-1 : goal.returns-in-1
unfolding first_what
returns-in-1 c = (rw c.in-1.is, omega arith)

pub returns-in-2 : goal.returns-in-2
unfolding first_what
returns-in-2 c = (rw c.in-2.is, omega arith)

pub returns-in-3 : goal.returns-in-3
unfolding first_what
returns-in-3 c = (rw c.in-3.is, omega arith)

pub returns-in-4 : goal.returns-in-4
unfolding first_what
returns-in-4 c = (rw c.in-4.is, omega arith)

pub returns-in-5 : goal.returns-in-5
unfolding first_what
returns-in-5 c = (rw c.in-5.is, omega arith)

pub returns-in-6 : goal.returns-in-6
unfolding first_what
returns-in-6 c = (rw c.in-6.is, omega arith)

pub returns-in_default : goal.returns-in_default
unfolding first_what
returns-in_default c = let r = c.in_default.in_default-own.rest in (simp (ne_eqb _ 0 r.0.0.0.0.0.0.1, ne_eqb _ 1 r.0.0.0.0.0.1, ne_eqb _ 2 r.0.0.0.0.1, ne_eqb _ 3 r.0.0.0.1, ne_eqb _ 4 r.0.0.1, ne_eqb _ 5 r.0.1, ne_eqb _ 6 r.1), omega arith)
