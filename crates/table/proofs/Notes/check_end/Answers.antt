-- `table::Notes::check_end` meets its contract. No loop is open exactly at depth 0. Assumes nothing.
use mathlib.Core.Path.{◌≡◌, sym, ap, refl}
use native.Mathlib.Omega.{arith}
use borrow.Author.Tests.{eq-eqb, ne_eqb}
use Rattle.table.specs.declared.Kind.TheVariants.{Out}
use Rattle.table.specs.Kinds.{kind_number}
use Rattle.table.specs.Clauses.{explained}
use Rattle.table.proofs.Noting.{loop_is, outside_is, rows_open, rows_outless, rows_pass}
use Rattle.table.proofs.Different.{other_kind}
use Rattle.table.proofs.Notes.check_end.Goals as goal

pub returns-then-self-gt0 : goal.returns-then-self-gt0
unfolding explained
returns-then-self-gt0 c = λ t N. let d = c.args.self.now.loops.depth in
    (sym (rows_open t N c.if-self-gt0.true), rw (outside_is t N, ne_eqb d 0 (λ q. omega arith)) (loop_is t _ 1 c.innermost.result N c.innermost.ensures))

pub returns-in-Out : goal.returns-in-Out
unfolding explained
returns-in-Out c = λ t N. (sym (rows_pass t N c.if-self-gt0.false (ap kind_number c.in-Out.is)), refl)

pub returns-in_default : goal.returns-in_default
unfolding explained
returns-in_default c = λ t N. let d = c.args.self.now.loops.depth in let z : d ≡ 0 = omega arith in
    (sym (rows_outless t N c.if-self-gt0.false (other_kind Out c.args.self.now.before c.in_default.not-Out)), rw (outside_is t N, eq-eqb d 0 z) (loop_is t _ 2 c.innermost-in_default.result N c.innermost-in_default.ensures))
