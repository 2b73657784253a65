-- `table::mistyped_word` meets its contract. Invariant: the operands from word k on decide the answer. Assumes nothing.
use Rattle.table.proofs.Words.{first_go, first_stop, first_end}
use Rattle.table.specs.Clauses.{is_sorted, mistyped_word}
use borrow.Author.Tests.{ne_eqb, eq-eqb}
use native.Mathlib.Omega.{arith}
use mathlib.Core.Path.{◌≡◌, sym, ◌∙◌}
use Prim.Native.Nat.{◌+◌, ◌-◌}
use Rattle.table.proofs.mistyped_word.Goals as goal

pub loop-k-init : goal.loop-k-init
unfolding mistyped_word
loop-k-init c = let f = c.first_operand-first in let m = c.operand_count in
    let e : f.result + m.result - f.result ≡ m.result = omega arith in
    rw (e, m.ensures.0, f.ensures.0, c.kind_at-kind.ensures)

pub returns-then-sort_of-number : goal.returns-then-sort_of-number
returns-then-sort_of-number c = (sym (first_stop (is_sorted _ _) _ _ (omega arith) (rw (← c.word_at.ensures, ← c.sort_of.ensures, ← c.kind_at-kind.ensures, ← c.wanted_sort.ensures, ← c.number.ensures) (ne_eqb _ _ c.if-sort_of-number.true))) ∙ c.loop-k.invariant, omega arith, omega arith)

pub loop-k-preserved : goal.loop-k-preserved
loop-k-preserved c = sym (first_go (is_sorted _ _) _ _ (omega arith) (rw (← c.word_at.ensures, ← c.sort_of.ensures, ← c.kind_at-kind.ensures, ← c.wanted_sort.ensures, ← c.number.ensures) (eq-eqb _ _ c.if-sort_of-number.false))) ∙ c.loop-k.invariant

pub returns : goal.returns
returns c = sym c.loop-k.invariant ∙ first_end (is_sorted _ _) _ _ (omega arith)
