-- `table::spare_word` meets its contract. Invariant: the words from k on decide the answer. Assumes nothing.
use Rattle.table.proofs.Words.{first_go, first_stop, first_end}
use Rattle.table.specs.Clauses.{is_zero, spare_word}
use borrow.Author.Tests.{ne_eqb}
use native.Mathlib.Omega.{arith}
use mathlib.Core.Path.{◌≡◌, sym, ◌∙◌}
use Prim.Native.Nat.{◌+◌, ◌-◌}
use Rattle.table.proofs.spare_word.Goals as goal

pub loop-k-init : goal.loop-k-init
unfolding spare_word
loop-k-init c = let u = c.used_words-k.ensures.0 in
    let e : 6 - (c.used_words-k.result + 1) ≡ 5 - c.used_words-k.result = omega arith in
    rw (e, u, c.kind_at.ensures)

pub returns-then-word_at-ne0 : goal.returns-then-word_at-ne0
returns-then-word_at-ne0 c = let a = c.args in (sym (first_stop (is_zero a.table.now a.r) 6 _ (omega arith) (rw (← c.word_at.ensures) (ne_eqb _ 0 c.if-word_at-ne0.true))) ∙ c.loop-k.invariant, omega arith, omega arith)

pub loop-k-preserved : goal.loop-k-preserved
loop-k-preserved c = let a = c.args in sym (first_go (is_zero a.table.now a.r) 6 _ (omega arith) (rw (← c.word_at.ensures, c.if-word_at-ne0.false))) ∙ c.loop-k.invariant

pub returns : goal.returns
returns c = let a = c.args in sym c.loop-k.invariant ∙ first_end (is_zero a.table.now a.r) 6 _ (omega arith)
