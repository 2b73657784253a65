-- `table::Notes::check_names` meets its contract. Invariant: the operands from word k on decide the answer. Assumes nothing.
use Rattle.table.proofs.Words.{first_go, first_stop, first_end}
use Rattle.table.proofs.Visible.{name_told}
use Rattle.table.proofs.Different.{name_fault_counts}
use Rattle.table.specs.Clauses.{is_seen, hidden_word}
use borrow.Author.Tests.{ne_eqb}
use native.Mathlib.Omega.{arith}
use mathlib.Core.Path.{◌≡◌, refl, sym, ◌∙◌}
use Prim.Native.Nat.{◌+◌, ◌-◌}
use Rattle.table.proofs.Notes.check_names.Goals as goal

pub loop-k-init : goal.loop-k-init
unfolding hidden_word
loop-k-init c = let f = c.first_operand-first in let m = c.operand_count in
    let e : f.result + m.result - f.result ≡ m.result = omega arith in
    rw (e, m.ensures.0, f.ensures.0, c.number.ensures, c.number-2.ensures, c.requires.2)

pub returns-in-Some : goal.returns-in-Some
returns-in-Some c = let a = c.args in
    let s = c.in-Some.ensures in
    let h = sym c.loop-k.invariant ∙ first_stop (is_seen a.table.now a.r) _ c.loop-k.k (omega arith) (rw (← c.word_at.ensures, ← s.0) (ne_eqb _ 0 (name_fault_counts c.in-Some.fault))) in
    (refl, λ q. absurd (omega arith), name_told a.table.now a.r c.loop-k.k h c.word_at.ensures s.0 s.1)

pub loop-k-preserved : goal.loop-k-preserved
loop-k-preserved c = sym (first_go (is_seen _ _) _ _ (omega arith) (rw (← c.word_at.ensures, ← c.in_default.ensures.0))) ∙ c.loop-k.invariant

pub returns : goal.returns
returns c = sym c.loop-k.invariant ∙ first_end (is_seen _ _) _ _ (omega arith)
