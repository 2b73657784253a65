-- `table::code_word` meets its contract. Invariant: the words from k on decide the answer. Assumes nothing.
use Rattle.table.proofs.Words.{first_go, first_stop, first_end}
use Rattle.table.specs.Rows.{field_at}
use Rattle.table.specs.Clauses.{code_word}
use Rattle.table.specs.Check.{is_code}
use native.Mathlib.Omega.{arith}
use mathlib.Core.Path.{refl, sym, ◌∙◌}
use Rattle.table.proofs.code_word.Goals as goal

pub loop-k-init : goal.loop-k-init
unfolding code_word
loop-k-init c = refl

pub returns-then-not-allows : goal.returns-then-not-allows
unfolding field_at
returns-then-not-allows c = let a = c.args in (sym (first_stop (is_code a.table.now a.r) 6 _ (omega arith) (rw (← c.word_at.ensures, ← c.kind_at.ensures, ← c.fields_by_number-fields.ensures, ← c.at.ensures, ← c.allows.ensures) c.if-not-allows.true)) ∙ c.loop-k.invariant, omega arith, omega arith)

pub loop-k-preserved : goal.loop-k-preserved
unfolding field_at
loop-k-preserved c = let a = c.args in sym (first_go (is_code a.table.now a.r) 6 _ (omega arith) (rw (← c.word_at.ensures, ← c.kind_at.ensures, ← c.fields_by_number-fields.ensures, ← c.at.ensures, ← c.allows.ensures) c.if-not-allows.false)) ∙ c.loop-k.invariant

pub returns : goal.returns
returns c = let a = c.args in sym c.loop-k.invariant ∙ first_end (is_code a.table.now a.r) 6 _ (omega arith)
