use Rattle.turning.proofs.Naming.{row_in}
use Rattle.turning.proofs.Beginning.{input_inside, input_word, const_word, other_word}
use Rattle.table.specs.Kinds.{apart}
use Rattle.table.specs.Counted.{rows_of, rows_few}
use Rattle.table.specs.declared.Kind.TheVariants.{Input, Const}
use native.Mathlib.Omega.{arith}
use lib.ListN.{get_or}
use mathlib.Core.Path.{◌∙◌, sym, ap}
use Rattle.turning.proofs.Rows.first_word.Goals as goal

pub bounds-inputs-before : goal.bounds-inputs-before
bounds-inputs-before c = let P = c.args.self.now.passes in input_inside _ _ _ _ (row_in P c.requires.0) c.requires.1 (c.requires.2 ∙ ap (rows_of 0 c.args.self.now.table.now) P.rows) (sym c.in-Input.ensures)

pub offset_bounds-inputs-before : goal.offset_bounds-inputs-before
offset_bounds-inputs-before c = let P = c.args.self.now.passes in let f = rows_few 0 c.args.self.now.table.now c.args.r in omega (arith, c.requires.0, c.requires.1, P.few)

pub returns-in-Input : goal.returns-in-Input
returns-in-Input c = ap (λ x. get_or c.args.inputs.now x 0) c.requires.1 ∙ sym (input_word _ _ _ (sym c.in-Input.ensures))

pub returns-in-Const : goal.returns-in-Const
returns-in-Const c = c.word_at.ensures ∙ sym (const_word _ _ _ (sym c.in-Const.ensures))

pub returns-in_default : goal.returns-in_default
returns-in_default c = sym (other_word _ _ _ (λ e. apart _ Input c.in_default.not-Input (c.kind.ensures ∙ e)) (λ e. apart _ Const c.in_default.not-Const (c.kind.ensures ∙ e)))
