-- `laying::enter` meets its contract: the copy is there, or is laid down behind those of the smaller values. Assumes nothing.
use mathlib.Core.Path.{refl, sym, ◌∙◌}
use native.Mathlib.Numerals.{add-one}
use native.Mathlib.Omega.{arith}
use Rattle.structure.specs.Structure.{right_table_has_structure}
use Rattle.laying.proofs.Entered.{row_room, place_small, entered_there, entered_new}
use Rattle.laying.proofs.enter.Goals as goal

pub overflow_add-result : goal.overflow_add-result
overflow_add-result c = let P = c.requires in omega (arith, P.1.wire c.args.b, c.noted_at-w.ensures)

pub overflow_mul-result : goal.overflow_mul-result
overflow_mul-result c = let P = c.requires in omega (arith, place_small _ _ _ P.1 _ _ P.0 _ _ _ P.2 refl)

pub overflow_add-result-then-copies-b : goal.overflow_add-result-then-copies-b
overflow_add-result-then-copies-b c = let P = c.requires in omega (arith, P.1.wire c.args.b, c.noted_at-w.ensures, place_small _ _ _ P.1 _ _ P.0 _ _ _ P.2 refl)

pub returns-then-copies-b : goal.returns-then-copies-b
returns-then-copies-b c = let P = c.requires in entered_there _ _ _ P.1 _ _ P.0 _ _ _ _ _ _ P.2 (omega arith) c.noted_at-w.ensures refl (c.if-copies-b.true ∙ add-one _)

pub lay_copy-requires : goal.lay_copy-requires
lay_copy-requires c = let P = c.requires in
    (row_room _ _ _ P.1 _ _ P.0 _ _ _ _ P.2 (λ z. c.if-copies-b.false (z ∙ sym (add-one _))) refl c.noted_at.ensures, omega (arith, P.1.wire c.args.b, c.noted_at-w.ensures))

pub overflow_add-copies : goal.overflow_add-copies
overflow_add-copies c = let P = c.requires in omega (arith, place_small _ _ _ P.1 _ _ P.0 _ _ _ P.2 refl)

pub overflow_add-result-2 : goal.overflow_add-result-2
overflow_add-result-2 c = let P = c.requires in omega (arith, P.1.wire c.args.b, c.noted_at-w.ensures)

pub overflow_mul-result-2 : goal.overflow_mul-result-2
overflow_mul-result-2 c = let P = c.requires in omega (arith, place_small _ _ _ P.1 _ _ P.0 _ _ _ P.2 refl)

pub overflow_add-result-3 : goal.overflow_add-result-3
overflow_add-result-3 c = let P = c.requires in omega (arith, P.1.wire c.args.b, c.noted_at-w.ensures, place_small _ _ _ P.1 _ _ P.0 _ _ _ P.2 refl)

pub returns : goal.returns
returns c = let P = c.requires in
    entered_new _ _ _ P.1 _ _ P.0 (right_table_has_structure _ c.args.notes.now.noted.passing.right) _ _ _ _ _ _ _ _ _ P.2 (omega arith) c.noted_at.ensures c.noted_at-w.ensures refl (λ z. c.if-copies-b.false (z ∙ sym (add-one _))) c.sort_at.ensures c.lay_copy.ensures
