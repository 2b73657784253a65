-- `table::first_operand` meets its contract. Word a, or b behind a code. Assumes nothing.
use Prim.Native.Nat.{ℕ, ◌+◌, ◌≤◌}
use mathlib.Core.Path.{◌≡◌, sym, ap, subst, ◌∙◌}
use Rattle.table.specs.Rows.{Fields, coded, first_operand, first_is_a_or_b}
use Rattle.table.proofs.first_operand.Goals as goal

pub returns : goal.returns
unfolding first_operand
returns c = let k = c.args.kind in
    let e : 1 + c.coded.result ≡ first_operand k = ap (λ (y : ℕ). 1 + y) (c.coded.ensures.0 ∙ ap (λ (u : Fields). coded u.a) c.fields_by_number.ensures) in
    let b = first_is_a_or_b k in (e, subst (λ (x : ℕ). 1 ≤ x) (sym e) b.0, subst (λ (x : ℕ). x ≤ 2) (sym e) b.1)
