-- `readings::rows_of` counts the rows of a kind. Assumes nothing.
use Rattle.std.specs.Prelude.{ℕ, ◌≡◌, ◌≢◌, ◌+◌, List}
use Rattle.std.proofs.Common.{sym, ◌∙◌, ap, eq-eqb, add-one, arith}
use borrow.Author.Tests.{ne_eqb}
use Rattle.table.specs.Rows.{kind_at}
use Rattle.table.specs.Counted.{rows_of, none_below}
use Rattle.readings.proofs.rows_of.Goals as goal
use Rattle.readings.proofs.rows_of.Goals.{then-kind_at-number, else-kind_at-number}

counted : (kind : ℕ) (t : List ℕ) (r n m : ℕ) → n ≡ rows_of kind t r → kind_at t r ≡ kind → m ≡ n + 1 → m ≡ rows_of kind t (r + 1)
unfolding rows_of
counted kind t r n m e k q = rw (add-one r, eq-eqb (kind_at t r) kind k) (q ∙ ap (λ (x : ℕ). x + 1) e ∙ add-one (rows_of kind t r))

passed : (kind : ℕ) (t : List ℕ) (r n m : ℕ) → n ≡ rows_of kind t r → kind_at t r ≢ kind → m ≡ n → m ≡ rows_of kind t (r + 1)
unfolding rows_of
passed kind t r n m e k q = rw (add-one r, ne_eqb (kind_at t r) kind k) (q ∙ e)

pub loop-r-init : goal.loop-r-init
loop-r-init c = (omega arith, sym (none_below _ _))

pub loop-r-preserved : goal.loop-r-preserved
loop-r-preserved c = elim c.if-kind_at-number.branch [
  | then-kind_at-number w ↦ (omega (arith, w.count-is, c.loop-r.invariant.0), counted _ _ _ _ _ c.loop-r.invariant.1 (sym c.kind_at.ensures ∙ w.if-kind_at-number.true) w.count-is)
  | else-kind_at-number w ↦ (omega (arith, w.count-is, c.loop-r.invariant.0), passed _ _ _ _ _ c.loop-r.invariant.1 (λ e. w.if-kind_at-number.false (c.kind_at.ensures ∙ e)) w.count-is)
]
