-- How many rows of a kind a table has.
-- Main names: `rows_of`; `none_below`, `rows_few`, `rows_rise`, `row_below_lem`.
-- Assumes nothing.
use Rattle.std.specs.Prelude.{ℕ, zero, suc, ◌+◌, ◌-◌, ◌≤◌, ◌<◌, Bool, true, false, cond, List, ◌≡◌, refl, eqb}
use Rattle.std.proofs.Common.{ap, arith, eq-eqb}
use Rattle.table.specs.Rows.{kind_at}

-- how many of the rows below r are of this kind
unfoldable pub rows_of : ℕ → List ℕ → ℕ → ℕ
rows_of kind t zero = 0
rows_of kind t (suc r) = cond (eqb (kind_at t r) kind) (suc (rows_of kind t r)) (rows_of kind t r)

pub none_below : (kind : ℕ) (t : List ℕ) → rows_of kind t 0 ≡ 0
unfolding rows_of
none_below kind t = refl

pub rows_few : (kind : ℕ) (t : List ℕ) (r : ℕ) → rows_of kind t r ≤ r
unfolding rows_of
rows_few kind t zero = omega arith
rows_few kind t (suc r) = go (eqb (kind_at t r) kind) (rows_few kind t r)
  where
    go : (b : Bool) → rows_of kind t r ≤ r → cond b (suc (rows_of kind t r)) (rows_of kind t r) ≤ suc r
    go true h = omega arith
    go false h = omega arith

rows_grow : (kind : ℕ) (t : List ℕ) (r m : ℕ) → rows_of kind t r ≤ rows_of kind t (r + m)
unfolding rows_of
rows_grow kind t r zero = let e : r + 0 ≡ r = omega arith in rw e (omega arith)
rows_grow kind t r (suc m) = let e : r + suc m ≡ suc (r + m) = omega arith in rw e (go (eqb (kind_at t (r + m)) kind) (rows_grow kind t r m))
  where
    go : (b : Bool) → rows_of kind t r ≤ rows_of kind t (r + m) → rows_of kind t r ≤ cond b (suc (rows_of kind t (r + m))) (rows_of kind t (r + m))
    go true h = omega arith
    go false h = h

pub rows_rise : (kind : ℕ) (t : List ℕ) (r n : ℕ) → r ≤ n → rows_of kind t r ≤ rows_of kind t n
rows_rise kind t r n l = let e : r + (n - r) ≡ n = omega arith in let g = rows_grow kind t r (n - r) in let h = ap (rows_of kind t) e in omega arith

one_row : (kind : ℕ) (t : List ℕ) (r : ℕ) → kind_at t r ≡ kind → rows_of kind t (suc r) ≡ suc (rows_of kind t r)
unfolding rows_of
one_row kind t r k = rw (eq-eqb (kind_at t r) kind k)

-- a row of the kind has fewer of them before it than there are
pub row_below_lem : (kind : ℕ) (t : List ℕ) (r n : ℕ) → r < n → kind_at t r ≡ kind → rows_of kind t r < rows_of kind t n
row_below_lem kind t r n l k = let g = rows_rise kind t (suc r) n l in let q = one_row kind t r k in omega arith
