-- What a passing row and a passing table have passed, test by test.
-- Main results: `number_0_is_right` and `right_table_passes`: the answer is 0 exactly where every test holds. `passing_row_is_right`, `right_row_passes` say it of a row.
-- Assumes nothing.
use Rattle.std.specs.Prelude.{ℕ, zero, suc, ◌+◌, ◌<◌, ◌≤◌, Bool, true, false, cond, List, ◌≡◌, refl, eqb}
use Rattle.std.proofs.Common.{ap, ⊎_elim, arith, eq-or-lt_of_le, ne_eqb}
use Rattle.table.specs.Rows.{size}
use Rattle.table.specs.Check.{length_right, kind_right, spare_right, code_right, place_right, depth_right, names_right, types_right, end_right, or_else, row_refusal, Refusal, answer, rows_from, table_refusal}

-- row r passes 2 to 8
pub record RowRight (t : List ℕ) (r : ℕ) : Type 0 where
  pub kind : kind_right t r ≡ true
  pub spare : spare_right t r ≡ true
  pub code : code_right t r ≡ true
  pub place : place_right t r ≡ true
  pub depth : depth_right t r ≡ true
  pub names : names_right t r ≡ true
  pub types : types_right t r ≡ true

-- the whole table passes 1 to 9
pub record TableRight (t : List ℕ) : Type 0 where
  pub long : length_right t ≡ true
  pub row : (r : ℕ) → r < size t → RowRight t r
  pub ended : end_right t ≡ true

-- a chain of tests that comes to 0 has passed its first test, and the rest comes to 0
passed : (b : Bool) (k rest : ℕ) → or_else b (suc k) rest ≡ 0 → (b ≡ true) × (rest ≡ 0)
passed true k rest e = (refl, e)
passed false k rest e = let z : suc k ≡ 0 = e in absurd (omega arith)

pub passing_row_is_right : (t : List ℕ) (r : ℕ) → row_refusal t r ≡ 0 → RowRight t r
unfolding row_refusal
passing_row_is_right t r e =
    let p2 = passed (kind_right t r) 1 _ e in
    let p3 = passed (spare_right t r) 2 _ p2.1 in
    let p4 = passed (code_right t r) 3 _ p3.1 in
    let p5 = passed (place_right t r) 4 _ p4.1 in
    let p6 = passed (depth_right t r) 5 _ p5.1 in
    let p7 = passed (names_right t r) 6 _ p6.1 in
    let p8 = passed (types_right t r) 7 _ p7.1 in
    record {
      kind = p2.0;
      spare = p3.0;
      code = p4.0;
      place = p5.0;
      depth = p6.0;
      names = p7.0;
      types = p8.0;
    }

-- a test that leads to no refusal holds
held : (b : Bool) (x : Refusal) (k r : ℕ) → (cond b x (answer (suc k) r)).number ≡ 0 → (b ≡ true) × (x.number ≡ 0)
held true x k r e = (refl, e)
held false x k r e = let z : suc k ≡ 0 = e in absurd (omega arith)

row_held : (k r : ℕ) (x : Refusal) → (cond (eqb k 0) x (answer k r)).number ≡ 0 → (k ≡ 0) × (x.number ≡ 0)
row_held zero r x e = (refl, e)
row_held (suc k) r x e = let z : suc k ≡ 0 = simp (ne_eqb (suc k) 0 (λ q. omega arith)) at e in absurd (omega arith)

rows_held : (t : List ℕ) (m r : ℕ) → (rows_from m t r).number ≡ 0 → ((k : ℕ) → r ≤ k → k < r + m → row_refusal t k ≡ 0) × (end_right t ≡ true)
unfolding rows_from
rows_held t zero r e = (λ k l h. absurd (omega arith), (held (end_right t) (answer 0 0) 8 r e).0)
rows_held t (suc m) r e =
    let p = row_held (row_refusal t r) r (rows_from m t (r + 1)) e in
    let q = rows_held t m (r + 1) p.1 in
    (λ k l h. ⊎_elim (λ (z : r ≡ k). rw (← z) p.0) (λ (z : r < k). q.0 k (omega arith) (omega arith)) (eq-or-lt_of_le l), q.1)

-- A TABLE WITH THE ANSWER 0 HAS PASSED EVERY TEST
pub number_0_is_right : (t : List ℕ) → (table_refusal t).number ≡ 0 → TableRight t
unfolding table_refusal
number_0_is_right t e =
    let p = held (length_right t) (rows_from (size t) t 0) 0 0 e in
    let q = rows_held t (size t) 0 p.1 in
    record {
      long = p.0;
      row = λ r h. passing_row_is_right t r (q.0 r (omega arith) (omega arith));
      ended = q.1;
    }

pub passing_table_is_right : (t : List ℕ) → table_refusal t ≡ answer 0 0 → TableRight t
passing_table_is_right t e = number_0_is_right t (ap (λ (a : Refusal). a.number) e)

pub right_row_passes : (t : List ℕ) (r : ℕ) → RowRight t r → row_refusal t r ≡ 0
unfolding row_refusal
right_row_passes t r R = rw (R.kind, R.spare, R.code, R.place, R.depth, R.names, R.types)

rows_pass : (t : List ℕ) (m r : ℕ) → ((k : ℕ) → r ≤ k → k < r + m → RowRight t k) → end_right t ≡ true → rows_from m t r ≡ answer 0 0
unfolding rows_from
rows_pass t zero r all e = rw e
rows_pass t (suc m) r all e =
    rw (right_row_passes t r (all r (omega arith) (omega arith))) (rows_pass t m (r + 1) (λ k l h. all k (omega arith) (omega arith)) e)

-- A TABLE THAT PASSES EVERY TEST IS NOT REFUSED
pub right_table_passes : (t : List ℕ) → TableRight t → table_refusal t ≡ answer 0 0
unfolding table_refusal
right_table_passes t R = rw R.long (rows_pass t (size t) 0 (λ k l h. R.row k (omega arith)) R.ended)
