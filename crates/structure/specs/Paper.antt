-- The rules of place as docs/RULES.md has them from the scope paper, over all rows above, and that the check's look at the row before is the same.
-- Main names: `other_before`, `out_before`, `paper_place`, `paper_refusal`. Main results: `the_papers_place`, `the_papers_refusal`.
-- Assumes nothing.
use Prim.Native.Nat.{ℕ, zero, suc, ◌+◌, ◌<◌, ◌≤◌}
use Rattle.std.specs.Prelude.{Bool, cond, ◌&&◌, ◌||◌, not, List, ◌≢◌, ◌≡◌, leb}
use Rattle.std.proofs.Math.Bool.{true, false}
use Rattle.std.proofs.Math.Path.{refl, sym, ap}
use Rattle.std.proofs.Common.{◌∙◌}
use native.Mathlib.Omega.{arith}
use Rattle.std.proofs.Math.Decide.{ℕ_discrete, dec_le}
use borrow.Author.Tests.{ne_eqb, eqb-true, eqb-false, le-ltb, lt-ltb, le-leb, lt-leb, ltb-false}
use Rattle.std.proofs.Math.Dec.{eqb, ltb}
use Rattle.table.specs.Rows.{kind_at, size}
use Rattle.table.specs.Scan.{stack_at}
use Rattle.table.specs.Check.{LENGTH, KIND, SPARE, CODE, PLACE, DEPTH, NAME, TYPE, OPEN, length_right, kind_right, spare_right, code_right, kind_before, follows, stands, place_right, depth_right, names_right, types_right, outside, end_right, or_else, row_refusal, Refusal, answer, rows_from, table_refusal}
use Rattle.table.specs.Right.{RowRight, passing_row_is_right}
use Rattle.structure.specs.Place.{behind_out, start_behind}

-- a row above r is neither INPUT nor CONST
unfoldable pub other_before : List ℕ → ℕ → Bool
other_before t zero = false
other_before t (suc r) = ltb 1 (kind_at t r) || other_before t r

-- a row above r is an OUT
unfoldable pub out_before : List ℕ → ℕ → Bool
out_before t zero = false
out_before t (suc r) = eqb (kind_at t r) 8 || out_before t r

-- if the first then the second
abbrev pub implies : Bool → Bool → Bool
implies a b = not a || b

-- 'No other kind stands above an INPUT or CONST. - The ARGs of a loop stand directly behind its FOR. - Behind a NEXT stands another NEXT or the
-- END'; 'Below an OUT there are only OUTs.'
-- What is said of the open loops is `stands`.
unfoldable pub paper_place : List ℕ → ℕ → Bool
paper_place t r =
    implies (leb (kind_at t r) 1) (not (other_before t r))
    && (implies (eqb (kind_at t r) 5) (eqb (kind_before t r) 4 || eqb (kind_before t r) 5)
    && (implies (eqb (kind_before t r) 6) (eqb (kind_at t r) 6 || eqb (kind_at t r) 7)
    && implies (out_before t r) (eqb (kind_at t r) 8)))
    && stands (kind_at t r) (stack_at t r)

-- ---- the rules over bare kinds: b of the row before, k of the row
near : ℕ → ℕ → Bool
near b k =
    implies (leb k 1) (not (ltb 1 b))
    && (implies (eqb k 5) (eqb b 4 || eqb b 5) && (implies (eqb b 6) (eqb k 6 || eqb k 7) && implies (eqb b 8) (eqb k 8)))

and_false : (x y : Bool) → (x && (y && false)) ≡ false
and_false true true = refl
and_false true false = refl
and_false false y = refl

and_true : (x : Bool) → (x && true) ≡ x
and_true true = refl
and_true false = refl

not_more : (b : ℕ) → not (ltb 1 b) ≡ leb b 1
not_more b = elim (dec_le b 1) [ yes p ↦ rw (le-ltb 1 b p, le-leb b 1 p) | no p ↦ rw (lt-ltb 1 b (over p), lt-leb b 1 (over p)) ]
  where
    over : (b ≤ 1 → ⊥) → 1 < b
    over p = omega arith

-- behind an OUT, behind a NEXT, behind another kind
near_out : (k : ℕ) → near 8 k ≡ follows 8 k
unfolding near follows
near_out k =
    elim (ℕ_discrete k 8) [ yes e ↦ rw e | no n ↦ rw (ne_eqb k 8 n) (and_false (not (leb k 1) || false) (not (eqb k 5) || false)) ]

near_next : (k : ℕ) → near 6 k ≡ follows 6 k
unfolding near follows
near_next k =
    elim (ℕ_discrete k 6) [
      | yes e ↦ rw e
      | no n ↦ elim (ℕ_discrete k 7) [
        | yes e ↦ rw e
        | no m ↦ rw (ne_eqb k 6 n, ne_eqb k 7 m) (and_false (not (leb k 1) || false) (not (eqb k 5) || false))
      ]
    ]

near_other : (b k : ℕ) → b ≢ 8 → b ≢ 6 → near b k ≡ follows b k
unfolding near follows
near_other b k n8 n6 =
    rw (ne_eqb b 8 n8, ne_eqb b 6 n6)
    (elim (dec_le k 1) [
      | yes p ↦ rw (le-leb k 1 p, ne_eqb k 5 (five p)) (and_true (not (ltb 1 b)) ∙ not_more b)
      | no p ↦ elim (ℕ_discrete k 5) [ yes e ↦ rw e (and_true (eqb b 4 || eqb b 5)) | no m ↦ rw (lt-leb k 1 (over p), ne_eqb k 5 m) ]
    ])
  where
    five : k ≤ 1 → k ≡ 5 → ⊥
    five p e = omega arith

    over : (k ≤ 1 → ⊥) → 1 < k
    over p = omega arith

near_follows : (b k : ℕ) → near b k ≡ follows b k
near_follows b k =
    elim (ℕ_discrete b 8) [ yes e ↦ rw e (near_out k) | no n ↦ elim (ℕ_discrete b 6) [ yes e ↦ rw e (near_next k) | no m ↦ near_other b k n m ] ]

-- ---- where the rows before are right, the row before tells of all
module _ (t : List ℕ) where
  others_told : (r : ℕ) → ((x : ℕ) → x < r → RowRight t x) → other_before t r ≡ ltb 1 (kind_before t r)
  unfolding other_before
  others_told zero ok = sym (le-ltb 1 0 (omega arith))
  others_told (suc r) ok = ap (λ (b : Bool). ltb 1 (kind_at t r) || b) (others_told r (λ x h. ok x (omega arith))) ∙ go (ltb 1 (kind_at t r)) refl
    where
      go : (c : Bool) → ltb 1 (kind_at t r) ≡ c → (c || ltb 1 (kind_before t r)) ≡ c
      go true e = refl
      go false e = le-ltb 1 (kind_before t r) (start_behind t r (ok r (omega arith)) (ltb-false 1 (kind_at t r) e))

  outs_told : (r : ℕ) → ((x : ℕ) → x < r → RowRight t x) → out_before t r ≡ eqb (kind_before t r) 8
  unfolding out_before
  outs_told zero ok = refl
  outs_told (suc r) ok = ap (λ (b : Bool). eqb (kind_at t r) 8 || b) (outs_told r (λ x h. ok x (omega arith))) ∙ go (eqb (kind_at t r) 8) (eqb (kind_before t r) 8) refl refl
    where
      go : (c d : Bool) → eqb (kind_at t r) 8 ≡ c → eqb (kind_before t r) 8 ≡ d → (c || d) ≡ c
      go true d e f = refl
      go false false e f = refl
      go false true e f = let z = behind_out t r (ok r (omega arith)) (eqb-true (kind_before t r) 8 f) in absurd (eqb-false (kind_at t r) 8 e z)

  -- PLACE IS WHAT THE RULES SAY OF ALL ROWS ABOVE
  pub the_papers_place : (r : ℕ) → ((x : ℕ) → x < r → RowRight t x) → place_right t r ≡ paper_place t r
  unfolding place_right paper_place near
  the_papers_place r ok =
      rw (others_told r ok, outs_told r ok) (ap (λ (b : Bool). b && stands (kind_at t r) (stack_at t r)) (sym (near_follows (kind_before t r) (kind_at t r))))

-- ---- the refusal with these rules of place, and with an OUT anywhere
unfoldable pub paper_row : List ℕ → ℕ → ℕ
paper_row t r =
    or_else (kind_right t r) KIND
    (or_else (spare_right t r) SPARE
    (or_else (code_right t r) CODE
    (or_else (paper_place t r) PLACE
    (or_else (depth_right t r) DEPTH (or_else (names_right t r) NAME (or_else (types_right t r) TYPE 0))))))

-- 9 OPEN: 'every loop is closed, and there is an OUT'
unfoldable pub paper_end : List ℕ → Bool
paper_end t = outside (stack_at t (size t)) && out_before t (size t)

unfoldable pub paper_rows_from : ℕ → List ℕ → ℕ → Refusal
paper_rows_from zero t r = cond (paper_end t) (answer 0 0) (answer OPEN r)
paper_rows_from (suc m) t r = cond (eqb (paper_row t r) 0) (paper_rows_from m t (r + 1)) (answer (paper_row t r) r)

unfoldable pub paper_refusal : List ℕ → Refusal
paper_refusal t = cond (length_right t) (paper_rows_from (size t) t 0) (answer LENGTH 0)

module _ (t : List ℕ) where
  same_row : (r : ℕ) → ((x : ℕ) → x < r → RowRight t x) → row_refusal t r ≡ paper_row t r
  unfolding row_refusal paper_row
  same_row r ok = rw (the_papers_place t r ok)

  same_end : ((x : ℕ) → x < size t → RowRight t x) → end_right t ≡ paper_end t
  unfolding end_right paper_end
  same_end ok = rw (outs_told t (size t) ok)

  same_rows : (m r : ℕ) → r + m ≡ size t → ((x : ℕ) → x < r → RowRight t x) → rows_from m t r ≡ paper_rows_from m t r
  unfolding rows_from paper_rows_from
  same_rows zero r e ok = rw (same_end (λ x h. ok x (omega arith)))
  same_rows (suc m) r e ok = rw (← same_row r ok) (go (row_refusal t r) refl (same_rows m (r + 1) (omega arith)))
    where
      here : row_refusal t r ≡ 0 → (x : ℕ) → x < r + 1 → RowRight t x
      here z x h = elim (ℕ_discrete x r) [ yes q ↦ rw q (passing_row_is_right t r z) | no q ↦ ok x (under q h) ]
        where
          under : x ≢ r → x < r + 1 → x < r
          under q h = omega arith

      go : (k : ℕ) → row_refusal t r ≡ k → (((x : ℕ) → x < r + 1 → RowRight t x) → rows_from m t (r + 1) ≡ paper_rows_from m t (r + 1))
          → cond (eqb k 0) (rows_from m t (r + 1)) (answer k r) ≡ cond (eqb k 0) (paper_rows_from m t (r + 1)) (answer k r)
      go zero q IH = IH (here q)
      go (suc k) q IH = rw (ne_eqb (suc k) 0 (λ z. omega arith))

  -- AND SO IS THE REFUSAL
  pub the_papers_refusal : table_refusal t ≡ paper_refusal t
  unfolding table_refusal paper_refusal
  the_papers_refusal = rw (same_rows (size t) 0 (omega arith) (λ x h. absurd (omega arith)))
