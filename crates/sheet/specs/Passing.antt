-- WHAT 1 TO 3 LET PASS: a table of words passes them exactly if it is 1 to 512 rows of six words, each a kind, the words that it uses, and zeros
-- (`passes_are_rows`, `rows_pass`). Assumes nothing.
use Prim.Native.Nat.{ℕ, zero, suc, ◌+◌, ◌-◌, ◌*◌, ◌%◌, ◌≤◌, ◌<◌}
use Rattle.std.specs.Prelude.{Bool, cond, ◌&&◌, ◌≡◌, leb}
use Rattle.std.proofs.Math.Bool.{true, false, and-eq-true_iff}
use mathlib.Core.List.{List, ◌∷◌, ◌++◌, append_assoc}
use Rattle.std.proofs.Math.Path.{refl, sym, ap, ap₂}
use Rattle.std.proofs.Common.{◌∙◌, add-zero, length-append, take-append-drop, drop-cons, drop-drop, get_or-drop}
use native.Mathlib.Omega.{arith}
use Rattle.std.proofs.Math.Numerals.{add-one}
use borrow.Author.Tests.{eqb-true, eqb-false, eq-eqb, leb-true, le-leb}
use Rattle.std.proofs.Math.Dec.{eqb}
use Rattle.std.proofs.Math.ListN.{length, get_or, take, drop, replicate, length-drop, drop_of_length-le}
use Rattle.std.proofs.Math.Seq.{take-add, drop_at, length-take-le}
use Rattle.table.specs.Rows.{kind_at, word, size, OUT, row_kinds, used_words, at_most_five}
use Rattle.table.specs.Check.{answer, LENGTH, KIND, SPARE, length_right, kind_right, zeros_from, spare_right, or_else}
use Rattle.sheet.specs.Sheet.{row_fault, fault_from, sheet_refusal, has_sheet}
use Rattle.sheet.specs.WordLines.{Small, small_take, small_drop, small_append, small_zeros}
use Rattle.sheet.specs.RowLines.{IsRow, zeros, six_words}
use Rattle.sheet.specs.TableLines.{AreRows}
use Rattle.sheet.specs.RowByRow.{from_row, next_row, next_word, first_is_kind}

module _ (t : List ℕ) where
  -- ---- the words that a kind does not use

  zeros_taken : (m r k : ℕ) → zeros_from m t r k ≡ true → 6 * r + k + m ≤ length t → take m (drop (6 * r + k) t) ≡ replicate m 0
  unfolding zeros_from
  zeros_taken zero r k h n = refl
  zeros_taken (suc m) r k h n =
      let p = (and-eq-true_iff (eqb (word t r k) 0) (zeros_from m t r (k + 1))).0 h in
      let w = eqb-true (word t r k) 0 p.0 in
      let q : zeros_from m t r (suc k) ≡ true = rw (add-one k) at p.1 in
      ap (λ (l : List ℕ). take (suc m) l) (next_word t r k (omega arith)) ∙ ap₂ {C = List ℕ} (λ a l. a ∷ l) w (zeros_taken m r (suc k) q (omega arith))

  zeros_found : (m r k : ℕ) (rest : List ℕ) → drop (6 * r + k) t ≡ replicate m 0 ++ rest → zeros_from m t r k ≡ true
  unfolding zeros_from
  zeros_found zero r k rest h = refl
  zeros_found (suc m) r k rest h =
      let w : word t r k ≡ 0 = sym (get_or-drop (6 * r + k) t 0 0 ∙ ap (λ n. get_or t n 0) (add-zero (6 * r + k))) ∙ ap (λ (l : List ℕ). get_or l 0 0) h in
      let e : 6 * r + suc k ≡ 6 * r + k + 1 = omega arith in
      let d : drop (6 * r + suc k) t ≡ replicate m 0 ++ rest =
      ap (λ n. drop n t) e ∙ sym (drop-drop 1 (6 * r + k) t) ∙ ap (λ (l : List ℕ). drop 1 l) h in
      rw (eq-eqb (word t r k) 0 w, add-one k) (zeros_found m r (suc k) rest d)

  -- ---- one row

  kind_known : (r : ℕ) → kind_right t r ≡ true → kind_at t r < length row_kinds
  unfolding kind_right
  kind_known r h = let z = leb-true (kind_at t r) OUT h in omega arith

  known_kind : (r : ℕ) → kind_at t r < length row_kinds → kind_right t r ≡ true
  unfolding kind_right
  known_kind r h = le-leb (kind_at t r) OUT (omega arith)

  fault_parts : (r : ℕ) → row_fault t r ≡ 0 → (kind_right t r ≡ true) × (spare_right t r ≡ true)
  unfolding row_fault
  fault_parts r h = by (kind_right t r) (spare_right t r) refl refl h
    where
      by : (a b : Bool) → kind_right t r ≡ a → spare_right t r ≡ b → or_else a KIND (or_else b SPARE 0) ≡ 0 → (kind_right t r ≡ true) × (spare_right t r ≡ true)
      by true true p q h = (p, q)
      by true false p q h = absurd (omega arith)
      by false b p q h = absurd (omega arith)

  row_right_lem : (r : ℕ) → 6 * r + 6 ≤ length t → Small t → row_fault t r ≡ 0 → IsRow (take 6 (from_row t r))
  unfolding spare_right
  row_right_lem r n s h =
      let p = fault_parts r h in let five = at_most_five (kind_at t r) in
      let long : length (drop (suc (6 * r)) t) ≡ length t - suc (6 * r) = length-drop (suc (6 * r)) t in
      record {
        kind = kind_at t r;
        ws = take (used_words (kind_at t r)) (drop (suc (6 * r)) t);
        known = kind_known r p.0;
        count = length-take-le (used_words (kind_at t r)) (drop (suc (6 * r)) t) (omega arith);
        small = small_take (used_words (kind_at t r)) (drop (suc (6 * r)) t) (small_drop (suc (6 * r)) t s);
        is =
            ap (λ (l : List ℕ). take 6 l) (drop-cons t (6 * r) 0 (omega arith))
            ∙ ap {B = List ℕ} (λ l. kind_at t r ∷ l) (in_two (used_words (kind_at t r)) five p.1);
      }
    where
      in_two : (u : ℕ) → u ≤ 5 → zeros_from (5 - u) t r (u + 1) ≡ true → take 5 (drop (suc (6 * r)) t) ≡ take u (drop (suc (6 * r)) t) ++ replicate (5 - u) 0
      in_two u f z =
          let a : 5 ≡ u + (5 - u) = omega arith in let b : suc (6 * r) + u ≡ 6 * r + (u + 1) = omega arith in
          ap (λ n. take n (drop (suc (6 * r)) t)) a ∙ take-add u (5 - u) (drop (suc (6 * r)) t)
          ∙ ap (λ (l : List ℕ). take u (drop (suc (6 * r)) t) ++ l)
          (ap (λ (l : List ℕ). take (5 - u) l) (drop-drop u (suc (6 * r)) t ∙ ap (λ n. drop n t) b) ∙ zeros_taken (5 - u) r (u + 1) z (omega arith))

  row_passes : (r : ℕ) (row rest : List ℕ) → IsRow row → from_row t r ≡ row ++ rest → row_fault t r ≡ 0
  unfolding row_fault spare_right
  row_passes r row rest p h =
      let l : from_row t r ≡ p.kind ∷ (p.ws ++ (zeros p.kind ++ rest)) =
      h ∙ ap (λ (l : List ℕ). l ++ rest) p.is ∙ ap {B = List ℕ} (λ l. p.kind ∷ l) (append_assoc p.ws (zeros p.kind) rest) in
      let k : kind_at t r ≡ p.kind = sym (first_is_kind t r) ∙ ap (λ (l : List ℕ). get_or l 0 0) l in
      let e : 6 * r + (used_words p.kind + 1) ≡ 6 * r + suc (used_words p.kind) = omega arith in
      let z : drop (6 * r + (used_words p.kind + 1)) t ≡ zeros p.kind ++ rest =
      ap (λ n. drop n t) e ∙ sym (drop-drop (suc (used_words p.kind)) (6 * r) t) ∙ ap (λ (l : List ℕ). drop (suc (used_words p.kind)) l) l
      ∙ drop_at p.ws (zeros p.kind ++ rest) (used_words p.kind) p.count in
      rw (known_kind r (rw k p.known), k, zeros_found (5 - used_words p.kind) r (used_words p.kind + 1) rest z)

  -- ---- all rows

  rows_right_lem : (m r : ℕ) → length t ≡ 6 * (r + m) → Small t → (fault_from m t r).number ≡ 0 → AreRows m (from_row t r)
  unfolding fault_from
  rows_right_lem zero r n s h = drop_of_length-le t {i = 6 * r} (omega arith)
  rows_right_lem (suc m) r n s h = by (eqb (row_fault t r) 0) refl (rows_right_lem m (suc r) (omega arith) s) h
    where
      by : (e : Bool) → eqb (row_fault t r) 0 ≡ e → ((fault_from m t (suc r)).number ≡ 0 → AreRows m (from_row t (suc r)))
          → (cond e (fault_from m t (r + 1)) (answer (row_fault t r) r)).number ≡ 0 → AreRows (suc m) (from_row t r)
      by true e later h =
          let g : (fault_from m t (suc r)).number ≡ 0 = rw (← add-one r) h in (
            take 6 (from_row t r),
            from_row t (suc r),
            row_right_lem r (omega arith) s (eqb-true (row_fault t r) 0 e),
            later g,
            sym (take-append-drop 6 (from_row t r)) ∙ ap (λ (l : List ℕ). take 6 (from_row t r) ++ l) (next_row t r),
          )
      by false e later h = absurd (eqb-false (row_fault t r) 0 e h)

  rows_fault : (m r : ℕ) (l : List ℕ) → from_row t r ≡ l → AreRows m l → (fault_from m t r).number ≡ 0
  unfolding fault_from
  rows_fault zero r l h a = refl
  rows_fault (suc m) r l h (row, rest, p, q, e) =
      let d : from_row t (suc r) ≡ rest = sym (next_row t r) ∙ ap (λ (l : List ℕ). drop 6 l) (h ∙ e) ∙ drop_at row rest 6 (six_words row p) in
      rw (eq-eqb (row_fault t r) 0 (row_passes r row rest p (h ∙ e)), add-one r) (rows_fault m (suc r) rest d q)

-- ---- the table

row_small : (row : List ℕ) → IsRow row → Small row
row_small row p =
    let known = p.known in rw p.is (omega arith, small_append p.ws (zeros p.kind) p.small (small_zeros (5 - used_words p.kind)))

pub rows_are : (m : ℕ) (l : List ℕ) → AreRows m l → (length l ≡ 6 * m) × Small l
rows_are zero l a = rw a (refl, tt)
rows_are (suc m) l (row, rest, p, q, e) =
    let k = rows_are m rest q in let n = k.0 in let six = six_words row p in
    rw e (length-append row rest ∙ omega arith, small_append row rest (row_small row p) k.1)

-- 1 to 512 rows, none with words over
pub record Rows (t : List ℕ) : Type 0 where
  pub low : 1 ≤ size t
  pub high : size t ≤ 512
  pub even : length t ≡ 6 * size t
  pub rows : AreRows (size t) t

pub passes_are_rows : (t : List ℕ) → Small t → has_sheet t ≡ true → Rows t
unfolding sheet_refusal length_right
passes_are_rows t s h = by (eqb (length t % 6) 0) (leb 1 (size t)) (leb (size t) 512) refl refl refl (eqb-true (sheet_refusal t).number 0 h)
  where
    by : (a b c : Bool) → eqb (length t % 6) 0 ≡ a → leb 1 (size t) ≡ b → leb (size t) 512 ≡ c
        → (cond (a && (b && c)) (fault_from (size t) t 0) (answer LENGTH 0)).number ≡ 0 → Rows t
    by true true true i j k h =
        let x = eqb-true (length t % 6) 0 i in let e : length t ≡ 6 * size t = omega arith in
        record { low = leb-true 1 (size t) j; high = leb-true (size t) 512 k; even = e; rows = rows_right_lem t (size t) 0 (omega arith) s h }
    by true true false i j k h = absurd (omega arith)
    by true false c i j k h = absurd (omega arith)
    by false b c i j k h = absurd (omega arith)

pub rows_pass : (t : List ℕ) (m : ℕ) → 1 ≤ m → m ≤ 512 → AreRows m t → (size t ≡ m) × (has_sheet t ≡ true)
unfolding sheet_refusal length_right
rows_pass t m low high a =
    let n = (rows_are m t a).0 in let e : size t ≡ m = omega arith in let r : length t % 6 ≡ 0 = omega arith in
    (e, rw (eq-eqb (length t % 6) 0 r, e, le-leb 1 m low, le-leb m 512 high, rows_fault t m 0 t refl a))
