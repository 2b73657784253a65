-- What `write_sheet` answers: a refusal of the table, lent bytes that are too few, or the sheet.
-- Assumes nothing.
use Prim.Native.Nat.{ℕ, ◌+◌, ◌*◌, ◌<◌, ◌≤◌}
use mathlib.Core.Bool.{true}
use mathlib.Core.List.{List}
use mathlib.Core.Path.{◌≡◌, ap, ◌∙◌}
use native.Mathlib.Omega.{arith}
use borrow.Author.Tests.{ne_eqb, le-leb, lt-leb}
use lib.ListN.{length, take, drop, replicate, length-replicate}
use lib.Seq.{sets, sets-eq, take-append_seam, length-sets}
use Rattle.table.specs.Rows.{size}
use Rattle.table.specs.Check.{answer}
use Rattle.sheet.specs.Sheet.{sheet_of, sheet_refusal, has_sheet}
use Rattle.sheet_written.proofs.Long.{sheet_fits}
use Rattle.sheet.specs.Answers.{WriteAnswer, write_refusal, write_answer, bytes_after}

pub has_sheet_lem : (t : List ℕ) {k r : ℕ} → answer k r ≡ sheet_refusal t → k ≡ 0 → has_sheet t ≡ true
has_sheet_lem t e z = rw (← e, z)

-- The page on which the sheet is written has room for it, and the sheet is its front.
module _ (t : List ℕ) (k n : ℕ) (e : length t ≡ 6 * n) (h : n ≤ 512) (q : 65536 ≤ k) where
  pub page_room : length (sheet_of t) ≤ length (replicate {A = ℕ} k 0)
  page_room = let s : size t ≤ 512 = omega arith in let f = sheet_fits t s in rw length-replicate (omega arith)

  module _ {l : List ℕ} {p : ℕ} (w : (l ≡ sets (replicate k 0) 0 (sheet_of t)) × (p ≡ length (sheet_of t))) where
    pub page_long : p ≤ length l
    page_long = rw (w.0, w.1, length-sets) page_room

    pub page_front : take p l ≡ sheet_of t
    page_front = rw (w.0, w.1, sets-eq (sheet_of t) (replicate {A = ℕ} k 0) 0 (let r = page_room in omega arith)) (take-append_seam (sheet_of t) (drop (0 + length (sheet_of t)) (replicate {A = ℕ} k 0)))

module _ (t lent : List ℕ) where
  pub refused : {k r : ℕ} → answer k r ≡ sheet_refusal t → (k ≡ 0 → ⊥) → WriteAnswer t lent k r 0 lent
  unfolding write_answer write_refusal bytes_after
  refused {k} {r} e n = record { answer = rw (← e, ne_eqb k 0 n, ne_eqb k 0 n); lent_bytes = rw (← e, ne_eqb k 0 n, ne_eqb k 0 n) }

  pub no_room : {n p : ℕ} → length t ≡ 6 * n → has_sheet t ≡ true → p ≡ length (sheet_of t) → length lent < p → WriteAnswer t lent 10 n 0 lent
  unfolding write_answer write_refusal bytes_after
  no_room {n} {p} e h f l =
      let q : length lent < length (sheet_of t) = omega arith in let s : size t ≡ n = omega arith in
      record { answer = rw (h, lt-leb _ _ q, s); lent_bytes = rw (h, lt-leb _ _ q) }

  pub sheet_written_lem : {page after : List ℕ} {n p : ℕ} → has_sheet t ≡ true → page ≡ sheet_of t → p ≡ length (sheet_of t) → p ≤ length lent → (after ≡ sets lent 0 page) × (n ≡ 0 + length page)
      → WriteAnswer t lent 0 0 n after
  unfolding write_answer write_refusal bytes_after
  sheet_written_lem {page} {after} {n} {p} h e f l (g, d) =
      let m = ap length e in let q : length (sheet_of t) ≤ length lent = omega arith in let z : n ≡ length (sheet_of t) = omega arith in
      record { answer = rw (h, le-leb _ _ q, z); lent_bytes = rw (h, le-leb _ _ q) (g ∙ ap (sets lent 0) e) }
