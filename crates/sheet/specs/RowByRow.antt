-- THE SHEET FRONT TO BACK: `sheet_of`, which asks for words by their places, is the text that is written from the words one after the other
-- (`sheet_by_rows`). Assumes nothing.
use Prim.Native.Nat.{ℕ, zero, suc, ◌+◌, ◌*◌, ◌≤◌, ◌<◌}
use mathlib.Core.List.{List, ◌∷◌, ◌++◌}
use Rattle.std.specs.Prelude.{◌≡◌, length, get_or, take, drop}
use Rattle.std.proofs.Math.Path.{refl, ap, ap₂}
use Rattle.std.proofs.Common.{sym, ◌∙◌, arith, add-one, add-zero, add-suc, drop-cons, get_or-drop}
use Rattle.std.proofs.Math.Seq.{drop-drop}
use Rattle.table.specs.Rows.{kind_at, word, size, used_words, at_most_five}
use Rattle.sheet.specs.Sheet.{decimal, line_of, rows_key, word_key, words_text, row_text, rows_text, sheet_of}
use Rattle.sheet.specs.WordLines.{lines_of}
use Rattle.sheet.specs.RowLines.{row_by}
use Rattle.sheet.specs.TableLines.{rows_by}

-- the list from row r on
abbrev pub from_row : List ℕ → ℕ → List ℕ
from_row t r = drop (6 * r) t

pub next_row : (t : List ℕ) (r : ℕ) → drop 6 (from_row t r) ≡ from_row t (suc r)
next_row t r = let e : 6 * r + 6 ≡ 6 * suc r = omega arith in drop-drop 6 (6 * r) t ∙ ap (λ n. drop n t) e

pub first_is_kind : (t : List ℕ) (r : ℕ) → get_or (from_row t r) 0 0 ≡ kind_at t r
first_is_kind t r = get_or-drop (6 * r) t 0 0 ∙ ap (λ n. get_or t n 0) (add-zero (6 * r))

pub next_word : (t : List ℕ) (r k : ℕ) → 6 * r + k < length t → drop (6 * r + k) t ≡ word t r k ∷ drop (6 * r + suc k) t
next_word t r k h = drop-cons t (6 * r + k) 0 h ∙ ap {B = List ℕ} (λ n. word t r k ∷ drop n t) (sym (add-suc (6 * r) k))

module _ (t : List ℕ) where
  words_text_lem : (m r k : ℕ) → 6 * r + k + m ≤ length t → words_text m t r k ≡ lines_of k (take m (drop (6 * r + k) t))
  unfolding words_text
  words_text_lem zero r k h = refl
  words_text_lem (suc m) r k h =
      ap (λ (l : List ℕ). line_of (word_key k) (decimal (word t r k)) ++ l) (rw (add-one k) (words_text_lem m r (suc k) (omega arith)))
      ∙ ap (λ (l : List ℕ). lines_of k (take (suc m) l)) (sym (next_word t r k (omega arith)))

  row_text_lem : (r : ℕ) → 6 * r + 6 ≤ length t → row_text t r ≡ row_by r (from_row t r)
  unfolding row_text
  row_text_lem r h =
      let u = at_most_five (kind_at t r) in
      rw (first_is_kind t r, drop-drop 1 (6 * r) t, words_text_lem (used_words (kind_at t r)) r 1 (omega arith))

  rows_text_lem : (m r : ℕ) → 6 * r + 6 * m ≤ length t → rows_text m t r ≡ rows_by r m (from_row t r)
  unfolding rows_text
  rows_text_lem zero r h = refl
  rows_text_lem (suc m) r h =
      ap₂ {C = List ℕ} (λ a b. a ++ b) (row_text_lem r (omega arith))
      (rw (add-one r, next_row t r) (rows_text_lem m (suc r) (omega arith)))

  pub sheet_by_rows : length t ≡ 6 * size t → sheet_of t ≡ line_of rows_key (decimal (size t)) ++ rows_by 0 (size t) t
  unfolding sheet_of
  sheet_by_rows h = ap (λ (l : List ℕ). line_of rows_key (decimal (size t)) ++ l) (rows_text_lem (size t) 0 (omega arith))
