-- The lines of words, rows and the sheet, one behind the other.
-- Assumes nothing.
use Prim.Native.Nat.{ℕ, suc, ◌+◌, ◌-◌, ◌*◌, ◌<◌, ◌≤◌}
use mathlib.Core.List.{List, [], ◌++◌, append_assoc}
use mathlib.Core.Path.{◌≡◌, sym, ap, ◌∙◌, subst}
use native.Mathlib.Omega.{arith}
use native.Mathlib.Nat.{sub-zero}
use lib.ListN.{length, length-append}
use lib.Seq.{sets}
use Rattle.table.specs.Rows.{kind_at, word, size, name_of, used_words}
use Rattle.sheet.specs.Sheet.{decimal, feed, line_of, rows_key, row_key, kind_key, word_key, words_text, row_text, rows_text, sheet_of}
use Rattle.sheet.proofs.Writing.{Put, behind}

-- the words from k on
module _ (t : List ℕ) (r used : ℕ) where
  pub words_all : words_text (used + 1 - 1) t r 1 ≡ words_text used t r 1
  words_all = let q : used + 1 - 1 ≡ used = omega arith in rw q

  pub words_go : (k : ℕ) {v : ℕ} → k ≤ used → v ≡ word t r k → words_text (used + 1 - k) t r k ≡ line_of (word_key k) (decimal v) ++ words_text (used + 1 - (k + 1)) t r (k + 1)
  unfolding words_text
  words_go k h e = let q : used + 1 - k ≡ suc (used + 1 - (k + 1)) = omega arith in rw (q, e)

  pub words_none : (k : ℕ) → used < k → words_text (used + 1 - k) t r k ≡ []
  unfolding words_text
  words_none k h = let q : used + 1 - k ≡ 0 = omega arith in rw q

-- the rows from r on
module _ (t : List ℕ) (n : ℕ) where
  pub rows_all : rows_text (n - 0) t 0 ≡ rows_text n t 0
  rows_all = rw sub-zero

  pub rows_go : (r : ℕ) → r < n → rows_text (n - r) t r ≡ row_text t r ++ rows_text (n - (r + 1)) t (r + 1)
  unfolding rows_text
  rows_go r h = let q : n - r ≡ suc (n - (r + 1)) = omega arith in rw q

  pub rows_none : (r : ℕ) → n ≤ r → rows_text (n - r) t r ≡ []
  unfolding rows_text
  rows_none r h = let q : n - r ≡ 0 = omega arith in rw q

regroup : (a k n f w : List ℕ) → a ++ ((k ++ (n ++ f)) ++ w) ≡ (a ++ k) ++ ((n ++ f) ++ w)
regroup a k n f w = simp append_assoc

-- A row as it is put: its start, its name with the line's end, its words.
module _ (t : List ℕ) (r kind used : ℕ) (e : kind ≡ kind_at t r) (f : used ≡ used_words kind) where
  row_parts : row_text t r ≡ (line_of row_key (decimal r) ++ kind_key) ++ ((name_of kind ++ feed) ++ words_text used t r 1)
  unfolding row_text line_of
  row_parts = rw (f, e) (regroup (line_of row_key (decimal r)) kind_key (name_of (kind_at t r)) feed (words_text (used_words (kind_at t r)) t r 1))

  pub row_room : length (row_text t r) ≡ length (line_of row_key (decimal r) ++ kind_key) + (length (name_of kind ++ feed) + length (words_text used t r 1))
  row_room = rw row_parts (length-append (line_of row_key (decimal r) ++ kind_key) _ ∙ ap (λ (n : ℕ). length (line_of row_key (decimal r) ++ kind_key) + n) (length-append (name_of kind ++ feed) (words_text used t r 1)))

  pub row_put : (l : List ℕ) (at : ℕ) {l₁ l₂ l₃ : List ℕ} {p q s : ℕ}
      → Put l at (line_of row_key (decimal r) ++ kind_key) l₁ p → Put l₁ p (name_of kind ++ feed) l₂ q → Put l₂ q (words_text used t r 1) l₃ s → Put l at (row_text t r) l₃ s
  row_put l at {l₁} {l₂} {l₃} {p} {q} {s} a b c =
      subst (λ (z : List ℕ). Put l at z l₃ s) (sym row_parts)
      (behind l at (line_of row_key (decimal r) ++ kind_key) ((name_of kind ++ feed) ++ words_text used t r 1) a (behind l₁ p (name_of kind ++ feed) (words_text used t r 1) b c))

-- The row count's line and the rows.
module _ (t : List ℕ) (n : ℕ) (e : length t ≡ 6 * n) where
  sheet_parts : sheet_of t ≡ line_of rows_key (decimal n) ++ rows_text n t 0
  unfolding sheet_of
  sheet_parts = let q : size t ≡ n = omega arith in rw q

  pub sheet_room : length (sheet_of t) ≡ length (line_of rows_key (decimal n)) + length (rows_text n t 0)
  sheet_room = rw sheet_parts (length-append (line_of rows_key (decimal n)) (rows_text n t 0))

  pub sheet_put : (l : List ℕ) {l₁ l₂ : List ℕ} {p q : ℕ} → Put l 0 (line_of rows_key (decimal n)) l₁ p → Put l₁ p (rows_text n t 0) l₂ q → (l₂ ≡ sets l 0 (sheet_of t)) × (q ≡ length (sheet_of t))
  sheet_put l {l₁} {l₂} {p} {q} a b =
      let h : Put l 0 (sheet_of t) l₂ q = subst (λ (z : List ℕ). Put l 0 z l₂ q) (sym sheet_parts) (behind l 0 (line_of rows_key (decimal n)) (rows_text n t 0) a b) in
      (h.0, let f = h.1 in omega arith)
