-- THE SHEET OF A TABLE: docs/RULES.md, section 'Sheets'.
--
--   decimal               a number's digits
--   line_of                a line: key, value and line feed
--   row_text, rows_text     a row's lines, the lines of all rows
--   sheet_of               the sheet
--   sheet_refusal, has_sheet  1 to 3, which say whether a table has one
--
-- A text is the list of its bytes. Assumes nothing.
use Rattle.std.specs.Prelude.{ℕ, zero, suc, ◌+◌, ◌/◌, ◌%◌, Bool, cond, List, [], ◌∷◌, ◌++◌, eqb, ltb}
use Rattle.table.specs.Letters.{letters}
use Rattle.table.specs.Rows.{kind_at, word, size, name_of, used_words}
use Rattle.table.specs.Check.{Refusal, answer, LENGTH, KIND, SPARE, length_right, kind_right, spare_right, or_else}

-- 'Numbers are decimal, without leading zeros'. So many digits and one more at most: ten are enough for a word.
unfoldable pub decimal_by : ℕ → ℕ → List ℕ
decimal_by zero v = (48 + v) ∷ []
decimal_by (suc f) v = cond (ltb v 10) ((48 + v) ∷ []) (decimal_by f (v / 10) ++ ((48 + v % 10) ∷ []))

unfoldable pub decimal : ℕ → List ℕ
decimal v = decimal_by 9 v

abbrev pub feed : List ℕ
feed = letters "\n"

-- 'a key, an equals sign and a value, and it ends with one line feed'
unfoldable pub line_of : List ℕ → List ℕ → List ℕ
line_of key value = key ++ (value ++ feed)

abbrev pub rows_key : List ℕ
rows_key = letters "rows="

abbrev pub row_key : List ℕ
row_key = letters "row="

abbrev pub kind_key : List ℕ
kind_key = letters "kind="

-- `a=` for word 1, and so on: a is byte 97
abbrev pub word_key : ℕ → List ℕ
word_key k = (96 + k) ∷ letters "="

-- so many words of row r, from word k up, a line each
unfoldable pub words_text : ℕ → List ℕ → ℕ → ℕ → List ℕ
words_text zero t r k = []
words_text (suc m) t r k = line_of (word_key k) (decimal (word t r k)) ++ words_text m t r (k + 1)

-- 'a line with its number, a line with its kind's name, and a line for each word that the kind uses'
unfoldable pub row_text : List ℕ → ℕ → List ℕ
row_text t r =
    line_of row_key (decimal r) ++ (line_of kind_key (name_of (kind_at t r)) ++ words_text (used_words (kind_at t r)) t r 1)

-- so many rows from row r up
unfoldable pub rows_text : ℕ → List ℕ → ℕ → List ℕ
rows_text zero t r = []
rows_text (suc m) t r = row_text t r ++ rows_text m t (r + 1)

unfoldable pub sheet_of : List ℕ → List ℕ
sheet_of t = line_of rows_key (decimal (size t)) ++ rows_text (size t) t 0

-- 'any table that passes 1, 2 and 3': 1 first, then 2 and 3 row by row, with the row; 0 and 0 where it passes
unfoldable pub row_fault : List ℕ → ℕ → ℕ
row_fault t r = or_else (kind_right t r) KIND (or_else (spare_right t r) SPARE 0)

unfoldable pub fault_from : ℕ → List ℕ → ℕ → Refusal
fault_from zero t r = answer 0 0
fault_from (suc m) t r = cond (eqb (row_fault t r) 0) (fault_from m t (r + 1)) (answer (row_fault t r) r)

unfoldable pub sheet_refusal : List ℕ → Refusal
sheet_refusal t = cond (length_right t) (fault_from (size t) t 0) (answer LENGTH 0)

abbrev pub has_sheet : List ℕ → Bool
has_sheet t = eqb (sheet_refusal t).number 0
