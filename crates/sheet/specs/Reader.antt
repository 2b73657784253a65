-- THE READER OF SHEETS, part by part. A part of a text is read as a value, or the text cannot go on.
--
--   Read, and_then, farthest     what reading comes to; one part behind another; the better of two
--   fixed_from, number_from, kind_from
--   words_from, row_from, rows_from, table_from
--   read_sheet                   the whole text
--
-- That this is the reading which sheets themselves lay down: `read_back`, `one_sheet` and `read_means` in Statements.antt.
-- Assumes nothing.
use Rattle.std.specs.Prelude.{ℕ, zero, suc, ◌+◌, ◌*◌, ◌-◌, Bool, cond, ◌&&◌, List, [], ◌∷◌, ◌++◌, eqb, leb, length, replicate}
use Rattle.table.specs.Rows.{RowKind, row_kinds, used_words}
use Rattle.sheet.specs.Sheet.{decimal, line_of, feed, rows_key, row_key, kind_key, word_key}

-- A value and what stands behind its text; or what stands behind the longest part that can go on.
pub data Read (A : Type 0) : Type 0 where
  got : A → List ℕ → Read A
  bad : List ℕ → Read A

abbrev pub and_then : {A B : Type 0} → Read A → (A → List ℕ → Read B) → Read B
and_then (got v rest) next = next v rest
and_then (bad rest) next = bad rest

-- what is read either way; else what is left where more can go on
abbrev pub farthest : {A : Type 0} → Read A → Read A → Read A
farthest (got v rest) other = got v rest
farthest (bad rest) (got v other) = got v other
farthest (bad rest) (bad other) = bad (cond (leb (length rest) (length other)) rest other)

-- these bytes, which stand for v
unfoldable pub fixed_from : List ℕ → ℕ → List ℕ → Read ℕ
fixed_from [] v text = got v text
fixed_from (k ∷ ks) v [] = bad []
fixed_from (k ∷ ks) v (b ∷ text) = cond (eqb b k) (fixed_from ks v text) (bad (b ∷ text))

-- a digit
abbrev pub is_digit : ℕ → Bool
is_digit b = leb 48 b && leb b 57

-- behind the digits of v, which is not 0: digits as long as the number is at most `most`, or the line's end
unfoldable pub digits_from : ℕ → ℕ → List ℕ → Read ℕ
digits_from most v [] = bad []
digits_from most v (b ∷ text) =
    cond (is_digit b && leb (10 * v + (b - 48)) most) (digits_from most (10 * v + (b - 48)) text) (fixed_from feed v (b ∷ text))

-- a number from `least` to `most` and the line's end; `least` is 0 or 1, and behind a 0 there is no digit
unfoldable pub number_from : ℕ → ℕ → List ℕ → Read ℕ
number_from least most [] = bad []
number_from least most (b ∷ text) =
    cond (is_digit b && (leb least (b - 48) && leb (b - 48) most)) (cond (eqb b 48) (fixed_from feed 0 text) (digits_from most (b - 48) text)) (bad (b ∷ text))

-- the name of one of these kinds and the line's end; the first kind is number k
unfoldable pub names_from : List RowKind → ℕ → List ℕ → Read ℕ
names_from [] k text = bad text
names_from (u ∷ us) k text = farthest (fixed_from (u.name ++ feed) k text) (names_from us (suc k) text)

abbrev pub kind_from : List ℕ → Read ℕ
kind_from text = names_from row_kinds 0 text

abbrev pub most_word : ℕ
most_word = 4294967295

-- so many word lines, from word k on
unfoldable pub words_from : ℕ → ℕ → List ℕ → Read (List ℕ)
words_from k zero text = got [] text
words_from k (suc m) text =
    and_then (fixed_from (word_key k) k text)
    (λ _ text. and_then (number_from 0 most_word text) (λ w text. and_then (words_from (suc k) m text) (λ ws text. got (w ∷ ws) text)))

-- Row r: its six words. 'a line for each word that the kind uses'; the others are 0.
unfoldable pub row_from : ℕ → List ℕ → Read (List ℕ)
row_from r text =
    and_then (fixed_from (line_of row_key (decimal r) ++ kind_key) r text)
    (λ _ text. and_then (kind_from text)
    (λ kind text. and_then (words_from 1 (used_words kind) text) (λ ws text. got (kind ∷ (ws ++ replicate (5 - used_words kind) 0)) text)))

-- so many rows from row r on
unfoldable pub rows_from : ℕ → ℕ → List ℕ → Read (List ℕ)
rows_from r zero text = got [] text
rows_from r (suc m) text = and_then (row_from r text) (λ row text. and_then (rows_from (suc r) m text) (λ t text. got (row ++ t) text))

unfoldable pub table_from : List ℕ → Read (List ℕ)
table_from text = and_then (fixed_from rows_key 0 text) (λ _ text. and_then (number_from 1 512 text) (λ n text. rows_from 0 n text))

-- 'a whole sheet is followed by more': the text cannot go on behind it
abbrev pub whole : Read (List ℕ) → Read (List ℕ)
whole (got t []) = got t []
whole (got t (b ∷ rest)) = bad (b ∷ rest)
whole (bad rest) = bad rest

unfoldable pub read_sheet : List ℕ → Read (List ℕ)
read_sheet text = whole (table_from text)
