-- WHAT THE TWO ENTRIES ANSWER: docs/RULES.md, section 'Sheets' and 19.
--
--   read_answer, words_after     read_sheet: its answer, and the lent words after it
--   write_answer, bytes_after    write_sheet: its answer, and the lent bytes after it
--   ReadAnswer, WriteAnswer    the promises of the two
--   written_by                 how many words or bytes an answer says: none where it is a refusal
--
-- What the promises come to, with no word of a reader: `read_means` and `write_means` in Statements.antt. Assumes nothing.
use Rattle.std.specs.Prelude.{ℕ, ◌-◌, cond, List, ◌≡◌, eqb, leb, length, Result, Ok, Err}
use Rattle.std.proofs.lemmas.List.Edits.{sets}
use Rattle.table.specs.Rows.{size}
use Rattle.table.specs.Check.{Refusal, answer}
use Rattle.sheet.specs.Sheet.{sheet_of, sheet_refusal, has_sheet}
use Rattle.sheet.specs.Reader.{Read, got, bad, read_sheet}

abbrev pub ROOM : ℕ
ROOM = 10

abbrev pub TEXT : ℕ
TEXT = 19

abbrev pub written_by : {E : Type 0} → Result ℕ E → ℕ
written_by (Ok n) = n
written_by (Err e) = 0

-- a number, its offset or row, and how many words were written
pub record SheetRead : Type 0 where
  pub number : ℕ
  pub place : ℕ
  pub written : ℕ

abbrev pub sheet_read : ℕ → ℕ → ℕ → SheetRead
sheet_read k p w = record { number = k; place = p; written = w }

abbrev pub read_by : ℕ → ℕ → Read (List ℕ) → SheetRead
read_by long lent (bad rest) = sheet_read TEXT (long - length rest) 0
read_by long lent (got t rest) = cond (leb (length t) lent) (sheet_read 0 0 (length t)) (sheet_read ROOM (size t) 0)

unfoldable pub read_answer : List ℕ → ℕ → SheetRead
read_answer text lent = read_by (length text) lent (read_sheet text)

-- 'the table's words first, the rest of the lent words stays'; a refusal 'leaves every lent word as it was'.
abbrev pub words_by : List ℕ → Read (List ℕ) → List ℕ
words_by lent (bad rest) = lent
words_by lent (got t rest) = cond (leb (length t) (length lent)) (sets lent 0 t) lent

unfoldable pub words_after : List ℕ → List ℕ → List ℕ
words_after text lent = words_by lent (read_sheet text)

pub record ReadAnswer (text lent : List ℕ) (number place written : ℕ) (after : List ℕ) : Type 0 where
  pub answer : sheet_read number place written ≡ read_answer text (length lent)
  pub lent_words : after ≡ words_after text lent

-- a number, its row, and how many bytes were written
pub record SheetWritten : Type 0 where
  pub number : ℕ
  pub row : ℕ
  pub written : ℕ

abbrev pub sheet_written : ℕ → ℕ → ℕ → SheetWritten
sheet_written k r w = record { number = k; row = r; written = w }

-- 'refused by 1, then row by row by 2 and 3 with the row, then by 10 where the lent bytes are too few'. 'The row of 10 is the row count.'
unfoldable pub write_refusal : List ℕ → ℕ → Refusal
write_refusal t lent =
    cond (has_sheet t) (cond (leb (length (sheet_of t)) lent) (answer 0 0) (answer ROOM (size t))) (sheet_refusal t)

unfoldable pub write_answer : List ℕ → ℕ → SheetWritten
write_answer t lent =
    sheet_written (write_refusal t lent).number (write_refusal t lent).row (cond (eqb (write_refusal t lent).number 0) (length (sheet_of t)) 0)

-- 'puts the sheet first, the rest of the lent bytes stays'
unfoldable pub bytes_after : List ℕ → List ℕ → List ℕ
bytes_after t lent = cond (eqb (write_refusal t (length lent)).number 0) (sets lent 0 (sheet_of t)) lent

pub record WriteAnswer (t lent : List ℕ) (number row written : ℕ) (after : List ℕ) : Type 0 where
  pub answer : sheet_written number row written ≡ write_answer t (length lent)
  pub lent_bytes : after ≡ bytes_after t lent
