-- Sheets that compute: the whole sheet of a table, and texts that break, each at its offset.
-- Assumes nothing.
use Rattle.std.specs.Prelude.{ℕ, List, [], ◌∷◌, ◌++◌, ◌≡◌, refl, replicate}
use Prim.Native.String.{String}
use Rattle.table.specs.Letters.{letters}
use Rattle.table.specs.Rows.{used_words}
use Rattle.sheet.specs.Sheet.{decimal_by, decimal, line_of, words_text, row_text, rows_text, sheet_of}
use Rattle.sheet.specs.Reader.{fixed_from, digits_from, number_from, names_from, words_from, row_from, rows_from, table_from, read_sheet}
use Rattle.sheet.specs.Answers.{ROOM, TEXT, SheetRead, sheet_read, read_answer, words_after}

-- INPUT; OUT 0
abbrev passed : List ℕ
passed = 0 ∷ 0 ∷ 0 ∷ 0 ∷ 0 ∷ 0 ∷ 8 ∷ 0 ∷ 0 ∷ 0 ∷ 0 ∷ 0 ∷ []

abbrev sheet : String
sheet = "rows=2\nrow=0\nkind=input\nrow=1\nkind=out\na=0\n"

pub its_sheet : sheet_of passed ≡ letters sheet
unfolding sheet_of rows_text row_text words_text line_of decimal decimal_by used_words
its_sheet = refl

abbrev answered : String → ℕ → SheetRead
answered s lent = read_answer (letters s) lent

-- twelve lent words are enough for it, a thirteenth stays; eleven are too few
pub its_words : (answered sheet 12 ≡ sheet_read 0 0 12) × (words_after (letters sheet) (replicate 13 7) ≡ passed ++ (7 ∷ [])) × (answered sheet 11 ≡ sheet_read ROOM 2 0)
unfolding read_answer words_after read_sheet table_from rows_from row_from words_from names_from number_from digits_from fixed_from line_of decimal decimal_by used_words
its_words = (refl, refl, refl)

-- the text is no sheet, and this is its offset
abbrev BreaksAt : String → ℕ → Type 0
BreaksAt s k = answered s 12 ≡ sheet_read TEXT k 0

pub where_they_break :
    -- more than 512 rows
    BreaksAt "rows=513\n" 7
    -- no row
    × BreaksAt "rows=0\n" 5
    -- the text ends early
    × BreaksAt "rows=2\nrow=0\nki" 15
    -- another row's number
    × BreaksAt "rows=2\nrow=0\nkind=input\nrow=2\n" 28
    -- a letter more
    × BreaksAt "rows=1\nrow=0\nkind=outt\na=0\n" 21
    -- a leading zero
    × BreaksAt "rows=1\nrow=0\nkind=out\na=01\n" 25
    -- more than a word holds
    × BreaksAt "rows=1\nrow=0\nkind=out\na=4294967296\n" 33
    -- a line more
    × BreaksAt "rows=1\nrow=0\nkind=end\n\n" 22
unfolding read_answer read_sheet table_from rows_from row_from words_from names_from number_from digits_from fixed_from line_of decimal decimal_by used_words
where_they_break = (refl, refl, refl, refl, refl, refl, refl, refl)
