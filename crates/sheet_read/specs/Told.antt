-- WHAT THE READERS OF THE PARTS ANSWER, by places in the text, beside what Reader.antt says of the text from there on.
--
--   Took, Word, Bad         what a reader of a part answers
--   told, place_of, worth    a value and the place behind it, or the place where the text cannot go on
--   Reads                   a part that stands for a number
--   Filled, Stores          a part that stands for words, which are stored one behind the other
--   line_from                the line of one word
--   read_number, read_place  the numbers of the entry's answer
--
-- Assumes nothing.
use Rattle.std.specs.Prelude.{ℕ, ◌≤◌, List, ◌≡◌, length, drop, Result, Ok, Err}
use Rattle.std.proofs.lemmas.List.Edits.{sets}
use Rattle.sheet.specs.Reader.{Read, got, bad, and_then, fixed_from, number_from, most_word}
use Rattle.sheet.specs.Sheet.{word_key}
use Rattle.sheet_read.specs.declared.Unread.{Unread}
use Rattle.sheet_read.specs.declared.Unread.TheVariants.{Text, Room}
use Rattle.sheet_read.specs.declared.Part.{Part}
use Rattle.sheet_read.specs.declared.Stuck.{Stuck}

-- what a reader of a part answers: a value and the place behind its text, or the first place at which the text cannot go on
abbrev pub Took : Type 0
Took = Result Part Stuck

abbrev pub Word : ℕ → ℕ → Took
Word v p = Ok (record { value = v; behind = p })

abbrev pub Bad : ℕ → Took
Bad p = Err (record { at = p })

abbrev pub told : List ℕ → Took → Read ℕ
told text (Ok x) = got x.value (drop x.behind text)
told text (Err s) = bad (drop s.at text)

abbrev pub place_of : Took → ℕ
place_of (Ok x) = x.behind
place_of (Err s) = s.at

abbrev pub worth : Took → ℕ
worth (Ok x) = x.value
worth (Err s) = 0

pub record Reads (text : List ℕ) (took : Took) (most : ℕ) (what : Read ℕ) : Type 0 where
  pub is : told text took ≡ what
  pub inside : place_of took ≤ length text
  pub small : worth took ≤ most

-- so many words were read up to place p, and stand in the lent words from i on, which else stay
pub record Filled (text before : List ℕ) (i many : ℕ) (after : List ℕ) (what : Read (List ℕ)) (p : ℕ) : Type 0 where
  pub words : List ℕ
  pub is : got words (drop p text) ≡ what
  pub count : length words ≡ many
  pub stored : after ≡ sets before i words

-- where the text cannot go on, nothing is said of the lent words
abbrev pub Filling : List ℕ → List ℕ → ℕ → ℕ → List ℕ → Read (List ℕ) → Took → Type 0
Filling text before i many after what (Ok x) = Filled text before i many after what x.behind
Filling text before i many after what (Err s) = bad (drop s.at text) ≡ what

pub record Stores (text before : List ℕ) (i many : ℕ) (after : List ℕ) (what : Read (List ℕ)) (took : Took) : Type 0 where
  pub is : Filling text before i many after what took
  pub inside : place_of took ≤ length text

-- `words_from` reads such lines, one after the other
unfoldable pub line_from : ℕ → List ℕ → Read ℕ
line_from k text = and_then (fixed_from (word_key k) k text) (λ _ text. number_from 0 most_word text)

-- ---- the numbers of the entry's answer: 19 with the offset, 10 with the row count, 0 where a table was read

abbrev pub unread_number : Unread → ℕ
unread_number (Text p) = 19
unread_number (Room n) = 10

abbrev pub read_number : {A : Type 0} → Result A Unread → ℕ
read_number (Ok x) = 0
read_number (Err e) = unread_number e

abbrev pub read_place : {A : Type 0} → Result A Unread → ℕ
read_place (Ok x) = 0
read_place (Err (Text p)) = p
read_place (Err (Room n)) = n
