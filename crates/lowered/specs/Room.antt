-- What the two entries answer: docs/RULES.md, section 'Refusal numbers', 10.
--
--   in_limits             the four counts are in their limits
--   check_answer          check_table: 1 to 9, then 10 by the counts alone
--   lower_answer          lower: 1 to 9, then 10 by the counts or the lent words; else how many words were written
--   lent_after            the lent words after lower
--
-- Assumes nothing.
use Rattle.std.specs.Prelude.{ℕ, Bool, cond, ◌&&◌, List, eqb, leb, length}
use Rattle.std.proofs.lemmas.List.Edits.{sets}
use Rattle.table.specs.Rows.{size}
use Rattle.table.specs.Check.{Refusal, answer, table_refusal}
use Rattle.lowered.specs.Lower.{node_total, wire_total, start_total, result_total, lowered_words}

abbrev pub ROOM : ℕ
ROOM = 10

-- 'n is at most 4,096, W at most 8,192, and S and R at most 512'
unfoldable pub in_limits : List ℕ → Bool
in_limits t =
    leb (node_total t) 4096 && (leb (wire_total t) 8192 && (leb (start_total t) 512 && leb (result_total t) 512))

-- '`lower` asks besides that the graph's words are no more than are lent'
unfoldable pub fits_into : List ℕ → ℕ → Bool
fits_into t lent = in_limits t && leb (length (lowered_words t)) lent

-- 'After 1 to 9, ROOM is refused', and 'The row is the row count'. A `let` waits, so nothing is lowered before the table has passed.
unfoldable pub refused_by : List ℕ → Bool → Refusal
refused_by t room =
    let last : Refusal = cond room (answer 0 0) (answer ROOM (size t)) in
    cond (eqb (table_refusal t).number 0) last (table_refusal t)

-- '`check_table` is lent no words, so it looks at the counts alone.'
unfoldable pub check_answer : List ℕ → Refusal
check_answer t = refused_by t (in_limits t)

unfoldable pub lower_refusal : List ℕ → ℕ → Refusal
lower_refusal t lent = refused_by t (fits_into t lent)

-- what lower answers: a number and a row, and how many words it has written, 0 where it refuses
pub record Lowered : Type 0 where
  pub number : ℕ
  pub row : ℕ
  pub written : ℕ

unfoldable pub lower_answer : List ℕ → ℕ → Lowered
lower_answer t lent =
    let done : ℕ = length (lowered_words t) in
    record {
      number = (lower_refusal t lent).number;
      row = (lower_refusal t lent).row;
      written = cond (eqb (lower_refusal t lent).number 0) done 0;
    }

-- 'it writes the graph from the first lent word on, leaves the lent words behind it'; a refusal 'leaves every lent word as it was'.
unfoldable pub lent_after : List ℕ → List ℕ → List ℕ
lent_after t lent =
    let written : List ℕ = sets lent 0 (lowered_words t) in
    cond (eqb (lower_refusal t (length lent)).number 0) written lent
