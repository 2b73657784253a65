-- WHAT read_plain ANSWERS, with the lent words after it: docs/RULES.md, section 'The reading without the graph'.
--
--   plain_refusal          1 to 9 as the check of the rows gives them, then 16, then 10
--   plain_within           the reading's own steps, stopped before a turn that is not allowed
--   plain_answer, plain_lent    the answer, and the lent words after the call
--   PlainAnswer           what read_plain promises
--   plain_number, plain_row, plain_outcome, plain_turns      the numbers for each case of the answer
--
-- Assumes nothing.
use Rattle.std.specs.Prelude.{ℕ, suc, ◌*◌, cond, List, ◌≡◌, eqb, leb, length}
use Rattle.std.proofs.Math.Option.{Option, none, some}
use Rattle.std.proofs.lemmas.List.Edits.{sets}
use Rattle.table.specs.Rows.{size, INPUT, OUT}
use Rattle.table.specs.Counted.{rows_of}
use Rattle.table.specs.Check.{Refusal, answer, table_refusal}
use Rattle.reading.specs.Reading.{ended, zero_step, begin}
use Rattle.reading.specs.Within.{turns_made, Within, comes, spent, read_within}
use Rattle.engine.specs.Plain.{Plain, Refused, Ended, ZeroStep, Spent}

abbrev pub ROOM : ℕ
ROOM = 10

abbrev pub INPUTS : ℕ
INPUTS = 16

-- 'Refusals 1 to 9 with their row, then 16 where there is not one word for each INPUT, then 10 where the lent words are fewer than the OUT rows.'
unfoldable pub plain_refusal : List ℕ → List ℕ → ℕ → Refusal
plain_refusal t inputs lent =
    let room : Refusal = cond (leb (rows_of OUT t (size t)) lent) (answer 0 0) (answer ROOM (size t)) in
    let last : Refusal = cond (eqb (length inputs) (rows_of INPUT t (size t))) room (answer INPUTS 0) in
    cond (eqb (table_refusal t).number 0) last (table_refusal t)

-- 'A loop of no turns costs no allowance, so the walk is at most as many steps long as there are rows, once for each turn allowed and once more.' One step
-- more is the one that ends it.
unfoldable pub plain_within : List ℕ → List ℕ → ℕ → Option Within
plain_within t inputs A = read_within (suc (suc A * size t)) A t (begin t inputs)

-- it comes to an outcome, or is spent; that it comes to one of these in so many steps is `walk_is_bounded`
abbrev pub told_by : ℕ → Option Within → Plain
told_by A none = Spent A
told_by A (some spent) = Spent A
told_by A (some (comes (ended results openings))) = Ended (turns_made openings)
told_by A (some (comes (zero_step L openings))) = ZeroStep L (turns_made openings)

-- 'the results first in the lent words and the rest as before'; 'Without results the lent words stay.'
abbrev pub lent_by : List ℕ → Option Within → List ℕ
lent_by lent none = lent
lent_by lent (some spent) = lent
lent_by lent (some (comes (ended results openings))) = sets lent 0 results
lent_by lent (some (comes (zero_step L openings))) = lent

unfoldable pub plain_answer : List ℕ → List ℕ → ℕ → ℕ → Plain
plain_answer t inputs lent A =
    let refused = plain_refusal t inputs lent in
    cond (eqb refused.number 0) (told_by A (plain_within t inputs A)) (Refused refused.number refused.row)

unfoldable pub plain_lent : List ℕ → List ℕ → List ℕ → ℕ → List ℕ
plain_lent t inputs lent A = cond (eqb (plain_refusal t inputs (length lent)).number 0) (lent_by lent (plain_within t inputs A)) lent

pub record PlainAnswer (t inputs lent : List ℕ) (A : ℕ) (r : Plain) (after : List ℕ) : Type 0 where
  pub answer : r ≡ plain_answer t inputs (length lent) A
  pub lent_words : after ≡ plain_lent t inputs lent A

-- ---- the answer by number: 0 ended, 1 zero step, 3 spent; in a refusal outcome and turns are 0

abbrev pub plain_number : Plain → ℕ
plain_number (Refused n r) = n
plain_number (Ended k) = 0
plain_number (ZeroStep L k) = 0
plain_number (Spent k) = 0

abbrev pub plain_row : Plain → ℕ
plain_row (Refused n r) = r
plain_row (Ended k) = 0
plain_row (ZeroStep L k) = L
plain_row (Spent k) = 0

abbrev pub plain_outcome : Plain → ℕ
plain_outcome (Refused n r) = 0
plain_outcome (Ended k) = 0
plain_outcome (ZeroStep L k) = 1
plain_outcome (Spent k) = 3

abbrev pub plain_turns : Plain → ℕ
plain_turns (Refused n r) = 0
plain_turns (Ended k) = k
plain_turns (ZeroStep L k) = k
plain_turns (Spent k) = k
