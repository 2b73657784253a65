-- WHAT THE PLAIN READING SAYS OF AN ANSWER OF read_plain. That it holds of each answer, and of no other, is said in proofs/Against.antt.
-- `Reads t inputs o` says that the plain reading of t on these inputs comes to outcome o; `turns_made` counts the turns of all its openings.
--
--   Fit                               the table passes 1 to 9, there is a word for each INPUT, and a lent word for each OUT
--   fit_is_not_refused, not_refused_is_fit        nothing is refused exactly there
--   results_in                         the words that stand where the results are written
--   EndsSo, FaultsSo, SpentSo, TellsSo      the reading ends; it meets a zero step; it is spent; what the numbers of an answer say
--   answer_number                     the answer by number
--
-- Assumes nothing.
use Prim.Native.Nat.{ℕ, ◌+◌, ◌<◌, ◌≤◌}
use Rattle.std.proofs.Math.Bool.{Bool, true, false, cond}
use Rattle.std.specs.Prelude.{List, ◌++◌, ◌≡◌, leb, length, take, drop}
use Rattle.std.proofs.Math.Option.{Option, none, some}
use Rattle.std.proofs.Math.Path.{refl, sym, ap}
use Rattle.std.proofs.Common.{◌∙◌}
use native.Mathlib.Omega.{arith}
use borrow.Author.Tests.{eq-eqb, eqb-true, le-leb, leb-true}
use Rattle.std.proofs.Math.Dec.{eqb}
use Rattle.std.proofs.lemmas.List.Edits.{sets, sets-eq}
use Rattle.table.specs.Rows.{size, INPUT, OUT}
use Rattle.table.specs.Counted.{rows_of}
use Rattle.table.specs.Check.{Refusal, answer, table_refusal}
use Rattle.table.specs.Right.{number_0_is_right}
use Rattle.structure.specs.Structure.{right_table_has_structure}
use Rattle.reading.specs.Reading.{Opening, Outcome, ended, zero_step, begin}
use Rattle.reading.specs.Outcome.{Reads}
use Rattle.reading.specs.Results.{ended_has_a_word_each}
use Rattle.reading.specs.Within.{turns_made, Within, comes, spent, openings_of, Due}
use Rattle.engine.specs.Answers.{ROOM, INPUTS, plain_refusal, plain_within, told_by, plain_answer, plain_number, plain_row, plain_outcome, plain_turns}
use Rattle.engine.specs.Plain.{Plain, Refused}

-- ---- what is refused

-- so many words are lent
pub record Fit (t inputs : List ℕ) (lent : ℕ) : Type 0 where
  pub rows : (table_refusal t).number ≡ 0
  pub one_each : length inputs ≡ rows_of INPUT t (size t)
  pub room : rows_of OUT t (size t) ≤ lent

module _ (t inputs : List ℕ) (lent : ℕ) where
  pub fit_is_not_refused : Fit t inputs lent → (plain_refusal t inputs lent).number ≡ 0
  unfolding plain_refusal
  fit_is_not_refused f = rw (f.rows, eq-eqb (length inputs) (rows_of INPUT t (size t)) f.one_each, le-leb (rows_of OUT t (size t)) lent f.room)

  pub not_refused_is_fit : (plain_refusal t inputs lent).number ≡ 0 → Fit t inputs lent
  unfolding plain_refusal
  not_refused_is_fit = rows (eqb (table_refusal t).number 0) refl
    where
      words : Bool → Bool → Refusal
      words b c = cond b (cond c (answer 0 0) (answer ROOM (size t))) (answer INPUTS 0)

      room : (table_refusal t).number ≡ 0 → length inputs ≡ rows_of INPUT t (size t) → (c : Bool) → leb (rows_of OUT t (size t)) lent ≡ c → (words true c).number ≡ 0 → Fit t inputs lent
      room r o true e h = record { rows = r; one_each = o; room = leb-true (rows_of OUT t (size t)) lent e }
      room r o false e h = let z : ◌≡◌ {A = ℕ} 10 0 = h in absurd (omega arith)

      inputs_given : (table_refusal t).number ≡ 0 → (b : Bool) → eqb (length inputs) (rows_of INPUT t (size t)) ≡ b → (words b (leb (rows_of OUT t (size t)) lent)).number ≡ 0 → Fit t inputs lent
      inputs_given r true e h = room r (eqb-true (length inputs) (rows_of INPUT t (size t)) e) (leb (rows_of OUT t (size t)) lent) refl h
      inputs_given r false e h = let z : ◌≡◌ {A = ℕ} 16 0 = h in absurd (omega arith)

      rows : (a : Bool) → eqb (table_refusal t).number 0 ≡ a
          → (cond a (words (eqb (length inputs) (rows_of INPUT t (size t))) (leb (rows_of OUT t (size t)) lent)) (table_refusal t)).number ≡ 0 → Fit t inputs lent
      rows true e h = inputs_given (eqb-true (table_refusal t).number 0 e) (eqb (length inputs) (rows_of INPUT t (size t))) refl h
      rows false e h = let z : ◌≡◌ {A = Bool} true false = sym (eq-eqb (table_refusal t).number 0 h) ∙ e in let y : ◌≡◌ {A = ℕ} 0 1 = cc in absurd (omega arith)

-- ---- the answer by number
module _ (t inputs : List ℕ) (lent A : ℕ) where
  told_number : (w : Option Within) → plain_number (told_by A w) ≡ 0
  told_number none = refl
  told_number (some spent) = refl
  told_number (some (comes (ended rs os))) = refl
  told_number (some (comes (zero_step L os))) = refl

  -- the refusal's, and 0 exactly where nothing is refused
  pub answer_number : plain_number (plain_answer t inputs lent A) ≡ (plain_refusal t inputs lent).number
  unfolding plain_answer
  answer_number = go (eqb (plain_refusal t inputs lent).number 0) refl
    where
      go : (b : Bool) → eqb (plain_refusal t inputs lent).number 0 ≡ b
          → plain_number (cond b (told_by A (plain_within t inputs A)) (Refused (plain_refusal t inputs lent).number (plain_refusal t inputs lent).row)) ≡ (plain_refusal t inputs lent).number
      go true e = told_number (plain_within t inputs A) ∙ sym (eqb-true (plain_refusal t inputs lent).number 0 e)
      go false e = refl

-- ---- what is answered

-- the words that stand where the results are written: first, as many as OUT rows
abbrev pub results_in : List ℕ → List ℕ → List ℕ
results_in t after = take (rows_of OUT t (size t)) after

-- the reading ends with T turns, and its results stand first in the lent words
pub record EndsSo (t inputs lent : List ℕ) (A T : ℕ) (after : List ℕ) : Type 0 where
  pub fit : Fit t inputs (length lent)
  pub results : List ℕ
  pub openings : List Opening
  pub reads : Reads t inputs (ended results openings)
  pub turns : turns_made openings ≡ T
  pub allowed : T ≤ A
  pub one_each : length results ≡ rows_of OUT t (size t)
  pub stored : after ≡ sets lent 0 results
  pub first : after ≡ results ++ drop (length results) lent
  pub written : results_in t after ≡ results

-- it meets a zero step at FOR row L with T turns, and the lent words stay
pub record FaultsSo (t inputs lent : List ℕ) (A L T : ℕ) (after : List ℕ) : Type 0 where
  pub fit : Fit t inputs (length lent)
  pub openings : List Opening
  pub reads : Reads t inputs (zero_step L openings)
  pub turns : turns_made openings ≡ T
  pub allowed : T ≤ A
  pub stays : after ≡ lent

-- it has made the turns that are allowed and needs more
pub record SpentSo (t inputs lent : List ℕ) (A T : ℕ) (after : List ℕ) : Type 0 where
  pub fit : Fit t inputs (length lent)
  pub all : T ≡ A
  pub due : Due t A (begin t inputs)
  pub needs_more : (o : Outcome) → Reads t inputs o → A < turns_made (openings_of o)
  pub stays : after ≡ lent

module _ (t inputs lent : List ℕ) (f : Fit t inputs (length lent)) (results : List ℕ) (openings : List Opening) (r : Reads t inputs (ended results openings)) where
  pub one_word_each : length results ≡ rows_of OUT t (size t)
  one_word_each = ended_has_a_word_each t (right_table_has_structure t (number_0_is_right t f.rows)) results openings inputs r

  pub results_first : sets lent 0 results ≡ results ++ drop (length results) lent
  results_first =
      let n = one_word_each in
      let l = f.room in
      let e : 0 + length results ≡ length results = omega arith in
      sets-eq results lent 0 (omega arith) ∙ ap (λ (k : ℕ). results ++ drop k lent) e

-- ---- the answer by number, where nothing is refused
module _ (t inputs lent : List ℕ) (A : ℕ) where
  -- where nothing is refused: 0 ended, 1 a zero step at the row told, 3 spent
  pub data TellsSo (r : Plain) (after : List ℕ) : Type 0 where
    tells_ended : plain_outcome r ≡ 0 → plain_row r ≡ 0 → EndsSo t inputs lent A (plain_turns r) after → TellsSo r after
    tells_zero_step : plain_outcome r ≡ 1 → FaultsSo t inputs lent A (plain_row r) (plain_turns r) after → TellsSo r after
    tells_spent : plain_outcome r ≡ 3 → plain_row r ≡ 0 → SpentSo t inputs lent A (plain_turns r) after → TellsSo r after
