-- WHAT read_plain ANSWERS IS THE PLAIN READING, both ways. Nothing is known of a call but what the entry promises, `PlainAnswer`.
-- `Reads t inputs o` says that the plain reading of t on these inputs comes to outcome o; `turns_made` counts the turns of all its openings.
--
--   ended_is_the_reading              where it answers ended with T turns, the reading ends with T turns, T are allowed, and its results stand first in the
--                                     lent words, with the rest as before
--   the_reading_is_ended              and back: where the reading ends with as many turns as allowed or fewer
--   zero_step_is_the_reading, the_reading_is_a_zero_step      the same of a zero step at a row; the lent words stay
--   spent_is_the_rest                 where it is spent, all turns allowed are made and one more is due, and every outcome of the reading has more turns
--   the_rest_is_spent                 and back; so due_turns_are_spent, too_few_are_spent, endless_is_spent
--   refused_is_refused, the_refusal_is_answered       a refusal, with its number and row; the lent words stay
--   answer_number, plain_number, plain_refusal, plain_outcome     the answer by number, and what each number says
--   some_read, one_read               each call has an answer, and one only
--   more_turns_change_no_end, more_turns_change_no_zero_step, turns_change_no_refusal         what is not spent stays the same with a larger allowance
--
-- Assumes nothing.
use Prim.Native.Nat.{ℕ, suc, ◌*◌, ◌<◌, ◌≤◌}
use Rattle.std.proofs.Math.Bool.{Bool, cond}
use Rattle.std.specs.Prelude.{◌≢◌, List, ◌++◌, ◌≡◌, length, drop}
use Rattle.std.proofs.Math.Option.{none, some}
use Rattle.std.proofs.Math.Path.{refl, sym, ap}
use Rattle.std.proofs.Common.{◌∙◌, subst, take_at}
use native.Mathlib.Omega.{arith}
use Rattle.std.proofs.Math.Decide.{ℕ_discrete}
use borrow.Author.Tests.{eq-eqb, ne_eqb}
use Rattle.std.proofs.lemmas.List.Edits.{sets}
use Rattle.table.specs.Rows.{size, OUT}
use Rattle.table.specs.Counted.{rows_of}
use Rattle.table.specs.Check.{Refusal, answer}
use Rattle.table.specs.Right.{number_0_is_right}
use Rattle.reading.specs.Reading.{Opening, Outcome, ended, zero_step, begin, read}
use Rattle.reading.specs.Outcome.{Reads, one_outcome}
use Rattle.reading.specs.Within.{turns_made, Within, comes, spent, openings_of, Due}
use Rattle.reading.proofs.Within.{one_within, within_is_read, read_is_within, spent_needs_more, spent_is_all, due_is_spent}
use Rattle.reading.proofs.Bounded.{walk_is_bounded}
use Rattle.engine.specs.Answers.{plain_refusal, plain_within, told_by, lent_by, plain_answer, plain_lent, PlainAnswer, plain_number, plain_row, plain_outcome, plain_turns}
use Rattle.engine.specs.Plain.{Plain, Refused, Ended, ZeroStep, Spent}
use Rattle.engine.specs.Against.{Fit, fit_is_not_refused, not_refused_is_fit, answer_number, results_in, EndsSo, FaultsSo, SpentSo, one_word_each, results_first, TellsSo, tells_ended, tells_zero_step, tells_spent}

module _ (t inputs lent : List ℕ) (A : ℕ) where
  abbrev refusal : Refusal
  refusal = plain_refusal t inputs (length lent)

  -- an answer by its case
  data Answered (r : Plain) (after : List ℕ) : Type 0 where
    is_refused : refusal.number ≢ 0 → r ≡ Refused refusal.number refusal.row → after ≡ lent → Answered r after
    is_ended : refusal.number ≡ 0 → (rs : List ℕ) (os : List Opening) → plain_within t inputs A ≡ some (comes (ended rs os)) → r ≡ Ended (turns_made os) → after ≡ sets lent 0 rs → Answered r after
    is_fault : refusal.number ≡ 0 → (L : ℕ) (os : List Opening) → plain_within t inputs A ≡ some (comes (zero_step L os)) → r ≡ ZeroStep L (turns_made os) → after ≡ lent → Answered r after
    is_spent : refusal.number ≡ 0 → plain_within t inputs A ≡ some spent → r ≡ Spent A → after ≡ lent → Answered r after

  within_bounds : refusal.number ≡ 0 → (w : Within) × (plain_within t inputs A ≡ some w)
  unfolding plain_within
  within_bounds n = walk_is_bounded t (number_0_is_right t (not_refused_is_fit t inputs (length lent) n).rows) inputs A

  answered : (r : Plain) (after : List ℕ) → PlainAnswer t inputs lent A r after → Answered r after
  unfolding plain_answer plain_lent
  answered r after p = go (ℕ_discrete refusal.number 0)
    where
      passed : refusal.number ≡ 0 → (w : Within) → plain_within t inputs A ≡ some w → r ≡ told_by A (some w) → after ≡ lent_by lent (some w) → Answered r after
      passed n (comes (ended rs os)) e a l = is_ended n rs os e a l
      passed n (comes (zero_step L os)) e a l = is_fault n L os e a l
      passed n spent e a l = is_spent n e a l

      go : Dec (refusal.number ≡ 0) → Answered r after
      go (yes n) =
          let w = within_bounds n in
          passed n w.0 w.1
          (p.answer ∙ ap (λ (b : Bool). cond b (told_by A (plain_within t inputs A)) (Refused refusal.number refusal.row)) (eq-eqb refusal.number 0 n) ∙ ap (told_by A) w.1)
          (p.lent_words ∙ ap (λ (b : Bool). cond b (lent_by lent (plain_within t inputs A)) lent) (eq-eqb refusal.number 0 n) ∙ ap (lent_by lent) w.1)
      go (no n) =
          is_refused n
          (p.answer ∙ ap (λ (b : Bool). cond b (told_by A (plain_within t inputs A)) (Refused refusal.number refusal.row)) (ne_eqb refusal.number 0 n))
          (p.lent_words ∙ ap (λ (b : Bool). cond b (lent_by lent (plain_within t inputs A)) lent) (ne_eqb refusal.number 0 n))

  -- the walk and the reading
  none_made : turns_made (begin t inputs).openings ≤ A
  unfolding begin turns_made
  none_made = omega arith

  to_reading : (o : Outcome) → plain_within t inputs A ≡ some (comes o) → Reads t inputs o × (turns_made (openings_of o) ≤ A)
  unfolding plain_within read
  to_reading o e =
      let x = within_is_read t A (suc (suc A * size t)) (begin t inputs) o none_made e in
      (record { steps = suc (suc A * size t); comes = x.0 }, x.1)

  to_walk : refusal.number ≡ 0 → (o : Outcome) → Reads t inputs o → turns_made (openings_of o) ≤ A → plain_within t inputs A ≡ some (comes o)
  unfolding plain_within read
  to_walk n o r l =
      let w = within_bounds n in
      let e = one_within t A (suc (suc A * size t)) r.steps (begin t inputs) w.0 (comes o) w.1 (read_is_within t A r.steps (begin t inputs) o r.comes l) in
      w.1 ∙ ap some e

  to_more : plain_within t inputs A ≡ some spent → (o : Outcome) → Reads t inputs o → A < turns_made (openings_of o)
  unfolding plain_within read
  to_more e o r = spent_needs_more t A (suc (suc A * size t)) r.steps (begin t inputs) o e r.comes

  to_due : plain_within t inputs A ≡ some spent → Due t A (begin t inputs)
  unfolding plain_within
  to_due e = spent_is_all t A (suc (suc A * size t)) (begin t inputs) none_made e

  -- ENDED
  pub ended_is_the_reading : (T : ℕ) (after : List ℕ) → PlainAnswer t inputs lent A (Ended T) after → EndsSo t inputs lent A T after
  ended_is_the_reading T after p = go (answered (Ended T) after p)
    where
      go : Answered (Ended T) after → EndsSo t inputs lent A T after
      go (is_refused n e l) = let z : ◌≡◌ {A = ℕ} 0 1 = cc in absurd (omega arith)
      go (is_fault n L os w e l) = let z : ◌≡◌ {A = ℕ} 0 1 = cc in absurd (omega arith)
      go (is_spent n w e l) = let z : ◌≡◌ {A = ℕ} 0 1 = cc in absurd (omega arith)
      go (is_ended n rs os w e l) =
          let f = not_refused_is_fit t inputs (length lent) n in
          let x = to_reading (ended rs os) w in
          let m : turns_made os ≡ T = sym (ap plain_turns e) in
          let a = x.1 in
          record {
            fit = f;
            results = rs;
            openings = os;
            reads = x.0;
            turns = m;
            allowed = omega arith;
            one_each = one_word_each t inputs lent f rs os x.0;
            stored = l;
            first = l ∙ results_first t inputs lent f rs os x.0;
            written = ap (results_in t) (l ∙ results_first t inputs lent f rs os x.0) ∙ take_at rs (drop (length rs) lent) (rows_of OUT t (size t)) (one_word_each t inputs lent f rs os x.0);
          }

  pub the_reading_is_ended : Fit t inputs (length lent) → (results : List ℕ) (openings : List Opening) → Reads t inputs (ended results openings) → turns_made openings ≤ A
      → (r : Plain) (after : List ℕ) → PlainAnswer t inputs lent A r after
      → (r ≡ Ended (turns_made openings)) × (after ≡ sets lent 0 results) × (after ≡ results ++ drop (length results) lent)
  the_reading_is_ended f rs os x l r after p = go (answered r after p)
    where
      w : plain_within t inputs A ≡ some (comes (ended rs os))
      w = to_walk (fit_is_not_refused t inputs (length lent) f) (ended rs os) x l

      go : Answered r after → (r ≡ Ended (turns_made os)) × (after ≡ sets lent 0 rs) × (after ≡ rs ++ drop (length rs) lent)
      go (is_refused n e k) = absurd (n (fit_is_not_refused t inputs (length lent) f))
      go (is_fault n L os v e k) = let q = sym w ∙ v in let z : ◌≡◌ {A = ℕ} 0 1 = cc in absurd (omega arith)
      go (is_spent n v e k) = let q = sym w ∙ v in let z : ◌≡◌ {A = ℕ} 0 1 = cc in absurd (omega arith)
      go (is_ended n rs₁ os₁ v e k) =
          let q = sym v ∙ w in
          let g : rs₁ ≡ rs = cc in
          let h : os₁ ≡ os = cc in
          let s = k ∙ ap (sets lent 0) g in
          (e ∙ ap (λ (z : List Opening). Ended (turns_made z)) h, s, s ∙ results_first t inputs lent f rs os x)

  -- A ZERO STEP
  pub zero_step_is_the_reading : (L T : ℕ) (after : List ℕ) → PlainAnswer t inputs lent A (ZeroStep L T) after → FaultsSo t inputs lent A L T after
  zero_step_is_the_reading L T after p = go (answered (ZeroStep L T) after p)
    where
      go : Answered (ZeroStep L T) after → FaultsSo t inputs lent A L T after
      go (is_refused n e l) = let z : ◌≡◌ {A = ℕ} 0 1 = cc in absurd (omega arith)
      go (is_ended n rs os w e l) = let z : ◌≡◌ {A = ℕ} 0 1 = cc in absurd (omega arith)
      go (is_spent n w e l) = let z : ◌≡◌ {A = ℕ} 0 1 = cc in absurd (omega arith)
      go (is_fault n M os w e l) =
          let x = to_reading (zero_step M os) w in
          let m : turns_made os ≡ T = sym (ap plain_turns e) in
          let a = x.1 in
          record {
            fit = not_refused_is_fit t inputs (length lent) n;
            openings = os;
            reads = subst (λ (z : ℕ). Reads t inputs (zero_step z os)) (sym (ap plain_row e)) x.0;
            turns = m;
            allowed = omega arith;
            stays = l;
          }

  pub the_reading_is_a_zero_step : Fit t inputs (length lent) → (L : ℕ) (openings : List Opening) → Reads t inputs (zero_step L openings) → turns_made openings ≤ A
      → (r : Plain) (after : List ℕ) → PlainAnswer t inputs lent A r after → (r ≡ ZeroStep L (turns_made openings)) × (after ≡ lent)
  the_reading_is_a_zero_step f L os x l r after p = go (answered r after p)
    where
      w : plain_within t inputs A ≡ some (comes (zero_step L os))
      w = to_walk (fit_is_not_refused t inputs (length lent) f) (zero_step L os) x l

      go : Answered r after → (r ≡ ZeroStep L (turns_made os)) × (after ≡ lent)
      go (is_refused n e k) = absurd (n (fit_is_not_refused t inputs (length lent) f))
      go (is_ended n rs os v e k) = let q = sym w ∙ v in let z : ◌≡◌ {A = ℕ} 0 1 = cc in absurd (omega arith)
      go (is_spent n v e k) = let q = sym w ∙ v in let z : ◌≡◌ {A = ℕ} 0 1 = cc in absurd (omega arith)
      go (is_fault n M os₁ v e k) =
          let q = sym v ∙ w in
          let g : M ≡ L = cc in
          let h : os₁ ≡ os = cc in
          (e ∙ ap (λ (z : ℕ). ZeroStep z (turns_made os₁)) g ∙ ap (λ (z : List Opening). ZeroStep L (turns_made z)) h, k)

  -- SPENT
  pub spent_is_the_rest : (T : ℕ) (after : List ℕ) → PlainAnswer t inputs lent A (Spent T) after → SpentSo t inputs lent A T after
  spent_is_the_rest T after p = go (answered (Spent T) after p)
    where
      go : Answered (Spent T) after → SpentSo t inputs lent A T after
      go (is_refused n e l) = let z : ◌≡◌ {A = ℕ} 0 1 = cc in absurd (omega arith)
      go (is_ended n rs os w e l) = let z : ◌≡◌ {A = ℕ} 0 1 = cc in absurd (omega arith)
      go (is_fault n L os w e l) = let z : ◌≡◌ {A = ℕ} 0 1 = cc in absurd (omega arith)
      go (is_spent n w e l) = record { fit = not_refused_is_fit t inputs (length lent) n; all = ap plain_turns e; due = to_due w; needs_more = to_more w; stays = l }

  pub the_rest_is_spent : Fit t inputs (length lent) → ((o : Outcome) → Reads t inputs o → A < turns_made (openings_of o))
      → (r : Plain) (after : List ℕ) → PlainAnswer t inputs lent A r after → (r ≡ Spent A) × (after ≡ lent)
  the_rest_is_spent f more r after p = go (answered r after p)
    where
      early : (o : Outcome) → plain_within t inputs A ≡ some (comes o) → ⊥
      early o w = let x = to_reading o w in let a = more o x.0 in let b = x.1 in omega arith

      go : Answered r after → (r ≡ Spent A) × (after ≡ lent)
      go (is_refused n e k) = absurd (n (fit_is_not_refused t inputs (length lent) f))
      go (is_ended n rs os w e k) = absurd (early (ended rs os) w)
      go (is_fault n L os w e k) = absurd (early (zero_step L os) w)
      go (is_spent n w e k) = (e, k)

  -- so it is where the turns allowed are made and one more is due
  pub due_turns_are_spent : Fit t inputs (length lent) → Due t A (begin t inputs) → (r : Plain) (after : List ℕ) → PlainAnswer t inputs lent A r after → (r ≡ Spent A) × (after ≡ lent)
  unfolding read
  due_turns_are_spent f d = let x = due_is_spent t A (begin t inputs) d in the_rest_is_spent f (λ o y. spent_needs_more t A x.0 y.steps (begin t inputs) o x.1 y.comes)

  pub too_few_are_spent : Fit t inputs (length lent) → (o : Outcome) → Reads t inputs o → A < turns_made (openings_of o)
      → (r : Plain) (after : List ℕ) → PlainAnswer t inputs lent A r after → (r ≡ Spent A) × (after ≡ lent)
  too_few_are_spent f o x l =
      the_rest_is_spent f (λ q y. let e = ap (λ (z : Outcome). turns_made (openings_of z)) (one_outcome t inputs o q x y) in omega arith)

  pub endless_is_spent : Fit t inputs (length lent) → ((k : ℕ) → read k t inputs ≡ none)
      → (r : Plain) (after : List ℕ) → PlainAnswer t inputs lent A r after → (r ≡ Spent A) × (after ≡ lent)
  endless_is_spent f endless =
      the_rest_is_spent f (λ o x. let e : none ≡ some o = sym (endless x.steps) ∙ x.comes in let z : ◌≡◌ {A = ℕ} 0 1 = cc in absurd (omega arith))

  -- REFUSED
  pub refused_is_refused : (n row : ℕ) (after : List ℕ) → PlainAnswer t inputs lent A (Refused n row) after
      → (plain_refusal t inputs (length lent) ≡ answer n row) × (n ≢ 0) × (after ≡ lent)
  refused_is_refused n row after p = go (answered (Refused n row) after p)
    where
      go : Answered (Refused n row) after → (refusal ≡ answer n row) × (n ≢ 0) × (after ≡ lent)
      go (is_ended m rs os w e l) = let z : ◌≡◌ {A = ℕ} 0 1 = cc in absurd (omega arith)
      go (is_fault m L os w e l) = let z : ◌≡◌ {A = ℕ} 0 1 = cc in absurd (omega arith)
      go (is_spent m w e l) = let z : ◌≡◌ {A = ℕ} 0 1 = cc in absurd (omega arith)
      go (is_refused m e l) =
          let a : n ≡ refusal.number = ap plain_number e in
          let b : row ≡ refusal.row = ap plain_row e in
          (λ i. record { number = sym a i; row = sym b i }, λ z. m (sym a ∙ z), l)

  pub the_refusal_is_answered : (n row : ℕ) → plain_refusal t inputs (length lent) ≡ answer n row → n ≢ 0
      → (r : Plain) (after : List ℕ) → PlainAnswer t inputs lent A r after → (r ≡ Refused n row) × (after ≡ lent)
  the_refusal_is_answered n row h z r after p = go (answered r after p)
    where
      number_is : refusal.number ≡ n
      number_is = ap (λ (x : Refusal). x.number) h

      go : Answered r after → (r ≡ Refused n row) × (after ≡ lent)
      go (is_refused m e l) = (e ∙ ap (λ (x : Refusal). Refused x.number x.row) h, l)
      go (is_ended m rs os w e l) = absurd (z (sym number_is ∙ m))
      go (is_fault m L os w e l) = absurd (z (sym number_is ∙ m))
      go (is_spent m w e l) = absurd (z (sym number_is ∙ m))

  -- by number: the refusal's, and 0 exactly where nothing is refused
  pub plain_number_lem : (r : Plain) (after : List ℕ) → PlainAnswer t inputs lent A r after → plain_number r ≡ (plain_refusal t inputs (length lent)).number
  plain_number_lem r after p = ap plain_number p.answer ∙ answer_number t inputs (length lent) A

  -- and in a refusal its row, with 0 for outcome and turns
  pub plain_refusal_lem : (r : Plain) (after : List ℕ) → PlainAnswer t inputs lent A r after → (plain_refusal t inputs (length lent)).number ≢ 0
      → (plain_row r ≡ (plain_refusal t inputs (length lent)).row) × (plain_outcome r ≡ 0) × (plain_turns r ≡ 0)
  plain_refusal_lem r after p z = go (answered r after p)
    where
      go : Answered r after → (plain_row r ≡ refusal.row) × (plain_outcome r ≡ 0) × (plain_turns r ≡ 0)
      go (is_refused m e l) = (ap plain_row e, ap plain_outcome e, ap plain_turns e)
      go (is_ended m rs os w e l) = absurd (z m)
      go (is_fault m L os w e l) = absurd (z m)
      go (is_spent m w e l) = absurd (z m)

  pub plain_outcome_lem : (r : Plain) (after : List ℕ) → PlainAnswer t inputs lent A r after → plain_number r ≡ 0 → TellsSo t inputs lent A r after
  plain_outcome_lem (Refused n row) after p z = absurd ((refused_is_refused n row after p).1 z)
  plain_outcome_lem (Ended T) after p z = tells_ended refl refl (ended_is_the_reading T after p)
  plain_outcome_lem (ZeroStep L T) after p z = tells_zero_step refl (zero_step_is_the_reading L T after p)
  plain_outcome_lem (Spent T) after p z = tells_spent refl refl (spent_is_the_rest T after p)

  -- ONE ANSWER
  pub some_read : PlainAnswer t inputs lent A (plain_answer t inputs (length lent) A) (plain_lent t inputs lent A)
  some_read = record { answer = refl; lent_words = refl }

  pub one_read : (r q : Plain) (after left : List ℕ) → PlainAnswer t inputs lent A r after → PlainAnswer t inputs lent A q left → (r ≡ q) × (after ≡ left)
  one_read r q after left a b = (a.answer ∙ sym b.answer, a.lent_words ∙ sym b.lent_words)

-- ---- a larger allowance
module _ (t inputs lent : List ℕ) (A B : ℕ) (more : A ≤ B) where
  pub more_turns_change_no_end : (T : ℕ) (after : List ℕ) → PlainAnswer t inputs lent A (Ended T) after
      → (r : Plain) (left : List ℕ) → PlainAnswer t inputs lent B r left → (r ≡ Ended T) × (left ≡ after)
  more_turns_change_no_end T after p r left q =
      let e = ended_is_the_reading t inputs lent A T after p in
      let m = e.turns in
      let l = e.allowed in
      let x = the_reading_is_ended t inputs lent B e.fit e.results e.openings e.reads (omega arith) r left q in
      (x.0 ∙ ap Ended m, x.1 ∙ sym e.stored)

  pub more_turns_change_no_zero_step : (L T : ℕ) (after : List ℕ) → PlainAnswer t inputs lent A (ZeroStep L T) after
      → (r : Plain) (left : List ℕ) → PlainAnswer t inputs lent B r left → (r ≡ ZeroStep L T) × (left ≡ after)
  more_turns_change_no_zero_step L T after p r left q =
      let e = zero_step_is_the_reading t inputs lent A L T after p in
      let m = e.turns in
      let l = e.allowed in
      let x = the_reading_is_a_zero_step t inputs lent B e.fit L e.openings e.reads (omega arith) r left q in
      (x.0 ∙ ap (ZeroStep L) m, x.1 ∙ sym e.stays)

pub turns_change_no_refusal : (t inputs lent : List ℕ) (A B n row : ℕ) (after : List ℕ) → PlainAnswer t inputs lent A (Refused n row) after
    → (r : Plain) (left : List ℕ) → PlainAnswer t inputs lent B r left → (r ≡ Refused n row) × (left ≡ after)
turns_change_no_refusal t inputs lent A B n row after p r left q =
    let e = refused_is_refused t inputs lent A n row after p in
    let x = the_refusal_is_answered t inputs lent B n row e.0 e.1 r left q in
    (x.0, x.1 ∙ sym e.2)
