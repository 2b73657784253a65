-- THE REHEARSAL IS THE READING, over what the entries answer: a table is lowered into lent words, the graph that stands there is loaded, and the
-- loaded state is run, each by a call that is not refused.
--
--   Graph                         the words that `lower` has written: as many as it answers
--   graph_is_lowered              they are the table's graph, whatever was lent; graph_is_accepted: `check_graph` answers 0
--   only_inputs_are_refused       `load` refuses it for the inputs' or the state's length alone; only_the_list_is_refused: `run` for its list alone,
--                                 where table and inputs are words, below 2^32
--   rehearsal_is_the_reading      where the plain reading ends, every run with enough allowance answers COMPLETE with the same firings, whatever was lent
--                                 and whatever its list, leaves the reading's words and nothing else, and has passed N + 1 raw and N gated conditions for
--                                 each opening of N turns
--   rehearsal_meets_the_fault     where it meets a zero step, every run is SPENT or leaves the STREAM of that loop waiting with it, and answers ZERO STEP
--   complete_is_the_reading       a run that answers COMPLETE: the plain reading ends, and the run has left its words and nothing else
--   zero_step_run_is_the_reading      one that answers ZERO STEP: the plain reading meets a zero step; run_is_never_stranded: none answers STRANDED
--   turns_are_made                the reading has made no more turns than such a run has made firings
--   as_many_inputs                `load` takes as many inputs as the table has INPUT rows; inputs_are_loaded: those it takes, in a state of the right length
--
-- Assumes nothing.
use Rattle.std.specs.Prelude.{ℕ, ◌+◌, ◌-◌, ◌≤◌, ◌≡◌, refl, ◌⊎◌, ◌≢◌, Bool, true, false, eqb, length, take, drop, Result, Ok, Err}
use Rattle.std.proofs.Common.{sym, ◌∙◌, subst₂, inl, inr, arith, eq-eqb, eqb-true}
use Rattle.std.proofs.Math.Path.{ap, ap₂, subst}
use Rattle.std.proofs.Math.Bool.{cond}
use mathlib.Core.List.{List, [], ◌∷◌, ◌++◌}
use Rattle.std.proofs.Math.Decide.{ℕ_discrete}
use Rattle.std.proofs.lemmas.List.Edits.{sets-eq}
use Rattle.word.specs.Words.{pick}
use Rattle.graph.specs.Refusal.{graph_refusal}
use Rattle.state.specs.Legal.{right_length}
use Rattle.state.specs.Load.{input_count, loaded}
use Rattle.state.specs.Run.{COMPLETE, ZERO-STEP, STRANDED, SPENT, Outcome, outcome}
use Rattle.refusal.specs.declared.Refusal.{Refusal}
use Rattle.machine.specs.Entries.{first, refusal_of, state_refusal, load_refusal, load_state}
use Rattle.machine.proofs.Answers.{first_zero}
use Rattle.run.specs.Entry.{order_below, run_refusal, run_at, run_state, run_firings, ran_by, run_answer, ran_outcome, ran_firings}
use Rattle.run.specs.Numbers.{ran_shown}
use Rattle.run.specs.declared.Ran.{Ran}
use Rattle.run.specs.declared.Ran.TheVariants.{Complete, ZeroStep, Stranded, Spent}
use Rattle.confluence.specs.Statements.{run_of, made_by}
use Rattle.confluence.proofs.Statements.{run_is_an_order}
use Rattle.legality.specs.Legality.{Words}
use Rattle.answers.specs.Answers.{load_leaves_right}
use Rattle.table.specs.Rows.{size, INPUT}
use Rattle.table.specs.Counted.{rows_of}
use Rattle.reading.specs.Reading.{Opening, ended, zero_step}
use Rattle.reading.specs.Reading
use Rattle.reading.specs.Outcome.{Reads}
use Rattle.reading.specs.Within.{turns_made, openings_of}
use Rattle.lowered.specs.Lower.{lowered_words}
use Rattle.lowered.specs.Room.{check_answer, lower_refusal, lower_answer, lent_after}
use Rattle.laid.specs.Accepts.{inputs_are_the_rows}
use Rattle.laid.specs.Answers.{success_writes_the_graph_first, written_graph_is_accepted, written_graph_fits}
use Rattle.laid.specs.Limits.{lowered_words_lem}
use Rattle.faithful.specs.Endings.{AsRead}
use Rattle.faithful.specs.Statements.{loaded_table, ConditionsTold, FaultNamed, written_table_is_checked}
use Rattle.faithful.proofs.Statements.{lowered_table_means_its_reading, every_run_is_complete, zero_step_is_named, zero_step_means_the_reading, rest_is_never_stranded, complete_run_means_the_reading, turns_are_firings}

-- the words that `lower` has written
abbrev pub Graph : List ℕ → List ℕ → List ℕ
Graph t lent = take (lower_answer t (length lent)).written (lent_after t lent)

take_all : (xs ys : List ℕ) → take (length xs) (xs ++ ys) ≡ xs
take_all [] ys = refl
take_all (x ∷ xs) ys = ap (λ (l : List ℕ). x ∷ l) (take_all xs ys)

module _ (t lent : List ℕ) (written : (lower_answer t (length lent)).number ≡ 0) where
  -- it answers the refusal's number
  pub no_refusal : (lower_refusal t (length lent)).number ≡ 0
  unfolding lower_answer
  no_refusal = written

  length_is : (lower_answer t (length lent)).written ≡ length (lowered_words t)
  unfolding lower_answer
  length_is = ap (λ (b : Bool). cond b (length (lowered_words t)) 0) (eq-eqb (lower_refusal t (length lent)).number 0 no_refusal)

  pub graph_is_lowered : Graph t lent ≡ lowered_words t
  graph_is_lowered =
      let fits = written_graph_fits t (length lent) no_refusal in
      let z : 0 + length (lowered_words t) ≤ length lent = omega arith in
      ap₂ (λ (n : ℕ) (l : List ℕ). take n l) length_is (success_writes_the_graph_first t lent no_refusal ∙ sets-eq (lowered_words t) lent 0 z)
      ∙ take_all (lowered_words t) (drop (0 + length (lowered_words t)) lent)

  pub graph_is_accepted : graph_refusal (Graph t lent) ≡ 0
  graph_is_accepted = ap graph_refusal graph_is_lowered ∙ written_graph_is_accepted t (length lent) no_refusal

  pub only_inputs_are_refused : (inputs s : List ℕ)
      → load_refusal (Graph t lent) inputs s ≡ first (pick (right_length (Graph t lent) s) 0 17) (pick (eqb (length inputs) (input_count (Graph t lent))) 0 16)
  unfolding load_refusal
  only_inputs_are_refused inputs s =
      ap (λ (b : Bool). pick b (first (pick (right_length (Graph t lent) s) 0 17) (pick (eqb (length inputs) (input_count (Graph t lent))) 0 16)) (graph_refusal (Graph t lent))) (eq-eqb _ _ graph_is_accepted)

  -- a table that `lower` has written is checked
  pub lowered_is_checked : (check_answer t).number ≡ 0
  lowered_is_checked = written_table_is_checked t (length lent) no_refusal

  pub only_the_list_is_refused : (inputs s : List ℕ) → Words t → Words inputs → load_refusal (Graph t lent) inputs s ≡ 0 → (list : List ℕ)
      → run_refusal (Graph t lent) (load_state (Graph t lent) inputs s) list ≡ pick (order_below (Graph t lent) list) 0 18
  unfolding run_refusal
  only_the_list_is_refused inputs s wt wi loads list =
      let wg = subst Words (sym graph_is_lowered) (lowered_words_lem t lowered_is_checked wt) in
      ap (λ (b : Bool). pick b (pick (order_below (Graph t lent) list) 0 18) (state_refusal (Graph t lent) (load_state (Graph t lent) inputs s))) (eq-eqb _ _ (load_leaves_right (Graph t lent) inputs s wg wi loads))

  -- the inputs are the INPUT rows
  inputs_counted : input_count (Graph t lent) ≡ rows_of INPUT t (size t)
  inputs_counted = ap input_count graph_is_lowered ∙ inputs_are_the_rows t

  pub as_many_inputs : (inputs s : List ℕ) → load_refusal (Graph t lent) inputs s ≡ 0 → length inputs ≡ rows_of INPUT t (size t)
  as_many_inputs inputs s h =
      go (eqb (length inputs) (input_count (Graph t lent))) refl (first_zero (pick (right_length (Graph t lent) s) 0 17) _ (sym (only_inputs_are_refused inputs s) ∙ h)).1 ∙ inputs_counted
    where
      go : (b : Bool) → eqb (length inputs) (input_count (Graph t lent)) ≡ b → ◌≡◌ {A = ℕ} (pick b 0 16) 0 → length inputs ≡ input_count (Graph t lent)
      go true e z = eqb-true (length inputs) (input_count (Graph t lent)) e
      go false e z = let y : ◌≡◌ {A = ℕ} 16 0 = z in absurd (omega arith)

  pub inputs_are_loaded : (inputs s : List ℕ) → length inputs ≡ rows_of INPUT t (size t) → right_length (Graph t lent) s ≡ true → load_refusal (Graph t lent) inputs s ≡ 0
  inputs_are_loaded inputs s n l =
      only_inputs_are_refused inputs s
      ∙ ap₂ (λ (x y : Bool). first (pick x 0 17) (pick y 0 16)) l (eq-eqb (length inputs) (input_count (Graph t lent)) (n ∙ sym inputs_counted))

  -- ---- one call after the other
  module _ (inputs s : List ℕ) (loads : load_refusal (Graph t lent) inputs s ≡ 0) where
    pub loaded_is : load_state (Graph t lent) inputs s ≡ loaded (lowered_words t) inputs
    unfolding load_state
    loaded_is =
        ap (λ (b : Bool). pick b (loaded (Graph t lent) inputs) s) (eq-eqb _ _ loads) ∙ ap (λ (g : List ℕ). loaded g inputs) graph_is_lowered

    module _ (list : List ℕ) (a : ℕ) (runs : run_refusal (Graph t lent) (load_state (Graph t lent) inputs s) list ≡ 0) where
      abbrev pub end : List ℕ
      end = (run_of (lowered_words t) list (loaded (lowered_words t) inputs) a).state

      abbrev pub made : ℕ
      made = a - (run_of (lowered_words t) list (loaded (lowered_words t) inputs) a).left

      at_is : run_at (Graph t lent) (load_state (Graph t lent) inputs s) list a ≡ run_of (lowered_words t) list (loaded (lowered_words t) inputs) a
      unfolding run_at
      at_is = ap₂ (λ (g z : List ℕ). run_of g list z a) graph_is_lowered loaded_is

      state_is : run_state (Graph t lent) (load_state (Graph t lent) inputs s) list a ≡ end
      unfolding run_state
      state_is =
          ap (λ (b : Bool). pick b (run_at (Graph t lent) (load_state (Graph t lent) inputs s) list a).state (load_state (Graph t lent) inputs s)) (eq-eqb _ _ runs)
          ∙ ap (λ p. p.state) at_is

      answer_is : run_answer (Graph t lent) (load_state (Graph t lent) inputs s) list a ≡ Ok (ran_by (outcome (lowered_words t) end) made)
      unfolding run_answer run_firings
      answer_is =
          ap (λ (b : Bool). pick b (Ok (ran_by (outcome (Graph t lent) (run_at (Graph t lent) (load_state (Graph t lent) inputs s) list a).state) (a - (run_at (Graph t lent) (load_state (Graph t lent) inputs s) list a).left))) (Err (refusal_of (run_refusal (Graph t lent) (load_state (Graph t lent) inputs s) list)))) (eq-eqb _ _ runs)
          ∙ ap₂ (λ g p. Ok (ran_by (outcome g p.state) (a - p.left))) graph_is_lowered at_is

-- What a call of `run` on the loaded state has to do with the reading: answer and firings, every lent word, and what passed on each loop's conditions.
pub record Rehearsed (t lent inputs words : List ℕ) (openings : List Opening) (F : ℕ) (s list : List ℕ) (a : ℕ) : Type 0 where
  pub answer : run_answer (Graph t lent) (load_state (Graph t lent) inputs s) list a ≡ Ok (Complete F)
  pub state : AsRead t words (run_state (Graph t lent) (load_state (Graph t lent) inputs s) list a)
  pub conditions : ConditionsTold t openings (made_by (lowered_words t) list (loaded_table t inputs) a) (loaded_table t inputs)

-- a COMPLETE outcome is told as COMPLETE
told : (o : Outcome) (f : ℕ) → o.answer ≡ COMPLETE → ran_by o f ≡ Complete f
told o f e = rw e

module _ (t : List ℕ) (checked : (check_answer t).number ≡ 0) where
  -- WHERE THE READING ENDS there is one F, whatever is lent
  pub rehearsal_is_the_reading : (inputs words : List ℕ) (openings : List Opening) → Reads t inputs (ended words openings)
      → (F : ℕ)
      × ((lent : List ℕ) → (lower_answer t (length lent)).number ≡ 0 → (s list : List ℕ) (a : ℕ) → load_refusal (Graph t lent) inputs s ≡ 0 → run_refusal (Graph t lent) (load_state (Graph t lent) inputs s) list ≡ 0 → F ≤ a
      → Rehearsed t lent inputs words openings F s list a)
  rehearsal_is_the_reading inputs words openings r =
      let c = every_run_is_complete t checked inputs words openings r in
      let m = lowered_table_means_its_reading t checked inputs words openings r in (
        c.0,
        λ lent w s list a loads runs enough.
            let e = c.1 list a enough in
            let sum = e.1 in
            let f : a - (run_of (lowered_words t) list (loaded (lowered_words t) inputs) a).left ≡ c.0 = omega arith in
            let o = run_is_an_order (lowered_words t) list (loaded_table t inputs) a (λ z. let y : COMPLETE ≡ SPENT = sym e.0 ∙ z in omega arith) in
            record {
              answer = answer_is t lent w inputs s loads list a runs ∙ ap Ok (told (outcome (lowered_words t) (end t lent w inputs s loads list a runs)) (made t lent w inputs s loads list a runs) e.0 ∙ ap Complete f);
              state = subst (AsRead t words) (sym (state_is t lent w inputs s loads list a runs)) e.2;
              conditions = ((m.1 (made_by (lowered_words t) list (loaded_table t inputs) a) (end t lent w inputs s loads list a runs) o.0).ends o.1).conditions;
            },
      )

-- WHERE IT MEETS A ZERO STEP every run is SPENT, or ends with the STREAM of that loop waiting, and names the lowest that waits so
pub rehearsal_meets_the_fault : (t inputs : List ℕ) (L : ℕ) (openings : List Opening) → Reads t inputs (zero_step L openings)
    → (lent : List ℕ) → (lower_answer t (length lent)).number ≡ 0 → (s list : List ℕ) (a : ℕ) → load_refusal (Graph t lent) inputs s ≡ 0 → run_refusal (Graph t lent) (load_state (Graph t lent) inputs s) list ≡ 0
    → ((ran_outcome (run_answer (Graph t lent) (load_state (Graph t lent) inputs s) list a)).answer ≡ SPENT)
    ⊎ FaultNamed t L (run_state (Graph t lent) (load_state (Graph t lent) inputs s) list a) (ran_outcome (run_answer (Graph t lent) (load_state (Graph t lent) inputs s) list a))
rehearsal_meets_the_fault t inputs L openings r lent w s list a loads runs =
    elim (ℕ_discrete (outcome (lowered_words t) (end t lent w inputs s loads list a runs)).answer SPENT) [
      | yes e ↦ inl (ap (λ o. o.answer) shown ∙ e)
      | no n ↦ (let o = run_is_an_order (lowered_words t) list (loaded_table t inputs) a n in
          inr (subst₂ (λ u x. FaultNamed t L u x) (sym (state_is t lent w inputs s loads list a runs)) (sym shown)
          (zero_step_is_named t (lowered_is_checked t lent w) inputs L openings r (made_by (lowered_words t) list (loaded_table t inputs) a) (end t lent w inputs s loads list a runs) o.0 o.1)))
    ]
  where
    shown : ran_outcome (run_answer (Graph t lent) (load_state (Graph t lent) inputs s) list a) ≡ outcome (lowered_words t) (end t lent w inputs s loads list a runs)
    shown =
        ap ran_outcome (answer_is t lent w inputs s loads list a runs)
        ∙ (ran_shown (lowered_words t) (end t lent w inputs s loads list a runs) (made t lent w inputs s loads list a runs)).1

-- WHERE A RUN ANSWERS COMPLETE the reading ends, and the run has left its words
pub complete_is_the_reading : (t inputs lent : List ℕ) → (lower_answer t (length lent)).number ≡ 0 → (s list : List ℕ) (a F : ℕ) → load_refusal (Graph t lent) inputs s ≡ 0 → run_refusal (Graph t lent) (load_state (Graph t lent) inputs s) list ≡ 0
    → run_answer (Graph t lent) (load_state (Graph t lent) inputs s) list a ≡ Ok (Complete F)
    → (words : List ℕ) × (openings : List Opening) × Reads t inputs (ended words openings) × AsRead t words (run_state (Graph t lent) (load_state (Graph t lent) inputs s) list a)
complete_is_the_reading t inputs lent w s list a F loads runs e =
    let c : (outcome (lowered_words t) (end t lent w inputs s loads list a runs)).answer ≡ COMPLETE
    = sym (ap (λ o. o.answer) (ran_shown (lowered_words t) (end t lent w inputs s loads list a runs) (made t lent w inputs s loads list a runs)).1)
    ∙ ap (λ x. (ran_outcome x).answer) (sym (answer_is t lent w inputs s loads list a runs) ∙ e) in
    let x = complete_run_means_the_reading t (lowered_is_checked t lent w) inputs list a c in
    (x.0, x.1, x.2, subst (AsRead t x.0) (sym (state_is t lent w inputs s loads list a runs)) x.3)

-- WHERE IT ANSWERS ZERO STEP the reading meets one; and none answers STRANDED
module _ (t inputs lent : List ℕ) (w : (lower_answer t (length lent)).number ≡ 0) (s list : List ℕ) (a : ℕ) (loads : load_refusal (Graph t lent) inputs s ≡ 0) where
  module _ (runs : run_refusal (Graph t lent) (load_state (Graph t lent) inputs s) list ≡ 0) where
    answer_shows : (q : Result Ran Refusal) → run_answer (Graph t lent) (load_state (Graph t lent) inputs s) list a ≡ q
        → (outcome (lowered_words t) (end t lent w inputs s loads list a runs)).answer ≡ (ran_outcome q).answer
    answer_shows q e =
        sym (ap (λ o. o.answer) (ran_shown (lowered_words t) (end t lent w inputs s loads list a runs) (made t lent w inputs s loads list a runs)).1)
        ∙ ap (λ x. (ran_outcome x).answer) (sym (answer_is t lent w inputs s loads list a runs) ∙ e)

    pub zero_step_run_is_the_reading : (F i : ℕ) → run_answer (Graph t lent) (load_state (Graph t lent) inputs s) list a ≡ Ok (ZeroStep F i)
        → (L : ℕ) × (openings : List Opening) × Reads t inputs (zero_step L openings)
    zero_step_run_is_the_reading F i e =
        let c = answer_shows (Ok (ZeroStep F i)) e in
        let o = run_is_an_order (lowered_words t) list (loaded_table t inputs) a (λ z. let y : ZERO-STEP ≡ SPENT = sym c ∙ z in omega arith) in
        zero_step_means_the_reading t (lowered_is_checked t lent w) inputs (made_by (lowered_words t) list (loaded_table t inputs) a) (end t lent w inputs s loads list a runs) o.0 o.1 c

    pub run_is_never_stranded : (F : ℕ) → run_answer (Graph t lent) (load_state (Graph t lent) inputs s) list a ≢ Ok (Stranded F)
    run_is_never_stranded F e =
        let c = answer_shows (Ok (Stranded F)) e in
        let o = run_is_an_order (lowered_words t) list (loaded_table t inputs) a (λ z. let y : STRANDED ≡ SPENT = sym c ∙ z in omega arith) in
        rest_is_never_stranded t (lowered_is_checked t lent w) inputs (made_by (lowered_words t) list (loaded_table t inputs) a) (end t lent w inputs s loads list a runs) o.0 o.1 c

    -- and the reading has made no more turns than it has firings
    pub turns_are_made : (q : Result Ran Refusal) → run_answer (Graph t lent) (load_state (Graph t lent) inputs s) list a ≡ q → (ran_outcome q).answer ≢ SPENT
        → (o : Reading.Outcome) → Reads t inputs o → turns_made (openings_of o) ≤ ran_firings q
    turns_are_made q e n o r =
        let x = run_is_an_order (lowered_words t) list (loaded_table t inputs) a (λ z. n (sym (answer_shows q e) ∙ z)) in
        let b = turns_are_firings t (lowered_is_checked t lent w) inputs (made_by (lowered_words t) list (loaded_table t inputs) a) (end t lent w inputs s loads list a runs) x.0 x.1 o r in
        let f = ap ran_firings (sym e ∙ answer_is t lent w inputs s loads list a runs) ∙ (ran_shown (lowered_words t) (end t lent w inputs s loads list a runs) (made t lent w inputs s loads list a runs)).2 in
        firings_are (run_of (lowered_words t) list (loaded_table t inputs) a).left x.2 f b
      where
        firings_are : {k f m : ℕ} (l : ℕ) → k + l ≡ a → f ≡ a - l → m ≤ k → m ≤ f
        firings_are l p q r = omega arith

    -- nor is it refused
    pub run_is_not_refused : (n : Refusal) → run_answer (Graph t lent) (load_state (Graph t lent) inputs s) list a ≢ Err n
    run_is_not_refused n e = never (sym (answer_is t lent w inputs s loads list a runs) ∙ e)
      where
        never : {r : Ran} → ◌≡◌ {A = Result Ran Refusal} (Ok r) (Err n) → ⊥
        never e = let u : ◌≡◌ {A = ℕ} 0 1 = cc in omega arith
