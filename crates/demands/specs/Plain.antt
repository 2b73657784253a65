-- THE READING WITHOUT THE GRAPH SAYS WHAT THE GRAPH DOES, over the entries' contracts: `PlainAnswer` of read_plain, `Called` of lower, load and run.
-- `results_in t after` are the words that read_plain has written first in the words lent to it.
--
--   ended_means_every_order_rests         where read_plain answers ended and `lower` answers 0, every order of firings rests with the words that it wrote
--   ended_means_every_order_of_calls      so does every order of calls of `fire`
--   ended_means_complete_calls            and three calls lower, load, run with enough allowance are answered COMPLETE and leave those words
--   read_inputs_are_loaded, read_tables_are_called        there are such calls: `load` takes the inputs that read_plain takes
--   complete_calls_mean_ended             and back: where such calls are answered COMPLETE with F firings there is a T of at most F; read_plain is ended with T turns and writes the words
--                                         that the calls left where T or more are allowed, and spent where fewer are
--   rest_means_an_answer                  so where any order rests: ended with the words that it left, or the zero step that it waits with
--   called_is_not_refused                 read_plain refuses no table and inputs that such calls took, if it is lent a word for each OUT row
--   zero_step_means_faulted_calls         where it answers a zero step at row L, they are answered SPENT, or ZERO STEP with the STREAM of L waiting
--   zero_step_means_faulted_orders        and so is every order that rests
--   zero_step_calls_mean_a_zero_step      and back, where they are answered ZERO STEP
--   two_answers_agree                     ended and COMPLETE: the same words
--   two_answers_never_differ              what the two may be answered together, case by case
--   always_spent_never_rests, always_spent_calls_are_spent        where read_plain is spent with every allowance, no order rests and all such calls are SPENT
--   an_endless_loop_is_always_spent, an_endless_loop_runs_for_ever        a loop for ever: read_plain is spent with every allowance, and so are such calls
--   both_sum_to_ten                        the sum table with 5: whatever calls are answered COMPLETE leave the 10 that read_plain writes
--
-- Assumes nothing.
use Prim.{Unit, tt}
use Rattle.std.specs.Prelude.{ℕ, suc, ◌*◌, ◌≤◌, ◌<◌, ◌≡◌, refl, ◌≢◌, ◌⊎◌, true, List, [], ◌∷◌, ◌++◌, length, drop, Result, Ok, Err}
use Rattle.std.proofs.Common.{sym, ap, ap₂, ◌∙◌, subst, inl, inr, arith}
use Rattle.std.proofs.Math.Option.{Option, none, some}
use Rattle.std.proofs.Math.Decide.{dec_le}
use Rattle.state.specs.Legal.{right_length}
use Rattle.state.specs.Run.{SPENT, COMPLETE, ZERO-STEP, outcome}
use Rattle.machine.specs.Entries.{load_refusal, load_state}
use Rattle.refusal.specs.declared.Refusal.{Refusal}
use Rattle.run.specs.Entry.{order_below, run_state, run_answer, ran_outcome, ran_firings}
use Rattle.run.specs.declared.Ran.{Ran}
use Rattle.run.specs.declared.Ran.TheVariants.{Complete, Stranded, ZeroStep as RunZeroStep, Spent as RunSpent}
use Rattle.confluence.specs.Statements.{Fires, AtRest}
use Rattle.legality.specs.Legality.{Words}
use Rattle.table.specs.Rows.{size, INPUT, OUT}
use Rattle.table.specs.Counted.{rows_of}
use Rattle.table.specs.Cases.{sum_table}
use Rattle.reading.specs.Reading.{Opening, Outcome, ended, zero_step, read}
use Rattle.reading.specs.Outcome.{Reads, one_outcome}
use Rattle.reading.specs.Within.{turns_made, openings_of}
use Rattle.engine.specs.Answers.{PlainAnswer}
use Rattle.engine.specs.Against.{Fit, results_in, fit_is_not_refused}
use Rattle.engine.proofs.Against.{ended_is_the_reading, the_reading_is_ended, zero_step_is_the_reading, the_reading_is_a_zero_step, spent_is_the_rest, too_few_are_spent, endless_is_spent, refused_is_refused}
use Rattle.engine.specs.Cases.{five_turns_end}
use Rattle.engine.specs.Plain.{Plain, Refused, Ended, ZeroStep, Spent}
use Rattle.lowered.specs.Lower.{lowered_words}
use Rattle.lowered.specs.Room.{check_answer, lower_answer}
use Rattle.laid.specs.Answers.{passed_check}
use Rattle.faithful.specs.Endings.{AsRead}
use Rattle.faithful.specs.Statements.{loaded_table, Faithful, EndsAsRead, FaultNamed}
use Rattle.faithful.proofs.Statements.{lowered_table_means_its_reading, zero_step_is_named, rest_bounds_the_reading, endless_reading_never_rests, turns_are_firings}
use Rattle.faithful.specs.NotIdle.{stay_table, stay_is_checked, stay_reads_for_ever}
use Rattle.demands.specs.Rehearsal.{Graph, lowered_is_checked, inputs_are_loaded}
use Rattle.demands.specs.Calls.{Called, CallsAsRead, FireCalls, NoneReady, calls_go_through, calls_rehearse_the_reading, calls_meet_the_fault, complete_calls_read, zero_step_calls_read, calls_are_never_stranded, calls_are_not_refused, called_turns, called_is_checked, called_with_the_inputs, fire_calls_rehearse_the_reading}

-- What read_plain answers and leaves where calls have left the state `end` and T turns are needed: the words of that state's results, and the rest stays.
pub record EndsWith (t room end : List ℕ) (T : ℕ) (r : Plain) (after : List ℕ) : Type 0 where
  pub answer : r ≡ Ended T
  pub words : AsRead t (results_in t after) end
  pub rest : after ≡ results_in t after ++ drop (rows_of OUT t (size t)) room

-- What read_plain (with `room` lent and `after` left) and the three calls (with `end` left) may be answered together. SPENT says nothing of the words.
abbrev pub Agree : List ℕ → List ℕ → List ℕ → List ℕ → Plain → Result Ran Refusal → Type 0
-- refused only where too few words are lent
Agree t room after end (Refused n row) q = length room < rows_of OUT t (size t)
Agree t room after end (Ended T) (Ok (Complete F)) = AsRead t (results_in t after) end
Agree t room after end (Ended T) (Ok (RunSpent F)) = Unit {0}
Agree t room after end (Ended T) (Ok (RunZeroStep F i)) = ⊥
Agree t room after end (Ended T) (Ok (Stranded F)) = ⊥
Agree t room after end (Ended T) (Err n) = ⊥
Agree t room after end (ZeroStep L T) (Ok (Complete F)) = ⊥
Agree t room after end (ZeroStep L T) (Ok (RunSpent F)) = Unit {0}
Agree t room after end (ZeroStep L T) (Ok (RunZeroStep F i)) = FaultNamed t L end (record { answer = ZERO-STEP; node = i })
Agree t room after end (ZeroStep L T) (Ok (Stranded F)) = ⊥
Agree t room after end (ZeroStep L T) (Err n) = ⊥
Agree t room after end (Spent T) (Ok (Complete F)) = Unit {0}
Agree t room after end (Spent T) (Ok (RunSpent F)) = Unit {0}
Agree t room after end (Spent T) (Ok (RunZeroStep F i)) = Unit {0}
Agree t room after end (Spent T) (Ok (Stranded F)) = ⊥
Agree t room after end (Spent T) (Err n) = ⊥

module _ (t inputs : List ℕ) where
  -- ---- where read_plain is ended
  module _ (room : List ℕ) (A T : ℕ) (after : List ℕ) (p : PlainAnswer t inputs room A (Ended T) after) where
    -- the reading ends with the words that are written
    pub written_words_are_read : (openings : List Opening) × (turns_made openings ≡ T) × Reads t inputs (ended (results_in t after) openings)
    written_words_are_read =
        let e = ended_is_the_reading t inputs room A T after p in
        (e.openings, e.turns, subst (λ (x : List ℕ). Reads t inputs (ended x e.openings)) (sym e.written) e.reads)

    pub ended_means_every_order_rests : (lent : List ℕ) → (lower_answer t (length lent)).number ≡ 0
        → (openings : List Opening) × (F : ℕ) × (turns_made openings ≡ T)
        × ((order u : List ℕ) → Fires (lowered_words t) order (loaded_table t inputs) u → Faithful t inputs (results_in t after) openings F order u)
    ended_means_every_order_rests lent w =
        let e = written_words_are_read in
        let m = lowered_table_means_its_reading t (lowered_is_checked t lent w) inputs (results_in t after) e.0 e.2 in
        (e.0, m.0, e.1, m.1)

    pub ended_means_every_order_of_calls : (openings : List Opening) × (F : ℕ) × (turns_made openings ≡ T)
        × ((lent s : List ℕ) → (lower_answer t (length lent)).number ≡ 0 → load_refusal (Graph t lent) inputs s ≡ 0 → (order u : List ℕ) → FireCalls (Graph t lent) order (load_state (Graph t lent) inputs s) u
        → (length order ≤ F) × (NoneReady (Graph t lent) u → EndsAsRead t inputs (results_in t after) openings F order u))
    ended_means_every_order_of_calls =
        let e = written_words_are_read in
        let m = fire_calls_rehearse_the_reading t inputs (results_in t after) e.0 e.2 in
        (e.0, m.0, e.1, m.1)

    pub ended_means_complete_calls : (openings : List Opening) × (F : ℕ) × (turns_made openings ≡ T)
        × ((lent s list : List ℕ) (a : ℕ) (q : Result Ran Refusal) (end : List ℕ) → Called t lent inputs s list a q end → F ≤ a → CallsAsRead t inputs (results_in t after) openings F list a q end)
    ended_means_complete_calls =
        let e = written_words_are_read in
        let m = calls_rehearse_the_reading t inputs (results_in t after) e.0 e.2 in
        (e.0, m.0, e.1, m.1)

    -- ENDED AND COMPLETE
    pub two_answers_agree : (lent s list : List ℕ) (a F : ℕ) (q : Result Ran Refusal) (end : List ℕ) → Called t lent inputs s list a q end → q ≡ Ok (Complete F) → AsRead t (results_in t after) end
    two_answers_agree lent s list a F q end c e =
        let x = written_words_are_read in
        let y = complete_calls_read t inputs lent s list a F q end c e in
        let o = one_outcome t inputs (ended y.0 y.1) (ended (results_in t after) x.0) y.2 x.2 in
        let f : y.0 ≡ results_in t after = cc in
        subst (λ (z : List ℕ). AsRead t z end) f y.3

  -- ---- there are such calls where read_plain refuses nothing and `lower` answers 0
  module _ (n : ℕ) (fit : Fit t inputs n) (lent s : List ℕ) (w : (lower_answer t (length lent)).number ≡ 0) (right : right_length (Graph t lent) s ≡ true) where
    pub read_inputs_are_loaded : load_refusal (Graph t lent) inputs s ≡ 0
    read_inputs_are_loaded = inputs_are_loaded t lent w inputs s fit.one_each right

    pub read_tables_are_called : Words t → Words inputs → (list : List ℕ) → order_below (Graph t lent) list ≡ true → (a : ℕ)
        → Called t lent inputs s list a (run_answer (Graph t lent) (load_state (Graph t lent) inputs s) list a) (run_state (Graph t lent) (load_state (Graph t lent) inputs s) list a)
    read_tables_are_called wt wi list below a = calls_go_through t lent inputs s list a w wt wi read_inputs_are_loaded below

  -- ---- and back
  pub called_is_not_refused : (room : List ℕ) → rows_of OUT t (size t) ≤ length room
      → (lent s list : List ℕ) (a : ℕ) (q : Result Ran Refusal) (end : List ℕ) → Called t lent inputs s list a q end → Fit t inputs (length room)
  called_is_not_refused room l lent s list a q end c =
      record { rows = passed_check t (called_is_checked t inputs lent s list a q end c); one_each = called_with_the_inputs t inputs lent s list a q end c; room = l }

  -- read_plain on a reading that ends with the words that an order or a run has left
  ends_with : (words : List ℕ) (openings : List Opening) → Reads t inputs (ended words openings) → (end : List ℕ) → AsRead t words end
      → (room : List ℕ) → Fit t inputs (length room) → (A : ℕ) (r : Plain) (after : List ℕ) → PlainAnswer t inputs room A r after → turns_made openings ≤ A
      → EndsWith t room end (turns_made openings) r after
  ends_with words openings x end left room f A r after p l =
      let y = the_reading_is_ended t inputs room A f words openings x l r after p in
      let z = ended_is_the_reading t inputs room A (turns_made openings) after (subst (λ (v : Plain). PlainAnswer t inputs room A v after) y.0 p) in
      let o = one_outcome t inputs (ended words openings) (ended z.results z.openings) x z.reads in
      let k : words ≡ z.results = cc in
      record {
        answer = y.0;
        words = subst (λ (v : List ℕ). AsRead t v end) (k ∙ sym z.written) left;
        rest = z.first ∙ ap₂ {C = List ℕ} (λ (u : List ℕ) (v : ℕ). u ++ drop v room) (sym z.written) z.one_each;
      }

  -- the turns of the reading are at most the firings told
  made_by_lem : (lent s list : List ℕ) (a : ℕ) (q : Result Ran Refusal) (end : List ℕ) → Called t lent inputs s list a q end → (F : ℕ) → ran_firings q ≡ F → (ran_outcome q).answer ≢ SPENT
      → (o : Outcome) → Reads t inputs o → turns_made (openings_of o) ≤ F
  made_by_lem lent s list a q end c F f n o r = let b = called_turns t inputs lent s list a q end c n o r in omega arith

  pub complete_calls_mean_ended : (lent s list : List ℕ) (a F : ℕ) (q : Result Ran Refusal) (end : List ℕ) → Called t lent inputs s list a q end → q ≡ Ok (Complete F)
      → (T : ℕ) × (T ≤ F)
      × ((room : List ℕ) → rows_of OUT t (size t) ≤ length room → (A : ℕ) (r : Plain) (after : List ℕ) → PlainAnswer t inputs room A r after
      → (T ≤ A → EndsWith t room end T r after) × (A < T → (r ≡ Spent A) × (after ≡ room)))
  complete_calls_mean_ended lent s list a F q end c e =
      let y = complete_calls_read t inputs lent s list a F q end c e in (
        turns_made y.1,
        made_by_lem lent s list a q end c F (ap ran_firings e) (λ z. let k : COMPLETE ≡ SPENT = sym (ap (λ (x : Result Ran Refusal). (ran_outcome x).answer) e) ∙ z in omega arith) (ended y.0 y.1) y.2,
        λ room l A r after p.
            let f = called_is_not_refused room l lent s list a q end c in (
              ends_with y.0 y.1 y.2 end y.3 room f A r after p,
              λ h. too_few_are_spent t inputs room A f (ended y.0 y.1) y.2 h r after p,
            ),
      )

  -- an order that rests: ended with the words that it left, or a zero step that it waits with
  pub rest_means_an_answer : (lent : List ℕ) → (lower_answer t (length lent)).number ≡ 0 → (order u : List ℕ) → Fires (lowered_words t) order (loaded_table t inputs) u → AtRest (lowered_words t) u
      → (T : ℕ) × (T ≤ length order) × ((room : List ℕ) → Fit t inputs (length room) → (A : ℕ) (r : Plain) (after : List ℕ) → PlainAnswer t inputs room A r after → T ≤ A
      → EndsWith t room u T r after ⊎ ((L : ℕ) × (r ≡ ZeroStep L T) × FaultNamed t L u (outcome (lowered_words t) u)))
  rest_means_an_answer lent w order u q h =
      let k = lowered_is_checked t lent w in
      let x = rest_bounds_the_reading t k inputs order u q h in
      go k x.0 (record { steps = suc (length order) * suc (size t); comes = x.1 })
    where
      go : (check_answer t).number ≡ 0 → (o : Outcome) → Reads t inputs o
          → (T : ℕ) × (T ≤ length order) × ((room : List ℕ) → Fit t inputs (length room) → (A : ℕ) (r : Plain) (after : List ℕ) → PlainAnswer t inputs room A r after → T ≤ A
          → EndsWith t room u T r after ⊎ ((L : ℕ) × (r ≡ ZeroStep L T) × FaultNamed t L u (outcome (lowered_words t) u)))
      go k (ended words openings) x = (
        turns_made openings,
        turns_are_firings t k inputs order u q h (ended words openings) x,
        λ room f A r after p l. inl (ends_with words openings x u (((lowered_table_means_its_reading t k inputs words openings x).1 order u q).ends h).state room f A r after p l),
      )
      go k (zero_step L openings) x = (
        turns_made openings,
        turns_are_firings t k inputs order u q h (zero_step L openings) x,
        λ room f A r after p l. inr (L, (the_reading_is_a_zero_step t inputs room A f L openings x l r after p).0, zero_step_is_named t k inputs L openings x order u q h),
      )

  -- ---- a zero step
  pub zero_step_means_faulted_calls : (room : List ℕ) (A L T : ℕ) (after : List ℕ) → PlainAnswer t inputs room A (ZeroStep L T) after
      → (lent s list : List ℕ) (a : ℕ) (q : Result Ran Refusal) (end : List ℕ) → Called t lent inputs s list a q end → ((ran_outcome q).answer ≡ SPENT) ⊎ FaultNamed t L end (ran_outcome q)
  zero_step_means_faulted_calls room A L T after p = let e = zero_step_is_the_reading t inputs room A L T after p in calls_meet_the_fault t inputs L e.openings e.reads

  pub zero_step_means_faulted_orders : (room : List ℕ) (A L T : ℕ) (after : List ℕ) → PlainAnswer t inputs room A (ZeroStep L T) after → (lent : List ℕ) → (lower_answer t (length lent)).number ≡ 0
      → (order u : List ℕ) → Fires (lowered_words t) order (loaded_table t inputs) u → AtRest (lowered_words t) u → FaultNamed t L u (outcome (lowered_words t) u)
  zero_step_means_faulted_orders room A L T after p lent w =
      let e = zero_step_is_the_reading t inputs room A L T after p in zero_step_is_named t (lowered_is_checked t lent w) inputs L e.openings e.reads

  pub zero_step_calls_mean_a_zero_step : (lent s list : List ℕ) (a F i : ℕ) (q : Result Ran Refusal) (end : List ℕ) → Called t lent inputs s list a q end → q ≡ Ok (RunZeroStep F i)
      → (L : ℕ) × (T : ℕ) × (T ≤ F) × FaultNamed t L end (ran_outcome q)
      × ((room : List ℕ) → rows_of OUT t (size t) ≤ length room → (A : ℕ) (r : Plain) (after : List ℕ) → PlainAnswer t inputs room A r after
      → (T ≤ A → (r ≡ ZeroStep L T) × (after ≡ room)) × (A < T → (r ≡ Spent A) × (after ≡ room)))
  zero_step_calls_mean_a_zero_step lent s list a F i q end c e =
      let y = zero_step_calls_read t inputs lent s list a F i q end c e in (
        y.0,
        turns_made y.1,
        made_by_lem lent s list a q end c F (ap ran_firings e) (λ z. let k : ZERO-STEP ≡ SPENT = sym (ap (λ (x : Result Ran Refusal). (ran_outcome x).answer) e) ∙ z in omega arith) (zero_step y.0 y.1) y.2,
        y.3,
        λ room l A r after p.
            let f = called_is_not_refused room l lent s list a q end c in (
              λ h. the_reading_is_a_zero_step t inputs room A f y.0 y.1 y.2 h r after p,
              λ h. too_few_are_spent t inputs room A f (zero_step y.0 y.1) y.2 h r after p,
            ),
      )

  -- ---- what may be answered together
  module _ (room : List ℕ) (A : ℕ) (after lent s list : List ℕ) (a : ℕ) (end : List ℕ) where
    refused_for_room : (n row : ℕ) (q : Result Ran Refusal) → PlainAnswer t inputs room A (Refused n row) after → Called t lent inputs s list a q end → length room < rows_of OUT t (size t)
    refused_for_room n row q p c =
        elim (dec_le (rows_of OUT t (size t)) (length room)) [
          | yes l ↦
              let x = refused_is_refused t inputs room A n row after p in
              let z = fit_is_not_refused t inputs (length room) (called_is_not_refused room l lent s list a q end c) in
              absurd (x.1 (sym (ap (λ y. y.number) x.0) ∙ z))
          | no l ↦ omega arith
        ]

    ended_never_faults : (T F i : ℕ) → PlainAnswer t inputs room A (Ended T) after → Called t lent inputs s list a (Ok (RunZeroStep F i)) end → ⊥
    ended_never_faults T F i p c =
        let x = written_words_are_read room A T after p in
        let y = zero_step_calls_read t inputs lent s list a F i (Ok (RunZeroStep F i)) end c refl in
        let o = one_outcome t inputs (zero_step y.0 y.1) (ended (results_in t after) x.0) y.2 x.2 in
        let z : ◌≡◌ {A = ℕ} 0 1 = cc in
        omega arith

    fault_never_completes : (L T F : ℕ) → PlainAnswer t inputs room A (ZeroStep L T) after → Called t lent inputs s list a (Ok (Complete F)) end → ⊥
    fault_never_completes L T F p c =
        let x = zero_step_is_the_reading t inputs room A L T after p in
        let y = complete_calls_read t inputs lent s list a F (Ok (Complete F)) end c refl in
        let o = one_outcome t inputs (zero_step L x.openings) (ended y.0 y.1) x.reads y.2 in
        let z : ◌≡◌ {A = ℕ} 0 1 = cc in
        omega arith

    fault_is_named : (L T F i : ℕ) → PlainAnswer t inputs room A (ZeroStep L T) after → Called t lent inputs s list a (Ok (RunZeroStep F i)) end → FaultNamed t L end (record { answer = ZERO-STEP; node = i })
    fault_is_named L T F i p c = go (zero_step_means_faulted_calls room A L T after p lent s list a (Ok (RunZeroStep F i)) end c)
      where
        go : (ZERO-STEP ≡ SPENT) ⊎ FaultNamed t L end (record { answer = ZERO-STEP; node = i }) → FaultNamed t L end (record { answer = ZERO-STEP; node = i })
        go (inl z) = absurd (omega arith)
        go (inr f) = f

    pub two_answers_never_differ : (r : Plain) (q : Result Ran Refusal) → PlainAnswer t inputs room A r after → Called t lent inputs s list a q end → Agree t room after end r q
    two_answers_never_differ (Refused n row) q p c = refused_for_room n row q p c
    two_answers_never_differ (Ended T) (Ok (Complete F)) p c = two_answers_agree room A T after p lent s list a F (Ok (Complete F)) end c refl
    two_answers_never_differ (Ended T) (Ok (RunSpent F)) p c = tt
    two_answers_never_differ (Ended T) (Ok (RunZeroStep F i)) p c = ended_never_faults T F i p c
    two_answers_never_differ (Ended T) (Ok (Stranded F)) p c = calls_are_never_stranded t inputs lent s list a F (Ok (Stranded F)) end c refl
    two_answers_never_differ (Ended T) (Err n) p c = calls_are_not_refused t inputs lent s list a n (Err n) end c refl
    two_answers_never_differ (ZeroStep L T) (Ok (Complete F)) p c = fault_never_completes L T F p c
    two_answers_never_differ (ZeroStep L T) (Ok (RunSpent F)) p c = tt
    two_answers_never_differ (ZeroStep L T) (Ok (RunZeroStep F i)) p c = fault_is_named L T F i p c
    two_answers_never_differ (ZeroStep L T) (Ok (Stranded F)) p c = calls_are_never_stranded t inputs lent s list a F (Ok (Stranded F)) end c refl
    two_answers_never_differ (ZeroStep L T) (Err n) p c = calls_are_not_refused t inputs lent s list a n (Err n) end c refl
    two_answers_never_differ (Spent T) (Ok (Complete F)) p c = tt
    two_answers_never_differ (Spent T) (Ok (RunSpent F)) p c = tt
    two_answers_never_differ (Spent T) (Ok (RunZeroStep F i)) p c = tt
    two_answers_never_differ (Spent T) (Ok (Stranded F)) p c = calls_are_never_stranded t inputs lent s list a F (Ok (Stranded F)) end c refl
    two_answers_never_differ (Spent T) (Err n) p c = calls_are_not_refused t inputs lent s list a n (Err n) end c refl

  -- ---- no outcome
  no_outcome_calls : ((o : Outcome) → Reads t inputs o → ⊥) → (lent s list : List ℕ) (a : ℕ) (q : Result Ran Refusal) (end : List ℕ) → Called t lent inputs s list a q end → (ran_outcome q).answer ≡ SPENT
  no_outcome_calls never lent s list a (Ok (Complete F)) end c = let y = complete_calls_read t inputs lent s list a F (Ok (Complete F)) end c refl in absurd (never _ y.2)
  no_outcome_calls never lent s list a (Ok (RunSpent F)) end c = refl
  no_outcome_calls never lent s list a (Ok (RunZeroStep F i)) end c = let y = zero_step_calls_read t inputs lent s list a F i (Ok (RunZeroStep F i)) end c refl in absurd (never _ y.2)
  no_outcome_calls never lent s list a (Ok (Stranded F)) end c = absurd (calls_are_never_stranded t inputs lent s list a F (Ok (Stranded F)) end c refl)
  no_outcome_calls never lent s list a (Err n) end c = absurd (calls_are_not_refused t inputs lent s list a n (Err n) end c refl)

  module _ (room : List ℕ) (spent : (A : ℕ) → PlainAnswer t inputs room A (Spent A) room) where
    no_outcome : (o : Outcome) → Reads t inputs o → ⊥
    no_outcome o r =
        let m = (spent_is_the_rest t inputs room (turns_made (openings_of o)) (turns_made (openings_of o)) room (spent (turns_made (openings_of o)))).needs_more o r in
        omega arith

    pub always_spent_never_rests : (lent : List ℕ) → (lower_answer t (length lent)).number ≡ 0
        → (order u : List ℕ) → Fires (lowered_words t) order (loaded_table t inputs) u → AtRest (lowered_words t) u → ⊥
    always_spent_never_rests lent w = endless_reading_never_rests t (lowered_is_checked t lent w) inputs (λ k. none_there k (read k t inputs) refl)
      where
        none_there : (k : ℕ) (x : Option Outcome) → read k t inputs ≡ x → x ≡ none
        none_there k none e = refl
        none_there k (some o) e = absurd (no_outcome o (record { steps = k; comes = e }))

    pub always_spent_calls_are_spent : (lent s list : List ℕ) (a : ℕ) (q : Result Ran Refusal) (end : List ℕ) → Called t lent inputs s list a q end → (ran_outcome q).answer ≡ SPENT
    always_spent_calls_are_spent = no_outcome_calls no_outcome

-- ---- none of this is idle

stay_rows : (rows_of INPUT stay_table (size stay_table) ≡ 0) × (rows_of OUT stay_table (size stay_table) ≡ 1)
unfolding rows_of
stay_rows = (refl, refl)

-- a loop for ever: its index starts at 0, is multiplied by 1, and 0 <= 0
pub an_endless_loop_is_always_spent : (room : List ℕ) → 1 ≤ length room → (A : ℕ) (r : Plain) (after : List ℕ) → PlainAnswer stay_table [] room A r after → (r ≡ Spent A) × (after ≡ room)
an_endless_loop_is_always_spent room l A =
    endless_is_spent stay_table [] room A (record { rows = passed_check stay_table stay_is_checked; one_each = sym stay_rows.0; room = let e = stay_rows.1 in omega arith }) stay_reads_for_ever

pub an_endless_loop_runs_for_ever : (lent s list : List ℕ) (a : ℕ) (q : Result Ran Refusal) (end : List ℕ) → Called stay_table lent [] s list a q end → (ran_outcome q).answer ≡ SPENT
an_endless_loop_runs_for_ever = no_outcome_calls stay_table [] (λ o r. let e : none ≡ some o = sym (stay_reads_for_ever r.steps) ∙ r.comes in let z : ◌≡◌ {A = ℕ} 0 1 = cc in omega arith)

-- P10: five turns and 10
sum_writes : results_in sum_table (10 ∷ 9 ∷ []) ≡ 10 ∷ []
unfolding rows_of
sum_writes = refl

pub both_sum_to_ten : (lent s list : List ℕ) (a F : ℕ) (q : Result Ran Refusal) (end : List ℕ) → Called sum_table lent (5 ∷ []) s list a q end → q ≡ Ok (Complete F) → AsRead sum_table (10 ∷ []) end
both_sum_to_ten lent s list a F q end c e =
    subst (λ (x : List ℕ). AsRead sum_table x end) sum_writes (two_answers_agree sum_table (5 ∷ []) (7 ∷ 9 ∷ []) 5 5 (10 ∷ 9 ∷ []) five_turns_end lent s list a F q end c e)
