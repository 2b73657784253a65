-- THE THIRD DEMAND OVER THE ENTRIES' CONTRACTS. The numbers and words are whatever the calls gave back; of them nothing is known but what the entries promise.
--
--   Called                        `lower` on lent words, `load` of what it wrote, `run` of what that left, none refused
--   calls_go_through              there are such calls wherever `lower` answers 0, table and inputs are words, and the lengths and the list are right
--   calls_rehearse_the_reading    where the reading ends there is one F: with an allowance of F or more every three calls are answered COMPLETE with F
--                                 firings, the state holds the reading's words and nothing else, and N + 1 raw and N gated conditions have passed for each
--                                 opening of N turns
--   calls_meet_the_fault          where it meets a zero step, they are answered SPENT, or ZERO STEP with the lowest STREAM that waits with a zero step,
--                                 and the STREAM of that loop is one
--   complete_calls_read           where they are answered COMPLETE, the reading ends, and the state holds its words and nothing else
--   zero_step_calls_read          where they are answered ZERO STEP, the reading meets a zero step, as calls_meet_the_fault names it
--   calls_are_never_stranded      they are never answered STRANDED; calls_are_not_refused: nor with a refusal
--   called_is_checked, called_with_the_inputs     such calls have passed the table's check, with as many inputs as INPUT rows
--   FireCalls                     calls of `fire` one after another, each answered that the node has fired
--   fire_calls_are_firings        they are firings of the rule, in that order
--   fire_calls_rehearse_the_reading   so every order that a caller makes of them, until no node is ready, is F long and ends in the same state
--
-- Assumes nothing.
use Rattle.std.specs.Prelude.{ℕ, ◌≤◌, ◌<◌, ◌≡◌, refl, ◌⊎◌, ◌≢◌, Bool, true, false, List, [], ◌∷◌, length, take, Result, Ok, Err}
use Rattle.std.proofs.Math.Path.{sym, ap}
use Rattle.std.proofs.Common.{ap₂, ◌∙◌, subst, subst₂, inl, inr, arith, eq-eqb}
use Rattle.std.proofs.Math.Option.{Option, none, some}
use Rattle.std.proofs.Math.Decide.{dec_lt, ℕ_discrete}
use Rattle.word.specs.Words.{pick}
use Rattle.graph.specs.Graph.{node_count}
use Rattle.state.specs.Net.{net_of, fire, is_ready, or_else}
use Rattle.state.specs.Run.{SPENT, ZERO-STEP}
use Rattle.refusal.specs.declared.Refusal.{Refusal}
use Rattle.machine.specs.Entries.{load_refusal, load_state, LoadAnswer, fire_refusal, fire_state, fired_number, fired_flag, FireAnswer}
use Rattle.machine.specs.declared.Fired.{Fired}
use Rattle.machine.specs.declared.Fired.TheVariants.{NotReady, Done}
use Rattle.run.specs.Entry.{order_below, run_refusal, run_state, run_answer, ran_number, ran_outcome, ran_firings}
use Rattle.run.specs.Numbers.{run_number, RunAnswer, run_answers}
use Rattle.run.specs.declared.Ran.{Ran}
use Rattle.run.specs.declared.Ran.TheVariants.{Complete, ZeroStep, Stranded}
use Rattle.confluence.specs.Orders.{fires_none, fires_on}
use Rattle.confluence.specs.Graphs.{none_past_last}
use Rattle.confluence.specs.Statements.{Fires, AtRest, made_by}
use Rattle.legality.specs.Legality.{Words}
use Rattle.table.specs.Rows.{size, INPUT}
use Rattle.table.specs.Counted.{rows_of}
use Rattle.reading.specs.Reading.{Opening, Outcome, ended, zero_step}
use Rattle.reading.specs.Outcome.{Reads}
use Rattle.reading.specs.Within.{turns_made, openings_of}
use Rattle.lowered.specs.Lower.{lowered_words}
use Rattle.lowered.specs.Room.{check_answer, lower_answer, lent_after}
use Rattle.lowering.specs.Answers.{LowerAnswer}
use Rattle.faithful.specs.Endings.{AsRead}
use Rattle.faithful.specs.Statements.{EndsAsRead, ConditionsTold, FaultNamed, loaded_table}
use Rattle.faithful.proofs.Statements.{lowered_table_means_its_reading}
use Rattle.demands.specs.Rehearsal.{Graph, graph_is_lowered, lowered_is_checked, only_the_list_is_refused, loaded_is, rehearsal_is_the_reading, rehearsal_meets_the_fault, complete_is_the_reading, zero_step_run_is_the_reading, run_is_never_stranded, run_is_not_refused, turns_are_made, as_many_inputs}

pub record Called (t lent inputs s list : List ℕ) (a : ℕ) (q : Result Ran Refusal) (end : List ℕ) : Type 0 where
  pub row : ℕ
  pub written : ℕ
  pub graph : List ℕ
  pub loaded : List ℕ
  pub lowers : LowerAnswer t lent 0 row written graph
  pub loads : LoadAnswer (take written graph) inputs s 0 loaded
  pub runs : RunAnswer (take written graph) loaded list a q end
  pub not_refused : ran_number q ≡ 0

module _ (t lent inputs s list : List ℕ) (a : ℕ) where
  -- What the entries promise can be had wherever nothing is refused. Words of lent slices are below 2^32.
  pub calls_go_through : (lower_answer t (length lent)).number ≡ 0 → Words t → Words inputs → load_refusal (Graph t lent) inputs s ≡ 0 → order_below (Graph t lent) list ≡ true
      → Called t lent inputs s list a (run_answer (Graph t lent) (load_state (Graph t lent) inputs s) list a) (run_state (Graph t lent) (load_state (Graph t lent) inputs s) list a)
  calls_go_through w wt wi loads below =
      record {
        row = (lower_answer t (length lent)).row;
        written = (lower_answer t (length lent)).written;
        graph = lent_after t lent;
        loaded = load_state (Graph t lent) inputs s;
        lowers = record { answer = rw w; lent_words = refl };
        loads = record { number = sym loads; state = refl };
        runs = run_answers (Graph t lent) (load_state (Graph t lent) inputs s) list a _ _ refl refl;
        not_refused = run_number (Graph t lent) (load_state (Graph t lent) inputs s) list a ∙ only_the_list_is_refused t lent w inputs s wt wi loads list ∙ ap (λ (b : Bool). pick b 0 18) below;
      }

  module _ (q : Result Ran Refusal) (end : List ℕ) (c : Called t lent inputs s list a q end) where
    written_by : (lower_answer t (length lent)).number ≡ 0
    written_by = sym (ap (λ x. x.number) c.lowers.answer)

    graph_is : take c.written c.graph ≡ Graph t lent
    graph_is = ap₂ (λ (n : ℕ) (l : List ℕ). take n l) (ap (λ x. x.written) c.lowers.answer) c.lowers.lent_words

    load_passes : load_refusal (Graph t lent) inputs s ≡ 0
    load_passes = sym (c.loads.number ∙ ap (λ (g : List ℕ). load_refusal g inputs s) graph_is)

    state_left : c.loaded ≡ load_state (Graph t lent) inputs s
    state_left = c.loads.state ∙ ap (λ (g : List ℕ). load_state g inputs s) graph_is

    run_passes : run_refusal (Graph t lent) (load_state (Graph t lent) inputs s) list ≡ 0
    run_passes = sym (ap₂ (λ (g z : List ℕ). run_refusal g z list) graph_is state_left) ∙ sym c.runs.number ∙ c.not_refused

    answered : q ≡ run_answer (Graph t lent) (load_state (Graph t lent) inputs s) list a
    answered = c.runs.answer ∙ ap₂ (λ (g z : List ℕ). run_answer g z list a) graph_is state_left

    left : end ≡ run_state (Graph t lent) (load_state (Graph t lent) inputs s) list a
    left = c.runs.state ∙ ap₂ (λ (g z : List ℕ). run_state g z list a) graph_is state_left

-- What three calls with list and allowance a gave back, q and the state's words, has to do with the reading: answer and firings, every word of the
-- state, and what the firings that the run made have put on each loop's conditions.
pub record CallsAsRead (t inputs words : List ℕ) (openings : List Opening) (F : ℕ) (list : List ℕ) (a : ℕ) (q : Result Ran Refusal) (end : List ℕ) : Type 0 where
  pub answer : q ≡ Ok (Complete F)
  pub state : AsRead t words end
  pub conditions : ConditionsTold t openings (made_by (lowered_words t) list (loaded_table t inputs) a) (loaded_table t inputs)

module _ (t inputs : List ℕ) where
  -- THREE CALLS, WHERE THE READING ENDS
  pub calls_rehearse_the_reading : (words : List ℕ) (openings : List Opening) → Reads t inputs (ended words openings)
      → (F : ℕ) × ((lent s list : List ℕ) (a : ℕ) (q : Result Ran Refusal) (end : List ℕ) → Called t lent inputs s list a q end → F ≤ a → CallsAsRead t inputs words openings F list a q end)
  calls_rehearse_the_reading words openings r =
      elim (ℕ_discrete (check_answer t).number 0) [
        | yes checked ↦
            let R = rehearsal_is_the_reading t checked inputs words openings r in (
              R.0,
              λ lent s list a q end c enough.
                  let x = R.1 lent (written_by t lent inputs s list a q end c) s list a (load_passes t lent inputs s list a q end c) (run_passes t lent inputs s list a q end c) enough in
                  record {
                    answer = answered t lent inputs s list a q end c ∙ x.answer;
                    state = subst (AsRead t words) (sym (left t lent inputs s list a q end c)) x.state;
                    conditions = x.conditions;
                  },
            )
        -- no call of `lower` goes through
        | no n ↦ (0, λ lent s list a q end c enough. absurd (n (lowered_is_checked t lent (written_by t lent inputs s list a q end c))))
      ]

  -- AND WHERE IT MEETS A ZERO STEP
  pub calls_meet_the_fault : (L : ℕ) (openings : List Opening) → Reads t inputs (zero_step L openings)
      → (lent s list : List ℕ) (a : ℕ) (q : Result Ran Refusal) (end : List ℕ) → Called t lent inputs s list a q end
      → ((ran_outcome q).answer ≡ SPENT) ⊎ FaultNamed t L end (ran_outcome q)
  calls_meet_the_fault L openings r lent s list a q end c =
      subst₂ (λ (x : Result Ran Refusal) (u : List ℕ). ((ran_outcome x).answer ≡ SPENT) ⊎ FaultNamed t L u (ran_outcome x)) (sym (answered t lent inputs s list a q end c)) (sym (left t lent inputs s list a q end c))
      (rehearsal_meets_the_fault t inputs L openings r lent (written_by t lent inputs s list a q end c) s list a (load_passes t lent inputs s list a q end c) (run_passes t lent inputs s list a q end c))

  -- AND BACK, WHERE THEY ARE ANSWERED COMPLETE
  pub complete_calls_read : (lent s list : List ℕ) (a F : ℕ) (q : Result Ran Refusal) (end : List ℕ) → Called t lent inputs s list a q end → q ≡ Ok (Complete F)
      → (words : List ℕ) × (openings : List Opening) × Reads t inputs (ended words openings) × AsRead t words end
  complete_calls_read lent s list a F q end c e =
      let x = complete_is_the_reading t inputs lent (written_by t lent inputs s list a q end c) s list a F (load_passes t lent inputs s list a q end c) (run_passes t lent inputs s list a q end c)
      (sym (answered t lent inputs s list a q end c) ∙ e) in
      (x.0, x.1, x.2, subst (AsRead t x.0) (sym (left t lent inputs s list a q end c)) x.3)

  -- ZERO STEP
  pub zero_step_calls_read : (lent s list : List ℕ) (a F i : ℕ) (q : Result Ran Refusal) (end : List ℕ) → Called t lent inputs s list a q end → q ≡ Ok (ZeroStep F i)
      → (L : ℕ) × (openings : List Opening) × Reads t inputs (zero_step L openings) × FaultNamed t L end (ran_outcome q)
  zero_step_calls_read lent s list a F i q end c e =
      let x = zero_step_run_is_the_reading t inputs lent (written_by t lent inputs s list a q end c) s list a (load_passes t lent inputs s list a q end c) (run_passes t lent inputs s list a q end c) F i
      (sym (answered t lent inputs s list a q end c) ∙ e) in
      (x.0, x.1, x.2, named x.0 (calls_meet_the_fault x.0 x.1 x.2 lent s list a q end c))
    where
      named : (L : ℕ) → ((ran_outcome q).answer ≡ SPENT) ⊎ FaultNamed t L end (ran_outcome q) → FaultNamed t L end (ran_outcome q)
      named L (inl z) = let y : ZERO-STEP ≡ SPENT = sym (ap (λ (x : Result Ran Refusal). (ran_outcome x).answer) e) ∙ z in absurd (omega arith)
      named L (inr f) = f

  -- OR STRANDED
  pub calls_are_never_stranded : (lent s list : List ℕ) (a F : ℕ) (q : Result Ran Refusal) (end : List ℕ) → Called t lent inputs s list a q end → q ≢ Ok (Stranded F)
  calls_are_never_stranded lent s list a F q end c e =
      run_is_never_stranded t inputs lent (written_by t lent inputs s list a q end c) s list a (load_passes t lent inputs s list a q end c) (run_passes t lent inputs s list a q end c) F
      (sym (answered t lent inputs s list a q end c) ∙ e)

  -- no more turns than firings
  pub called_turns : (lent s list : List ℕ) (a : ℕ) (q : Result Ran Refusal) (end : List ℕ) → Called t lent inputs s list a q end → (ran_outcome q).answer ≢ SPENT
      → (o : Outcome) → Reads t inputs o → turns_made (openings_of o) ≤ ran_firings q
  called_turns lent s list a q end c =
      turns_are_made t inputs lent (written_by t lent inputs s list a q end c) s list a (load_passes t lent inputs s list a q end c) (run_passes t lent inputs s list a q end c) q
      (sym (answered t lent inputs s list a q end c))

  -- such calls are told no refusal
  pub calls_are_not_refused : (lent s list : List ℕ) (a : ℕ) (n : Refusal) (q : Result Ran Refusal) (end : List ℕ) → Called t lent inputs s list a q end → q ≢ Err n
  calls_are_not_refused lent s list a n q end c e =
      run_is_not_refused t inputs lent (written_by t lent inputs s list a q end c) s list a (load_passes t lent inputs s list a q end c) (run_passes t lent inputs s list a q end c) n
      (sym (answered t lent inputs s list a q end c) ∙ e)

  -- What such calls have passed: the table's check, and as many inputs as INPUT rows.
  pub called_is_checked : (lent s list : List ℕ) (a : ℕ) (q : Result Ran Refusal) (end : List ℕ) → Called t lent inputs s list a q end → (check_answer t).number ≡ 0
  called_is_checked lent s list a q end c = lowered_is_checked t lent (written_by t lent inputs s list a q end c)

  pub called_with_the_inputs : (lent s list : List ℕ) (a : ℕ) (q : Result Ran Refusal) (end : List ℕ) → Called t lent inputs s list a q end → length inputs ≡ rows_of INPUT t (size t)
  called_with_the_inputs lent s list a q end c = as_many_inputs t lent (written_by t lent inputs s list a q end c) inputs s (load_passes t lent inputs s list a q end c)

-- ---- firing by firing
pub data FireCalls (g : List ℕ) : List ℕ → List ℕ → List ℕ → Type 0 where
  stop : {s : List ℕ} → FireCalls g [] s s
  call : {i : ℕ} {order s x u : List ℕ} → FireAnswer g s i (Ok Done) x → FireCalls g order x u → FireCalls g (i ∷ order) s u

-- every call is answered that the node is not ready
abbrev pub NoneReady : List ℕ → List ℕ → Type 0
NoneReady g u = (i : ℕ) → i < node_count g → (x : List ℕ) × FireAnswer g u i (Ok NotReady) x

module _ (g s : List ℕ) (i : ℕ) where
  ready_shown : (r : Result Fired Refusal) (x : List ℕ) → FireAnswer g s i r x → fired_number r ≡ 0 → (fired_flag r ≡ is_ready (fire (net_of g) i s)) × (x ≡ or_else (fire (net_of g) i s) s)
  unfolding fire_state
  ready_shown r x p n =
      let z : fire_refusal g s i ≡ 0 = sym p.number ∙ n in (
        p.fired ∙ ap (λ (b : Bool). pick b (is_ready (fire (net_of g) i s)) false) (eq-eqb _ _ z),
        p.state ∙ ap (λ (b : Bool). pick b (or_else (fire (net_of g) i s) s) s) (eq-eqb _ _ z),
      )

  done_fires : (x : List ℕ) → FireAnswer g s i (Ok Done) x → fire (net_of g) i s ≡ some x
  done_fires x p = let q = ready_shown (Ok Done) x p refl in go (fire (net_of g) i s) q.0 q.1
    where
      go : (o : Option (List ℕ)) → true ≡ is_ready o → x ≡ or_else o s → o ≡ some x
      go none e h = let z : ◌≡◌ {A = ℕ} 0 1 = cc in absurd (omega arith)
      go (some a) e h = ap some (sym h)

  not_ready_waits : (x : List ℕ) → FireAnswer g s i (Ok NotReady) x → fire (net_of g) i s ≡ none
  not_ready_waits x p = go (fire (net_of g) i s) (ready_shown (Ok NotReady) x p refl).0
    where
      go : (o : Option (List ℕ)) → false ≡ is_ready o → o ≡ none
      go none e = refl
      go (some a) e = let z : ◌≡◌ {A = ℕ} 0 1 = cc in absurd (omega arith)

pub fire_calls_are_firings : (g order s u : List ℕ) → FireCalls g order s u → Fires g order s u
fire_calls_are_firings g [] s u stop = fires_none (fire (net_of g)) s
fire_calls_are_firings g (i ∷ order) s u (call {x = x} p c) = fires_on (fire (net_of g)) i order s x (done_fires g s i x p) ∙ fire_calls_are_firings g order x u c

pub none_ready_rests : (g u : List ℕ) → NoneReady g u → AtRest g u
none_ready_rests g u n i =
    elim (dec_lt i (node_count g)) [
      | yes l ↦ (let x = n i l in not_ready_waits g u i x.0 x.1)
      | no l ↦ none_past_last g i u (omega arith)
    ]

-- CALLS OF `fire` IN ANY ORDER, WHERE THE READING ENDS: until no node is ready they are F, and end as the reading does.
pub fire_calls_rehearse_the_reading : (t inputs words : List ℕ) (openings : List Opening) → Reads t inputs (ended words openings)
    → (F : ℕ)
    × ((lent s : List ℕ) → (lower_answer t (length lent)).number ≡ 0 → load_refusal (Graph t lent) inputs s ≡ 0 → (order u : List ℕ) → FireCalls (Graph t lent) order (load_state (Graph t lent) inputs s) u
    → (length order ≤ F) × (NoneReady (Graph t lent) u → EndsAsRead t inputs words openings F order u))
fire_calls_rehearse_the_reading t inputs words openings r =
    elim (ℕ_discrete (check_answer t).number 0) [
      | yes checked ↦
          let R = lowered_table_means_its_reading t checked inputs words openings r in (
            R.0,
            λ lent s w loads order u c.
                let g = graph_is_lowered t lent w in
                let f : Fires (lowered_words t) order (loaded_table t inputs) u = subst₂ (λ (g z : List ℕ). Fires g order z u) g (loaded_is t lent w inputs s loads) (fire_calls_are_firings (Graph t lent) order (load_state (Graph t lent) inputs s) u c) in
                let x = R.1 order u f in
                (x.at_most, λ n. x.ends (subst (λ (z : List ℕ). AtRest z u) g (none_ready_rests (Graph t lent) u n))),
          )
      | no n ↦ (0, λ lent s w loads order u c. absurd (n (lowered_is_checked t lent w)))
    ]
