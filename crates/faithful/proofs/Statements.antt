-- THE LOWERED TABLE MEANS WHAT IT SAYS: the theorems that `specs/Statements` announces. See there what each says, and which hypotheses it has.
-- Assumes nothing.
use Rattle.std.proofs.Math.Path.{◌≡◌, sym, ap}
use Rattle.std.specs.Prelude.{◌≢◌, ◌⊎◌, List, reverse}
use Rattle.std.proofs.Common.{◌∙◌, subst, inl, inr}
use Rattle.std.proofs.Math.Option.{none, some}
use Prim.Native.Nat.{ℕ, suc, ◌+◌, ◌*◌, ◌≤◌}
use native.Mathlib.Omega.{arith}
use Rattle.std.proofs.Math.ListN.{length}
use Rattle.step.specs.Kinds.{out1}
use Rattle.graph.specs.Graph.{node_count}
use Rattle.graph.specs.Refusal.{graph_refusal}
use Rattle.graph.specs.Accepted.{node_in_range}
use Rattle.state.specs.Net.{net_of}
use Rattle.state.specs.Run.{COMPLETE, SPENT, STRANDED, ZERO-STEP, outcome}
use Rattle.confluence.specs.Statements.{Fires, AtRest, put_on_wire, run_of, made_by}
use Rattle.confluence.proofs.Statements.{every_order_rests_alike, enough_is_not_spent, run_is_an_order}
use Rattle.table.specs.Rows.{kind_at, size, FOR}
use Rattle.table.specs.Scan.{body_of, read_stack, reads}
use Rattle.structure.specs.Structure.{Structure, passing_table_has_structure}
use Rattle.reading.specs.Reading.{Opening, Outcome, ended, zero_step, begin, read_from, read, results_from}
use Rattle.reading.specs.Outcome.{Reads}
use Rattle.reading.specs.Within.{turns_made, openings_of}
use Rattle.lowered.specs.Roles.{stream, gate}
use Rattle.lowered.specs.Lower.{lowered_words}
use Rattle.lowered.specs.Room.{check_answer}
use Rattle.laid.specs.Answers.{checked_table_lowers}
use Rattle.faithful.specs.Conditions.{turns_of, turns_reverse, raw_of, gated_of}
use Rattle.faithful.specs.Tables.{table_of, for_row, for_kind}
use Rattle.faithful.proofs.Sound.{passing_is_good}
use Rattle.faithful.proofs.Following.{Ended, Faulted, followed}
use Rattle.faithful.proofs.Endless.{Bounded, Far, outcome_or_far, enough_steps}
use Rattle.faithful.specs.Finish.{finished, rests}
use Rattle.faithful.proofs.Places.{laid}
use Rattle.faithful.proofs.Order.{first_state, follows_first, order_shows}
use Rattle.faithful.specs.EndState.{end_state}
use Rattle.faithful.specs.Endings.{AsRead, answers_complete}
use Rattle.faithful.proofs.Endings.{ended_as_read}
use Rattle.faithful.specs.Faults.{zero_step_lasts, ZeroStepNamed, answers_zero_step}
use Rattle.faithful.proofs.Waiting.{not_complete}
use Rattle.faithful.proofs.Silent.{hushed_run, waits_late, AtFault, at_fault}
use Rattle.faithful.specs.Statements.{loaded_table, raw_wire, gated_wire, stream_node, ConditionsTold, Faithful, FaultNamed, passes}

module _ (t : List ℕ) (checked : (check_answer t).number ≡ 0) where
  abbrev S : Structure t
  S = passing_table_has_structure t (passes t checked)

  abbrev ok : graph_refusal (lowered_words t) ≡ 0
  ok = checked_table_lowers t checked

  reading_of : (inputs : List ℕ) (o : Outcome) → Reads t inputs o → Ended t S (first_state t S ok inputs) o ⊎ Faulted t S (first_state t S ok inputs) o
  unfolding read
  reading_of inputs o r = followed t S r.steps (begin t inputs) (first_state t S ok inputs) (follows_first t S ok inputs) o r.comes

  -- ---- the order that follows the reading

  one_order : (inputs words : List ℕ) (openings : List Opening) → Reads t inputs (ended words openings)
      → (order : List ℕ) × (u : List ℕ) × Fires (lowered_words t) order (loaded_table t inputs) u × AtRest (lowered_words t) u × AsRead t words u × ConditionsTold t openings order (loaded_table t inputs)
  one_order inputs words openings r = go (reading_of inputs (ended words openings) r)
    where
      go : Ended t S (first_state t S ok inputs) (ended words openings) ⊎ Faulted t S (first_state t S ok inputs) (ended words openings)
          → (order : List ℕ) × (u : List ℕ) × Fires (lowered_words t) order (loaded_table t inputs) u × AtRest (lowered_words t) u × AsRead t words u × ConditionsTold t openings order (loaded_table t inputs)
      go (inr e) = let k = e.outcome in let z : ◌≡◌ {A = ℕ} 0 1 = cc in absurd (omega arith)
      go (inl e) =
          let tb = table_of t in
          let N = net_of (lowered_words t) in
          let n = node_count (lowered_words t) in
          let x = (order_shows t S ok inputs e.path e.there e.steps).0 in
          let G = passing_is_good t S in
          let k = e.outcome in
          let kw : words ≡ results_from (size t) t e.env 0 = cc in
          let ko : openings ≡ reverse e.openings = cc in
          let f = finished tb N n (laid t S ok) G e.env x.tokens e.there x.shown e.follows.gamma x.state x.flat in (
            x.order,
            x.state,
            x.fires,
            rests tb N n (laid t S ok) G e.env x.tokens e.there x.shown e.follows.gamma x.state x.flat,
            subst (λ (z : List ℕ). AsRead t z x.state) (sym kw) (ended_as_read t S ok e.env x.state x.flat.long f),
            record {
              raw = λ L kL.
                  let m = for_row t S L kL in
                  x.words (stream L) out1 (m, tt) ∙ ((e.follows.told L m).shut (λ i. let a = G.for_size L m in let i1 = i.1 in omega arith)).0
                  ∙ ap raw_of (sym (turns_reverse L e.openings) ∙ ap (turns_of L) (sym ko));
              gated = λ L kL.
                  let m = for_row t S L kL in
                  x.words (gate L) out1 (m, tt) ∙ ((e.follows.told L m).shut (λ i. let a = G.for_size L m in let i1 = i.1 in omega arith)).1
                  ∙ ap gated_of (sym (turns_reverse L e.openings) ∙ ap (turns_of L) (sym ko));
            },
          )

  -- THE THEOREM: there is an F such that every list of ready firings from the loaded state is faithful. The empty list shows that some order rests.
  pub lowered_table_means_its_reading : (inputs words : List ℕ) (openings : List Opening) → Reads t inputs (ended words openings)
      → (F : ℕ) × ((order u : List ℕ) → Fires (lowered_words t) order (loaded_table t inputs) u → Faithful t inputs words openings F order u)
  lowered_table_means_its_reading inputs words openings r =
      let w = one_order inputs words openings r in (
        length w.0,
        λ order u q.
            let a = every_order_rests_alike (lowered_words t) ok w.0 (loaded_table t inputs) w.1 w.2 w.3 order u q in
            record {
              at_most = a.at_most;
              extends = (a.extends.0, w.1, a.extends.1, w.3, a.extends.2);
              raw_so_far = λ L k. (put_on_wire (lowered_words t) a.extends.0 u (raw_wire t L), a.extends.3 (raw_wire t L) ∙ w.5.raw L k);
              gated_so_far = λ L k. (put_on_wire (lowered_words t) a.extends.0 u (gated_wire t L), a.extends.3 (gated_wire t L) ∙ w.5.gated L k);
              ends = λ h.
                  let A = subst (AsRead t words) (sym (a.same_words h)) w.4 in
                  record {
                    firings = a.as_many h;
                    state = A;
                    conditions = record {
                      raw = λ L k. a.same_histories h (raw_wire t L) ∙ w.5.raw L k;
                      gated = λ L k. a.same_histories h (gated_wire t L) ∙ w.5.gated L k;
                    };
                    answer = answers_complete t S ok words u A h;
                  };
            },
      )

  -- So the whole end state is one list of words: for each wire 1 and the word of its result, or 0 0; then four zeros for each node.
  pub the_end_state : (inputs words : List ℕ) (openings : List Opening) → Reads t inputs (ended words openings)
      → (order u : List ℕ) → Fires (lowered_words t) order (loaded_table t inputs) u → AtRest (lowered_words t) u → u ≡ end_state (lowered_words t) words
  the_end_state inputs words openings r order u q h = (((lowered_table_means_its_reading inputs words openings r).1 order u q).ends h).state.whole

  -- ---- runs

  -- Any run with an allowance of F, whatever its list of nodes, answers COMPLETE, has made F firings and ends as the reading does.
  pub every_run_is_complete : (inputs words : List ℕ) (openings : List Opening) → Reads t inputs (ended words openings)
      → (F : ℕ) × ((list : List ℕ) (allowance : ℕ) → F ≤ allowance → let p = run_of (lowered_words t) list (loaded_table t inputs) allowance in
      ((outcome (lowered_words t) p.state).answer ≡ COMPLETE) × (F + p.left ≡ allowance) × AsRead t words p.state)
  every_run_is_complete inputs words openings r =
      let w = one_order inputs words openings r in (
        length w.0,
        λ list allowance enough.
            let e = enough_is_not_spent (lowered_words t) ok w.0 (loaded_table t inputs) w.1 w.2 w.3 list allowance enough in
            let A = subst (AsRead t words) (sym e.0) w.4 in
            let h = subst (AtRest (lowered_words t)) (sym e.0) w.3 in
            (answers_complete t S ok words (run_of (lowered_words t) list (loaded_table t inputs) allowance).state A h, e.1, A),
      )

  -- ---- a zero step

  -- an order that follows the reading up to the FOR row
  faulted_order : (inputs : List ℕ) (L : ℕ) (openings : List Opening) → Reads t inputs (zero_step L openings) → AtFault t S ok inputs L
  faulted_order inputs L openings r = go (reading_of inputs (zero_step L openings) r)
    where
      go : Ended t S (first_state t S ok inputs) (zero_step L openings) ⊎ Faulted t S (first_state t S ok inputs) (zero_step L openings) → AtFault t S ok inputs L
      go (inl e) = let k = e.outcome in let z : ◌≡◌ {A = ℕ} 0 1 = cc in absurd (omega arith)
      go (inr e) = let k = e.outcome in let d : e.loop ≡ L = cc in subst (AtFault t S ok inputs) d (at_fault t S ok inputs (zero_step L openings) e)

  -- In every order that rests the STREAM of that loop waits with the zero step, and ZERO STEP is answered with the lowest node that waits so.
  pub zero_step_is_named : (inputs : List ℕ) (L : ℕ) (openings : List Opening) → Reads t inputs (zero_step L openings)
      → (order u : List ℕ) → Fires (lowered_words t) order (loaded_table t inputs) u → AtRest (lowered_words t) u → FaultNamed t L u (outcome (lowered_words t) u)
  unfolding body_of read_stack reads
  zero_step_is_named inputs L openings r order u q h =
      record { met = met; not_behind = not_behind; own = λ b. let low = not_behind L (for_kind t S L f.is_for_lem).1 b (omega arith) in let high = met.at_most in omega arith }
    where
      f : AtFault t S ok inputs L
      f = faulted_order inputs L openings r

      -- the rest of an order that follows the reading there
      later : (more : List ℕ) × Fires (lowered_words t) more f.state u
      later = let a = (every_order_rests_alike (lowered_words t) ok order (loaded_table t inputs) u q h f.order f.state f.fires).extends in (a.0, a.1)

      met : ZeroStepNamed (lowered_words t) u (stream_node t L) (outcome (lowered_words t) u)
      met =
          let Z = zero_step_lasts (lowered_words t) ok later.0 f.state u (stream_node t L) f.waits later.1 in
          answers_zero_step (lowered_words t) u (stream_node t L) (node_in_range (lowered_words t) (stream_node t L) Z.node Z.here) Z h (not_complete t S ok u L f.is_for_lem Z)

      not_behind : (M : ℕ) → kind_at t M ≡ FOR → body_of t M ≡ size t → M ≤ L → stream_node t M ≤ (outcome (lowered_words t) u).node
      not_behind M k b come =
          let here = for_row t S M k in
          let outside : reads t M ≡ size t = rw k b in
          let x = hushed_run t S ok M here outside later.0 f.state u f.tokens f.flat (f.hushed M here outside come) later.1 in
          waits_late t S ok M here outside u x.0 x.1 x.2 (outcome (lowered_words t) u).node met.named

  pub zero_step_is_never_complete : (inputs : List ℕ) (L : ℕ) (openings : List Opening) → Reads t inputs (zero_step L openings)
      → (order u : List ℕ) → Fires (lowered_words t) order (loaded_table t inputs) u → AtRest (lowered_words t) u → (outcome (lowered_words t) u).answer ≡ ZERO-STEP
  zero_step_is_never_complete inputs L openings r order u q h = (zero_step_is_named inputs L openings r order u q h).met.answer

  -- So no run answers COMPLETE.
  pub no_run_completes_a_fault : (inputs : List ℕ) (L : ℕ) (openings : List Opening) → Reads t inputs (zero_step L openings)
      → (list : List ℕ) (allowance : ℕ) → (outcome (lowered_words t) (run_of (lowered_words t) list (loaded_table t inputs) allowance).state).answer ≢ COMPLETE
  no_run_completes_a_fault inputs L openings r list allowance c =
      let m = run_is_an_order (lowered_words t) list (loaded_table t inputs) allowance (λ z. let y : COMPLETE ≡ SPENT = sym c ∙ z in omega arith) in
      let z = zero_step_is_never_complete inputs L openings r (made_by (lowered_words t) list (loaded_table t inputs) allowance) (run_of (lowered_words t) list (loaded_table t inputs) allowance).state m.0 m.1 in
      let y : COMPLETE ≡ ZERO-STEP = sym c ∙ z in omega arith

  -- ---- an order that rests bounds the reading

  -- the firings that follow the reading for k steps are no more than those of an order that rests
  no_longer : (inputs order u : List ℕ) → Fires (lowered_words t) order (loaded_table t inputs) u → AtRest (lowered_words t) u
      → (k : ℕ) → (x : Far t S k (begin t inputs) (first_state t S ok inputs)) × (length x.path ≤ length order)
  no_longer inputs order u q h k =
      let x = outcome_or_far t S k (begin t inputs) (first_state t S ok inputs) (follows_first t S ok inputs) in
      let y = order_shows t S ok inputs x.path x.there x.steps in
      let a = (every_order_rests_alike (lowered_words t) ok order (loaded_table t inputs) u q h y.0.order y.0.state y.0.fires).at_most in
      let b = y.1 in
      (x, omega arith)

  -- Where an order rests after F firings, (F + 1) times (rows + 1) steps bring the reading to an outcome: else the order that follows the reading
  -- would be longer.
  pub rest_bounds_the_reading : (inputs order u : List ℕ) → Fires (lowered_words t) order (loaded_table t inputs) u → AtRest (lowered_words t) u
      → (o : Outcome) × (read (suc (length order) * suc (size t)) t inputs ≡ some o)
  unfolding read begin
  rest_bounds_the_reading inputs order u q h = let x = no_longer inputs order u q h K in go x.0.many x.1
    where
      K : ℕ
      K = suc (length order) * suc (size t)

      go : {n : ℕ} → Bounded t K (begin t inputs) n → n ≤ length order → (o : Outcome) × (read_from K t (begin t inputs) ≡ some o)
      go (inl x) l = (x.0, x.1)
      go {n} (inr x) l = let c = enough_steps (size t) (length order) n (let e = x.1 in omega arith) in absurd (omega arith)

  -- A reading that no number of steps brings to an outcome: no order rests.
  pub endless_reading_never_rests : (inputs : List ℕ) → ((k : ℕ) → read k t inputs ≡ none)
      → (order u : List ℕ) → Fires (lowered_words t) order (loaded_table t inputs) u → AtRest (lowered_words t) u → ⊥
  endless_reading_never_rests inputs endless order u q h =
      let x = rest_bounds_the_reading inputs order u q h in
      let e : none ≡ some x.0 = sym (endless (suc (length order) * suc (size t))) ∙ x.1 in
      let z : ◌≡◌ {A = ℕ} 0 1 = cc in omega arith

  -- Where an order rests after F firings, the reading has made at most F turns: each turn has a firing of its loop's STREAM of its own.
  pub turns_are_firings : (inputs order u : List ℕ) → Fires (lowered_words t) order (loaded_table t inputs) u → AtRest (lowered_words t) u
      → (o : Outcome) → Reads t inputs o → turns_made (openings_of o) ≤ length order
  unfolding read begin turns_made
  turns_are_firings inputs order u q h o r = let x = no_longer inputs order u q h r.steps in go x.0.many x.1
    where
      go : {n : ℕ} → Bounded t r.steps (begin t inputs) n → n ≤ length order → turns_made (openings_of o) ≤ length order
      go (inl x) l =
          let e : some x.0 ≡ some o = sym x.1 ∙ r.comes in
          let f : x.0 ≡ o = cc in
          let a = ap (λ (z : Outcome). turns_made (openings_of z)) f in
          let b = x.2 in
          omega arith
      go (inr x) l = let e : none ≡ some o = sym x.0 ∙ r.comes in let z : ◌≡◌ {A = ℕ} 0 1 = cc in absurd (omega arith)

  -- An order that rests COMPLETE: the reading ends, and its words are the order's.
  pub complete_means_the_reading : (inputs order u : List ℕ) → Fires (lowered_words t) order (loaded_table t inputs) u → AtRest (lowered_words t) u
      → (outcome (lowered_words t) u).answer ≡ COMPLETE → (words : List ℕ) × (openings : List Opening) × Reads t inputs (ended words openings) × AsRead t words u
  complete_means_the_reading inputs order u q h c = let x = rest_bounds_the_reading inputs order u q h in go x.0 (record { steps = suc (length order) * suc (size t); comes = x.1 })
    where
      go : (o : Outcome) → Reads t inputs o → (words : List ℕ) × (openings : List Opening) × Reads t inputs (ended words openings) × AsRead t words u
      go (ended words openings) r = (words, openings, r, (((lowered_table_means_its_reading inputs words openings r).1 order u q).ends h).state)
      go (zero_step L openings) r = let z = zero_step_is_never_complete inputs L openings r order u q h in let y : COMPLETE ≡ ZERO-STEP = sym c ∙ z in absurd (omega arith)

  -- One that rests in ZERO STEP: the reading meets one.
  pub zero_step_means_the_reading : (inputs order u : List ℕ) → Fires (lowered_words t) order (loaded_table t inputs) u → AtRest (lowered_words t) u
      → (outcome (lowered_words t) u).answer ≡ ZERO-STEP → (L : ℕ) × (openings : List Opening) × Reads t inputs (zero_step L openings)
  zero_step_means_the_reading inputs order u q h c = let x = rest_bounds_the_reading inputs order u q h in go x.0 (record { steps = suc (length order) * suc (size t); comes = x.1 })
    where
      go : (o : Outcome) → Reads t inputs o → (L : ℕ) × (openings : List Opening) × Reads t inputs (zero_step L openings)
      go (ended words openings) r =
          let z = (((lowered_table_means_its_reading inputs words openings r).1 order u q).ends h).answer in
          let y : COMPLETE ≡ ZERO-STEP = sym z ∙ c in absurd (omega arith)
      go (zero_step L openings) r = (L, openings, r)

  -- None rests STRANDED.
  pub rest_is_never_stranded : (inputs order u : List ℕ) → Fires (lowered_words t) order (loaded_table t inputs) u → AtRest (lowered_words t) u → (outcome (lowered_words t) u).answer ≢ STRANDED
  rest_is_never_stranded inputs order u q h c = let x = rest_bounds_the_reading inputs order u q h in go x.0 (record { steps = suc (length order) * suc (size t); comes = x.1 })
    where
      go : (o : Outcome) → Reads t inputs o → ⊥
      go (ended words openings) r =
          let z = (((lowered_table_means_its_reading inputs words openings r).1 order u q).ends h).answer in
          let y : COMPLETE ≡ STRANDED = sym z ∙ c in omega arith
      go (zero_step L openings) r = let z = zero_step_is_never_complete inputs L openings r order u q h in let y : ZERO-STEP ≡ STRANDED = sym z ∙ c in omega arith

  -- So of a run, whatever its list and allowance.
  pub complete_run_means_the_reading : (inputs list : List ℕ) (allowance : ℕ) → let p = run_of (lowered_words t) list (loaded_table t inputs) allowance in
      (outcome (lowered_words t) p.state).answer ≡ COMPLETE → (words : List ℕ) × (openings : List Opening) × Reads t inputs (ended words openings) × AsRead t words p.state
  complete_run_means_the_reading inputs list allowance c =
      let m = run_is_an_order (lowered_words t) list (loaded_table t inputs) allowance (λ z. let y : COMPLETE ≡ SPENT = sym c ∙ z in omega arith) in
      complete_means_the_reading inputs (made_by (lowered_words t) list (loaded_table t inputs) allowance) (run_of (lowered_words t) list (loaded_table t inputs) allowance).state m.0 m.1 c
