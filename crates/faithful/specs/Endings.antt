-- Where an order on the lowered words has ended as the reading has: the state's words, and the run's answer there.
--
--   AsRead                    the whole state: the results hold the reading's words in order, every other wire and every record is zero
--   ended_as_read             so it is where the reading has ended (proofs/Endings)
--   answers_complete          and there the answer is COMPLETE
--
-- Assumes nothing.
use Rattle.std.specs.Prelude.{◌≡◌, refl, ◌≢◌, Bool, false, cond, not, ◌||◌, List, [], ◌∷◌, ◌++◌, ℕ, zero, suc, ◌+◌, ◌≤◌, ◌<◌, eqb, length, get_or}
use Rattle.std.proofs.Math.Path.{sym, ap}
use Rattle.std.proofs.Common.{ap₂, ◌∙◌, append_assoc, eq-eqb, eqb-true, lt-ltb}
use Rattle.std.proofs.Math.Bool.{true}
use Rattle.std.proofs.Math.Option.{some}
use native.Mathlib.Omega.{arith}
use Rattle.std.proofs.Math.Decide.{ℕ_discrete}
use Rattle.std.proofs.Math.ListN.{get_elem?}
use Rattle.step.specs.Machines.{rest}
use Rattle.step.specs.declared.Record.{Record}
use Rattle.graph.specs.Below.{every_from, every, times, times_one, times_within}
use Rattle.graph.specs.Graph.{node_count, wire_count, result_count, result_at, results}
use Rattle.graph.specs.Refusal.{graph_refusal}
use Rattle.state.specs.State.{full_place, word_place, token, token_at, is_empty, record_at}
use Rattle.state.specs.Net.{net_of, fire}
use Rattle.state.specs.Run.{is_full, is_result, results_full, others_empty, phases_zero, complete, COMPLETE, outcome}
use Rattle.confluence.specs.Orders.{Rests}
use Rattle.confluence.specs.Graphs.{none_ready_if_rests}
use Rattle.table.specs.Rows.{kind_at, word, size, OUT}
use Rattle.table.specs.Bodies.{out}
use Rattle.structure.specs.Structure.{Structure}
use Rattle.reading.specs.Reading.{Env, results_from}
use Rattle.reading.specs.Results.{results_are_rows}
use Rattle.lowered.specs.Gathered.{those, position}
use Rattle.lowered.specs.Roles.{result}
use Rattle.lowered.specs.Lower.{is_out, out_rows, stands_on, result_total, lowered_words}
use Rattle.laid.specs.Lists.{has_elem, there, in_range, at_position, those_from, those_has, none_some}
use Rattle.laid.specs.Those.{rows_counted}
use Rattle.laid.specs.Words.{result_count_lem, result_at_lem}
use Rattle.uses.specs.Flat.{Holds}
use Rattle.faithful.specs.Table.{Table}
use Rattle.faithful.specs.Tables.{table_of, row_at_lem, is_out_lem, out_words_lem}
use Rattle.faithful.specs.EndState.{end_state}

-- ---- the words that the OUT rows name, in order

-- so many OUT rows from r up
outs_from : List ℕ → ℕ → ℕ → List ℕ
outs_from t zero r = []
outs_from t (suc m) r = cond (is_out t r) (r ∷ outs_from t m (suc r)) (outs_from t m (suc r))

outs_joined : (t : List ℕ) (m r : ℕ) → those (is_out t) (r + m) ≡ those (is_out t) r ++ outs_from t m r
unfolding outs_from those
outs_joined t zero r = ap (those (is_out t)) (let e : r + 0 ≡ r = omega arith in e) ∙ nil (those (is_out t) r)
  where
    nil : (xs : List ℕ) → xs ≡ xs ++ []
    nil [] = refl
    nil (x ∷ xs) = ap (λ (z : List ℕ). x ∷ z) (nil xs)
outs_joined t (suc m) r =
    ap (those (is_out t)) (let e : r + suc m ≡ suc r + m = omega arith in e) ∙ outs_joined t m (suc r)
    ∙ append_assoc (those (is_out t) r) (cond (is_out t r) (r ∷ []) []) (outs_from t m (suc r)) ∙ ap (λ (z : List ℕ). those (is_out t) r ++ z) (go (is_out t r))
  where
    go : (b : Bool) → cond b (r ∷ []) [] ++ outs_from t m (suc r) ≡ cond b (r ∷ outs_from t m (suc r)) (outs_from t m (suc r))
    go true = refl
    go false = refl

results_along : (t : List ℕ) (env : Env) (m r k q : ℕ) → get_elem? (outs_from t m r) k ≡ some q → get_elem? (results_from m t env r) k ≡ some (env (word t q 1))
unfolding outs_from results_from
results_along t env zero r k q h = none_some q h
results_along t env (suc m) r k q h = go (eqb (kind_at t r) OUT) k h (λ j. results_along t env m (suc r) j q)
  where
    go : (b : Bool) (k : ℕ) → get_elem? (cond b (r ∷ outs_from t m (suc r)) (outs_from t m (suc r))) k ≡ some q
        → ((j : ℕ) → get_elem? (outs_from t m (suc r)) j ≡ some q → get_elem? (results_from m t env (suc r)) j ≡ some (env (word t q 1)))
        → get_elem? (cond b (env (word t r 1) ∷ results_from m t env (suc r)) (results_from m t env (suc r))) k ≡ some (env (word t q 1))
    go true zero k ih = let e : r ≡ q = cc in ap (λ (z : ℕ). some (env (word t z 1))) e
    go true (suc j) k ih = ih j k
    go false j k ih = ih j k

module _ (t : List ℕ) where
  outs_are : out_rows t ≡ outs_from t (size t) 0
  unfolding out_rows those
  outs_are = ap (those (is_out t)) (let e : size t ≡ 0 + size t = omega arith in e) ∙ outs_joined t (size t) 0

  pub result_words_lem : (env : Env) (k q : ℕ) → get_elem? (out_rows t) k ≡ some q → get_elem? (results_from (size t) t env 0) k ≡ some (env (word t q 1))
  result_words_lem env k q h = results_along t env (size t) 0 k q (ap (λ (l : List ℕ). get_elem? l k) (sym outs_are) ∙ h)

  pub results_counted : (env : Env) → length (results_from (size t) t env 0) ≡ result_count (lowered_words t)
  unfolding result_total out_rows
  results_counted env = results_are_rows t env ∙ sym (rows_counted OUT t (size t)) ∙ sym (result_count_lem t)

-- ---- every test holds

every_if : (test : ℕ → Bool) (m from : ℕ) → ((i : ℕ) → from ≤ i → i < from + m → test i ≡ true) → every_from m from test ≡ true
unfolding every_from
every_if test zero from h = refl
every_if test (suc m) from h = rw (h from (omega arith) (omega arith)) (every_if test m (from + 1) (λ i a b. h i (omega arith) (omega arith)))

or_true : (a b : Bool) → (a ≡ false → b ≡ true) → (a || b) ≡ true
or_true true b h = refl
or_true false b h = h refl

-- ---- the end state

-- What the words of the end state are: `u` is the whole state, `words` are the reading's results.
pub record AsRead (t words u : List ℕ) : Type 0 where
  -- one equation for all of its words
  pub whole : u ≡ end_state (lowered_words t) words
  -- so there is a word for each result wire, and it stands there
  pub one_each : length words ≡ result_count (lowered_words t)
  pub results_hold : (k x : ℕ) → get_elem? words k ≡ some x → token_at u (result_at (lowered_words t) k) ≡ some x
  -- every other wire holds 0 0
  pub others_empty_lem : (w : ℕ) → w < wire_count (lowered_words t) → ((k : ℕ) → k < result_count (lowered_words t) → w ≢ result_at (lowered_words t) k)
      → (get_or u (full_place w) 0 ≡ 0) × (get_or u (word_place w) 0 ≡ 0)
  -- every record is (0, 0, 0, 0)
  pub records_zero : (i : ℕ) → i < node_count (lowered_words t) → record_at (wire_count (lowered_words t)) u i ≡ rest

pub holds_token_lem : (u : List ℕ) (w x : ℕ) → Holds u w (some x) → token_at u w ≡ some x
holds_token_lem u w x h = ap₂ token h.0 h.1

module _ (t : List ℕ) (S : Structure t) (ok : graph_refusal (lowered_words t) ≡ 0) where
  abbrev tb : Table
  tb = table_of t

  abbrev g : List ℕ
  g = lowered_words t

  -- the row of result wire k
  pub result_row : (k : ℕ) → k < result_count g → (q : ℕ) × (get_elem? (out_rows t) k ≡ some q) × (tb.row q ≡ out (word t q 1))
  unfolding out_rows result_total
  result_row k l =
      let c = result_count_lem t in
      let e = has_elem (those (is_out t) (size t)) k (omega arith) in
      let m = those_from (is_out t) (size t) e.0 (there (those (is_out t) (size t)) k e.0 e.1) in
      (e.0, e.1, row_at_lem t e.0 m.0 ∙ is_out_lem t e.0 (eqb-true (kind_at t e.0) 8 m.1))

  -- an OUT row is the row of a result wire
  pub row_result : (q x : ℕ) → tb.row q ≡ out x → (k : ℕ) × (k < result_count g) × (result_at g k ≡ stands_on t (result q)) × (word t q 1 ≡ x)
  unfolding out_rows result_total
  row_result q x h =
      let w = out_words_lem t S q x h in
      let c = result_count_lem t in
      let a = those_has (is_out t) (size t) q w.0 (eq-eqb (kind_at t q) 8 w.1) in
      let p = at_position ℕ_discrete q (those (is_out t) (size t)) a in
      let b = in_range (those (is_out t) (size t)) (position ℕ_discrete q (those (is_out t) (size t))) q p in
      (position ℕ_discrete q (those (is_out t) (size t)), omega arith, result_at_lem t (position ℕ_discrete q (those (is_out t) (size t))) q p, w.3)

  -- ---- the answer COMPLETE

  full_token : (u : List ℕ) (w x : ℕ) → token_at u w ≡ some x → is_full u w ≡ true
  full_token u w x h = go (get_or u (full_place w) 0) h
    where
      go : (f : ℕ) → token f (get_or u (word_place w) 0) ≡ some x → not (is_empty f) ≡ true
      go zero k = let z : ◌≡◌ {A = ℕ} 0 1 = cc in absurd (omega arith)
      go (suc f) k = refl

  pub all_complete : (words u : List ℕ) → AsRead t words u → complete g u ≡ true
  unfolding complete results_full others_empty phases_zero
  all_complete words u A = rw (full, others, phases)
    where
      full : every (result_count g) (λ k. is_full u (result_at g k)) ≡ true
      full = every_if (λ k. is_full u (result_at g k)) (result_count g) 0 (λ k a b.
          let e = has_elem words k (let o = A.one_each in omega arith) in
          full_token u (result_at g k) e.0 (A.results_hold k e.0 e.1))

      not_result : (w : ℕ) → is_result g w ≡ false → (k : ℕ) → k < result_count g → w ≢ result_at g k
      not_result w h k l e =
          let a = times_within w (λ j. result_at g j ∷ []) k (result_count g) l in
          let b : times w (result_at g k ∷ []) ≡ 1 = ap (λ (z : ℕ). times w (z ∷ [])) (sym e) ∙ times_one w in
          let c = lt-ltb 0 (times w (results g (result_count g))) (omega arith) in
          let z : ◌≡◌ {A = ℕ} 0 1 = cc in omega arith

      empty : (w : ℕ) → get_or u (full_place w) 0 ≡ 0 → not (is_full u w) ≡ true
      empty w h = rw h

      others : every (wire_count g) (λ w. is_result g w || not (is_full u w)) ≡ true
      others = every_if (λ w. is_result g w || not (is_full u w)) (wire_count g) 0 (λ w a b.
          or_true (is_result g w) (not (is_full u w)) (λ h. empty w (A.others_empty_lem w (omega arith) (not_result w h)).0))

      phases : every (node_count g) (λ i. eqb (record_at (wire_count g) u i).phase 0) ≡ true
      phases = every_if (λ i. eqb (record_at (wire_count g) u i).phase 0) (node_count g) 0 (λ i a b.
          eq-eqb (record_at (wire_count g) u i).phase 0 (ap (λ (r : Record). r.phase) (A.records_zero i (omega arith))))

  pub answers_complete : (words u : List ℕ) → AsRead t words u → Rests (fire (net_of g)) u → (outcome g u).answer ≡ COMPLETE
  unfolding outcome
  answers_complete words u A h = rw (none_ready_if_rests g u h, all_complete words u A)
