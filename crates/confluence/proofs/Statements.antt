-- Any order, one end: the theorems that `specs/Statements` announces, on the very words that a caller lends. See there what each says and which hypotheses it has.
-- Assumes nothing.
use Rattle.std.specs.Prelude.{◌≡◌, refl, ◌≢◌, ◌⊎◌, true, List, [], ◌++◌, ℕ, ◌+◌, ◌*◌, ◌≤◌, ◌<◌, length}
use Rattle.std.proofs.Common.{sym, ap, ◌∙◌, subst, inl, inr, arith}
use Rattle.std.proofs.Math.Option.{some}
use Rattle.step.specs.Firing.{Effect}
use Rattle.graph.specs.Graph.{node_count, wire_count}
use Rattle.graph.specs.Refusal.{graph_refusal}
use Rattle.state.specs.Net.{effect_at, fire, net_of}
use Rattle.state.specs.Legal.{state_length}
use Rattle.state.specs.Run.{At, follow, any_ready, SPENT, outcome}
use Rattle.confluence.specs.Orders.{Alike}
use Rattle.confluence.specs.Wired.{Commute, ready_nodes_commute}
use Rattle.confluence.specs.Histories.{put_at}
use Rattle.confluence.proofs.Histories.{net_rests_alike}
use Rattle.confluence.specs.Ledger.{stands, taken_of}
use Rattle.confluence.proofs.Ledger.{ledger}
use Rattle.confluence.specs.Stage.{Among, Once, Staged}
use Rattle.confluence.proofs.Stage.{stage}
use Rattle.confluence.specs.Runs.{from}
use Rattle.confluence.proofs.Runs.{run_spends, run_ends, enough_rests}
use Rattle.confluence.specs.Resuming.{swept}
use Rattle.confluence.proofs.Resuming.{resumed, resumed_rests}
use Rattle.confluence.specs.Graphs.{nodes_are_local, accepted_is_wired, none_past_last, ready_is_a_node, spent_if_ready, ready_if_spent, rests_unless_spent, not_spent_at_rest}
use Rattle.confluence.specs.Statements.{Fires, AtRest, put_on_wire, RestsAlike, run_of, made_by}

module _ (g : List ℕ) (accepted : graph_refusal g ≡ 0) where
  pub graph_nodes_commute : (i j : ℕ) (s a b : List ℕ) → i ≢ j → fire (net_of g) i s ≡ some a → fire (net_of g) j s ≡ some b → Commute (net_of g) i j s a b
  graph_nodes_commute = ready_nodes_commute (net_of g) (nodes_are_local g) (accepted_is_wired g accepted)

  alike : (order s t : List ℕ) → Fires g order s t → AtRest g t → (other u : List ℕ) → Fires g other s u → Alike (fire (net_of g)) (put_at (net_of g)) order s t other u
  alike = net_rests_alike (net_of g) (nodes_are_local g) (accepted_is_wired g accepted)

  pub every_order_rests_alike : (order s t : List ℕ) → Fires g order s t → AtRest g t → (other u : List ℕ) → Fires g other s u → RestsAlike g order s t other u
  every_order_rests_alike order s t r h other u q =
      let a = alike order s t r h other u q in
      record { at_most = a.no_longer; extends = a.goes_on; as_many = a.firings; same_words = a.end; same_histories = a.histories }

  pub none_rests_at_fewer : (order s t : List ℕ) → Fires g order s t → (other u : List ℕ) → Fires g other s u → length other < length order → AtRest g u → ⊥
  none_rests_at_fewer order s t r other u q less h = let a = (every_order_rests_alike other s u q h order t r).at_most in omega arith

  pub none_rests_without_bound : (s : List ℕ) → ((F : ℕ) → (order : List ℕ) × (t : List ℕ) × Fires g order s t × (F < length order))
      → (other u : List ℕ) → Fires g other s u → AtRest g u → ⊥
  none_rests_without_bound s endless other u q h =
      let x = endless (length other) in
      none_rests_at_fewer x.0 s x.1 x.2 other u q x.3 h

  pub every_wire_balances : (order s t : List ℕ) → Fires g order s t → 2 * wire_count g ≤ length s → (w : ℕ) → w < wire_count g
      → stands s w ++ put_on_wire g order s w ≡ taken_of (net_of g) order s w ++ stands t w
  every_wire_balances = ledger (net_of g) (nodes_are_local g) (accepted_is_wired g accepted)

  pub stage_fires : (nodes s : List ℕ) → Once nodes → length s ≡ state_length g → ((i : ℕ) → Among i nodes → (e : Effect) × (effect_at (net_of g) i s ≡ some e))
      → (t : List ℕ) × Fires g nodes s t × Staged (net_of g) nodes s t
  stage_fires nodes s once long ready =
      stage (net_of g) (nodes_are_local g) (accepted_is_wired g accepted) nodes s once (omega arith)
      (λ i m. let x = ready i m in (x, let below = ready_is_a_node g i s x.0 x.1 in omega arith))

  pub enough_is_not_spent : (order s t : List ℕ) → Fires g order s t → AtRest g t → (list : List ℕ) (allowance : ℕ) → length order ≤ allowance
      → ((run_of g list s allowance).state ≡ t) × (length order + (run_of g list s allowance).left ≡ allowance) × ((outcome g (run_of g list s allowance).state).answer ≢ SPENT)
  enough_is_not_spent order s t r h list allowance enough =
      let x = enough_rests (net_of g) (node_count g) (none_past_last g) alike order s t r h list allowance enough in
      (x.0, x.1, not_spent_at_rest g (run_of g list s allowance).state (subst (AtRest g) (sym x.0) h))

-- ---- runs

-- Any run, whatever its answer: the nodes that its rule fires are ready in their turns, lead from its first state to its last, and are as many as
-- the allowance has lost.
pub run_counts_firings : (g list s : List ℕ) (allowance : ℕ)
    → Fires g (made_by g list s allowance) s (run_of g list s allowance).state
    × (length (made_by g list s allowance) + (run_of g list s allowance).left ≡ allowance)
run_counts_firings g list s allowance = let x = run_spends (net_of g) (node_count g) list (from s allowance) in (x.ready, x.count)

-- A COMPLETE, ZERO STEP or STRANDED answer comes from a list of ready firings that rests: those nodes.
pub run_is_an_order : (g list s : List ℕ) (allowance : ℕ) → (outcome g (run_of g list s allowance).state).answer ≢ SPENT
    → Fires g (made_by g list s allowance) s (run_of g list s allowance).state
    × AtRest g (run_of g list s allowance).state
    × (length (made_by g list s allowance) + (run_of g list s allowance).left ≡ allowance)
run_is_an_order g list s allowance n =
    let x = run_counts_firings g list s allowance in
    (x.0, rests_unless_spent g (run_of g list s allowance).state n, x.1)

pub spent_exactly : (g list s : List ℕ) (allowance : ℕ) → let p = run_of g list s allowance in
    ((outcome g p.state).answer ≡ SPENT → (any_ready (net_of g) (node_count g) p.state ≡ true) × (p.left ≡ 0))
    × (any_ready (net_of g) (node_count g) p.state ≡ true → (outcome g p.state).answer ≡ SPENT)
spent_exactly g list s allowance = (λ h. (ready_if_spent g p.state h, nothing_left h (run_ends (net_of g) (node_count g) (none_past_last g) list (from s allowance))), spent_if_ready g p.state)
  where
    p : At
    p = run_of g list s allowance

    nothing_left : (outcome g p.state).answer ≡ SPENT → (p.left ≡ 0) ⊎ AtRest g p.state → p.left ≡ 0
    nothing_left h (inl e) = e
    nothing_left h (inr k) = absurd (not_spent_at_rest g p.state k h)

-- Two runs of one state, the first not SPENT, the second with an allowance of at least the firings that the first has made.
pub runs_end_alike : (g : List ℕ) → graph_refusal g ≡ 0 → (s list : List ℕ) (allowance : ℕ) → (outcome g (run_of g list s allowance).state).answer ≢ SPENT
    → (list' : List ℕ) (allowance' : ℕ) → allowance ≤ allowance' + (run_of g list s allowance).left
    → ((run_of g list' s allowance').state ≡ (run_of g list s allowance).state)
    × ((run_of g list' s allowance').left + allowance ≡ allowance' + (run_of g list s allowance).left)
    × (outcome g (run_of g list' s allowance').state ≡ outcome g (run_of g list s allowance).state)
runs_end_alike g accepted s list allowance n list' allowance' enough =
    let x = run_is_an_order g list s allowance n in
    let count = x.2 in
    let y = enough_is_not_spent g accepted (made_by g list s allowance) s (run_of g list s allowance).state x.0 x.1 list' allowance' (omega arith) in
    let count' = y.1 in
    (y.0, omega arith, ap (outcome g) y.0)

-- With the allowance a + b, the list and k whole sweeps leave b, in the state t: there a run with a stops, and from there one with b goes on.
pub resumed_at_a_sweep : (g list s t : List ℕ) (a b k : ℕ) → swept (net_of g) (node_count g) k (follow (net_of g) list (from s (a + b))) ≡ from t b
    → (run_of g list s a ≡ from t 0) × (run_of g [] (run_of g list s a).state b ≡ run_of g list s (a + b))
resumed_at_a_sweep g list s t a b k h =
    let x = resumed (net_of g) (node_count g) list s t a b k h in
    (x.0, ap (λ (p : At). run_of g [] p.state b) x.0 ∙ sym x.1)

-- Some order rests after no more than a + b firings: two runs in sequence rest as it does, with as many firings in all.
pub resumed_anyhow : (g : List ℕ) → graph_refusal g ≡ 0 → (order s t : List ℕ) → Fires g order s t → AtRest g t
    → (list list' : List ℕ) (a b : ℕ) → length order ≤ a + b → let p = run_of g list s a in let q = run_of g list' p.state b in
    (q.state ≡ t) × (length order + (p.left + q.left) ≡ a + b)
resumed_anyhow g accepted order s t r h list list' a b enough =
    resumed_rests (net_of g) (node_count g) (none_past_last g) (alike g accepted) order s t r h list list' a b enough
    (run_of g list s a) (run_of g list' (run_of g list s a).state b) refl refl
