-- A graph's words as a net: its nodes are local, it is wired, its numbers end at n, and what an answer says of the state.
--
--   nodes_are_local                               every node of every graph is local
--   accepted_is_wired                             of an accepted graph each wire has one reader and one writer
--   none_past_last                                no node past the last is ready
--   ready_is_a_node                               a ready node is one of the graph's
--   rests_if_none_ready, none_ready_if_rests      `any_ready` says exactly whether a state is at rest
--   spent_if_ready, ready_if_spent                SPENT is answered exactly if a node is ready
--   rests_unless_spent, not_spent_at_rest         so another answer is given exactly at rest
--
-- Assumes nothing.
use Rattle.std.specs.Prelude.{◌≡◌, refl, ◌≢◌, Bool, true, false, not, List, ℕ, zero, suc, ◌+◌, ◌≤◌, ◌<◌, ltb}
use Rattle.std.proofs.Common.{ap, arith, le-ltb}
use Rattle.std.proofs.Math.Option.{Option, none, some}
use Rattle.std.proofs.Math.Decide.{dec_lt}
use Rattle.word.specs.Words.{pick}
use Rattle.step.specs.Firing.{Effect}
use Rattle.step.specs.Locality.{Local, step_is_local, nothing_is_local}
use Rattle.graph.specs.Below.{every_from, every, every_each}
use Rattle.graph.specs.Graph.{Node, node_at, node_count}
use Rattle.graph.specs.Refusal.{graph_refusal}
use Rattle.graph.specs.Accepted.{accepted}
use Rattle.graph.specs.Wiring.{one_reader, one_writer, input_below_lem, output_below}
use Rattle.state.specs.Net.{view, effect_at, after, fire, is_ready, step_at, net_of}
use Rattle.state.specs.Run.{SPENT, COMPLETE, ZERO-STEP, STRANDED, any_ready, complete, zero_step, Outcome, outcome}
use Rattle.confluence.specs.Orders.{Rests}
use Rattle.confluence.specs.Wired.{Wired}

pub nodes_are_local : (g : List ℕ) (i : ℕ) → Local ((net_of g).node i)
nodes_are_local g i = by_row (node_at g i)
  where
    by_row : (o : Option Node) → Local (λ v. step_at o v)
    by_row none = nothing_is_local
    by_row (some nd) = step_is_local nd.kind nd.code

pub accepted_is_wired : (g : List ℕ) → graph_refusal g ≡ 0 → Wired (net_of g)
accepted_is_wired g h =
    let a = accepted g h in
    record { one_reader = one_reader g a; one_writer = one_writer g a; input_below_lem = input_below_lem g a; output_below = output_below g a }

no_row : (g : List ℕ) (i : ℕ) → node_count g ≤ i → node_at g i ≡ none
unfolding node_at
no_row g i h = rw (le-ltb i (node_count g) h)

no_effect : (g : List ℕ) (i : ℕ) (s : List ℕ) → node_count g ≤ i → effect_at (net_of g) i s ≡ none
no_effect g i s h = ap (λ (o : Option Node). step_at o (view (net_of g) i s)) (no_row g i h)

pub none_past_last : (g : List ℕ) (i : ℕ) (s : List ℕ) → node_count g ≤ i → fire (net_of g) i s ≡ none
unfolding fire
none_past_last g i s h = ap (after (net_of g) i s) (no_effect g i s h)

pub ready_is_a_node : (g : List ℕ) (i : ℕ) (s : List ℕ) (e : Effect) → effect_at (net_of g) i s ≡ some e → i < node_count g
ready_is_a_node g i s e h =
    elim (dec_lt i (node_count g)) [
      | yes b ↦ b
      | no n ↦ let z = no_effect g i s (omega arith) in let y : ◌≡◌ {A = ℕ} 0 1 = cc in absurd (omega arith)
    ]

-- ---- at rest

of_each : (m from : ℕ) (test : ℕ → Bool) → ((i : ℕ) → test i ≡ true) → every_from m from test ≡ true
unfolding every_from
of_each zero from test h = refl
of_each (suc m) from test h = rw (h from) (of_each m (from + 1) test h)

not_ready : (o : Option (List ℕ)) → not (is_ready o) ≡ true → o ≡ none
not_ready none h = refl
not_ready (some a) h = let z : ◌≡◌ {A = ℕ} 0 1 = cc in absurd (omega arith)

pub rests_if_none_ready : (g s : List ℕ) → any_ready (net_of g) (node_count g) s ≡ false → Rests (fire (net_of g)) s
unfolding any_ready
rests_if_none_ready g s h i =
    elim (dec_lt i (node_count g)) [
      | yes b ↦ not_ready (fire (net_of g) i s) (every_each (λ j. not (is_ready (fire (net_of g) j s))) (node_count g) all i b)
      | no n ↦ none_past_last g i s (omega arith)
    ]
  where
    from_false : (b : Bool) → not b ≡ false → b ≡ true
    from_false true k = refl
    from_false false k = let z : ◌≡◌ {A = ℕ} 0 1 = cc in absurd (omega arith)

    all : every (node_count g) (λ j. not (is_ready (fire (net_of g) j s))) ≡ true
    all = from_false (every (node_count g) (λ j. not (is_ready (fire (net_of g) j s)))) h

pub none_ready_if_rests : (g s : List ℕ) → Rests (fire (net_of g)) s → any_ready (net_of g) (node_count g) s ≡ false
unfolding any_ready
none_ready_if_rests g s h =
    ap not (of_each (node_count g) 0 (λ j. not (is_ready (fire (net_of g) j s))) (λ j. ap (λ (o : Option (List ℕ)). not (is_ready o)) (h j)))

-- ---- the answer

-- the answer by its three tests
abbrev answered : Bool → Bool → Bool → ℕ → Outcome
answered r c z node =
    pick r (record { answer = SPENT; node = 0 })
    (pick c (record { answer = COMPLETE; node = 0 })
    (pick z (record { answer = ZERO-STEP; node = node }) (record { answer = STRANDED; node = 0 })))

spent_means : (r c z : Bool) (node : ℕ) → (answered r c z node).answer ≡ SPENT → r ≡ true
spent_means true c z node h = refl
spent_means false true z node h = absurd (omega arith)
spent_means false false true node h = absurd (omega arith)
spent_means false false false node h = absurd (omega arith)

pub ready_if_spent : (g s : List ℕ) → (outcome g s).answer ≡ SPENT → any_ready (net_of g) (node_count g) s ≡ true
unfolding outcome
ready_if_spent g s = spent_means (any_ready (net_of g) (node_count g) s) (complete g s) (ltb (zero_step g s) (node_count g)) (zero_step g s)

pub spent_if_ready : (g s : List ℕ) → any_ready (net_of g) (node_count g) s ≡ true → (outcome g s).answer ≡ SPENT
unfolding outcome
spent_if_ready g s h = rw h

-- an answer that is not SPENT is given at rest, and at rest only
pub rests_unless_spent : (g s : List ℕ) → (outcome g s).answer ≢ SPENT → Rests (fire (net_of g)) s
rests_unless_spent g s n = go (any_ready (net_of g) (node_count g) s) refl
  where
    go : (b : Bool) → any_ready (net_of g) (node_count g) s ≡ b → Rests (fire (net_of g)) s
    go true e = absurd (n (spent_if_ready g s e))
    go false e = rests_if_none_ready g s e

pub not_spent_at_rest : (g s : List ℕ) → Rests (fire (net_of g)) s → (outcome g s).answer ≢ SPENT
not_spent_at_rest g s h e =
    let a = ready_if_spent g s e in
    let b = none_ready_if_rests g s h in
    let z : ◌≡◌ {A = ℕ} 0 1 = cc in
    omega arith
