-- Any order, one end. Token graphs are fired in an order that nobody knows; these theorems say that the order does not matter.
-- All speak of the very words that a caller lends: `g` is a graph's words, `s`, `t`, `u` are states' words, and a firing is `fire (net_of g)`.
-- The theorems stand in proofs/Statements; here is what they speak of.
--
--   graph_nodes_commute       two different ready nodes may fire in either order
--   every_order_rests_alike   if some order rests, all do, after as many firings, in the same words, with the same words on every wire
--   none_rests_at_fewer       if some list of ready firings is longer than F, none rests after F
--   none_rests_without_bound  if there is no bound on their lengths, none rests
--   every_wire_balances       what stood on a wire and was put on it is what was taken from it and stands there
--   stage_fires               different nodes that are all ready fire in any order of them, and the end is the pointwise update
--   run_counts_firings        what a run's allowance has lost is the number of firings that its rule makes, each ready in its turn
--   run_is_an_order           a run that is not SPENT is so one of the orders that rest
--   spent_exactly             SPENT is answered exactly if a node is ready, and then nothing is left
--   enough_is_not_spent       an allowance of as many firings as some order needs is enough for a run with any list
--   runs_end_alike            so any two runs of one state with enough allowance end alike, whatever their lists
--   resumed_at_a_sweep        a run stopped at a sweep's start may be resumed as if it had not stopped
--   resumed_anyhow            and one stopped anywhere, if there is enough for the rest
--
-- The hypotheses, once for all:
--   graph_refusal g ≡ 0       the graph check accepts g; of that only one reader and one writer a wire, and wire numbers below W, are used.
--   Fires g order s t         the nodes of `order` fire one after the other, each ready in its turn, and lead from s to t.
--   AtRest g t                no node is ready in t.
-- No theorem asks for a legal state: what a firing does is fixed on any words, and the words of two ready nodes lie apart on any words. Where a
-- theorem says what stands somewhere afterwards, the state must be long enough to have that place.
--
-- For any net of local nodes, another edition's or two graphs side by side: ready_nodes_commute (Wired), net_rests_alike (proofs/Histories), ledger
-- (proofs/Ledger), stage (proofs/Stage), and the theorems of proofs/Runs and proofs/Resuming.
-- That none of this is idle is shown in NotIdle: a loaded graph on which these theorems speak of 58 firings.
-- Assumes nothing.
use Rattle.std.specs.Prelude.{◌≡◌, List, ◌++◌, ℕ, ◌+◌, ◌≤◌, length}
use Rattle.std.proofs.Math.Option.{some}
use Rattle.graph.specs.Graph.{node_count}
use Rattle.state.specs.Net.{fire, net_of}
use Rattle.state.specs.Run.{At, run}
use Rattle.confluence.specs.Orders.{fires, Rests}
use Rattle.confluence.specs.Histories.{history_of}
use Rattle.confluence.specs.Runs.{from, run_made}

abbrev pub Fires : List ℕ → List ℕ → List ℕ → List ℕ → Type 0
Fires g order s t = fires (fire (net_of g)) order s ≡ some t

abbrev pub AtRest : List ℕ → List ℕ → Type 0
AtRest g s = Rests (fire (net_of g)) s

-- the words that the firings of `order`, from s on, put on wire w, first to last
abbrev pub put_on_wire : List ℕ → List ℕ → List ℕ → ℕ → List ℕ
put_on_wire g order s w = history_of (net_of g) order s w

-- What a list `other` of ready firings from s to u has to do with a list `order` from s that rests in t.
pub record RestsAlike (g order s t other u : List ℕ) : Type 0 where
  pub at_most : length other ≤ length order
  pub extends : (more : List ℕ) × Fires g more u t × (length other + length more ≡ length order)
      × ((w : ℕ) → put_on_wire g other s w ++ put_on_wire g more u w ≡ put_on_wire g order s w)
  pub as_many : AtRest g u → length other ≡ length order
  pub same_words : AtRest g u → u ≡ t
  pub same_histories : AtRest g u → (w : ℕ) → put_on_wire g other s w ≡ put_on_wire g order s w

-- the run of s with a list and an allowance
abbrev pub run_of : List ℕ → List ℕ → List ℕ → ℕ → At
run_of g list s allowance = run (net_of g) (node_count g) list (from s allowance)

-- the nodes that the rule of that run fires, in order
abbrev pub made_by : List ℕ → List ℕ → List ℕ → ℕ → List ℕ
made_by g list s allowance = run_made (net_of g) (node_count g) list (from s allowance)
