-- A table lowered, loaded and run to its end, as one list of words.
--
--   ran                           answer, node and firings; then the words that the results hold
--   p10, p11, zero_step_lem, p12  the register's tables run
--
-- Assumes nothing.
use Rattle.std.specs.Prelude.{ℕ, ◌-◌, ◌≡◌, refl, List, [], ◌∷◌, set}
use Rattle.std.proofs.Common.{ap, ◌∙◌}
use Rattle.std.proofs.Math.Option.{Option, none, some}
use Rattle.word.specs.Words.{condition, update, operate}
use Rattle.step.specs.Kinds.{kind_of}
use Rattle.step.specs.Machines.{step}
use Rattle.graph.specs.Below.{every_from, total, joined, times}
use Rattle.graph.specs.Graph.{node_count, result_count, result_at, node_at, row_at}
use Rattle.graph.specs.SumGraph.{sum_graph}
use Rattle.state.specs.State.{token_at}
use Rattle.state.specs.Net.{net_of, fire}
use Rattle.state.specs.Load.{loaded, start_word}
use Rattle.state.specs.Run.{At, turn, follow, sweep_from, sweeps, finish, run, any_ready, complete, results_full, others_empty, phases_zero, zero_step_at, first_from, outcome}
use Rattle.table.specs.Cases.{sum_table, sum_by, p12_table}
use Rattle.lowered.specs.Lower.{lowered_words}
use Rattle.lowered.specs.Cases.{sum_table_lowers_to_the_102_words, changed_row_changes_its_start, p12_graph, p12_lowers}

-- more firings than any case here makes
abbrev pub allowance : ℕ
allowance = 1000

-- no order is given, so sweeps do all
abbrev pub run_of : List ℕ → List ℕ → At
run_of g inputs = run (net_of g) (node_count g) [] (record { state = loaded g inputs; left = allowance })

abbrev pub token : Option ℕ → List ℕ
token none = []
token (some x) = x ∷ []

abbrev pub end_of : List ℕ → At → List (List ℕ)
end_of g p =
    ((outcome g p.state).answer ∷ (outcome g p.state).node ∷ (allowance - p.left) ∷ [])
    ∷ joined (λ k. token (token_at p.state (result_at g k))) (result_count g) ∷ []

unfoldable pub ran_graph : List ℕ → List ℕ → List (List ℕ)
ran_graph g inputs = end_of g (run_of g inputs)

unfoldable pub ran : List ℕ → List ℕ → List (List ℕ)
ran t inputs = ran_graph (lowered_words t) inputs

-- everything that a run computes with
unfoldable pub running_computes : ℕ
unfolding ran_graph loaded start_word total joined every_from node_at row_at kind_of step condition update operate fire turn follow sweep_from sweeps finish run any_ready complete results_full others_empty phases_zero zero_step_at first_from outcome times sum_graph p12_graph
running_computes = 0

by_graph : (t g inputs : List ℕ) → lowered_words t ≡ g → ran t inputs ≡ ran_graph g inputs
unfolding ran
by_graph t g inputs e = ap (λ (x : List ℕ). ran_graph x inputs) e

sum_5 : ran_graph sum_graph (5 ∷ []) ≡ (0 ∷ 0 ∷ 58 ∷ []) ∷ (10 ∷ []) ∷ []
unfolding running_computes
sum_5 = refl

sum_0 : ran_graph sum_graph (0 ∷ []) ≡ (0 ∷ 0 ∷ 13 ∷ []) ∷ (0 ∷ []) ∷ []
unfolding running_computes
sum_0 = refl

stuck_5 : ran_graph (set sum_graph 9 0) (5 ∷ []) ≡ (1 ∷ 0 ∷ 6 ∷ []) ∷ [] ∷ []
unfolding running_computes
stuck_5 = refl

nested_run : ran_graph p12_graph [] ≡ (0 ∷ 0 ∷ 121 ∷ []) ∷ (5 ∷ []) ∷ []
unfolding running_computes
nested_run = refl

pub p10 : ran sum_table (5 ∷ []) ≡ (0 ∷ 0 ∷ 58 ∷ []) ∷ (10 ∷ []) ∷ []
p10 = by_graph sum_table sum_graph (5 ∷ []) sum_table_lowers_to_the_102_words ∙ sum_5

pub p11 : ran sum_table (0 ∷ []) ≡ (0 ∷ 0 ∷ 13 ∷ []) ∷ (0 ∷ []) ∷ []
p11 = by_graph sum_table sum_graph (0 ∷ []) sum_table_lowers_to_the_102_words ∙ sum_0

pub zero_step_lem : ran (sum_by 0) (5 ∷ []) ≡ (1 ∷ 0 ∷ 6 ∷ []) ∷ [] ∷ []
zero_step_lem = by_graph (sum_by 0) (set sum_graph 9 0) (5 ∷ []) changed_row_changes_its_start ∙ stuck_5

pub p12 : ran p12_table [] ≡ (0 ∷ 0 ∷ 121 ∷ []) ∷ (5 ∷ []) ∷ []
p12 = by_graph p12_table p12_graph [] p12_lowers ∙ nested_run
