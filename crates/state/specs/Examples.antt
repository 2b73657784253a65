-- The sum graph, computed by these definitions: loaded, legal, run by sweeps, with an order list, with an allowance one short, and
-- with a zero step.
-- Assumes nothing.
use Rattle.std.specs.Prelude.{ℕ, true, ◌≡◌, refl, List, [], ◌∷◌, set}
use Rattle.std.proofs.Math.Option.{Option, none, some}
use Rattle.word.specs.Words.{update, condition, operate}
use Rattle.step.specs.Kinds.{kind_of}
use Rattle.step.specs.Machines.{step}
use Rattle.graph.specs.Below.{every_from, total, joined, times}
use Rattle.graph.specs.Graph.{node_at, row_at, wire_sorts}
use Rattle.graph.specs.SumGraph.{sum_graph}
use Rattle.state.specs.State.{token_at}
use Rattle.state.specs.Net.{fire, net_of}
use Rattle.state.specs.Legal.{legal, legal_wire, legal_node}
use Rattle.state.specs.Load.{loaded, start_word}
use Rattle.state.specs.Run.{At, turn, follow, sweep_from, sweeps, finish, run, any_ready, complete, results_full, others_empty, phases_zero, zero_step_at, first_from, outcome}

abbrev ran : List ℕ → List ℕ → List ℕ → ℕ → At
ran g inputs order allowance = run (net_of g) 13 order (record { state = loaded g inputs; left = allowance })

-- answer, node, what is left of the allowance, and the token on the result's wire
abbrev shown : List ℕ → At → ℕ × ℕ × ℕ × Option ℕ
shown g p = ((outcome g p.state).answer, (outcome g p.state).node, p.left, token_at p.state 10)

abbrev zeroed : List ℕ
zeroed = set sum_graph 9 0

legal_loaded : legal sum_graph (loaded sum_graph (5 ∷ [])) ≡ true
unfolding sum_graph loaded start_word total joined legal legal_wire legal_node every_from node_at row_at kind_of wire_sorts
legal_loaded = refl

input_5 : shown sum_graph (ran sum_graph (5 ∷ []) [] 1000) ≡ (0, 0, 942, some 10)
unfolding sum_graph loaded start_word total joined every_from node_at row_at kind_of fire step turn follow sweep_from sweeps finish run any_ready complete results_full others_empty phases_zero zero_step_at first_from outcome times condition update operate
input_5 = refl

in_reverse : shown sum_graph (ran sum_graph (5 ∷ []) (12 ∷ 11 ∷ 10 ∷ 9 ∷ 8 ∷ 7 ∷ 6 ∷ 5 ∷ 4 ∷ 3 ∷ 2 ∷ 1 ∷ 0 ∷ []) 58) ≡ (0, 0, 0, some 10)
unfolding sum_graph loaded start_word total joined every_from node_at row_at kind_of fire step turn follow sweep_from sweeps finish run any_ready complete results_full others_empty phases_zero zero_step_at first_from outcome times condition update operate
in_reverse = refl

one_short : shown sum_graph (ran sum_graph (5 ∷ []) [] 57) ≡ (3, 0, 0, some 10)
unfolding sum_graph loaded start_word total joined every_from node_at row_at kind_of fire step turn follow sweep_from sweeps finish run any_ready complete results_full others_empty phases_zero zero_step_at first_from outcome times condition update operate
one_short = refl

input_0 : shown sum_graph (ran sum_graph (0 ∷ []) [] 1000) ≡ (0, 0, 987, some 0)
unfolding sum_graph loaded start_word total joined every_from node_at row_at kind_of fire step turn follow sweep_from sweeps finish run any_ready complete results_full others_empty phases_zero zero_step_at first_from outcome times condition update operate
input_0 = refl

zero_step_lem : shown zeroed (ran zeroed (5 ∷ []) [] 1000) ≡ (1, 0, 994, none)
unfolding sum_graph loaded start_word total joined every_from node_at row_at kind_of fire step turn follow sweep_from sweeps finish run any_ready complete results_full others_empty phases_zero zero_step_at first_from outcome times condition update operate
zero_step_lem = refl
