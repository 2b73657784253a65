-- The theorems about any order speak of 58 firings of the sum graph.
--
--   the_sum_of_five           with input 5 every order has at most 58 firings, and one that rests has 58 and leaves 10 on the result's wire
--
-- Assumes nothing.
use Rattle.std.specs.Prelude.{◌≡◌, refl, false, List, [], ℕ, ◌≤◌, length}
use Rattle.std.proofs.Common.{ap, ◌∙◌, arith}
use Rattle.std.proofs.Math.Option.{some}
use Rattle.word.specs.Words.{condition, update, operate}
use Rattle.step.specs.Kinds.{kind_of}
use Rattle.step.specs.Machines.{step}
use Rattle.graph.specs.Below.{every_from, total, joined}
use Rattle.graph.specs.Graph.{node_count, node_at, row_at}
use Rattle.graph.specs.SumGraph.{sum_graph}
use Rattle.state.specs.State.{token_at}
use Rattle.state.specs.Net.{fire, net_of}
use Rattle.state.specs.Load.{loaded, start_word}
use Rattle.state.specs.Run.{turn, follow, sweep_from, sweeps, finish, run, any_ready}
use Rattle.confluence.specs.Graphs.{rests_if_none_ready}
use Rattle.confluence.specs.Statements.{Fires, AtRest, run_of, made_by}
use Rattle.confluence.proofs.Statements.{every_order_rests_alike, run_counts_firings}
use Rattle.confluence.specs.NotIdle.{the_sum_graph_is_accepted, start, last}

-- the run by sweeps alone
spends_58 : (run_of sum_graph [] start 58).left ≡ 0
unfolding sum_graph loaded start_word total joined node_at row_at kind_of fire step turn follow sweep_from sweeps finish run condition update operate
spends_58 = refl

leaves_10 : token_at last 10 ≡ some 10
unfolding sum_graph loaded start_word total joined node_at row_at kind_of fire step turn follow sweep_from sweeps finish run condition update operate
leaves_10 = refl

rests_there : any_ready (net_of sum_graph) (node_count sum_graph) last ≡ false
unfolding sum_graph loaded start_word total joined every_from node_at row_at kind_of fire step turn follow sweep_from sweeps finish run any_ready condition update operate
rests_there = refl

pub the_sum_of_five : (order u : List ℕ) → Fires sum_graph order start u
    → (length order ≤ 58) × (AtRest sum_graph u → (length order ≡ 58) × (token_at u 10 ≡ some 10))
the_sum_of_five order u q =
    let x = run_counts_firings sum_graph [] start 58 in
    let a = every_order_rests_alike sum_graph the_sum_graph_is_accepted (made_by sum_graph [] start 58) start last x.0 (rests_if_none_ready sum_graph last rests_there) order u q in
    let left = spends_58 in
    let count = x.1 in
    let most = a.at_most in
    (omega arith, λ h. (a.as_many h ∙ (let z : length (made_by sum_graph [] start 58) ≡ 58 = omega arith in z), ap (λ (s : List ℕ). token_at s 10) (a.same_words h) ∙ leaves_10))
