-- Where an order on the lowered words has ended as the reading has.
--
--   ended_as_read             the state is as read where the reading has ended
--
-- Assumes nothing.
use Rattle.std.specs.Prelude.{◌≡◌, ◌≢◌, List, ℕ, ◌<◌, length}
use Rattle.std.proofs.Math.Path.{sym}
use Rattle.std.proofs.Common.{◌∙◌, subst₂}
use Rattle.std.proofs.Math.Option.{none, some}
use native.Mathlib.Omega.{arith}
use Rattle.std.proofs.Math.ListN.{get_elem?}
use Rattle.graph.specs.Graph.{node_count, wire_count, result_count, result_at}
use Rattle.graph.specs.Refusal.{graph_refusal}
use Rattle.state.specs.Legal.{state_length}
use Rattle.state.specs.Net.{net_of}
use Rattle.table.specs.Rows.{word, size}
use Rattle.structure.specs.Structure.{Structure}
use Rattle.reading.specs.Reading.{Env, results_from}
use Rattle.lowered.specs.Lower.{lowered_words}
use Rattle.laid.specs.Lists.{in_range}
use Rattle.laid.specs.Words.{result_at_lem}
use Rattle.uses.specs.Flat.{Holds}
use Rattle.faithful.specs.Table.{Table}
use Rattle.faithful.specs.Tables.{table_of}
use Rattle.faithful.specs.Finish.{Finished}
use Rattle.faithful.proofs.Places.{layout, laid}
use Rattle.faithful.specs.EndState.{whole_state}
use Rattle.faithful.specs.Endings.{AsRead, result_words_lem, results_counted, holds_token_lem, result_row, row_result}

module _ (t : List ℕ) (S : Structure t) (ok : graph_refusal (lowered_words t) ≡ 0) where
  abbrev tb : Table
  tb = table_of t

  abbrev g : List ℕ
  g = lowered_words t

  pub ended_as_read : (env : Env) (u : List ℕ) → length u ≡ state_length g → Finished tb (net_of g) (node_count g) (laid t S ok) env u → AsRead t (results_from (size t) t env 0) u
  unfolding laid layout
  ended_as_read env u long F =
      record {
        whole = whole_state g (results_from (size t) t env 0) u long (results_counted t env) holds others F.recs;
        one_each = results_counted t env;
        results_hold = λ k x h. holds_token_lem u (result_at g k) x (holds k x h);
        others_empty_lem = others;
        records_zero = F.recs;
      }
    where
      others : (w : ℕ) → w < wire_count g → ((k : ℕ) → k < result_count g → w ≢ result_at g k) → Holds u w none
      others w l n = F.others w l (λ r x h e. let q = row_result t S ok r x h in n q.0 q.1 (e ∙ sym q.2))

      below : (k x : ℕ) → get_elem? (results_from (size t) t env 0) k ≡ some x → k < result_count g
      below k x h = let a = in_range (results_from (size t) t env 0) k x h in let b = results_counted t env in omega arith

      holds : (k x : ℕ) → get_elem? (results_from (size t) t env 0) k ≡ some x → Holds u (result_at g k) (some x)
      holds k x h =
          let r = result_row t S ok k (below k x h) in
          let e : env (word t r.0 1) ≡ x = let q = result_words_lem t env k r.0 r.1 in let p = h in cc in
          subst₂ (λ (w z : ℕ). Holds u w (some z)) (sym (result_at_lem t k r.0 r.1)) e (F.results r.0 (word t r.0 1) r.2)
