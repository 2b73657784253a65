-- Cases by computation: the sum graph is accepted, and damaged copies are refused with each number from 11 to 15.
-- A case is a list of changes, each a place of the sum graph's list and its new word, and the number that `graph_refusal` answers.
-- Row i of the sum graph stands at 11 + 7 i.
-- Assumes nothing.
use Rattle.std.specs.Prelude.{ℕ, ◌≡◌, refl, List, [], ◌∷◌, ◌++◌, set, take}
use Rattle.graph.specs.Below.{every_from, total, joined, times}
use Rattle.graph.specs.Graph.{absent, row_at, node_at, reads, wire_sorts}
use Rattle.graph.specs.Refusal.{has_shape, start_right, row_right, rows_right, row_below, wires_below, read_once, row_sorted, sorts_agree, graph_refusal}
use Rattle.graph.specs.SumGraph.{sum_graph}
use Rattle.step.specs.Kinds.{kind_of}

abbrev Change : Type 0
Change = ℕ × ℕ

abbrev changed : List ℕ → List Change → List ℕ
changed g [] = g
changed g (c ∷ cs) = set (changed g cs) c.0 c.1

abbrev refusals : List (List Change) → List ℕ
refusals [] = []
refusals (c ∷ cs) = graph_refusal (changed sum_graph c) ∷ refusals cs

pub sum_graph_is_accepted : graph_refusal sum_graph ≡ 0
unfolding graph_refusal has_shape rows_right start_right row_right wires_below row_below read_once sorts_agree row_sorted every_from total joined times row_at node_at reads wire_sorts sum_graph kind_of
sum_graph_is_accepted = refl

-- A graph cut short, or with words left over; counts beyond their limits, though the rows would take long to read.
shape_comes_first :
    (graph_refusal [] ≡ 11)
    × (graph_refusal (0 ∷ 0 ∷ 0 ∷ []) ≡ 11)
    × (graph_refusal (0 ∷ 0 ∷ 0 ∷ 0 ∷ []) ≡ 0)
    × (graph_refusal (take 101 sum_graph) ≡ 11)
    × (graph_refusal (sum_graph ++ (0 ∷ [])) ≡ 11)
    × (refusals (((0, 4097) ∷ []) ∷ ((1, 8193) ∷ []) ∷ ((2, 513) ∷ []) ∷ ((3, 513) ∷ []) ∷ ((0, absent) ∷ []) ∷ [])
    ≡ 11 ∷ 11 ∷ 11 ∷ 11 ∷ 11 ∷ [])
unfolding graph_refusal has_shape rows_right start_right row_right wires_below row_below read_once sorts_agree row_sorted every_from total joined times row_at node_at reads wire_sorts sum_graph kind_of
shape_comes_first = (refl, refl, refl, refl, refl, refl)

-- Nothing changed; and the input made a constant, with any word.
accepted_graphs : refusals ([] ∷ ((4, 1) ∷ (5, absent) ∷ []) ∷ []) ≡ 0 ∷ 0 ∷ []
unfolding graph_refusal has_shape rows_right start_right row_right wires_below row_below read_once sorts_agree row_sorted every_from total joined times row_at node_at reads wire_sorts sum_graph kind_of
accepted_graphs = refl

-- A start of no kind, a wrong input number; kind 9; code 30 of a STREAM, code 8 of an OP, code 1 of a GATE; sort 2, a STREAM of sort 1;
-- an absent input that is a wire; a first output that is another number, that is X, or that a DRAIN has; W too small, too large.
node_faults :
    refusals
    (((4, 2) ∷ [])
    ∷ ((5, 1) ∷ [])
    ∷ ((6, 0) ∷ [])
    ∷ ((11, 9) ∷ [])
    ∷ ((12, 30) ∷ [])
    ∷ ((26, 8) ∷ [])
    ∷ ((19, 1) ∷ [])
    ∷ ((20, 2) ∷ [])
    ∷ ((13, 1) ∷ [])
    ∷ ((23, 0) ∷ [])
    ∷ ((17, 4) ∷ [])
    ∷ ((17, absent) ∷ [])
    ∷ ((94, 22) ∷ [])
    ∷ ((1, 21) ∷ [])
    ∷ ((1, 23) ∷ [])
    ∷ [])
    ≡ 12 ∷ 12 ∷ 12 ∷ 12 ∷ 12 ∷ 12 ∷ 12 ∷ 12 ∷ 12 ∷ 12 ∷ 12 ∷ 12 ∷ 12 ∷ 12 ∷ 12 ∷ []
unfolding graph_refusal has_shape rows_right start_right row_right wires_below row_below read_once sorts_agree row_sorted every_from total joined times row_at node_at reads wire_sorts sum_graph kind_of
node_faults = refl

-- X in a present input; an input and a result not below W.
wire_faults : refusals (((14, absent) ∷ []) ∷ ((91, 22) ∷ []) ∷ ((10, 22) ∷ []) ∷ []) ≡ 13 ∷ 13 ∷ 13 ∷ []
unfolding graph_refusal has_shape rows_right start_right row_right wires_below row_below read_once sorts_agree row_sorted every_from total joined times row_at node_at reads wire_sorts sum_graph kind_of
wire_faults = refl

-- A wire read by two nodes, and then another by none; a wire read by a node and a result.
reader_faults : refusals (((14, 2) ∷ []) ∷ ((10, 0) ∷ []) ∷ []) ≡ 14 ∷ 14 ∷ []
unfolding graph_refusal has_shape rows_right start_right row_right wires_below row_below read_once sorts_agree row_sorted every_from total joined times row_at node_at reads wire_sorts sum_graph kind_of
reader_faults = refl

-- The two inputs of the GATE exchanged; a FORK of flags said to be of words; the result and the input of a DRAIN of flags exchanged.
sort_faults : refusals (((21, 18) ∷ (22, 3) ∷ []) ∷ ((76, 0) ∷ []) ∷ ((10, 6) ∷ (91, 10) ∷ (90, 0) ∷ []) ∷ []) ≡ 15 ∷ 15 ∷ 15 ∷ []
unfolding graph_refusal has_shape rows_right start_right row_right wires_below row_below read_once sorts_agree row_sorted every_from total joined times row_at node_at reads wire_sorts sum_graph kind_of
sort_faults = refl

-- Two faults, the later number in the earlier row: each test is over the whole graph before the next.
the_lower_number_wins :
    refusals
    (((0, 4097) ∷ (11, 9) ∷ [])
    ∷ ((14, absent) ∷ (88, 9) ∷ [])
    ∷ ((14, 2) ∷ (91, 22) ∷ [])
    ∷ ((21, 18) ∷ (22, 3) ∷ (91, 7) ∷ [])
    ∷ [])
    ≡ 11 ∷ 12 ∷ 13 ∷ 14 ∷ []
unfolding graph_refusal has_shape rows_right start_right row_right wires_below row_below read_once sorts_agree row_sorted every_from total joined times row_at node_at reads wire_sorts sum_graph kind_of
the_lower_number_wins = refl
