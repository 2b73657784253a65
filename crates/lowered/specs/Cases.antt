-- Tables lowered by computing: the register's two, and one for each thing that a table may hold.
--
--   sum_table_lowers_to_the_102_words     as the register asks
--   p12_lowers                            loops in loops, values carried in
--   input_out_has_no_nodes, unused_values_are_drained, eight_loops_lower, a_carried_flag_keeps_its_sort
--   one_word_short, refusal_writes_nothing, two_words_left, length_is_answered      the answers, and the lent words
--   lowering_computes                     opens every definition that a lowering computes with
--
-- Assumes nothing.
use Rattle.std.specs.Prelude.{ℕ, ◌≡◌, refl, List, [], ◌∷◌, ◌++◌, take, set, replicate}
use native.Mathlib.Decide.{ℕ_discrete}
use Rattle.graph.specs.Graph.{absent}
use Rattle.graph.specs.SumGraph.{sum_graph}
use Rattle.table.specs.Rows.{field_at, used_words, operand_count, first_operand, sort_of, wanted_sort}
use Rattle.table.specs.Scan.{after, stack_at, body_of, read_stack, reads, home_by, home, body_open, end_passed, visible}
use Rattle.table.specs.Check.{length_right, kind_right, zeros_from, spare_right, codes_from, code_right, follows, stands, place_right, depth_right, names_from, names_right, types_from, types_right, end_right, row_refusal, answer, rows_from, table_refusal}
use Rattle.table.specs.Bodies.{ends, end_from, end_of, args_from, args_of, arg_of, next_of}
use Rattle.table.specs.Cases.{input, const, op, pick, loop, arg, next, close, out, nested, sum_table, sum_by, p12_table}
use Rattle.lowered.specs.Gathered.{gathered, those, some?, each, position}
use Rattle.lowered.specs.Roles.{same_role, same_output, same_input, same_wire, same_use}
use Rattle.lowered.specs.Sources.{inside, names, carried, home_wire, value_wire, feed, source}
use Rattle.lowered.specs.Lower.{carried_into, row_roles, roles, start_rows, starts, wires, wire_number, out_rows, uses, readers_in, users, leg_of, plain_nodes, plain_wires, all_users, stands_on, lowered_nodes, node_total, wire_total, start_total, result_total, lowered_words}
use Rattle.lowered.specs.Room.{ROOM, in_limits, fits_into, refused_by, check_answer, lower_refusal, lower_answer, lent_after}

-- everything that lowering computes with
unfoldable pub lowering_computes : ℕ
unfolding operand_count first_operand sort_of after stack_at body_of read_stack reads home_by home ends end_from end_of args_from args_of arg_of next_of gathered those some? each position same_role same_output same_input same_wire same_use inside names carried home_wire value_wire feed source carried_into row_roles roles start_rows starts wires wire_number out_rows uses readers_in users leg_of plain_nodes plain_wires all_users stands_on lowered_nodes node_total wire_total start_total result_total lowered_words native.Mathlib.Decide.ℕ_discrete
lowering_computes = 0

-- 'Its graph has 102 words.'
pub sum_table_lowers_to_the_102_words : lowered_words sum_table ≡ sum_graph
unfolding lowering_computes sum_graph
sum_table_lowers_to_the_102_words = refl

-- The graph of P12's table, 35 nodes, as an executable model of the rules, tests/model.py, wrote it
unfoldable pub p12_graph : List ℕ
p12_graph =
    35 ∷ 57 ∷ 3 ∷ 1 ∷
    1 ∷ 0 ∷
    1 ∷ 1 ∷
    1 ∷ 3 ∷
    16 ∷
    0 ∷ 0 ∷ 0 ∷ 29 ∷ 35 ∷ 37 ∷ 3 ∷
    1 ∷ 0 ∷ 0 ∷ 3 ∷ 39 ∷ absent ∷ 5 ∷
    7 ∷ 3 ∷ 0 ∷ 31 ∷ 38 ∷ absent ∷ 7 ∷
    4 ∷ 0 ∷ 0 ∷ 49 ∷ 33 ∷ absent ∷ 8 ∷
    3 ∷ 0 ∷ 0 ∷ 47 ∷ 8 ∷ absent ∷ 10 ∷
    4 ∷ 0 ∷ 0 ∷ 50 ∷ 36 ∷ absent ∷ 11 ∷
    3 ∷ 0 ∷ 0 ∷ 48 ∷ 11 ∷ absent ∷ 13 ∷
    2 ∷ 0 ∷ 0 ∷ 41 ∷ 34 ∷ 27 ∷ 14 ∷
    4 ∷ 0 ∷ 0 ∷ 42 ∷ 14 ∷ absent ∷ 15 ∷
    0 ∷ 0 ∷ 0 ∷ 51 ∷ 13 ∷ 43 ∷ 17 ∷
    1 ∷ 0 ∷ 0 ∷ 17 ∷ 53 ∷ absent ∷ 19 ∷
    7 ∷ 3 ∷ 0 ∷ 52 ∷ 45 ∷ absent ∷ 21 ∷
    4 ∷ 0 ∷ 0 ∷ 21 ∷ 46 ∷ absent ∷ 22 ∷
    3 ∷ 0 ∷ 0 ∷ 20 ∷ 22 ∷ absent ∷ 24 ∷
    2 ∷ 0 ∷ 0 ∷ 55 ∷ 15 ∷ 28 ∷ 25 ∷
    4 ∷ 0 ∷ 0 ∷ 56 ∷ 25 ∷ absent ∷ 26 ∷
    7 ∷ 0 ∷ 0 ∷ 26 ∷ 24 ∷ absent ∷ 28 ∷
    5 ∷ 0 ∷ 0 ∷ 0 ∷ absent ∷ absent ∷ 29 ∷
    5 ∷ 0 ∷ 0 ∷ 30 ∷ absent ∷ absent ∷ 31 ∷
    5 ∷ 0 ∷ 0 ∷ 32 ∷ absent ∷ absent ∷ 33 ∷
    5 ∷ 0 ∷ 0 ∷ 1 ∷ absent ∷ absent ∷ 35 ∷
    5 ∷ 0 ∷ 0 ∷ 2 ∷ absent ∷ absent ∷ 37 ∷
    5 ∷ 0 ∷ 1 ∷ 4 ∷ absent ∷ absent ∷ 39 ∷
    5 ∷ 0 ∷ 1 ∷ 40 ∷ absent ∷ absent ∷ 41 ∷
    5 ∷ 0 ∷ 0 ∷ 5 ∷ absent ∷ absent ∷ 43 ∷
    5 ∷ 0 ∷ 0 ∷ 44 ∷ absent ∷ absent ∷ 45 ∷
    5 ∷ 0 ∷ 1 ∷ 6 ∷ absent ∷ absent ∷ 47 ∷
    5 ∷ 0 ∷ 1 ∷ 7 ∷ absent ∷ absent ∷ 49 ∷
    6 ∷ 0 ∷ 0 ∷ 9 ∷ absent ∷ absent ∷ absent ∷
    5 ∷ 0 ∷ 0 ∷ 10 ∷ absent ∷ absent ∷ 51 ∷
    6 ∷ 0 ∷ 0 ∷ 12 ∷ absent ∷ absent ∷ absent ∷
    5 ∷ 0 ∷ 1 ∷ 18 ∷ absent ∷ absent ∷ 53 ∷
    5 ∷ 0 ∷ 1 ∷ 54 ∷ absent ∷ absent ∷ 55 ∷
    6 ∷ 0 ∷ 0 ∷ 19 ∷ absent ∷ absent ∷ absent ∷
    6 ∷ 0 ∷ 0 ∷ 23 ∷ absent ∷ absent ∷ absent ∷ []

-- P12's graph, word by word: two loops, three values carried in, each with its guard
pub p12_lowers : lowered_words p12_table ≡ p12_graph
unfolding lowering_computes p12_graph
p12_lowers = refl

-- 'an INPUT with an OUT of it lowers to a graph without nodes'
pub input_out_has_no_nodes : lowered_words (input (out 0)) ≡ 0 ∷ 1 ∷ 1 ∷ 1 ∷ 0 ∷ 0 ∷ 0 ∷ []
unfolding lowering_computes
input_out_has_no_nodes = refl

-- an unused value is drained: CONST 7, CONST 8, OUT 1
pub unused_values_are_drained : lowered_words (const 7 (const 8 (out 1))) ≡ 1 ∷ 2 ∷ 2 ∷ 1 ∷ 1 ∷ 7 ∷ 1 ∷ 8 ∷ 1 ∷ 6 ∷ 0 ∷ 0 ∷ 0 ∷ absent ∷ absent ∷ absent ∷ []
unfolding lowering_computes
unused_values_are_drained = refl

abbrev header_of : List ℕ → List ℕ
header_of g = take 4 g

-- eight nested loops: each stream, gate and guard; the CONST is carried into all but the innermost
pub eight_loops_lower : header_of (lowered_words (nested 8)) ≡ 95 ∷ 142 ∷ 1 ∷ 1 ∷ []
unfolding lowering_computes
eight_loops_lower = refl

-- a flag carried into a loop keeps its sort: its SPLIT, INVARIANT and FORKs are of sort 1
abbrev flag_table : List ℕ
flag_table = input (const 1 (op 3 0 1 (loop 1 1 0 0 0 (arg 1 (pick 2 4 3 (next 5 (close (out 6))))))))

unfoldable pub flag_graph : List ℕ
flag_graph =
    18 ∷ 31 ∷ 2 ∷ 1 ∷
    0 ∷ 0 ∷
    1 ∷ 1 ∷
    13 ∷
    7 ∷ 3 ∷ 0 ∷ 15 ∷ 19 ∷ absent ∷ 2 ∷
    0 ∷ 0 ∷ 0 ∷ 21 ∷ 23 ∷ 17 ∷ 3 ∷
    1 ∷ 0 ∷ 0 ∷ 3 ∷ 27 ∷ absent ∷ 5 ∷
    7 ∷ 3 ∷ 0 ∷ 25 ∷ 18 ∷ absent ∷ 7 ∷
    4 ∷ 0 ∷ 1 ∷ 7 ∷ 2 ∷ absent ∷ 8 ∷
    3 ∷ 0 ∷ 1 ∷ 6 ∷ 8 ∷ absent ∷ 10 ∷
    2 ∷ 0 ∷ 0 ∷ 29 ∷ 26 ∷ 14 ∷ 11 ∷
    4 ∷ 0 ∷ 0 ∷ 30 ∷ 11 ∷ absent ∷ 12 ∷
    8 ∷ 0 ∷ 0 ∷ 10 ∷ 12 ∷ 5 ∷ 14 ∷
    5 ∷ 0 ∷ 0 ∷ 0 ∷ absent ∷ absent ∷ 15 ∷
    5 ∷ 0 ∷ 0 ∷ 16 ∷ absent ∷ absent ∷ 17 ∷
    5 ∷ 0 ∷ 0 ∷ 1 ∷ absent ∷ absent ∷ 19 ∷
    5 ∷ 0 ∷ 0 ∷ 20 ∷ absent ∷ absent ∷ 21 ∷
    5 ∷ 0 ∷ 0 ∷ 22 ∷ absent ∷ absent ∷ 23 ∷
    5 ∷ 0 ∷ 0 ∷ 24 ∷ absent ∷ absent ∷ 25 ∷
    5 ∷ 0 ∷ 1 ∷ 4 ∷ absent ∷ absent ∷ 27 ∷
    5 ∷ 0 ∷ 1 ∷ 28 ∷ absent ∷ absent ∷ 29 ∷
    6 ∷ 0 ∷ 1 ∷ 9 ∷ absent ∷ absent ∷ absent ∷ []

pub a_carried_flag_keeps_its_sort : lowered_words flag_table ≡ flag_graph
unfolding lowering_computes flag_graph
a_carried_flag_keeps_its_sort = refl

-- 'With a CONST 0 for its step' one word of the graph changes
pub changed_row_changes_its_start : lowered_words (sum_by 0) ≡ set sum_graph 9 0
unfolding lowering_computes sum_graph
changed_row_changes_its_start = refl

-- everything that the answers compute with, besides
checking_computes : ℕ
unfolding used_words wanted_sort body_open end_passed visible length_right kind_right zeros_from spare_right field_at codes_from code_right follows stands place_right depth_right names_from names_right types_from types_right end_right row_refusal rows_from table_refusal in_limits fits_into refused_by check_answer lower_refusal lower_answer lent_after
checking_computes = 0

pub sum_table_has_room : check_answer sum_table ≡ answer 0 0
unfolding lowering_computes checking_computes
sum_table_has_room = refl

-- 'the graph's words are no more than are lent': 101 are too few, and the row count is 9; a refusal 'leaves every lent word as it was'
pub one_word_short : lower_answer sum_table 101 ≡ record { number = ROOM; row = 9; written = 0 }
unfolding lowering_computes checking_computes
one_word_short = refl

pub refusal_writes_nothing : lent_after sum_table (replicate 101 7) ≡ replicate 101 7
unfolding lowering_computes checking_computes
refusal_writes_nothing = refl

-- 'leaves the lent words behind it, and answers how many it wrote'
pub two_words_left : lent_after sum_table (replicate 104 7) ≡ sum_graph ++ (7 ∷ 7 ∷ [])
unfolding lowering_computes checking_computes sum_graph
two_words_left = refl

pub length_is_answered : lower_answer sum_table 104 ≡ record { number = 0; row = 0; written = 102 }
unfolding lowering_computes checking_computes
length_is_answered = refl
