-- NOT SO: three sentences on zero steps that are stronger than what holds, each with a table that refutes it.
--
-- It is not so that the node named is always the STREAM of the loop at whose FOR row the reading meets the zero step. The graph does not wait for
-- the reading: a loop around it may have gone on to its next turn and met a zero step further up.
--     index_steps, index_steps_is_checked, index_steps_at_row_4     the reading meets the zero step at row 4
--     the_loop_at_row_3_is_named                                   every order that rests names the STREAM of row 3; index_steps_rests: there is one
--
-- Nor that the node named is of no loop that the reading has left: inside a loop, one that was left may be met again.
--     left_loop, left_loop_is_checked, left_loop_at_row_5           the reading leaves the loop at row 3 and meets the zero step at row 5
--     the_left_loop_is_named                                       every order that rests names the STREAM of row 3; left_loop_rests: there is one
--
-- Nor that every order rests where the reading meets a zero step. A loop further down that takes nothing from it may go on for ever.
--     beside_endless, beside_endless_is_checked, beside_endless_at_row_2     the reading meets the zero step at row 2
--     beside_endless_never_rests                                            no order rests
--
-- Assumes nothing.
use Rattle.std.specs.Prelude.{◌≡◌, refl, true, List, [], ◌∷◌, ◌++◌, ℕ, zero, suc, ◌<◌, length, replicate}
use Rattle.std.proofs.Common.{sym, ap, ◌∙◌, subst, arith, length-append}
use Rattle.word.specs.Words.{condition, update, operate}
use Rattle.step.specs.Kinds
use Rattle.step.specs.Machines
use Rattle.graph.specs.Below.{every_from, total, joined, times}
use Rattle.graph.specs.Graph.{absent, node_at, row_at}
use Rattle.state.specs.Net.{fire, net_of}
use Rattle.state.specs.Load.{loaded, start_word}
use Rattle.state.specs.Run.{Outcome, ZERO-STEP, SPENT, turn, follow, sweep_from, sweeps, finish, run, any_ready, complete, results_full, others_empty, phases_zero, zero_step_at, first_from, outcome}
use Rattle.confluence.specs.Orders.{fires, fires_none, fires_append}
use Rattle.confluence.specs.Statements.{Fires, AtRest, run_of, made_by}
use Rattle.confluence.proofs.Statements.{every_order_rests_alike, none_rests_without_bound, run_counts_firings, run_is_an_order}
use Rattle.table.specs.Rows.{size}
use Rattle.table.specs.Check.{answer, table_refusal}
use Rattle.table.specs.Cases.{const, loop, close, out}
use Rattle.reading.specs.Reading.{opening, zero_step}
use Rattle.reading.specs.Outcome.{Reads}
use Rattle.lowered.specs.Lower.{lowered_words}
use Rattle.lowered.specs.Room.{in_limits, refused_by, check_answer}
use Rattle.lowered.specs.Cases.{lowering_computes}
use Rattle.laid.specs.Answers.{checked_table_lowers}
use Rattle.faithful.specs.Statements.{loaded_table, stream_node}
use Rattle.faithful.specs.NotIdle.{check_computes, reading_computes, checked}

-- everything that a run computes with
run_computes : ℕ
unfolding loaded start_word total joined every_from times node_at row_at Kinds.kind_of fire fires Machines.step turn follow sweep_from sweeps finish run any_ready complete results_full others_empty phases_zero zero_step_at first_from outcome condition update operate
run_computes = 0

-- a run that ends in ZERO STEP rests, and then every order that rests names its node
rests_naming : (t g : List ℕ) (a k : ℕ) → lowered_words t ≡ g → outcome g (run_of g [] (loaded g []) a).state ≡ record { answer = ZERO-STEP; node = k }
    → (order : List ℕ) × (u : List ℕ) × Fires (lowered_words t) order (loaded_table t []) u × AtRest (lowered_words t) u × ((outcome (lowered_words t) u).node ≡ k)
rests_naming t g a k e o =
    subst (λ (z : List ℕ). (order : List ℕ) × (u : List ℕ) × Fires z order (loaded z []) u × AtRest z u × ((outcome z u).node ≡ k)) (sym e)
    (let m = run_is_an_order g [] (loaded g []) a (λ z. let y : ZERO-STEP ≡ SPENT = sym (ap (λ (x : Outcome). x.answer) o) ∙ z in omega arith) in
    (made_by g [] (loaded g []) a, (run_of g [] (loaded g []) a).state, m.0, m.1, ap (λ (x : Outcome). x.node) o))

all_name : (t : List ℕ) (k : ℕ) → (check_answer t).number ≡ 0
    → ((order : List ℕ) × (u : List ℕ) × Fires (lowered_words t) order (loaded_table t []) u × AtRest (lowered_words t) u × ((outcome (lowered_words t) u).node ≡ k))
    → (order u : List ℕ) → Fires (lowered_words t) order (loaded_table t []) u → AtRest (lowered_words t) u → (outcome (lowered_words t) u).node ≡ k
all_name t k c r order u f h =
    let a = every_order_rests_alike (lowered_words t) (checked_table_lowers t c) r.0 (loaded_table t []) r.1 r.2 r.3 order u f in
    ap (λ (x : List ℕ). (outcome (lowered_words t) x).node) (a.same_words h) ∙ r.4

-- ---- another loop is named
-- CONST 1, CONST 0, FOR 0 0 1 -= >=, FOR 0 2 1 -= >=, FOR 0 3 0 += <, END, END, END, OUT 0: three loops, one in the other; the indexes of the outer two
-- are 1 and 0, and each is the step of the loop in it. In the outer loop's first turn the middle loop comes to its second, and the inner one has step 0. The
-- machines of the outer two have nothing to wait for: in the outer loop's second turn the middle one has step 0.

abbrev pub index_steps : List ℕ
index_steps = const 1 (const 0 (loop 0 0 1 1 3 (loop 0 2 1 1 3 (loop 0 3 0 0 0 (close (close (close (out 0))))))))

index_steps_passes : table_refusal index_steps ≡ answer 0 0
unfolding check_computes
index_steps_passes = refl

index_steps_has_room : in_limits index_steps ≡ true
unfolding in_limits lowering_computes
index_steps_has_room = refl

pub index_steps_is_checked : (check_answer index_steps).number ≡ 0
unfolding check_answer refused_by
index_steps_is_checked = checked (size index_steps) (table_refusal index_steps) (in_limits index_steps) index_steps_passes index_steps_has_room

pub index_steps_at_row_4 : Reads index_steps [] (zero_step 4 (opening 2 1 ∷ opening 3 2 ∷ opening 4 0 ∷ []))
unfolding reading_computes
index_steps_at_row_4 = record { steps = 20; comes = refl }

unfoldable index_graph : List ℕ
index_graph =
    35 ∷ 54 ∷ 2 ∷ 1 ∷
    1 ∷ 1 ∷
    1 ∷ 0 ∷
    33 ∷
    0 ∷ 8 ∷ 0 ∷ 26 ∷ 28 ∷ 34 ∷ 2 ∷
    1 ∷ 0 ∷ 0 ∷ 2 ∷ 3 ∷ absent ∷ 4 ∷
    7 ∷ 6 ∷ 0 ∷ 30 ∷ 36 ∷ absent ∷ 6 ∷
    4 ∷ 0 ∷ 0 ∷ 40 ∷ 32 ∷ absent ∷ 7 ∷
    3 ∷ 0 ∷ 0 ∷ 38 ∷ 7 ∷ absent ∷ 9 ∷
    4 ∷ 0 ∷ 0 ∷ 41 ∷ 37 ∷ absent ∷ 10 ∷
    3 ∷ 0 ∷ 0 ∷ 39 ∷ 10 ∷ absent ∷ 12 ∷
    0 ∷ 8 ∷ 0 ∷ 42 ∷ 4 ∷ 46 ∷ 13 ∷
    1 ∷ 0 ∷ 0 ∷ 13 ∷ 14 ∷ absent ∷ 15 ∷
    7 ∷ 6 ∷ 0 ∷ 44 ∷ 47 ∷ absent ∷ 17 ∷
    4 ∷ 0 ∷ 0 ∷ 17 ∷ 45 ∷ absent ∷ 18 ∷
    3 ∷ 0 ∷ 0 ∷ 16 ∷ 18 ∷ absent ∷ 20 ∷
    0 ∷ 0 ∷ 0 ∷ 48 ∷ 15 ∷ 50 ∷ 21 ∷
    1 ∷ 0 ∷ 0 ∷ 21 ∷ 22 ∷ absent ∷ 23 ∷
    7 ∷ 3 ∷ 0 ∷ 52 ∷ 53 ∷ absent ∷ 25 ∷
    5 ∷ 0 ∷ 0 ∷ 0 ∷ absent ∷ absent ∷ 26 ∷
    5 ∷ 0 ∷ 0 ∷ 27 ∷ absent ∷ absent ∷ 28 ∷
    5 ∷ 0 ∷ 0 ∷ 29 ∷ absent ∷ absent ∷ 30 ∷
    5 ∷ 0 ∷ 0 ∷ 31 ∷ absent ∷ absent ∷ 32 ∷
    5 ∷ 0 ∷ 0 ∷ 1 ∷ absent ∷ absent ∷ 34 ∷
    5 ∷ 0 ∷ 0 ∷ 35 ∷ absent ∷ absent ∷ 36 ∷
    5 ∷ 0 ∷ 1 ∷ 5 ∷ absent ∷ absent ∷ 38 ∷
    5 ∷ 0 ∷ 1 ∷ 6 ∷ absent ∷ absent ∷ 40 ∷
    6 ∷ 0 ∷ 0 ∷ 8 ∷ absent ∷ absent ∷ absent ∷
    5 ∷ 0 ∷ 0 ∷ 9 ∷ absent ∷ absent ∷ 42 ∷
    5 ∷ 0 ∷ 0 ∷ 43 ∷ absent ∷ absent ∷ 44 ∷
    6 ∷ 0 ∷ 0 ∷ 11 ∷ absent ∷ absent ∷ absent ∷
    5 ∷ 0 ∷ 0 ∷ 12 ∷ absent ∷ absent ∷ 46 ∷
    6 ∷ 0 ∷ 0 ∷ 19 ∷ absent ∷ absent ∷ absent ∷
    5 ∷ 0 ∷ 0 ∷ 20 ∷ absent ∷ absent ∷ 48 ∷
    5 ∷ 0 ∷ 0 ∷ 49 ∷ absent ∷ absent ∷ 50 ∷
    5 ∷ 0 ∷ 0 ∷ 51 ∷ absent ∷ absent ∷ 52 ∷
    6 ∷ 0 ∷ 0 ∷ 23 ∷ absent ∷ absent ∷ absent ∷
    6 ∷ 0 ∷ 1 ∷ 24 ∷ absent ∷ absent ∷ absent ∷
    6 ∷ 0 ∷ 1 ∷ 25 ∷ absent ∷ absent ∷ absent ∷ []

index_steps_lowers : lowered_words index_steps ≡ index_graph
unfolding lowering_computes index_graph
index_steps_lowers = refl

index_steps_ends : outcome index_graph (run_of index_graph [] (loaded index_graph []) 59).state ≡ record { answer = ZERO-STEP; node = 7 }
unfolding index_graph run_computes
index_steps_ends = refl

-- the STREAMs of the two loops
pub the_two_streams : (stream_node index_steps 3 ≡ 7) × (stream_node index_steps 4 ≡ 12)
unfolding lowering_computes
the_two_streams = (refl, refl)

pub index_steps_rests : (order : List ℕ) × (u : List ℕ) × Fires (lowered_words index_steps) order (loaded_table index_steps []) u × AtRest (lowered_words index_steps) u × ((outcome (lowered_words index_steps) u).node ≡ 7)
index_steps_rests = rests_naming index_steps index_graph 59 7 index_steps_lowers index_steps_ends

pub the_loop_at_row_3_is_named : (order u : List ℕ) → Fires (lowered_words index_steps) order (loaded_table index_steps []) u → AtRest (lowered_words index_steps) u
    → (outcome (lowered_words index_steps) u).node ≡ stream_node index_steps 3
the_loop_at_row_3_is_named order u f h = all_name index_steps 7 index_steps_is_checked index_steps_rests order u f h ∙ sym the_two_streams.0

-- ---- a loop that the reading has left is named
-- CONST 1, CONST 0, FOR 0 0 1 -= >=, FOR 1 2 0 += <, END, FOR 1 1 0 += <, END, END, OUT 0: two loops side by side in a third. In the outer loop's first turn
-- the loop at row 3 has step 1 and is left; the one at row 5 has step 0, and there the reading stops. The machines of the other two go on: in the outer
-- loop's second turn, its index 0, the loop at row 3 has step 0 too.

abbrev pub left_loop : List ℕ
left_loop = const 1 (const 0 (loop 0 0 1 1 3 (loop 1 2 0 0 0 (close (loop 1 1 0 0 0 (close (close (out 0))))))))

left_loop_passes : table_refusal left_loop ≡ answer 0 0
unfolding check_computes
left_loop_passes = refl

left_loop_has_room : in_limits left_loop ≡ true
unfolding in_limits lowering_computes
left_loop_has_room = refl

pub left_loop_is_checked : (check_answer left_loop).number ≡ 0
unfolding check_answer refused_by
left_loop_is_checked = checked (size left_loop) (table_refusal left_loop) (in_limits left_loop) left_loop_passes left_loop_has_room

-- one turn at row 3, and it is left before row 5
pub left_loop_at_row_5 : Reads left_loop [] (zero_step 5 (opening 2 1 ∷ opening 3 1 ∷ []))
unfolding reading_computes
left_loop_at_row_5 = record { steps = 20; comes = refl }

unfoldable left_graph : List ℕ
left_graph =
    36 ∷ 53 ∷ 2 ∷ 1 ∷
    1 ∷ 1 ∷
    1 ∷ 0 ∷
    30 ∷
    0 ∷ 8 ∷ 0 ∷ 23 ∷ 25 ∷ 31 ∷ 2 ∷
    1 ∷ 0 ∷ 0 ∷ 2 ∷ 3 ∷ absent ∷ 4 ∷
    7 ∷ 6 ∷ 0 ∷ 27 ∷ 33 ∷ absent ∷ 6 ∷
    4 ∷ 0 ∷ 0 ∷ 37 ∷ 29 ∷ absent ∷ 7 ∷
    3 ∷ 0 ∷ 0 ∷ 35 ∷ 7 ∷ absent ∷ 9 ∷
    4 ∷ 0 ∷ 0 ∷ 38 ∷ 34 ∷ absent ∷ 10 ∷
    3 ∷ 0 ∷ 0 ∷ 36 ∷ 10 ∷ absent ∷ 12 ∷
    0 ∷ 0 ∷ 0 ∷ 45 ∷ 4 ∷ 39 ∷ 13 ∷
    1 ∷ 0 ∷ 0 ∷ 13 ∷ 14 ∷ absent ∷ 15 ∷
    7 ∷ 3 ∷ 0 ∷ 47 ∷ 41 ∷ absent ∷ 17 ∷
    0 ∷ 0 ∷ 0 ∷ 49 ∷ 51 ∷ 43 ∷ 18 ∷
    1 ∷ 0 ∷ 0 ∷ 18 ∷ 19 ∷ absent ∷ 20 ∷
    7 ∷ 3 ∷ 0 ∷ 52 ∷ 44 ∷ absent ∷ 22 ∷
    5 ∷ 0 ∷ 0 ∷ 0 ∷ absent ∷ absent ∷ 23 ∷
    5 ∷ 0 ∷ 0 ∷ 24 ∷ absent ∷ absent ∷ 25 ∷
    5 ∷ 0 ∷ 0 ∷ 26 ∷ absent ∷ absent ∷ 27 ∷
    5 ∷ 0 ∷ 0 ∷ 28 ∷ absent ∷ absent ∷ 29 ∷
    5 ∷ 0 ∷ 0 ∷ 1 ∷ absent ∷ absent ∷ 31 ∷
    5 ∷ 0 ∷ 0 ∷ 32 ∷ absent ∷ absent ∷ 33 ∷
    5 ∷ 0 ∷ 1 ∷ 5 ∷ absent ∷ absent ∷ 35 ∷
    5 ∷ 0 ∷ 1 ∷ 6 ∷ absent ∷ absent ∷ 37 ∷
    6 ∷ 0 ∷ 0 ∷ 8 ∷ absent ∷ absent ∷ absent ∷
    5 ∷ 0 ∷ 0 ∷ 9 ∷ absent ∷ absent ∷ 39 ∷
    5 ∷ 0 ∷ 0 ∷ 40 ∷ absent ∷ absent ∷ 41 ∷
    5 ∷ 0 ∷ 0 ∷ 42 ∷ absent ∷ absent ∷ 43 ∷
    6 ∷ 0 ∷ 0 ∷ 11 ∷ absent ∷ absent ∷ absent ∷
    5 ∷ 0 ∷ 0 ∷ 12 ∷ absent ∷ absent ∷ 45 ∷
    5 ∷ 0 ∷ 0 ∷ 46 ∷ absent ∷ absent ∷ 47 ∷
    5 ∷ 0 ∷ 0 ∷ 48 ∷ absent ∷ absent ∷ 49 ∷
    5 ∷ 0 ∷ 0 ∷ 50 ∷ absent ∷ absent ∷ 51 ∷
    6 ∷ 0 ∷ 0 ∷ 15 ∷ absent ∷ absent ∷ absent ∷
    6 ∷ 0 ∷ 1 ∷ 16 ∷ absent ∷ absent ∷ absent ∷
    6 ∷ 0 ∷ 1 ∷ 17 ∷ absent ∷ absent ∷ absent ∷
    6 ∷ 0 ∷ 0 ∷ 20 ∷ absent ∷ absent ∷ absent ∷
    6 ∷ 0 ∷ 1 ∷ 21 ∷ absent ∷ absent ∷ absent ∷
    6 ∷ 0 ∷ 1 ∷ 22 ∷ absent ∷ absent ∷ absent ∷ []

left_loop_lowers : lowered_words left_loop ≡ left_graph
unfolding lowering_computes left_graph
left_loop_lowers = refl

left_loop_ends : outcome left_graph (run_of left_graph [] (loaded left_graph []) 49).state ≡ record { answer = ZERO-STEP; node = 7 }
unfolding left_graph run_computes
left_loop_ends = refl

pub left_loop_rests : (order : List ℕ) × (u : List ℕ) × Fires (lowered_words left_loop) order (loaded_table left_loop []) u × AtRest (lowered_words left_loop) u × ((outcome (lowered_words left_loop) u).node ≡ 7)
left_loop_rests = rests_naming left_loop left_graph 49 7 left_loop_lowers left_loop_ends

left_loop_stream : stream_node left_loop 3 ≡ 7
unfolding lowering_computes
left_loop_stream = refl

pub the_left_loop_is_named : (order u : List ℕ) → Fires (lowered_words left_loop) order (loaded_table left_loop []) u → AtRest (lowered_words left_loop) u
    → (outcome (lowered_words left_loop) u).node ≡ stream_node left_loop 3
the_left_loop_is_named order u f h = all_name left_loop 7 left_loop_is_checked left_loop_rests order u f h ∙ sym left_loop_stream

-- ---- no order rests
-- CONST 0, CONST 1, FOR 0 0 0 += <, END, FOR 0 1 0 *= <=, END, OUT 0. The step at row 2 is 0; the index of the loop at row 4 stays 0.

abbrev pub beside_endless : List ℕ
beside_endless = const 0 (const 1 (loop 0 0 0 0 0 (close (loop 0 1 0 2 1 (close (out 0))))))

beside_endless_passes : table_refusal beside_endless ≡ answer 0 0
unfolding check_computes
beside_endless_passes = refl

beside_endless_has_room : in_limits beside_endless ≡ true
unfolding in_limits lowering_computes
beside_endless_has_room = refl

pub beside_endless_is_checked : (check_answer beside_endless).number ≡ 0
unfolding check_answer refused_by
beside_endless_is_checked = checked (size beside_endless) (table_refusal beside_endless) (in_limits beside_endless) beside_endless_passes beside_endless_has_room

pub beside_endless_at_row_2 : Reads beside_endless [] (zero_step 2 [])
unfolding reading_computes
beside_endless_at_row_2 = record { steps = 20; comes = refl }

unfoldable beside_graph : List ℕ
beside_graph =
    21 ∷ 30 ∷ 2 ∷ 1 ∷
    1 ∷ 0 ∷
    1 ∷ 1 ∷
    29 ∷
    0 ∷ 0 ∷ 0 ∷ 12 ∷ 14 ∷ 16 ∷ 2 ∷
    1 ∷ 0 ∷ 0 ∷ 2 ∷ 3 ∷ absent ∷ 4 ∷
    7 ∷ 3 ∷ 0 ∷ 18 ∷ 20 ∷ absent ∷ 6 ∷
    0 ∷ 11 ∷ 0 ∷ 22 ∷ 1 ∷ 24 ∷ 7 ∷
    1 ∷ 0 ∷ 0 ∷ 7 ∷ 8 ∷ absent ∷ 9 ∷
    7 ∷ 4 ∷ 0 ∷ 26 ∷ 28 ∷ absent ∷ 11 ∷
    5 ∷ 0 ∷ 0 ∷ 0 ∷ absent ∷ absent ∷ 12 ∷
    5 ∷ 0 ∷ 0 ∷ 13 ∷ absent ∷ absent ∷ 14 ∷
    5 ∷ 0 ∷ 0 ∷ 15 ∷ absent ∷ absent ∷ 16 ∷
    5 ∷ 0 ∷ 0 ∷ 17 ∷ absent ∷ absent ∷ 18 ∷
    5 ∷ 0 ∷ 0 ∷ 19 ∷ absent ∷ absent ∷ 20 ∷
    5 ∷ 0 ∷ 0 ∷ 21 ∷ absent ∷ absent ∷ 22 ∷
    5 ∷ 0 ∷ 0 ∷ 23 ∷ absent ∷ absent ∷ 24 ∷
    5 ∷ 0 ∷ 0 ∷ 25 ∷ absent ∷ absent ∷ 26 ∷
    5 ∷ 0 ∷ 0 ∷ 27 ∷ absent ∷ absent ∷ 28 ∷
    6 ∷ 0 ∷ 0 ∷ 4 ∷ absent ∷ absent ∷ absent ∷
    6 ∷ 0 ∷ 1 ∷ 5 ∷ absent ∷ absent ∷ absent ∷
    6 ∷ 0 ∷ 1 ∷ 6 ∷ absent ∷ absent ∷ absent ∷
    6 ∷ 0 ∷ 0 ∷ 9 ∷ absent ∷ absent ∷ absent ∷
    6 ∷ 0 ∷ 1 ∷ 10 ∷ absent ∷ absent ∷ absent ∷
    6 ∷ 0 ∷ 1 ∷ 11 ∷ absent ∷ absent ∷ absent ∷ []

beside_lowers : lowered_words beside_endless ≡ beside_graph
unfolding lowering_computes beside_graph
beside_lowers = refl

-- after 17 firings a round of four leads back to the same words: the STREAM and the GATE of row 4, and their two DRAINs
abbrev round : List ℕ
round = 3 ∷ 4 ∷ 18 ∷ 19 ∷ []

-- there the STREAM of row 2 has its three tokens, the result has its word, and the STREAM and the GATE of row 4 are in phase 1
abbrev turning : List ℕ
turning =
    replicate 24 0
    ++ (1 ∷ 0 ∷ 0 ∷ 0 ∷ 1 ∷ 0 ∷ 0 ∷ 0 ∷ 1 ∷ 0 ∷ (replicate 24 0 ++ (1 ∷ 0 ∷ (replicate 12 0 ++ (1 ∷ 0 ∷ 1 ∷ 0 ∷ 1 ∷ 0 ∷ 0 ∷ 0 ∷ replicate 64 0)))))

comes_to_turning : (run_of beside_graph [] (loaded beside_graph []) 17).state ≡ turning
unfolding beside_graph run_computes
comes_to_turning = refl

round_returns : Fires beside_graph round turning turning
unfolding beside_graph run_computes
round_returns = refl

-- so many rounds
abbrev rounds : ℕ → List ℕ
rounds zero = []
rounds (suc n) = round ++ rounds n

rounds_return : (n : ℕ) → (Fires beside_graph (rounds n) turning turning) × (n < suc (length (rounds n)))
rounds_return zero = (fires_none (fire (net_of beside_graph)) turning, omega arith)
rounds_return (suc n) = let r = rounds_return n in let l = r.1 in let a = length-append round (rounds n) in (fires_append (fire (net_of beside_graph)) round (rounds n) turning turning turning round_returns r.0, omega arith)

pub beside_endless_never_rests : (order u : List ℕ) → Fires (lowered_words beside_endless) order (loaded_table beside_endless []) u → AtRest (lowered_words beside_endless) u → ⊥
beside_endless_never_rests order u = none_rests_without_bound (lowered_words beside_endless) (checked_table_lowers beside_endless beside_endless_is_checked) (loaded_table beside_endless []) longer order u
  where
    longer : (F : ℕ) → (order : List ℕ) × (t : List ℕ) × Fires (lowered_words beside_endless) order (loaded_table beside_endless []) t × (F < length order)
    longer F =
        subst (λ (g : List ℕ). (order : List ℕ) × (t : List ℕ) × Fires g order (loaded g []) t × (F < length order)) (sym beside_lowers)
        (let x = subst (λ (u : List ℕ). Fires beside_graph (made_by beside_graph [] (loaded beside_graph []) 17) (loaded beside_graph []) u) comes_to_turning (run_counts_firings beside_graph [] (loaded beside_graph []) 17).0 in
        let r = rounds_return (suc F) in
        let l = length-append (made_by beside_graph [] (loaded beside_graph []) 17) (rounds (suc F)) in
        let m = r.1 in (
          made_by beside_graph [] (loaded beside_graph []) 17 ++ rounds (suc F),
          turning,
          fires_append (fire (net_of beside_graph)) (made_by beside_graph [] (loaded beside_graph []) 17) (rounds (suc F)) (loaded beside_graph []) turning turning x r.0,
          omega arith,
        ))
