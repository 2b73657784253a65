-- None of this is idle: the register's tables pass the check, their readings end, and the theorems speak of their graphs (proofs/NotIdle).
--
--   the_sum_of_five_means_ten         P10: every order that rests leaves 10, and five ones and a zero have passed
--   the_end_of_five                   all words of the state that it leaves
--   no_turn_leaves_nothing            P11: every order that rests leaves 0; one zero has passed raw, nothing gated, and nothing stays behind
--   the_inner_loop_opens_anew         P12: the result is 5; the inner loop's openings have 0, 1 and 2 turns
--   a_zero_step_is_answered           the sum table with step 0: every order that rests answers ZERO STEP at node 0
--   an_endless_loop_never_rests       a loop that goes on while its index is at most 0, and it stays 0: no order rests
--
-- Assumes nothing.
use Rattle.std.specs.Prelude.{◌≡◌, refl, Bool, true, cond, List, [], ◌∷◌, ◌++◌, ℕ, zero, suc, eqb, replicate}
use Rattle.std.proofs.Common.{ap₂, arith}
use Rattle.std.proofs.Math.Option.{none, some}
use Rattle.word.specs.Words.{condition, update}
use Rattle.graph.specs.Below.{joined}
use Rattle.graph.specs.Graph.{result_at}
use Rattle.graph.specs.SumGraph.{sum_graph}
use Rattle.state.specs.State.{token_at}
use Rattle.state.specs.Run.{COMPLETE, outcome}
use Rattle.confluence.specs.Statements.{put_on_wire}
use Rattle.table.specs.Rows.{size, field_at, used_words, operand_count, first_operand, sort_of, wanted_sort}
use Rattle.table.specs.Counted.{rows_of}
use Rattle.table.specs.Scan.{after, stack_at, body_of, read_stack, reads, home_by, home, body_open, end_passed, visible}
use Rattle.table.specs.Check.{Refusal, answer, table_refusal, length_right, kind_right, zeros_from, spare_right, codes_from, code_right, follows, stands, place_right, depth_right, names_from, names_right, types_from, types_right, end_right, row_refusal, rows_from}
use Rattle.table.specs.Bodies.{row_by, row_at, ends, end_from, end_of, args_from, args_of, first_of, is_arg, is_next, arg_of, next_of}
use Rattle.table.specs.Cases.{const, loop, arg, next, close, out, sum_table, sum_by, p12_table, sum_passes, p12_passes}
use Rattle.reading.specs.Reading.{Env, Opening, at, next_named, one_turn, end_step, first_words, begin, turn, leave, step, and_then, read_from, read}
use Rattle.lowered.specs.Lower.{lowered_words}
use Rattle.lowered.specs.Room.{ROOM, in_limits, refused_by, check_answer}
use Rattle.lowered.specs.Cases.{lowering_computes}
use Rattle.faithful.specs.EndState.{end_state}
use Rattle.faithful.specs.Statements.{loaded_table, stream_node, raw_wire, gated_wire}

-- everything that a refusal computes with, and everything that a reading does
unfoldable pub check_computes : ℕ
unfolding used_words operand_count first_operand sort_of wanted_sort after stack_at body_of read_stack reads home_by home body_open end_passed visible length_right kind_right zeros_from spare_right field_at codes_from code_right follows stands place_right depth_right names_from names_right types_from types_right end_right row_refusal rows_from table_refusal
check_computes = 0

unfoldable pub reading_computes : ℕ
unfolding condition update after stack_at body_of row_by row_at ends end_from end_of args_from args_of first_of is_arg is_next arg_of next_of rows_of first_words begin turn leave step read_from read
reading_computes = 0

-- a table that passes 1 to 9 and has room is checked
pub checked : (n : ℕ) (R : Refusal) (b : Bool) → R ≡ answer 0 0 → b ≡ true → (cond (eqb R.number 0) (cond b (answer 0 0) (answer ROOM n)) R).number ≡ 0
checked n R b h k = rw (h, k)

sum_has_room : in_limits sum_table ≡ true
unfolding in_limits lowering_computes
sum_has_room = refl

pub sum_is_checked : (check_answer sum_table).number ≡ 0
unfolding check_answer refused_by
sum_is_checked = checked (size sum_table) (table_refusal sum_table) (in_limits sum_table) sum_passes sum_has_room

p12_has_room : in_limits p12_table ≡ true
unfolding in_limits lowering_computes
p12_has_room = refl

pub p12_is_checked : (check_answer p12_table).number ≡ 0
unfolding check_answer refused_by
p12_is_checked = checked (size p12_table) (table_refusal p12_table) (in_limits p12_table) p12_passes p12_has_room

-- what an order that rests leaves on the result wire, and has put on the conditions of the loop at row L
pub record Leaves (t inputs : List ℕ) (L word : ℕ) (raw gated : List ℕ) (order u : List ℕ) : Type 0 where
  pub leaves : token_at u (result_at (lowered_words t) 0) ≡ some word
  pub told_raw : put_on_wire (lowered_words t) order (loaded_table t inputs) (raw_wire t L) ≡ raw
  pub told_gated : put_on_wire (lowered_words t) order (loaded_table t inputs) (gated_wire t L) ≡ gated
  pub completes : (outcome (lowered_words t) u).answer ≡ COMPLETE

-- 22 wires and 13 nodes: 44 words and 52
pub five_listed : end_state sum_graph (10 ∷ []) ≡ replicate 20 0 ++ (1 ∷ 10 ∷ replicate 74 0)
unfolding end_state joined sum_graph
five_listed = refl

-- the sum table with step 0
zero_passes : table_refusal (sum_by 0) ≡ answer 0 0
unfolding check_computes
zero_passes = refl

zero_has_room : in_limits (sum_by 0) ≡ true
unfolding in_limits lowering_computes
zero_has_room = refl

pub zero_is_checked : (check_answer (sum_by 0)).number ≡ 0
unfolding check_answer refused_by
zero_is_checked = checked (size (sum_by 0)) (table_refusal (sum_by 0)) (in_limits (sum_by 0)) zero_passes zero_has_room

pub zero_outermost : (body_of (sum_by 0) 3 ≡ size (sum_by 0)) × (stream_node (sum_by 0) 3 ≡ 0)
unfolding lowering_computes
zero_outermost = (refl, refl)

-- ---- a loop for ever: the index starts at 0, is multiplied by 1, and 0 <= 0

abbrev pub stay_table : List ℕ
stay_table = const 0 (const 1 (loop 0 1 0 2 1 (arg 0 (next 3 (close (out 4))))))

stay_passes : table_refusal stay_table ≡ answer 0 0
unfolding check_computes
stay_passes = refl

stay_has_room : in_limits stay_table ≡ true
unfolding in_limits lowering_computes
stay_has_room = refl

pub stay_is_checked : (check_answer stay_table).number ≡ 0
unfolding check_answer refused_by
stay_is_checked = checked (size stay_table) (table_refusal stay_table) (in_limits stay_table) stay_passes stay_has_room

-- at NEXT and at END, in whatever turn
in_the_body : (k : ℕ) (env : Env) (os : List Opening) → env 0 ≡ 0 → env 1 ≡ 1 → env 2 ≡ 0
    → (read_from k stay_table (at 4 env os) ≡ none) × (read_from k stay_table (at 5 env os) ≡ none)
unfolding reading_computes
in_the_body zero env os a b c = (refl, refl)
in_the_body (suc k) env os a b c =
    let x : update 2 (env 2) (env 1) ≡ 0 = ap₂ (update 2) c b in
    ((in_the_body k env os a b c).1, again (λ e. in_the_body k e (one_turn 2 os)) (update 2 (env 2) (env 1)) (condition 1 (update 2 (env 2) (env 1)) (env 0)) x (ap₂ (condition 1) x a))
  where
    again : ((e : Env) → e 0 ≡ 0 → e 1 ≡ 1 → e 2 ≡ 0 → (read_from k stay_table (at 4 e (one_turn 2 os)) ≡ none) × (read_from k stay_table (at 5 e (one_turn 2 os)) ≡ none))
        → (x y : ℕ) → x ≡ 0 → y ≡ 1 → and_then (end_step stay_table 2 5 x env os y) (λ s. read_from k stay_table s) ≡ none
    again later x zero ex ey = absurd (omega arith)
    again later x (suc y) ex ey = (later (turn stay_table 2 x (next_named stay_table env) env) a b ex).0

pub stay_reads_for_ever : (k : ℕ) → read k stay_table [] ≡ none
unfolding reading_computes
stay_reads_for_ever zero = refl
stay_reads_for_ever (suc zero) = refl
stay_reads_for_ever (suc (suc zero)) = refl
stay_reads_for_ever (suc (suc (suc k))) = (in_the_body k _ _ refl refl refl).0
