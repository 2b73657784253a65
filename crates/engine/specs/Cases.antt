-- Calls of read_plain on the register's tables, computed.
-- Main results: `five_turns_end` and what fewer turns leave, `no_turn_ends`, `zero_step_is_told`, `four_openings_end`, `args_change_places`, zero steps behind and inside a turn,
-- and refusals 1, 5, 10 and 16.
-- Assumes nothing.
use Rattle.std.specs.Prelude.{ℕ, refl, [], ◌∷◌}
use Rattle.word.specs.Words.{condition, update, operate}
use Rattle.table.specs.Rows.{field_at, used_words, operand_count, first_operand, sort_of, wanted_sort}
use Rattle.table.specs.Counted.{rows_of}
use Rattle.table.specs.Scan.{after, stack_at, body_of, read_stack, reads, home_by, home, body_open, end_passed, visible}
use Rattle.table.specs.Check.{length_right, kind_right, zeros_from, spare_right, codes_from, code_right, follows, stands, place_right, depth_right, names_from, names_right, types_from, types_right, end_right, row_refusal, rows_from, table_refusal}
use Rattle.table.specs.Bodies.{row_by, row_at, ends, end_from, end_of, args_from, args_of, first_of, is_arg, is_next, arg_of, next_of}
use Rattle.table.specs.Cases.{row6, input, const, loop, arg, next, close, out, sum_table, sum_by, p12_table}
use Rattle.reading.specs.Reading.{first_words, begin, results_from, turn, leave, step}
use Rattle.reading.specs.Within.{turns_made, read_within}
use Rattle.engine.specs.Answers.{plain_refusal, plain_within, plain_answer, plain_lent, PlainAnswer}
use Rattle.engine.specs.Plain.{Refused, Ended, ZeroStep, Spent}

-- everything that an answer computes with
plain_computes : ℕ
unfolding condition update operate used_words operand_count first_operand sort_of wanted_sort after stack_at body_of read_stack reads home_by home body_open end_passed visible length_right kind_right zeros_from spare_right field_at codes_from code_right follows stands place_right depth_right names_from names_right types_from types_right end_right row_refusal rows_from table_refusal row_by row_at ends end_from end_of args_from args_of first_of is_arg is_next arg_of next_of rows_of first_words begin results_from turn leave step turns_made read_within plain_refusal plain_within plain_answer plain_lent
plain_computes = 0

-- P10: five turns, 10 in the first of two lent words, and the second stays
pub five_turns_end : PlainAnswer sum_table (5 ∷ []) (7 ∷ 9 ∷ []) 5 (Ended 5) (10 ∷ 9 ∷ [])
unfolding plain_computes
five_turns_end = record { answer = refl; lent_words = refl }

pub more_than_five_end : PlainAnswer sum_table (5 ∷ []) (7 ∷ 9 ∷ []) 8 (Ended 5) (10 ∷ 9 ∷ [])
unfolding plain_computes
more_than_five_end = record { answer = refl; lent_words = refl }

-- with an allowance of 4 it is spent, and both words stay
pub four_turns_are_spent : PlainAnswer sum_table (5 ∷ []) (7 ∷ 9 ∷ []) 4 (Spent 4) (7 ∷ 9 ∷ [])
unfolding plain_computes
four_turns_are_spent = record { answer = refl; lent_words = refl }

pub none_allowed_is_spent : PlainAnswer sum_table (5 ∷ []) (7 ∷ []) 0 (Spent 0) (7 ∷ [])
unfolding plain_computes
none_allowed_is_spent = record { answer = refl; lent_words = refl }

-- P11: a loop of no turns costs no allowance
pub no_turn_ends : PlainAnswer sum_table (0 ∷ []) (7 ∷ []) 0 (Ended 0) (0 ∷ [])
unfolding plain_computes
no_turn_ends = record { answer = refl; lent_words = refl }

-- 'With a CONST 0 for its step' the reading meets it at row 3, before any turn
pub zero_step_is_told : PlainAnswer (sum_by 0) (5 ∷ []) (7 ∷ []) 0 (ZeroStep 3 0) (7 ∷ [])
unfolding plain_computes
zero_step_is_told = record { answer = refl; lent_words = refl }

-- P12: three turns outside, and 0, 1 and 2 inside
pub four_openings_end : PlainAnswer p12_table [] (7 ∷ []) 6 (Ended 6) (5 ∷ [])
unfolding plain_computes
four_openings_end = record { answer = refl; lent_words = refl }

pub five_of_six_are_spent : PlainAnswer p12_table [] (7 ∷ []) 5 (Spent 5) (7 ∷ [])
unfolding plain_computes
five_of_six_are_spent = record { answer = refl; lent_words = refl }

-- a table without a loop
pub a_word_passes : PlainAnswer (input (out 0)) (5 ∷ []) (7 ∷ 8 ∷ 9 ∷ []) 0 (Ended 0) (5 ∷ 8 ∷ 9 ∷ [])
unfolding plain_computes
a_word_passes = record { answer = refl; lent_words = refl }

-- a turn before the zero step of a loop behind it: INPUT, CONST 0, CONST 1, FOR 1 2 2 0 0, END, FOR 1 1 2 0 0, END, OUT 0
pub zero_step_behind_a_turn : PlainAnswer (input (const 0 (const 1 (loop 1 2 2 0 0 (close (loop 1 1 2 0 0 (close (out 0)))))))) (5 ∷ []) (7 ∷ []) 1 (ZeroStep 5 1) (7 ∷ [])
unfolding plain_computes
zero_step_behind_a_turn = record { answer = refl; lent_words = refl }

-- and spent before it
pub spent_before_the_zero_step : PlainAnswer (input (const 0 (const 1 (loop 1 2 2 0 0 (close (loop 1 1 2 0 0 (close (out 0)))))))) (5 ∷ []) (7 ∷ []) 0 (Spent 0) (7 ∷ [])
unfolding plain_computes
spent_before_the_zero_step = record { answer = refl; lent_words = refl }

-- A zero step inside a turn: INPUT, CONST 0, CONST 1, FOR 1 2 2 0 0, FOR 1 1 2 0 0, END, END, OUT 0. The turn counts when it starts: with one allowed it is
-- told, and with none allowed the turn itself is not made.
pub zero_step_inside_a_turn : PlainAnswer (input (const 0 (const 1 (loop 1 2 2 0 0 (loop 1 1 2 0 0 (close (close (out 0)))))))) (5 ∷ []) (7 ∷ []) 1 (ZeroStep 4 1) (7 ∷ [])
unfolding plain_computes
zero_step_inside_a_turn = record { answer = refl; lent_words = refl }

pub spent_before_that_turn : PlainAnswer (input (const 0 (const 1 (loop 1 2 2 0 0 (loop 1 1 2 0 0 (close (close (out 0)))))))) (5 ∷ []) (7 ∷ []) 0 (Spent 0) (7 ∷ [])
unfolding plain_computes
spent_before_that_turn = record { answer = refl; lent_words = refl }

-- two ARGs change places three times, and two OUTs have a word each
pub args_change_places : PlainAnswer (const 0 (const 1 (const 3 (loop 0 1 2 0 0 (arg 0 (arg 1 (next 5 (next 4 (close (row6 8 6 0 0 0 0 (out 7))))))))))) [] (7 ∷ 8 ∷ 9 ∷ []) 3 (Ended 3) (1 ∷ 0 ∷ 9 ∷ [])
unfolding plain_computes
args_change_places = record { answer = refl; lent_words = refl }

-- 16 INPUTS: one word too few, one too many
pub no_input_word : PlainAnswer sum_table [] (7 ∷ []) 5 (Refused 16 0) (7 ∷ [])
unfolding plain_computes
no_input_word = record { answer = refl; lent_words = refl }

pub two_input_words : PlainAnswer sum_table (5 ∷ 5 ∷ []) (7 ∷ []) 5 (Refused 16 0) (7 ∷ [])
unfolding plain_computes
two_input_words = record { answer = refl; lent_words = refl }

-- 10 ROOM, with the row count: no lent word for the one OUT row
pub no_lent_word : PlainAnswer sum_table (5 ∷ []) [] 5 (Refused 10 9) []
unfolding plain_computes
no_lent_word = record { answer = refl; lent_words = refl }

-- 16 comes before 10
pub inputs_before_room : PlainAnswer sum_table [] [] 5 (Refused 16 0) []
unfolding plain_computes
inputs_before_room = record { answer = refl; lent_words = refl }

-- and a refusal of the rows before both, with its row
pub rows_before_inputs : PlainAnswer (const 1 (arg 0 (out 0))) (5 ∷ []) [] 5 (Refused 5 1) []
unfolding plain_computes
rows_before_inputs = record { answer = refl; lent_words = refl }

pub no_rows_are_refused : PlainAnswer [] [] (7 ∷ []) 5 (Refused 1 0) (7 ∷ [])
unfolding plain_computes
no_rows_are_refused = record { answer = refl; lent_words = refl }
