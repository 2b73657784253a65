-- The register's tables read: P10, P11, the zero step, P12.
-- Main results: `p10_reads_10`, `p11_reads_0`, `zero_step_at_row_3`, `p12_reads_5`, and one case for each clause of the sentence on turns.
-- Assumes nothing.
use Rattle.std.specs.Prelude.{ℕ, refl, [], ◌∷◌}
use Rattle.word.specs.Words.{condition, update, operate}
use Rattle.table.specs.Counted.{rows_of}
use Rattle.table.specs.Scan.{after, stack_at, body_of}
use Rattle.table.specs.Bodies.{row_by, row_at, ends, end_from, end_of, args_from, args_of, first_of, is_arg, is_next, arg_of, next_of}
use Rattle.table.specs.Cases.{row6, input, const, op, loop, arg, next, close, out, sum_table, sum_by, p12_table}
use Rattle.reading.specs.Reading.{opening, ended, zero_step, first_words, begin, results_from, turn, leave, step, read_from, read}
use Rattle.reading.specs.Outcome.{Reads}

-- everything that a reading computes with
reading_computes : ℕ
unfolding condition update operate after stack_at body_of row_by row_at ends end_from end_of args_from args_of first_of is_arg is_next arg_of next_of rows_of first_words begin results_from turn leave step read_from read
reading_computes = 0

-- P10: one opening of the loop at row 3, five turns, and 10
pub p10_reads_10 : Reads sum_table (5 ∷ []) (ended (10 ∷ []) (opening 3 5 ∷ []))
unfolding reading_computes
p10_reads_10 = record { steps = 30; comes = refl }

-- P11: an opening with no turn, and 0
pub p11_reads_0 : Reads sum_table (0 ∷ []) (ended (0 ∷ []) (opening 3 0 ∷ []))
unfolding reading_computes
p11_reads_0 = record { steps = 30; comes = refl }

-- 'With a CONST 0 for its step' the reading meets it at the FOR row
pub zero_step_at_row_3 : Reads (sum_by 0) (5 ∷ []) (zero_step 3 [])
unfolding reading_computes
zero_step_at_row_3 = record { steps = 30; comes = refl }

-- P12 gives 5. The inner loop has 0, 1 and 2 turns.
pub p12_reads_5 : Reads p12_table [] (ended (5 ∷ []) (opening 3 3 ∷ opening 5 0 ∷ opening 5 1 ∷ opening 5 2 ∷ []))
unfolding reading_computes
p12_reads_5 = record { steps = 60; comes = refl }

-- 'or the ARG's initial word if there was no turn at all': it is 7
pub no_turn_leaves_the_initial : Reads (input (const 7 (const 1 (loop 2 2 0 0 0 (arg 1 (op 0 4 3 (next 5 (close (out 6))))))))) (0 ∷ []) (ended (7 ∷ []) (opening 3 0 ∷ []))
unfolding reading_computes
no_turn_leaves_the_initial = record { steps = 30; comes = refl }

-- 'all ARGs change at once to what their NEXTs name': two ARGs change places, three times
pub args_change_together : Reads (const 0 (const 1 (const 3 (loop 0 1 2 0 0 (arg 0 (arg 1 (next 5 (next 4 (close (row6 8 6 0 0 0 0 (out 7))))))))))) [] (ended (1 ∷ 0 ∷ []) (opening 3 3 ∷ []))
unfolding reading_computes
args_change_together = record { steps = 60; comes = refl }

-- 'then the index takes its update': a NEXT takes the index of its own turn
pub next_takes_its_turns_index : Reads (const 0 (const 1 (const 3 (loop 0 1 2 0 0 (arg 0 (next 3 (close (out 5)))))))) [] (ended (2 ∷ []) (opening 3 3 ∷ []))
unfolding reading_computes
next_takes_its_turns_index = record { steps = 60; comes = refl }
