-- None of this is idle: the register's tables pass the check, their readings end, and the theorems speak of their graphs.
--
--   the_sum_of_five_means_ten         P10: every order that rests leaves 10, and five ones and a zero have passed
--   the_end_of_five                   all words of the state that it leaves
--   no_turn_leaves_nothing            P11: every order that rests leaves 0; one zero has passed raw, nothing gated, and nothing stays behind
--   the_inner_loop_opens_anew         P12: the result is 5; the inner loop's openings have 0, 1 and 2 turns
--   a_zero_step_is_answered           the sum table with step 0: every order that rests answers ZERO STEP at node 0
--   an_endless_loop_never_rests       a loop that goes on while its index is at most 0, and it stays 0: no order rests
--
-- Assumes nothing.
use Rattle.std.specs.Prelude.{◌≡◌, refl, List, [], ◌∷◌, ◌++◌, ℕ, replicate}
use Rattle.std.proofs.Common.{ap, ◌∙◌}
use Rattle.state.specs.Run.{ZERO-STEP, outcome}
use Rattle.confluence.specs.Statements.{Fires, AtRest}
use Rattle.table.specs.Cases.{sum_table, sum_by, p12_table}
use Rattle.reading.specs.Cases.{p10_reads_10, p11_reads_0, p12_reads_5, zero_step_at_row_3}
use Rattle.lowered.specs.Lower.{lowered_words}
use Rattle.lowered.specs.Cases.{sum_table_lowers_to_the_102_words}
use Rattle.faithful.specs.Conditions.{turns_of}
use Rattle.faithful.specs.EndState.{end_state}
use Rattle.faithful.specs.Statements.{loaded_table}
use Rattle.faithful.proofs.Statements.{lowered_table_means_its_reading, the_end_state, zero_step_is_named, endless_reading_never_rests}
use Rattle.faithful.specs.NotIdle.{sum_is_checked, p12_is_checked, Leaves, five_listed, zero_is_checked, zero_outermost, stay_table, stay_is_checked, stay_reads_for_ever}

pub the_sum_of_five_means_ten : (order u : List ℕ) → Fires (lowered_words sum_table) order (loaded_table sum_table (5 ∷ [])) u → AtRest (lowered_words sum_table) u
    → Leaves sum_table (5 ∷ []) 3 10 (1 ∷ 1 ∷ 1 ∷ 1 ∷ 1 ∷ 0 ∷ []) (1 ∷ 1 ∷ 1 ∷ 1 ∷ 0 ∷ []) order u
unfolding turns_of
the_sum_of_five_means_ten order u f h =
    let e = ((lowered_table_means_its_reading sum_table sum_is_checked (5 ∷ []) (10 ∷ []) _ p10_reads_10).1 order u f).ends h in
    record { leaves = e.state.results_hold 0 10 refl; told_raw = e.conditions.raw 3 refl; told_gated = e.conditions.gated 3 refl; completes = e.answer }

pub the_end_of_five : (order u : List ℕ) → Fires (lowered_words sum_table) order (loaded_table sum_table (5 ∷ [])) u → AtRest (lowered_words sum_table) u
    → u ≡ replicate 20 0 ++ (1 ∷ 10 ∷ replicate 74 0)
the_end_of_five order u f h = the_end_state sum_table sum_is_checked (5 ∷ []) (10 ∷ []) _ p10_reads_10 order u f h ∙ ap (λ (g : List ℕ). end_state g (10 ∷ [])) sum_table_lowers_to_the_102_words ∙ five_listed

pub no_turn_leaves_nothing : (order u : List ℕ) → Fires (lowered_words sum_table) order (loaded_table sum_table (0 ∷ [])) u → AtRest (lowered_words sum_table) u
    → Leaves sum_table (0 ∷ []) 3 0 (0 ∷ []) [] order u
unfolding turns_of
no_turn_leaves_nothing order u f h =
    let e = ((lowered_table_means_its_reading sum_table sum_is_checked (0 ∷ []) (0 ∷ []) _ p11_reads_0).1 order u f).ends h in
    record { leaves = e.state.results_hold 0 0 refl; told_raw = e.conditions.raw 3 refl; told_gated = e.conditions.gated 3 refl; completes = e.answer }

pub the_inner_loop_opens_anew : (order u : List ℕ) → Fires (lowered_words p12_table) order (loaded_table p12_table []) u → AtRest (lowered_words p12_table) u
    → Leaves p12_table [] 5 5 (0 ∷ 1 ∷ 0 ∷ 1 ∷ 1 ∷ 0 ∷ []) (0 ∷ 1 ∷ 0 ∷ []) order u
unfolding turns_of
the_inner_loop_opens_anew order u f h =
    let e = ((lowered_table_means_its_reading p12_table p12_is_checked [] (5 ∷ []) _ p12_reads_5).1 order u f).ends h in
    record { leaves = e.state.results_hold 0 5 refl; told_raw = e.conditions.raw 5 refl; told_gated = e.conditions.gated 5 refl; completes = e.answer }

pub a_zero_step_is_answered : (order u : List ℕ) → Fires (lowered_words (sum_by 0)) order (loaded_table (sum_by 0) (5 ∷ [])) u → AtRest (lowered_words (sum_by 0)) u
    → ((outcome (lowered_words (sum_by 0)) u).answer ≡ ZERO-STEP) × ((outcome (lowered_words (sum_by 0)) u).node ≡ 0)
a_zero_step_is_answered order u f h =
    let z = zero_step_is_named (sum_by 0) zero_is_checked (5 ∷ []) 3 [] zero_step_at_row_3 order u f h in
    (z.met.answer, z.own zero_outermost.0 ∙ zero_outermost.1)

pub an_endless_loop_never_rests : (order u : List ℕ) → Fires (lowered_words stay_table) order (loaded_table stay_table []) u → AtRest (lowered_words stay_table) u → ⊥
an_endless_loop_never_rests = endless_reading_never_rests stay_table stay_is_checked [] stay_reads_for_ever
