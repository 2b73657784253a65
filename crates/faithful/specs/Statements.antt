-- THE LOWERED TABLE MEANS WHAT IT SAYS. A loop table is read row by row; its lowered graph is fired in an order that nobody knows. These theorems
-- say that the graph, whatever the order, comes to rest with the words of the reading, and leaves nothing behind: a loop that opens for no turn
-- keeps no word of a carried-in value, so the next opening cannot meet it. The theorems stand in proofs/Statements; here is what they speak of.
--
--   lowered_table_means_its_reading   every order rests after the same number of firings, with the reading's words and nothing else
--   the_end_state                     so the end state, all its words, is `end_state`
--   every_run_is_complete             so every run with that allowance, whatever its list, answers COMPLETE in that state
--   zero_step_is_named                where the reading meets a zero step, in every order that rests the STREAM of that loop waits with it; ZERO STEP is
--                                     answered with the lowest node that waits so, which stands in no loop of the outermost body that the reading has left
--   zero_step_is_never_complete       so every order that rests answers ZERO STEP
--   no_run_completes_a_fault          so no run, whatever its list and allowance, answers COMPLETE there
--   rest_bounds_the_reading           where an order rests after F firings, the reading comes to an outcome, within a number of steps that F fixes
--   endless_reading_never_rests       so where the reading comes to no outcome, no order rests
--   turns_are_firings                 where an order rests after F firings, the reading has made at most F turns
--   complete_means_the_reading        an order that rests COMPLETE does so with the words of a reading that ends
--   zero_step_means_the_reading       an order that rests in ZERO STEP does so where the reading meets a zero step
--   rest_is_never_stranded            no order rests STRANDED
--   complete_run_means_the_reading    so a run that answers COMPLETE leaves the words of a reading that ends
--   written_table_is_checked          the hypothesis on the table holds of every table that `lower` has written
--
-- The words: `t` is a table's words, `lowered_words t` its graph's words, `loaded_table t inputs` the freshly loaded state's words.
-- The hypotheses, once for all:
--   (check_answer t).number ≡ 0       the table check answers 0: the table passes refusals 1 to 9 and its four counts are in their limits
--   Reads t inputs (ended ..)         the plain reading of t on these inputs ends, with these results and these openings, in order
--   Reads t inputs (zero_step ..)     the plain reading of t on these inputs meets a zero step at this FOR row
--   Fires g order s u                 the nodes of `order` fire one after the other, each ready in its turn, and lead from s to u
--   AtRest g u                        no node is ready in u
-- Nothing is asked of the inputs: a missing input word is 0 in the reading and in the loaded state alike.
--
-- The idea. By the first half it is enough to show one order that rests in the right state; let it follow the reading. The graph's configuration
-- where the reading stands at row pc with words env is a closed form (Gamma): a use holds a token exactly if pc lies in an interval. Each step of
-- the reading is one to three stages of nodes that are ready together (Rows, For, End); forks and drains are spread once for all (uses).
-- Assumes nothing.
use Rattle.std.proofs.Math.Path.{◌≡◌}
use Rattle.std.specs.Prelude.{refl, Bool, true, false, cond, ◌&&◌, List, ◌++◌, eqb, leb}
use Rattle.std.proofs.Common.{eqb-true}
use Prim.Native.Nat.{ℕ, ◌+◌, ◌≤◌}
use Rattle.std.proofs.Math.ListN.{length}
use Rattle.step.specs.Kinds.{out1}
use Rattle.state.specs.Load.{loaded}
use Rattle.state.specs.Run
use Rattle.state.specs.Run.{COMPLETE, SPENT, STRANDED, ZERO-STEP, outcome}
use Rattle.confluence.specs.Statements.{Fires, AtRest, put_on_wire}
use Rattle.table.specs.Rows.{kind_at, size, FOR}
use Rattle.table.specs.Scan.{body_of}
use Rattle.table.specs.Check.{table_refusal, answer}
use Rattle.reading.specs.Reading.{Opening}
use Rattle.lowered.specs.Gathered.{position}
use Rattle.lowered.specs.Roles.{stream, gate, output, same_role}
use Rattle.lowered.specs.Lower.{roles, wire_number, lowered_words}
use Rattle.lowered.specs.Room.{in_limits, fits_into, refused_by, check_answer, lower_refusal}
use Rattle.laid.specs.Answers.{number_0_is_no_refusal}
use Rattle.faithful.specs.Conditions.{turns_of, raw_of, gated_of}
use Rattle.faithful.specs.Endings.{AsRead}
use Rattle.faithful.specs.Faults.{ZeroStepNamed}

abbrev pub loaded_table : List ℕ → List ℕ → List ℕ
loaded_table t inputs = loaded (lowered_words t) inputs

-- the raw and the gated condition wire of the loop whose FOR stands at row L
abbrev pub raw_wire : List ℕ → ℕ → ℕ
raw_wire t L = wire_number t (output (stream L) out1)

abbrev pub gated_wire : List ℕ → ℕ → ℕ
gated_wire t L = wire_number t (output (gate L) out1)

-- the number of the node that is that loop's STREAM
abbrev pub stream_node : List ℕ → ℕ → ℕ
stream_node t L = position same_role (stream L) (roles t)

-- What an order has put on the conditions of each loop: for its openings in turn, N ones and a zero on the raw one, and N - 1 ones and a zero, or
-- nothing for N = 0, on the gated one.
pub record ConditionsTold (t : List ℕ) (openings : List Opening) (order s : List ℕ) : Type 0 where
  pub raw : (L : ℕ) → kind_at t L ≡ FOR → put_on_wire (lowered_words t) order s (raw_wire t L) ≡ raw_of (turns_of L openings)
  pub gated : (L : ℕ) → kind_at t L ≡ FOR → put_on_wire (lowered_words t) order s (gated_wire t L) ≡ gated_of (turns_of L openings)

-- An order that has come to rest in u, after F firings, has done what the reading did.
pub record EndsAsRead (t inputs words : List ℕ) (openings : List Opening) (F : ℕ) (order u : List ℕ) : Type 0 where
  pub firings : length order ≡ F
  pub state : AsRead t words u
  pub conditions : ConditionsTold t openings order (loaded_table t inputs)
  pub answer : (outcome (lowered_words t) u).answer ≡ COMPLETE

-- What every list of ready firings from the loaded state has to do with the reading.
pub record Faithful (t inputs words : List ℕ) (openings : List Opening) (F : ℕ) (order u : List ℕ) : Type 0 where
  -- it is at most F long
  pub at_most : length order ≤ F
  -- it can be extended until it rests
  pub extends : (more : List ℕ) × (v : List ℕ) × Fires (lowered_words t) more u v × AtRest (lowered_words t) v × (length order + length more ≡ F)
  -- at any moment the words that have passed on a loop's conditions are the first of those that will have
  pub raw_so_far : (L : ℕ) → kind_at t L ≡ FOR → (rest : List ℕ) × (put_on_wire (lowered_words t) order (loaded_table t inputs) (raw_wire t L) ++ rest ≡ raw_of (turns_of L openings))
  pub gated_so_far : (L : ℕ) → kind_at t L ≡ FOR → (rest : List ℕ) × (put_on_wire (lowered_words t) order (loaded_table t inputs) (gated_wire t L) ++ rest ≡ gated_of (turns_of L openings))
  -- and if it rests, it ends as the reading does
  pub ends : AtRest (lowered_words t) u → EndsAsRead t inputs words openings F order u

-- What an answer o where an order rests in u has to do with the zero step that the reading met at FOR row L.
pub record FaultNamed (t : List ℕ) (L : ℕ) (u : List ℕ) (o : Run.Outcome) : Type 0 where
  -- that loop's STREAM waits with a zero step; o is ZERO STEP and names a STREAM that waits so, the lowest that does
  pub met : ZeroStepNamed (lowered_words t) u (stream_node t L) o
  -- it stands in no loop of the outermost body that the reading has left: not below the STREAM of any at row L or above
  pub not_behind : (M : ℕ) → kind_at t M ≡ FOR → body_of t M ≡ size t → M ≤ L → stream_node t M ≤ o.node
  -- so where L stands in no other loop, its own STREAM is named
  pub own : body_of t L ≡ size t → o.node ≡ stream_node t L

-- ---- from the check's answer

pub passes : (t : List ℕ) → (check_answer t).number ≡ 0 → table_refusal t ≡ answer 0 0
unfolding check_answer refused_by
passes t h = number_0_is_no_refusal t (go (eqb (table_refusal t).number 0) refl h)
  where
    go : (b : Bool) → eqb (table_refusal t).number 0 ≡ b → (cond b (cond (in_limits t) (answer 0 0) (answer 10 (size t))) (table_refusal t)).number ≡ 0 → (table_refusal t).number ≡ 0
    go true e k = eqb-true (table_refusal t).number 0 e
    go false e k = k

-- A table that `lower` has written into so many lent words is checked: what follows holds of every graph that `lower` writes.
pub written_table_is_checked : (t : List ℕ) (lent : ℕ) → (lower_refusal t lent).number ≡ 0 → (check_answer t).number ≡ 0
unfolding lower_refusal check_answer refused_by fits_into
written_table_is_checked t lent = go (eqb (table_refusal t).number 0) (in_limits t) (leb (length (lowered_words t)) lent)
  where
    go : (b room fits : Bool) → (cond b (cond (room && fits) (answer 0 0) (answer 10 (size t))) (table_refusal t)).number ≡ 0
        → (cond b (cond room (answer 0 0) (answer 10 (size t))) (table_refusal t)).number ≡ 0
    go true true fits h = refl
    go true false fits h = h
    go false room fits h = h
