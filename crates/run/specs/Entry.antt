-- The entry run: docs/RULES.md, sections 'Firing' and 'Refusal numbers'. Whatever the words, it fixes the answer, its node, the firings and every lent word.
--
--   order_below                        no number of the order list is past the last node
--   run_refusal, run_at, run_state       the refusal's number; where the run ends; the state after the call
--   run_firings, run_answer             the firings made, and the answer
--   ran_number, ran_outcome, ran_firings      the numbers for each case of the answer
--
-- Assumes nothing.
use Rattle.std.specs.Prelude.{ℕ, ◌-◌, ◌<◌, ◌≡◌, Bool, not, ◌||◌, List, eqb, ltb, get_or, length, Result, Ok, Err}
use Rattle.refusal.specs.Numbers.{answer_number}
use Rattle.refusal.specs.declared.Refusal.{Refusal}
use Rattle.word.specs.Words.{pick}
use Rattle.graph.specs.Below.{every}
use Rattle.graph.specs.Graph.{node_count, wire_count}
use Rattle.graph.specs.Refusal.{graph_refusal}
use Rattle.state.specs.Net.{net_of, fire, is_ready}
use Rattle.state.specs.Legal.{state_length}
use Rattle.state.specs.State.{record_at}
use Rattle.state.specs.Run.{At, run, Outcome, outcome, is_full, is_result, SPENT, COMPLETE, ZERO-STEP, STRANDED}
use Rattle.machine.specs.Entries.{first, refusal_of, state_refusal}
use Rattle.run.specs.declared.Ran.{Ran}
use Rattle.run.specs.declared.Ran.TheVariants.{Spent, Complete, ZeroStep, Stranded}

-- 18 ORDER: 'some number of the list is not below n, before anything fires'
unfoldable pub order_below : List ℕ → List ℕ → Bool
order_below g order = every (length order) (λ k. ltb (get_or order k 0) (node_count g))

unfoldable pub run_refusal : List ℕ → List ℕ → List ℕ → ℕ
run_refusal g s order = first (state_refusal g s) (pick (order_below g order) 0 18)

-- where the run ends: the state, and what is left of the allowance
unfoldable pub run_at : List ℕ → List ℕ → List ℕ → ℕ → At
run_at g s order allowance = run (net_of g) (node_count g) order (record { state = s; left = allowance })

unfoldable pub run_state : List ℕ → List ℕ → List ℕ → ℕ → List ℕ
run_state g s order allowance = pick (eqb (run_refusal g s order) 0) (run_at g s order allowance).state s

-- the firings made
unfoldable pub run_firings : List ℕ → List ℕ → List ℕ → ℕ → ℕ
run_firings g s order allowance = allowance - (run_at g s order allowance).left

-- an outcome and the firings made, as a case of the answer
abbrev pub ran_by : Outcome → ℕ → Ran
ran_by o f =
    pick (eqb o.answer SPENT) (Spent f)
    (pick (eqb o.answer COMPLETE) (Complete f) (pick (eqb o.answer ZERO-STEP) (ZeroStep f o.node) (Stranded f)))

unfoldable pub run_answer : List ℕ → List ℕ → List ℕ → ℕ → Result Ran Refusal
run_answer g s order allowance =
    pick (eqb (run_refusal g s order) 0) (Ok (ran_by (outcome g (run_at g s order allowance).state) (run_firings g s order allowance))) (Err (refusal_of (run_refusal g s order)))

-- ---- the answer by number. Of a refusal: 'An entry that tells firings or a node answers 0 for them'.

abbrev pub ran_number : Result Ran Refusal → ℕ
ran_number r = answer_number r

abbrev pub ran_outcome : Result Ran Refusal → Outcome
ran_outcome (Err e) = record { answer = 0; node = 0 }
ran_outcome (Ok (Spent f)) = record { answer = SPENT; node = 0 }
ran_outcome (Ok (Complete f)) = record { answer = COMPLETE; node = 0 }
ran_outcome (Ok (ZeroStep f i)) = record { answer = ZERO-STEP; node = i }
ran_outcome (Ok (Stranded f)) = record { answer = STRANDED; node = 0 }

abbrev pub ran_firings : Result Ran Refusal → ℕ
ran_firings (Err e) = 0
ran_firings (Ok (Spent f)) = f
ran_firings (Ok (Complete f)) = f
ran_firings (Ok (ZeroStep f i)) = f
ran_firings (Ok (Stranded f)) = f

-- what the inner functions rely on: the graph is accepted, and the state has its length
pub record Runs (g : List ℕ) (len : ℕ) : Type 0 where
  pub graph : graph_refusal g ≡ 0
  pub size : len ≡ state_length g

abbrev pub at : List ℕ → ℕ → At
at s l = record { state = s; left = l }

abbrev pub Below : List ℕ → List ℕ → Type 0
Below g order = (k : ℕ) → k < length order → get_or order k 0 < node_count g

-- node i is not ready
abbrev pub idle : List ℕ → List ℕ → ℕ → Bool
idle g s i = not (is_ready (fire (net_of g) i s))

-- wire w is a result, or empty; node i is in phase 0
abbrev pub other_empty : List ℕ → List ℕ → ℕ → Bool
other_empty g s w = is_result g w || not (is_full s w)

abbrev pub at_rest : List ℕ → List ℕ → ℕ → Bool
at_rest g s i = eqb (record_at (wire_count g) s i).phase 0
