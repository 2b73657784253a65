-- The numbers of the answer of run, and what run promises: docs/RULES.md, sections 'Firing' and 'Refusal numbers'.
--
--   run_number, run_outcome, run_firings_lem      of the answer: the refusal's number or 0; answer and node, 0 in a refusal; the firings, 0 in a refusal
--   RunAnswer                                 what run promises of its answer and of the lent state
--
-- Assumes nothing.
use Rattle.std.specs.Prelude.{ℕ, ◌≡◌, Bool, true, false, List, eqb, ltb, Result, Ok, Err}
use Rattle.std.proofs.Math.Path.{refl, ap}
use Rattle.std.proofs.Common.{sym, ◌∙◌, eqb-true}
use Rattle.std.proofs.lemmas.Bool.{eqb-false}
use Rattle.word.specs.Words.{pick}
use Rattle.graph.specs.Graph.{node_count}
use Rattle.state.specs.Net.{net_of}
use Rattle.state.specs.Run.{Outcome, outcome, any_ready, complete, zero_step, SPENT, COMPLETE, ZERO-STEP, STRANDED}
use Rattle.run.specs.Entry.{order_below, run_refusal, run_at, run_state, run_firings, ran_by, run_answer, ran_number, ran_outcome, ran_firings}
use Rattle.run.specs.declared.Ran.{Ran}
use Rattle.refusal.specs.declared.Refusal.{Refusal}
use Rattle.machine.specs.Entries.{refusal_of, state_refusal, Told, told_pick, told_0, told_18, state_told}

abbrev pub over : ℕ → ℕ → Outcome
over a n = record { answer = a; node = n }

abbrev cases : Bool → Bool → Bool → ℕ → Outcome
cases ready done stuck z = pick ready (over SPENT 0) (pick done (over COMPLETE 0) (pick stuck (over ZERO-STEP z) (over STRANDED 0)))

shown : (a b c : Bool) (z f : ℕ) → (ran_number (Ok (ran_by (cases a b c z) f)) ≡ 0) × (ran_outcome (Ok (ran_by (cases a b c z) f)) ≡ cases a b c z) × (ran_firings (Ok (ran_by (cases a b c z) f)) ≡ f)
shown true b c z f = (refl, refl, refl)
shown false true c z f = (refl, refl, refl)
shown false false true z f = (refl, refl, refl)
shown false false false z f = (refl, refl, refl)

-- an outcome and its firings are shown as they are
pub ran_shown : (g s : List ℕ) (f : ℕ) → (ran_number (Ok (ran_by (outcome g s) f)) ≡ 0) × (ran_outcome (Ok (ran_by (outcome g s) f)) ≡ outcome g s) × (ran_firings (Ok (ran_by (outcome g s) f)) ≡ f)
unfolding outcome
ran_shown g s f = shown (any_ready (net_of g) (node_count g) s) (complete g s) (ltb (zero_step g s) (node_count g)) (zero_step g s) f

module _ (g s order : List ℕ) (a : ℕ) where
  told : Told (run_refusal g s order)
  unfolding run_refusal
  told = told_pick (eqb (state_refusal g s) 0) (told_pick (order_below g order) told_0 told_18) (state_told g s)

  chosen : (b : Bool) (k : ℕ) (r : Ran) → eqb k 0 ≡ b → Told k
      → (ran_number (pick b (Ok r) (Err (refusal_of k))) ≡ k) × (ran_outcome (pick b (Ok r) (Err (refusal_of k))) ≡ pick b (ran_outcome (Ok r)) (over 0 0)) × (ran_firings (pick b (Ok r) (Err (refusal_of k))) ≡ pick b (ran_firings (Ok r)) 0)
  chosen true k r e n = (sym (eqb-true k 0 e), refl, refl)
  chosen false k r e n = (n (eqb-false k 0 e), refl, refl)

  pub run_number : ran_number (run_answer g s order a) ≡ run_refusal g s order
  unfolding run_answer
  run_number = (chosen (eqb (run_refusal g s order) 0) (run_refusal g s order) (ran_by (outcome g (run_at g s order a).state) (run_firings g s order a)) refl told).0

  pub run_outcome : ran_outcome (run_answer g s order a) ≡ pick (eqb (run_refusal g s order) 0) (outcome g (run_at g s order a).state) (over 0 0)
  unfolding run_answer
  run_outcome =
      let x = ran_shown g (run_at g s order a).state (run_firings g s order a) in
      (chosen (eqb (run_refusal g s order) 0) (run_refusal g s order) (ran_by (outcome g (run_at g s order a).state) (run_firings g s order a)) refl told).1
      ∙ ap (λ (o : Outcome). pick (eqb (run_refusal g s order) 0) o (over 0 0)) x.1

  pub run_firings_lem : ran_firings (run_answer g s order a) ≡ pick (eqb (run_refusal g s order) 0) (run_firings g s order a) 0
  unfolding run_answer
  run_firings_lem =
      let x = ran_shown g (run_at g s order a).state (run_firings g s order a) in
      (chosen (eqb (run_refusal g s order) 0) (run_refusal g s order) (ran_by (outcome g (run_at g s order a).state) (run_firings g s order a)) refl told).2
      ∙ ap (λ (n : ℕ). pick (eqb (run_refusal g s order) 0) n 0) x.2

pub record RunAnswer (g s order : List ℕ) (allowance : ℕ) (r : Result Ran Refusal) (exit : List ℕ) : Type 0 where
  pub answer : r ≡ run_answer g s order allowance
  pub number : ran_number r ≡ run_refusal g s order
  pub outcome : ran_outcome r ≡ pick (eqb (run_refusal g s order) 0) (outcome g (run_at g s order allowance).state) (over 0 0)
  pub firings : ran_firings r ≡ pick (eqb (run_refusal g s order) 0) (run_firings g s order allowance) 0
  pub state : exit ≡ run_state g s order allowance

pub run_answers : (g s order : List ℕ) (a : ℕ) (r : Result Ran Refusal) (exit : List ℕ) → r ≡ run_answer g s order a → exit ≡ run_state g s order a → RunAnswer g s order a r exit
run_answers g s order a r exit e h =
    record {
      answer = e;
      number = ap ran_number e ∙ run_number g s order a;
      outcome = ap ran_outcome e ∙ run_outcome g s order a;
      firings = ap ran_firings e ∙ run_firings_lem g s order a;
      state = h;
    }
