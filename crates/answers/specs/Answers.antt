-- What callers of the entries are answered: no second outcome fits, states may be lent on, and a run's answer does not hang on its order list.
--
--   run_answers_alike         two calls on one state, neither refused, the first not SPENT, the second with enough allowance, answer the same and
--                             leave the same words
--   run_counts_its_firings    the firings that a caller is told are the number of firings in the run's rule
--   load_leaves_right, fire_leaves_right, run_leaves_right    what a call that is not refused leaves is not refused by the next
--   one_load, one_fire, one_run       no second outcome fits
--
-- Assumes nothing.
use Rattle.std.specs.Prelude.{ℕ, ◌+◌, ◌-◌, ◌≤◌, ◌≡◌, refl, ◌≢◌, Bool, true, length, eqb, ltb, Result, Ok, Err}
use Rattle.std.proofs.Common.{sym, ap₂, ◌∙◌, arith, eq-eqb}
use Rattle.std.proofs.Math.Path.{ap, subst}
use mathlib.Core.List.{List}
use Rattle.std.proofs.Math.Option.{Option, none, some}
use Rattle.word.specs.Words.{pick}
use Rattle.graph.specs.Graph.{node_count}
use Rattle.graph.specs.Refusal.{graph_refusal}
use Rattle.state.specs.Net.{net_of, fire, or_else}
use Rattle.state.specs.Legal.{right_length, legal}
use Rattle.state.specs.Load.{input_count, loaded}
use Rattle.state.specs.Run.{SPENT, Outcome, outcome}
use Rattle.machine.specs.Entries.{first, refusal_of, state_refusal, load_refusal, load_state, LoadAnswer, fire_refusal, fire_state, FireAnswer}
use Rattle.machine.specs.declared.Fired.{Fired}
use Rattle.machine.proofs.Answers.{state_known, state_right, first_zero}
use Rattle.run.specs.Entry.{order_below, run_refusal, run_at, run_firings, run_state, ran_by, run_answer, ran_firings}
use Rattle.run.specs.Numbers.{ran_shown, RunAnswer}
use Rattle.run.specs.declared.Ran.{Ran}
use Rattle.refusal.specs.declared.Refusal.{Refusal}
use Rattle.confluence.specs.Statements.{run_of, made_by}
use Rattle.confluence.proofs.Statements.{run_counts_firings, runs_end_alike}
use Rattle.legality.specs.Legality.{firing_keeps_legal, run_keeps_legal, Words, loaded_is_legal}

-- a run that is not refused has a legal state of an accepted graph
pub run_known : (g s order : List ℕ) → run_refusal g s order ≡ 0 → (graph_refusal g ≡ 0) × (legal g s ≡ true)
unfolding run_refusal
run_known g s order e = state_known g s (first_zero (state_refusal g s) (pick (order_below g order) 0 18) e).0

module _ (g s order : List ℕ) (a : ℕ) (ok : run_refusal g s order ≡ 0) where
  answer_is : run_answer g s order a ≡ Ok (ran_by (outcome g (run_at g s order a).state) (run_firings g s order a))
  unfolding run_answer
  answer_is = ap (λ (b : Bool). pick b (Ok (ran_by (outcome g (run_at g s order a).state) (run_firings g s order a))) (Err (refusal_of (run_refusal g s order)))) (eq-eqb _ _ ok)

  state_is : run_state g s order a ≡ (run_at g s order a).state
  unfolding run_state
  state_is = ap (λ (b : Bool). pick b (run_at g s order a).state s) (eq-eqb _ _ ok)

  pub run_leaves_legal : legal g (run_state g s order a) ≡ true
  unfolding run_at
  run_leaves_legal =
      let k = run_known g s order ok in
      subst (λ (x : List ℕ). legal g x ≡ true) (sym state_is) (run_keeps_legal g k.0 order s a k.1)

made : (a b l m : ℕ) → l ≤ a → m ≤ b → m + a ≡ b + l → b - m ≡ a - l
made a b l m h k e = omega arith

pub run_answers_alike : (g s order order' : List ℕ) (a a' : ℕ) → run_refusal g s order ≡ 0 → run_refusal g s order' ≡ 0
    → (outcome g (run_at g s order a).state).answer ≢ SPENT → a ≤ a' + (run_at g s order a).left
    → (run_answer g s order' a' ≡ run_answer g s order a) × (run_state g s order' a' ≡ run_state g s order a)
unfolding run_at run_firings
run_answers_alike g s order order' a a' ok ok' n enough =
    let x = runs_end_alike g (run_known g s order ok).0 s order a n order' a' enough in
    let c = (run_counts_firings g order s a).1 in
    let c' = (run_counts_firings g order' s a').1 in
    let f : a' - (run_of g order' s a').left ≡ a - (run_of g order s a).left = made a a' (run_of g order s a).left (run_of g order' s a').left (omega arith) (omega arith) x.1 in (
      answer_is g s order' a' ok' ∙ ap₂ (λ (o : Outcome) (m : ℕ). Ok (ran_by o m)) x.2 f ∙ sym (answer_is g s order a ok),
      state_is g s order' a' ok' ∙ x.0 ∙ sym (state_is g s order a ok),
    )

-- The firings that a caller is told are those that the rule makes, each ready in its turn.
pub run_counts_its_firings : (g s order : List ℕ) (a : ℕ) → run_refusal g s order ≡ 0 → ran_firings (run_answer g s order a) ≡ length (made_by g order s a)
unfolding run_at run_firings
run_counts_its_firings g s order a ok =
    let c = (run_counts_firings g order s a).1 in
    let f : a - (run_of g order s a).left ≡ length (made_by g order s a) = omega arith in
    ap ran_firings (answer_is g s order a ok) ∙ (ran_shown g (run_of g order s a).state (a - (run_of g order s a).left)).2 ∙ f

-- ---- states that may be lent on

right : (g s : List ℕ) → graph_refusal g ≡ 0 → legal g s ≡ true → state_refusal g s ≡ 0
right g s e l = sym (state_right g s refl e refl l)

pub run_leaves_right : (g s order : List ℕ) (a : ℕ) → run_refusal g s order ≡ 0 → state_refusal g (run_state g s order a) ≡ 0
run_leaves_right g s order a ok = right g (run_state g s order a) (run_known g s order ok).0 (run_leaves_legal g s order a ok)

pub fire_leaves_right : (g s : List ℕ) (i : ℕ) → fire_refusal g s i ≡ 0 → state_refusal g (fire_state g s i) ≡ 0
unfolding fire_refusal fire_state
fire_leaves_right g s i ok =
    let k = state_known g s (first_zero (state_refusal g s) (pick (ltb i (node_count g)) 0 18) ok).0 in
    subst (λ (b : Bool). state_refusal g (pick b (or_else (fire (net_of g) i s) s) s) ≡ 0) (sym (eq-eqb _ _ ok))
    (right g (or_else (fire (net_of g) i s) s) k.0 (after_turn (fire (net_of g) i s) refl k.0 k.1))
  where
    after_turn : (o : Option (List ℕ)) → fire (net_of g) i s ≡ o → graph_refusal g ≡ 0 → legal g s ≡ true → legal g (or_else o s) ≡ true
    after_turn none e a l = l
    after_turn (some t) e a l = firing_keeps_legal g a i s t l e

-- Words of lent slices are below 2^32.
pub load_leaves_right : (g inputs s : List ℕ) → Words g → Words inputs → load_refusal g inputs s ≡ 0 → state_refusal g (load_state g inputs s) ≡ 0
unfolding load_refusal load_state
load_leaves_right g inputs s wg wi ok =
    let e = (first_zero (graph_refusal g) (first (pick (right_length g s) 0 17) (pick (eqb (length inputs) (input_count g)) 0 16)) ok).0 in
    subst (λ (b : Bool). state_refusal g (pick b (loaded g inputs) s) ≡ 0) (sym (eq-eqb _ _ ok)) (right g (loaded g inputs) e (loaded_is_legal g e inputs wg wi))

-- ---- no second outcome fits

pub one_load : (g inputs s : List ℕ) (n m : ℕ) (x y : List ℕ) → LoadAnswer g inputs s n x → LoadAnswer g inputs s m y → (n ≡ m) × (x ≡ y)
one_load g inputs s n m x y p q = (p.number ∙ sym q.number, p.state ∙ sym q.state)

pub one_fire : (g s : List ℕ) (i : ℕ) (r t : Result Fired Refusal) (x y : List ℕ) → FireAnswer g s i r x → FireAnswer g s i t y → (r ≡ t) × (x ≡ y)
one_fire g s i r t x y p q = (p.answer ∙ sym q.answer, p.state ∙ sym q.state)

pub one_run : (g s order : List ℕ) (a : ℕ) (r t : Result Ran Refusal) (x y : List ℕ) → RunAnswer g s order a r x → RunAnswer g s order a t y → (r ≡ t) × (x ≡ y)
one_run g s order a r t x y p q = (p.answer ∙ sym q.answer, p.state ∙ sym q.state)
