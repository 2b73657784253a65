-- Loading, as the code goes: inputs counted one by one, the word of each start, each place of the state, and the answers of load.
-- Assumes nothing.
use Prim.Native.Nat.{ℕ, zero, suc, ◌+◌, ◌*◌, ◌/◌, ◌%◌, ◌<◌, ◌≤◌}
use mathlib.Core.Path.{◌≡◌, sym, ap, ◌∙◌, subst}
use mathlib.Core.Logic.{◌⊎◌, inl, inr}
use mathlib.Core.Bool.{Bool, true, false}
use mathlib.Core.List.{List}
use native.Mathlib.Omega.{arith}
use native.Mathlib.Decide.{ℕ_discrete}
use borrow.Author.Tests.{eq-eqb, ne_eqb, lt-ltb, le-ltb}
use lib.Dec.{eqb}
use lib.ListN.{get_or, set, length}
use lib.Seq.{ext_get_or, get_or-set_same, get_or-set_other}
use Rattle.word.specs.Words.{pick, flag}
use Rattle.graph.specs.Below.{total, total_more, total_within}
use Rattle.graph.specs.Graph.{wire_count, start_count, start_kind_at, start_word_at, inputs_before}
use Rattle.graph.specs.Refusal.{graph_refusal}
use Rattle.graph.specs.Accepted.{Accepted}
use Rattle.state.specs.Legal.{state_length, right_length}
use Rattle.state.specs.Load.{input_count, start_word, loaded}
use Rattle.state.specs.Loaded.{loaded_at, loaded_length, loaded_at_lem}
use Rattle.machine.specs.Entries.{first, Given, load_refusal, load_state, LoadAnswer}
use Rattle.std.specs.Prelude.{Result, Err}
use Rattle.refusal.specs.Numbers.{number_of, answer_number}
use Rattle.refusal.specs.declared.Refusal.{Refusal}
use Rattle.refusal.specs.declared.Refusal.TheVariants.{State, Inputs}
use Rattle.machine.proofs.Answers.{skips, stops, not_zero}

-- ---- counting inputs

count_below : (f : ℕ → ℕ) (k : ℕ) → ((j : ℕ) → f j < 2) → total f k ≤ k
unfolding total
count_below f zero h = omega arith
count_below f (suc k) h = let r = count_below f k h in let q = h k in omega arith

flag_small : (b : Bool) → flag b < 2
flag_small true = omega arith
flag_small false = omega arith

pub inputs_below : (g : List ℕ) (k : ℕ) → inputs_before g k ≤ k
inputs_below g k = count_below (λ j. flag (eqb (start_kind_at g j) 0)) k (λ j. flag_small (eqb (start_kind_at g j) 0))

pub inputs_go : (g : List ℕ) (k : ℕ) {n m : ℕ} → n ≡ inputs_before g k → m ≡ n + flag (eqb (start_kind_at g k) 0) → m ≡ inputs_before g (k + 1)
inputs_go g k e h = h ∙ ap (λ (n : ℕ). n + flag (eqb (start_kind_at g k) 0)) e ∙ sym (total_more (λ j. flag (eqb (start_kind_at g j) 0)) k)

-- ---- one start

-- an input's number is below the count of inputs
pub input_there : (g : List ℕ) (len k : ℕ) → Given g len → k < start_count g → start_kind_at g k ≡ 0 → start_word_at g k < len
input_there g len k G h z = go (G.accepted.starts k h)
  where
    go : ((start_kind_at g k ≡ 0) × (start_word_at g k ≡ inputs_before g k)) ⊎ (start_kind_at g k ≡ 1) → start_word_at g k < len
    go (inl p) =
        let w = total_within (λ j. flag (eqb (start_kind_at g j) 0)) k (start_count g) h in
        let one : flag (eqb (start_kind_at g k) 0) ≡ 1 = ap flag (eq-eqb (start_kind_at g k) 0 z) in
        let e = p.1 in
        let l = G.inputs in
        omega arith
    go (inr p) = absurd (omega arith)

pub start_input : (g inputs : List ℕ) (k : ℕ) {w : ℕ} → start_kind_at g k ≡ 0 → w ≡ start_word_at g k → get_or inputs w 0 ≡ start_word g inputs k
unfolding start_word
start_input g inputs k z e = rw (eq-eqb _ _ z, e)

pub start_constant : (g inputs : List ℕ) (k : ℕ) → (start_kind_at g k ≡ 0 → ⊥) → start_word_at g k ≡ start_word g inputs k
unfolding start_word
start_constant g inputs k n = rw (ne_eqb _ 0 n)

-- ---- one place

module _ (g inputs : List ℕ) (j : ℕ) where
  pub place_full : j < 2 * start_count g → j % 2 ≡ 0 → 1 ≡ loaded_at g inputs j
  unfolding loaded_at
  place_full h e = rw (lt-ltb _ _ h, eq-eqb _ _ e)

  pub place_word : {w : ℕ} → j < 2 * start_count g → (j % 2 ≡ 0 → ⊥) → w ≡ start_word g inputs (j / 2) → w ≡ loaded_at g inputs j
  unfolding loaded_at
  place_word h n e = rw (lt-ltb _ _ h, ne_eqb _ 0 n) e

  pub place_rest : 2 * start_count g ≤ j → 0 ≡ loaded_at g inputs j
  unfolding loaded_at
  place_rest h = rw (le-ltb _ _ h)

-- ---- all places

starts_within : (g : List ℕ) → Accepted g → start_count g ≤ wire_count g
starts_within g a = let e = a.wires in omega arith

pub filled_more : (s : List ℕ) (j v : ℕ) (f : ℕ → ℕ) → j < length s → ((p : ℕ) → p < j → get_or s p 0 ≡ f p) → v ≡ f j
    → (p : ℕ) → p < j + 1 → get_or (set s j v) p 0 ≡ f p
filled_more s j v f l h e p q =
    elim (ℕ_discrete j p) [
      | yes z ↦ subst (λ (x : ℕ). get_or (set s j v) x 0 ≡ f x) z (get_or-set_same s j v 0 l ∙ e)
      | no z ↦ get_or-set_other s j p v 0 (λ y. z (sym y)) ∙ h p (omega arith)
    ]

pub filled_whole : (g inputs s : List ℕ) → Accepted g → length s ≡ state_length g → ((p : ℕ) → p < length s → get_or s p 0 ≡ loaded_at g inputs p) → s ≡ loaded g inputs
filled_whole g inputs s a l h =
    let w = starts_within g a in
    ext_get_or 0 s (loaded g inputs) (l ∙ sym (loaded_length g inputs w)) (λ p q. h p q ∙ sym (loaded_at_lem g inputs w p (omega arith)))

-- ---- the answers

module _ (g inputs s : List ℕ) where
  refused : (e : Refusal) → number_of e ≡ load_refusal g inputs s → LoadAnswer g inputs s (number_of e) s
  unfolding load_state
  refused e q = record { number = q; state = rw (← q, ne_eqb (number_of e) 0 (not_zero e)) }

  abbrev rest : ℕ
  rest = first (pick (right_length g s) 0 17) (pick (eqb (length inputs) (input_count g)) 0 16)

  pub load_graph : {A : Type 0} {r : Result A Refusal} → answer_number r ≡ graph_refusal g → (e : Refusal) → r ≡ Err e → LoadAnswer g inputs s (number_of e) s
  unfolding load_refusal
  load_graph q e w =
      let n : number_of e ≡ graph_refusal g = sym (ap answer_number w) ∙ q in
      refused e (n ∙ sym (stops rest (λ z. not_zero e (n ∙ z))))

  module _ (z : graph_refusal g ≡ 0) where
    pub load_state_lem : (length s ≡ state_length g → ⊥) → LoadAnswer g inputs s 17 s
    unfolding load_refusal
    load_state_lem n = refused State (sym (skips rest z ∙ rw (ne_eqb _ _ n)))

    pub load_inputs : length s ≡ state_length g → (length inputs ≡ input_count g → ⊥) → LoadAnswer g inputs s 16 s
    unfolding load_refusal
    load_inputs l n = refused Inputs (sym (skips rest z ∙ rw (eq-eqb _ _ l, ne_eqb _ _ n)))

    pub load_done : length s ≡ state_length g → length inputs ≡ input_count g → {s1 : List ℕ} → s1 ≡ loaded g inputs → LoadAnswer g inputs s 0 s1
    unfolding load_refusal load_state
    load_done l n h =
        let q : first (graph_refusal g) rest ≡ 0 = skips rest z ∙ rw (eq-eqb _ _ l, eq-eqb _ _ n) in
        record { number = sym q; state = rw q h }
