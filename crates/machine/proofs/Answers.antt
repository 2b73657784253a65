-- The answers of the entries, path by path: what each `return` of the code has to show.
-- Assumes nothing.
use Prim.Native.Nat.{ℕ, zero, suc, ◌<◌, ◌≤◌}
use mathlib.Core.Path.{◌≡◌, refl, sym, ap, ◌∙◌}
use mathlib.Core.Bool.{Bool, true, false, ◌&&◌}
use mathlib.Core.List.{List}
use native.Mathlib.Omega.{arith}
use borrow.Author.Tests.{eq-eqb, ne_eqb, lt-ltb, le-ltb, eqb-true}
use lib.Dec.{ltb}
use lib.ListN.{length}
use Rattle.word.specs.Words.{pick}
use Rattle.step.specs.Kept.{and_true}
use Rattle.graph.specs.Below.{every}
use Rattle.graph.specs.Graph.{node_count, wire_count}
use Rattle.graph.specs.Refusal.{graph_refusal}
use Rattle.graph.specs.Accepted.{accepted}
use Rattle.graph.specs.Wiring.{input_below_lem, output_below}
use Rattle.state.specs.Net.{fire, is_ready, or_else, net_of}
use Rattle.state.specs.Legal.{state_length, right_length, legal_wire, legal_node, legal}
use Rattle.firing.specs.Acted.{Placed}
use Rattle.machine.specs.Entries.{first, refusal_is, number_above_0, state_refusal, fire_refusal, fire_answer, fire_state, FireAnswer, fire_answers}
use Rattle.machine.specs.declared.Fired.TheVariants.{NotReady, Done}
use Rattle.std.specs.Prelude.{Result, Ok, Err, IsErrAnd}
use Rattle.refusal.specs.Numbers.{number_of, answer_number}
use Rattle.refusal.specs.declared.Refusal.{Refusal}
use Rattle.refusal.specs.declared.Refusal.TheVariants.{Order}

-- ---- answers that are not refused, and the numbers of those that are

-- an error that `?` passes on is the one that came
pub passed_on : {A : Type 0} (r : Result A Refusal) (e : Refusal) → IsErrAnd r (λ x. x ≡ e) → r ≡ Err e
passed_on (Ok x) e h = absurd h
passed_on (Err x) e h = ap Err h

pub not_zero : (e : Refusal) → number_of e ≡ 0 → ⊥
not_zero e q = let h = number_above_0 e in omega arith

-- ---- legal

module _ (g s : List ℕ) where
  pub legal_nodes : {a b : Bool} → length s ≡ state_length g → a ≡ every (wire_count g) (legal_wire g s) → a ≡ true
      → b ≡ every (node_count g) (legal_node g s) → b ≡ legal g s
  unfolding legal
  legal_nodes l ea ta eb = rw (eq-eqb _ _ l, ← ea, ta) eb

  pub legal_wires_not : {a : Bool} → length s ≡ state_length g → a ≡ every (wire_count g) (legal_wire g s) → a ≡ false → false ≡ legal g s
  unfolding legal
  legal_wires_not l ea ta = rw (eq-eqb _ _ l, ← ea, ta)

  pub legal_length_not : (length s ≡ state_length g → ⊥) → false ≡ legal g s
  unfolding legal
  legal_length_not l = rw (ne_eqb _ _ l)

  pub legal_length : legal g s ≡ true → length s ≡ state_length g
  unfolding legal
  legal_length e =
      eqb-true (length s) (state_length g)
      (and_true (right_length g s) (every (wire_count g) (legal_wire g s) && every (node_count g) (legal_node g s)) e).0

-- ---- 11 to 15, then 17

pub first_zero : (a b : ℕ) → first a b ≡ 0 → (a ≡ 0) × (b ≡ 0)
first_zero zero b e = (refl, e)
first_zero (suc a) b e = absurd (never e)
  where
    never : first (suc a) b ≡ 0 → ⊥
    never e = let z : suc a ≡ 0 = sym (ap (λ (t : Bool). pick t b (suc a)) (ne_eqb (suc a) 0 (λ q. omega arith))) ∙ e in omega arith

pub skips : {a : ℕ} (b : ℕ) → a ≡ 0 → first a b ≡ b
skips b e = rw (eq-eqb _ _ e)

pub stops : {a : ℕ} (b : ℕ) → (a ≡ 0 → ⊥) → first a b ≡ a
stops b n = rw (ne_eqb _ 0 n)

module _ (g s : List ℕ) where
  pub state_graph : {A : Type 0} {r : Result A Refusal} → answer_number r ≡ graph_refusal g → (e : Refusal) → r ≡ Err e → number_of e ≡ state_refusal g s
  unfolding state_refusal
  state_graph q e w =
      let n : number_of e ≡ graph_refusal g = sym (ap answer_number w) ∙ q in
      n ∙ sym (stops (pick (legal g s) 0 17) (λ z. not_zero e (n ∙ z)))

  pub state_right : {k : ℕ} {b : Bool} → k ≡ graph_refusal g → k ≡ 0 → b ≡ legal g s → b ≡ true → 0 ≡ state_refusal g s
  unfolding state_refusal
  state_right e n l t = sym (skips _ (sym e ∙ n) ∙ rw (← l, t))

  pub state_wrong : graph_refusal g ≡ 0 → {b : Bool} → b ≡ legal g s → b ≡ false → 17 ≡ state_refusal g s
  unfolding state_refusal
  state_wrong z l t = sym (skips _ z ∙ rw (← l, t))

  picked : (b : Bool) → ◌≡◌ {A = ℕ} (pick b 0 17) 0 → b ≡ true
  picked true e = refl
  picked false e = let z : ◌≡◌ {A = ℕ} 17 0 = e in absurd (omega arith)

  -- what a state that is not refused has
  pub state_known : state_refusal g s ≡ 0 → (graph_refusal g ≡ 0) × (legal g s ≡ true)
  unfolding state_refusal
  state_known e = let p = first_zero (graph_refusal g) (pick (legal g s) 0 17) e in (p.0, picked (legal g s) p.1)

pub placed : (g : List ℕ) (i len : ℕ) → graph_refusal g ≡ 0 → len ≡ state_length g → i < node_count g → Placed g i len
placed g i len e l h =
    let a = accepted g e in
    record { shaped = a.shape; node = h; ins = input_below_lem g a i; outs = output_below g a i; size = l }

-- ---- fire

module _ (g s : List ℕ) (i : ℕ) where
  refused : (e : Refusal) → number_of e ≡ fire_refusal g s i → FireAnswer g s i (Err e) s
  unfolding fire_answer fire_state
  refused e q =
      let z = ne_eqb (number_of e) 0 (not_zero e) in
      fire_answers g s i (Err e) s (rw (← q, z, refusal_is e)) (rw (← q, z))

  pub fire_state_lem : {A : Type 0} {r : Result A Refusal} → answer_number r ≡ state_refusal g s → (e : Refusal) → r ≡ Err e → FireAnswer g s i (Err e) s
  unfolding fire_refusal
  fire_state_lem q e w =
      let n : number_of e ≡ state_refusal g s = sym (ap answer_number w) ∙ q in
      refused e (n ∙ sym (stops (pick (ltb i (node_count g)) 0 18) (λ z. not_zero e (n ∙ z))))

  pub fire_order : state_refusal g s ≡ 0 → node_count g ≤ i → FireAnswer g s i (Err Order) s
  unfolding fire_refusal
  fire_order z h = refused Order (sym (skips _ z ∙ rw (le-ltb _ _ h)))

  goes : state_refusal g s ≡ 0 → i < node_count g → fire_refusal g s i ≡ 0
  unfolding fire_refusal
  goes z h = skips _ z ∙ rw (lt-ltb _ _ h)

  pub fire_done : {t : Bool} {s1 : List ℕ} → state_refusal g s ≡ 0 → i < node_count g
      → (t ≡ is_ready (fire (net_of g) i s)) × (s1 ≡ or_else (fire (net_of g) i s) s) → t ≡ true → FireAnswer g s i (Ok Done) s1
  unfolding fire_answer fire_state
  fire_done {s1 = s1} z h p t = let q = goes z h in fire_answers g s i (Ok Done) s1 (rw (q, ← p.0, t)) (rw q p.1)

  pub fire_waits : {t : Bool} {s1 : List ℕ} → state_refusal g s ≡ 0 → i < node_count g
      → (t ≡ is_ready (fire (net_of g) i s)) × (s1 ≡ or_else (fire (net_of g) i s) s) → t ≡ false → FireAnswer g s i (Ok NotReady) s1
  unfolding fire_answer fire_state
  fire_waits {s1 = s1} z h p t = let q = goes z h in fire_answers g s i (Ok NotReady) s1 (rw (q, ← p.0, t)) (rw q p.1)
