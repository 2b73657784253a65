-- What the code's test of a waiting node reads: the row's wires are in the graph and in the state, and the test on them is the test on the
-- node's view (`waits_is`).
-- Assumes nothing.
use Prim.Native.Nat.{ℕ, zero, suc, ◌+◌, ◌*◌, ◌<◌}
use mathlib.Core.Path.{◌≡◌, refl, sym, ap, ap₂, ◌∙◌}
use mathlib.Core.Bool.{Bool, true, not, ◌||◌}
use mathlib.Core.List.{List}
use mathlib.Core.Option.{Option, none, some}
use native.Mathlib.Omega.{arith}
use lib.ListN.{get_or, length}
use Rattle.step.specs.Kinds.{Kind, kind_of, STREAM, GATE, CARRY, INVARIANT, SPLIT, FORK, DRAIN, OP, PICK, Input, in0, in1, in2, out0, out1}
use Rattle.step.specs.Firing.{View}
use Rattle.step.specs.Named.{named}
use Rattle.step.specs.declared.Kind.{Kind as Code}
use Rattle.graph.specs.Graph.{Node, row_at, node_at, wire_count, row_place, has_input, has_output, wire_on, input_of, output_of}
use Rattle.graph.proofs.Rows.{node_is_row}
use Rattle.state.specs.State.{token, is_empty, token_at, token_on, has_room, record_at}
use Rattle.state.specs.Net.{view, net_of}
use Rattle.firing.specs.Acted.{Placed}
use Rattle.firing.specs.Waiting.{waits_on, empty_at, is_none, waiting_at}

-- ---- a kind, as it was read

pub kind_is : {κ l : Code} (n : ℕ) → some (named κ) ≡ kind_of n → κ ≡ l → kind_of n ≡ some (named l)
kind_is n e q = sym e ∙ ap (λ (x : Code). some (named x)) q

-- ---- later phases

stream_later : (p : ℕ) (a b c o : Bool) → (p ≡ 0 → ⊥) → waits_on STREAM p a b c o ≡ not o
stream_later zero a b c o h = absurd (h refl)
stream_later (suc p) a b c o h = refl

carry_later : (p : ℕ) (a b c o : Bool) → (p ≡ 0 → ⊥) → (p ≡ 1 → ⊥) → waits_on CARRY p a b c o ≡ c
carry_later zero a b c o h k = absurd (h refl)
carry_later (suc zero) a b c o h k = absurd (k refl)
carry_later (suc (suc p)) a b c o h k = refl

invariant_later : (p : ℕ) (a b c o : Bool) → (p ≡ 0 → ⊥) → waits_on INVARIANT p a b c o ≡ a
invariant_later zero a b c o h = absurd (h refl)
invariant_later (suc p) a b c o h = refl

-- ---- a row's wires

abbrev node_from : List ℕ → ℕ → Kind → Node
node_from g p κ =
    record {
      kind = κ;
      code = get_or g (p + 1) 0;
      sort = get_or g (p + 2) 0;
      wire0 = get_or g (p + 3) 0;
      wire1 = get_or g (p + 4) 0;
      wire2 = get_or g (p + 5) 0;
      first = get_or g (p + 6) 0;
    }

abbrev view_from : ℕ → Option Node → List ℕ → ℕ → View
view_from W o s i =
    record {
      word0 = token_on s (input_of o in0);
      word1 = token_on s (input_of o in1);
      word2 = token_on s (input_of o in2);
      room0 = has_room s (output_of o out0);
      room1 = has_room s (output_of o out1);
      own = record_at W s i;
    }

none_is_empty : (f x : ℕ) → is_none (token f x) ≡ is_empty f
none_is_empty zero x = refl
none_is_empty (suc f) x = refl

module _ (g s : List ℕ) (i at : ℕ) (P : Placed g i (length s)) (e : at ≡ row_place g i) where
  pub in_graph : (k : ℕ) → k < 7 → at + k < length g
  in_graph k h = let w = P.shaped.whole in let n = P.node in omega arith

  no_node : kind_of (get_or g at 0) ≡ none → node_at g i ≡ none
  unfolding row_at
  no_node q = node_is_row g i P.node e ∙ rw q

  module _ (κ : Kind) (h : kind_of (get_or g at 0) ≡ some κ) where
    here : node_at g i ≡ some (node_from g at κ)
    unfolding row_at
    here = node_is_row g i P.node e ∙ rw h

    pub input_in_state : (k : Input) → has_input κ k ≡ true → 2 * wire_on (node_from g at κ) k + 1 < length s
    input_in_state k t =
        let w = P.ins k (wire_on (node_from g at κ) k) (ap (λ (o : Option Node). input_of o k) here ∙ rw t) in
        let z = P.size in
        omega arith

    pub output_in_state : has_output κ out0 ≡ true → 2 * get_or g (at + 6) 0 + 1 < length s
    output_in_state t =
        let w = P.outs out0 (get_or g (at + 6) 0 + 0) (ap (λ (o : Option Node). output_of o out0) here ∙ rw t) in
        let z = P.size in
        omega arith

  wire_empty : (k : ℕ) → is_none (token_at s (get_or g (at + k) 0)) ≡ empty_at g s (at + k)
  wire_empty k = none_is_empty (get_or s (2 * get_or g (at + k) 0) 0) (get_or s (2 * get_or g (at + k) 0 + 1) 0)

  first_empty : is_empty (get_or s (2 * (get_or g (at + 6) 0 + 0)) 0) ≡ empty_at g s (at + 6)
  first_empty = ap (λ (w : ℕ). is_empty (get_or s (2 * w) 0)) (omega arith)

  either_empty : (is_none (token_at s (get_or g (at + 3) 0)) || is_none (token_at s (get_or g (at + 4) 0))) ≡ (empty_at g s (at + 3) || empty_at g s (at + 4))
  either_empty = ap₂ (λ (a b : Bool). a || b) (wire_empty 3) (wire_empty 4)

  by_kind : (κ : Kind) (p : ℕ)
      → waits_on κ p (is_none (token_on s (input_of (some (node_from g at κ)) in0))) (is_none (token_on s (input_of (some (node_from g at κ)) in1)))
      (is_none (token_on s (input_of (some (node_from g at κ)) in2))) (has_room s (output_of (some (node_from g at κ)) out0))
      ≡ waits_on κ p (empty_at g s (at + 3)) (empty_at g s (at + 4)) (empty_at g s (at + 5)) (empty_at g s (at + 6))
  by_kind STREAM zero = wire_empty 3
  by_kind STREAM (suc p) = ap not first_empty
  by_kind GATE p = either_empty
  by_kind CARRY zero = wire_empty 4
  by_kind CARRY (suc zero) = wire_empty 3
  by_kind CARRY (suc (suc p)) = wire_empty 5
  by_kind INVARIANT zero = wire_empty 4
  by_kind INVARIANT (suc p) = wire_empty 3
  by_kind SPLIT p = either_empty
  by_kind FORK p = ap₂ (λ (a b : Bool). a || not b) (wire_empty 3) first_empty
  by_kind DRAIN p = wire_empty 3
  by_kind OP p = either_empty
  by_kind PICK p = either_empty

  module _ (κ : Kind) (h : kind_of (get_or g at 0) ≡ some κ) (W p : ℕ) (eW : W ≡ wire_count g) (ep : get_or s (2 * W + 4 * i) 0 ≡ p) where
    pub waits_is :
        waiting_at (node_at g i) (view (net_of g) i s)
        ≡ waits_on κ p (empty_at g s (at + 3)) (empty_at g s (at + 4)) (empty_at g s (at + 5)) (empty_at g s (at + 6))
    waits_is =
        let phase : get_or s (2 * wire_count g + 4 * i) 0 ≡ p = ap (λ (n : ℕ). get_or s (2 * n + 4 * i) 0) (sym eW) ∙ ep in
        ap (λ (o : Option Node). waiting_at o (view_from (wire_count g) o s i)) (here κ h)
        ∙ by_kind κ (get_or s (2 * wire_count g + 4 * i) 0)
        ∙ ap (λ (q : ℕ). waits_on κ q (empty_at g s (at + 3)) (empty_at g s (at + 4)) (empty_at g s (at + 5)) (empty_at g s (at + 6))) phase

  module _ (W : ℕ) (eW : W ≡ wire_count g) (later : get_or s (2 * W + 4 * i) 0 ≡ 0 → ⊥) where
    pub later_stream_is : kind_of (get_or g at 0) ≡ some STREAM → waiting_at (node_at g i) (view (net_of g) i s) ≡ not (empty_at g s (at + 6))
    later_stream_is h = waits_is STREAM h W _ eW refl ∙ stream_later (get_or s (2 * W + 4 * i) 0) _ _ _ _ later

    pub later_carry_is : kind_of (get_or g at 0) ≡ some CARRY → (get_or s (2 * W + 4 * i) 0 ≡ 1 → ⊥)
        → waiting_at (node_at g i) (view (net_of g) i s) ≡ empty_at g s (at + 5)
    later_carry_is h last = waits_is CARRY h W _ eW refl ∙ carry_later (get_or s (2 * W + 4 * i) 0) _ _ _ _ later last

    pub later_invariant_is : kind_of (get_or g at 0) ≡ some INVARIANT → waiting_at (node_at g i) (view (net_of g) i s) ≡ empty_at g s (at + 3)
    later_invariant_is h = waits_is INVARIANT h W _ eW refl ∙ invariant_later (get_or s (2 * W + 4 * i) 0) _ _ _ _ later

  -- a number that is no kind
  pub no_kind_waits : kind_of (get_or g at 0) ≡ none → true ≡ waiting_at (node_at g i) (view (net_of g) i s)
  no_kind_waits h = sym (ap (λ (o : Option Node). waiting_at o (view_from (wire_count g) o s i)) (no_node h))
