-- The facts of an accepted graph are enough: whoever has them need not compute the refusal.
--
--   accepted_is_not_refused       the converse of `accepted`
--
-- Idea. Each test is made of tests of one start, node, wire or result; each of these is one of the facts.
-- Assumes nothing.
use Rattle.std.specs.Prelude.{ℕ, zero, suc, ◌+◌, ◌<◌, ◌≤◌, ◌≡◌, refl, ◌⊎◌, Bool, true, false, List, eqb, ltb, get_or}
use Rattle.std.proofs.Common.{inl, inr, arith}
use Rattle.std.proofs.Math.Option.{some}
use borrow.Author.Tests.{lt-ltb, le-leb, eq-eqb, ne_eqb}
use Rattle.word.specs.Words.{pick}
use Rattle.step.specs.Kinds.{outputs, input_sort, Input, in0, in1, in2}
use Rattle.graph.specs.Below.{every, every_from, times}
use Rattle.graph.specs.Graph.{absent, node_count, wire_count, start_count, result_count, start_kind_at, start_word_at, inputs_before, result_at, has_input, wire_on, input_at, first_at, reads, wire_sorts, sort_at}
use Rattle.graph.specs.Refusal.{has_shape, Shaped, start_right, every_input, spare_input, row_right, node_right, rows_right, input_below, row_below, node_below, result_below, wires_below, once_read, read_once, input_sorted, row_sorted, node_sorted, result_sorted, sorts_agree, graph_refusal}
use Rattle.graph.specs.Accepted.{Row, Accepted}

every_from_lem : (test : ℕ → Bool) (m from : ℕ) → ((i : ℕ) → from ≤ i → i < from + m → test i ≡ true) → every_from m from test ≡ true
unfolding every_from
every_from_lem test zero from h = refl
every_from_lem test (suc m) from h =
    rw (h from (omega arith) (omega arith)) (every_from_lem test m (from + 1) (λ i l u. h i (omega arith) (omega arith)))

pub every_one : (test : ℕ → Bool) (n : ℕ) → ((i : ℕ) → i < n → test i ≡ true) → every n test ≡ true
every_one test n h = every_from_lem test n 0 (λ i l u. h i (omega arith))

every_input_lem : (test : Input → Bool) → ((k : Input) → test k ≡ true) → every_input test ≡ true
every_input_lem test h = rw (h in0, h in1, h in2)

shape_right : (g : List ℕ) → Shaped g → has_shape g ≡ true
unfolding has_shape
shape_right g s =
    rw (
      le-leb _ _ s.long,
      le-leb _ _ s.nodes,
      le-leb _ _ s.wires,
      le-leb _ _ s.starts,
      le-leb _ _ s.results,
      eq-eqb _ _ s.whole,
    )

-- ---- one start, one node

start_right_lem : (g : List ℕ) (k : ℕ) → ((start_kind_at g k ≡ 0) × (start_word_at g k ≡ inputs_before g k)) ⊎ (start_kind_at g k ≡ 1) → start_right g k ≡ true
unfolding start_right
start_right_lem g k (inl h) = rw (h.0, eq-eqb _ _ h.1)
start_right_lem g k (inr h) = rw h

spare_right_lem : (b : Bool) (w : ℕ) → (b ≡ false → w ≡ absent) → pick b true (eqb w absent) ≡ true
spare_right_lem true w h = refl
spare_right_lem false w h = eq-eqb w absent (h refl)

first_right : (m first next : ℕ) → (0 < m → first ≡ next) → (m ≡ 0 → first ≡ absent) → eqb first (pick (eqb m 0) absent next) ≡ true
first_right zero first next h z = eq-eqb _ _ (z refl)
first_right (suc m) first next h z = rw (ne_eqb (suc m) 0 (λ e. omega arith)) (eq-eqb _ _ (h (omega arith)))

asked : (b t : Bool) → (b ≡ true → t ≡ true) → pick b t true ≡ true
asked true t h = h refl
asked false t h = refl

module _ (g : List ℕ) (a : Accepted g) where
  module _ (i : ℕ) (r : Row g i) where
    node_right_lem : node_right g i ≡ true
    unfolding row_right
    node_right_lem =
        let nd = r.node in
        rw (
          r.here,
          lt-ltb _ _ r.code_below,
          lt-ltb _ _ r.sort_below,
          every_input_lem (λ k. spare_input nd.kind k (wire_on nd k)) (λ k. spare_right_lem (has_input nd.kind k) (wire_on nd k) (r.spare k)),
        )
        (first_right (outputs nd.kind) nd.first (first_at g i) r.numbered r.unnumbered)

    input_there : (k : Input) → has_input r.node.kind k ≡ true → input_at g i k ≡ some (wire_on r.node k)
    input_there k h = rw (r.here, h)

    node_below_lem : node_below g i ≡ true
    unfolding row_below
    node_below_lem =
        let nd = r.node in
        rw r.here
        (every_input_lem (λ k. input_below nd.kind k (wire_on nd k) (wire_count g))
        (λ k. asked (has_input nd.kind k) (ltb (wire_on nd k) (wire_count g)) (λ h. lt-ltb _ _ (a.inputs_below i k (wire_on nd k) (input_there k h)))))

    node_sorted_lem : node_sorted g i ≡ true
    unfolding row_sorted
    node_sorted_lem =
        let nd = r.node in
        rw r.here
        (every_input_lem (λ k. input_sorted (wire_sorts g) nd.kind nd.sort k (wire_on nd k))
        (λ k. asked (has_input nd.kind k) (eqb (get_or (wire_sorts g) (wire_on nd k) 0) (input_sort nd.kind nd.sort k))
        (λ h. eq-eqb _ _ (a.inputs_sorted i nd r.here k (wire_on nd k) (input_there k h)))))

  -- ---- the whole graph

  pub rows_right_lem : rows_right g ≡ true
  unfolding rows_right
  rows_right_lem =
      rw (
        every_one (start_right g) (start_count g) (λ k h. start_right_lem g k (a.starts k h)),
        every_one (node_right g) (node_count g) (λ i h. node_right_lem i (a.rows i h)),
      )
      (eq-eqb (wire_count g) (first_at g (node_count g)) a.wires)

  wires_below_lem : wires_below g ≡ true
  unfolding wires_below
  wires_below_lem =
      rw (every_one (node_below g) (node_count g) (λ i h. node_below_lem i (a.rows i h)))
      (every_one (result_below g) (result_count g) (λ k h. lt-ltb _ _ (a.results_below k h)))

  read_once_lem : read_once g ≡ true
  unfolding read_once
  read_once_lem = every_one (once_read g) (wire_count g) (λ w h. eq-eqb (times w (reads g)) 1 (a.once w h))

  sorts_agree_lem : sorts_agree g ≡ true
  unfolding sorts_agree
  sorts_agree_lem =
      rw (every_one (node_sorted g) (node_count g) (λ i h. node_sorted_lem i (a.rows i h)))
      (every_one (result_sorted g) (result_count g) (λ k h. eq-eqb (sort_at g (result_at g k)) 0 (a.results_sorted k h)))

  pub accepted_is_not_refused : graph_refusal g ≡ 0
  unfolding graph_refusal
  accepted_is_not_refused = rw (shape_right g a.shape, rows_right_lem, wires_below_lem, read_once_lem, sorts_agree_lem)
