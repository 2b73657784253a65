-- What an accepted graph is: the facts that the refusals 11 to 15 leave.
--
--   Row                 what is known of one node's row
--   Accepted            what is known of the whole graph
--   accepted            a graph that is not refused is accepted
--
-- Assumes nothing.
use Rattle.std.specs.Prelude.{ℕ, ◌<◌, ◌≡◌, refl, ◌⊎◌, Bool, true, false, List, eqb, ltb, get_or}
use Rattle.std.proofs.Common.{sym, ap, ◌∙◌, inl, inr, arith, ltb-true, eqb-true, ne_eqb}
use Rattle.std.proofs.Math.Option.{Option, none, some}
use Rattle.word.specs.Words.{pick}
use Rattle.step.specs.Kinds.{outputs, codes, own_sorts, input_sort, Input, in0, in1, in2}
use Rattle.graph.specs.Below.{every, every_each, times}
use Rattle.step.specs.Kept.{and_true}
use Rattle.graph.specs.Graph.{absent, node_count, wire_count, start_count, result_count, start_kind_at, start_word_at, inputs_before, result_at, row_place, Node, row_at, node_at, has_input, wire_on, input_of, input_at, first_at, reads, wire_sorts, sort_at}
use Rattle.graph.specs.Refusal.{has_shape, Shaped, shaped, start_right, every_input, spare_input, first_output, row_right, rows_right, start_is_right, node_is_right, wires_are_all_outputs, input_below, row_below, wires_below, node_is_below, result_is_below, once_read, read_once, input_sorted, row_sorted, node_sorted, result_sorted, sorts_agree, graph_refusal}

-- Node i: its row, code and sort in their lists, X where a place is absent, and outputs numbered on from the outputs before it.
pub record Row (g : List ℕ) (i : ℕ) : Type 0 where
  pub node : Node
  pub here : node_at g i ≡ some node
  pub code_below : node.code < codes node.kind
  pub sort_below : node.sort < own_sorts node.kind
  pub spare : (k : Input) → has_input node.kind k ≡ false → wire_on node k ≡ absent
  pub numbered : 0 < outputs node.kind → node.first ≡ first_at g i
  pub unnumbered : outputs node.kind ≡ 0 → node.first ≡ absent

pub record Accepted (g : List ℕ) : Type 0 where
  pub shape : Shaped g
  pub starts : (k : ℕ) → k < start_count g → ((start_kind_at g k ≡ 0) × (start_word_at g k ≡ inputs_before g k)) ⊎ (start_kind_at g k ≡ 1)
  pub rows : (i : ℕ) → i < node_count g → Row g i
  pub wires : wire_count g ≡ first_at g (node_count g)
  pub inputs_below : (i : ℕ) (k : Input) (w : ℕ) → input_at g i k ≡ some w → w < wire_count g
  pub results_below : (k : ℕ) → k < result_count g → result_at g k < wire_count g
  pub once : (w : ℕ) → w < wire_count g → times w (reads g) ≡ 1
  pub inputs_sorted : (i : ℕ) (nd : Node) → node_at g i ≡ some nd → (k : Input) (w : ℕ) → input_at g i k ≡ some w
      → sort_at g w ≡ input_sort nd.kind nd.sort k
  pub results_sorted : (k : ℕ) → k < result_count g → sort_at g (result_at g k) ≡ 0

-- ---- a place that a kind has

pub picked {ℓ} : {A : Type ℓ} (b : Bool) (x y : A) → pick b (some x) none ≡ some y → (b ≡ true) × (x ≡ y)
picked true x y e = (refl, cc)
picked false x y e = let z : ◌≡◌ {A = ℕ} 0 1 = cc in absurd (omega arith)

pub node_in_range : (g : List ℕ) (i : ℕ) (nd : Node) → node_at g i ≡ some nd → i < node_count g
unfolding node_at
node_in_range g i nd e = ltb-true i (node_count g) (go (ltb i (node_count g)) (row_at g (row_place g i)) e)
  where
    go : (b : Bool) (o : Option Node) → pick b o none ≡ some nd → b ≡ true
    go true o e = refl
    go false o e = let z : ◌≡◌ {A = ℕ} 0 1 = cc in absurd (omega arith)

-- A wire on an input is the wire of a row that has this input.
pub input_of_node : (o : Option Node) (k : Input) (w : ℕ) → input_of o k ≡ some w
    → (nd : Node) × (o ≡ some nd) × (has_input nd.kind k ≡ true) × (wire_on nd k ≡ w)
input_of_node none k w e = let z : ◌≡◌ {A = ℕ} 0 1 = cc in absurd (omega arith)
input_of_node (some nd) k w e = let p = picked (has_input nd.kind k) (wire_on nd k) w e in (nd, refl, p.0, p.1)

-- ---- one row

each_input : (test : Input → Bool) → every_input test ≡ true → (k : Input) → test k ≡ true
each_input test e in0 = (and_true (test in0) _ e).0
each_input test e in1 = (and_true (test in1) (test in2) (and_true (test in0) _ e).1).0
each_input test e in2 = (and_true (test in1) (test in2) (and_true (test in0) _ e).1).1

spare_is_absent : (b : Bool) (w : ℕ) → pick b true (eqb w absent) ≡ true → b ≡ false → w ≡ absent
spare_is_absent true w e f = let z : ◌≡◌ {A = ℕ} 0 1 = cc in absurd (omega arith)
spare_is_absent false w e f = eqb-true w absent e

right_row : (g : List ℕ) (i : ℕ) (o : Option Node) → node_at g i ≡ o → row_right o (first_at g i) ≡ true → Row g i
unfolding row_right
right_row g i none e t = let z : ◌≡◌ {A = ℕ} 0 1 = cc in absurd (omega arith)
right_row g i (some nd) e t =
    let p0 = and_true (ltb nd.code (codes nd.kind)) _ t in
    let p1 = and_true (ltb nd.sort (own_sorts nd.kind)) _ p0.1 in
    let p2 = and_true (every_input (λ k. spare_input nd.kind k (wire_on nd k))) _ p1.1 in
    let first : nd.first ≡ first_output nd.kind (first_at g i) = eqb-true _ _ p2.1 in
    record {
      node = nd;
      here = e;
      code_below = ltb-true _ _ p0.0;
      sort_below = ltb-true _ _ p1.0;
      spare = λ k h. spare_is_absent (has_input nd.kind k) (wire_on nd k) (each_input (λ k. spare_input nd.kind k (wire_on nd k)) p2.0 k) h;
      numbered = λ h. first ∙ rw (ne_eqb (outputs nd.kind) 0 (λ z. omega arith));
      unnumbered = λ h. first ∙ rw h;
    }

start_row : (g : List ℕ) (k : ℕ) → start_right g k ≡ true → ((start_kind_at g k ≡ 0) × (start_word_at g k ≡ inputs_before g k)) ⊎ (start_kind_at g k ≡ 1)
unfolding start_right
start_row g k e = go (eqb (start_kind_at g k) 0) refl e
  where
    go : (b : Bool) → eqb (start_kind_at g k) 0 ≡ b → pick b (eqb (start_word_at g k) (inputs_before g k)) (eqb (start_kind_at g k) 1) ≡ true
        → ((start_kind_at g k ≡ 0) × (start_word_at g k ≡ inputs_before g k)) ⊎ (start_kind_at g k ≡ 1)
    go true q t = inl (eqb-true _ _ q, eqb-true _ _ t)
    go false q t = inr (eqb-true _ _ t)

below_where : (b : Bool) (w wires : ℕ) → pick b (ltb w wires) true ≡ true → b ≡ true → w < wires
below_where true w wires e t = ltb-true w wires e
below_where false w wires e t = let z : ◌≡◌ {A = ℕ} 0 1 = cc in absurd (omega arith)

row_below_lem : (o : Option Node) (wires : ℕ) → row_below o wires ≡ true → (k : Input) (w : ℕ) → input_of o k ≡ some w → w < wires
unfolding row_below
row_below_lem none wires t k w e = let z : ◌≡◌ {A = ℕ} 0 1 = cc in absurd (omega arith)
row_below_lem (some nd) wires t k w e =
    let p = picked (has_input nd.kind k) (wire_on nd k) w e in
    let q = below_where (has_input nd.kind k) (wire_on nd k) wires (each_input (λ k. input_below nd.kind k (wire_on nd k) wires) t k) p.0 in
    let same = p.1 in
    omega arith

sorted_where : (b : Bool) (s q : ℕ) → pick b (eqb s q) true ≡ true → b ≡ true → s ≡ q
sorted_where true s q e t = eqb-true s q e
sorted_where false s q e t = let z : ◌≡◌ {A = ℕ} 0 1 = cc in absurd (omega arith)

row_sorted_lem : (sorts : List ℕ) (nd : Node) → row_sorted sorts (some nd) ≡ true → (k : Input) (w : ℕ) → input_of (some nd) k ≡ some w
    → get_or sorts w 0 ≡ input_sort nd.kind nd.sort k
unfolding row_sorted
row_sorted_lem sorts nd t k w e =
    let p = picked (has_input nd.kind k) (wire_on nd k) w e in
    rw (← p.1) (sorted_where (has_input nd.kind k) _ _ (each_input (λ k. input_sorted sorts nd.kind nd.sort k (wire_on nd k)) t k) p.0)

-- ---- the whole graph

pub record Passed (g : List ℕ) : Type 0 where
  pub shape : has_shape g ≡ true
  pub rows : rows_right g ≡ true
  pub below : wires_below g ≡ true
  pub readers : read_once g ≡ true
  pub sorts : sorts_agree g ≡ true

-- Not refused, so each test was passed.
pub passed : (g : List ℕ) → graph_refusal g ≡ 0 → Passed g
unfolding graph_refusal
passed g e =
    let p0 = unrefused (has_shape g) _ 11 (λ z. omega arith) e in
    let p1 = unrefused (rows_right g) _ 12 (λ z. omega arith) p0.1 in
    let p2 = unrefused (wires_below g) _ 13 (λ z. omega arith) p1.1 in
    let p3 = unrefused (read_once g) _ 14 (λ z. omega arith) p2.1 in
    let p4 = unrefused (sorts_agree g) _ 15 (λ z. omega arith) p3.1 in
    record { shape = p0.0; rows = p1.0; below = p2.0; readers = p3.0; sorts = p4.0 }
  where
    unrefused : (b : Bool) (rest number : ℕ) → (number ≡ 0 → ⊥) → pick b rest number ≡ 0 → (b ≡ true) × (rest ≡ 0)
    unrefused true rest number h e = (refl, e)
    unrefused false rest number h e = absurd (h e)

pub accepted : (g : List ℕ) → graph_refusal g ≡ 0 → Accepted g
unfolding read_once sorts_agree
accepted g e =
    let t = passed g e in
    let sorts = and_true (every (node_count g) (node_sorted g)) (every (result_count g) (result_sorted g)) t.sorts in
    record {
      shape = shaped g t.shape;
      starts = λ k h. start_row g k (start_is_right g t.rows k h);
      rows = λ i h. right_row g i (node_at g i) refl (node_is_right g t.rows i h);
      wires = wires_are_all_outputs g t.rows;
      inputs_below = λ i k w h.
          let nd = input_of_node (node_at g i) k w h in
          row_below_lem (node_at g i) (wire_count g) (node_is_below g t.below i (node_in_range g i nd.0 nd.1)) k w h;
      results_below = result_is_below g t.below;
      once = λ w h. eqb-true (times w (reads g)) 1 (every_each (once_read g) (wire_count g) t.readers w h);
      inputs_sorted = λ i nd here k w h.
          row_sorted_lem (wire_sorts g) nd (ap (row_sorted (wire_sorts g)) (sym here) ∙ every_each (node_sorted g) (node_count g) sorts.0 i (node_in_range g i nd here))
          k w (ap (λ o. input_of o k) (sym here) ∙ h);
      results_sorted = λ k h. eqb-true (sort_at g (result_at g k)) 0 (every_each (result_sorted g) (result_count g) sorts.1 k h);
    }
