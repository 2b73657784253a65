-- Rows as the code reads them: node i stands at its row's place, and each test of a row in terms of the words there.
-- The kind's number may be no kind; the columns of the table of kinds are then 0, and so the tests agree there too.
-- Assumes nothing.
use Prim.Native.Nat.{ℕ, ◌+◌, ◌<◌, ◌≤◌}
use mathlib.Core.Path.{◌≡◌, refl, sym, ap, ◌∙◌, subst}
use mathlib.Core.Bool.{Bool, true, false, ◌&&◌}
use mathlib.Core.List.{List, [], ◌∷◌, ◌++◌}
use mathlib.Core.Option.{Option, none, some}
use native.Mathlib.Omega.{arith}
use borrow.Author.Tests.{lt-ltb, le-ltb, ltb-true}
use lib.Dec.{eqb, ltb}
use lib.ListN.{get_or}
use Rattle.word.specs.Words.{pick}
use Rattle.step.specs.Kinds.{Kind, kind_of, inputs, outputs, codes, own_sorts, Input, in0, in1, in2, STREAM, GATE, CARRY, INVARIANT, SPLIT, FORK, DRAIN, OP, PICK}
use Rattle.std.specs.Prelude.{Option as Maybe, None, Some, IfSome}
use Rattle.std.specs.Bool.{then_some}
use Rattle.graph.specs.Said.{inputs_read}
use Rattle.step.specs.Kept.{and_true}
use Rattle.graph.specs.Graph.{absent, wire_count, start_kind_at, start_word_at, inputs_before, node_count, row_place, node_of, row_at, node_at, input_place, column, output_count, listed, node_reads}
use Rattle.graph.specs.Refusal.{start_right, row_right, row_below, node_below}

pub node_is_row : (g : List ℕ) (i : ℕ) {p : ℕ} → i < node_count g → p ≡ row_place g i → node_at g i ≡ row_at g p
unfolding node_at
node_is_row g i h e = rw (lt-ltb _ _ h, e)

pub start_right_is : (g : List ℕ) (k : ℕ) {inputs : ℕ} {r : Bool} → inputs ≡ inputs_before g k
    → r ≡ pick (eqb (start_kind_at g k) 0) (eqb (start_word_at g k) inputs) (eqb (start_kind_at g k) 1) → r ≡ start_right g k
unfolding start_right
start_right_is g k e h = rw (← e) h

abbrev spare_at : Option Kind → Input → ℕ → Bool
spare_at o k w = pick (ltb (input_place k) (column inputs o)) true (eqb w absent)

right_by_columns : (o : Option Kind) (c s w0 w1 w2 f next : ℕ)
    → row_right (node_of o c s w0 w1 w2 f) next
    ≡ (ltb c (column codes o)
    && (ltb s (column own_sorts o)
    && ((spare_at o in0 w0 && (spare_at o in1 w1 && spare_at o in2 w2)) && eqb f (pick (eqb (column outputs o) 0) absent next))))
unfolding row_right
right_by_columns none c s w0 w1 w2 f next = rw (le-ltb c 0 (omega arith))
right_by_columns (some κ) c s w0 w1 w2 f next = refl

pub outputs_small : (o : Option Kind) → column outputs o ≤ 2
outputs_small none = omega arith
outputs_small (some STREAM) = omega arith
outputs_small (some GATE) = omega arith
outputs_small (some CARRY) = omega arith
outputs_small (some INVARIANT) = omega arith
outputs_small (some SPLIT) = omega arith
outputs_small (some FORK) = omega arith
outputs_small (some DRAIN) = omega arith
outputs_small (some OP) = omega arith
outputs_small (some PICK) = omega arith

outputs_by_column : (o : Option Kind) (c s w0 w1 w2 f : ℕ) → output_count (node_of o c s w0 w1 w2 f) ≡ column outputs o
outputs_by_column none c s w0 w1 w2 f = refl
outputs_by_column (some κ) c s w0 w1 w2 f = refl

abbrev pub below_at : Option Kind → Input → ℕ → ℕ → Bool
below_at o k w wires = pick (ltb (input_place k) (column inputs o)) (ltb w wires) true

where_has : (b : Bool) {w wires : ℕ} → pick b (ltb w wires) true ≡ true → b ≡ true → w < wires
where_has true {w} {wires} e t = ltb-true w wires e
where_has false e t = let z : ◌≡◌ {A = ℕ} 0 1 = cc in absurd (omega arith)

below_by_columns : (o : Option Kind) (c s w0 w1 w2 f wires : ℕ)
    → row_below (node_of o c s w0 w1 w2 f) wires ≡ (below_at o in0 w0 wires && (below_at o in1 w1 wires && below_at o in2 w2 wires))
unfolding row_below
below_by_columns none c s w0 w1 w2 f wires = refl
below_by_columns (some κ) c s w0 w1 w2 f wires = refl

abbrev pub read_at : Option Kind → Input → ℕ → List ℕ
read_at o k w = pick (ltb (input_place k) (column inputs o)) (w ∷ []) []

listed_where : (b : Bool) (w : ℕ) → listed (pick b (some w) none) ≡ pick b (w ∷ []) []
listed_where true w = refl
listed_where false w = refl

reads_by_columns : (o : Option Kind) (c s w0 w1 w2 f : ℕ)
    → node_reads (node_of o c s w0 w1 w2 f) ≡ read_at o in0 w0 ++ (read_at o in1 w1 ++ read_at o in2 w2)
reads_by_columns none c s w0 w1 w2 f = refl
reads_by_columns (some κ) c s w0 w1 w2 f =
    rw (listed_where (ltb 0 (inputs κ)) w0, listed_where (ltb 1 (inputs κ)) w1, listed_where (ltb 2 (inputs κ)) w2)

module _ (g : List ℕ) (i p : ℕ) (h : i < node_count g) (e : p ≡ row_place g i) where
  pub right_at : (next : ℕ)
      → row_right (node_at g i) next
      ≡ (ltb (get_or g (p + 1) 0) (column codes (kind_of (get_or g p 0)))
      && (ltb (get_or g (p + 2) 0) (column own_sorts (kind_of (get_or g p 0)))
      && ((spare_at (kind_of (get_or g p 0)) in0 (get_or g (p + 3) 0)
      && (spare_at (kind_of (get_or g p 0)) in1 (get_or g (p + 4) 0) && spare_at (kind_of (get_or g p 0)) in2 (get_or g (p + 5) 0)))
      && eqb (get_or g (p + 6) 0) (pick (eqb (column outputs (kind_of (get_or g p 0))) 0) absent next))))
  unfolding row_at
  right_at next = rw (node_is_row g i h e) (right_by_columns (kind_of (get_or g p 0)) _ _ _ _ _ _ next)

  pub outputs_at : output_count (node_at g i) ≡ column outputs (kind_of (get_or g p 0))
  unfolding row_at
  outputs_at = rw (node_is_row g i h e) (outputs_by_column (kind_of (get_or g p 0)) _ _ _ _ _ _)

  -- Where all tests before hold, the last one decides.
  pub right_to_the_last : (next : ℕ) {kc ks ki f : ℕ} {s0 s1 s2 : Bool}
      → kc ≡ column codes (kind_of (get_or g p 0)) → get_or g (p + 1) 0 < kc
      → ks ≡ column own_sorts (kind_of (get_or g p 0)) → get_or g (p + 2) 0 < ks
      → ki ≡ column inputs (kind_of (get_or g p 0))
      → s0 ≡ pick (ltb 0 ki) true (eqb (get_or g (p + 3) 0) absent) → s0 ≡ true
      → s1 ≡ pick (ltb 1 ki) true (eqb (get_or g (p + 4) 0) absent) → s1 ≡ true
      → s2 ≡ pick (ltb 2 ki) true (eqb (get_or g (p + 5) 0) absent) → s2 ≡ true
      → f ≡ pick (eqb (column outputs (kind_of (get_or g p 0))) 0) absent next
      → eqb (get_or g (p + 6) 0) f ≡ row_right (node_at g i) next
  right_to_the_last next ec hc es hs ei e0 t0 e1 t1 e2 t2 ef =
      rw (right_at next, ← ec, lt-ltb _ _ hc, ← es, lt-ltb _ _ hs, ← ei, ← e0, t0, ← e1, t1, ← e2, t2, ← ef)

  pub below_at_lem : (wires : ℕ)
      → row_below (node_at g i) wires
      ≡ (below_at (kind_of (get_or g p 0)) in0 (get_or g (p + 3) 0) wires
      && (below_at (kind_of (get_or g p 0)) in1 (get_or g (p + 4) 0) wires && below_at (kind_of (get_or g p 0)) in2 (get_or g (p + 5) 0) wires))
  unfolding row_at
  below_at_lem wires = rw (node_is_row g i h e) (below_by_columns (kind_of (get_or g p 0)) _ _ _ _ _ _ wires)

  pub reads_at :
      node_reads (node_at g i)
      ≡ read_at (kind_of (get_or g p 0)) in0 (get_or g (p + 3) 0)
      ++ (read_at (kind_of (get_or g p 0)) in1 (get_or g (p + 4) 0) ++ read_at (kind_of (get_or g p 0)) in2 (get_or g (p + 5) 0))
  unfolding row_at
  reads_at = rw (node_is_row g i h e) (reads_by_columns (kind_of (get_or g p 0)) _ _ _ _ _ _)

  -- What a row below W says of each input that its kind has.
  pub each_below : (wires m : ℕ) → m ≡ column inputs (kind_of (get_or g p 0)) → row_below (node_at g i) wires ≡ true
      → (ltb 0 m ≡ true → get_or g (p + 3) 0 < wires)
      × (ltb 1 m ≡ true → get_or g (p + 4) 0 < wires)
      × (ltb 2 m ≡ true → get_or g (p + 5) 0 < wires)
  each_below wires m em b =
      let o = kind_of (get_or g p 0) in
      let all = sym (below_at_lem wires) ∙ b in
      let three = and_true (below_at o in0 (get_or g (p + 3) 0) wires) (below_at o in1 (get_or g (p + 4) 0) wires && below_at o in2 (get_or g (p + 5) 0) wires) all in
      let two = and_true (below_at o in1 (get_or g (p + 4) 0) wires) (below_at o in2 (get_or g (p + 5) 0) wires) three.1 in
      rw em (where_has (ltb 0 (column inputs o)) three.0, where_has (ltb 1 (column inputs o)) two.0, where_has (ltb 2 (column inputs o)) two.1)

  pub below_to_the_last : (wires : ℕ) {m : ℕ} {b0 b1 b2 : Bool} → m ≡ column inputs (kind_of (get_or g p 0))
      → b0 ≡ pick (ltb 0 m) (ltb (get_or g (p + 3) 0) wires) true → b0 ≡ true
      → b1 ≡ pick (ltb 1 m) (ltb (get_or g (p + 4) 0) wires) true → b1 ≡ true
      → b2 ≡ pick (ltb 2 m) (ltb (get_or g (p + 5) 0) wires) true
      → b2 ≡ row_below (node_at g i) wires
  below_to_the_last wires em e0 t0 e1 t1 e2 = rw (below_at_lem wires, ← em, ← e0, t0, ← e1, t1, ← e2)

-- ---- the wires of a row, where its kind has the places

module _ {A : Type 0} (f : Maybe ℕ → A) where
  chosen : (b : Bool) (w : ℕ) → f (then_some b w) ≡ pick b (f (Some w)) (f None)
  chosen true w = refl
  chosen false w = refl

  pub if_there : (b : Bool) (w : ℕ) {t : Maybe ℕ} → t ≡ then_some b w → f t ≡ pick b (f (Some w)) (f None)
  if_there b w q = ap f q ∙ chosen b w

  module _ (g : List ℕ) (p : ℕ) {ws : List (Maybe ℕ)} (q : ws ≡ inputs_read g p) where
    pub at_input0 : f (get_or ws 0 None) ≡ pick (ltb 0 (column inputs (kind_of (get_or g p 0)))) (f (Some (get_or g (p + 3) 0))) (f None)
    at_input0 = if_there (ltb 0 (column inputs (kind_of (get_or g p 0)))) (get_or g (p + 3) 0) (ap (λ (l : List (Maybe ℕ)). get_or l 0 None) q)

    pub at_input1 : f (get_or ws 1 None) ≡ pick (ltb 1 (column inputs (kind_of (get_or g p 0)))) (f (Some (get_or g (p + 4) 0))) (f None)
    at_input1 = if_there (ltb 1 (column inputs (kind_of (get_or g p 0)))) (get_or g (p + 4) 0) (ap (λ (l : List (Maybe ℕ)). get_or l 1 None) q)

    pub at_input2 : f (get_or ws 2 None) ≡ pick (ltb 2 (column inputs (kind_of (get_or g p 0)))) (f (Some (get_or g (p + 5) 0))) (f None)
    at_input2 = if_there (ltb 2 (column inputs (kind_of (get_or g p 0)))) (get_or g (p + 5) 0) (ap (λ (l : List (Maybe ℕ)). get_or l 2 None) q)

pub below_there : {n : ℕ} (b : Bool) (w : ℕ) {t : Maybe ℕ} → t ≡ then_some b w → (b ≡ true → w < n) → IfSome t (λ x. x < n)
below_there {n} b w q h = subst (λ (t : Maybe ℕ). IfSome t (λ x. x < n)) (sym q) (go b h)
  where
    go : (b : Bool) → (b ≡ true → w < n) → IfSome (then_some b w) (λ x. x < n)
    go true h = h refl
    go false h = tt

module _ (g : List ℕ) (i p : ℕ) (h : i < node_count g) (e : p ≡ row_place g i) (n : ℕ) (small : wire_count g ≤ n) {ws : List (Maybe ℕ)} (q : ws ≡ inputs_read g p) (b : node_below g i ≡ true) where
  pub in_table0 : IfSome (get_or ws 0 None) (λ w. w < n)
  in_table0 = below_there (ltb 0 (column inputs (kind_of (get_or g p 0)))) (get_or g (p + 3) 0) (ap (λ (l : List (Maybe ℕ)). get_or l 0 None) q)
      (λ t. let r = (each_below g i p h e (wire_count g) _ refl b).0 t in omega arith)

  pub in_table1 : IfSome (get_or ws 1 None) (λ w. w < n)
  in_table1 = below_there (ltb 1 (column inputs (kind_of (get_or g p 0)))) (get_or g (p + 4) 0) (ap (λ (l : List (Maybe ℕ)). get_or l 1 None) q)
      (λ t. let r = (each_below g i p h e (wire_count g) _ refl b).1 t in omega arith)

  pub in_table2 : IfSome (get_or ws 2 None) (λ w. w < n)
  in_table2 = below_there (ltb 2 (column inputs (kind_of (get_or g p 0)))) (get_or g (p + 5) 0) (ap (λ (l : List (Maybe ℕ)). get_or l 2 None) q)
      (λ t. let r = (each_below g i p h e (wire_count g) _ refl b).2 t in omega arith)
