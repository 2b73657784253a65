-- WHAT LOWERING WRITES IS ACCEPTED: a table that passes 1 to 9 and has room lowers to a graph that check_graph does not refuse.
--
--   inputs_are_numbered               the inputs are numbered 0, 1, .. in order
--   inputs_are_the_rows               there are as many as INPUT rows
--   lowered_graph_is_accepted         the facts of an accepted graph
--   lowered_graph_is_not_refused      graph_refusal is 0
--
-- Assumes nothing.
use Prim.Native.Nat.{ℕ, zero, suc, ◌+◌, ◌-◌, ◌≤◌, ◌<◌}
use Rattle.std.specs.Prelude.{◌≡◌, ◌⊎◌, Bool, true, false, cond, eqb, leb, get_or}
use Rattle.std.proofs.Math.Path.{refl, ap}
use Rattle.std.proofs.Common.{sym, ap₂, ◌∙◌, inl, inr, leb-true, le-leb, eqb-true}
use mathlib.Core.List.{List, [], ◌∷◌, ◌++◌}
use Rattle.std.proofs.Math.Option.{Option, none, some}
use native.Mathlib.Omega.{arith}
use Rattle.std.proofs.Math.Decide.{dec_lt}
use Rattle.std.proofs.Math.ListN.{length, get_elem?, length-append}
use Rattle.word.specs.Words.{flag, pick}
use Rattle.step.specs.Kinds.{input_sort, Input}
use Rattle.graph.specs.Below.{total}
use Rattle.graph.specs.Graph.{node_count, wire_count, start_count, start_kind_at, start_word_at, inputs_before, result_at, Node, node_at, has_input, wire_on, input_at, output_count, first_at, sort_at}
use Rattle.graph.specs.Refusal.{Shaped, graph_refusal}
use Rattle.graph.specs.Accepted.{Row, Accepted, input_of_node, node_in_range}
use Rattle.graph.specs.Enough.{accepted_is_not_refused}
use Rattle.table.specs.Rows.{kind_at, size, INPUT}
use Rattle.table.specs.Counted.{rows_of}
use Rattle.table.specs.Check.{table_refusal, answer}
use Rattle.structure.specs.Structure.{Structure, passing_table_has_structure}
use Rattle.lowered.specs.Gathered.{those, each}
use Rattle.lowered.specs.Roles.{start, result}
use Rattle.lowered.specs.Lower.{is_start, start_rows, starts, out_rows, lowered_nodes, start_words, node_total, wire_total, start_total, result_total, lowered_words}
use Rattle.lowered.specs.Room.{in_limits}
use Rattle.laid.specs.Lists.{there, in_range, has_elem, elem_left, elem_right, none_some}
use Rattle.laid.specs.Indexed.{total_same, total_along, sum_of, sum_append}
use Rattle.laid.specs.Listed.{and_both}
use Rattle.laid.specs.Those.{rows_counted}
use Rattle.laid.specs.Uses.{result_use_is_listed}
use Rattle.laid.specs.Made.{result_feed, result_source}
use Rattle.laid.specs.Taken.{stands_below, read_once_lem, out_row}
use Rattle.laid.specs.Sorted.{stands_sorted}
use Rattle.laid.specs.Numbered.{right_at, rows_are_right, all_outputs, Fits, fit_at, rows_fit}
use Rattle.laid.specs.Words.{node_in_list, nodes_are_counted, node_count_lem, wire_count_lem, start_count_lem, result_count_lem, words_long, start_kind_at_lem, start_word_at_lem, result_at_lem, node_at_lem}

-- ---- inputs in order: those that pass q, counted along those that pass p
module _ (p q : ℕ → Bool) (all : (v : ℕ) → q v ≡ true → p v ≡ true) where
  abbrev hit : Option ℕ → ℕ
  hit none = 0
  hit (some v) = flag (q v)

  one_more_lem : (n : ℕ) (a b : Bool) → p n ≡ a → q n ≡ b → sum_of (λ v. flag (q v)) (cond a (n ∷ []) []) ≡ length (cond b (n ∷ []) [])
  one_more_lem n true true e d = rw d
  one_more_lem n true false e d = rw d
  one_more_lem n false true e d = let z : ◌≡◌ {A = ℕ} 0 1 = clash in absurd (omega arith)
    where
      clash : ◌≡◌ {A = ℕ} 0 1
      clash = let h : p n ≡ true = all n d in cc
  one_more_lem n false false e d = refl

  counted_all : (n : ℕ) → sum_of (λ v. flag (q v)) (those p n) ≡ length (those q n)
  unfolding those
  counted_all zero = refl
  counted_all (suc n) =
      let r = counted_all n in
      let a = sum_append (λ v. flag (q v)) (those p n) (cond (p n) (n ∷ []) []) in
      let b = length-append (those q n) (cond (q n) (n ∷ []) []) in
      let c = one_more_lem n (p n) (q n) refl refl in
      omega arith

  counted_before : (n k r : ℕ) → get_elem? (those p n) k ≡ some r → total (λ j. hit (get_elem? (those p n) j)) k ≡ length (those q r)
  unfolding those
  counted_before zero k r h = none_some r h
  counted_before (suc n) k r h = elim (dec_lt k (length (those p n))) [ yes l ↦ early l (counted_before n k r) | no l ↦ late (p n) refl h (over k (length (those p n)) l) ]
    where
      over : (a b : ℕ) → (a < b → ⊥) → b ≤ a
      over a b z = omega arith

      same : (j : ℕ) → j < length (those p n) → (ys : List ℕ) → get_elem? (those p n ++ ys) j ≡ get_elem? (those p n) j
      same j l ys = let e = has_elem (those p n) j l in elem_left (those p n) ys j e.0 e.1 ∙ sym e.1

      early : k < length (those p n) → (get_elem? (those p n) k ≡ some r → total (λ j. hit (get_elem? (those p n) j)) k ≡ length (those q r))
          → total (λ j. hit (get_elem? (those p n ++ cond (p n) (n ∷ []) []) j)) k ≡ length (those q r)
      early l ih =
          total_same (λ j. hit (get_elem? (those p n ++ cond (p n) (n ∷ []) []) j)) (λ j. hit (get_elem? (those p n) j)) k (λ j m. ap hit (same j (omega arith) (cond (p n) (n ∷ []) [])))
          ∙ ih (sym (same k l (cond (p n) (n ∷ []) [])) ∙ h)

      last : (b : Bool) (m : ℕ) → get_elem? (cond b (n ∷ []) []) m ≡ some r → (m ≡ 0) × (r ≡ n)
      last true zero e = (refl, cc)
      last true (suc m) e = none_some r e
      last false m e = none_some r e

      late : (b : Bool) → p n ≡ b → get_elem? (those p n ++ cond b (n ∷ []) []) k ≡ some r → length (those p n) ≤ k
          → total (λ j. hit (get_elem? (those p n ++ cond (p n) (n ∷ []) []) j)) k ≡ length (those q r)
      late b e h l =
          let m = k - length (those p n) in
          let z : k ≡ length (those p n) + (k - length (those p n)) = omega arith in
          let g = last b (k - length (those p n)) (sym (elem_right (those p n) (cond b (n ∷ []) []) (k - length (those p n))) ∙ ap (get_elem? (those p n ++ cond b (n ∷ []) [])) (sym z) ∙ h) in
          let g0 = g.0 in
          let d : k ≡ length (those p n) = omega arith in
          ap (total (λ j. hit (get_elem? (those p n ++ cond (p n) (n ∷ []) []) j))) d
          ∙ total_same (λ j. hit (get_elem? (those p n ++ cond (p n) (n ∷ []) []) j)) (λ j. hit (get_elem? (those p n) j)) (length (those p n)) (λ j i. ap hit (same j i (cond (p n) (n ∷ []) [])))
          ∙ total_along hit (those p n)
          ∙ counted_all n
          ∙ ap (λ (x : ℕ). length (those q x)) (sym g.1)

-- ---- starts
module _ (t : List ℕ) where
  abbrev is_input : ℕ → Bool
  is_input r = eqb (kind_at t r) 0

  input_is_start : (v : ℕ) → is_input v ≡ true → is_start t v ≡ true
  input_is_start v e = let k = eqb-true (kind_at t v) 0 e in le-leb (kind_at t v) 1 (omega arith)

  start_words_kind : (r : ℕ) (b : Bool) → is_input r ≡ b → get_or (start_words t r) 0 0 ≡ pick b 0 1
  start_words_kind r true e = rw e
  start_words_kind r false e = rw e

  kind_is_zero : (r : ℕ) (b : Bool) → is_input r ≡ b → flag (eqb (pick b 0 1) 0) ≡ flag (is_input r)
  kind_is_zero r true e = rw e
  kind_is_zero r false e = rw e

  start_row : (k : ℕ) → k < start_total t → (r : ℕ) × (get_elem? (start_rows t) k ≡ some r)
  unfolding start_total
  start_row k l = has_elem (start_rows t) k l

  -- start k is an input exactly if its row is
  kind_of_start : (j : ℕ) → j < length (those (is_start t) (size t))
      → flag (eqb (start_kind_at (lowered_words t) j) 0) ≡ hit (is_start t) is_input input_is_start (get_elem? (those (is_start t) (size t)) j)
  unfolding start_rows start_total
  kind_of_start j l =
      let e = has_elem (those (is_start t) (size t)) j l in
      ap (λ (x : ℕ). flag (eqb x 0)) (start_kind_at_lem t j e.0 e.1 ∙ start_words_kind e.0 (is_input e.0) refl)
      ∙ kind_is_zero e.0 (is_input e.0) refl
      ∙ ap (hit (is_start t) is_input input_is_start) (sym e.1)

  pub inputs_are_numbered : (k r : ℕ) → get_elem? (start_rows t) k ≡ some r → inputs_before (lowered_words t) k ≡ length (those is_input r)
  unfolding start_rows start_total
  inputs_are_numbered k r h =
      let low = in_range (those (is_start t) (size t)) k r h in
      total_same (λ j. flag (eqb (start_kind_at (lowered_words t) j) 0)) (λ j. hit (is_start t) is_input input_is_start (get_elem? (those (is_start t) (size t)) j)) k (λ j l. kind_of_start j (omega arith))
      ∙ counted_before (is_start t) is_input input_is_start (size t) k r h

  pub inputs_are_the_rows : inputs_before (lowered_words t) (start_count (lowered_words t)) ≡ rows_of INPUT t (size t)
  unfolding start_rows start_total
  inputs_are_the_rows =
      ap (inputs_before (lowered_words t)) (start_count_lem t)
      ∙ total_same (λ j. flag (eqb (start_kind_at (lowered_words t) j) 0)) (λ j. hit (is_start t) is_input input_is_start (get_elem? (those (is_start t) (size t)) j)) (length (those (is_start t) (size t))) kind_of_start
      ∙ total_along (hit (is_start t) is_input input_is_start) (those (is_start t) (size t))
      ∙ counted_all (is_start t) is_input input_is_start (size t)
      ∙ rows_counted INPUT t (size t)

  start_is_right : (k : ℕ) → k < start_total t
      → ((start_kind_at (lowered_words t) k ≡ 0) × (start_word_at (lowered_words t) k ≡ inputs_before (lowered_words t) k)) ⊎ (start_kind_at (lowered_words t) k ≡ 1)
  start_is_right k l = let r = start_row k l in go r.0 r.1 (is_input r.0) refl
    where
      go : (r : ℕ) → get_elem? (start_rows t) k ≡ some r → (b : Bool) → is_input r ≡ b
          → ((start_kind_at (lowered_words t) k ≡ 0) × (start_word_at (lowered_words t) k ≡ inputs_before (lowered_words t) k)) ⊎ (start_kind_at (lowered_words t) k ≡ 1)
      go r h true e = inl (start_kind_at_lem t k r h ∙ start_words_kind r true e, start_word_at_lem t k r h ∙ second ∙ sym (inputs_are_numbered k r h))
        where
          second : get_or (start_words t r) 1 0 ≡ length (those is_input r)
          second = rw e
      go r h false e = inr (start_kind_at_lem t k r h ∙ start_words_kind r false e)

  starts_long : length (starts t) ≡ start_total t
  unfolding starts start_total each
  starts_long = go (start_rows t)
    where
      go : (rs : List ℕ) → length (each (λ r. start r ∷ []) rs) ≡ length rs
      go [] = refl
      go (r ∷ rs) = ap suc (go rs)

-- the four counts are in their limits
pub record Roomy (t : List ℕ) : Type 0 where
  pub nodes : node_total t ≤ 4096
  pub wires : wire_total t ≤ 8192
  pub starts : start_total t ≤ 512
  pub results : result_total t ≤ 512

pub roomy : (t : List ℕ) → in_limits t ≡ true → Roomy t
unfolding in_limits
roomy t e =
    let a = and_both (leb (node_total t) 4096) _ e in
    let b = and_both (leb (wire_total t) 8192) _ a.1 in
    let c = and_both (leb (start_total t) 512) (leb (result_total t) 512) b.1 in
    record { nodes = leb-true _ _ a.0; wires = leb-true _ _ b.0; starts = leb-true _ _ c.0; results = leb-true _ _ c.1 }

module _ (t : List ℕ) (S : Structure t) (room : Roomy t) where
  abbrev g : List ℕ
  g = lowered_words t

  shape : Shaped g
  shape =
      let l = words_long t in
      let n = node_count_lem t in
      let w = wire_count_lem t in
      let s = start_count_lem t in
      let r = result_count_lem t in
      let rn = room.nodes in
      let rw = room.wires in
      let rs = room.starts in
      let rr = room.results in
      record { long = omega arith; nodes = omega arith; wires = omega arith; starts = omega arith; results = omega arith; whole = omega arith }

  first_is : (i : ℕ) → i ≤ node_total t → length (starts t) + total (λ j. output_count (get_elem? (lowered_nodes t) j)) i ≡ first_at g i
  first_is i l =
      ap₂ (λ (a b : ℕ). a + b) (starts_long t ∙ sym (start_count_lem t))
      (total_same (λ j. output_count (get_elem? (lowered_nodes t) j)) (λ j. output_count (node_at g j)) i (λ j h. ap output_count (sym (node_in_list t j (omega arith)))))

  row : (i : ℕ) → i < node_total t → Row g i
  row i l =
      let c = nodes_are_counted t in
      let e = has_elem (lowered_nodes t) i (omega arith) in
      let r = right_at (lowered_nodes t) (length (starts t)) i e.0 (rows_are_right t S) e.1 in
      record {
        node = e.0;
        here = node_at_lem t i e.0 e.1;
        code_below = r.code_below;
        sort_below = r.sort_below;
        spare = r.spare;
        numbered = λ z. r.numbered z ∙ first_is i (omega arith);
        unnumbered = r.unnumbered;
      }

  wires_are_all : wire_count g ≡ first_at g (node_count g)
  wires_are_all =
      let c = nodes_are_counted t in
      wire_count_lem t ∙ sym (all_outputs t S)
      ∙ ap (λ (x : ℕ). length (starts t) + x) (sym (total_along output_count (lowered_nodes t)) ∙ ap (total (λ j. output_count (get_elem? (lowered_nodes t) j))) c)
      ∙ first_is (node_total t) (omega arith)
      ∙ ap (first_at g) (sym (node_count_lem t))

  -- what stands on a place of node i
  place_of : (i : ℕ) (k : Input) (w : ℕ) → input_at g i k ≡ some w → (nd : Node) × (node_at g i ≡ some nd) × Fits t S nd × (has_input nd.kind k ≡ true) × (wire_on nd k ≡ w)
  place_of i k w h =
      let n = input_of_node (node_at g i) k w h in
      let l = node_in_range g i n.0 n.1 in
      let c = node_count_lem t in
      let e : get_elem? (lowered_nodes t) i ≡ some n.0 = sym (node_in_list t i (omega arith)) ∙ n.1 in
      (n.0, n.1, fit_at t S (lowered_nodes t) i n.0 (rows_fit t S) e, n.2, n.3)

  result_of : (k : ℕ) → k < result_total t → (q : ℕ) × (get_elem? (out_rows t) k ≡ some q)
  unfolding result_total
  result_of k l = has_elem (out_rows t) k l

  result_wire : (k : ℕ) → k < result_total t → (result_at g k < wire_total t) × (sort_at g (result_at g k) ≡ 0)
  result_wire k l =
      let q = result_of k l in
      let o = out_row t S q.0 (there (out_rows t) k q.0 q.1) in
      let e = result_feed t q.0 o.1 in
      let u = result_use_is_listed t q.0 _ o.0 o.1 e in
      let at = result_at_lem t k q.0 q.1 in
      let b = stands_below t S (result q.0) u in
      (omega arith, ap (sort_at g) at ∙ stands_sorted t S (result q.0) _ u e ∙ (result_source t S q.0 _ o.0 o.1 e).1)

  pub lowered_graph_is_accepted : Accepted g
  lowered_graph_is_accepted =
      let n = node_count_lem t in
      let w = wire_count_lem t in
      let s = start_count_lem t in
      let r = result_count_lem t in
      record {
        shape = shape;
        starts = λ k h. start_is_right t k (omega arith);
        rows = λ i h. row i (omega arith);
        wires = wires_are_all;
        inputs_below = λ i k x h. let p = place_of i k x h in let b = p.2.below k p.3 in let e = p.4 in omega arith;
        results_below = λ k h. let b = (result_wire k (omega arith)).0 in omega arith;
        once = λ x h. read_once_lem t S x (omega arith);
        inputs_sorted = λ i nd here k x h. sorted_by i nd here k x (place_of i k x h);
        results_sorted = λ k h. (result_wire k (omega arith)).1;
      }
    where
      sorted_by : (i : ℕ) (nd : Node) → node_at g i ≡ some nd → (k : Input) (x : ℕ)
          → (m : Node) × (node_at g i ≡ some m) × Fits t S m × (has_input m.kind k ≡ true) × (wire_on m k ≡ x) → sort_at g x ≡ input_sort nd.kind nd.sort k
      sorted_by i nd here k x p =
          let e : p.0 ≡ nd = cc in
          ap (sort_at g) (sym p.4) ∙ p.2.sorted k p.3 ∙ ap (λ (m : Node). input_sort m.kind m.sort k) e

  pub lowered_graph_is_not_refused : graph_refusal g ≡ 0
  lowered_graph_is_not_refused = accepted_is_not_refused g lowered_graph_is_accepted

-- EVERY GRAPH THAT LOWERING WRITES PASSES check_graph
pub accepted_table_lowers_to_an_accepted_graph : (t : List ℕ) → table_refusal t ≡ answer 0 0 → in_limits t ≡ true → graph_refusal (lowered_words t) ≡ 0
accepted_table_lowers_to_an_accepted_graph t e r = lowered_graph_is_not_refused t (passing_table_has_structure t e) (roomy t r)
