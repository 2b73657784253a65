-- Every use of a lowered table takes a wire that the table has, of the sort that its place wants.
--
--   Fine                          what an input takes is made, and of a sort
--   node_input_is_fine, result_is_fine
--   node_source, result_source    the source of a use is made, and has its sort
--   source_is_made
--   takes_where_it_has_a_place    a node takes something exactly on the places of its kind
--
-- Assumes nothing.
use Rattle.std.specs.Prelude.{ℕ, zero, suc, ◌+◌, ◌≤◌, ◌<◌, ◌≡◌, ◌⊎◌, Bool, cond, ◌&&◌, ◌||◌, List, eqb, leb}
use Rattle.std.proofs.Math.Path.{refl, subst}
use Rattle.std.proofs.Common.{sym, ap, ◌∙◌, inl, inr, arith, eqb-true, eq-eqb, ne_eqb, le-leb, lt-ltb, le-ltb}
use Rattle.std.proofs.Math.Bool.{true, false}
use Rattle.std.proofs.Math.Option.{some}
use Rattle.std.proofs.Math.Decide.{dec_le}
use Rattle.std.proofs.lemmas.Bool.{lt-leb}
use Rattle.step.specs.Kinds.{Kind, OP, PICK, outputs, input_sort, operator_sort, Input, in0, in1, in2, Output, out0, out1}
use Rattle.graph.specs.Graph.{has_input}
use Rattle.table.specs.Rows.{kind_at, word, size, operand_count, first_operand, sort_of, wanted_sort, field_at, every_other_names_a_word}
use Rattle.table.specs.Scan.{body_of, home}
use Rattle.table.specs.Bodies.{arg_of, next_of}
use Rattle.structure.specs.Structure.{Structure, in_table}
use Rattle.lowered.specs.Roles.{Role, op_node, stream, gate, guard, copy_split, copy_invariant, carry, arg_split, Wire, start, output, Use, into, result}
use Rattle.lowered.specs.Sources.{carried, home_wire, value_wire, Feed, value, inner, nothing, named, is_op, is_for, is_arg_row, has, role_feed, feed, wire_of, source}
use Rattle.lowered.specs.Lower.{role_kind, role_sort, wire_sort, is_out, uses}
use Rattle.laid.specs.Lists.{Among}
use Rattle.laid.specs.Listed.{and_true, and_both, role_row, role_value, Real, Made}
use Rattle.laid.specs.Uses.{listed_use_is}
use Rattle.laid.specs.Reached.{carried_by, Reached, operand_is_reached, copy_is_reached}

-- an operator's sort is that of its value
operator_sort_lem : (c : ℕ) → operator_sort c ≡ cond (leb 3 c) 1 0
operator_sort_lem c = elim (dec_le 3 c) [ yes p ↦ high p | no p ↦ low (under p) ]
  where
    under : (3 ≤ c → ⊥) → c < 3
    under p = omega arith

    low : c < 3 → operator_sort c ≡ cond (leb 3 c) 1 0
    low p = rw (lt-ltb c 3 p, lt-leb 3 c p)

    high : 3 ≤ c → operator_sort c ≡ cond (leb 3 c) 1 0
    high p = rw (le-leb 3 c p, le-ltb c 3 p)

pub or_cases : (a b : Bool) → a || b ≡ true → (a ≡ true) ⊎ (b ≡ true)
or_cases true b e = inl refl
or_cases false b e = inr e

module _ (t : List ℕ) where
  pub op_kind : (r : ℕ) → is_op t r ≡ true → (kind_at t r ≡ 2) ⊎ (kind_at t r ≡ 3)
  op_kind r e =
      elim (or_cases (eqb (kind_at t r) 2) (eqb (kind_at t r) 3) e) [
        | inl k ↦ inl (eqb-true (kind_at t r) 2 k)
        | inr k ↦ inr (eqb-true (kind_at t r) 3 k)
      ]

  -- ---- a node takes something exactly on the places of its kind
  abbrev pub is_fed : Feed → Bool
  is_fed (value v B) = true
  is_fed (inner w) = true
  is_fed nothing = false

  pub takes_where_it_has_a_place : (n : Role) (k : Input) → has t n ≡ true → is_fed (role_feed t n k) ≡ has_input (role_kind t n) k
  takes_where_it_has_a_place (op_node r) in0 h = elim (op_kind r h) [ inl e ↦ rw e | inr e ↦ rw e ]
  takes_where_it_has_a_place (op_node r) in1 h = elim (op_kind r h) [ inl e ↦ rw e | inr e ↦ rw e ]
  takes_where_it_has_a_place (op_node r) in2 h = elim (op_kind r h) [ inl e ↦ rw e | inr e ↦ rw e ]
  takes_where_it_has_a_place (stream L) in0 h = refl
  takes_where_it_has_a_place (stream L) in1 h = refl
  takes_where_it_has_a_place (stream L) in2 h = refl
  takes_where_it_has_a_place (gate L) in0 h = refl
  takes_where_it_has_a_place (gate L) in1 h = refl
  takes_where_it_has_a_place (gate L) in2 h = refl
  takes_where_it_has_a_place (guard L) in0 h = refl
  takes_where_it_has_a_place (guard L) in1 h = refl
  takes_where_it_has_a_place (guard L) in2 h = refl
  takes_where_it_has_a_place (copy_split L v) in0 h = refl
  takes_where_it_has_a_place (copy_split L v) in1 h = refl
  takes_where_it_has_a_place (copy_split L v) in2 h = refl
  takes_where_it_has_a_place (copy_invariant L v) in0 h = refl
  takes_where_it_has_a_place (copy_invariant L v) in1 h = refl
  takes_where_it_has_a_place (copy_invariant L v) in2 h = refl
  takes_where_it_has_a_place (carry a) in0 h = refl
  takes_where_it_has_a_place (carry a) in1 h = refl
  takes_where_it_has_a_place (carry a) in2 h = refl
  takes_where_it_has_a_place (arg_split a) in0 h = refl
  takes_where_it_has_a_place (arg_split a) in1 h = refl
  takes_where_it_has_a_place (arg_split a) in2 h = refl

  pub node_feed : (n : Role) (k : Input) → has t n ≡ true → source t (into n k) ≡ wire_of t (role_feed t n k)
  unfolding source feed
  node_feed n k h = rw h

  pub result_feed : (q : ℕ) → is_out t q ≡ true → source t (result q) ≡ wire_of t (named t q 0)
  unfolding source feed
  result_feed q h = rw h

  -- ---- sorts of values
  sort_by : (v k : ℕ) → kind_at t v ≡ k → (k ≡ 2 → ⊥) → sort_of t v ≡ 0
  unfolding sort_of
  sort_by v k e n = rw (ne_eqb (kind_at t v) 2 (λ z. n (sym e ∙ z)))

  -- a value's wire at home, by its row's kind
  pub home_of_start : (v : ℕ) → kind_at t v ≤ 1 → home_wire t v ≡ start v
  unfolding home_wire
  home_of_start v k = rw (le-leb (kind_at t v) 1 k)

  pub home_of_op : (v : ℕ) → (kind_at t v ≡ 2) ⊎ (kind_at t v ≡ 3) → home_wire t v ≡ output (op_node v) out0
  unfolding home_wire
  home_of_op v (inl k) = rw k
  home_of_op v (inr k) = rw k

  pub home_of_for : (v : ℕ) → kind_at t v ≡ 4 → home_wire t v ≡ output (gate v) out0
  unfolding home_wire
  home_of_for v k = rw k

  pub home_of_arg : (v : ℕ) → kind_at t v ≡ 5 → home_wire t v ≡ output (arg_split v) out0
  unfolding home_wire
  home_of_arg v k = rw k

  pub home_of_next : (v : ℕ) → kind_at t v ≡ 6 → home_wire t v ≡ output (arg_split (arg_of t v)) out1
  unfolding home_wire
  home_of_next v k = rw k

  op_sort : (v : ℕ) → kind_at t v ≡ 2 → wire_sort t (output (op_node v) out0) ≡ sort_of t v
  unfolding sort_of
  op_sort v k = rw k (operator_sort_lem (word t v 1))

  pick_sort : (v : ℕ) → kind_at t v ≡ 3 → wire_sort t (output (op_node v) out0) ≡ sort_of t v
  unfolding sort_of
  pick_sort v k = rw k

  home_sort : (v : ℕ) → kind_at t v ≤ 6 → wire_sort t (home_wire t v) ≡ sort_of t v
  home_sort v l = go (kind_at t v) refl l
    where
      go : (k : ℕ) → kind_at t v ≡ k → k ≤ 6 → wire_sort t (home_wire t v) ≡ sort_of t v
      go zero e h = ap (wire_sort t) (home_of_start v (omega arith)) ∙ sym (sort_by v 0 e (λ z. omega arith))
      go (suc zero) e h = ap (wire_sort t) (home_of_start v (omega arith)) ∙ sym (sort_by v 1 e (λ z. omega arith))
      go (suc (suc zero)) e h = ap (wire_sort t) (home_of_op v (inl e)) ∙ op_sort v e
      go (suc (suc (suc zero))) e h = ap (wire_sort t) (home_of_op v (inr e)) ∙ pick_sort v e
      go (suc (suc (suc (suc zero)))) e h = ap (wire_sort t) (home_of_for v e) ∙ sym (sort_by v 4 e (λ z. omega arith))
      go (suc (suc (suc (suc (suc zero))))) e h = ap (wire_sort t) (home_of_arg v e) ∙ sym (sort_by v 5 e (λ z. omega arith))
      go (suc (suc (suc (suc (suc (suc zero)))))) e h = ap (wire_sort t) (home_of_next v e) ∙ sym (sort_by v 6 e (λ z. omega arith))
      go (suc (suc (suc (suc (suc (suc (suc k))))))) e h = absurd (omega arith)

  -- ---- OP and PICK nodes
  pub op_is_OP : (r : ℕ) → kind_at t r ≡ 2 → role_kind t (op_node r) ≡ OP
  op_is_OP r k = rw k

  pub pick_is_PICK : (r : ℕ) → kind_at t r ≡ 3 → role_kind t (op_node r) ≡ PICK
  pick_is_PICK r k = rw k

  op_takes_two : (r : ℕ) → kind_at t r ≡ 2 → role_feed t (op_node r) in2 ≡ nothing
  op_takes_two r k = rw k

  pick_takes_three : (r : ℕ) → kind_at t r ≡ 3 → role_feed t (op_node r) in2 ≡ named t r 2
  pick_takes_three r k = go (kind_at t r) k refl
    where
      go : (n : ℕ) → n ≡ 3 → kind_at t r ≡ n → cond (eqb n 3) (named t r 2) nothing ≡ named t r 2
      go n e q = rw e

module _ (t : List ℕ) (S : Structure t) where
  -- ---- values
  real_row : (n : Role) (r : ℕ) → r < size t → role_row n ≡ r → role_value n ≡ r → has t n ≡ true → Real t n
  real_row n r l a b h = record { row = omega arith; value = omega arith; there = h }

  home_made : (v : ℕ) → v < size t → kind_at t v ≤ 6 → Made t (home_wire t v)
  home_made v less l = go (kind_at t v) refl l
    where
      of_start : kind_at t v ≤ 1 → Made t (home_wire t v)
      of_start k = subst (Made t) (sym (home_of_start t v k)) (less, le-leb (kind_at t v) 1 k)

      of_op : (kind_at t v ≡ 2) ⊎ (kind_at t v ≡ 3) → Made t (home_wire t v)
      of_op k = subst (Made t) (sym (home_of_op t v k)) (real_row (op_node v) v less refl refl (is_op_lem k), one k)
        where
          is_op_lem : (kind_at t v ≡ 2) ⊎ (kind_at t v ≡ 3) → is_op t v ≡ true
          is_op_lem (inl e) = rw e
          is_op_lem (inr e) = rw e

          one : (kind_at t v ≡ 2) ⊎ (kind_at t v ≡ 3) → 0 < outputs (role_kind t (op_node v))
          one (inl e) = rw (op_is_OP t v e) (omega arith)
          one (inr e) = rw (pick_is_PICK t v e) (omega arith)

      go : (k : ℕ) → kind_at t v ≡ k → k ≤ 6 → Made t (home_wire t v)
      go zero e h = of_start (omega arith)
      go (suc zero) e h = of_start (omega arith)
      go (suc (suc zero)) e h = of_op (inl e)
      go (suc (suc (suc zero))) e h = of_op (inr e)
      go (suc (suc (suc (suc zero)))) e h = subst (Made t) (sym (home_of_for t v e)) (real_row (gate v) v less refl refl (eq-eqb (kind_at t v) 4 e), omega arith)
      go (suc (suc (suc (suc (suc zero))))) e h = subst (Made t) (sym (home_of_arg t v e)) (real_row (arg_split v) v less refl refl (eq-eqb (kind_at t v) 5 e), omega arith)
      go (suc (suc (suc (suc (suc (suc zero)))))) e h =
          let a = (S.next_row v less e).arg_kind in
          let l = in_table t S (arg_of t v) (λ z. omega arith) in
          subst (Made t) (sym (home_of_next t v e)) (real_row (arg_split (arg_of t v)) (arg_of t v) l refl refl (eq-eqb (kind_at t (arg_of t v)) 5 a), omega arith)
      go (suc (suc (suc (suc (suc (suc (suc k))))))) e h = absurd (omega arith)

  value_made : (v B : ℕ) → v < size t → kind_at t v ≤ 6 → Reached t S v B → Made t (value_wire t v B)
  unfolding value_wire
  value_made v B less l (inl e) = rw (eq-eqb (home t v) B e) (home_made v less l)
  value_made v B less l (inr c) = go (eqb (home t v) B)
    where
      go : (b : Bool) → Made t (cond b (home_wire t v) (output (copy_invariant B v) out0))
      go true = home_made v less l
      go false =
          (record { row = in_table t S B (λ z. omega (arith, c.1)); value = less; there = and_true (is_for t B) (carried t B v) (eq-eqb (kind_at t B) 4 c.1) c.0 }, omega arith)

  value_sort : (v B : ℕ) → kind_at t v ≤ 6 → wire_sort t (value_wire t v B) ≡ sort_of t v
  unfolding value_wire
  value_sort v B l = go (eqb (home t v) B)
    where
      go : (b : Bool) → wire_sort t (cond b (home_wire t v) (output (copy_invariant B v) out0)) ≡ sort_of t v
      go true = home_sort t v l
      go false = refl

  -- ---- what inputs take
  abbrev pub Fine : Feed → ℕ → Type 0
  Fine (value v B) s = (v < size t) × (kind_at t v ≤ 6) × Reached t S v B × (sort_of t v ≡ s)
  Fine (inner w) s = Made t w × (wire_sort t w ≡ s)
  Fine nothing s = Unit {0}

  named_fine : (r j s : ℕ) → r < size t → j < operand_count (kind_at t r) → wanted_sort (kind_at t r) (first_operand (kind_at t r) + j) ≡ s → Fine (named t r j) s
  named_fine r j s lr lj e =
      let o = S.operands r j lr lj in
      let b = o.before in
      (omega arith, o.is_value, operand_is_reached t S r j lr lj, o.sort ∙ e)

  loop_made : (n : Role) (o : Output) (L : ℕ) → L < size t → kind_at t L ≡ 4 → (n ≡ stream L) ⊎ ((n ≡ gate L) ⊎ (n ≡ guard L)) → Real t n
  loop_made n o L l k (inl e) = subst (Real t) (sym e) (record { row = l; value = l; there = eq-eqb (kind_at t L) 4 k })
  loop_made n o L l k (inr (inl e)) = subst (Real t) (sym e) (record { row = l; value = l; there = eq-eqb (kind_at t L) 4 k })
  loop_made n o L l k (inr (inr e)) = subst (Real t) (sym e) (record { row = l; value = l; there = eq-eqb (kind_at t L) 4 k })

  stream_made : (L : ℕ) (o : Output) → L < size t → kind_at t L ≡ 4 → Made t (output (stream L) o)
  stream_made L out0 l k = (loop_made (stream L) out0 L l k (inl refl), omega arith)
  stream_made L out1 l k = (loop_made (stream L) out1 L l k (inl refl), omega arith)

  gate_made : (L : ℕ) (o : Output) → L < size t → kind_at t L ≡ 4 → Made t (output (gate L) o)
  gate_made L out0 l k = (loop_made (gate L) out0 L l k (inr (inl refl)), omega arith)
  gate_made L out1 l k = (loop_made (gate L) out1 L l k (inr (inl refl)), omega arith)

  -- how many operands, and their sorts, by kind
  two_of_op : (r : ℕ) → kind_at t r ≡ 2 → operand_count (kind_at t r) ≡ 2
  unfolding operand_count
  two_of_op r k = rw k

  three_of_pick : (r : ℕ) → kind_at t r ≡ 3 → operand_count (kind_at t r) ≡ 3
  unfolding operand_count
  three_of_pick r k = rw k

  three_of_for : (r : ℕ) → kind_at t r ≡ 4 → operand_count (kind_at t r) ≡ 3
  unfolding operand_count
  three_of_for r k = rw k

  one_of : (r k : ℕ) → kind_at t r ≡ k → (k ≡ 5) ⊎ ((k ≡ 6) ⊎ (k ≡ 8)) → operand_count (kind_at t r) ≡ 1
  unfolding operand_count
  one_of r k e (inl h) = rw (e, h)
  one_of r k e (inr (inl h)) = rw (e, h)
  one_of r k e (inr (inr h)) = rw (e, h)

  word_wanted : (r j k : ℕ) → kind_at t r ≡ k → (k ≡ 3 → ⊥) → wanted_sort (kind_at t r) (first_operand (kind_at t r) + j) ≡ 0
  word_wanted r j k e n = every_other_names_a_word (kind_at t r) (first_operand (kind_at t r) + j) (λ z q. n (sym e ∙ z))

  pick_wanted : (r j s : ℕ) → kind_at t r ≡ 3 → wanted_sort 3 (1 + j) ≡ s → wanted_sort (kind_at t r) (first_operand (kind_at t r) + j) ≡ s
  unfolding first_operand
  pick_wanted r j s k e = rw k e

  op_fine : (r j : ℕ) → r < size t → kind_at t r ≡ 2 → j < 2 → Fine (named t r j) 0
  op_fine r j l k h = named_fine r j 0 l (let c = two_of_op r k in omega arith) (word_wanted r j 2 k (λ z. omega arith))

  pick_fine : (r j s : ℕ) → r < size t → kind_at t r ≡ 3 → j < 3 → wanted_sort 3 (1 + j) ≡ s → Fine (named t r j) s
  pick_fine r j s l k h e = named_fine r j s l (let c = three_of_pick r k in omega arith) (pick_wanted r j s k e)

  for_fine : (L j : ℕ) → L < size t → kind_at t L ≡ 4 → j < 3 → Fine (named t L j) 0
  for_fine L j l k h = named_fine L j 0 l (let c = three_of_for L k in omega arith) (word_wanted L j 4 k (λ z. omega arith))

  one_fine : (r k : ℕ) → r < size t → kind_at t r ≡ k → (k ≡ 5) ⊎ ((k ≡ 6) ⊎ (k ≡ 8)) → (k ≡ 3 → ⊥) → Fine (named t r 0) 0
  one_fine r k l e h n = named_fine r 0 0 l (let c = one_of r k e h in omega arith) (word_wanted r 0 k e n)

  condition_sort : (c : ℕ) → operator_sort (3 + c) ≡ 1
  condition_sort c = rw (le-ltb (3 + c) 3 (omega arith))

  guard_made : (L : ℕ) → L < size t → kind_at t L ≡ 4 → Made t (output (guard L) out0)
  guard_made L l k = (loop_made (guard L) out0 L l k (inr (inr refl)), omega arith)

  copy_for : (L v : ℕ) → is_for t L && carried t L v ≡ true → (kind_at t L ≡ 4) × (carried t L v ≡ true)
  copy_for L v h = let b = and_both (is_for t L) (carried t L v) h in (eqb-true (kind_at t L) 4 b.0, b.1)

  carried_value : (L v : ℕ) → carried t L v ≡ true → kind_at t v ≤ 6
  carried_value L v c =
      let C = carried_by t L v c in
      subst (λ (x : ℕ). kind_at t x ≤ 6) C.is (S.operands C.row C.place C.row_below_lem C.place_below).is_value

  arg_loop : (a : ℕ) → a < size t → is_arg_row t a ≡ true → (body_of t a < size t) × (kind_at t (body_of t a) ≡ 4)
  arg_loop a l e =
      let r = S.arg_row a l (eqb-true (kind_at t a) 5 e) in
      let low = r.low in
      (omega arith, r.loop_for)

  op_node_fine : (r : ℕ) (k : Input) → r < size t → kind_at t r ≡ 2 → Fine (role_feed t (op_node r) k) (input_sort (role_kind t (op_node r)) 0 k)
  op_node_fine r k l e = subst (λ (κ : Kind). Fine (role_feed t (op_node r) k) (input_sort κ 0 k)) (sym (op_is_OP t r e)) (go k)
    where
      go : (k : Input) → Fine (role_feed t (op_node r) k) (input_sort OP 0 k)
      go in0 = op_fine r 0 l e (omega arith)
      go in1 = op_fine r 1 l e (omega arith)
      go in2 = subst (λ (f : Feed). Fine f 0) (sym (op_takes_two t r e)) tt

  pick_node_fine : (r : ℕ) (k : Input) → r < size t → kind_at t r ≡ 3 → Fine (role_feed t (op_node r) k) (input_sort (role_kind t (op_node r)) 0 k)
  unfolding field_at wanted_sort
  pick_node_fine r k l e = subst (λ (κ : Kind). Fine (role_feed t (op_node r) k) (input_sort κ 0 k)) (sym (pick_is_PICK t r e)) (go k)
    where
      go : (k : Input) → Fine (role_feed t (op_node r) k) (input_sort PICK 0 k)
      go in0 = pick_fine r 0 1 l e (omega arith) refl
      go in1 = pick_fine r 1 0 l e (omega arith) refl
      go in2 = subst (λ (f : Feed). Fine f 0) (sym (pick_takes_three t r e)) (pick_fine r 2 0 l e (omega arith) refl)

  pub node_input_is_fine : (n : Role) (k : Input) → Real t n → Fine (role_feed t n k) (input_sort (role_kind t n) (role_sort t n) k)
  node_input_is_fine (op_node r) k l = elim (op_kind t r l.there) [ inl e ↦ op_node_fine r k l.row e | inr e ↦ pick_node_fine r k l.row e ]
  node_input_is_fine (stream L) in0 l = for_fine L 0 l.row (eqb-true (kind_at t L) 4 l.there) (omega arith)
  node_input_is_fine (stream L) in1 l = for_fine L 1 l.row (eqb-true (kind_at t L) 4 l.there) (omega arith)
  node_input_is_fine (stream L) in2 l = for_fine L 2 l.row (eqb-true (kind_at t L) 4 l.there) (omega arith)
  node_input_is_fine (gate L) in0 l = (stream_made L out0 l.row (eqb-true (kind_at t L) 4 l.there), refl)
  node_input_is_fine (gate L) in1 l = (stream_made L out1 l.row (eqb-true (kind_at t L) 4 l.there), refl)
  node_input_is_fine (gate L) in2 l = tt
  node_input_is_fine (guard L) in0 l = for_fine L 0 l.row (eqb-true (kind_at t L) 4 l.there) (omega arith)
  node_input_is_fine (guard L) in1 l = for_fine L 2 l.row (eqb-true (kind_at t L) 4 l.there) (omega arith)
  node_input_is_fine (guard L) in2 l = tt
  node_input_is_fine (copy_split L v) in0 l = (guard_made L l.row (copy_for L v l.there).0, condition_sort (word t L 5))
  node_input_is_fine (copy_split L v) in1 l = let c = copy_for L v l.there in (l.value, carried_value L v c.1, copy_is_reached t S L v l.row c.0 c.1, refl)
  node_input_is_fine (copy_split L v) in2 l = tt
  node_input_is_fine (copy_invariant L v) in0 l = (gate_made L out1 l.row (copy_for L v l.there).0, refl)
  node_input_is_fine (copy_invariant L v) in1 l = ((record { row = l.row; value = l.value; there = l.there }, omega arith), refl)
  node_input_is_fine (copy_invariant L v) in2 l = tt
  node_input_is_fine (carry a) in0 l = let q = arg_loop a l.row l.there in (stream_made (body_of t a) out1 q.0 q.1, refl)
  node_input_is_fine (carry a) in1 l = one_fine a 5 l.row (eqb-true (kind_at t a) 5 l.there) (inl refl) (λ z. omega arith)
  node_input_is_fine (carry a) in2 l =
      let x = (S.arg_row a l.row (eqb-true (kind_at t a) 5 l.there)).next_kind in
      one_fine (next_of t a) 6 (in_table t S (next_of t a) (λ z. omega arith)) x (inr (inl refl)) (λ z. omega arith)
  node_input_is_fine (arg_split a) in0 l = let q = arg_loop a l.row l.there in (stream_made (body_of t a) out1 q.0 q.1, refl)
  node_input_is_fine (arg_split a) in1 l = ((record { row = l.row; value = l.value; there = l.there }, omega arith), refl)
  node_input_is_fine (arg_split a) in2 l = tt

  pub result_is_fine : (q : ℕ) → q < size t → is_out t q ≡ true → Fine (named t q 0) 0
  result_is_fine q l e = one_fine q 8 l (eqb-true (kind_at t q) 8 e) (inr (inr refl)) (λ z. omega arith)

  -- ---- so every source is made, and of its sort
  pub fine_is_made : (f : Feed) (s : ℕ) (w : Wire) → Fine f s → wire_of t f ≡ some w → Made t w × (wire_sort t w ≡ s)
  fine_is_made (value v B) s w h e =
      let d : value_wire t v B ≡ w = cc in
      (subst (Made t) d (value_made v B h.0 h.1 h.2), ap (wire_sort t) (sym d) ∙ value_sort v B h.1 ∙ h.3)
  fine_is_made (inner x) s w h e = let d : x ≡ w = cc in (subst (Made t) d h.0, ap (wire_sort t) (sym d) ∙ h.1)
  fine_is_made nothing s w h e = let z : ◌≡◌ {A = ℕ} 0 1 = cc in absurd (omega arith)

  pub node_source : (n : Role) (k : Input) (w : Wire) → Real t n → source t (into n k) ≡ some w → Made t w × (wire_sort t w ≡ input_sort (role_kind t n) (role_sort t n) k)
  node_source n k w l e = fine_is_made (role_feed t n k) (input_sort (role_kind t n) (role_sort t n) k) w (node_input_is_fine n k l) (sym (node_feed t n k l.there) ∙ e)

  pub result_source : (q : ℕ) (w : Wire) → q < size t → is_out t q ≡ true → source t (result q) ≡ some w → Made t w × (wire_sort t w ≡ 0)
  result_source q w l o e = fine_is_made (named t q 0) 0 w (result_is_fine q l o) (sym (result_feed t q o) ∙ e)

  pub source_is_made : (u : Use) (w : Wire) → Among u (uses t) → source t u ≡ some w → Made t w
  source_is_made u w h e =
      elim (listed_use_is t u h) [
        | inl k ↦ (node_source k.0 k.1 w k.2 (ap (source t) (sym k.3) ∙ e)).0
        | inr k ↦ (result_source k.0 w k.1 k.2 (ap (source t) (sym k.3) ∙ e)).0
      ]
