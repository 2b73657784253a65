-- Where each node of a table stands before forks, and what its seven words are: from running sums and operands' numbers alone.
--
--   op_place, stream_place, gate_place, guard_place, copy_split_place, copy_invariant_place, carry_place, arg_split_place
--                             the number of each node
--   op_node_lem, pick_node, stream_node_lem, ..  its words
--   right_by                  a row with these words is right
--   all_right                 where the nodes of all rows and of all carried values are right, every row is
--
-- Assumes nothing.
use Rattle.std.specs.Prelude.{ℕ, zero, suc, ◌+◌, ◌*◌, ◌<◌, ◌≡◌, refl, true, cond, ◌&&◌, eqb, length}
use Rattle.std.proofs.Common.{sym, ◌∙◌, subst, inl, inr, arith, eqb-true}
use Rattle.std.proofs.Math.Path.{ap}
use mathlib.Core.List.{List, [], ◌∷◌, ◌++◌}
use Rattle.std.proofs.Math.Option.{some}
use Rattle.std.proofs.Math.ListN.{get_elem?}
use Rattle.step.specs.Kinds.{Kind, STREAM, GATE, CARRY, INVARIANT, SPLIT, OP, PICK, Input, in0, in1, in2, out0}
use Rattle.graph.specs.Graph.{Node, absent}
use Rattle.table.specs.Rows.{kind_at, word, size, sort_of}
use Rattle.table.specs.Scan.{body_of, reads}
use Rattle.table.specs.Bodies.{next_of}
use Rattle.structure.specs.Structure.{Structure}
use Rattle.lowered.specs.Gathered.{gathered, those, each}
use Rattle.lowered.specs.Roles.{Role, op_node, stream, gate, guard, copy_split, copy_invariant, carry, arg_split, output, same_role}
use Rattle.lowered.specs.Sources.{carried, Feed, value, inner, nothing, is_op, is_for, wire_of, role_feed}
use Rattle.lowered.specs.Lower.{carried_into, copy, row_roles, roles, role_kind, wire_number}
use Rattle.laid.specs.Lists.{there, below_or_last, elem_left, elem_right, position_is}
use Rattle.laid.specs.Listed.{Real, roles_once, listed_role_is_real, for_roles, arg_roles_lem, op_roles, and_both}
use Rattle.laid.specs.Made.{Fine, node_input_is_fine, node_feed, op_is_OP, pick_is_PICK}
use Rattle.laid.specs.Bases.{node_base, wire_base, copy_place, those_at, piece_at, op_number, stream_number, gate_number, guard_number, copy_number, carry_number, arg_number}
use Rattle.laid.specs.Wired.{value_number, value_by_number}
use Rattle.laid.specs.Sourced.{operand_number}
use Rattle.written.specs.Plain.{number_or, input_number, plain_node, RowIs, RightRow}

abbrev pub node : Kind → ℕ → ℕ → ℕ → ℕ → ℕ → ℕ → Node
node k c s a b d f = record { kind = k; code = c; sort = s; wire0 = a; wire1 = b; wire2 = d; first = f }

-- what stands at a place of a row's list stands there in the whole
gathered_at : {A : Type 0} (f : ℕ → List A) (n r k : ℕ) (a : A) → r < n → get_elem? (f r) k ≡ some a → get_elem? (gathered f n) (length (gathered f r) + k) ≡ some a
unfolding gathered
gathered_at f zero r k a l h = absurd (omega arith)
gathered_at f (suc n) r k a l h =
    elim (below_or_last r n l) [
      | inl q ↦ elem_left (gathered f n) (f n) (length (gathered f r) + k) a (gathered_at f n r k a q h)
      | inr q ↦ ap (λ (z : ℕ). get_elem? (gathered f n ++ f n) (length (gathered f z) + k)) q
          ∙ elem_right (gathered f n) (f n) k
          ∙ ap (λ (z : ℕ). get_elem? (f z) k) (sym q) ∙ h
    ]

module _ (t : List ℕ) where
  -- ---- the number of each node
  place : (r k : ℕ) (n : Role) (ns : List Role) → r < size t → row_roles t r ≡ ns → get_elem? ns k ≡ some n → get_elem? (roles t) (node_base t r + k) ≡ some n
  unfolding roles node_base
  place r k n ns l e h = gathered_at (row_roles t) (size t) r k n l (ap (λ (xs : List Role). get_elem? xs k) e ∙ h)

  pub op_place : (r : ℕ) → r < size t → is_op t r ≡ true → get_elem? (roles t) (node_base t r) ≡ some (op_node r)
  op_place r l h = let z : node_base t r ≡ node_base t r + 0 = omega arith in ap (get_elem? (roles t)) z ∙ place r 0 (op_node r) _ l (op_roles t r h) refl

  pub stream_place : (L : ℕ) → L < size t → kind_at t L ≡ 4 → get_elem? (roles t) (node_base t L) ≡ some (stream L)
  stream_place L l k = let z : node_base t L ≡ node_base t L + 0 = omega arith in ap (get_elem? (roles t)) z ∙ place L 0 (stream L) _ l (for_roles t L k) refl

  pub gate_place : (L : ℕ) → L < size t → kind_at t L ≡ 4 → get_elem? (roles t) (node_base t L + 1) ≡ some (gate L)
  gate_place L l k = place L 1 (gate L) _ l (for_roles t L k) refl

  pub guard_place : (L : ℕ) → L < size t → kind_at t L ≡ 4 → get_elem? (roles t) (node_base t L + 2) ≡ some (guard L)
  guard_place L l k = place L 2 (guard L) _ l (for_roles t L k) refl

  pub carry_place : (a : ℕ) → a < size t → kind_at t a ≡ 5 → get_elem? (roles t) (node_base t a) ≡ some (carry a)
  carry_place a l k = let z : node_base t a ≡ node_base t a + 0 = omega arith in ap (get_elem? (roles t)) z ∙ place a 0 (carry a) _ l (arg_roles_lem t a k) refl

  pub arg_split_place : (a : ℕ) → a < size t → kind_at t a ≡ 5 → get_elem? (roles t) (node_base t a + 1) ≡ some (arg_split a)
  arg_split_place a l k = place a 1 (arg_split a) _ l (arg_roles_lem t a k) refl

  copy_at : (L v j : ℕ) (n : Role) → v < size t → carried t L v ≡ true → get_elem? (copy L v) j ≡ some n → get_elem? (each (copy L) (carried_into t L)) (2 * copy_place t L v + j) ≡ some n
  unfolding carried_into copy_place
  copy_at L v j n l c h = piece_at (copy L) 2 (λ v. refl) (those (carried t L) (size t)) (length (those (carried t L) v)) j v n (those_at (carried t L) (size t) v l c) h

  copy_place_lem : (L v j : ℕ) (n : Role) → L < size t → kind_at t L ≡ 4 → v < size t → carried t L v ≡ true → get_elem? (copy L v) j ≡ some n
      → get_elem? (roles t) (node_base t L + (3 + (2 * copy_place t L v + j))) ≡ some n
  copy_place_lem L v j n l_l k lv c h =
      place L (3 + (2 * copy_place t L v + j)) n _ l_l (for_roles t L k)
      (elem_right (stream L ∷ gate L ∷ guard L ∷ []) (each (copy L) (carried_into t L)) (2 * copy_place t L v + j) ∙ copy_at L v j n lv c h)

  pub copy_split_place : (L v : ℕ) → L < size t → kind_at t L ≡ 4 → v < size t → carried t L v ≡ true → get_elem? (roles t) (node_base t L + (3 + 2 * copy_place t L v)) ≡ some (copy_split L v)
  copy_split_place L v l_l k lv c =
      let z : node_base t L + (3 + 2 * copy_place t L v) ≡ node_base t L + (3 + (2 * copy_place t L v + 0)) = omega arith in
      ap (get_elem? (roles t)) z ∙ copy_place_lem L v 0 (copy_split L v) l_l k lv c refl

  pub copy_invariant_place : (L v : ℕ) → L < size t → kind_at t L ≡ 4 → v < size t → carried t L v ≡ true → get_elem? (roles t) (node_base t L + (4 + 2 * copy_place t L v)) ≡ some (copy_invariant L v)
  copy_invariant_place L v l_l k lv c =
      let z : node_base t L + (4 + 2 * copy_place t L v) ≡ node_base t L + (3 + (2 * copy_place t L v + 1)) = omega arith in
      ap (get_elem? (roles t)) z ∙ copy_place_lem L v 1 (copy_invariant L v) l_l k lv c refl

  -- ---- rows are right
  same_role_lem : (i : ℕ) (n m : Role) → get_elem? (roles t) i ≡ some n → get_elem? (roles t) i ≡ some m → n ≡ m
  same_role_lem i n m p q = cc

  pub right_by : (rows : List ℕ) (i : ℕ) (n : Role) (nd : Node) → get_elem? (roles t) i ≡ some n → plain_node t n ≡ nd → RowIs rows i nd → RightRow t rows i
  right_by rows i n nd h e r m q = subst (λ (x : Role). RowIs rows i (plain_node t x)) (same_role_lem i n m h q) (subst (RowIs rows i) (sym e) r)

  -- two places of one node are one place
  one_place : (i j : ℕ) (n : Role) → get_elem? (roles t) i ≡ some n → get_elem? (roles t) j ≡ some n → i ≡ j
  one_place i j n p q = sym (position_is same_role n (roles t) i (roles_once t) p) ∙ position_is same_role n (roles t) j (roles_once t) q

  pub record RowsRight (rows : List ℕ) : Type 0 where
    pub ops : (r : ℕ) → r < size t → is_op t r ≡ true → RightRow t rows (node_base t r)
    pub loops : (L : ℕ) → L < size t → kind_at t L ≡ 4 → RightRow t rows (node_base t L) × RightRow t rows (node_base t L + 1) × RightRow t rows (node_base t L + 2)
    pub copies : (L v : ℕ) → L < size t → kind_at t L ≡ 4 → v < size t → carried t L v ≡ true
        → RightRow t rows (node_base t L + (3 + 2 * copy_place t L v)) × RightRow t rows (node_base t L + (4 + 2 * copy_place t L v))
    pub args : (a : ℕ) → a < size t → kind_at t a ≡ 5 → RightRow t rows (node_base t a) × RightRow t rows (node_base t a + 1)

  pub all_right : (rows : List ℕ) → RowsRight rows → (i : ℕ) → RightRow t rows i
  all_right rows R i n h = go n h (listed_role_is_real t n (there (roles t) i n h))
    where
      at : (n : Role) (j : ℕ) → get_elem? (roles t) i ≡ some n → get_elem? (roles t) j ≡ some n → RightRow t rows j → RowIs rows i (plain_node t n)
      at n j h p r = subst (λ (x : ℕ). RowIs rows x (plain_node t n)) (one_place j i n p h) (r n p)

      for : (L : ℕ) → is_for t L ≡ true → kind_at t L ≡ 4
      for L e = eqb-true (kind_at t L) 4 e

      copied : (L v : ℕ) → is_for t L && carried t L v ≡ true → (kind_at t L ≡ 4) × (carried t L v ≡ true)
      copied L v e = let b = and_both (is_for t L) (carried t L v) e in (for L b.0, b.1)

      go : (n : Role) → get_elem? (roles t) i ≡ some n → Real t n → RowIs rows i (plain_node t n)
      go (op_node r) h l = at (op_node r) _ h (op_place r l.row l.there) (R.ops r l.row l.there)
      go (stream L) h l = at (stream L) _ h (stream_place L l.row (for L l.there)) (R.loops L l.row (for L l.there)).0
      go (gate L) h l = at (gate L) _ h (gate_place L l.row (for L l.there)) (R.loops L l.row (for L l.there)).1
      go (guard L) h l = at (guard L) _ h (guard_place L l.row (for L l.there)) (R.loops L l.row (for L l.there)).2
      go (copy_split L v) h l =
          let c = copied L v l.there in
          at (copy_split L v) _ h (copy_split_place L v l.row c.0 l.value c.1) (R.copies L v l.row c.0 l.value c.1).0
      go (copy_invariant L v) h l =
          let c = copied L v l.there in
          at (copy_invariant L v) _ h (copy_invariant_place L v l.row c.0 l.value c.1) (R.copies L v l.row c.0 l.value c.1).1
      go (carry a) h l = at (carry a) _ h (carry_place a l.row (eqb-true (kind_at t a) 5 l.there)) (R.args a l.row (eqb-true (kind_at t a) 5 l.there)).0
      go (arg_split a) h l = at (arg_split a) _ h (arg_split_place a l.row (eqb-true (kind_at t a) 5 l.there)) (R.args a l.row (eqb-true (kind_at t a) 5 l.there)).1

module _ (t : List ℕ) (S : Structure t) where
  -- ---- the words of each node
  abbrev feed_word : Feed → ℕ
  feed_word (value v B) = value_number t v B
  feed_word (inner w) = wire_number t w
  feed_word nothing = absent

  fed : (f : Feed) (s : ℕ) → Fine t S f s → number_or t (wire_of t f) ≡ feed_word f
  fed (value v B) s h = value_by_number t S v B h.0 h.1 h.2
  fed (inner w) s h = refl
  fed nothing s h = refl

  input_is : (n : Role) (k : Input) → Real t n → input_number t n k ≡ feed_word (role_feed t n k)
  unfolding input_number
  input_is n k l = ap (number_or t) (node_feed t n k l.there) ∙ fed (role_feed t n k) _ (node_input_is_fine t S n k l)

  words_are : (n : Role) (k : Kind) (c s a b d f : ℕ) → role_kind t n ≡ k → Real t n → feed_word (role_feed t n in0) ≡ a → feed_word (role_feed t n in1) ≡ b → feed_word (role_feed t n in2) ≡ d → wire_number t (output n out0) ≡ f
      → record { kind = role_kind t n; code = c; sort = s; wire0 = input_number t n in0; wire1 = input_number t n in1; wire2 = input_number t n in2; first = wire_number t (output n out0) } ≡ node k c s a b d f
  words_are n k c s a b d f e l p q r z = rw (e, input_is n in0 l ∙ p, input_is n in1 l ∙ q, input_is n in2 l ∙ r, z)

  real_row : (n : Role) (i : ℕ) → get_elem? (roles t) i ≡ some n → Real t n
  real_row n i h = listed_role_is_real t n (there (roles t) i n h)

  no_more : (a : ℕ) → a + 0 ≡ a
  no_more a = omega arith

  pub op_node_lem : (r : ℕ) → r < size t → kind_at t r ≡ 2 → plain_node t (op_node r) ≡ node OP (word t r 1) 0 (operand_number t r 0) (operand_number t r 1) absent (wire_base t r)
  op_node_lem r l k =
      let h : is_op t r ≡ true = rw k in
      let c : cond (eqb (kind_at t r) 2) (word t r 1) 0 ≡ word t r 1 = rw k in
      words_are (op_node r) OP _ _ _ _ absent _ (op_is_OP t r k) (real_row (op_node r) _ (op_place t r l h)) refl refl (rw k) (op_number t r l h ∙ no_more (wire_base t r))
      ∙ ap (λ (x : ℕ). node OP x 0 (operand_number t r 0) (operand_number t r 1) absent (wire_base t r)) c

  pub pick_node : (r : ℕ) → r < size t → kind_at t r ≡ 3 → plain_node t (op_node r) ≡ node PICK 0 0 (operand_number t r 0) (operand_number t r 1) (operand_number t r 2) (wire_base t r)
  pick_node r l k =
      let h : is_op t r ≡ true = rw k in
      let c : cond (eqb (kind_at t r) 2) (word t r 1) 0 ≡ 0 = rw k in
      words_are (op_node r) PICK _ _ _ _ (operand_number t r 2) _ (pick_is_PICK t r k) (real_row (op_node r) _ (op_place t r l h)) refl refl (rw k) (op_number t r l h ∙ no_more (wire_base t r))
      ∙ ap (λ (x : ℕ). node PICK x 0 (operand_number t r 0) (operand_number t r 1) (operand_number t r 2) (wire_base t r)) c

  pub stream_node_lem : (L : ℕ) → L < size t → kind_at t L ≡ 4
      → plain_node t (stream L) ≡ node STREAM (5 * word t L 4 + word t L 5) 0 (operand_number t L 0) (operand_number t L 1) (operand_number t L 2) (wire_base t L)
  stream_node_lem L l k = words_are (stream L) STREAM _ _ _ _ _ _ refl (real_row (stream L) _ (stream_place t L l k)) refl refl refl ((stream_number t L l k).0 ∙ no_more (wire_base t L))

  pub gate_node : (L : ℕ) → L < size t → kind_at t L ≡ 4 → plain_node t (gate L) ≡ node GATE 0 0 (wire_base t L) (wire_base t L + 1) absent (wire_base t L + 2)
  gate_node L l k =
      words_are (gate L) GATE _ _ _ _ _ _ refl (real_row (gate L) _ (gate_place t L l k)) ((stream_number t L l k).0 ∙ no_more (wire_base t L)) (stream_number t L l k).1 refl (gate_number t L l k).0

  pub guard_node : (L : ℕ) → L < size t → kind_at t L ≡ 4 → plain_node t (guard L) ≡ node OP (3 + word t L 5) 0 (operand_number t L 0) (operand_number t L 2) absent (wire_base t L + 4)
  guard_node L l k = words_are (guard L) OP _ _ _ _ _ _ refl (real_row (guard L) _ (guard_place t L l k)) refl refl refl (guard_number t L l k)

  pub copy_split_node : (L v : ℕ) → L < size t → kind_at t L ≡ 4 → v < size t → carried t L v ≡ true
      → plain_node t (copy_split L v) ≡ node SPLIT 0 (sort_of t v) (wire_base t L + 4) (value_number t v (reads t L)) absent (wire_base t L + (5 + 3 * copy_place t L v))
  copy_split_node L v l_l k lv c =
      let z : wire_base t L + (5 + (3 * copy_place t L v + 0)) ≡ wire_base t L + (5 + 3 * copy_place t L v) = omega arith in
      words_are (copy_split L v) SPLIT _ _ _ _ _ _ refl (real_row (copy_split L v) _ (copy_split_place t L v l_l k lv c)) (guard_number t L l_l k) refl refl
      (copy_number t L v 0 (output (copy_split L v) out0) l_l k lv c refl ∙ z)

  pub copy_invariant_node : (L v : ℕ) → L < size t → kind_at t L ≡ 4 → v < size t → carried t L v ≡ true
      → plain_node t (copy_invariant L v) ≡ node INVARIANT 0 (sort_of t v) (wire_base t L + 3) (wire_base t L + (5 + 3 * copy_place t L v)) absent (wire_base t L + (7 + 3 * copy_place t L v))
  copy_invariant_node L v l_l k lv c =
      let z : wire_base t L + (5 + (3 * copy_place t L v + 0)) ≡ wire_base t L + (5 + 3 * copy_place t L v) = omega arith in
      let y : wire_base t L + (5 + (3 * copy_place t L v + 2)) ≡ wire_base t L + (7 + 3 * copy_place t L v) = omega arith in
      words_are (copy_invariant L v) INVARIANT _ _ _ _ _ _ refl (real_row (copy_invariant L v) _ (copy_invariant_place t L v l_l k lv c)) (gate_number t L l_l k).1
      (copy_number t L v 0 (output (copy_split L v) out0) l_l k lv c refl ∙ z) refl
      (copy_number t L v 2 (output (copy_invariant L v) out0) l_l k lv c refl ∙ y)

  pub carry_node : (a : ℕ) → a < size t → kind_at t a ≡ 5
      → plain_node t (carry a) ≡ node CARRY 0 0 (wire_base t (body_of t a) + 1) (operand_number t a 0) (operand_number t (next_of t a) 0) (wire_base t a)
  carry_node a l k =
      let r = S.arg_row a l k in
      let low = r.low in
      words_are (carry a) CARRY _ _ _ _ _ _ refl (real_row (carry a) _ (carry_place t a l k)) (stream_number t (body_of t a) (omega arith) r.loop_for).1 refl refl (carry_number t a l k ∙ no_more (wire_base t a))

  pub arg_split_node : (a : ℕ) → a < size t → kind_at t a ≡ 5
      → plain_node t (arg_split a) ≡ node SPLIT 0 0 (wire_base t (body_of t a) + 1) (wire_base t a) absent (wire_base t a + 1)
  arg_split_node a l k =
      let r = S.arg_row a l k in
      let low = r.low in
      words_are (arg_split a) SPLIT _ _ _ _ _ _ refl (real_row (arg_split a) _ (arg_split_place t a l k)) (stream_number t (body_of t a) (omega arith) r.loop_for).1 (carry_number t a l k ∙ no_more (wire_base t a)) refl (arg_number t a l k).0
