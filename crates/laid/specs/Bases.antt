-- The numbers of nodes and wires as running sums over the rows: what a program adds up going down the table.
--
--   node_base, wire_base      the first node and the first output number of a row
--   copy_place                the place of a value among those carried into a loop
--   node_base_op, -for, -arg, -other, and wire_base_op, ..      what each kind of row adds
--   start_number              an INPUT or CONST row's wire has the row's own number
--   op_number, stream_number, gate_number, guard_number, copy_number, carry_number, arg_number
--
-- Assumes nothing.
use Prim.Native.Nat.{ℕ, zero, suc, ◌+◌, ◌*◌, ◌≤◌, ◌<◌}
use Rattle.std.specs.Prelude.{◌≡◌, ◌≢◌, Bool, true, cond}
use Rattle.std.proofs.Math.Path.{refl, sym, ap, ap₂}
use Rattle.std.proofs.Common.{◌∙◌, mul-zero}
use Rattle.std.proofs.Math.Logic.{inl, inr}
use mathlib.Core.List.{List, [], ◌∷◌, ◌++◌}
use Rattle.std.proofs.Math.Option.{some}
use native.Mathlib.Omega.{arith}
use Rattle.std.proofs.Math.Nat.{mul-suc, zero-add}
use borrow.Author.Tests.{ne_eqb, le-leb}
use Rattle.std.proofs.Math.ListN.{length, get_elem?, length-append}
use Rattle.step.specs.Kinds.{out0, out1}
use Rattle.table.specs.Rows.{kind_at, size}
use Rattle.structure.specs.Structure.{Structure}
use Rattle.lowered.specs.Gathered.{gathered, those, each}
use Rattle.lowered.specs.Roles.{Role, op_node, stream, gate, guard, copy_split, copy_invariant, carry, arg_split, Wire, start, output, same_wire}
use Rattle.lowered.specs.Sources.{carried, is_op}
use Rattle.lowered.specs.Lower.{carried_into, copy, row_roles, roles, is_start, start_rows, starts, role_outputs, wires, wire_number, start_total}
use Rattle.laid.specs.Lists.{below_or_last, elem_left, elem_right, none_some, position_is}
use Rattle.laid.specs.Indexed.{each_append}
use Rattle.laid.specs.Listed.{wires_once, for_roles, arg_roles_lem, op_roles}
use Rattle.laid.specs.Made.{op_kind, op_is_OP, pick_is_PICK}

-- the first node of row r is this number; the first output of row r is this one
unfoldable pub node_base : List ℕ → ℕ → ℕ
node_base t r = length (gathered (row_roles t) r)

unfoldable pub wire_base : List ℕ → ℕ → ℕ
wire_base t r = start_total t + length (each (role_outputs t) (gathered (row_roles t) r))

-- how many smaller values are carried into L
unfoldable pub copy_place : List ℕ → ℕ → ℕ → ℕ
copy_place t L v = length (those (carried t L) v)

-- ---- lists of pieces, by place
module _ {A : Type 0} where
  -- what stands at a place of a row's part stands there in the whole
  pub part_at : {B : Type 0} (g : A → List B) (f : ℕ → List A) (n r k : ℕ) (b : B) → r < n → get_elem? (each g (f r)) k ≡ some b
      → get_elem? (each g (gathered f n)) (length (each g (gathered f r)) + k) ≡ some b
  unfolding gathered
  part_at g f zero r k b l h = absurd (omega arith)
  part_at g f (suc n) r k b l h =
      elim (below_or_last r n l) [
        | inl q ↦ ap (λ xs. get_elem? xs (length (each g (gathered f r)) + k)) (each_append g (gathered f n) (f n))
            ∙ elem_left (each g (gathered f n)) (each g (f n)) (length (each g (gathered f r)) + k) b (part_at g f n r k b q h)
        | inr q ↦ ap (λ xs. get_elem? xs (length (each g (gathered f r)) + k)) (each_append g (gathered f n) (f n))
            ∙ ap (λ (z : ℕ). get_elem? (each g (gathered f n) ++ each g (f n)) (length (each g (gathered f z)) + k)) q
            ∙ elem_right (each g (gathered f n)) (each g (f n)) k
            ∙ ap (λ (z : ℕ). get_elem? (each g (f z)) k) (sym q) ∙ h
      ]

  -- pieces of c elements
  pub piece_at : {B : Type 0} (f : A → List B) (c : ℕ) → ((x : A) → length (f x) ≡ c) → (xs : List A) (i k : ℕ) (x : A) (b : B) → get_elem? xs i ≡ some x → get_elem? (f x) k ≡ some b
      → get_elem? (each f xs) (c * i + k) ≡ some b
  unfolding each
  piece_at f c size [] i k x b h e = none_some x h
  piece_at f c size (y ∷ xs) zero k x b h e =
      let d : y ≡ x = cc in
      let z : c * 0 + k ≡ k = ap (λ (n : ℕ). n + k) (mul-zero c) ∙ zero-add k in
      ap (get_elem? (f y ++ each f xs)) z ∙ elem_left (f y) (each f xs) k b (ap (λ (a : A). get_elem? (f a) k) d ∙ e)
  piece_at f c size (y ∷ xs) (suc i) k x b h e =
      let s = size y in
      let p = mul-suc c i in
      let z : c * suc i + k ≡ length (f y) + (c * i + k) = omega arith in
      ap (get_elem? (f y ++ each f xs)) z ∙ elem_right (f y) (each f xs) (c * i + k) ∙ piece_at f c size xs i k x b h e

  pub length_pieces : {B : Type 0} (f : A → List B) (c : ℕ) → ((x : A) → length (f x) ≡ c) → (xs : List A) → length (each f xs) ≡ c * length xs
  unfolding each
  length_pieces f c size [] = sym (mul-zero c)
  length_pieces f c size (x ∷ xs) =
      let p = mul-suc c (length xs) in
      length-append (f x) (each f xs) ∙ ap₂ (λ a b. a + b) (size x) (length_pieces f c size xs) ∙ (let e : c + c * length xs ≡ c * suc (length xs) = omega arith in e)

-- a row that passes a test stands behind the smaller ones that do
pub those_at : (test : ℕ → Bool) (n v : ℕ) → v < n → test v ≡ true → get_elem? (those test n) (length (those test v)) ≡ some v
unfolding those
those_at test zero v l e = absurd (omega arith)
those_at test (suc n) v l e =
    elim (below_or_last v n l) [
      | inl q ↦ elem_left (those test n) (cond (test n) (n ∷ []) []) (length (those test v)) v (those_at test n v q e)
      | inr q ↦ last q
    ]
  where
    last : v ≡ n → get_elem? (those test n ++ cond (test n) (n ∷ []) []) (length (those test v)) ≡ some v
    last q =
        let d : test n ≡ true = ap test (sym q) ∙ e in
        let z : length (those test n) + 0 ≡ length (those test n) = omega arith in
        ap (λ (x : ℕ). get_elem? (those test n ++ cond (test n) (n ∷ []) []) (length (those test x))) q
        ∙ ap (get_elem? (those test n ++ cond (test n) (n ∷ []) [])) (sym z)
        ∙ elem_right (those test n) (cond (test n) (n ∷ []) []) 0
        ∙ ap (λ (b : Bool). get_elem? (cond b (n ∷ []) []) 0) d ∙ ap some (sym q)

-- ---- what each kind of row adds
module _ (t : List ℕ) where
  node_step : (r : ℕ) → node_base t (suc r) ≡ node_base t r + length (row_roles t r)
  unfolding node_base gathered
  node_step r = length-append (gathered (row_roles t) r) (row_roles t r)

  wire_step : (r : ℕ) → wire_base t (suc r) ≡ wire_base t r + length (each (role_outputs t) (row_roles t r))
  unfolding wire_base gathered
  wire_step r =
      let a = ap length (each_append (role_outputs t) (gathered (row_roles t) r) (row_roles t r)) in
      let b = length-append (each (role_outputs t) (gathered (row_roles t) r)) (each (role_outputs t) (row_roles t r)) in
      omega arith

  -- the wires of a loop's copies, three for each value
  abbrev copy_outputs : ℕ → ℕ → List Wire
  copy_outputs L v = output (copy_split L v) out0 ∷ output (copy_split L v) out1 ∷ output (copy_invariant L v) out0 ∷ []

  copies_outputs : (L : ℕ) (vs : List ℕ) → each (role_outputs t) (each (copy L) vs) ≡ each (copy_outputs L) vs
  unfolding each
  copies_outputs L [] = refl
  copies_outputs L (v ∷ vs) = ap (λ (ws : List Wire). copy_outputs L v ++ ws) (copies_outputs L vs)

  -- a loop's wires in order
  abbrev loop_outputs : ℕ → List Wire
  loop_outputs L =
      output (stream L) out0 ∷ output (stream L) out1 ∷ output (gate L) out0 ∷ output (gate L) out1 ∷ output (guard L) out0
      ∷ each (copy_outputs L) (carried_into t L)

  pub for_outputs : (L : ℕ) → kind_at t L ≡ 4 → each (role_outputs t) (row_roles t L) ≡ loop_outputs L
  unfolding each
  for_outputs L k = ap (each (role_outputs t)) (for_roles t L k) ∙ ap (λ (ws : List Wire). output (stream L) out0 ∷ output (stream L) out1 ∷ output (gate L) out0 ∷ output (gate L) out1 ∷ output (guard L) out0 ∷ ws) (copies_outputs L (carried_into t L))

  pub arg_outputs : (a : ℕ) → kind_at t a ≡ 5 → each (role_outputs t) (row_roles t a) ≡ output (carry a) out0 ∷ output (arg_split a) out0 ∷ output (arg_split a) out1 ∷ []
  unfolding each
  arg_outputs a k = ap (each (role_outputs t)) (arg_roles_lem t a k)

  one_output : (r : ℕ) → is_op t r ≡ true → role_outputs t (op_node r) ≡ output (op_node r) out0 ∷ []
  one_output r h = elim (op_kind t r h) [ inl e ↦ rw (op_is_OP t r e) | inr e ↦ rw (pick_is_PICK t r e) ]

  pub op_outputs : (r : ℕ) → is_op t r ≡ true → each (role_outputs t) (row_roles t r) ≡ output (op_node r) out0 ∷ []
  unfolding each
  op_outputs r h = ap (each (role_outputs t)) (op_roles t r h) ∙ ap (λ (ws : List Wire). ws ++ []) (one_output r h)

  pub no_roles : (r : ℕ) → kind_at t r ≢ 2 → kind_at t r ≢ 3 → kind_at t r ≢ 4 → kind_at t r ≢ 5 → row_roles t r ≡ []
  unfolding row_roles
  no_roles r a b c d = rw (ne_eqb (kind_at t r) 2 a, ne_eqb (kind_at t r) 3 b, ne_eqb (kind_at t r) 4 c, ne_eqb (kind_at t r) 5 d)

  copies_long : (L : ℕ) (vs : List ℕ) → length (each (copy L) vs) ≡ 2 * length vs
  copies_long L vs = length_pieces (copy L) 2 (λ v. refl) vs

  pub node_base_op : (r : ℕ) → is_op t r ≡ true → node_base t (suc r) ≡ node_base t r + 1
  node_base_op r h = node_step r ∙ ap (λ (ns : List Role). node_base t r + length ns) (op_roles t r h)

  pub node_base_for : (L : ℕ) → kind_at t L ≡ 4 → node_base t (suc L) ≡ node_base t L + (3 + 2 * length (carried_into t L))
  node_base_for L k =
      let c = copies_long L (carried_into t L) in
      node_step L ∙ ap (λ (ns : List Role). node_base t L + length ns) (for_roles t L k) ∙ (let e : node_base t L + suc (suc (suc (length (each (copy L) (carried_into t L))))) ≡ node_base t L + (3 + 2 * length (carried_into t L)) = omega arith in e)

  pub node_base_arg : (a : ℕ) → kind_at t a ≡ 5 → node_base t (suc a) ≡ node_base t a + 2
  node_base_arg a k = node_step a ∙ ap (λ (ns : List Role). node_base t a + length ns) (arg_roles_lem t a k)

  pub node_base_other : (r : ℕ) → row_roles t r ≡ [] → node_base t (suc r) ≡ node_base t r
  node_base_other r e = node_step r ∙ ap (λ (ns : List Role). node_base t r + length ns) e ∙ (let z : node_base t r + 0 ≡ node_base t r = omega arith in z)

  pub wire_base_op : (r : ℕ) → is_op t r ≡ true → wire_base t (suc r) ≡ wire_base t r + 1
  wire_base_op r h = wire_step r ∙ ap (λ (ws : List Wire). wire_base t r + length ws) (op_outputs r h)

  pub wire_base_for : (L : ℕ) → kind_at t L ≡ 4 → wire_base t (suc L) ≡ wire_base t L + (5 + 3 * length (carried_into t L))
  wire_base_for L k =
      let c = length_pieces (copy_outputs L) 3 (λ v. refl) (carried_into t L) in
      wire_step L ∙ ap (λ (ws : List Wire). wire_base t L + length ws) (for_outputs L k)
      ∙ (let e : wire_base t L + suc (suc (suc (suc (suc (length (each (copy_outputs L) (carried_into t L))))))) ≡ wire_base t L + (5 + 3 * length (carried_into t L)) = omega arith in e)

  pub wire_base_arg : (a : ℕ) → kind_at t a ≡ 5 → wire_base t (suc a) ≡ wire_base t a + 3
  wire_base_arg a k = wire_step a ∙ ap (λ (ws : List Wire). wire_base t a + length ws) (arg_outputs a k)

  -- ---- the numbers of wires
  pub starts_long : length (starts t) ≡ start_total t
  unfolding starts start_total
  starts_long = length_pieces (λ r. start r ∷ []) 1 (λ r. refl) (start_rows t) ∙ (let z : 1 * length (start_rows t) ≡ length (start_rows t) = omega arith in z)

  output_number_lem : (r k : ℕ) (w : Wire) → r < size t → get_elem? (each (role_outputs t) (row_roles t r)) k ≡ some w → wire_number t w ≡ wire_base t r + k
  unfolding wire_number wires roles wire_base
  output_number_lem r k w l h =
      let p = part_at (role_outputs t) (row_roles t) (size t) r k w l h in
      let s = starts_long in
      let z : start_total t + length (each (role_outputs t) (gathered (row_roles t) r)) + k ≡ length (starts t) + (length (each (role_outputs t) (gathered (row_roles t) r)) + k) = omega arith in
      position_is same_wire w (wires t) (start_total t + length (each (role_outputs t) (gathered (row_roles t) r)) + k) (wires_once t)
      (ap (get_elem? (wires t)) z ∙ elem_right (starts t) (each (role_outputs t) (gathered (row_roles t) (size t))) (length (each (role_outputs t) (gathered (row_roles t) r)) + k) ∙ p)

  in_outputs : (r k : ℕ) (w : Wire) (ws : List Wire) → r < size t → each (role_outputs t) (row_roles t r) ≡ ws → get_elem? ws k ≡ some w → wire_number t w ≡ wire_base t r + k
  in_outputs r k w ws l e h = output_number_lem r k w l (ap (λ (x : List Wire). get_elem? x k) e ∙ h)

  pub op_number : (r : ℕ) → r < size t → is_op t r ≡ true → wire_number t (output (op_node r) out0) ≡ wire_base t r + 0
  op_number r l h = in_outputs r 0 (output (op_node r) out0) _ l (op_outputs r h) refl

  pub stream_number : (L : ℕ) → L < size t → kind_at t L ≡ 4 → (wire_number t (output (stream L) out0) ≡ wire_base t L + 0) × (wire_number t (output (stream L) out1) ≡ wire_base t L + 1)
  stream_number L l k = (in_outputs L 0 (output (stream L) out0) _ l (for_outputs L k) refl, in_outputs L 1 (output (stream L) out1) _ l (for_outputs L k) refl)

  pub gate_number : (L : ℕ) → L < size t → kind_at t L ≡ 4 → (wire_number t (output (gate L) out0) ≡ wire_base t L + 2) × (wire_number t (output (gate L) out1) ≡ wire_base t L + 3)
  gate_number L l k = (in_outputs L 2 (output (gate L) out0) _ l (for_outputs L k) refl, in_outputs L 3 (output (gate L) out1) _ l (for_outputs L k) refl)

  pub guard_number : (L : ℕ) → L < size t → kind_at t L ≡ 4 → wire_number t (output (guard L) out0) ≡ wire_base t L + 4
  guard_number L l k = in_outputs L 4 (output (guard L) out0) _ l (for_outputs L k) refl

  pub carry_number : (a : ℕ) → a < size t → kind_at t a ≡ 5 → wire_number t (output (carry a) out0) ≡ wire_base t a + 0
  carry_number a l k = in_outputs a 0 (output (carry a) out0) _ l (arg_outputs a k) refl

  pub arg_number : (a : ℕ) → a < size t → kind_at t a ≡ 5 → (wire_number t (output (arg_split a) out0) ≡ wire_base t a + 1) × (wire_number t (output (arg_split a) out1) ≡ wire_base t a + 2)
  arg_number a l k = (in_outputs a 1 (output (arg_split a) out0) _ l (arg_outputs a k) refl, in_outputs a 2 (output (arg_split a) out1) _ l (arg_outputs a k) refl)

  copy_at : (L v j : ℕ) (w : Wire) → v < size t → carried t L v ≡ true → get_elem? (copy_outputs L v) j ≡ some w → get_elem? (each (copy_outputs L) (carried_into t L)) (3 * copy_place t L v + j) ≡ some w
  unfolding carried_into copy_place
  copy_at L v j w l c h = piece_at (copy_outputs L) 3 (λ v. refl) (those (carried t L) (size t)) (length (those (carried t L) v)) j v w (those_at (carried t L) (size t) v l c) h

  -- the three wires of a copy
  pub copy_number : (L v j : ℕ) (w : Wire) → L < size t → kind_at t L ≡ 4 → v < size t → carried t L v ≡ true → get_elem? (copy_outputs L v) j ≡ some w → wire_number t w ≡ wire_base t L + (5 + (3 * copy_place t L v + j))
  copy_number L v j w l_l k lv c h =
      output_number_lem L (5 + (3 * copy_place t L v + j)) w l_l
      (ap (λ (x : List Wire). get_elem? x (5 + (3 * copy_place t L v + j))) (for_outputs L k)
      ∙ elem_right (output (stream L) out0 ∷ output (stream L) out1 ∷ output (gate L) out0 ∷ output (gate L) out1 ∷ output (guard L) out0 ∷ []) (each (copy_outputs L) (carried_into t L)) (3 * copy_place t L v + j)
      ∙ copy_at L v j w lv c h)

-- ---- starts
module _ (t : List ℕ) (S : Structure t) where
  pub all_starts : (v : ℕ) → v ≤ size t → ((r : ℕ) → r < v → is_start t r ≡ true) → length (those (is_start t) v) ≡ v
  unfolding those
  all_starts zero l h = refl
  all_starts (suc v) l h =
      let r = all_starts v (omega arith) (λ r q. h r (omega arith)) in
      let a = length-append (those (is_start t) v) (cond (is_start t v) (v ∷ []) []) in
      let b : length (cond (is_start t v) (v ∷ []) []) ≡ 1 = ap (λ (b : Bool). length (cond b (v ∷ []) [])) (h v (omega arith)) in
      omega arith

  -- 'No other kind stands above an INPUT or CONST', so row v is the v-th of them
  pub start_number : (v : ℕ) → v < size t → kind_at t v ≤ 1 → wire_number t (start v) ≡ v
  unfolding wire_number wires starts start_rows
  start_number v l k =
      let place = all_starts v (omega arith) (λ r q. le-leb (kind_at t r) 1 (S.starts r v q l k)) in
      let at = those_at (is_start t) (size t) v l (le-leb (kind_at t v) 1 k) in
      let e : get_elem? (those (is_start t) (size t)) v ≡ some v = ap (get_elem? (those (is_start t) (size t))) (sym place) ∙ at in
      let p = piece_at (λ r. start r ∷ []) 1 (λ r. refl) (those (is_start t) (size t)) v 0 v (start v) e refl in
      position_is same_wire (start v) (wires t) v (wires_once t)
      (elem_left (starts t) (each (role_outputs t) (roles t)) v (start v) (ap (get_elem? (starts t)) (let z : v ≡ 1 * v + 0 = omega arith in z) ∙ p))
