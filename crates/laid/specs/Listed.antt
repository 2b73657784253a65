-- The nodes and wires that lowering lists: each once, and which they are.
--
--   Real                              a node that the table has
--   listed_role_is_real, real_role_is_listed, roles_once, role_row_lem
--   Made                              a wire that the table has
--   listed_wire_is_made, made_wire_is_listed, wires_once
--
-- Assumes nothing.
use Rattle.std.specs.Prelude.{ℕ, zero, suc, ◌<◌, ◌⊎◌, Bool, cond, ◌&&◌, List, [], ◌∷◌}
use Rattle.std.proofs.Math.Path.{◌≡◌, refl, ap, subst}
use Rattle.std.proofs.Common.{sym, ◌∙◌, eqb-true}
use Rattle.std.proofs.Math.Logic.{inl, inr}
use Rattle.std.proofs.Math.Bool.{true, false}
use native.Mathlib.Omega.{arith}
use Rattle.step.specs.Kinds.{outputs, Output, out0, out1}
use Rattle.graph.specs.Graph.{output_place}
use Rattle.table.specs.Rows.{kind_at, size}
use Rattle.lowered.specs.Gathered.{those, each}
use Rattle.lowered.specs.Roles.{Role, op_node, stream, gate, guard, copy_split, copy_invariant, carry, arg_split, Wire, start, output}
use Rattle.lowered.specs.Sources.{carried, is_op, is_for, is_arg_row, has}
use Rattle.lowered.specs.Lower.{carried_into, copy, row_roles, roles, role_kind, is_start, start_rows, starts, outputs_by, role_outputs, wires}
use Rattle.laid.specs.Lists.{Among, Once, among_left, among_right, among_split, once_append, gathered_from, gathered_has, gathered_once, each_from, each_has, each_once, those_from, those_has, those_once}

-- the row for which a node is laid down; the value that it carries in, else the row
abbrev pub role_row : Role → ℕ
role_row (op_node r) = r
role_row (stream L) = L
role_row (gate L) = L
role_row (guard L) = L
role_row (copy_split L v) = L
role_row (copy_invariant L v) = L
role_row (carry a) = a
role_row (arg_split a) = a

abbrev pub role_value : Role → ℕ
role_value (op_node r) = r
role_value (stream L) = L
role_value (gate L) = L
role_value (guard L) = L
role_value (copy_split L v) = v
role_value (copy_invariant L v) = v
role_value (carry a) = a
role_value (arg_split a) = a

-- tells roles of different names apart
abbrev tag : Role → ℕ
tag (op_node r) = 0
tag (stream L) = 1
tag (gate L) = 2
tag (guard L) = 3
tag (copy_split L v) = 4
tag (copy_invariant L v) = 5
tag (carry a) = 6
tag (arg_split a) = 7

pub and_true : (a b : Bool) → a ≡ true → b ≡ true → a && b ≡ true
and_true true b p q = q
and_true false b p q = p

pub and_both : (a b : Bool) → a && b ≡ true → (a ≡ true) × (b ≡ true)
and_both true b e = (refl, e)
and_both false b e = let z : ◌≡◌ {A = ℕ} 0 1 = cc in absurd (omega arith)

pub no_both : {B : Type 0} (a : Bool) → a ≡ true → a ≡ false → B
no_both a p q = let z : ◌≡◌ {A = ℕ} 0 1 = cc in absurd (omega arith)

module _ (t : List ℕ) where
  pub record Real (n : Role) : Type 0 where
    pub row : role_row n < size t
    pub value : role_value n < size t
    pub there : has t n ≡ true

  -- ---- one row
  copies_from : (L : ℕ) (n : Role) → Among n (each (copy L) (carried_into t L))
      → (v : ℕ) × (v < size t) × (carried t L v ≡ true) × ((n ≡ copy_split L v) ⊎ (n ≡ copy_invariant L v))
  unfolding carried_into
  copies_from L n h =
      let r = each_from (copy L) (those (carried t L) (size t)) n h in
      let q = those_from (carried t L) (size t) r.0 r.1 in
      (r.0, q.0, q.1, which r.2)
    where
      which : {v : ℕ} → Among n (copy L v) → (n ≡ copy_split L v) ⊎ (n ≡ copy_invariant L v)
      which (inl e) = inl e
      which (inr (inl e)) = inr e
      which (inr (inr e)) = absurd e

  -- a row's node is of that row, and the table has it
  abbrev OfRow : ℕ → Role → Type 0
  OfRow r n = (role_row n ≡ r) × (has t n ≡ true) × ((role_value n ≡ r) ⊎ (role_value n < size t))

  is_row : (r : ℕ) (n m : Role) → n ≡ m → OfRow r m → OfRow r n
  is_row r n m e h = subst (OfRow r) (sym e) h

  row_from_lem : (r : ℕ) (n : Role) → Among n (row_roles t r) → OfRow r n
  unfolding row_roles
  row_from_lem r n h = go (is_op t r) (is_for t r) (is_arg_row t r) refl refl refl h
    where
      go : (a b c : Bool) → is_op t r ≡ a → is_for t r ≡ b → is_arg_row t r ≡ c
          → Among n (cond a (op_node r ∷ []) (cond b (stream r ∷ gate r ∷ guard r ∷ each (copy r) (carried_into t r)) (cond c (carry r ∷ arg_split r ∷ []) []))) → OfRow r n
      go true b c p q s (inl e) = is_row r n (op_node r) e (refl, p, inl refl)
      go true b c p q s (inr e) = absurd e
      go false true c p q s (inl e) = is_row r n (stream r) e (refl, q, inl refl)
      go false true c p q s (inr (inl e)) = is_row r n (gate r) e (refl, q, inl refl)
      go false true c p q s (inr (inr (inl e))) = is_row r n (guard r) e (refl, q, inl refl)
      go false true c p q s (inr (inr (inr e))) =
          let k = copies_from r n e in
          elim k.3 [
            | inl d ↦ is_row r n (copy_split r k.0) d (refl, and_true (is_for t r) (carried t r k.0) q k.2, inr k.1)
            | inr d ↦ is_row r n (copy_invariant r k.0) d (refl, and_true (is_for t r) (carried t r k.0) q k.2, inr k.1)
          ]
      go false false true p q s (inl e) = is_row r n (carry r) e (refl, s, inl refl)
      go false false true p q s (inr (inl e)) = is_row r n (arg_split r) e (refl, s, inl refl)
      go false false true p q s (inr (inr e)) = absurd e
      go false false false p q s e = absurd e

  copies_once : (L : ℕ) → Once (each (copy L) (carried_into t L))
  unfolding carried_into
  copies_once L =
      each_once (copy L) apart (λ v. ((λ h. two v h), ((λ h. h), tt))) (those (carried t L) (size t)) (those_once (carried t L) (size t))
    where
      two : (v : ℕ) → Among (copy_split L v) (copy_invariant L v ∷ []) → ⊥
      two v (inl e) = let z : ◌≡◌ {A = ℕ} 4 5 = ap tag e in omega arith
      two v (inr e) = e

      apart : (v u : ℕ) (n : Role) → Among n (copy L v) → Among n (copy L u) → v ≡ u
      apart v u n (inl p) (inl q) = ap role_value (sym p ∙ q)
      apart v u n (inl p) (inr (inl q)) = let z : ◌≡◌ {A = ℕ} 4 5 = ap tag (sym p ∙ q) in absurd (omega arith)
      apart v u n (inl p) (inr (inr q)) = absurd q
      apart v u n (inr (inl p)) (inl q) = let z : ◌≡◌ {A = ℕ} 5 4 = ap tag (sym p ∙ q) in absurd (omega arith)
      apart v u n (inr (inl p)) (inr (inl q)) = ap role_value (sym p ∙ q)
      apart v u n (inr (inl p)) (inr (inr q)) = absurd q
      apart v u n (inr (inr p)) q = absurd p

  row_once : (r : ℕ) → Once (row_roles t r)
  unfolding row_roles
  row_once r = go (is_op t r) (is_for t r) (is_arg_row t r)
    where
      late : (n : Role) → tag n < 4 → Among n (each (copy r) (carried_into t r)) → ⊥
      late n l h =
          let k = copies_from r n h in
          elim k.3 [ inl d ↦ (let z : tag n ≡ 4 = ap tag d in omega arith) | inr d ↦ (let z : tag n ≡ 5 = ap tag d in omega arith) ]

      first : Among (stream r) (gate r ∷ guard r ∷ each (copy r) (carried_into t r)) → ⊥
      first (inl e) = let z : ◌≡◌ {A = ℕ} 1 2 = ap tag e in omega arith
      first (inr (inl e)) = let z : ◌≡◌ {A = ℕ} 1 3 = ap tag e in omega arith
      first (inr (inr e)) = late (stream r) (omega arith) e

      second : Among (gate r) (guard r ∷ each (copy r) (carried_into t r)) → ⊥
      second (inl e) = let z : ◌≡◌ {A = ℕ} 2 3 = ap tag e in omega arith
      second (inr e) = late (gate r) (omega arith) e

      pair : Among (carry r) (arg_split r ∷ []) → ⊥
      pair (inl e) = let z : ◌≡◌ {A = ℕ} 6 7 = ap tag e in omega arith
      pair (inr e) = e

      go : (a b c : Bool) → Once (cond a (op_node r ∷ []) (cond b (stream r ∷ gate r ∷ guard r ∷ each (copy r) (carried_into t r)) (cond c (carry r ∷ arg_split r ∷ []) [])))
      go true b c = ((λ h. h), tt)
      go false true c = (first, (second, (late (guard r) (omega arith), copies_once r)))
      go false false true = (pair, ((λ h. h), tt))
      go false false false = tt

  pub role_row_lem : (r : ℕ) (n : Role) → Among n (row_roles t r) → role_row n ≡ r
  role_row_lem r n h = (row_from_lem r n h).0

  -- ---- all rows
  pub roles_once : Once (roles t)
  unfolding roles
  roles_once = gathered_once (row_roles t) role_row role_row_lem row_once (size t)

  pub listed_role_is_real : (n : Role) → Among n (roles t) → Real n
  unfolding roles
  listed_role_is_real n h =
      let g = gathered_from (row_roles t) (size t) n h in
      let k = row_from_lem g.0 n g.2 in
      let e = k.0 in
      let l = g.1 in
      record { row = omega arith; value = elim k.2 [ inl d ↦ (omega arith) | inr d ↦ d ]; there = k.1 }

  -- ---- the nodes of each kind of row
  pub for_roles : (r : ℕ) → kind_at t r ≡ 4 → row_roles t r ≡ stream r ∷ gate r ∷ guard r ∷ each (copy r) (carried_into t r)
  unfolding row_roles
  for_roles r k = rw k

  pub arg_roles_lem : (r : ℕ) → kind_at t r ≡ 5 → row_roles t r ≡ carry r ∷ arg_split r ∷ []
  unfolding row_roles
  arg_roles_lem r k = rw k

  pub op_roles : (r : ℕ) → is_op t r ≡ true → row_roles t r ≡ op_node r ∷ []
  unfolding row_roles
  op_roles r k = rw k

  is_for_lem : (L : ℕ) → is_for t L ≡ true → kind_at t L ≡ 4
  is_for_lem L e = eqb-true (kind_at t L) 4 e

  is_arg_lem : (a : ℕ) → is_arg_row t a ≡ true → kind_at t a ≡ 5
  is_arg_lem a e = eqb-true (kind_at t a) 5 e

  in_row : (r : ℕ) (n : Role) (ns : List Role) → row_roles t r ≡ ns → Among n ns → Among n (row_roles t r)
  in_row r n ns e h = subst (Among n) (sym e) h

  copy_in_row : (L v : ℕ) (n : Role) → is_for t L && carried t L v ≡ true → v < size t → Among n (copy L v) → Among n (row_roles t L)
  unfolding carried_into
  copy_in_row L v n h l m =
      let b = and_both (is_for t L) (carried t L v) h in
      in_row L n _ (for_roles L (is_for_lem L b.0))
      (inr (inr (inr (each_has (copy L) (those (carried t L) (size t)) n v (those_has (carried t L) (size t) v l b.1) m))))

  role_in_row : (n : Role) → Real n → Among n (row_roles t (role_row n))
  role_in_row (op_node r) l = in_row r (op_node r) _ (op_roles r l.there) (inl refl)
  role_in_row (stream L) l = in_row L (stream L) _ (for_roles L (is_for_lem L l.there)) (inl refl)
  role_in_row (gate L) l = in_row L (gate L) _ (for_roles L (is_for_lem L l.there)) (inr (inl refl))
  role_in_row (guard L) l = in_row L (guard L) _ (for_roles L (is_for_lem L l.there)) (inr (inr (inl refl)))
  role_in_row (copy_split L v) l = copy_in_row L v (copy_split L v) l.there l.value (inl refl)
  role_in_row (copy_invariant L v) l = copy_in_row L v (copy_invariant L v) l.there l.value (inr (inl refl))
  role_in_row (carry a) l = in_row a (carry a) _ (arg_roles_lem a (is_arg_lem a l.there)) (inl refl)
  role_in_row (arg_split a) l = in_row a (arg_split a) _ (arg_roles_lem a (is_arg_lem a l.there)) (inr (inl refl))

  pub real_role_is_listed : (n : Role) → Real n → Among n (roles t)
  unfolding roles
  real_role_is_listed n l = gathered_has (row_roles t) (size t) n (role_row n) l.row (role_in_row n l)

  -- ---- wires
  abbrev pub Made : Wire → Type 0
  Made (start v) = (v < size t) × (is_start t v ≡ true)
  Made (output n o) = Real n × (output_place o < outputs (role_kind t n))

  outputs_from : (n : Role) (k : ℕ) (w : Wire) → Among w (outputs_by n k) → (o : Output) × (w ≡ output n o) × (output_place o < k)
  outputs_from n zero w h = absurd h
  outputs_from n (suc zero) w (inl e) = (out0, e, omega arith)
  outputs_from n (suc zero) w (inr e) = absurd e
  outputs_from n (suc (suc k)) w (inl e) = (out0, e, omega arith)
  outputs_from n (suc (suc k)) w (inr (inl e)) = (out1, e, omega arith)
  outputs_from n (suc (suc k)) w (inr (inr e)) = absurd e

  outputs_has : (n : Role) (k : ℕ) (o : Output) → output_place o < k → Among (output n o) (outputs_by n k)
  outputs_has n zero o h = absurd (omega arith)
  outputs_has n (suc zero) out0 h = inl refl
  outputs_has n (suc zero) out1 h = absurd (omega arith)
  outputs_has n (suc (suc k)) out0 h = inl refl
  outputs_has n (suc (suc k)) out1 h = inr (inl refl)

  outputs_once : (n : Role) (k : ℕ) → Once (outputs_by n k)
  outputs_once n zero = tt
  outputs_once n (suc zero) = ((λ h. h), tt)
  outputs_once n (suc (suc k)) = (differ, ((λ h. h), tt))
    where
      differ : Among (output n out0) (output n out1 ∷ []) → ⊥
      differ (inl e) = let d : out0 ≡ out1 = cc in let z : ◌≡◌ {A = ℕ} 0 1 = cc in omega arith
      differ (inr e) = e

  pub listed_wire_is_made : (w : Wire) → Among w (wires t) → Made w
  unfolding wires starts start_rows
  listed_wire_is_made w h =
      elim (among_split w (starts t) (each (role_outputs t) (roles t)) h) [
        | inl k ↦ first (each_from (λ r. start r ∷ []) (those (is_start t) (size t)) w k)
        | inr k ↦ second (each_from (role_outputs t) (roles t) w k)
      ]
    where
      first : (v : ℕ) × Among v (those (is_start t) (size t)) × Among w (start v ∷ []) → Made w
      first r = from r.0 (those_from (is_start t) (size t) r.0 r.1) r.2
        where
          from : (v : ℕ) → (v < size t) × (is_start t v ≡ true) → Among w (start v ∷ []) → Made w
          from v m (inl e) = subst Made (sym e) m
          from v m (inr e) = absurd e

      second : (n : Role) × Among n (roles t) × Among w (role_outputs t n) → Made w
      second r =
          let o = outputs_from r.0 (outputs (role_kind t r.0)) w r.2 in
          subst Made (sym o.1) (listed_role_is_real r.0 r.1, o.2)

  pub made_wire_is_listed : (w : Wire) → Made w → Among w (wires t)
  unfolding wires starts start_rows
  made_wire_is_listed (start v) m =
      among_left (start v) (starts t) (each (role_outputs t) (roles t))
      (each_has (λ r. start r ∷ []) (those (is_start t) (size t)) (start v) v (those_has (is_start t) (size t) v m.0 m.1) (inl refl))
  made_wire_is_listed (output n o) m =
      among_right (output n o) (starts t) (each (role_outputs t) (roles t))
      (each_has (role_outputs t) (roles t) (output n o) n (real_role_is_listed n m.0) (outputs_has n (outputs (role_kind t n)) o m.1))

  pub wires_once : Once (wires t)
  unfolding wires starts start_rows
  wires_once =
      once_append (starts t) (each (role_outputs t) (roles t))
      (each_once (λ r. start r ∷ []) one_start (λ r. ((λ h. h), tt)) (those (is_start t) (size t)) (those_once (is_start t) (size t)))
      (each_once (role_outputs t) one_role (λ n. outputs_once n (outputs (role_kind t n))) (roles t) roles_once)
      apart
    where
      one_start : (v u : ℕ) (w : Wire) → Among w (start v ∷ []) → Among w (start u ∷ []) → v ≡ u
      one_start v u w (inl p) (inl q) = cc
      one_start v u w (inl p) (inr q) = absurd q
      one_start v u w (inr p) q = absurd p

      one_role : (n m : Role) (w : Wire) → Among w (role_outputs t n) → Among w (role_outputs t m) → n ≡ m
      one_role n m w p q =
          let a = outputs_from n (outputs (role_kind t n)) w p in
          let b = outputs_from m (outputs (role_kind t m)) w q in
          let e : output n a.0 ≡ output m b.0 = sym a.1 ∙ b.1 in
          cc

      apart : (w : Wire) → Among w (starts t) → Among w (each (role_outputs t) (roles t)) → ⊥
      apart w p q =
          let a = each_from (λ r. start r ∷ []) (those (is_start t) (size t)) w p in
          let b = each_from (role_outputs t) (roles t) w q in
          let c = outputs_from b.0 (outputs (role_kind t b.0)) w b.2 in
          clash a.0 b.0 c.0 a.2 c.1
        where
          clash : (v : ℕ) (n : Role) (o : Output) → Among w (start v ∷ []) → w ≡ output n o → ⊥
          clash v n o (inl e) d = let z : ◌≡◌ {A = ℕ} 0 1 = cc in omega arith
          clash v n o (inr e) d = e
