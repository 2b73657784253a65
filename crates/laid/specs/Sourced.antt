-- The sources of all uses, row by row, as numbers: the list that a program writes down going down the table once.
--
--   row_sources           the sources of a row's nodes, by node and input position
--   out_source            the source of an OUT row's result
--   use_wires_by_rows     `use_wires` is the rows' sources, then the OUT rows'
--
-- Assumes nothing.
use Prim.Native.Nat.{ℕ, zero, suc, ◌+◌, ◌*◌, ◌≤◌, ◌<◌}
use Rattle.std.specs.Prelude.{◌≡◌, Bool, eqb}
use Rattle.std.proofs.Math.Path.{refl, ap, ap₂}
use Rattle.std.proofs.Common.{sym, ◌∙◌, subst, inl, inr, arith, eqb-true}
use Rattle.std.proofs.Math.Bool.{true, false, cond}
use mathlib.Core.List.{List, [], ◌∷◌, ◌++◌}
use Rattle.std.proofs.Math.Option.{Option}
use Rattle.step.specs.Kinds.{Input, in0, in1, in2, out0, out1}
use Rattle.table.specs.Rows.{kind_at, size}
use Rattle.table.specs.Scan.{body_of, reads}
use Rattle.table.specs.Bodies.{operand, next_of}
use Rattle.structure.specs.Structure.{Structure}
use Rattle.lowered.specs.Gathered.{gathered, each}
use Rattle.lowered.specs.Roles.{Role, op_node, stream, gate, guard, copy_split, copy_invariant, carry, arg_split, Wire, output, Use, into, result}
use Rattle.lowered.specs.Sources.{carried, Feed, value, inner, nothing, named, is_op, is_for, is_arg_row, wire_of, source, role_feed}
use Rattle.lowered.specs.Lower.{carried_into, copy, row_roles, roles, wire_number, taken, use_if, role_uses, is_out, out_rows, uses}
use Rattle.laid.specs.Lists.{Among, gathered_has, those_from}
use Rattle.laid.specs.Indexed.{each_append}
use Rattle.laid.specs.Listed.{Real, listed_role_is_real, for_roles, arg_roles_lem, op_roles}
use Rattle.laid.specs.Made.{Fine, node_input_is_fine, result_is_fine, node_feed, result_feed}
use Rattle.laid.specs.Legs.{standing}
use Rattle.laid.specs.Taken.{out_row}
use Rattle.laid.specs.Bases.{wire_base, copy_place, stream_number, gate_number, guard_number, carry_number, copy_number}
use Rattle.laid.specs.Counts.{number_of, source_number, use_wires}
use Rattle.laid.specs.Wired.{value_number, value_by_number}

-- operand j of row r, by number
abbrev pub operand_number : List ℕ → ℕ → ℕ → ℕ
operand_number t r j = value_number t (operand t r j) (reads t r)

-- a copy: 'the guard, and v in the body around'; 'the gated condition, and the true leg of that SPLIT'
abbrev pub copy_sources : List ℕ → ℕ → ℕ → List ℕ
copy_sources t L v =
    (wire_base t L + 4) ∷ value_number t v (reads t L) ∷ (wire_base t L + 3) ∷ (wire_base t L + (5 + (3 * copy_place t L v + 0))) ∷ []

-- STREAM, GATE, the guard; then the copies 'for each v carried in, from the lowest row up'
abbrev pub for_sources : List ℕ → ℕ → List ℕ
for_sources t L =
    operand_number t L 0 ∷ operand_number t L 1 ∷ operand_number t L 2 ∷ (wire_base t L + 0) ∷ (wire_base t L + 1)
    ∷ operand_number t L 0 ∷ operand_number t L 2 ∷ each (copy_sources t L) (carried_into t L)

-- CARRY: 'the raw condition, the initial word in the body around, and what its NEXT names in the loop'; SPLIT: 'the raw condition and the
-- CARRY's word'
abbrev pub arg_sources : List ℕ → ℕ → List ℕ
arg_sources t a =
    (wire_base t (body_of t a) + 1) ∷ operand_number t a 0 ∷ operand_number t (next_of t a) 0
    ∷ (wire_base t (body_of t a) + 1) ∷ (wire_base t a + 0) ∷ []

abbrev pub op_sources : List ℕ → ℕ → List ℕ
op_sources t r = operand_number t r 0 ∷ operand_number t r 1 ∷ cond (eqb (kind_at t r) 3) (operand_number t r 2 ∷ []) []

unfoldable pub row_sources : List ℕ → ℕ → List ℕ
row_sources t r = cond (is_op t r) (op_sources t r) (cond (is_for t r) (for_sources t r) (cond (is_arg_row t r) (arg_sources t r) []))

pub standing_append : (on : Use → ℕ) (a b : List Use) → standing on (a ++ b) ≡ standing on a ++ standing on b
standing_append on [] b = refl
standing_append on (u ∷ a) b = ap (λ (l : List ℕ). on u ∷ l) (standing_append on a b)

nothing_laid : (t : List ℕ) (r : ℕ) → is_op t r ≡ false → is_for t r ≡ false → is_arg_row t r ≡ false → row_roles t r ≡ []
unfolding row_roles
nothing_laid t r p q s = rw (p, q, s)

module _ (t : List ℕ) (S : Structure t) where
  abbrev numbers_of : List Use → List ℕ
  numbers_of us = standing (source_number t) us

  -- ---- what one input takes, by number
  abbrev feed_number : Feed → List ℕ
  feed_number (value v B) = value_number t v B ∷ []
  feed_number (inner w) = wire_number t w ∷ []
  feed_number nothing = []

  feed_number_lem : (u : Use) (f : Feed) (s : ℕ) → source t u ≡ wire_of t f → Fine t S f s → numbers_of (use_if t u) ≡ feed_number f
  unfolding source_number
  feed_number_lem u (value v B) s e h =
      ap (λ (o : Option Wire). numbers_of (taken o u)) e ∙ ap (λ (n : ℕ). n ∷ []) (ap (number_of t) e ∙ value_by_number t S v B h.0 h.1 h.2)
  feed_number_lem u (inner w) s e h = ap (λ (o : Option Wire). numbers_of (taken o u)) e ∙ ap (λ (n : ℕ). n ∷ []) (ap (number_of t) e)
  feed_number_lem u nothing s e h = ap (λ (o : Option Wire). numbers_of (taken o u)) e

  input_number_lem : (n : Role) (k : Input) → Real t n → numbers_of (use_if t (into n k)) ≡ feed_number (role_feed t n k)
  input_number_lem n k l = feed_number_lem (into n k) (role_feed t n k) _ (node_feed t n k l.there) (node_input_is_fine t S n k l)

  role_numbers : (n : Role) → Real t n → numbers_of (role_uses t n) ≡ feed_number (role_feed t n in0) ++ (feed_number (role_feed t n in1) ++ feed_number (role_feed t n in2))
  role_numbers n l =
      standing_append (source_number t) (use_if t (into n in0)) (use_if t (into n in1) ++ use_if t (into n in2))
      ∙ ap₂ {C = List ℕ} (λ a b. a ++ b) (input_number_lem n in0 l)
      (standing_append (source_number t) (use_if t (into n in1)) (use_if t (into n in2)) ∙ ap₂ {C = List ℕ} (λ a b. a ++ b) (input_number_lem n in1 l) (input_number_lem n in2 l))

  -- ---- the nodes of one row
  abbrev row_numbers : List Role → List ℕ
  row_numbers ns = numbers_of (each (role_uses t) ns)

  numbers_first : (n : Role) (ns : List Role) → row_numbers (n ∷ ns) ≡ numbers_of (role_uses t n) ++ row_numbers ns
  unfolding each
  numbers_first n ns = standing_append (source_number t) (role_uses t n) (each (role_uses t) ns)

  one_role : (n : Role) (ns : List Role) (xs : List ℕ) → Real t n → feed_number (role_feed t n in0) ++ (feed_number (role_feed t n in1) ++ feed_number (role_feed t n in2)) ≡ xs → row_numbers (n ∷ ns) ≡ xs ++ row_numbers ns
  one_role n ns xs l e = numbers_first n ns ∙ ap (λ (ys : List ℕ). ys ++ row_numbers ns) (role_numbers n l ∙ e)

  real_in : (r : ℕ) (n : Role) (ns : List Role) → r < size t → row_roles t r ≡ ns → Among n ns → Real t n
  unfolding roles
  real_in r n ns l e h = listed_role_is_real t n (gathered_has (row_roles t) (size t) n r l (subst (Among n) (sym e) h))

  op_numbers : (r : ℕ) → r < size t → is_op t r ≡ true → row_numbers (row_roles t r) ≡ op_sources t r
  unfolding each
  op_numbers r l h =
      ap row_numbers (op_roles t r h)
      ∙ one_role (op_node r) [] (op_sources t r) (real_in r (op_node r) _ l (op_roles t r h) (inl refl)) (third (eqb (kind_at t r) 3))
      ∙ nil (op_sources t r)
    where
      third : (b : Bool) → operand_number t r 0 ∷ operand_number t r 1 ∷ feed_number (cond b (named t r 2) nothing) ≡ operand_number t r 0 ∷ operand_number t r 1 ∷ cond b (operand_number t r 2 ∷ []) []
      third true = refl
      third false = refl

      nil : (xs : List ℕ) → xs ++ [] ≡ xs
      nil [] = refl
      nil (x ∷ xs) = ap (λ (l : List ℕ). x ∷ l) (nil xs)

  arg_numbers : (a : ℕ) → a < size t → kind_at t a ≡ 5 → row_numbers (row_roles t a) ≡ arg_sources t a
  unfolding each
  arg_numbers a l k =
      let r = S.arg_row a l k in
      let low = r.low in
      let raw : wire_number t (output (stream (body_of t a)) out1) ≡ wire_base t (body_of t a) + 1 = (stream_number t (body_of t a) (omega arith) r.loop_for).1 in
      let own : wire_number t (output (carry a) out0) ≡ wire_base t a + 0 = carry_number t a l k in
      ap row_numbers (arg_roles_lem t a k)
      ∙ one_role (carry a) (arg_split a ∷ []) ((wire_base t (body_of t a) + 1) ∷ operand_number t a 0 ∷ operand_number t (next_of t a) 0 ∷ []) (real_in a (carry a) _ l (arg_roles_lem t a k) (inl refl)) (ap (λ (n : ℕ). n ∷ operand_number t a 0 ∷ operand_number t (next_of t a) 0 ∷ []) raw)
      ∙ ap (λ (xs : List ℕ). (wire_base t (body_of t a) + 1) ∷ operand_number t a 0 ∷ operand_number t (next_of t a) 0 ∷ xs)
      (one_role (arg_split a) [] ((wire_base t (body_of t a) + 1) ∷ (wire_base t a + 0) ∷ []) (real_in a (arg_split a) _ l (arg_roles_lem t a k) (inr (inl refl))) (ap₂ {C = List ℕ} (λ (n m : ℕ). n ∷ m ∷ []) raw own))

  copies_numbers : (L : ℕ) → L < size t → kind_at t L ≡ 4 → (vs : List ℕ) → ((v : ℕ) → Among v vs → (v < size t) × (carried t L v ≡ true)) → ((n : Role) → Among n (each (copy L) vs) → Real t n)
      → row_numbers (each (copy L) vs) ≡ each (copy_sources t L) vs
  unfolding each
  copies_numbers L l k [] c h = refl
  copies_numbers L l k (v ∷ vs) c h =
      let q = c v (inl refl) in
      let g : wire_number t (output (guard L) out0) ≡ wire_base t L + 4 = guard_number t L l k in
      let d : wire_number t (output (gate L) out1) ≡ wire_base t L + 3 = (gate_number t L l k).1 in
      let s : wire_number t (output (copy_split L v) out0) ≡ wire_base t L + (5 + (3 * copy_place t L v + 0)) = copy_number t L v 0 (output (copy_split L v) out0) l k q.0 q.1 refl in
      one_role (copy_split L v) (copy_invariant L v ∷ each (copy L) vs) ((wire_base t L + 4) ∷ value_number t v (reads t L) ∷ []) (h (copy_split L v) (inl refl)) (ap (λ (n : ℕ). n ∷ value_number t v (reads t L) ∷ []) g)
      ∙ ap (λ (xs : List ℕ). (wire_base t L + 4) ∷ value_number t v (reads t L) ∷ xs)
      (one_role (copy_invariant L v) (each (copy L) vs) ((wire_base t L + 3) ∷ (wire_base t L + (5 + (3 * copy_place t L v + 0))) ∷ []) (h (copy_invariant L v) (inr (inl refl))) (ap₂ {C = List ℕ} (λ (n m : ℕ). n ∷ m ∷ []) d s)
      ∙ ap (λ (xs : List ℕ). (wire_base t L + 3) ∷ (wire_base t L + (5 + (3 * copy_place t L v + 0))) ∷ xs) (copies_numbers L l k vs (λ x m. c x (inr m)) (λ n m. h n (inr (inr m)))))

  carried_from : (L v : ℕ) → Among v (carried_into t L) → (v < size t) × (carried t L v ≡ true)
  unfolding carried_into
  carried_from L v h = those_from (carried t L) (size t) v h

  for_numbers : (L : ℕ) → L < size t → kind_at t L ≡ 4 → row_numbers (row_roles t L) ≡ for_sources t L
  unfolding each
  for_numbers L l k =
      let raw = stream_number t L l k in
      let rest : row_numbers (each (copy L) (carried_into t L)) ≡ each (copy_sources t L) (carried_into t L)
      = copies_numbers L l k (carried_into t L) (carried_from L) (λ n m. real_in L n _ l (for_roles t L k) (inr (inr (inr m)))) in
      ap row_numbers (for_roles t L k)
      ∙ one_role (stream L) (gate L ∷ guard L ∷ each (copy L) (carried_into t L)) (operand_number t L 0 ∷ operand_number t L 1 ∷ operand_number t L 2 ∷ []) (real_in L (stream L) _ l (for_roles t L k) (inl refl)) refl
      ∙ ap (λ (xs : List ℕ). operand_number t L 0 ∷ operand_number t L 1 ∷ operand_number t L 2 ∷ xs)
      (one_role (gate L) (guard L ∷ each (copy L) (carried_into t L)) ((wire_base t L + 0) ∷ (wire_base t L + 1) ∷ []) (real_in L (gate L) _ l (for_roles t L k) (inr (inl refl))) (ap₂ {C = List ℕ} (λ (n m : ℕ). n ∷ m ∷ []) raw.0 raw.1)
      ∙ ap (λ (xs : List ℕ). (wire_base t L + 0) ∷ (wire_base t L + 1) ∷ xs)
      (one_role (guard L) (each (copy L) (carried_into t L)) (operand_number t L 0 ∷ operand_number t L 2 ∷ []) (real_in L (guard L) _ l (for_roles t L k) (inr (inr (inl refl)))) refl
      ∙ ap (λ (xs : List ℕ). operand_number t L 0 ∷ operand_number t L 2 ∷ xs) rest))

  no_numbers : row_numbers [] ≡ []
  unfolding each
  no_numbers = refl

  row_numbers_lem : (r : ℕ) → r < size t → row_numbers (row_roles t r) ≡ row_sources t r
  unfolding row_sources
  row_numbers_lem r l = go (is_op t r) (is_for t r) (is_arg_row t r) refl refl refl
    where
      go : (a b c : Bool) → is_op t r ≡ a → is_for t r ≡ b → is_arg_row t r ≡ c → row_numbers (row_roles t r) ≡ cond a (op_sources t r) (cond b (for_sources t r) (cond c (arg_sources t r) []))
      go true b c p q s = op_numbers r l p
      go false true c p q s = for_numbers r l (eqb-true (kind_at t r) 4 q)
      go false false true p q s = arg_numbers r l (eqb-true (kind_at t r) 5 s)
      go false false false p q s = ap row_numbers (nothing_laid t r p q s) ∙ no_numbers

  all_rows : (n : ℕ) → n ≤ size t → row_numbers (gathered (row_roles t) n) ≡ gathered (row_sources t) n
  unfolding gathered
  all_rows zero l = no_numbers
  all_rows (suc n) l =
      ap numbers_of (each_append (role_uses t) (gathered (row_roles t) n) (row_roles t n))
      ∙ standing_append (source_number t) (each (role_uses t) (gathered (row_roles t) n)) (each (role_uses t) (row_roles t n))
      ∙ ap₂ {C = List ℕ} (λ a b. a ++ b) (all_rows n (omega arith)) (row_numbers_lem n (omega arith))

  -- ---- results
  abbrev pub out_source : ℕ → List ℕ
  out_source q = operand_number t q 0 ∷ []

  out_numbers : (qs : List ℕ) → ((q : ℕ) → Among q qs → (q < size t) × (is_out t q ≡ true)) → numbers_of (each (λ q. use_if t (result q)) qs) ≡ each out_source qs
  unfolding each
  out_numbers [] h = refl
  out_numbers (q ∷ qs) h =
      let o = h q (inl refl) in
      standing_append (source_number t) (use_if t (result q)) (each (λ q. use_if t (result q)) qs)
      ∙ ap₂ {C = List ℕ} (λ a b. a ++ b) (feed_number_lem (result q) (named t q 0) 0 (result_feed t q o.1) (result_is_fine t S q o.0 o.1)) (out_numbers qs (λ p m. h p (inr m)))

  pub use_wires_by_rows : use_wires t ≡ gathered (row_sources t) (size t) ++ each out_source (out_rows t)
  unfolding use_wires uses roles
  use_wires_by_rows =
      standing_append (source_number t) (each (role_uses t) (gathered (row_roles t) (size t))) (each (λ q. use_if t (result q)) (out_rows t))
      ∙ ap₂ {C = List ℕ} (λ a b. a ++ b) (all_rows (size t) (omega arith)) (out_numbers (out_rows t) (out_row t S))
