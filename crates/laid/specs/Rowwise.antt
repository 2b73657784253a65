-- Nodes are numbered row by row.
--
--   stream_node_lem       a loop's STREAM is the first node of its row
--   nodes_before          a node with a lower number than a loop's STREAM is of a row above it
--
-- Assumes nothing.
use Prim.Native.Nat.{ℕ, zero, suc, ◌+◌, ◌-◌, ◌≤◌, ◌<◌}
use Rattle.std.specs.Prelude.{◌≡◌}
use Rattle.std.proofs.Common.{sym, ◌∙◌}
use Rattle.std.proofs.Math.Path.{ap}
use Rattle.std.proofs.Math.Logic.{inl, inr}
use mathlib.Core.List.{List, ◌∷◌, ◌++◌}
use Rattle.std.proofs.Math.Option.{some}
use native.Mathlib.Omega.{arith}
use Rattle.std.proofs.Math.Decide.{dec_lt}
use Rattle.std.proofs.Math.ListN.{length, get_elem?, length-append}
use Rattle.table.specs.Rows.{kind_at, size}
use Rattle.lowered.specs.Gathered.{gathered, position}
use Rattle.lowered.specs.Roles.{Role, stream, same_role}
use Rattle.lowered.specs.Lower.{row_roles, roles}
use Rattle.laid.specs.Lists.{Among, none_some, below_or_last, there, has_elem, elem_left, elem_right, at_position, position_is}
use Rattle.laid.specs.Listed.{role_row, role_row_lem, roles_once, for_roles}
use Rattle.laid.specs.Bases.{node_base}

-- ---- lists made row by row, by place
module _ {A : Type 0} (f : ℕ → List A) where
  rows_grow : (r n : ℕ) → r ≤ n → length (gathered f r) ≤ length (gathered f n)
  unfolding gathered
  rows_grow r zero l = let e : r ≡ 0 = omega arith in rw e (omega arith)
  rows_grow r (suc n) l =
      elim (dec_lt n r) [
        | yes m ↦ (let e : r ≡ suc n = omega arith in rw e (omega arith))
        | no m ↦ (let a = rows_grow r n (omega arith) in let b = length-append (gathered f n) (f n) in omega arith)
      ]

  -- the element at a place is of a row whose part begins there or before
  row_there : (n i : ℕ) (a : A) → get_elem? (gathered f n) i ≡ some a → (r : ℕ) × Among a (f r) × (length (gathered f r) ≤ i)
  unfolding gathered
  row_there zero i a h = none_some a h
  row_there (suc n) i a h =
      elim (dec_lt i (length (gathered f n))) [
        | yes l ↦
            let e = has_elem (gathered f n) i l in
            let d = elem_left (gathered f n) (f n) i e.0 e.1 in
            let same : e.0 ≡ a = cc in
            row_there n i a (e.1 ∙ ap some same)
        | no l ↦
            let m : i ≡ length (gathered f n) + (i - length (gathered f n)) = omega arith in
            (n, there (f n) (i - length (gathered f n)) a (sym (elem_right (gathered f n) (f n) (i - length (gathered f n))) ∙ ap (get_elem? (gathered f n ++ f n)) (sym m) ∙ h), omega arith)
      ]

  row_first : (n r : ℕ) (a : A) (rest : List A) → r < n → f r ≡ a ∷ rest → get_elem? (gathered f n) (length (gathered f r)) ≡ some a
  unfolding gathered
  row_first zero r a rest l h = absurd (omega arith)
  row_first (suc n) r a rest l h =
      elim (below_or_last r n l) [
        | inl q ↦ elem_left (gathered f n) (f n) (length (gathered f r)) a (row_first n r a rest q h)
        | inr q ↦
            ap (λ (z : ℕ). get_elem? (gathered f n ++ f n) (length (gathered f z))) q
            ∙ ap (get_elem? (gathered f n ++ f n)) (let e : length (gathered f n) ≡ length (gathered f n) + 0 = omega arith in e) ∙ elem_right (gathered f n) (f n) 0
            ∙ ap (λ (xs : List A). get_elem? xs 0) (ap f (sym q) ∙ h)
      ]

-- ---- nodes
module _ (t : List ℕ) (L : ℕ) (low : L < size t) (is : kind_at t L ≡ 4) where
  pub stream_node_lem : position same_role (stream L) (roles t) ≡ node_base t L
  unfolding node_base roles
  stream_node_lem = position_is same_role (stream L) (roles t) (length (gathered (row_roles t) L)) (roles_once t) (row_first (row_roles t) (size t) L (stream L) _ low (for_roles t L is))

  pub nodes_before : (n : Role) → Among n (roles t) → position same_role n (roles t) < position same_role (stream L) (roles t) → role_row n < L
  unfolding node_base roles
  nodes_before n a l =
      let r = row_there (row_roles t) (size t) (position same_role n (roles t)) n (at_position same_role n (roles t) a) in
      let e = role_row_lem t r.0 n r.1 in
      let s = stream_node_lem in
      elim (dec_lt r.0 L) [
        | yes m ↦ omega arith
        | no m ↦ (let g = rows_grow (row_roles t) L r.0 (omega arith) in let b = r.2 in absurd (omega arith))
      ]
