-- The sort of each wire, noted row by row at the numbers of the row's outputs.
--
--   sorted_row         the table after one row
--   sorted_rows        after the first n rows
--   FirstFits         a row's outputs have places
--   outputs_fit, sorts_of     both hold of rows that are right for a table
--
-- Assumes nothing.
use Prim.Native.Nat.{ℕ, zero, suc, ◌+◌, ◌*◌, ◌<◌, ◌≤◌}
use Rattle.std.specs.Prelude.{◌≡◌, refl, Bool, true, false, cond, List, ltb, set}
use Rattle.std.proofs.Math.Path.{sym, ap}
use Rattle.std.proofs.Common.{ap₂, ◌∙◌, lt-ltb, le-ltb, length-set}
use Rattle.std.proofs.Math.Logic.{inl, inr}
use Rattle.std.proofs.Math.Option.{Option, some}
use native.Mathlib.Omega.{arith}
use Rattle.std.proofs.Math.ListN.{length, get_or, get_elem?}
use Rattle.step.specs.Kinds.{Kind, STREAM, GATE, CARRY, INVARIANT, SPLIT, FORK, DRAIN, OP, PICK, kind_of, outputs, output_sort, Output, out0, out1}
use Rattle.graph.specs.Below.{total_within}
use Rattle.graph.specs.Graph.{column, output_sort_of}
use Rattle.lowered.specs.Roles.{Role}
use Rattle.lowered.specs.Lower.{roles, role_kind, kind_number, plain_nodes, plain_wires}
use Rattle.laid.specs.Lists.{has_elem}
use Rattle.written.specs.Plain.{plain_node, RowIs, Laid}
use Rattle.written.specs.Words.{outputs_of, first_at, wire_sort_at, one_or_two, first_number, first_next, first_start, all_first, sort_first, sort_second, start_sort}
use Rattle.forking.specs.Tallied.{Below, filled_more}

abbrev pub outputs_of_row : List ℕ → ℕ → ℕ
outputs_of_row rows i = column outputs (kind_of (get_or rows (7 * i) 0))

abbrev pub sort0 : List ℕ → ℕ → ℕ
sort0 rows i = output_sort_of (kind_of (get_or rows (7 * i) 0)) (get_or rows (7 * i + 1) 0) (get_or rows (7 * i + 2) 0) out0

abbrev pub sort1 : List ℕ → ℕ → ℕ
sort1 rows i = output_sort_of (kind_of (get_or rows (7 * i) 0)) (get_or rows (7 * i + 1) 0) (get_or rows (7 * i + 2) 0) out1

abbrev pub first_of_row : List ℕ → ℕ → ℕ
first_of_row rows i = get_or rows (7 * i + 6) 0

unfoldable pub sorted_row : List ℕ → ℕ → List ℕ → List ℕ
sorted_row rows i sorts =
    cond (ltb (outputs_of_row rows i) 2) (set sorts (first_of_row rows i) (sort0 rows i))
    (set (set sorts (first_of_row rows i) (sort0 rows i)) (first_of_row rows i + 1) (sort1 rows i))

unfoldable pub sorted_rows : List ℕ → ℕ → List ℕ → List ℕ
sorted_rows rows zero sorts = sorts
sorted_rows rows (suc n) sorts = sorted_row rows n (sorted_rows rows n sorts)

pub record FirstFits (rows : List ℕ) (i : ℕ) : Type 0 where
  pub first : first_of_row rows i < 8192
  pub second : 2 ≤ outputs_of_row rows i → first_of_row rows i + 1 < 8192

-- ---- laws

kind_of_number : (κ : Kind) → kind_of (kind_number κ) ≡ some κ
unfolding kind_of
kind_of_number STREAM = refl
kind_of_number GATE = refl
kind_of_number CARRY = refl
kind_of_number INVARIANT = refl
kind_of_number SPLIT = refl
kind_of_number FORK = refl
kind_of_number DRAIN = refl
kind_of_number OP = refl
kind_of_number PICK = refl

sort_of_lem : {k c s c1 s1 : ℕ} (κ : Kind) (o : Output) → k ≡ kind_number κ → c ≡ c1 → s ≡ s1 → output_sort_of (kind_of k) c s o ≡ output_sort κ c1 s1 o
sort_of_lem {k} {c} {s} κ o e p q =
    ap (λ (z : ℕ). output_sort_of (kind_of z) c s o) e
    ∙ ap (λ (z : Option Kind). output_sort_of z c s o) (kind_of_number κ)
    ∙ ap₂ (λ (x y : ℕ). output_sort κ x y o) p q

sorted_row_long : (rows : List ℕ) (i : ℕ) (sorts : List ℕ) → length (sorted_row rows i sorts) ≡ length sorts
unfolding sorted_row
sorted_row_long rows i sorts = go (ltb (outputs_of_row rows i) 2)
  where
    one : List ℕ
    one = set sorts (first_of_row rows i) (sort0 rows i)

    go : (b : Bool) → length (cond b one (set one (first_of_row rows i + 1) (sort1 rows i))) ≡ length sorts
    go true = length-set sorts (first_of_row rows i) (sort0 rows i)
    go false = length-set one (first_of_row rows i + 1) (sort1 rows i) ∙ length-set sorts (first_of_row rows i) (sort0 rows i)

sorted_rows_long : (rows : List ℕ) (n : ℕ) (sorts : List ℕ) → length (sorted_rows rows n sorts) ≡ length sorts
unfolding sorted_rows
sorted_rows_long rows zero sorts = refl
sorted_rows_long rows (suc n) sorts = sorted_row_long rows n (sorted_rows rows n sorts) ∙ sorted_rows_long rows n sorts

module _ (t rows : List ℕ) (L : Laid t rows) where
  module _ (i : ℕ) (n : Role) (h : get_elem? (roles t) i ≡ some n) where
    abbrev R : RowIs rows i (plain_node t n)
    R = L.row i n h

    outputs_are : outputs_of_row rows i ≡ outputs (role_kind t n)
    outputs_are = ap (λ (z : ℕ). column outputs (kind_of z)) R.kind ∙ ap (column outputs) (kind_of_number (role_kind t n))

    first_is : first_of_row rows i ≡ first_at t i
    first_is = R.first ∙ first_number t i n h

    outputs_within : i < plain_nodes t → first_at t i + outputs (role_kind t n) ≤ plain_wires t
    unfolding first_at
    outputs_within l =
        let w = total_within (λ j. outputs_of t (get_elem? (roles t) j)) i (plain_nodes t) l in
        let e : outputs_of t (get_elem? (roles t) i) ≡ outputs (role_kind t n) = ap (outputs_of t) h in
        let a = all_first t in
        omega arith

    fits : i < plain_nodes t → plain_wires t ≤ 8192 → FirstFits rows i
    fits l few =
        let a = outputs_are in
        let b = first_is in
        let w = outputs_within l in
        elim (one_or_two t n) [
          | inl e ↦ record { first = omega arith; second = λ q. absurd (omega arith) }
          | inr e ↦ record { first = omega arith; second = λ q. omega arith }
        ]

    -- one row further
    row_sorted_lem : (sorts : List ℕ) → i < plain_nodes t → plain_wires t ≤ length sorts → ((w : ℕ) → w < first_at t i → get_or sorts w 0 ≡ wire_sort_at t w)
        → (w : ℕ) → w < first_at t (suc i) → get_or (sorted_row rows i sorts) w 0 ≡ wire_sort_at t w
    unfolding sorted_row
    row_sorted_lem sorts l long before w b =
        let o = outputs_are in
        let p = outputs_within l in
        let next = first_next t i n h in
        elim (one_or_two t n) [
          | inl e ↦ rw (lt-ltb (outputs_of_row rows i) 2 (omega arith), first_is) (once w (omega arith) (omega arith))
          | inr e ↦ rw (le-ltb (outputs_of_row rows i) 2 (omega arith), first_is)
              (filled_more (set sorts (first_at t i) (sort0 rows i)) (first_at t i + 1) (sort1 rows i) (wire_sort_at t) (rw (length-set sorts (first_at t i) (sort0 rows i)) (omega arith))
              (λ v q. once v q (omega arith)) (sort_of_lem (role_kind t n) out1 R.kind R.code R.sort ∙ sym (sort_second t i n h e)) w (omega arith))
        ]
      where
        once : (w : ℕ) → w < first_at t i + 1 → first_at t i < length sorts → get_or (set sorts (first_at t i) (sort0 rows i)) w 0 ≡ wire_sort_at t w
        once w q r =
            filled_more sorts (first_at t i) (sort0 rows i) (wire_sort_at t) r before (sort_of_lem (role_kind t n) out0 R.kind R.code R.sort ∙ sym (sort_first t i n h)) w q

  pub node_there : (i : ℕ) → i < plain_nodes t → (n : Role) × (get_elem? (roles t) i ≡ some n)
  unfolding plain_nodes
  node_there i h = has_elem (roles t) i h

  -- EVERY ROW'S OUTPUTS HAVE PLACES
  pub outputs_fit : plain_wires t ≤ 8192 → (i : ℕ) → i < plain_nodes t → FirstFits rows i
  outputs_fit few i l = let m = node_there i l in fits i m.0 m.1 l few

  rows_sorted : (zeros : List ℕ) → Below 0 zeros → plain_wires t ≤ 8192 → (n : ℕ) → n ≤ plain_nodes t → (w : ℕ) → w < first_at t n → get_or (sorted_rows rows n zeros) w 0 ≡ wire_sort_at t w
  unfolding sorted_rows first_at
  rows_sorted zeros Z few zero l w h =
      let a = first_start t in
      let b = all_first t in
      let z = Z.low w (omega arith) in
      (let e : get_or zeros w 0 ≡ 0 = omega arith in e) ∙ sym (start_sort t w (omega arith))
  rows_sorted zeros Z few (suc n) l w h =
      let m = node_there n (omega arith) in
      let long = sorted_rows_long rows n zeros in
      let z = Z.long in
      row_sorted_lem n m.0 m.1 (sorted_rows rows n zeros) (omega arith) (omega arith) (rows_sorted zeros Z few n (omega arith)) w h

  -- THE SORT OF EVERY WIRE IS NOTED
  pub sorts_of : (zeros : List ℕ) → Below 0 zeros → plain_wires t ≤ 8192 → (w : ℕ) → w < plain_wires t → get_or (sorted_rows rows (plain_nodes t) zeros) w 0 ≡ wire_sort_at t w
  sorts_of zeros Z few w h = let a = all_first t in rows_sorted zeros Z few (plain_nodes t) (omega arith) w (omega arith)
