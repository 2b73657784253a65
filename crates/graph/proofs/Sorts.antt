-- Sorts as the code stores and reads them: the table of wire sorts as it is filled, and a row's inputs against it.
-- Assumes nothing.
use Prim.Native.Nat.{ℕ, zero, suc, ◌+◌, ◌<◌, ◌≤◌}
use mathlib.Core.Path.{◌≡◌, refl, sym, ap, ◌∙◌}
use mathlib.Core.Bool.{Bool, true, false, ◌&&◌}
use mathlib.Core.List.{List, [], ◌∷◌, ◌++◌}
use mathlib.Core.Option.{Option, none, some}
use native.Mathlib.Omega.{arith}
use native.Mathlib.Numerals.{add-one}
use borrow.Author.Tests.{ltb-true}
use lib.Dec.{eqb, ltb}
use lib.ListN.{get_or, set, take, drop, length, length-replicate, replicate}
use lib.Seq.{sets, sets-eq}
use Rattle.word.specs.Words.{pick}
use Rattle.step.specs.Kinds.{Kind, kind_of, inputs, outputs, codes, own_sorts, Input, in0, in1, in2, Output, out0, out1, STREAM, GATE, CARRY, INVARIANT, SPLIT, FORK, DRAIN, OP, PICK, output_sort_small}
use Rattle.graph.specs.Below.{joined, joined_more}
use Rattle.graph.specs.Graph.{node_count, start_count, wire_count, result_at, row_place, node_of, row_at, node_at, input_place, column, input_sort_of, output_sort_of, output_sorts, first_at, wire_sorts, sort_at, as_many_sorts_as_outputs}
use Rattle.graph.specs.Refusal.{node_right, rows_right, wires_are_all_outputs, row_sorted, node_sorted, result_sorted}
use Rattle.step.specs.Kept.{and_true}
use Rattle.graph.proofs.Rows.{node_is_row, right_at}

-- A third input has the row's sort.
in2_own : (o : Option Kind) (s : ℕ) → input_sort_of o s in2 ≡ s
in2_own none s = refl
in2_own (some κ) s = refl

-- ---- sorts fit a byte

own_sorts_two : (o : Option Kind) → column own_sorts o ≤ 2
own_sorts_two none = omega arith
own_sorts_two (some STREAM) = omega arith
own_sorts_two (some GATE) = omega arith
own_sorts_two (some CARRY) = omega arith
own_sorts_two (some INVARIANT) = omega arith
own_sorts_two (some SPLIT) = omega arith
own_sorts_two (some FORK) = omega arith
own_sorts_two (some DRAIN) = omega arith
own_sorts_two (some OP) = omega arith
own_sorts_two (some PICK) = omega arith

sorts_small : (o : Option Kind) (c s : ℕ) (k : Output) → s < 2 → output_sort_of o c s k < 2
sorts_small none c s k h = h
sorts_small (some κ) c s k h = output_sort_small κ c s k h

pub right_row_sorts : (g : List ℕ) (i p : ℕ) → i < node_count g → p ≡ row_place g i → node_right g i ≡ true → (k : Output) {q : ℕ}
    → q ≡ output_sort_of (kind_of (get_or g p 0)) (get_or g (p + 1) 0) (get_or g (p + 2) 0) k → q < 2
right_row_sorts g i p h e r k eq =
    let o = kind_of (get_or g p 0) in
    let t = (and_true (ltb (get_or g (p + 1) 0) (column codes o)) _ (sym (right_at g i p h e (first_at g i)) ∙ r)).1 in
    let own : get_or g (p + 2) 0 < column own_sorts o = ltb-true _ _ (and_true (ltb (get_or g (p + 2) 0) (column own_sorts o)) _ t).0 in
    let two = own_sorts_two o in
    rw eq (sorts_small o (get_or g (p + 1) 0) (get_or g (p + 2) 0) k (omega arith))

-- ---- the table of wire sorts

marks : (m : ℕ) (t : List ℕ) (p s0 s1 : ℕ) {t1 t2 : List ℕ} → m ≤ 2 → t1 ≡ pick (ltb 0 m) (set t p s0) t
    → t2 ≡ pick (ltb 1 m) (set t1 (p + 1) s1) t1 → t2 ≡ sets t p (take m (s0 ∷ s1 ∷ []))
marks zero t p s0 s1 h e f = f ∙ e
marks (suc zero) t p s0 s1 h e f = f ∙ e
marks (suc (suc zero)) t p s0 s1 h e f = rw (f, e, add-one p)
marks (suc (suc (suc m))) t p s0 s1 h e f = absurd (omega arith)

output_sorts_by_columns : (o : Option Kind) (c s w0 w1 w2 f : ℕ)
    → output_sorts (node_of o c s w0 w1 w2 f) ≡ take (column outputs o) (output_sort_of o c s out0 ∷ output_sort_of o c s out1 ∷ [])
output_sorts_by_columns none c s w0 w1 w2 f = refl
output_sorts_by_columns (some κ) c s w0 w1 w2 f = refl

pub one_node_marked : (g : List ℕ) (i p : ℕ) → i < node_count g → p ≡ row_place g i → (t : List ℕ) (next : ℕ) {t1 t2 : List ℕ} {m s0 s1 : ℕ}
    → m ≤ 2 → m ≡ column outputs (kind_of (get_or g p 0))
    → s0 ≡ output_sort_of (kind_of (get_or g p 0)) (get_or g (p + 1) 0) (get_or g (p + 2) 0) out0
    → s1 ≡ output_sort_of (kind_of (get_or g p 0)) (get_or g (p + 1) 0) (get_or g (p + 2) 0) out1
    → t1 ≡ pick (ltb 0 m) (set t next s0) t → t2 ≡ pick (ltb 1 m) (set t1 (next + 1) s1) t1
    → t2 ≡ sets t next (output_sorts (node_at g i))
unfolding row_at
one_node_marked g i p h e t next small em e0 e1 f1 f2 =
    rw (node_is_row g i h e, output_sorts_by_columns (kind_of (get_or g p 0)), ← em, ← e0, ← e1) (marks _ t next _ _ small f1 f2)

sets_append : (xs l ys : List ℕ) (p q : ℕ) → q ≡ p + length xs → sets (sets l p xs) q ys ≡ sets l p (xs ++ ys)
sets_append [] l ys p q e = ap (λ (k : ℕ). sets l k ys) (omega arith)
sets_append (x ∷ xs) l ys p q e = sets_append xs (set l p x) ys (suc p) q (omega arith)

pub one_more_marked : (g : List ℕ) (i : ℕ) (t₀ : List ℕ) (next : ℕ) {t u : List ℕ} → next ≡ first_at g i
    → t ≡ sets t₀ (start_count g) (joined (λ j. output_sorts (node_at g j)) i) → u ≡ sets t next (output_sorts (node_at g i))
    → u ≡ sets t₀ (start_count g) (joined (λ j. output_sorts (node_at g j)) (i + 1))
one_more_marked g i t₀ next en e u-is =
    let sorts : ℕ → List ℕ = λ j. output_sorts (node_at g j) in
    let place : next ≡ start_count g + length (joined sorts i) = rw (as_many_sorts_as_outputs g i) en in
    u-is ∙ rw (joined_more sorts i, e) (sets_append (joined sorts i) t₀ (sorts i) (start_count g) next place)

take_zeros : (k n : ℕ) → k ≤ n → take k (replicate {A = ℕ} n 0) ≡ replicate k 0
take_zeros zero n h = refl
take_zeros (suc k) zero h = absurd (omega arith)
take_zeros (suc k) (suc n) h = ap (λ (l : List ℕ). 0 ∷ l) (take_zeros k n (omega arith))

drop_zeros : (k n : ℕ) → (m : ℕ) × (drop k (replicate {A = ℕ} n 0) ≡ replicate m 0)
drop_zeros zero n = (n, refl)
drop_zeros (suc k) zero = (0, refl)
drop_zeros (suc k) (suc n) = drop_zeros k n

zeros_at : (m w : ℕ) → get_or (replicate {A = ℕ} m 0) w 0 ≡ 0
zeros_at zero w = refl
zeros_at (suc m) zero = refl
zeros_at (suc m) (suc w) = zeros_at m w

before_zeros : (xs : List ℕ) (m w : ℕ) → get_or (xs ++ replicate m 0) w 0 ≡ get_or xs w 0
before_zeros [] m w = zeros_at m w
before_zeros (x ∷ xs) m zero = refl
before_zeros (x ∷ xs) m (suc w) = before_zeros xs m w

filled : (n s w : ℕ) (xs : List ℕ) → s + length xs ≤ n → get_or (sets (replicate n 0) s xs) w 0 ≡ get_or (replicate s 0 ++ xs) w 0
filled n s w xs h =
    let zeros : List ℕ = replicate n 0 in
    let fits : s + length xs ≤ length zeros = rw (length-replicate {A = ℕ} n 0) h in
    let rest = drop_zeros (s + length xs) n in
    rw (sets-eq xs zeros s fits, take_zeros s n (omega arith), rest.1) (before_zeros (replicate s 0 ++ xs) rest.0 w)

pub table_filled : (g : List ℕ) {t : List ℕ} → wire_count g ≤ 8192 → rows_right g ≡ true
    → t ≡ sets (replicate 8192 0) (start_count g) (joined (λ j. output_sorts (node_at g j)) (node_count g))
    → (w : ℕ) → get_or t w 0 ≡ sort_at g w
unfolding wire_sorts
table_filled g small right e w =
    let all = wires_are_all_outputs g right in
    let sorts = joined (λ j. output_sorts (node_at g j)) (node_count g) in
    let fits : start_count g + length sorts ≤ 8192 = rw (as_many_sorts_as_outputs g (node_count g), ← all) small in
    rw e (filled 8192 (start_count g) w sorts fits)

-- ---- a row's inputs against the table

abbrev sorted_at : List ℕ → Option Kind → ℕ → Input → ℕ → Bool
sorted_at sorts o s k w = pick (ltb (input_place k) (column inputs o)) (eqb (get_or sorts w 0) (input_sort_of o s k)) true

sorted_by_columns : (sorts : List ℕ) (o : Option Kind) (c s w0 w1 w2 f : ℕ)
    → row_sorted sorts (node_of o c s w0 w1 w2 f) ≡ (sorted_at sorts o s in0 w0 && (sorted_at sorts o s in1 w1 && sorted_at sorts o s in2 w2))
unfolding row_sorted
sorted_by_columns sorts none c s w0 w1 w2 f = refl
sorted_by_columns sorts (some κ) c s w0 w1 w2 f = refl

-- The code's test of one input is the rule's.
sorted_place : (sorts table : List ℕ) (o : Option Kind) (s : ℕ) (k : Input) (w m q : ℕ) {b : Bool} → get_or table w 0 ≡ get_or sorts w 0
    → m ≡ column inputs o → q ≡ input_sort_of o s k → b ≡ pick (ltb (input_place k) m) (eqb (get_or table w 0) q) true
    → b ≡ sorted_at sorts o s k w
sorted_place sorts table o s k w m q same em eq e = e ∙ rw (em, eq, same)

module _ (g : List ℕ) (i p : ℕ) (h : i < node_count g) (e : p ≡ row_place g i) (table : List ℕ) (same : (w : ℕ) → get_or table w 0 ≡ sort_at g w) (m q0 : ℕ) {b0 : Bool}
    (em : m ≡ column inputs (kind_of (get_or g p 0)))
    (e0 : q0 ≡ input_sort_of (kind_of (get_or g p 0)) (get_or g (p + 2) 0) in0)
    (f0 : b0 ≡ pick (ltb 0 m) (eqb (get_or table (get_or g (p + 3) 0) 0) q0) true) where
  sorted_at_lem :
      node_sorted g i
      ≡ (sorted_at (wire_sorts g) (kind_of (get_or g p 0)) (get_or g (p + 2) 0) in0 (get_or g (p + 3) 0)
      && (sorted_at (wire_sorts g) (kind_of (get_or g p 0)) (get_or g (p + 2) 0) in1 (get_or g (p + 4) 0)
      && sorted_at (wire_sorts g) (kind_of (get_or g p 0)) (get_or g (p + 2) 0) in2 (get_or g (p + 5) 0)))
  unfolding row_at
  sorted_at_lem = rw (node_is_row g i h e) (sorted_by_columns (wire_sorts g) (kind_of (get_or g p 0)) _ (get_or g (p + 2) 0) _ _ _ _)

  first_is : b0 ≡ sorted_at (wire_sorts g) (kind_of (get_or g p 0)) (get_or g (p + 2) 0) in0 (get_or g (p + 3) 0)
  first_is = sorted_place (wire_sorts g) table (kind_of (get_or g p 0)) (get_or g (p + 2) 0) in0 (get_or g (p + 3) 0) m q0 (same (get_or g (p + 3) 0)) em e0 f0

  pub first_unsorted : b0 ≡ false → false ≡ node_sorted g i
  first_unsorted t = rw (sorted_at_lem, ← first_is, t)

  module _ (q1 : ℕ) {b1 : Bool} (t0 : b0 ≡ true)
      (e1 : q1 ≡ input_sort_of (kind_of (get_or g p 0)) (get_or g (p + 2) 0) in1)
      (f1 : b1 ≡ pick (ltb 1 m) (eqb (get_or table (get_or g (p + 4) 0) 0) q1) true) where
    second_is : b1 ≡ sorted_at (wire_sorts g) (kind_of (get_or g p 0)) (get_or g (p + 2) 0) in1 (get_or g (p + 4) 0)
    second_is = sorted_place (wire_sorts g) table (kind_of (get_or g p 0)) (get_or g (p + 2) 0) in1 (get_or g (p + 4) 0) m q1 (same (get_or g (p + 4) 0)) em e1 f1

    pub second_unsorted : b1 ≡ false → false ≡ node_sorted g i
    second_unsorted t = rw (sorted_at_lem, ← first_is, t0, ← second_is, t)

    pub third_decides : {b2 : Bool} → b1 ≡ true
        → b2 ≡ pick (ltb 2 m) (eqb (get_or table (get_or g (p + 5) 0) 0) (get_or g (p + 2) 0)) true → b2 ≡ node_sorted g i
    third_decides t f2 =
        rw (sorted_at_lem, ← first_is, t0, ← second_is, t)
        (sorted_place (wire_sorts g) table (kind_of (get_or g p 0)) (get_or g (p + 2) 0) in2 (get_or g (p + 5) 0) m (get_or g (p + 2) 0) (same (get_or g (p + 5) 0)) em (sym (in2_own (kind_of (get_or g p 0)) (get_or g (p + 2) 0))) f2)

pub result_sorted_is : (g table : List ℕ) (k : ℕ) {w : ℕ} {b : Bool} → ((w : ℕ) → get_or table w 0 ≡ sort_at g w) → w ≡ result_at g k
    → b ≡ eqb (get_or table w 0) 0 → b ≡ result_sorted g k
result_sorted_is g table k same e f = f ∙ rw (e, same (result_at g k))
