-- A value's wire at home by noted outputs, kind by kind. Assumes nothing.
use Prim.Native.Nat.{ℕ, ◌+◌, ◌≤◌, ◌<◌}
use mathlib.Core.Path.{◌≡◌, sym, ap, ◌∙◌}
use mathlib.Core.Logic.{◌≢◌}
use mathlib.Core.List.{List}
use native.Mathlib.Omega.{arith}
use borrow.Author.Tests.{le-leb, lt-leb, eq-eqb, ne_eqb}
use lib.ListN.{get_or}
use Rattle.table.specs.Rows.{kind_at, size}
use Rattle.table.specs.Bodies.{arg_of}
use Rattle.structure.specs.Structure.{Structure, right_table_has_structure, in_table}
use Rattle.carrying.specs.Kept.{Passing, Pairs, home_from}

module _ (t : List ℕ) (v k : ℕ) (e : k ≡ kind_at t v) where
  module _ (wires : List ℕ) where
    pub start_home : k ≤ 1 → v ≡ home_from t wires v
    unfolding home_from
    start_home h = rw (le-leb (kind_at t v) 1 (omega arith))

    pub op_home : 1 < k → k ≤ 3 → get_or wires v 0 ≡ home_from t wires v
    unfolding home_from
    op_home a b = rw (lt-leb (kind_at t v) 1 (omega arith), le-leb (kind_at t v) 3 (omega arith))

    pub for_home : 3 < k → k ≡ 4 → get_or wires v 0 + 2 ≡ home_from t wires v
    unfolding home_from
    for_home a b = rw (lt-leb (kind_at t v) 1 (omega arith), lt-leb (kind_at t v) 3 (omega arith), eq-eqb (kind_at t v) 4 (sym e ∙ b))

    pub arg_home : 3 < k → k ≢ 4 → k ≡ 5 → get_or wires v 0 + 1 ≡ home_from t wires v
    unfolding home_from
    arg_home a b c = rw (lt-leb (kind_at t v) 1 (omega arith), lt-leb (kind_at t v) 3 (omega arith), ne_eqb (kind_at t v) 4 (λ z. b (e ∙ z)), eq-eqb (kind_at t v) 5 (sym e ∙ c))

    pub next_home : (a : ℕ) → 3 < k → k ≢ 4 → k ≢ 5 → a ≡ arg_of t v → get_or wires a 0 + 2 ≡ home_from t wires v
    unfolding home_from
    next_home a l b c d =
        ap (λ (x : ℕ). get_or wires x 0 + 2) d
        ∙ rw (lt-leb (kind_at t v) 1 (omega arith), lt-leb (kind_at t v) 3 (omega arith), ne_eqb (kind_at t v) 4 (λ z. b (e ∙ z)), ne_eqb (kind_at t v) 5 (λ z. c (e ∙ z)))

-- the ARG that a NEXT serves, as noted
module _ (t : List ℕ) (n : ℕ) (p : Passing t n) (v k : ℕ) (e : k ≡ kind_at t v) (few : kind_at t v ≤ 6) (l : v < n) (low : 3 < k) (a : k ≢ 4) (b : k ≢ 5) where
  abbrev S : Structure t
  S = right_table_has_structure t p.right

  is_next_lem : kind_at t v ≡ 6
  is_next_lem = let x : kind_at t v ≢ 4 = λ z. a (e ∙ z) in let y : kind_at t v ≢ 5 = λ z. b (e ∙ z) in omega arith

  in_rows : v < size t
  in_rows = let q = p.rows in omega arith

  pub noted_arg : (pairs : List ℕ) → Pairs t pairs → get_or pairs v 0 ≡ arg_of t v
  noted_arg pairs P = P.arg v in_rows is_next_lem

  pub noted_arg_below : (pairs : List ℕ) → Pairs t pairs → get_or pairs v 0 < 512
  noted_arg_below pairs P =
      let q = (S.next_row v in_rows is_next_lem).arg_kind in
      let z = in_table t S (arg_of t v) (λ z. omega arith) in
      let d = noted_arg pairs P in
      let f = S.few in
      omega arith
