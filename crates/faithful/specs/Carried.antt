-- Bodies of a table of words, and the values that are carried into them.
--
--   inner_at                  the body of a row is the innermost one there
--   inside_means              that body B is loop L or lies in it, in row numbers
--   carried_by, by_carried    a value is carried into a loop because a row in it names it
--   carried_before            it is the value of a row before the loop
--   carried_passed            and of a NEXT the END has passed before the loop opens
--   carried_around            it is at home in the body around the loop, or carried into that
--
-- Assumes nothing.
use Rattle.std.specs.Prelude.{◌≡◌, refl, ◌≢◌, ◌⊎◌, Bool, true, false, not, ◌&&◌, ◌||◌, List, ℕ, zero, suc, ◌≤◌, ◌<◌}
use Rattle.std.proofs.Common.{sym, ap, ◌∙◌, arith}
use Rattle.std.proofs.Math.Path.{subst}
use Rattle.std.proofs.Math.Logic.{inl, inr}
use Rattle.std.proofs.Math.Decide.{dec_lt, ℕ_discrete}
use borrow.Author.Tests.{eq-eqb, eqb-true}
use Rattle.std.proofs.Math.Dec.{eqb}
use Rattle.table.specs.Rows.{kind_at, size, operand_count}
use Rattle.table.specs.Scan.{stack_at, body_of, reads, home, holds}
use Rattle.table.specs.Bodies.{operand, end_of, first_of}
use Rattle.structure.specs.Spans.{Encloses, same, inside, outermost}
use Rattle.structure.specs.Structure.{Structure}
use Rattle.lowered.specs.Gathered.{some?}
use Rattle.lowered.specs.Sources.{is_for, carried, names}
use Rattle.lowered.specs.Sources
use Rattle.laid.specs.Reached.{some_from, some_has}
use Rattle.faithful.specs.Table.{Table, IsFor}
use Rattle.faithful.specs.Good.{Inner}
use Rattle.faithful.specs.Tables

-- ---- tests

both : (a b : Bool) → (a && b) ≡ true → (a ≡ true) × (b ≡ true)
both true b h = (refl, h)
both false b h = let z : ◌≡◌ {A = ℕ} 0 1 = cc in absurd (omega arith)

either : (a b : Bool) → (a || b) ≡ true → (a ≡ true) ⊎ (b ≡ true)
either true b h = inl refl
either false b h = inr h

or_left : (a b : Bool) → a ≡ true → (a || b) ≡ true
or_left true b h = refl
or_left false b h = let z : ◌≡◌ {A = ℕ} 0 1 = cc in absurd (omega arith)

or_right : (a b : Bool) → b ≡ true → (a || b) ≡ true
or_right true b h = refl
or_right false b h = h

not_false : (b : Bool) → b ≡ false → not b ≡ true
not_false true h = let z : ◌≡◌ {A = ℕ} 0 1 = cc in absurd (omega arith)
not_false false h = refl

false_not : (b : Bool) → not b ≡ true → b ≡ false
false_not true h = let z : ◌≡◌ {A = ℕ} 0 1 = cc in absurd (omega arith)
false_not false h = refl

not_true : (b : Bool) → (b ≡ true → ⊥) → b ≡ false
not_true true h = absurd (h refl)
not_true false h = refl

clash : {b : Bool} → b ≡ true → b ≡ false → ⊥
clash h k = let z : ◌≡◌ {A = ℕ} 0 1 = cc in omega arith

module _ (t : List ℕ) (S : Structure t) where
  abbrev tb : Table
  tb = Tables.table_of t

  -- ---- bodies

  pub body_cases : (r : ℕ) → r ≤ size t → (body_of t r ≡ size t) ⊎ ((body_of t r < size t) × (kind_at t (body_of t r) ≡ 4))
  body_cases r l =
      elim (ℕ_discrete (body_of t r) (size t)) [
        | yes e ↦ inl e
        | no n ↦ let i = S.body_loop r l n in inr (Tables.below_by_kind t S (body_of t r) 3 i.is_for_lem, i.is_for_lem)
      ]

  pub body_for : (r : ℕ) → r ≤ size t → (body_of t r ≡ size t) ⊎ IsFor tb (body_of t r)
  body_for r l = elim (body_cases r l) [ inl e ↦ inl e | inr k ↦ inr (Tables.for_row t S (body_of t r) k.1) ]

  -- first and last rows of loops
  pub first_is : (L : ℕ) → kind_at t L ≡ 4 → tb.first L ≡ first_of t L
  first_is L k = Tables.first_of_lem t L (let l = Tables.below_by_kind t S L 3 k in omega arith)

  pub last_is : (L : ℕ) → kind_at t L ≡ 4 → tb.last L ≡ end_of t L
  last_is L k = Tables.last_of t L (let l = Tables.below_by_kind t S L 3 k in omega arith)

  -- what is enclosed starts later and ends earlier
  enclosed : (M B : ℕ) → M < size t → kind_at t M ≡ 4 → (B ≡ size t) ⊎ ((B < size t) × (kind_at t B ≡ 4)) → Encloses t M B → (tb.first M ≤ tb.first B) × (tb.last B ≤ tb.last M)
  enclosed M B l k c (same e) = let a : tb.first M ≡ tb.first B = ap tb.first e in let b : tb.last M ≡ tb.last B = ap tb.last e in (omega arith, omega arith)
  enclosed M B l k c (outermost e) = absurd (omega arith)
  enclosed M B l k (inl e) (inside kM lo hi) = let s = (S.loop_span M l k).inside in absurd (omega arith)
  enclosed M B l k (inr c) (inside kM lo hi) =
      let n = S.nest M B c.0 k c.1 lo hi in
      let n0 : first_of t M ≤ B = n.0 in
      let n1 : end_of t B < end_of t M = n.1 in
      let b = (S.loop_first B c.0 c.1).0 in
      let fM = first_is M k in let fB = first_is B c.1 in let lM = last_is M k in let lB = last_is B c.1 in
      (omega arith, omega arith)

  pub inner_at : (r : ℕ) → r < size t → kind_at t r ≢ 5 → Inner tb (body_of t r) r
  inner_at r l n = record { low = low' (body_cases r (omega arith)); high = high' (body_cases r (omega arith)); within = within' }
    where
      low' : (body_of t r ≡ size t) ⊎ ((body_of t r < size t) × (kind_at t (body_of t r) ≡ 4)) → tb.first (body_of t r) ≤ r
      low' (inl e) = let q : tb.first (body_of t r) ≡ 0 = ap tb.first e ∙ Tables.outer_first t in omega arith
      low' (inr c) = let q = first_is (body_of t r) c.1 in let c0 : body_of t r < size t = c.0 in let k = S.body_first r l n (omega arith) in omega arith

      high' : (body_of t r ≡ size t) ⊎ ((body_of t r < size t) × (kind_at t (body_of t r) ≡ 4)) → r ≤ tb.last (body_of t r)
      high' (inl e) = let q : tb.last (body_of t r) ≡ suc (size t) = ap tb.last e ∙ Tables.outer_last t in omega arith
      high' (inr c) = let q = last_is (body_of t r) c.1 in let c0 : body_of t r < size t = c.0 in let k = (S.body_loop r (omega arith) (omega arith)).high in omega arith

      within' : (M : ℕ) → IsFor tb M → M < r → r ≤ tb.last M → (tb.first M ≤ tb.first (body_of t r)) × (tb.last (body_of t r) ≤ tb.last M)
      within' M f lo hi =
          let k = Tables.for_kind t S M f in
          let q = last_is M k.1 in
          enclosed M (body_of t r) k.0 k.1 (body_cases r (omega arith))
          (S.body_inmost r M (omega arith) k.0 (record { is_for_lem = k.1; low = lo; high = (let h : r ≤ end_of t M = omega arith in h) }))

  -- ---- body B is loop L, or lies in it

  pub inside_means : (L B : ℕ) → L < size t → kind_at t L ≡ 4 → Sources.inside t L B ≡ true → (B ≡ L) ⊎ ((L < B) × (B ≤ end_of t L))
  unfolding Sources.inside
  inside_means L B l k h =
      elim (either (eqb B L) (holds L (stack_at t B)) h) [
        | inl e ↦ inl (eqb-true B L e)
        | inr o ↦ inr ((S.loop_span L l k).open_only B o)
      ]

  pub means_inside : (L B : ℕ) → L < size t → kind_at t L ≡ 4 → (B ≡ L) ⊎ ((L < B) × (B ≤ end_of t L)) → Sources.inside t L B ≡ true
  unfolding Sources.inside
  means_inside L B l k (inl e) = or_left (eqb B L) (holds L (stack_at t B)) (eq-eqb B L e)
  means_inside L B l k (inr c) = or_right (eqb B L) (holds L (stack_at t B)) ((S.loop_span L l k).open_in B c.0 c.1)

  -- a body that starts before loop B, or the outermost one, is not inside B
  pub outside_of : (B H : ℕ) → kind_at t B ≡ 4 → B < size t → (H < B) ⊎ (H ≡ size t) → Sources.inside t B H ≡ false
  outside_of B H k lB d = not_true (Sources.inside t B H) (λ h. no_way (inside_means B H lB k h) d)
    where
      no_way : (H ≡ B) ⊎ ((B < H) × (H ≤ end_of t B)) → (H < B) ⊎ (H ≡ size t) → ⊥
      no_way (inl e) (inl l) = omega arith
      no_way (inl e) (inr l) = omega arith
      no_way (inr m) (inl l) = let m0 = m.0 in omega arith
      no_way (inr m) (inr l) = let m1 = m.1 in let s = (S.loop_span B lB k).inside in omega arith

  -- the body that encloses a row's is inside
  encloses_inside : (L B : ℕ) → L < size t → kind_at t L ≡ 4 → Encloses t L B → Sources.inside t L B ≡ true
  encloses_inside L B l k (same e) = means_inside L B l k (inl (sym e))
  encloses_inside L B l k (inside kL lo hi) = means_inside L B l k (inr (lo, hi))
  encloses_inside L B l k (outermost e) = absurd (omega arith)

  -- a row in L has its body in L
  body_inside : (L r : ℕ) → L < size t → kind_at t L ≡ 4 → r ≤ size t → L < r → r ≤ end_of t L → Sources.inside t L (body_of t r) ≡ true
  body_inside L r l k lr lo hi = encloses_inside L (body_of t r) l k (S.body_inmost r L lr l (record { is_for_lem = k; low = lo; high = hi }))

  -- where the operands of a row are read: its body, or the body around its loop
  reads_low : (L r : ℕ) → L < size t → kind_at t L ≡ 4 → r < size t → Sources.inside t L (reads t r) ≡ true → (L < r) × (r ≤ end_of t L)
  reads_low L r l k lr h =
      elim (ℕ_discrete (kind_at t r) 5) [
        | yes a ↦
            let A = S.arg_row r lr a in
            let M = body_of t r in
            let lM = Tables.below_by_kind t S M 3 A.loop_for in
            let x = of_body M (subst (λ (z : ℕ). Sources.inside t L z ≡ true) (S.arg_reads r lr a) h) (omega arith) in
            let x0 : L < M = x.0 in
            let x1 : M ≤ end_of t L = x.1 in
            let n = S.nest L M lM k A.loop_for x0 x1 in
            let n1 : end_of t M < end_of t L = n.1 in
            let lo = A.low in let hi = A.high in
            let f = (S.loop_first M lM A.loop_for).1 in
            (omega arith, omega arith)
        | no n ↦ of_body r (subst (λ (z : ℕ). Sources.inside t L z ≡ true) (S.reads_body r n) h) (omega arith)
      ]
    where
      -- the innermost loop around r is L or lies in it, so r lies in L
      of_body : (r : ℕ) → Sources.inside t L (body_of t r) ≡ true → r ≤ size t → (L < r) × (r ≤ end_of t L)
      of_body r h lr =
          elim (inside_means L (body_of t r) l k h) [
            | inl e ↦ let i = S.body_loop r lr (λ z. omega arith) in let lo = i.low in let hi : r ≤ end_of t (body_of t r) = i.high in let q : end_of t (body_of t r) ≡ end_of t L = ap (end_of t) e in (omega arith, omega arith)
            | inr c ↦
                let c0 : L < body_of t r = c.0 in
                let c1 : body_of t r ≤ end_of t L = c.1 in
                let s = (S.loop_span L l k).inside in
                let i = S.body_loop r lr (λ z. omega arith) in
                let lo = i.low in let hi = i.high in
                let lB = Tables.below_by_kind t S (body_of t r) 3 i.is_for_lem in
                let n = (S.nest L (body_of t r) lB k i.is_for_lem c0 c1).1 in
                (omega arith, omega arith)
          ]

  -- ---- operands

  name_of : (r v : ℕ) → names t r v ≡ true → (j : ℕ) × (j < operand_count (kind_at t r)) × (operand t r j ≡ v)
  unfolding names
  name_of r v h = let x = some_from (λ j. eqb (operand t r j) v) (operand_count (kind_at t r)) h in (x.0, x.1, eqb-true (operand t r x.0) v x.2)

  of_name : (r j : ℕ) → j < operand_count (kind_at t r) → names t r (operand t r j) ≡ true
  unfolding names
  of_name r j l = some_has (λ i. eqb (operand t r i) (operand t r j)) (operand_count (kind_at t r)) j l (eq-eqb (operand t r j) (operand t r j) refl)

  -- v is carried into L because operand j of row r in L names it
  pub record CarriedBy (L v : ℕ) : Type 0 where
    pub is_loop : kind_at t L ≡ 4
    pub below : L < size t
    pub row : ℕ
    pub row_below_lem : row < size t
    pub place : ℕ
    pub place_below : place < operand_count (kind_at t row)
    pub is_operand : operand t row place ≡ v
    pub read_inside : Sources.inside t L (reads t row) ≡ true
    pub in_loop_lem : (L < row) × (row ≤ end_of t L)
    pub outside : Sources.inside t L (home t v) ≡ false

  pub carried_by : (L v : ℕ) → tb.carried L v ≡ true → CarriedBy L v
  unfolding carried
  carried_by L v h =
      let a = both (is_for t L) (carried t L v) h in
      let k : kind_at t L ≡ 4 = eqb-true (kind_at t L) 4 a.0 in
      let l = Tables.below_by_kind t S L 3 k in
      let b = both (not (Sources.inside t L (home t v))) (some? (λ r. Sources.inside t L (reads t r) && names t r v) (size t)) a.1 in
      let f = some_from (λ r. Sources.inside t L (reads t r) && names t r v) (size t) b.1 in
      let c = both (Sources.inside t L (reads t f.0)) (names t f.0 v) f.2 in
      let n = name_of f.0 v c.1 in
      record {
        is_loop = k;
        below = l;
        row = f.0;
        row_below_lem = f.1;
        place = n.0;
        place_below = n.1;
        is_operand = n.2;
        read_inside = c.0;
        in_loop_lem = reads_low L f.0 l k f.1 c.0;
        outside = false_not (Sources.inside t L (home t v)) b.0;
      }

  pub by_carried : (L v r j : ℕ) → kind_at t L ≡ 4 → r < size t → j < operand_count (kind_at t r) → operand t r j ≡ v → Sources.inside t L (reads t r) ≡ true
      → Sources.inside t L (home t v) ≡ false → tb.carried L v ≡ true
  unfolding carried
  by_carried L v r j k l lj e i o =
      rw (eq-eqb (kind_at t L) 4 k, o, some_has (λ r. Sources.inside t L (reads t r) && names t r v) (size t) r l (rw (i, subst (λ (z : ℕ). names t r z ≡ true) e (of_name r j lj))))

  -- ---- what is carried in was there before
  module _ (L v : ℕ) (c : CarriedBy L v) where
    value : kind_at t v ≤ 6
    value = subst (λ (z : ℕ). kind_at t z ≤ 6) c.is_operand (S.operands c.row c.place c.row_below_lem c.place_below).is_value

    before_row : v < c.row
    before_row = subst (λ (z : ℕ). z < c.row) c.is_operand (S.operands c.row c.place c.row_below_lem c.place_below).before

    passed : kind_at t v ≡ 6 → end_of t (body_of t v) < c.row
    passed = subst (λ (z : ℕ). kind_at t z ≡ 6 → end_of t (body_of t z) < c.row) c.is_operand (S.operands c.row c.place c.row_below_lem c.place_below).passed

    -- a value born in L is at home in L, or is a NEXT of L, which L's rows do not see
    not_in : L < v → ⊥
    not_in lo = go (kind_at t v) refl value
      where
        b0 : L < c.row
        b0 = c.in_loop_lem.0

        b1 : c.row ≤ end_of t L
        b1 = c.in_loop_lem.1

        lv : v < size t
        lv = let a = before_row in let b = c.row_below_lem in omega arith

        hi : v ≤ end_of t L
        hi = let a = before_row in let b = b1 in omega arith

        at_home : Sources.inside t L (home t v) ≡ true → ⊥
        at_home h = clash h c.outside

        in_body : home t v ≡ body_of t v → ⊥
        in_body e = at_home (subst (λ (z : ℕ). Sources.inside t L z ≡ true) (sym e) (body_inside L v c.below c.is_loop (let a = lv in omega arith) lo hi))

        of_next : kind_at t v ≡ 6 → ⊥
        of_next k =
            elim (inside_means L (body_of t v) c.below c.is_loop (body_inside L v c.below c.is_loop (let a = lv in omega arith) lo hi)) [
              | inl e ↦ let p = passed k in let q : end_of t (body_of t v) ≡ end_of t L = ap (end_of t) e in let b = b1 in omega arith
              | inr m ↦
                  let m0 : L < body_of t v = m.0 in
                  let m1 : body_of t v ≤ end_of t L = m.1 in
                  let N = S.next_row v lv k in
                  let lM = Tables.below_by_kind t S (body_of t v) 3 N.loop_for in
                  at_home (subst (λ (z : ℕ). Sources.inside t L z ≡ true) (sym (S.next_home v lv k)) (body_inside L (body_of t v) c.below c.is_loop (omega arith) m0 m1))
            ]

        go : (k : ℕ) → kind_at t v ≡ k → k ≤ 6 → ⊥
        go zero e l = let z = S.starts L v lo lv (omega arith) in let y = c.is_loop in omega arith
        go (suc zero) e l = let z = S.starts L v lo lv (omega arith) in let y = c.is_loop in omega arith
        go (suc (suc zero)) e l = in_body (S.op_home v (inl e))
        go (suc (suc (suc zero))) e l = in_body (S.op_home v (inr e))
        go (suc (suc (suc (suc zero)))) e l =
            at_home (subst (λ (z : ℕ). Sources.inside t L z ≡ true) (sym (S.for_home v e)) (means_inside L v c.below c.is_loop (inr (lo, hi))))
        go (suc (suc (suc (suc (suc zero))))) e l = in_body (S.arg_home v e)
        go (suc (suc (suc (suc (suc (suc zero)))))) e l = of_next e
        go (suc (suc (suc (suc (suc (suc (suc k))))))) e l = absurd (omega arith)

    pub carried_before : v < L
    carried_before =
        elim (ℕ_discrete v L) [
          | yes e ↦ absurd (clash (means_inside L (home t v) c.below c.is_loop (inl (S.for_home v (ap (kind_at t) e ∙ c.is_loop) ∙ e))) c.outside)
          | no n ↦ elim (dec_lt L v) [ yes l ↦ absurd (not_in l) | no l ↦ omega arith ]
        ]

    pub carried_home : home t v ≢ L
    carried_home e = clash (means_inside L (home t v) c.below c.is_loop (inl e)) c.outside

    -- of a NEXT the END has passed before L opens
    pub carried_passed : kind_at t v ≡ 6 → end_of t (body_of t v) < L
    carried_passed k =
        let lv : v < L = carried_before in
        let l_l = c.below in
        let N = S.next_row v (omega arith) k in
        let b : body_of t v < v = N.below in
        let p : end_of t (body_of t v) < c.row = passed k in
        let b1 : c.row ≤ end_of t L = c.in_loop_lem.1 in
        elim (dec_lt (end_of t (body_of t v)) L) [
          | yes l ↦ l
          | no n ↦ let x = (S.nest (body_of t v) L l_l N.loop_for c.is_loop (omega arith) (omega arith)).1 in absurd (omega arith)
        ]

    -- its home lies around L: it is the body around L, or carried into that
    home_around : Encloses t (home t v) (body_of t L)
    home_around = go (subst (λ (z : ℕ). Encloses t (home t z) (reads t c.row)) c.is_operand (S.operands c.row c.place c.row_below_lem c.place_below).at_home)
      where
        go : Encloses t (home t v) (reads t c.row) → Encloses t (home t v) (body_of t L)
        go (outermost e) = outermost e
        go (same e) = absurd (clash (subst (λ (z : ℕ). Sources.inside t L z ≡ true) (sym e) c.read_inside) c.outside)
        go (inside k lo hi) =
            let lH = Tables.below_by_kind t S (home t v) 3 k in
            let l_l = c.below in
            let around : (home t v < L) × (L ≤ end_of t (home t v)) =
            elim (inside_means L (reads t c.row) c.below c.is_loop c.read_inside) [
              | inl e ↦ (omega arith, omega arith)
              | inr m ↦
                  let m0 : L < reads t c.row = m.0 in
                  let m1 : reads t c.row ≤ end_of t L = m.1 in
                  elim (dec_lt (home t v) L) [
                    | yes l ↦ (l, omega arith)
                    | no n ↦
                        absurd (clash (means_inside L (home t v) c.below c.is_loop
                        (elim (ℕ_discrete (home t v) L) [ yes e ↦ inl e | no d ↦ inr (omega arith, omega arith) ])) c.outside)
                  ]
            ] in
            S.body_inmost L (home t v) (omega arith) lH (record { is_for_lem = k; low = around.0; high = around.1 })

    -- and it is carried into the body around L, if it is not at home there
    pub carried_around : home t v ≢ body_of t L → tb.carried (body_of t L) v ≡ true
    carried_around n = go home_around (body_cases L (let l = c.below in omega arith))
      where
        l_l : L < size t
        l_l = c.below

        within : (B : ℕ) → kind_at t B ≡ 4 → B < size t → body_of t L ≡ B → Sources.inside t B (reads t c.row) ≡ true
        within B k lB e =
            let i = S.body_loop L (let l = l_l in omega arith) (λ z. let q : B ≡ size t = sym e ∙ z in omega arith) in
            let lo : B < L = subst (λ (z : ℕ). z < L) e i.low in
            let hi : L ≤ end_of t B = subst (λ (z : ℕ). L ≤ end_of t z) e i.high in
            let x = (S.nest B L l_l k c.is_loop lo hi).1 in
            means_inside B (reads t c.row) lB k (elim (inside_means L (reads t c.row) c.below c.is_loop c.read_inside) [
              | inl q ↦ inr (omega arith, omega arith)
              | inr m ↦ let m0 : L < reads t c.row = m.0 in let m1 : reads t c.row ≤ end_of t L = m.1 in inr (omega arith, omega arith)
            ])

        make : (kind_at t (body_of t L) ≡ 4) → body_of t L < size t → ((home t v < body_of t L) ⊎ (home t v ≡ size t)) → tb.carried (body_of t L) v ≡ true
        make k lB d =
            by_carried (body_of t L) v c.row c.place k c.row_below_lem c.place_below c.is_operand (within (body_of t L) k lB refl) (outside_of (body_of t L) (home t v) k lB d)

        go : Encloses t (home t v) (body_of t L) → (body_of t L ≡ size t) ⊎ ((body_of t L < size t) × (kind_at t (body_of t L) ≡ 4)) → tb.carried (body_of t L) v ≡ true
        go (same e) k = absurd (n e)
        go (inside kH lo hi) (inl e) = let lH = Tables.below_by_kind t S (home t v) 3 kH in let s = (S.loop_span (home t v) lH kH).inside in absurd (omega arith)
        go (inside kH lo hi) (inr k) = make k.1 k.0 (inl lo)
        go (outermost e) (inl k) = absurd (n (e ∙ sym k))
        go (outermost e) (inr k) = make k.1 k.0 (inr e)
