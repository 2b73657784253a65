-- What an operand may name: an earlier value, at home in the body where it is read or around it, and of a NEXT one whose END has passed.
-- Main names: `Operand`, `operand_of`, `ArgOperand`, `arg_operand_of`, and the homes: `home_start`, `home_for`, `home_here`, `home_next`.
-- Assumes nothing.
use Prim.Native.Nat.{ℕ, zero, suc, ◌+◌, ◌<◌, ◌≤◌}
use Rattle.std.specs.Prelude.{Bool, ◌&&◌, List, [], ◌∷◌, ◌≢◌, ◌⊎◌, ◌≡◌, leb, ltb}
use Rattle.std.proofs.Math.Bool.{true, false, cond}
use Rattle.std.proofs.Math.Logic.{inl, inr}
use Rattle.std.proofs.Math.Path.{refl, subst}
use Rattle.std.proofs.Common.{sym, ap, ◌∙◌}
use native.Mathlib.Omega.{arith}
use Rattle.std.proofs.Math.Decide.{ℕ_discrete, dec_le}
use borrow.Author.Tests.{eqb-true, ne_eqb, ltb-true, leb-true, le-leb, lt-leb, not-true as not_yes}
use Rattle.std.proofs.Math.Dec.{eqb}
use Rattle.table.specs.Rows.{kind_at, word, size, operand_count, first_operand, sort_of, wanted_sort}
use Rattle.table.specs.Scan.{Loop, stack_at, inner, outward, body_of, read_stack, reads, home_by, home, holds, body_open, end_passed, visible}
use Rattle.table.specs.Check.{names_from, names_right, types_from, types_right}
use Rattle.table.specs.Bodies.{operand, end_of, first_of}
use Rattle.table.specs.Right.{TableRight}
use Rattle.structure.specs.Place.{both}
use Rattle.structure.specs.Spans.{clash, open_is_for, span, Encloses, outermost, open_encloses}
use Rattle.structure.specs.Serving.{header_rows, header_bodies, arg_of_lem, next_of_lem}

module _ (t : List ℕ) where
  -- ---- homes
  pub home_start : (v : ℕ) → kind_at t v ≤ 1 → home t v ≡ size t
  unfolding home home_by
  home_start v k = rw (le-leb (kind_at t v) 1 k)

  pub home_for : (v : ℕ) → kind_at t v ≡ 4 → home t v ≡ v
  unfolding home home_by
  home_for v k = rw k

  pub home_here : (v : ℕ) → 1 < kind_at t v → kind_at t v ≢ 4 → kind_at t v ≢ 6 → home t v ≡ body_of t v
  unfolding home home_by body_of
  home_here v k n4 n6 = rw (lt-leb (kind_at t v) 1 k, ne_eqb (kind_at t v) 4 n4, ne_eqb (kind_at t v) 6 n6)

  body_in : (b : ℕ) → body_of t b ≡ inner (size t) (stack_at t b)
  unfolding body_of
  body_in b = refl

  pub home_next : (x : ℕ) → kind_at t x ≡ 6 → outward (stack_at t x) ≡ stack_at t (body_of t x) → home t x ≡ body_of t (body_of t x)
  unfolding home home_by
  home_next x k e = rw (body_in (body_of t x), ← e, k)

  -- ---- where operands are read
  pub reads_here : (r : ℕ) → kind_at t r ≢ 5 → read_stack t r ≡ stack_at t r
  unfolding read_stack
  reads_here r n = rw (ne_eqb (kind_at t r) 5 n)

  pub reads_around : (a : ℕ) → kind_at t a ≡ 5 → read_stack t a ≡ outward (stack_at t a)
  unfolding read_stack
  reads_around a k = rw k

  reads_is : (r : ℕ) (l : Loop) (s : List Loop) → read_stack t r ≡ l ∷ s → reads t r ≡ l.row
  unfolding reads
  reads_is r l s w = rw w

  -- ---- each operand passed
  each_name : (m r k j : ℕ) → names_from m t r k ≡ true → j < m → visible t r (word t r (k + j)) ≡ true
  unfolding names_from
  each_name zero r k j h less = absurd (omega arith)
  each_name (suc m) r k zero h less = let e : k + 0 ≡ k = omega arith in rw e (both (visible t r (word t r k)) (names_from m t r (k + 1)) h).0
  each_name (suc m) r k (suc j) h less =
      let e : k + 1 + j ≡ k + suc j = omega arith in
      subst (λ (y : ℕ). visible t r (word t r y) ≡ true) e (each_name m r (k + 1) j (both (visible t r (word t r k)) (names_from m t r (k + 1)) h).1 (omega arith))

  each_type : (m r k j : ℕ) → types_from m t r k ≡ true → j < m → sort_of t (word t r (k + j)) ≡ wanted_sort (kind_at t r) (k + j)
  unfolding types_from
  each_type zero r k j h less = absurd (omega arith)
  each_type (suc m) r k zero h less =
      let e : k + 0 ≡ k = omega arith in
      rw e (eqb-true (sort_of t (word t r k)) (wanted_sort (kind_at t r) k) (both (eqb (sort_of t (word t r k)) (wanted_sort (kind_at t r) k)) (types_from m t r (k + 1)) h).0)
  each_type (suc m) r k (suc j) h less =
      let e : k + 1 + j ≡ k + suc j = omega arith in
      subst (λ (y : ℕ). sort_of t (word t r y) ≡ wanted_sort (kind_at t r) y) e
      (each_type m r (k + 1) j (both (eqb (sort_of t (word t r k)) (wanted_sort (kind_at t r) k)) (types_from m t r (k + 1)) h).1 (omega arith))

  -- what visible says, test by test
  record Seen (r v : ℕ) : Type 0 where
    earlier : v < r
    value : kind_at t v ≤ 6
    home_open : (home t v ≡ size t) ⊎ (holds (home t v) (read_stack t r) ≡ true)
    passed : kind_at t v ≡ 6 → holds (body_of t v) (stack_at t r) ≡ false

  seen : (r v : ℕ) → visible t r v ≡ true → Seen r v
  unfolding visible body_open end_passed
  seen r v h =
      let p1 = both (ltb v r) (leb (kind_at t v) 6 && (body_open (size t) (home t v) (read_stack t r) && end_passed t r v)) h in
      let p2 = both (leb (kind_at t v) 6) (body_open (size t) (home t v) (read_stack t r) && end_passed t r v) p1.1 in
      let p3 = both (body_open (size t) (home t v) (read_stack t r)) (end_passed t r v) p2.1 in
      record {
        earlier = ltb-true v r p1.0;
        value = leb-true (kind_at t v) 6 p2.0;
        home_open = open_or (eqb (home t v) (size t)) refl p3.0;
        passed = λ k. not_yes (holds (body_of t v) (stack_at t r)) (rw k at p3.1);
      }
    where
      open_or : (b : Bool) → eqb (home t v) (size t) ≡ b → cond b true (holds (home t v) (read_stack t r)) ≡ true
          → (home t v ≡ size t) ⊎ (holds (home t v) (read_stack t r) ≡ true)
      open_or true e q = inl (eqb-true (home t v) (size t) e)
      open_or false e q = inr q

-- operand j of row r
pub record Operand (t : List ℕ) (r j : ℕ) : Type 0 where
  -- it is the value of an earlier row
  pub before : operand t r j < r
  pub is_value : kind_at t (operand t r j) ≤ 6
  -- its home is the body in which it is read, or one around that
  pub at_home : Encloses t (home t (operand t r j)) (reads t r)
  -- of a NEXT the END has passed
  pub passed : kind_at t (operand t r j) ≡ 6 → end_of t (body_of t (operand t r j)) < r
  pub sort : sort_of t (operand t r j) ≡ wanted_sort (kind_at t r) (first_operand (kind_at t r) + j)

-- the operand of an ARG was there before the loop
pub record ArgOperand (t : List ℕ) (a : ℕ) : Type 0 where
  pub before_loop : operand t a 0 < body_of t a
  pub passed_loop : kind_at t (operand t a 0) ≡ 6 → end_of t (body_of t (operand t a 0)) < body_of t a

module _ (t : List ℕ) (ok : TableRight t) where
  row_seen : (r j : ℕ) → r < size t → j < operand_count (kind_at t r) → Seen t r (operand t r j)
  unfolding names_right
  row_seen r j less h = seen t r (operand t r j) (each_name t (operand_count (kind_at t r)) r (first_operand (kind_at t r)) j (ok.row r less).names h)

  -- the body of a reading stack, which is the stack before some row
  enclosed : (r q H : ℕ) → q ≤ size t → read_stack t r ≡ stack_at t q → (H ≡ size t) ⊎ (holds H (read_stack t r) ≡ true) → Encloses t H (reads t r)
  enclosed r q H less e (inl z) = outermost z
  enclosed r q H less e (inr h) = go (stack_at t q) refl (ap (holds H) (sym e) ∙ h)
    where
      go : (z : List Loop) → stack_at t q ≡ z → holds H (stack_at t q) ≡ true → Encloses t H (reads t r)
      go [] w g = absurd (clash g (ap (holds H) w))
      go (l ∷ s) w g = subst (Encloses t H) (sym (reads_is t r l s (e ∙ w))) (open_encloses t ok q H l s less w g)

  -- the row before which the loops are those of the reading stack: the row itself, and of an ARG its loop's FOR
  read_at_lem : (r : ℕ) → r < size t → (q : ℕ) × (q ≤ size t) × (read_stack t r ≡ stack_at t q)
  read_at_lem r less = elim (ℕ_discrete (kind_at t r) 5) [ yes k ↦ of_arg k | no n ↦ (r, omega arith, reads_here t r n) ]
    where
      of_arg : kind_at t r ≡ 5 → (q : ℕ) × (q ≤ size t) × (read_stack t r ≡ stack_at t q)
      of_arg k = let A = arg_of_lem t ok r less k in (body_of t r, omega (arith, A.low), reads_around t r k ∙ ap outward A.loops)

  -- the END of a NEXT that is not open any more has passed
  end_passed_lem : (r v : ℕ) → r < size t → v < r → kind_at t v ≡ 6 → holds (body_of t v) (stack_at t r) ≡ false → end_of t (body_of t v) < r
  end_passed_lem r v less lt k h =
      let N = next_of_lem t ok v (omega arith) k in
      let S = span t ok (body_of t v) (omega (arith, N.below)) N.loop_for in
      elim (dec_le r (end_of t (body_of t v))) [ yes p ↦ absurd (clash (S.open_in r (omega (arith, N.below)) p) h) | no p ↦ over r (end_of t (body_of t v)) p ]
    where
      over : (a b : ℕ) → (a ≤ b → ⊥) → b < a
      over a b p = omega arith

  pub operand_of : (r j : ℕ) → r < size t → j < operand_count (kind_at t r) → Operand t r j
  unfolding types_right
  operand_of r j less h =
      let s = row_seen r j less h in
      let q = read_at_lem r less in
      record {
        before = s.earlier;
        is_value = s.value;
        at_home = enclosed r q.0 (home t (operand t r j)) q.1 q.2 s.home_open;
        passed = λ k. end_passed_lem r (operand t r j) less s.earlier k (s.passed k);
        sort = each_type t (operand_count (kind_at t r)) r (first_operand (kind_at t r)) j (ok.row r less).types h;
      }

  one_operand : (a : ℕ) → kind_at t a ≡ 5 → 0 < operand_count (kind_at t a)
  unfolding operand_count
  one_operand a k = rw k (omega arith)

  -- what an ARG names stood before its FOR: its loop's index and ARGs are not at home around the loop
  pub arg_operand_of : (a : ℕ) → a < size t → kind_at t a ≡ 5 → ArgOperand t a
  arg_operand_of a less k =
      let s = row_seen a 0 less (one_operand a k) in
      let A = arg_of_lem t ok a less k in
      let L = body_of t a in
      let v = operand t a 0 in
      let around : read_stack t a ≡ stack_at t L = reads_around t a k ∙ ap outward A.loops in
      let low : v < L = elim (dec_le L v) [ yes p ↦ absurd (not_there v p s.earlier A.low A.high (at_home_in v p s.earlier) around s.home_open) | no p ↦ over L v p ] in
      record {
        before_loop = low;
        passed_loop = λ z. let e = end_passed_lem a v less s.earlier z (s.passed z) in
            let N = next_of_lem t ok v (omega arith) z in
            let S = span t ok (body_of t v) (omega (arith, N.below)) N.loop_for in
            elim (dec_le L (end_of t (body_of t v))) [ yes p ↦ absurd (not_end (end_of t (body_of t v)) p e S.end_kind) | no p ↦ over L (end_of t (body_of t v)) p ];
      }
    where
      over : (b c : ℕ) → (b ≤ c → ⊥) → c < b
      over b c p = omega arith

      up : (x y : ℕ) → x ≢ y → y ≤ x → y < x
      up x y e p = omega arith

      under : (x : ℕ) → x < a → a < first_of t (body_of t a) → x < first_of t (body_of t a)
      under x q h = omega arith

      of_arg : (x : ℕ) → kind_at t x ≡ 5 → body_of t x ≡ body_of t a → home t x ≡ body_of t a
      of_arg x e b = home_here t x (omega arith) (λ q. omega arith) (λ q. omega arith) ∙ b

      -- the rows from the FOR up to the ARG are the FOR and ARGs
      header_row : (x : ℕ) → body_of t a ≤ x → x < a → (kind_at t x ≡ 4) ⊎ (kind_at t x ≡ 5)
      header_row x p q =
          let A = arg_of_lem t ok a less k in
          elim (ℕ_discrete x (body_of t a)) [ yes e ↦ inl (rw e A.loop_for) | no e ↦ inr (header_rows t (body_of t a) x (up x (body_of t a) e p) (under x q A.high)) ]

      at_home_in : (x : ℕ) → body_of t a ≤ x → x < a → home t x ≡ body_of t a
      at_home_in x p q =
          let A = arg_of_lem t ok a less k in
          elim (ℕ_discrete x (body_of t a)) [
            | yes e ↦ rw e (home_for t (body_of t a) A.loop_for)
            | no e ↦ of_arg x (header_rows t (body_of t a) x (up x (body_of t a) e p) (under x q A.high))
                (header_bodies t (body_of t a) x A.loop_for (up x (body_of t a) e p) (under x q A.high))
          ]

      not_there : (x : ℕ) → body_of t a ≤ x → x < a → body_of t a < a → a < first_of t (body_of t a) → home t x ≡ body_of t a → read_stack t a ≡ stack_at t (body_of t a)
          → (home t x ≡ size t) ⊎ (holds (home t x) (read_stack t a) ≡ true) → ⊥
      not_there x p q low high e w (inl z) = omega arith
      not_there x p q low high e w (inr z) =
          let h : holds (body_of t a) (stack_at t (body_of t a)) ≡ true = ap (λ (y : ℕ). holds y (stack_at t (body_of t a))) (sym e) ∙ ap (holds (home t x)) (sym w) ∙ z in
          omega (arith, (open_is_for t (body_of t a) (body_of t a) h).0)

      not_end : (x : ℕ) → body_of t a ≤ x → x < a → kind_at t x ≡ 7 → ⊥
      not_end x p q z = by (header_row x p q)
        where
          by : (kind_at t x ≡ 4) ⊎ (kind_at t x ≡ 5) → ⊥
          by (inl y) = omega arith
          by (inr y) = omega arith
