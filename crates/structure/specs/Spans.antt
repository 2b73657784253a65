-- Where a loop is open: from the row behind its FOR up to its END, and nowhere else. So loops nest.
-- Main names: `open_is_for`, `Span`, `span`, `end_is_end_of`, `Encloses`, `open_encloses`, `loops_nest`.
-- Assumes nothing.
use Prim.Native.Nat.{ℕ, zero, suc, ◌+◌, ◌-◌, ◌<◌, ◌≤◌}
use Rattle.std.specs.Prelude.{Bool, cond, ◌≢◌, ◌⊎◌, ◌≡◌, eqb}
use Rattle.std.proofs.Math.Bool.{true, false}
use Rattle.std.proofs.lemmas.Bool.{false≢true}
use mathlib.Core.List.{List, [], ◌∷◌}
use Rattle.std.proofs.Common.{inl, inr, sym, ap, ◌∙◌, subst}
use Rattle.std.proofs.Math.Path.{refl}
use native.Mathlib.Omega.{arith}
use Rattle.std.proofs.Math.Decide.{ℕ_discrete, dec_le}
use borrow.Author.Tests.{eqb-true, eq-eqb}
use Rattle.table.specs.Rows.{kind_at, size}
use Rattle.table.specs.Scan.{Loop, opened, one_arg, one_next, at_head, outward, stack_at, body_of, holds}
use Rattle.table.specs.Check.{all_served, outside, end_right, kind_before}
use Rattle.table.specs.Bodies.{ends, end_from, end_of}
use Rattle.table.specs.Right.{TableRight}
use Rattle.structure.specs.Place.{both, end_is_served, Move, opens, counts, serves, closes, stays, move, stack_opens, stack_arg, stack_next, stack_closes, stack_stays}
use Rattle.structure.specs.Loops.{Head, innermost}

-- ---- a loop among others
pub not_true : (b : Bool) → (b ≡ true → ⊥) → b ≡ false
not_true true n = absurd (n refl)
not_true false n = refl

pub clash : {b : Bool} → b ≡ true → b ≡ false → ⊥
clash p q = false≢true (sym q ∙ p)

pub member_cases : (b : ℕ) (l : Loop) (s : List Loop) → holds b (l ∷ s) ≡ true → (l.row ≡ b) ⊎ (holds b s ≡ true)
member_cases b l s h = go (eqb l.row b) refl h
  where
    go : (c : Bool) → eqb l.row b ≡ c → cond c true (holds b s) ≡ true → (l.row ≡ b) ⊎ (holds b s ≡ true)
    go true e h = inl (eqb-true l.row b e)
    go false e h = inr h

pub member_here : (b : ℕ) (l : Loop) (s : List Loop) → l.row ≡ b → holds b (l ∷ s) ≡ true
member_here b l s e = rw (eq-eqb l.row b e)

pub member_there : (b : ℕ) (l : Loop) (s : List Loop) → holds b s ≡ true → holds b (l ∷ s) ≡ true
member_there b l s h = go (eqb l.row b)
  where
    go : (c : Bool) → cond c true (holds b s) ≡ true
    go true = refl
    go false = h

pub nonempty : (b : ℕ) (s : List Loop) → holds b s ≡ true → (l : Loop) × (z : List Loop) × (s ≡ l ∷ z)
nonempty b [] h = absurd (false≢true h)
nonempty b (l ∷ z) h = (l, z, refl)

-- ARG and NEXT keep the FOR rows
keeps_arg : (b : ℕ) (s : List Loop) → holds b (at_head one_arg s) ≡ holds b s
keeps_arg b [] = refl
keeps_arg b (l ∷ s) = refl

keeps_next : (b : ℕ) (s : List Loop) → holds b (at_head one_next s) ≡ holds b s
keeps_next b [] = refl
keeps_next b (l ∷ s) = refl

in_outward : (b : ℕ) (s : List Loop) → holds b (outward s) ≡ true → holds b s ≡ true
in_outward b [] h = h
in_outward b (l ∷ s) h = member_there b l s h

module _ (t : List ℕ) where
  pub body_is : (r : ℕ) (l : Loop) (s : List Loop) → stack_at t r ≡ l ∷ s → body_of t r ≡ l.row
  unfolding body_of
  body_is r l s e = rw e

  -- what is open is an earlier FOR
  pub open_is_for : (r b : ℕ) → holds b (stack_at t r) ≡ true → (b < r) × (kind_at t b ≡ 4)
  unfolding stack_at
  open_is_for zero b h = absurd (false≢true h)
  open_is_for (suc r) b h = go (open_is_for r b) (move (kind_at t r))
    where
      later : (b < r) × (kind_at t b ≡ 4) → (b < suc r) × (kind_at t b ≡ 4)
      later q = (omega arith, q.1)

      go : (holds b (stack_at t r) ≡ true → (b < r) × (kind_at t b ≡ 4)) → Move (kind_at t r) → (b < suc r) × (kind_at t b ≡ 4)
      go IH (opens k) = by (member_cases b (opened r) (stack_at t r) (ap (holds b) (sym (stack_opens t r k)) ∙ h))
        where
          by : (r ≡ b) ⊎ (holds b (stack_at t r) ≡ true) → (b < suc r) × (kind_at t b ≡ 4)
          by (inl e) = (omega arith, subst (λ (x : ℕ). kind_at t x ≡ 4) e k)
          by (inr q) = later (IH q)
      go IH (counts k) = later (IH (sym (keeps_arg b (stack_at t r)) ∙ ap (holds b) (sym (stack_arg t r k)) ∙ h))
      go IH (serves k) = later (IH (sym (keeps_next b (stack_at t r)) ∙ ap (holds b) (sym (stack_next t r k)) ∙ h))
      go IH (closes k) = later (IH (in_outward b (stack_at t r) (ap (holds b) (sym (stack_closes t r k)) ∙ h)))
      go IH (stays n4 n5 n6 n7) = later (IH (ap (holds b) (sym (stack_stays t r n4 n5 n6 n7)) ∙ h))

  -- a loop that does not end at row r stays open there
  stays_open : (L r : ℕ) → holds L (stack_at t r) ≡ true → ends t L r ≡ false → holds L (stack_at t (suc r)) ≡ true
  unfolding ends
  stays_open L r h n = go (move (kind_at t r))
    where
      go : Move (kind_at t r) → holds L (stack_at t (suc r)) ≡ true
      go (opens k) = rw (stack_opens t r k) (member_there L (opened r) (stack_at t r) h)
      go (counts k) = rw (stack_arg t r k) (keeps_arg L (stack_at t r) ∙ h)
      go (serves k) = rw (stack_next t r k) (keeps_next L (stack_at t r) ∙ h)
      go (closes k) = rw (stack_closes t r k) (by (stack_at t r) refl)
        where
          other : (l : Loop) (s : List Loop) → stack_at t r ≡ l ∷ s → l.row ≢ L
          other l s q e = clash (eq-eqb (body_of t r) L (body_is r l s q ∙ e)) (rw k at n)

          pass : (l : Loop) (s : List Loop) → l.row ≢ L → (l.row ≡ L) ⊎ (holds L s ≡ true) → holds L s ≡ true
          pass l s w (inl e) = absurd (w e)
          pass l s w (inr e) = e

          by : (z : List Loop) → stack_at t r ≡ z → holds L (outward z) ≡ true
          by [] q = absurd (clash h (ap (holds L) q))
          by (l ∷ s) q = pass l s (other l s q) (member_cases L l s (ap (holds L) (sym q) ∙ h))
      go (stays n4 n5 n6 n7) = rw (stack_stays t r n4 n5 n6 n7) h

  -- a loop that is not open opens no more: only its FOR opens it
  stays_shut : (L r : ℕ) → L < r → holds L (stack_at t r) ≡ false → holds L (stack_at t (suc r)) ≡ false
  stays_shut L r less h = not_true (holds L (stack_at t (suc r))) (λ q. go q (move (kind_at t r)))
    where
      go : holds L (stack_at t (suc r)) ≡ true → Move (kind_at t r) → ⊥
      go q (opens k) = by (member_cases L (opened r) (stack_at t r) (ap (holds L) (sym (stack_opens t r k)) ∙ q))
        where
          by : (r ≡ L) ⊎ (holds L (stack_at t r) ≡ true) → ⊥
          by (inl e) = omega arith
          by (inr e) = clash e h
      go q (counts k) = clash (sym (keeps_arg L (stack_at t r)) ∙ ap (holds L) (sym (stack_arg t r k)) ∙ q) h
      go q (serves k) = clash (sym (keeps_next L (stack_at t r)) ∙ ap (holds L) (sym (stack_next t r k)) ∙ q) h
      go q (closes k) = clash (in_outward L (stack_at t r) (ap (holds L) (sym (stack_closes t r k)) ∙ q)) h
      go q (stays n4 n5 n6 n7) = clash (ap (holds L) (sym (stack_stays t r n4 n5 n6 n7)) ∙ q) h

  shut_from : (L r k : ℕ) → L < r → holds L (stack_at t r) ≡ false → holds L (stack_at t (r + k)) ≡ false
  shut_from L r zero less h = let e : r + 0 ≡ r = omega arith in rw e h
  shut_from L r (suc k) less h = let e : r + suc k ≡ suc (r + k) = omega arith in rw e (stays_shut L (r + k) (omega arith) (shut_from L r k less h))

-- the END found for loop L, open from row r up
pub record Found (t : List ℕ) (L r e : ℕ) : Type 0 where
  pub low : r ≤ e
  pub high : e < size t
  pub is_end : ends t L e ≡ true
  pub open_to : (x : ℕ) → r ≤ x → x ≤ e → holds L (stack_at t x) ≡ true

-- where loop L is open
pub record Span (t : List ℕ) (L : ℕ) : Type 0 where
  pub below : L < end_of t L
  pub inside : end_of t L < size t
  pub end_kind : kind_at t (end_of t L) ≡ 7
  pub end_body : body_of t (end_of t L) ≡ L
  pub open_in : (x : ℕ) → L < x → x ≤ end_of t L → holds L (stack_at t x) ≡ true
  pub open_only : (x : ℕ) → holds L (stack_at t x) ≡ true → (L < x) × (x ≤ end_of t L)

-- body B is H, or loop B lies in loop H; n is the outermost body
pub data Encloses (t : List ℕ) (H B : ℕ) : Type 0 where
  same : H ≡ B → Encloses t H B
  inside : kind_at t H ≡ 4 → H < B → B ≤ end_of t H → Encloses t H B
  outermost : H ≡ size t → Encloses t H B

module _ (t : List ℕ) (ok : TableRight t) where
  -- no loop is open at the end
  nothing_open : (L : ℕ) → holds L (stack_at t (size t)) ≡ false
  unfolding end_right
  nothing_open L = go (stack_at t (size t)) (both (outside (stack_at t (size t))) (eqb (kind_before t (size t)) 8) ok.ended).0
    where
      go : (z : List Loop) → outside z ≡ true → holds L z ≡ false
      go [] h = refl
      go (l ∷ s) h = absurd (false≢true h)

  end_found : (L m r : ℕ) → r + m ≡ size t → holds L (stack_at t r) ≡ true → Found t L r (end_from m t L r)
  unfolding end_from
  end_found L zero r e h = let q : r ≡ size t = omega arith in absurd (clash (subst (λ (x : ℕ). holds L (stack_at t x) ≡ true) q h) (nothing_open L))
  end_found L (suc m) r e h = go (end_found L m (suc r) (omega arith)) (ends t L r) refl
    where
      only : (x : ℕ) → r ≤ x → x ≤ r → x ≡ r
      only x p q = omega arith

      go : (holds L (stack_at t (suc r)) ≡ true → Found t L (suc r) (end_from m t L (suc r))) → (b : Bool) → ends t L r ≡ b → Found t L r (cond b r (end_from m t L (suc r)))
      go IH true q = record { low = omega arith; high = omega arith; is_end = q; open_to = λ x p w. rw (only x p w) h }
      go IH false q =
          let f = IH (stays_open t L r h q) in
          record {
            low = omega (arith, f.low);
            high = f.high;
            is_end = f.is_end;
            open_to = λ x p w. elim (ℕ_discrete x r) [ yes y ↦ rw y h | no y ↦ f.open_to x (up x y p) w ];
          }
        where
          up : (x : ℕ) → x ≢ r → r ≤ x → suc r ≤ x
          up x y p = omega arith

  -- an END of L shuts it: behind it the loops are those before L
  shut_behind : (L e : ℕ) → e < size t → kind_at t e ≡ 7 → body_of t e ≡ L → holds L (stack_at t e) ≡ true → holds L (stack_at t (suc e)) ≡ false
  shut_behind L e less k b h =
      let z = nonempty L (stack_at t e) h in
      let q = z.2 in
      let H = innermost t ok e (omega arith) z.0 z.1 q in
      let row : z.0.row ≡ L = sym (body_is t e z.0 z.1 q) ∙ b in
      let s : stack_at t (suc e) ≡ stack_at t L = stack_closes t e k ∙ ap outward q ∙ sym H.around ∙ ap (stack_at t) row in
      rw s (not_true (holds L (stack_at t L)) (λ w. omega (arith, (open_is_for t L L w).0)))

  pub span : (L : ℕ) → L < size t → kind_at t L ≡ 4 → Span t L
  unfolding end_of ends
  span L less k =
      let e = end_from (size t - suc L) t L (suc L) in
      let start : holds L (stack_at t (suc L)) ≡ true = rw (stack_opens t L k) (member_here L (opened L) (stack_at t L) refl) in
      let f = end_found L (size t - suc L) (suc L) (omega arith) start in
      let two = both (eqb (kind_at t e) 7) (eqb (body_of t e) L) f.is_end in
      let ke : kind_at t e ≡ 7 = eqb-true (kind_at t e) 7 two.0 in
      let be : body_of t e ≡ L = eqb-true (body_of t e) L two.1 in
      let off = shut_behind L e f.high ke be (f.open_to e f.low (omega arith)) in
      record {
        below = f.low;
        inside = f.high;
        end_kind = ke;
        end_body = be;
        open_in = λ x p q. f.open_to x p q;
        open_only = λ x h. ((open_is_for t x L h).0, within e off f.low x h);
      }
    where
      within : (e : ℕ) → holds L (stack_at t (suc e)) ≡ false → suc L ≤ e → (x : ℕ) → holds L (stack_at t x) ≡ true → x ≤ e
      within e off low x h =
          elim (dec_le x e) [
            | yes p ↦ p
            | no p ↦ (let q : suc e + (x - suc e) ≡ x = omega arith in
                absurd (clash h (subst (λ (y : ℕ). holds L (stack_at t y) ≡ false) q (shut_from t L (suc e) (x - suc e) (omega arith) off))))
          ]

  -- an open row is a row of the table
  pub open_below : (r b : ℕ) → r ≤ size t → holds b (stack_at t r) ≡ true → b < size t
  open_below r b less h = omega (arith, (open_is_for t r b h).0)

  -- an END ends the loop in which it stands
  pub end_stands : (r : ℕ) → r < size t → kind_at t r ≡ 7 → holds (body_of t r) (stack_at t r) ≡ true
  end_stands r less k = go (stack_at t r) refl (end_is_served t r (ok.row r less) k)
    where
      go : (z : List Loop) → stack_at t r ≡ z → all_served z ≡ true → holds (body_of t r) (stack_at t r) ≡ true
      go [] q h = absurd (false≢true h)
      go (l ∷ s) q h = rw q (subst (λ (b : ℕ). holds b (l ∷ s) ≡ true) (sym (body_is t r l s q)) (member_here l.row l s refl))

  pub end_is_end_of : (r : ℕ) → r < size t → kind_at t r ≡ 7 → r ≡ end_of t (body_of t r)
  end_is_end_of r less k =
      let L = body_of t r in
      let h = end_stands r less k in
      let S = span L (open_below r L (omega arith) h) (open_is_for t r L h).1 in
      let off = shut_behind L r less k refl h in
      elim (dec_le (suc r) (end_of t L)) [
        | yes p ↦ absurd (clash (S.open_in (suc r) (omega (arith, (S.open_only r h).0)) p) off)
        | no p ↦ meet r (end_of t L) p (S.open_only r h).1
      ]
    where
      meet : (a b : ℕ) → (suc a ≤ b → ⊥) → a ≤ b → a ≡ b
      meet a b p q = omega arith

  -- a loop that is open before a row is the row's body or lies around it
  pub open_encloses : (r H : ℕ) (l : Loop) (s : List Loop) → r ≤ size t → stack_at t r ≡ l ∷ s → holds H (stack_at t r) ≡ true → Encloses t H l.row
  open_encloses r H l s less q h = go (member_cases H l s (ap (holds H) (sym q) ∙ h))
    where
      hd : Head t r l s
      hd = innermost t ok r less l s q

      go : (l.row ≡ H) ⊎ (holds H s ≡ true) → Encloses t H l.row
      go (inl e) = same (sym e)
      go (inr e) =
          let o : holds H (stack_at t l.row) ≡ true = ap (holds H) hd.around ∙ e in
          let S = span H (open_below r H less h) (open_is_for t r H h).1 in
          let b = S.open_only l.row o in
          inside (open_is_for t r H h).1 b.0 b.1

  -- LOOPS NEST
  pub loops_nest : (L M : ℕ) → M < size t → kind_at t L ≡ 4 → kind_at t M ≡ 4 → L < M → M ≤ end_of t L → end_of t M < end_of t L
  loops_nest L M less kL kM p q =
      let S = span L (omega arith) kL in
      let R = span M less kM in
      let e = end_of t M in
      let z = nonempty M (stack_at t e) (R.open_in e R.below (omega arith)) in
      let H = innermost t ok e (omega (arith, R.inside)) z.0 z.1 z.2 in
      let row : z.0.row ≡ M = sym (body_is t e z.0 z.1 z.2) ∙ R.end_body in
      let s : z.1 ≡ stack_at t M = sym H.around ∙ ap (stack_at t) row in
      let o : holds L (stack_at t e) ≡ true = rw z.2 (member_there L z.0 z.1 (rw s (S.open_in M p q))) in
      let b = S.open_only e o in
      apart e (end_of t L) b.1 (λ w. omega (arith, sym R.end_body ∙ ap (body_of t) w ∙ S.end_body))
    where
      apart : (a b : ℕ) → a ≤ b → a ≢ b → a < b
      apart a b p n = omega arith
