-- The innermost open loop before a row: its FOR row, the loops around it, its ARGs directly behind the FOR, its NEXTs directly before the row.
-- Main names: `Head` (what is known of the innermost loop), `innermost` (it holds before every row of a right table).
-- The idea: by induction along the scan, kind by kind. END is the only kind that uncovers another loop, and what is known of that one
-- was known before the FOR that covered it.
-- Assumes nothing.
use Prim.Native.Nat.{ℕ, zero, suc, ◌+◌, ◌<◌, ◌≤◌}
use Rattle.std.specs.Prelude.{true, ◌≢◌, ◌⊎◌, refl}
use mathlib.Core.List.{List, [], ◌∷◌}
use Rattle.std.proofs.Common.{inl, inr, sym, ap, ◌∙◌, subst, subst₂, arith, ltb-true}
use Rattle.std.proofs.Math.Path.{◌≡◌}
use Rattle.std.proofs.Math.Decide.{ℕ_discrete}
use Rattle.table.specs.Rows.{kind_at, size}
use Rattle.table.specs.Scan.{Loop, opened, one_arg, one_next, at_head, outward, stack_at}
use Rattle.table.specs.Check.{kind_before, arg_left}
use Rattle.table.specs.Kept.{entry_of}
use Rattle.table.specs.Right.{RowRight, TableRight}
use Rattle.structure.specs.Place.{behind_next, arg_behind, next_has_arg, Move, opens, counts, serves, closes, stays, move, stack_opens, stack_arg, stack_next, stack_closes, stack_stays}

-- the loops before row r are l and, around it, s
pub record Head (t : List ℕ) (r : ℕ) (l : Loop) (s : List Loop) : Type 0 where
  pub is_for_lem : kind_at t l.row ≡ 4
  pub around : stack_at t l.row ≡ s
  -- the rows directly behind FOR are its ARGs, as many as were counted
  pub arg_rows_lem : (a : ℕ) → l.row < a → a ≤ l.row + l.args → kind_at t a ≡ 5
  pub shut : suc (l.row + l.args) < r → kind_at t (suc (l.row + l.args)) ≢ 5
  pub header : (kind_before t r ≡ 4) ⊎ (kind_before t r ≡ 5) → r ≡ suc (l.row + l.args)
  -- the rows directly before r are its NEXTs, as many as were counted
  pub served : l.nexts ≤ l.args
  pub nexts_in_lem : l.row + l.args + l.nexts < r
  pub next_rows : (x j : ℕ) → x + l.nexts ≡ r + j → j < l.nexts → (kind_at t x ≡ 6) × (stack_at t x ≡ entry_of l.row l.args j ∷ s)

not_both : {a b : Type 0} → (a → ⊥) → (b → ⊥) → a ⊎ b → ⊥
not_both p q (inl x) = p x
not_both p q (inr x) = q x

module _ (t : List ℕ) where
  before_suc : (r x : ℕ) → r ≡ suc x → kind_before t r ≡ kind_at t x
  before_suc r x e = rw e

  -- a loop has NEXTs only directly behind one
  no_nexts : (r : ℕ) (l : Loop) (s : List Loop) → Head t r l s → kind_before t r ≢ 6 → l.nexts ≡ 0
  no_nexts r l s h n = go l.nexts refl
    where
      last : (r k m : ℕ) → m < r → m ≡ suc k → (x : ℕ) × (r ≡ suc x) × (x + m ≡ r + k)
      last zero k m p e = absurd (omega arith)
      last (suc x) k m p e = (x, refl, omega arith)

      go : (m : ℕ) → l.nexts ≡ m → l.nexts ≡ 0
      go zero e = e
      go (suc k) e =
          let p = h.nexts_in_lem in
          let y = last r k l.nexts (omega arith) e in
          absurd (n (before_suc r y.0 y.1 ∙ (h.next_rows y.0 k y.2 (omega arith)).0))

  -- FOR
  by_for_lem : (r : ℕ) → kind_at t r ≡ 4 → Head t (suc r) (opened r) (stack_at t r)
  by_for_lem r e =
      record {
        is_for_lem = e;
        around = refl;
        arg_rows_lem = λ a p q. absurd (omega arith);
        shut = λ p. absurd (omega arith);
        header = λ p. omega arith;
        served = omega arith;
        nexts_in_lem = omega arith;
        next_rows = λ x j p q. absurd (omega arith);
      }

  -- ARG
  by_arg : (r : ℕ) (l : Loop) (s : List Loop) → RowRight t r → kind_at t r ≡ 5 → Head t r l s → Head t (suc r) (one_arg l) s
  by_arg r l s ok e h =
      let at : r ≡ suc (l.row + l.args) = h.header (arg_behind t r ok e) in
      let z : l.nexts ≡ 0 = no_nexts r l s h (λ k. not_next (arg_behind t r ok e) k) in
      record {
        is_for_lem = h.is_for_lem;
        around = h.around;
        arg_rows_lem = λ a p q. elim (ℕ_discrete a r) [ yes y ↦ rw y e | no y ↦ h.arg_rows_lem a p (under a at y q) ];
        shut = λ p. absurd (omega arith);
        header = λ p. omega arith;
        served = omega arith;
        nexts_in_lem = omega arith;
        next_rows = λ x j p q. absurd (omega arith);
      }
    where
      not_next : (kind_before t r ≡ 4) ⊎ (kind_before t r ≡ 5) → kind_before t r ≡ 6 → ⊥
      not_next (inl a) b = omega arith
      not_next (inr a) b = omega arith

      under : (a : ℕ) → r ≡ suc (l.row + l.args) → a ≢ r → a ≤ l.row + (l.args + 1) → a ≤ l.row + l.args
      under a e n q = omega arith

  -- NEXT
  by_next : (r : ℕ) (l : Loop) (s : List Loop) → stack_at t r ≡ l ∷ s → kind_at t r ≡ 6 → l.nexts < l.args → Head t r l s → Head t (suc r) (one_next l) s
  by_next r l s es e left h =
      record {
        is_for_lem = h.is_for_lem;
        around = h.around;
        arg_rows_lem = h.arg_rows_lem;
        shut = λ p. elim (ℕ_discrete (suc (l.row + l.args)) r) [ yes y ↦ (λ z. differ y z) | no y ↦ h.shut (under y p) ];
        header = λ p. absurd (not_both (λ z. wrong4 z) (λ z. wrong5 z) p);
        served = omega arith;
        nexts_in_lem = omega (arith, h.nexts_in_lem);
        next_rows = λ x j p q. elim (ℕ_discrete j l.nexts) [ yes y ↦ this x j p y | no y ↦ h.next_rows x j (shift x j p) (below j y q) ];
      }
    where
      differ : suc (l.row + l.args) ≡ r → kind_at t (suc (l.row + l.args)) ≡ 5 → ⊥
      differ y z = let q : kind_at t r ≡ 5 = subst (λ (a : ℕ). kind_at t a ≡ 5) y z in omega arith

      under : suc (l.row + l.args) ≢ r → suc (l.row + l.args) < suc r → suc (l.row + l.args) < r
      under y p = omega arith

      wrong4 : kind_at t r ≡ 4 → ⊥
      wrong4 z = omega arith

      wrong5 : kind_at t r ≡ 5 → ⊥
      wrong5 z = omega arith

      shift : (x j : ℕ) → x + (l.nexts + 1) ≡ suc r + j → x + l.nexts ≡ r + j
      shift x j p = omega arith

      below : (j : ℕ) → j ≢ l.nexts → j < l.nexts + 1 → j < l.nexts
      below j y q = omega arith

      this : (x j : ℕ) → x + (l.nexts + 1) ≡ suc r + j → j ≡ l.nexts → (kind_at t x ≡ 6) × (stack_at t x ≡ entry_of l.row l.args j ∷ s)
      this x j p y = let q : x ≡ r = omega arith in (rw q e, rw (q, y) es)

  -- a row that leaves the stack alone
  by_other : (r : ℕ) (l : Loop) (s : List Loop) → RowRight t r → kind_at t r ≢ 4 → kind_at t r ≢ 5 → kind_at t r ≢ 6 → kind_at t r ≢ 7 → Head t r l s → Head t (suc r) l s
  by_other r l s ok n4 n5 n6 n7 h =
      let z : l.nexts ≡ 0 = no_nexts r l s h (λ b. not_both n6 n7 (behind_next t r ok b)) in
      record {
        is_for_lem = h.is_for_lem;
        around = h.around;
        arg_rows_lem = h.arg_rows_lem;
        shut = λ p. elim (ℕ_discrete (suc (l.row + l.args)) r) [ yes y ↦ (λ z. n5 (subst (λ (a : ℕ). kind_at t a ≡ 5) y z)) | no y ↦ h.shut (under y p) ];
        header = λ p. absurd (not_both n4 n5 p);
        served = h.served;
        nexts_in_lem = omega (arith, h.nexts_in_lem);
        next_rows = λ x j p q. absurd (omega arith);
      }
    where
      under : suc (l.row + l.args) ≢ r → suc (l.row + l.args) < suc r → suc (l.row + l.args) < r
      under y p = omega arith

  -- END uncovers a loop l, of which all was known before the FOR at row b that covered it
  by_end_lem : (r b : ℕ) (l : Loop) (s : List Loop) → RowRight t b → kind_at t b ≡ 4 → b < r → kind_at t r ≡ 7 → Head t b l s → Head t (suc r) l s
  by_end_lem r b l s ok eb less e h =
      let z : l.nexts ≡ 0 = no_nexts b l s h (λ k. not_both (λ q. omega arith) (λ q. omega arith) (behind_next t b ok k)) in
      record {
        is_for_lem = h.is_for_lem;
        around = h.around;
        arg_rows_lem = h.arg_rows_lem;
        shut = λ p. elim (ℕ_discrete (suc (l.row + l.args)) b) [ yes y ↦ (λ z. differ y z) | no y ↦ h.shut (under y h.nexts_in_lem) ];
        header = λ p. absurd (not_both (λ z. wrong4 z) (λ z. wrong5 z) p);
        served = h.served;
        nexts_in_lem = omega (arith, h.nexts_in_lem);
        next_rows = λ x j p q. absurd (omega arith);
      }
    where
      differ : suc (l.row + l.args) ≡ b → kind_at t (suc (l.row + l.args)) ≡ 5 → ⊥
      differ y z = let q : kind_at t b ≡ 5 = subst (λ (a : ℕ). kind_at t a ≡ 5) y z in omega arith

      under : suc (l.row + l.args) ≢ b → l.row + l.args + l.nexts < b → suc (l.row + l.args) < b
      under y p = omega arith

      wrong4 : kind_at t r ≡ 4 → ⊥
      wrong4 z = omega arith

      wrong5 : kind_at t r ≡ 5 → ⊥
      wrong5 z = omega arith

  -- the head and the tail of a stack that is known
  pub as_known : (r : ℕ) {l k : Loop} {s z : List Loop} → k ∷ z ≡ l ∷ s → Head t r k z → Head t r l s
  as_known r {l} {k} {s} {z} e h = let p : k ≡ l = cc in let q : z ≡ s = cc in subst₂ (λ (a : Loop) (b : List Loop). Head t r a b) p q h

  pub left_over : (l : Loop) (s : List Loop) {z : List Loop} → z ≡ l ∷ s → arg_left z ≡ true → l.nexts < l.args
  left_over l s e h = ltb-true l.nexts l.args (rw e at h)

module _ (t : List ℕ) (ok : TableRight t) where
  step : (r : ℕ) → suc r ≤ size t → ((x : ℕ) → x ≤ r → (l : Loop) (s : List Loop) → stack_at t x ≡ l ∷ s → Head t x l s)
      → (l : Loop) (s : List Loop) → stack_at t (suc r) ≡ l ∷ s → Move (kind_at t r) → Head t (suc r) l s
  step r less IH l s e (opens k) = as_known t (suc r) (sym (stack_opens t r k) ∙ e) (by_for_lem t r k)
  step r less IH l s e (counts k) = go (stack_at t r) refl
    where
      go : (z : List Loop) → stack_at t r ≡ z → Head t (suc r) l s
      go [] q = let w : ◌≡◌ {A = ℕ} 0 1 = cc (stack_arg t r k, ap (at_head one_arg) q) in absurd (omega arith)
      go (l₀ ∷ s₀) q =
          as_known t (suc r) (ap (at_head one_arg) (sym q) ∙ sym (stack_arg t r k) ∙ e) (by_arg t r l₀ s₀ (ok.row r less) k (IH r (omega arith) l₀ s₀ q))
  step r less IH l s e (serves k) = go (stack_at t r) refl
    where
      go : (z : List Loop) → stack_at t r ≡ z → Head t (suc r) l s
      go [] q = let w : ◌≡◌ {A = ℕ} 0 1 = cc (stack_next t r k, ap (at_head one_next) q) in absurd (omega arith)
      go (l₀ ∷ s₀) q =
          as_known t (suc r) (ap (at_head one_next) (sym q) ∙ sym (stack_next t r k) ∙ e)
          (by_next t r l₀ s₀ q k (left_over t l₀ s₀ q (next_has_arg t r (ok.row r less) k)) (IH r (omega arith) l₀ s₀ q))
  step r less IH l s e (closes k) = go (stack_at t r) refl
    where
      go : (z : List Loop) → stack_at t r ≡ z → Head t (suc r) l s
      go [] q = let w : ◌≡◌ {A = ℕ} 0 1 = cc (stack_closes t r k, ap outward q) in absurd (omega arith)
      go (l₀ ∷ s₀) q =
          let h = IH r (omega arith) l₀ s₀ q in
          let below : l₀.row < r = omega (arith, h.nexts_in_lem) in
          by_end_lem t r l₀.row l s (ok.row l₀.row (omega arith)) h.is_for_lem below k
          (IH l₀.row (omega arith) l s (h.around ∙ ap outward (sym q) ∙ sym (stack_closes t r k) ∙ e))
  step r less IH l s e (stays n4 n5 n6 n7) =
      by_other t r l s (ok.row r less) n4 n5 n6 n7 (IH r (omega arith) l s (sym (stack_stays t r n4 n5 n6 n7) ∙ e))

  -- the first row has no loop before it; a later one by the step
  by_row : (m r : ℕ) → r ≤ suc m → r ≤ size t → ((x : ℕ) → x ≤ m → x ≤ size t → (l : Loop) (s : List Loop) → stack_at t x ≡ l ∷ s → Head t x l s)
      → (l : Loop) (s : List Loop) → stack_at t r ≡ l ∷ s → Head t r l s
  unfolding stack_at
  by_row m zero p q IH l s e = let w : ◌≡◌ {A = ℕ} 0 1 = cc in absurd (omega arith)
  by_row m (suc r) p q IH l s e = step r q (λ x h. IH x (omega arith) (omega arith)) l s e (move (kind_at t r))

  up_to : (m r : ℕ) → r ≤ m → r ≤ size t → (l : Loop) (s : List Loop) → stack_at t r ≡ l ∷ s → Head t r l s
  unfolding stack_at
  up_to zero r p q = by_row 0 r (omega arith) q (λ x h g l s e. none x (omega arith) l s e)
    where
      none : (x : ℕ) → x ≡ 0 → (l : Loop) (s : List Loop) → stack_at t x ≡ l ∷ s → Head t x l s
      none x z l s e = let f : [] ≡ l ∷ s = rw z at e in let w : ◌≡◌ {A = ℕ} 0 1 = cc in absurd (omega arith)
  up_to (suc m) r p q = by_row m r p q (up_to m)

  -- THE INNERMOST LOOP, before every row
  pub innermost : (r : ℕ) → r ≤ size t → (l : Loop) (s : List Loop) → stack_at t r ≡ l ∷ s → Head t r l s
  innermost r q l s e = up_to r r (omega arith) q l s e
