-- A turn, the list, a sweep and all sweeps, one step at a time, as the code's loops go.
-- Assumes nothing.
use Prim.Native.Nat.{ℕ, zero, suc, ◌+◌, ◌-◌, ◌<◌, ◌≤◌}
use mathlib.Core.Path.{◌≡◌, refl, sym, ap, ◌∙◌}
use mathlib.Core.Bool.{Bool, true, false}
use mathlib.Core.List.{List, [], ◌∷◌}
use mathlib.Core.Option.{Option, none, some}
use native.Mathlib.Omega.{arith}
use native.Mathlib.Numerals.{add-one}
use borrow.Author.Tests.{eq-eqb, ne_eqb}
use lib.ListN.{get_or, length, drop}
use lib.Seq.{drop-cons}
use Rattle.state.specs.Net.{Net, fire, is_ready, or_else}
use Rattle.state.specs.Run.{At, turned, turn, follow, sweep_from, sweep, sweeps}
use Rattle.run.specs.Entry.{at}

-- ---- a turn

module _ (N : Net) (i : ℕ) (s : List ℕ) where
  spent : (o : Option (List ℕ)) → at s 0 ≡ turned o s 0
  spent none = refl
  spent (some a) = refl

  pub turn_spent : {left : ℕ} → left ≡ 0 → at s left ≡ turn N i (at s left)
  unfolding turn
  turn_spent e = rw e (spent (fire N i s))

  made : (o : Option (List ℕ)) (l : ℕ) {t : Bool} {a : List ℕ} → t ≡ is_ready o → t ≡ true → a ≡ or_else o s → at a l ≡ turned o s (suc l)
  made none l e t h = let z : ◌≡◌ {A = ℕ} 0 1 = cc in absurd (omega arith)
  made (some b) l e t h = ap (λ (x : List ℕ). at x l) h

  pub turn_made_lem : {left : ℕ} {t : Bool} {a : List ℕ} → (left ≡ 0 → ⊥) → (t ≡ is_ready (fire N i s)) × (a ≡ or_else (fire N i s) s) → t ≡ true
      → at a (left - 1) ≡ turn N i (at s left)
  unfolding turn
  turn_made_lem {left = left} n p t =
      let e : left ≡ suc (left - 1) = omega arith in
      made (fire N i s) (left - 1) p.0 t p.1 ∙ ap (λ (l : ℕ). turned (fire N i s) s l) (sym e)

  missed : (o : Option (List ℕ)) (l : ℕ) {t : Bool} {a : List ℕ} → t ≡ is_ready o → t ≡ false → a ≡ or_else o s → at a l ≡ turned o s l
  missed none l e t h = ap (λ (x : List ℕ). at x l) h
  missed (some b) l e t h = let z : ◌≡◌ {A = ℕ} 0 1 = cc in absurd (omega arith)

  pub turn_missed : {left : ℕ} {t : Bool} {a : List ℕ} → (t ≡ is_ready (fire N i s)) × (a ≡ or_else (fire N i s) s) → t ≡ false → at a left ≡ turn N i (at s left)
  unfolding turn
  turn_missed {left = left} p t = missed (fire N i s) left p.0 t p.1

  pub turn_waited : {left : ℕ} → fire N i s ≡ none → at s left ≡ turn N i (at s left)
  turn_waited q = turn_missed {t = false} {a = s} (sym (ap is_ready q), sym (ap (λ (o : Option (List ℕ)). or_else o s) q)) refl

-- ---- the list

module _ (N : Net) (order : List ℕ) (k : ℕ) (p : At) where
  pub follow_go : k < length order → follow N (drop k order) p ≡ follow N (drop (k + 1) order) (turn N (get_or order k 0) p)
  unfolding follow
  follow_go h = rw (add-one k, drop-cons order k 0 h)

  pub follow_end : length order ≤ k → follow N (drop k order) p ≡ p
  unfolding follow
  follow_end h = ap (λ (l : List ℕ). follow N l p) (past order k h)
    where
      past : (l : List ℕ) (k : ℕ) → length l ≤ k → drop k l ≡ []
      past [] zero h = refl
      past [] (suc k) h = refl
      past (x ∷ l) zero h = absurd (omega arith)
      past (x ∷ l) (suc k) h = past l k (omega arith)

-- ---- a sweep

module _ (N : Net) (n i : ℕ) (p : At) where
  less : i < n → n - i ≡ suc (n - (i + 1))
  less h = omega arith

  pub sweep_go : i < n → sweep_from N (n - i) i p ≡ sweep_from N (n - (i + 1)) (i + 1) (turn N i p)
  unfolding sweep_from
  sweep_go h = rw (less h)

  pub sweep_end : n ≤ i → sweep_from N (n - i) i p ≡ p
  unfolding sweep_from
  sweep_end h = let z : n - i ≡ 0 = omega arith in rw z

-- ---- all sweeps: fuel is at least what is left

module _ (N : Net) (n : ℕ) (p q : At) where
  abbrev after : ℕ → Bool → At
  after f b = elim b [ true ↦ sweep N n p | false ↦ sweeps N f n (sweep N n p) ]

  pub sweeps_stop : (f : ℕ) → q ≡ sweep N n p → q.left ≡ p.left → sweeps N (suc f) n p ≡ q
  unfolding sweeps
  sweeps_stop f e t = ap (after f) (eq-eqb (sweep N n p).left p.left (ap (λ (a : At). a.left) (sym e) ∙ t)) ∙ sym e

  once : (f : ℕ) → q ≡ sweep N n p → (q.left ≡ p.left → ⊥) → sweeps N (suc f) n p ≡ sweeps N f n q
  unfolding sweeps
  once f e t =
      ap (after f) (ne_eqb (sweep N n p).left p.left (λ z. t (ap (λ (a : At). a.left) e ∙ z))) ∙ ap (sweeps N f n) (sym e)

  pub sweeps_go : (f : ℕ) → 0 < f → q ≡ sweep N n p → (q.left ≡ p.left → ⊥) → sweeps N (suc f) n p ≡ sweeps N (suc (f - 1)) n q
  sweeps_go f h e t = let z : suc (f - 1) ≡ f = omega arith in rw z (once f e t)
