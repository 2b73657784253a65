-- The signs that the code works out on words, against the values.
-- Main results: `below_found`, `at_most_found` (words with their sign bits turned are ordered as their values), `sign_told`, `near`, `far`, `minus`
-- (sign, magnitude, negative), `divisor`, `signs_apart`, `signs_alike` (a quotient is the magnitudes' with a sign), `shift_positive`, `shift_negative`.
-- Assumes nothing.
use Rattle.std.proofs.Common.{◌≡◌, ℕ, zero, suc, ◌+◌, ◌-◌, ◌/◌, ◌%◌, ◌<◌, ◌≤◌, Bool, true, false, not, T, ltb, leb, ℤ, pos, negsuc, neg_ℤ, nat_abs, sym, refl, ap, ◌∙◌, subst, add-one, arith, ltb-false, ltb-true, le-ltb, lt-ltb, ne_eqb, le-leb}
use mathlib.Core.Bool.{beq}
use mathlib.Core.Path.{subst⁻¹}
use borrow.Author.Tests.{lt-leb}
use lib.Signed.{lt_z, le_z, non_neg, quot_z, shr_z}
use Rattle.word.specs.Laws.{by_sign, by_signs, le_not_lt, at_most_not_more}
use Rattle.word.specs.Words.{word_limit, value_of, word_of, sum, quotient}

-- Two tests agree where each answer of the first forces that of the second.
same_lt : (a b c d : ℕ) → (a < b → c < d) → (b ≤ a → d ≤ c) → ltb a b ≡ ltb c d
same_lt a b c d f g = by (ltb a b) refl
  where
    by : (t : Bool) → ltb a b ≡ t → t ≡ ltb c d
    by true e = sym (lt-ltb c d (f (ltb-true a b e)))
    by false e = sym (le-ltb c d (g (ltb-false a b e)))

-- A word with its sign bit turned.
abbrev turned : ℕ → ℕ
turned x = sum x 2147483648

below_turned : (x y : ℕ) → x < word_limit → y < word_limit → ltb (turned x) (turned y) ≡ lt_z (value_of x) (value_of y)
below_turned x y hx hy =
    by_signs (λ a b. ltb (turned x) (turned y) ≡ lt_z a b) x y
    (λ p q. same_lt (turned x) (turned y) x y (λ h. omega arith) (λ h. omega arith))
    (λ p q. le-ltb (turned x) (turned y) (omega arith))
    (λ p q. lt-ltb (turned x) (turned y) (omega arith))
    (λ p q. same_lt (turned x) (turned y) (4294967295 - y) (4294967295 - x) (λ h. omega arith) (λ h. omega arith))

-- The same of what the code has turned.
module _ (x y : ℕ) (hx : x < word_limit) (hy : y < word_limit) {a b : ℕ} (ha : a ≡ turned x) (hb : b ≡ turned y) where
  pub below_found : ltb a b ≡ lt_z (value_of x) (value_of y)
  below_found = ap (λ (k : ℕ). ltb k b) ha ∙ ap (λ (k : ℕ). ltb (turned x) k) hb ∙ below_turned x y hx hy

pub at_most_found :
    (x y : ℕ) → x < word_limit → y < word_limit → {a b : ℕ} → a ≡ turned x → b ≡ turned y → leb a b ≡ le_z (value_of x) (value_of y)
at_most_found x y hx hy {a} {b} ha hb =
    le_not_lt a b ∙ ap not (below_found y x hy hx hb ha) ∙ sym (at_most_not_more (value_of x) (value_of y))

-- A word's sign.
pub sign_told : (x : ℕ) → leb 2147483648 x ≡ not (non_neg (value_of x))
sign_told x = by_sign (λ z. leb 2147483648 x ≡ not (non_neg z)) x (λ p. lt-leb 2147483648 x p) (λ p. le-leb 2147483648 x p)

-- A word's distance from 0.
pub near : (x : ℕ) → x < 2147483648 → x ≡ nat_abs (value_of x)
near x h = sym (rw (lt-ltb x 2147483648 h))

pub far : (x : ℕ) → 2147483648 ≤ x → 4294967295 - x + 1 ≡ nat_abs (value_of x)
far x h = sym (simp (le-ltb x 2147483648 h, add-one))

-- The word that comes round to 0 with q is that of -q.
pub minus : (q r : ℕ) → r < word_limit → q < word_limit → (r + q) % word_limit ≡ 0 → r ≡ word_of (neg_ℤ (pos q))
minus zero r hr hq e = omega arith
minus (suc k) r hr hq e = omega arith

-- A quotient is that of the magnitudes, with a sign where the signs differ.
alike : (a b : ℤ) → beq (not (non_neg a)) (not (non_neg b)) ≡ true → nat_abs a / nat_abs b ≡ word_of (quot_z a b)
alike (pos a) (pos b) e = refl
alike (pos a) (negsuc b) e = absurd (subst T (sym e) tt)
alike (negsuc a) (pos b) e = absurd (subst T (sym e) tt)
alike (negsuc a) (negsuc b) e = refl

apart : (a b : ℤ) → beq (not (non_neg a)) (not (non_neg b)) ≡ false → word_of (neg_ℤ (pos (nat_abs a / nat_abs b))) ≡ word_of (quot_z a b)
apart (pos a) (pos b) e = absurd (subst T e tt)
apart (pos a) (negsuc b) e = refl
apart (negsuc a) (pos b) e = refl
apart (negsuc a) (negsuc b) e = absurd (subst T e tt)

-- A divisor that is not 0 has a magnitude b.
pub divisor : (y : ℕ) → (y ≡ 0 → ⊥) → {b : ℕ} → b ≡ nat_abs (value_of y) → 0 < b
divisor y n e = subst⁻¹ (λ (k : ℕ). 0 < k) e (by_sign (λ z. 0 < nat_abs z) y (λ p. omega arith) (λ p. omega arith))

-- The quotient of what the code has found: the signs s and t, the magnitudes a and b.
module _ (x y : ℕ) (n : y ≡ 0 → ⊥) {s t : Bool} {a b : ℕ} (hs : s ≡ not (non_neg (value_of x))) (ht : t ≡ not (non_neg (value_of y))) (ha : a ≡ nat_abs (value_of x)) (hb : b ≡ nat_abs (value_of y)) where
  same_signs : {u : Bool} → beq s t ≡ u → beq (not (non_neg (value_of x))) (not (non_neg (value_of y))) ≡ u
  same_signs e = sym (ap (λ (k : Bool). beq k t) hs ∙ ap (λ (k : Bool). beq (not (non_neg (value_of x))) k) ht) ∙ e

  magnitudes : a / b ≡ nat_abs (value_of x) / nat_abs (value_of y)
  magnitudes = ap (λ (k : ℕ). k / b) ha ∙ ap (λ (k : ℕ). nat_abs (value_of x) / k) hb

  pub signs_apart : beq s t ≡ false → word_of (neg_ℤ (pos (a / b))) ≡ quotient x y
  signs_apart e =
      ap (λ (k : ℕ). word_of (neg_ℤ (pos k))) magnitudes ∙ apart (value_of x) (value_of y) (same_signs e) ∙ sym (rw (ne_eqb y 0 n))

  pub signs_alike : beq s t ≡ true → a / b ≡ quotient x y
  signs_alike e = magnitudes ∙ alike (value_of x) (value_of y) (same_signs e) ∙ sym (rw (ne_eqb y 0 n))

-- A right shift by the sign s.
module _ (x m : ℕ) {s : Bool} (hs : s ≡ not (non_neg (value_of x))) where
  pub shift_positive : s ≡ false → x / m ≡ word_of (shr_z (value_of x) m)
  shift_positive e =
      by_sign (λ z. s ≡ not (non_neg z) → x / m ≡ word_of (shr_z z m)) x
      (λ p h. refl) (λ p h. absurd (subst T (sym h ∙ e) tt)) hs

  pub shift_negative : s ≡ true → 4294967295 - (4294967295 - x) / m ≡ word_of (shr_z (value_of x) m)
  shift_negative e =
      by_sign (λ z. s ≡ not (non_neg z) → 4294967295 - (4294967295 - x) / m ≡ word_of (shr_z z m)) x
      (λ p h. absurd (subst T (sym e ∙ h) tt)) (λ p h. refl) hs
