-- What people may rely on of words read with a sign. A value here is `value_of` of a word, and numbers are the library's integers.
-- Main results:
--   word_of_value, value_of_word    no two words have one value, and every number from -2^31 to 2^31 - 1 is one; `value_in_range`: no other is
--   sum_in_range                    a sum of values that is a value comes out; `difference_in_range`, `product_in_range` likewise
--   sign_agrees                     `<` is the order of the values; `more_is_less`, `at_least_is_not_less`, `at_most_is_not_more` and
--                                   `unequal_by_value` tell the other conditions by it
--   quotient_toward_zero            `/=` is the quotient whose remainder is nearer to 0 than the divisor, and is 0 or has the dividend's sign
--   shift_is_floor                  `>>=` is the value divided by the power of two and rounded down, whatever the count
--   quotient_by_zero, least_by_minus_one, far_left_shift, far_right_shift     the rest: what has no quotient, and counts over 31
-- Assumes nothing.
use Rattle.std.specs.Prelude.{◌≡◌, ℕ, zero, suc, ◌+◌, ◌-◌, ◌*◌, ◌/◌, ◌%◌, ◌^◌, ◌<◌, ◌≤◌, Bool, true, false, not, T, ◌⊎◌, ◌↔◌, ℤ, pos, negsuc, ◌+ℤ◌, ◌-ℤ◌, ◌*ℤ◌, neg_ℤ, nat_abs, ◌==◌, ◌≢◌, nat_lt, refl}
use Rattle.std.proofs.Common.{sym, ap, subst, ◌∙◌, inl, inr, arith, lt_of_lt_of_le, lt_of_le_of_lt, mod-lt, div-le_self, div-add-mod', div-mul-le_self, mul-le-mul_left, suc-mul, mul-add, add-mul, mul_comm, eq-eqb, ne_eqb, eqb-true, lt-ltb, le-ltb, ltb-true, ltb-false, pow_pos, pow_mono}
use Rattle.std.proofs.Math.Path.{subst⁻¹}
use Rattle.std.proofs.Math.Nat.{div-eq_of_lt}
use Rattle.std.proofs.Math.IntN.{sub_ℕ, neg_ℤ-+ℤ}
use Rattle.std.specs.Int.Signed.{mag, mag_shr, non_neg, lt_z, quot_z, rem_z, shr_z}
use Rattle.word.specs.Laws.{by_sign, by_signs, at_most_not_more, abs_of_negative}
use Rattle.word.specs.Words.{pick, word_limit, value_of, word_of, flag, sum, difference, product, quotient, shift_right, update, condition}

-- Words and values.

pub word_of_value : (x : ℕ) → x < word_limit → word_of (value_of x) ≡ x
word_of_value x h = by_sign (λ z. word_of z ≡ x) x (λ p. refl) (λ p. omega arith)

-- A number from -2^31 to 2^31 - 1 is a value: `mag` is n both of n and of -(n + 1).
pub value_of_word : (z : ℤ) → mag z < 2147483648 → value_of (word_of z) ≡ z
value_of_word (pos n) h = rw (lt-ltb n 2147483648 h)
value_of_word (negsuc n) h =
    rw (le-ltb (4294967295 - n) 2147483648 (omega arith)) (ap negsuc (omega arith))

pub value_in_range : (x : ℕ) → x < word_limit → mag (value_of x) < 2147483648
value_in_range x h = by_sign (λ z. mag z < 2147483648) x (λ p. p) (λ p. omega arith)

-- A word from 2^31 up has the value that is 2^32 less.
pub value_below_zero : (x : ℕ) → x < word_limit → 2147483648 ≤ x → value_of x +ℤ pos word_limit ≡ pos x
value_below_zero x h p = rw (le-ltb x 2147483648 p, le-ltb word_limit (suc (4294967295 - x)) (omega arith)) (ap pos (omega arith))

pub one_value : (x y : ℕ) → x < word_limit → y < word_limit → value_of x ≡ value_of y → x ≡ y
one_value x y hx hy e = sym (word_of_value x hx) ∙ ap word_of e ∙ word_of_value y hy

-- Sums, differences, products: what is in range comes out.

from_word : (z : ℤ) (w : ℕ) → mag z < 2147483648 → word_of z ≡ w → value_of w ≡ z
from_word z w h e = sym (ap value_of e) ∙ value_of_word z h

-- The word of a - b.
word_of_less : (a b w : ℕ) → (a < b → word_of (negsuc (b - suc a)) ≡ w) → (b ≤ a → a - b ≡ w) → word_of (sub_ℕ a b) ≡ w
word_of_less a b w f g = by (nat_lt a b) refl
  where
    by : (t : Bool) → nat_lt a b ≡ t → word_of (sub_ℕ a b) ≡ w
    by true e = rw e (f (ltb-true a b e))
    by false e = rw e (g (ltb-false a b e))

pub sum_in_range :
    (x y : ℕ) → x < word_limit → y < word_limit → mag (value_of x +ℤ value_of y) < 2147483648 → value_of (update 0 x y) ≡ value_of x +ℤ value_of y
unfolding update
sum_in_range x y hx hy r =
    from_word (value_of x +ℤ value_of y) (sum x y) r
    (by_signs (λ a b. mag (a +ℤ b) < 2147483648 → word_of (a +ℤ b) ≡ sum x y) x y
    (λ p q h. omega arith)
    (λ p q h. word_of_less x (suc (4294967295 - y)) (sum x y) (λ l. omega arith) (λ l. omega arith))
    (λ p q h. word_of_less y (suc (4294967295 - x)) (sum x y) (λ l. omega arith) (λ l. omega arith))
    (λ p q h. omega arith) r)

-- What holds of 0 where n is 0, and of -(k + 1) where n is k + 1, holds of -n.
by_negative {ℓ} : (P : ℤ → Type ℓ) (n : ℕ) → (n ≡ 0 → P (pos 0)) → ((k : ℕ) → n ≡ suc k → P (negsuc k)) → P (neg_ℤ (pos n))
by_negative P zero f g = f refl
by_negative P (suc k) f g = g k refl

pub difference_in_range :
    (x y : ℕ) → x < word_limit → y < word_limit → mag (value_of x -ℤ value_of y) < 2147483648 → value_of (update 1 x y) ≡ value_of x -ℤ value_of y
unfolding update
difference_in_range x y hx hy r =
    from_word (value_of x -ℤ value_of y) (difference x y) r
    (by_signs (λ a b. mag (a -ℤ b) < 2147483648 → word_of (a -ℤ b) ≡ difference x y) x y
    (λ p q. by_negative (λ c. mag (pos x +ℤ c) < 2147483648 → word_of (pos x +ℤ c) ≡ difference x y) y
    (λ e h. omega arith)
    (λ k e h. word_of_less x (suc k) (difference x y) (λ l. omega arith) (λ l. omega arith)))
    (λ p q h. omega arith)
    (λ p q. by_negative (λ c. mag (negsuc (4294967295 - x) +ℤ c) < 2147483648 → word_of (negsuc (4294967295 - x) +ℤ c) ≡ difference x y) y
    (λ e h. word_of_less 0 (suc (4294967295 - x)) (difference x y) (λ l. omega arith) (λ l. omega arith))
    (λ k e h. omega arith))
    (λ p q h. word_of_less (suc (4294967295 - y)) (suc (4294967295 - x)) (difference x y) (λ l. omega arith) (λ l. omega arith)) r)

-- A word and what it is short of 2^32, each times the same number.
short_times : (x k : ℕ) → x < word_limit → x * k + suc (4294967295 - x) * k ≡ k * 4294967296
short_times x k h =
    let e : x + suc (4294967295 - x) ≡ 4294967296 = omega arith in
    sym (add-mul x (suc (4294967295 - x)) k) ∙ ap (λ (n : ℕ). n * k) e ∙ mul_comm 4294967296 k

times_short : (x y : ℕ) → y < word_limit → x * y + x * suc (4294967295 - y) ≡ x * 4294967296
times_short x y h =
    let e : y + suc (4294967295 - y) ≡ 4294967296 = omega arith in
    sym (mul-add x y (suc (4294967295 - y))) ∙ ap (λ (n : ℕ). x * n) e

-- What is short of a multiple of 2^32 by q.
word_short : (p q x w : ℕ) → p + q ≡ x * 4294967296 → p % 4294967296 ≡ w → mag (neg_ℤ (pos q)) < 2147483648 → word_of (neg_ℤ (pos q)) ≡ w
word_short p q x w e f =
    by_negative (λ c. mag c < 2147483648 → word_of c ≡ w) q (λ z h. omega arith) (λ k z h. omega arith)

pub product_in_range :
    (x y : ℕ) → x < word_limit → y < word_limit → mag (value_of x *ℤ value_of y) < 2147483648 → value_of (update 2 x y) ≡ value_of x *ℤ value_of y
unfolding update
product_in_range x y hx hy r =
    from_word (value_of x *ℤ value_of y) (product x y) r
    (by_signs (λ a b. mag (a *ℤ b) < 2147483648 → word_of (a *ℤ b) ≡ product x y) x y
    (λ p q h. omega arith)
    (λ p q. word_short (x * y) (x * suc (4294967295 - y)) x (product x y) (times_short x y hy) refl)
    (λ p q. word_short (x * y) (suc (4294967295 - x) * y) y (product x y) (short_times x y hx) refl)
    (λ p q h. let e = times_short x y hy in let f = short_times x (suc (4294967295 - y)) hx in omega arith) r)

-- Conditions.

-- b is a and something above 0.
abbrev pub Below : ℤ → ℤ → Type 0
Below a b = (k : ℕ) × (a +ℤ pos (suc k) ≡ b)

less_below : (a b : ℤ) → lt_z a b ≡ true → Below a b
less_below (pos a) (pos b) e = let h = ltb-true a b e in (b - suc a, ap pos (omega arith))
less_below (pos a) (negsuc b) e = absurd (subst T (sym e) tt)
less_below (negsuc a) (pos b) e = (a + b, rw (le-ltb (suc (a + b)) (suc a) (omega arith)) (ap pos (omega arith)))
less_below (negsuc a) (negsuc b) e =
    let h = ltb-true b a e in
    (a - suc b, rw (lt-ltb (suc (a - suc b)) (suc a) (omega arith)) (ap negsuc (omega arith)))

-- What is added to a leads above it.
more_is_above : (a : ℤ) (k : ℕ) → lt_z a (a +ℤ pos (suc k)) ≡ true
more_is_above (pos a) k = lt-ltb a (a + suc k) (omega arith)
more_is_above (negsuc a) k = by (nat_lt (suc k) (suc a)) refl
  where
    by : (t : Bool) → nat_lt (suc k) (suc a) ≡ t → lt_z (negsuc a) (sub_ℕ (suc k) (suc a)) ≡ true
    by true e = let h = ltb-true (suc k) (suc a) e in rw e (lt-ltb (suc a - suc (suc k)) a (omega arith))
    by false e = rw e

flag_one : (t : Bool) → flag t ≡ 1 → t ≡ true
flag_one true e = refl
flag_one false e = let no : ⊥ = omega arith in absurd no

-- `<` on words is the order of their values.
pub sign_agrees : (x y : ℕ) → (condition 0 x y ≡ 1) ↔ Below (value_of x) (value_of y)
unfolding condition
sign_agrees x y = (
  λ e. less_below (value_of x) (value_of y) (flag_one (lt_z (value_of x) (value_of y)) e),
  λ b. ap flag (subst (λ z. lt_z (value_of x) z ≡ true) b.1 (more_is_above (value_of x) b.0)),
)

pub more_is_less : (x y : ℕ) → condition 2 x y ≡ condition 0 y x
unfolding condition
more_is_less x y = refl

flag_not : (t : Bool) → flag (not t) ≡ 1 - flag t
flag_not true = refl
flag_not false = refl

pub at_most_is_not_more : (x y : ℕ) → condition 1 x y ≡ 1 - condition 2 x y
unfolding condition
at_most_is_not_more x y = ap flag (at_most_not_more (value_of x) (value_of y)) ∙ flag_not (lt_z (value_of y) (value_of x))

pub at_least_is_not_less : (x y : ℕ) → condition 3 x y ≡ 1 - condition 0 x y
unfolding condition
at_least_is_not_less x y = ap flag (at_most_not_more (value_of y) (value_of x)) ∙ flag_not (lt_z (value_of x) (value_of y))

pub unequal_by_value : (x y : ℕ) → x < word_limit → y < word_limit → (condition 4 x y ≡ 0) ↔ (value_of x ≡ value_of y)
unfolding condition
unequal_by_value x y hx hy = (λ e. ap value_of (same e), λ e. rw (eq-eqb x y (one_value x y hx hy e)))
  where
    by : (t : Bool) → (x == y) ≡ t → flag (not t) ≡ 0 → x ≡ y
    by true e f = eqb-true x y e
    by false e f = omega arith

    same : flag (not (x == y)) ≡ 0 → x ≡ y
    same e = by (x == y) refl e

-- Quotients.

negative_times : (q b : ℕ) → neg_ℤ (pos q) *ℤ pos b ≡ neg_ℤ (pos (q * b))
negative_times zero b = let e : 0 * b ≡ 0 = omega arith in rw e
negative_times (suc q) b = refl

negative_times_negative : (q b : ℕ) → neg_ℤ (pos q) *ℤ negsuc b ≡ pos (q * suc b)
negative_times_negative zero b = let e : 0 * suc b ≡ 0 = omega arith in rw e
negative_times_negative (suc q) b = refl

both_negative : (m n : ℕ) {a : ℕ} → m + n ≡ suc a → neg_ℤ (pos m) +ℤ neg_ℤ (pos n) ≡ negsuc a
both_negative m n e = sym (neg_ℤ-+ℤ (pos m) (pos n)) ∙ ap (λ (k : ℕ). neg_ℤ (pos k)) e

-- The dividend is the quotient times the divisor and the remainder.
divided : (a b : ℤ) → quot_z a b *ℤ b +ℤ rem_z a b ≡ a
divided (pos a) (pos b) = ap pos (div-add-mod' a b)
divided (pos a) (negsuc b) = ap (λ z. z +ℤ pos (a % suc b)) (negative_times_negative (a / suc b) b) ∙ ap pos (div-add-mod' a (suc b))
divided (negsuc a) (pos b) =
    ap (λ z. z +ℤ neg_ℤ (pos (suc a % b))) (negative_times (suc a / b) b) ∙ both_negative (suc a / b * b) (suc a % b) (div-add-mod' (suc a) b)
divided (negsuc a) (negsuc b) = both_negative (suc a / suc b * suc b) (suc a % suc b) (div-add-mod' (suc a) (suc b))

remainder_small : (a b : ℤ) → 0 < nat_abs b → nat_abs (rem_z a b) < nat_abs b
remainder_small (pos a) b h = mod-lt a h
remainder_small (negsuc a) b h = subst⁻¹ (λ (n : ℕ). n < nat_abs b) (abs_of_negative (suc a % nat_abs b)) (mod-lt (suc a) h)

-- A remainder is 0 or has the dividend's sign.
abbrev pub Follows : ℤ → ℤ → Type 0
Follows r a = (r ≡ pos 0) ⊎ (non_neg r ≡ non_neg a)

remainder_follows : (a b : ℤ) → Follows (rem_z a b) a
remainder_follows (pos a) b = inr refl
remainder_follows (negsuc a) b = by (suc a % nat_abs b)
  where
    by : (n : ℕ) → Follows (neg_ℤ (pos n)) (negsuc a)
    by zero = inl refl
    by (suc n) = inr refl

-- A quotient of values is a value, but for that of the least one by -1.
mag_of_negative : (n : ℕ) → n ≤ 2147483648 → mag (neg_ℤ (pos n)) < 2147483648
mag_of_negative zero h = omega arith
mag_of_negative (suc n) h = h

halved : (a b : ℕ) → 2 ≤ b → a ≤ 2147483648 → a / b < 2147483648
halved a b h k = let p = div-mul-le_self a b in let q = mul-le-mul_left (a / b) h in omega arith

quotient_in_range : (a b : ℤ) → mag a < 2147483648 → ((a ≡ negsuc 2147483647) × (b ≡ negsuc 0) → ⊥) → mag (quot_z a b) < 2147483648
quotient_in_range (pos a) (pos b) h n = let q = div-le_self a b in omega arith
quotient_in_range (pos a) (negsuc b) h n = let q = div-le_self a (suc b) in mag_of_negative (a / suc b) (omega arith)
quotient_in_range (negsuc a) (pos b) h n = let q = div-le_self (suc a) b in mag_of_negative (suc a / b) (omega arith)
quotient_in_range (negsuc a) (negsuc zero) h n = by (nat_lt a 2147483647) refl
  where
    by : (t : Bool) → nat_lt a 2147483647 ≡ t → suc a / 1 < 2147483648
    by true e = let k = ltb-true a 2147483647 e in let q = div-le_self (suc a) 1 in omega arith
    by false e = let k = ltb-false a 2147483647 e in absurd (n (ap negsuc (omega arith), refl))
quotient_in_range (negsuc a) (negsuc (suc b)) h n = halved (suc a) (suc (suc b)) (omega arith) h

-- `/=` rounds toward zero. The one quotient that is no value is in `least_by_minus_one`.
pub quotient_toward_zero :
    (x y : ℕ) → x < word_limit → y < word_limit → (y ≢ 0) → ((x ≡ 2147483648) × (y ≡ 4294967295) → ⊥)
    → (r : ℤ) × (value_of x ≡ value_of (update 3 x y) *ℤ value_of y +ℤ r) × (nat_abs r < nat_abs (value_of y)) × Follows r (value_of x)
unfolding update
quotient_toward_zero x y hx hy n w = (
  rem_z (value_of x) (value_of y),
  sym (ap (λ z. z *ℤ value_of y +ℤ rem_z (value_of x) (value_of y)) found ∙ divided (value_of x) (value_of y)),
  remainder_small (value_of x) (value_of y) some,
  remainder_follows (value_of x) (value_of y),
)
  where
    some : 0 < nat_abs (value_of y)
    some = by_sign (λ z. 0 < nat_abs z) y (λ p. omega arith) (λ p. omega arith)

    wrap : (value_of x ≡ negsuc 2147483647) × (value_of y ≡ negsuc 0) → ⊥
    wrap e = w (sym (word_of_value x hx) ∙ ap word_of e.0, sym (word_of_value y hy) ∙ ap word_of e.1)

    found : value_of (quotient x y) ≡ quot_z (value_of x) (value_of y)
    found = rw (ne_eqb y 0 n) (value_of_word (quot_z (value_of x) (value_of y)) (quotient_in_range (value_of x) (value_of y) (value_in_range x hx) wrap))

pub quotient_by_zero : (x : ℕ) → update 3 x 0 ≡ 0
unfolding update
quotient_by_zero x = refl

pub least_by_minus_one : update 3 2147483648 4294967295 ≡ 2147483648
unfolding update
least_by_minus_one = refl

-- Shifts.

-- The value is what the shift leaves times the divisor, and something below the divisor: rounded down.
floored : (z : ℤ) (m : ℕ) → 0 < m → (r : ℕ) × (r < m) × (z ≡ shr_z z m *ℤ pos m +ℤ pos r)
floored (pos a) m h = (a % m, mod-lt a h, ap pos (sym (div-add-mod' a m)))
floored (negsuc a) m h =
    let l : a % m < m = mod-lt a h in
    let d : a / m * m + a % m ≡ a = div-add-mod' a m in
    let s : suc (a / m) * m ≡ a / m * m + m = suc-mul (a / m) m in
    (m - suc (a % m), omega arith, sym (lifted (suc (a / m) * m) (m - suc (a % m)) (omega arith)))
  where
    -- -n and r less than n are -(n - r).
    lifted : (n r : ℕ) → n ≡ suc (a + r) → neg_ℤ (pos n) +ℤ pos r ≡ negsuc a
    lifted n r e = rw (e, lt-ltb r (suc (a + r)) (omega arith)) (ap negsuc (omega arith))

-- Whatever the count, a right shift is by its power of two: past 32 places no value has anything left.
shift_by_power : (x places : ℕ) → x < word_limit → word_of (shr_z (value_of x) (2 ^ pick (nat_lt places 32) places 32)) ≡ word_of (shr_z (value_of x) (2 ^ places))
shift_by_power x k h = by (nat_lt k 32) refl
  where
    all : (a : ℕ) → a < word_limit → 32 ≤ k → a / 2 ^ 32 ≡ a / 2 ^ k
    all a l p = let m = pow_mono p in div-eq_of_lt l ∙ sym (div-eq_of_lt (lt_of_lt_of_le l m))

    by : (t : Bool) → nat_lt k 32 ≡ t → word_of (shr_z (value_of x) (2 ^ pick t k 32)) ≡ word_of (shr_z (value_of x) (2 ^ k))
    by true e = refl
    by false e =
        by_sign (λ z. word_of (shr_z z (2 ^ 32)) ≡ word_of (shr_z z (2 ^ k))) x
        (λ p. all x h (ltb-false k 32 e))
        (λ p. ap (λ (n : ℕ). 4294967295 - n) (all (4294967295 - x) (omega arith) (ltb-false k 32 e)))

-- `>>=` divides the value by 2^places and rounds down.
pub shift_is_floor :
    (x places : ℕ) → x < word_limit
    → (r : ℕ) × (r < 2 ^ places) × (value_of x ≡ value_of (update 5 x places) *ℤ pos (2 ^ places) +ℤ pos r)
unfolding update
shift_is_floor x k h =
    let f = floored (value_of x) (2 ^ k) (pow_pos k) in
    (f.0, f.1, f.2 ∙ ap (λ z. z *ℤ pos (2 ^ k) +ℤ pos f.0) (sym found))
  where
    found : value_of (shift_right x k) ≡ shr_z (value_of x) (2 ^ k)
    found =
        ap value_of (shift_by_power x k h) ∙
        value_of_word (shr_z (value_of x) (2 ^ k)) (lt_of_le_of_lt (mag_shr (value_of x) (2 ^ k)) (value_in_range x h))

-- Counts over 31.
pub far_left_shift : (x places : ℕ) → 32 ≤ places → update 4 x places ≡ 0
unfolding update
far_left_shift x k h = rw (le-ltb k 32 h)

pub far_right_shift : (x places : ℕ) → x < word_limit → 32 ≤ places → update 5 x places ≡ pick (nat_lt x 2147483648) 0 4294967295
unfolding update
far_right_shift x k l h = rw (le-ltb k 32 h) (by (nat_lt x 2147483648))
  where
    by : (t : Bool) → word_of (shr_z (pick t (pos x) (negsuc (4294967295 - x))) (2 ^ 32)) ≡ pick t 0 4294967295
    by true = omega arith
    by false = omega arith
