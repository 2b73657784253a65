-- What crates above may know of words: which answers are flags, which are words, what a code beyond its list gives,
-- and that the operators from code 3 on are the conditions. Crates above cite these laws and leave the definitions shut; what holds of the values is
-- in `Values`. `by_sign`, `by_signs`, `at_most_not_more` and `abs_of_negative`, of integers, serve both and the proofs of the code.
-- Main results: `condition_flag`, `update_word`, `operate_word`, `operate_flag`, `operate_condition`, and
-- `condition_beyond`, `update_beyond`, `operate_beyond`.
-- Assumes nothing.
use Rattle.std.specs.Prelude.{◌≡◌, ℕ, zero, suc, ◌+◌, ◌-◌, ◌*◌, ◌/◌, ◌%◌, ◌^◌, ◌<◌, ◌≤◌, Bool, true, false, not, ℤ, pos, negsuc, neg_ℤ, nat_abs, ◌==◌, nat_le, nat_lt, refl}
use Rattle.std.proofs.Common.{◌∙◌, arith, mod-lt, div-le_self, lt_of_le_of_lt, ne_eqb, le-leb, ltb-true, ltb-false}
use Rattle.std.proofs.lemmas.Bool.{lt-leb}
use Rattle.std.specs.Int.Signed.{lt_z, le_z, quot_z, shr_z}
use Rattle.word.specs.Words.{pick, word_limit, value_of, word_of, flag, product, quotient, shift_left, shift_right, update, condition, operate}

pub pick_below : (b : Bool) {x y k : ℕ} → x < k → y < k → pick b x y < k
pick_below true hx hy = hx
pick_below false hx hy = hy

pub flag_below : (b : Bool) → flag b < 2
flag_below true = omega arith
flag_below false = omega arith

remainder_word : (n : ℕ) → n % word_limit < word_limit
remainder_word n = mod-lt n (omega arith)

product_word : (x y : ℕ) → product x y < word_limit
product_word x y = remainder_word (x * y)

-- What holds of both readings of a word holds of its value.
pub by_sign {ℓ} : (P : ℤ → Type ℓ) (x : ℕ) → (x < 2147483648 → P (pos x)) → (2147483648 ≤ x → P (negsuc (4294967295 - x))) → P (value_of x)
by_sign P x f g = by (nat_lt x 2147483648) refl
  where
    by : (t : Bool) → nat_lt x 2147483648 ≡ t → P (pick t (pos x) (negsuc (4294967295 - x)))
    by true e = f (ltb-true x 2147483648 e)
    by false e = g (ltb-false x 2147483648 e)

-- The same of two words.
pub by_signs {ℓ} : (P : ℤ → ℤ → Type ℓ) (x y : ℕ)
    → (x < 2147483648 → y < 2147483648 → P (pos x) (pos y))
    → (x < 2147483648 → 2147483648 ≤ y → P (pos x) (negsuc (4294967295 - y)))
    → (2147483648 ≤ x → y < 2147483648 → P (negsuc (4294967295 - x)) (pos y))
    → (2147483648 ≤ x → 2147483648 ≤ y → P (negsuc (4294967295 - x)) (negsuc (4294967295 - y)))
    → P (value_of x) (value_of y)
by_signs P x y f g h k =
    by_sign (λ a. P a (value_of y)) x
    (λ p. by_sign (λ b. P (pos x) b) y (f p) (g p))
    (λ p. by_sign (λ b. P (negsuc (4294967295 - x)) b) y (h p) (k p))

-- The two orders: at most is not more.
pub le_not_lt : (a b : ℕ) → nat_le a b ≡ not (nat_lt b a)
le_not_lt a b = by (nat_lt b a) refl
  where
    by : (t : Bool) → nat_lt b a ≡ t → nat_le a b ≡ not t
    by true e = lt-leb a b (ltb-true b a e)
    by false e = le-leb a b (ltb-false b a e)

pub at_most_not_more : (a b : ℤ) → le_z a b ≡ not (lt_z b a)
at_most_not_more (pos a) (pos b) = le_not_lt a b
at_most_not_more (pos a) (negsuc b) = refl
at_most_not_more (negsuc a) (pos b) = refl
at_most_not_more (negsuc a) (negsuc b) = le_not_lt b a

value_near : (x : ℕ) → x < word_limit → nat_abs (value_of x) < word_limit
value_near x h = by_sign (λ z. nat_abs z < word_limit) x (λ p. h) (λ p. omega arith)

word_of_near : (z : ℤ) → nat_abs z < word_limit → word_of z < word_limit
word_of_near (pos n) h = h
word_of_near (negsuc n) h = omega arith

pub abs_of_negative : (n : ℕ) → nat_abs (neg_ℤ (pos n)) ≡ n
abs_of_negative zero = refl
abs_of_negative (suc n) = refl

-- Neither a quotient nor a shift to the right leads away from 0.
quotient_nearer : (a b : ℤ) → nat_abs (quot_z a b) ≤ nat_abs a
quotient_nearer (pos a) (pos b) = div-le_self a b
quotient_nearer (pos a) (negsuc b) = let q = div-le_self a (suc b) in let n = abs_of_negative (a / suc b) in omega arith
quotient_nearer (negsuc a) (pos b) = let q = div-le_self (suc a) b in let n = abs_of_negative (suc a / b) in omega arith
quotient_nearer (negsuc a) (negsuc b) = div-le_self (suc a) (suc b)

shift_nearer : (a : ℤ) (m : ℕ) → nat_abs (shr_z a m) ≤ nat_abs a
shift_nearer (pos a) m = div-le_self a m
shift_nearer (negsuc a) m = let q = div-le_self a m in omega arith

quotient_word : (x y : ℕ) → x < word_limit → quotient x y < word_limit
quotient_word x y h =
    pick_below (y == 0) (omega arith)
    (word_of_near (quot_z (value_of x) (value_of y)) (lt_of_le_of_lt (quotient_nearer (value_of x) (value_of y)) (value_near x h)))

shift_left_word : (x n : ℕ) → shift_left x n < word_limit
shift_left_word x n = pick_below (nat_lt n 32) (remainder_word (x * 2 ^ n)) (omega arith)

shift_right_word : (x n : ℕ) → x < word_limit → shift_right x n < word_limit
shift_right_word x n h =
    let m : ℕ = 2 ^ pick (nat_lt n 32) n 32 in
    word_of_near (shr_z (value_of x) m) (lt_of_le_of_lt (shift_nearer (value_of x) m) (value_near x h))

-- A condition answers a flag.
pub condition_flag : (c x y : ℕ) → condition c x y < 2
unfolding condition
condition_flag c x y =
    pick_below (c == 0) (flag_below (lt_z (value_of x) (value_of y)))
    (pick_below (c == 1) (flag_below (le_z (value_of x) (value_of y)))
    (pick_below (c == 2) (flag_below (lt_z (value_of y) (value_of x)))
    (pick_below (c == 3) (flag_below (le_z (value_of y) (value_of x)))
    (pick_below (c == 4) (flag_below (not (x == y)))
    (omega arith)))))

-- An update of a word is a word.
pub update_word : (u x y : ℕ) → x < word_limit → update u x y < word_limit
unfolding update
update_word u x y h =
    pick_below (u == 0) (remainder_word (x + y))
    (pick_below (u == 1) (remainder_word (x + (word_limit - y)))
    (pick_below (u == 2) (product_word x y)
    (pick_below (u == 3) (quotient_word x y h)
    (pick_below (u == 4) (shift_left_word x y)
    (pick_below (u == 5) (shift_right_word x y h)
    (omega arith))))))

-- An operator answers a word, whatever its operands.
pub operate_word : (c x y : ℕ) → operate c x y < word_limit
unfolding operate
operate_word c x y =
    let f : condition (c - 3) x y < 2 = condition_flag (c - 3) x y in
    pick_below (c == 0) (remainder_word (x + y))
    (pick_below (c == 1) (remainder_word (x + (word_limit - y)))
    (pick_below (c == 2) (product_word x y)
    (omega arith)))

-- From code 3 on an operator is a condition.
pub operate_is_condition : (c x y : ℕ) → 3 ≤ c → operate c x y ≡ condition (c - 3) x y
unfolding operate
operate_is_condition c x y h =
    simp (ne_eqb c 0 (λ e. omega arith), ne_eqb c 1 (λ e. omega arith), ne_eqb c 2 (λ e. omega arith))

-- So it answers a flag.
pub operate_flag : (c x y : ℕ) → 3 ≤ c → operate c x y < 2
operate_flag c x y h = rw (operate_is_condition c x y h) (condition_flag (c - 3) x y)

-- A loop's guard, the operator of code c + 3, agrees with the condition of code c that its stream tests.
pub operate_condition : (c x y : ℕ) → c < 5 → operate (c + 3) x y ≡ condition c x y
operate_condition c x y h =
    let e : c + 3 - 3 ≡ c = omega arith in rw (operate_is_condition (c + 3) x y (omega arith), e)

-- A code beyond its list gives 0.
pub condition_beyond : (c x y : ℕ) → 5 ≤ c → condition c x y ≡ 0
unfolding condition
condition_beyond c x y h =
    simp (
      ne_eqb c 0 (λ e. omega arith),
      ne_eqb c 1 (λ e. omega arith),
      ne_eqb c 2 (λ e. omega arith),
      ne_eqb c 3 (λ e. omega arith),
      ne_eqb c 4 (λ e. omega arith),
    )

pub update_beyond : (u x y : ℕ) → 6 ≤ u → update u x y ≡ 0
unfolding update
update_beyond u x y h =
    simp (
      ne_eqb u 0 (λ e. omega arith),
      ne_eqb u 1 (λ e. omega arith),
      ne_eqb u 2 (λ e. omega arith),
      ne_eqb u 3 (λ e. omega arith),
      ne_eqb u 4 (λ e. omega arith),
      ne_eqb u 5 (λ e. omega arith),
    )

pub operate_beyond : (c x y : ℕ) → 8 ≤ c → operate c x y ≡ 0
operate_beyond c x y h =
    operate_is_condition c x y (omega arith) ∙ condition_beyond (c - 3) x y (omega arith)
