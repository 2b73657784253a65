-- What is said of all numbers below n: that each passes a test, the sum of their numbers, their lists joined in order;
-- and how often a number stands in a list.
--
--   every_from, every              a test of each number
--   total                         the sum of a number for each
--   joined                        a list for each, joined in order
--   times                         how often a number stands in a list
--   every_go, -stop, -end         how a loop follows `every`; every_each is what it then knows
--   total_within, total_somewhere                    where a number lies in a sum
--   joined_at                                        where a list stands in the joined list
--   times_append, -within, -of-two, -somewhere       how often a number stands in a joined list
--
-- Assumes nothing.
use Prim.Native.Nat.{ℕ, zero, suc, ◌+◌, ◌-◌, ◌<◌, ◌≤◌}
use Rattle.std.specs.Prelude.{◌≡◌, refl, ◌⊎◌, Bool, true, false, ◌&&◌, List, [], ◌∷◌, ◌++◌, eqb, length, get_or}
use Rattle.std.proofs.Common.{ap, ap₂, ◌∙◌, inl, inr, eq-or-lt_of_le, add-one, length-append, get_or-append-add, eq-eqb}
use Rattle.std.proofs.Math.Logic.{⊎_elim}
use native.Mathlib.Omega.{arith}
use Rattle.std.proofs.Math.ListN.{get_or-append}
use Rattle.word.specs.Words.{flag}
use Rattle.step.specs.Kept.{and_true}

-- The test holds of `from`, `from + 1`, .., so many of them.
unfoldable pub every_from : ℕ → ℕ → (ℕ → Bool) → Bool
every_from zero from test = true
every_from (suc m) from test = test from && every_from m (from + 1) test

abbrev pub every : ℕ → (ℕ → Bool) → Bool
every n test = every_from n 0 test

unfoldable pub total : (ℕ → ℕ) → ℕ → ℕ
total f zero = 0
total f (suc n) = total f n + f n

unfoldable pub joined : (ℕ → List ℕ) → ℕ → List ℕ
joined f zero = []
joined f (suc n) = joined f n ++ f n

unfoldable pub times : ℕ → List ℕ → ℕ
times w [] = 0
times w (x ∷ xs) = flag (eqb w x) + times w xs

-- ---- laws

module _ (test : ℕ → Bool) (n i : ℕ) where
  less : i < n → n - i ≡ suc (n - (i + 1))
  less h = omega arith

  pub every_go : {r : Bool} → i < n → r ≡ test i → r ≡ true → every_from (n - i) i test ≡ every_from (n - (i + 1)) (i + 1) test
  unfolding every_from
  every_go h e t = rw (less h, ← e, t)

  pub every_stop : {r : Bool} → i < n → r ≡ test i → r ≡ false → every_from (n - i) i test ≡ false
  unfolding every_from
  every_stop h e t = rw (less h, ← e, t)

  pub every_end : n ≤ i → every_from (n - i) i test ≡ true
  unfolding every_from
  every_end h = let z : n - i ≡ 0 = omega arith in rw z

each_from : (test : ℕ → Bool) (m from : ℕ) → every_from m from test ≡ true → (i : ℕ) → from ≤ i → i < from + m → test i ≡ true
unfolding every_from
each_from test zero from e i h l = absurd (omega arith)
each_from test (suc m) from e i h l =
    let p = and_true (test from) (every_from m (from + 1) test) e in
    ⊎_elim (λ (q : from ≡ i). rw (← q) p.0) (λ (q : from < i). each_from test m (from + 1) p.1 i (omega arith) (omega arith)) (eq-or-lt_of_le h)

pub every_each : (test : ℕ → Bool) (n : ℕ) → every n test ≡ true → (i : ℕ) → i < n → test i ≡ true
every_each test n e i h = each_from test n 0 e i (omega arith) (omega arith)

pub total_more : (f : ℕ → ℕ) (i : ℕ) → total f (i + 1) ≡ total f i + f i
unfolding total
total_more f i = rw (add-one i)

pub joined_more : (f : ℕ → List ℕ) (i : ℕ) → joined f (i + 1) ≡ joined f i ++ f i
unfolding joined
joined_more f i = rw (add-one i)

pub length_joined : (f : ℕ → List ℕ) (h : ℕ → ℕ) → ((i : ℕ) → length (f i) ≡ h i) → (n : ℕ) → length (joined f n) ≡ total h n
unfolding joined total
length_joined f h e zero = refl
length_joined f h e (suc n) = length-append (joined f n) (f n) ∙ ap₂ (λ a b. a + b) (length_joined f h e n) (e n)

-- ---- where in a sum, in a joined list, in an order

pub order : (i j : ℕ) → (i < j) ⊎ ((i ≡ j) ⊎ (j < i))
order zero zero = inr (inl refl)
order zero (suc j) = inl (omega arith)
order (suc i) zero = inr (inr (omega arith))
order (suc i) (suc j) =
    ⊎_elim (λ (h : i < j). inl (omega arith)) (⊎_elim (λ (h : i ≡ j). inr (inl (ap suc h))) (λ (h : j < i). inr (inr (omega arith)))) (order i j)

-- A number below n + 1 is below n, or n.
below_or_last : (i n : ℕ) → i < suc n → (i < n) ⊎ (i ≡ n)
below_or_last i n h = ⊎_elim (λ (q : i ≡ n). inr q) (λ (q : i < n). inl q) (eq-or-lt_of_le (within i n h))
  where
    within : (i n : ℕ) → i < suc n → i ≤ n
    within i n h = omega arith

-- What i adds is within the whole.
pub total_within : (f : ℕ → ℕ) (i n : ℕ) → i < n → total f i + f i ≤ total f n
unfolding total
total_within f i zero h = absurd (omega arith)
total_within f i (suc n) h =
    ⊎_elim (λ (q : i < n). let r = total_within f i n q in omega arith) (λ (q : i ≡ n). rw q (omega arith)) (below_or_last i n h)

-- Every number below the whole is added by some i.
pub total_somewhere : (f : ℕ → ℕ) (n x : ℕ) → x < total f n → (i : ℕ) × (i < n) × (total f i ≤ x) × (x < total f i + f i)
unfolding total
total_somewhere f zero x h = absurd (omega arith)
total_somewhere f (suc n) x h =
    ⊎_elim
    (λ (q : x < total f n). let r = total_somewhere f n x q in (r.0, omega arith, r.2, r.3))
    (⊎_elim (λ (q : x ≡ total f n). (n, omega arith, omega arith, h)) (λ (q : total f n < x). (n, omega arith, omega arith, h)))
    (order x (total f n))

joined_inside : (f : ℕ → List ℕ) (n i p : ℕ) → i < n → p < length (f i) → length (joined f i) + p < length (joined f n)
joined_inside f n i p h l =
    let a = length_joined f (λ j. length (f j)) (λ j. refl) i in
    let b = length_joined f (λ j. length (f j)) (λ j. refl) n in
    let r = total_within (λ j. length (f j)) i n h in
    omega arith

-- The list of i stands in the joined list after those before it.
pub joined_at : (f : ℕ → List ℕ) (n i p : ℕ) → i < n → p < length (f i) → get_or (joined f n) (length (joined f i) + p) 0 ≡ get_or (f i) p 0
unfolding joined
joined_at f zero i p h l = absurd (omega arith)
joined_at f (suc n) i p h l =
    ⊎_elim
    (λ (q : i < n). get_or-append (joined f n) (f n) 0 (length (joined f i) + p) (joined_inside f n i p q l) ∙ joined_at f n i p q l)
    (λ (q : i ≡ n). rw q (get_or-append-add (joined f n) (f n) p 0))
    (below_or_last i n h)

-- ---- how often

pub times_append : (w : ℕ) (xs ys : List ℕ) → times w (xs ++ ys) ≡ times w xs + times w ys
unfolding times
times_append w [] ys = omega arith
times_append w (x ∷ xs) ys = let r = times_append w xs ys in omega arith

pub times_one : (w : ℕ) → times w (w ∷ []) ≡ 1
unfolding times
times_one w = rw (eq-eqb w w refl)

least : (x : ℕ) → 0 ≤ x
least x = omega arith

module _ (w : ℕ) (f : ℕ → List ℕ) where
  pub times_within : (i n : ℕ) → i < n → times w (f i) ≤ times w (joined f n)
  unfolding joined
  times_within i zero h = absurd (omega arith)
  times_within i (suc n) h =
      rw (times_append w (joined f n) (f n))
      (⊎_elim (λ (q : i < n). let r = times_within i n q in omega arith) (λ (q : i ≡ n). rw q (omega arith)) (below_or_last i n h))

  -- Two different ones count together.
  pub times_of_two : (i j n : ℕ) → i < j → j < n → times w (f i) + times w (f j) ≤ times w (joined f n)
  unfolding joined
  times_of_two i j zero h l = absurd (omega arith)
  times_of_two i j (suc n) h l =
      rw (times_append w (joined f n) (f n))
      (⊎_elim (λ (q : j < n). let r = times_of_two i j n h q in omega arith)
      (λ (q : j ≡ n). let r = times_within i n (rw q at h) in rw q (omega arith))
      (below_or_last j n l))

  pub times_somewhere : (n : ℕ) → 1 ≤ times w (joined f n) → (i : ℕ) × (i < n) × (1 ≤ times w (f i))
  unfolding joined times
  times_somewhere zero h = absurd (omega arith)
  times_somewhere (suc n) h =
      let split = times_append w (joined f n) (f n) in
      ⊎_elim
      (λ (q : 0 ≡ times w (f n)).
      let more : 1 ≤ times w (joined f n) = omega arith in
      let r = times_somewhere n more in
      (r.0, omega arith, r.2))
      (λ (q : 0 < times w (f n)). (n, omega arith, q))
      (eq-or-lt_of_le (least (times w (f n))))
