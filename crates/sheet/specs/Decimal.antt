-- THE DIGITS OF A NUMBER, one by one: `one_digit`, `more_digits` and `one_more_lem`; and how many they are: `ten_digits`. Assumes nothing.
use Rattle.std.specs.Prelude.{ℕ, zero, suc, ◌+◌, ◌*◌, ◌/◌, ◌%◌, ◌<◌, ◌≤◌, Bool, true, false, cond, List, [], ◌∷◌, ◌++◌, ◌≡◌, ltb, length}
use Rattle.std.proofs.Common.{append_assoc, sym, ap, ◌∙◌, arith, lt-ltb, le-ltb, length-append}
use Rattle.sheet.specs.Sheet.{decimal_by, decimal}

-- 10 ^ (f + 1)
abbrev pub limit : ℕ → ℕ
limit zero = 10
limit (suc f) = 10 * limit f

-- one digit more to spare changes nothing
spare : (f v : ℕ) → v < limit f → decimal_by (suc f) v ≡ decimal_by f v
unfolding decimal_by
spare zero v h = rw (lt-ltb _ _ h)
spare (suc f) v h = ap (λ (l : List ℕ). cond (ltb v 10) ((48 + v) ∷ []) (l ++ ((48 + v % 10) ∷ []))) (spare f (v / 10) (omega arith))

pub one_digit : (v : ℕ) → v < 10 → decimal v ≡ (48 + v) ∷ []
unfolding decimal decimal_by
one_digit v h = rw (lt-ltb _ _ h)

pub more_digits : (v : ℕ) → 10 ≤ v → v < 4294967296 → decimal v ≡ decimal (v / 10) ++ ((48 + v % 10) ∷ [])
unfolding decimal decimal_by
more_digits v h q = rw (le-ltb _ _ h) (ap (λ (l : List ℕ). l ++ ((48 + v % 10) ∷ [])) (sym (spare 8 (v / 10) (omega arith))))

-- a digit d behind the digits of u
pub one_more_lem : (u d : ℕ) (t : List ℕ) → 0 < u → d ≤ 9 → 10 * u + d < 4294967296 → decimal u ++ ((48 + d) ∷ t) ≡ decimal (10 * u + d) ++ t
one_more_lem u d t z p h =
    let x : (10 * u + d) / 10 ≡ u = omega arith in let y : (10 * u + d) % 10 ≡ d = omega arith in
    let e : decimal (10 * u + d) ≡ decimal u ++ ((48 + d) ∷ []) = more_digits (10 * u + d) (omega arith) h ∙ rw (x, y) in
    sym (ap (λ (l : List ℕ). l ++ t) e ∙ append_assoc (decimal u) ((48 + d) ∷ []) t)

digits : (f v : ℕ) → length (decimal_by f v) ≤ suc f
unfolding decimal_by
digits zero v = omega arith
digits (suc f) v = by (ltb v 10) (digits f (v / 10))
  where
    by : (b : Bool) → length (decimal_by f (v / 10)) ≤ suc f → length (cond b ((48 + v) ∷ []) (decimal_by f (v / 10) ++ ((48 + v % 10) ∷ []))) ≤ suc (suc f)
    by true h = omega arith
    by false h = rw length-append (omega arith)

pub ten_digits : (v : ℕ) → length (decimal v) ≤ 10
unfolding decimal
ten_digits v = digits 9 v
