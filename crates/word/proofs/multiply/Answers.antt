-- `multiply` answers `product`: the product of two words fits a u64, so the remainder is of the true product.
-- Assumes nothing.
use Rattle.std.proofs.Common.{ℕ, ◌+◌, ◌*◌, ◌^◌, ◌<◌, refl, lt_of_le_of_lt, le_of_lt, mul-le-mul_left, mul-lt-mul_of_pos_right, pow_pos, pow-add, rules}
use mathlib.Core.Path.{subst⁻¹}
use Rattle.word.proofs.multiply.Goals as goal

-- Stated over the width, so that no power is computed.
product_fits : (k : ℕ) {a b : ℕ} → a < 2 ^ k → b < 2 ^ k → a * b < 2 ^ (k + k)
product_fits k {a} {b} ha hb =
    subst⁻¹ (λ (n : ℕ). a * b < n) (pow-add 2 k k)
    (lt_of_le_of_lt (mul-le-mul_left a (le_of_lt hb)) (mul-lt-mul_of_pos_right ha (pow_pos k)))

pub overflow_mul-result : goal.overflow_mul-result
overflow_mul-result c = record { fits = product_fits 32 (search rules) (search rules) }

pub returns : goal.returns
returns c = record { answer = refl }
