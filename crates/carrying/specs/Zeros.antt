-- Notes that have not begun: all 0.
-- Assumes nothing.
use Rattle.std.specs.Prelude.{ℕ, zero, suc, ◌≡◌, refl, replicate, get_or}
use Rattle.std.proofs.Common.{arith}
use Rattle.carrying.specs.Kept.{Low}

pub zeros : (m i : ℕ) → get_or {A = ℕ} (replicate m 0) i 0 ≡ 0
zeros zero i = refl
zeros (suc m) zero = refl
zeros (suc m) (suc i) = zeros m i

pub low_zeros : (m : ℕ) → Low (replicate m 0)
low_zeros m r = let z = zeros m r in omega arith
