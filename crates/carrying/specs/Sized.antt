-- What is known of a table with n rows, by its own size: for code that looks at one row and has no need of n.
-- Assumes nothing.
use Rattle.std.specs.Prelude.{ℕ, ◌<◌, refl, List}
use Rattle.std.proofs.Common.{subst, arith}
use Rattle.table.specs.Rows.{size}
use Rattle.carrying.specs.Kept.{Passing, Bodies}

module _ (t : List ℕ) (n : ℕ) (p : Passing t n) where
  pub sized : Passing t (size t)
  sized = let e = p.rows in let f = p.few in record { right = p.right; rows = refl; few = omega arith }

  pub row_sized : (r : ℕ) → r < n → r < size t
  row_sized r l = let e = p.rows in omega arith

  pub bodies_sized : (bodies : List ℕ) → Bodies t n bodies → Bodies t (size t) bodies
  bodies_sized bodies B = subst (λ (x : ℕ). Bodies t x bodies) p.rows B
