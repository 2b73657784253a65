-- What is noted of a table is a fact, so that a struct can keep it: at one place there is one operand.
-- Assumes nothing.
use Rattle.std.specs.Prelude.{ℕ, suc, ◌+◌, ◌*◌, ◌≡◌, List}
use Rattle.std.proofs.Common.{ap, inl, inr, arith}
use Rattle.std.proofs.Math.Bridge.{le_prop}
use Rattle.std.proofs.Math.Bool.{Bool-set}
use Rattle.std.proofs.Math.Nat.{ℕ_set}
use mathlib.Core.HLevel.{Σ_prop_path}
use Rattle.table.specs.Rows.{kind_at, at_most_three}
use Rattle.table.specs.Bodies.{operand}
use Rattle.carrying.specs.Kept.{IsUse, UseOrNone, Noted}

module _ (t : List ℕ) (v c : ℕ) where
  abbrev At : ℕ → ℕ → Type 0
  At r j = (c ≡ suc (3 * r + j)) × (IsUse t r j × (operand t r j ≡ v))

  at_prop : (r j : ℕ) → IsProp (At r j)
  at_prop r j = hlevel (ℕ_set, le_prop)

  of_row_prop : (r : ℕ) → IsProp ((j : ℕ) × (At r j))
  of_row_prop r x y = Σ_prop_path (at_prop r) (omega arith)

  nested_prop : IsProp ((r : ℕ) × ((j : ℕ) × (At r j)))
  nested_prop x y = let p = at_most_three (kind_at t x.0) in let q = at_most_three (kind_at t y.0) in Σ_prop_path of_row_prop (omega arith)

  abbrev Use : Type 0
  Use = (r : ℕ) × (j : ℕ) × (c ≡ suc (3 * r + j)) × IsUse t r j × (operand t r j ≡ v)

  use_prop : IsProp Use
  use_prop x y =
      ap (λ (z : (r : ℕ) × ((j : ℕ) × (At r j))). let w : Use = (z.0, z.1.0, z.1.1.0, z.1.1.1.0, z.1.1.1.1) in w)
      (nested_prop (x.0, (x.1, (x.2, (x.3, x.4)))) (y.0, (y.1, (y.2, (y.3, y.4)))))

  pub use_or_none-prop : IsProp (UseOrNone t v c)
  use_or_none-prop (inl p) (inl q) = ap inl (ℕ_set c 0 p q)
  use_or_none-prop (inl p) (inr q) = absurd (omega arith)
  use_or_none-prop (inr p) (inl q) = absurd (omega arith)
  use_or_none-prop (inr p) (inr q) = ap inr (use_prop p q)

pub noted-prop : (t : List ℕ) (n : ℕ) (bodies pairs heads links : List ℕ) → IsProp (Noted t n bodies pairs heads links)
noted-prop t n bodies pairs heads links = hlevel (ℕ_set, Bool-set, le_prop, use_or_none-prop)
