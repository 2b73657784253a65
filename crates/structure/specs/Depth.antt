-- How deep a body lies: the loops that are open in it. The outermost body lies 0 deep, a loop's body one deeper than the body around it, and none of
-- a right table deeper than 8.
-- Main names: `depth`, `depth_around`, `depth_falls`, `eight_at_most`.
-- Assumes nothing.
use Prim.Native.Nat.{ℕ, suc, ◌<◌, ◌≤◌}
use Rattle.std.specs.Prelude.{cond, ◌⊎◌, ◌≡◌, eqb}
use mathlib.Core.List.{List, [], ◌∷◌}
use Rattle.std.proofs.Common.{inl, inr, ◌∙◌, arith, eq-eqb, ne_eqb}
use Rattle.std.proofs.Math.Path.{refl, ap}
use Rattle.std.proofs.Math.ListN.{length}
use Rattle.table.specs.Rows.{kind_at, size}
use Rattle.table.specs.Scan.{Loop, inner, stack_at, body_of}
use Rattle.table.specs.Right.{TableRight}
use Rattle.structure.specs.Loops.{innermost}
use Rattle.structure.specs.Order.{loop_room}

unfoldable pub depth : List ℕ → ℕ → ℕ
depth t b = cond (eqb b (size t)) 0 (suc (length (stack_at t b)))

module _ (t : List ℕ) where
  pub rim_depth : depth t (size t) ≡ 0
  unfolding depth
  rim_depth = rw (eq-eqb (size t) (size t) refl)

  pub loop_depth : (b : ℕ) → b < size t → depth t b ≡ suc (length (stack_at t b))
  unfolding depth
  loop_depth b l = rw (ne_eqb b (size t) (λ e. omega arith))

module _ (t : List ℕ) (ok : TableRight t) where
  -- where a row stands, so many loops are open as its body lies deep
  pub depth_around : (r : ℕ) → r ≤ size t → depth t (body_of t r) ≡ length (stack_at t r)
  unfolding body_of
  depth_around r less = go (stack_at t r) refl
    where
      go : (s : List Loop) → stack_at t r ≡ s → depth t (inner (size t) s) ≡ length s
      go [] e = rim_depth t
      go (l ∷ s) e = let h = innermost t ok r less l s e in let n = h.nexts_in_lem in loop_depth t l.row (omega arith) ∙ ap (λ (z : List Loop). suc (length z)) h.around

  -- so the body around a loop lies one less deep
  pub depth_falls : (b : ℕ) → b < size t → depth t b ≡ suc (depth t (body_of t b))
  depth_falls b l = loop_depth t b l ∙ ap suc (let e = depth_around b (omega arith) in omega arith)

  pub eight_at_most : (b : ℕ) → (b ≡ size t) ⊎ ((b < size t) × (kind_at t b ≡ 4)) → depth t b ≤ 8
  eight_at_most b (inl e) = let z : depth t b ≡ 0 = ap (depth t) e ∙ rim_depth t in omega arith
  eight_at_most b (inr h) = let z = loop_depth t b h.0 in let r = loop_room t ok b h.0 h.1 in omega arith
