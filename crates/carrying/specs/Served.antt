-- Which ARG a NEXT serves, from the row before: the ARG behind the one that a NEXT there serves, else the first of the loop.
-- Main names: `behind_next_serves`, `first_next_serves`.
-- Assumes nothing.
use Prim.Native.Nat.{ℕ, zero, suc, ◌+◌, ◌<◌}
use Rattle.std.specs.Prelude.{◌≡◌, ◌≢◌, true}
use Rattle.std.proofs.Math.Path.{refl, ap}
use Rattle.std.proofs.Common.{◌∙◌}
use mathlib.Core.List.{List, [], ◌∷◌}
use native.Mathlib.Omega.{arith}
use Rattle.table.specs.Rows.{kind_at, size}
use Rattle.table.specs.Scan.{Loop, stack_at, body_of, at_head, one_next}
use Rattle.table.specs.Check.{arg_left}
use Rattle.table.specs.Bodies.{nexts_in, arg_of}
use Rattle.table.specs.Right.{TableRight}
use Rattle.structure.specs.Place.{next_has_arg, stack_next}
use Rattle.structure.specs.Loops.{Head, innermost}
use Rattle.structure.specs.Behind.{body_after_other}

-- a loop in which an ARG is left is open
some_loop : (s : List Loop) → arg_left s ≡ true → (l : Loop) × (o : List Loop) × (s ≡ l ∷ o)
some_loop [] h = let z : ◌≡◌ {A = ℕ} 0 1 = cc in absurd (omega arith)
some_loop (l ∷ o) h = (l, o, refl)

module _ (t : List ℕ) (ok : TableRight t) where
  pub behind_next_serves : (y : ℕ) → suc y < size t → kind_at t y ≡ 6 → arg_of t (suc y) ≡ suc (arg_of t y)
  unfolding arg_of
  behind_next_serves y l k =
      let s = some_loop (stack_at t y) (next_has_arg t y (ok.row y (omega arith)) k) in
      let a : nexts_in (stack_at t y) ≡ s.0.nexts = ap nexts_in s.2 in
      let b : nexts_in (stack_at t (suc y)) ≡ s.0.nexts + 1 = ap nexts_in (stack_next t y k ∙ ap (at_head one_next) s.2) in
      let c = body_after_other t y (λ z. omega arith) (λ z. omega arith) in
      omega arith

  pub first_next_serves : (y : ℕ) → suc y < size t → kind_at t (suc y) ≡ 6 → kind_at t y ≢ 6 → arg_of t (suc y) ≡ suc (body_of t (suc y))
  unfolding arg_of
  first_next_serves y l k n =
      let s = some_loop (stack_at t (suc y)) (next_has_arg t (suc y) (ok.row (suc y) l) k) in
      let h = innermost t ok (suc y) (omega arith) s.0 s.1 s.2 in
      let a : nexts_in (stack_at t (suc y)) ≡ 0 = ap nexts_in s.2 ∙ none s.0 s.1 h s.0.nexts refl in
      omega arith
    where
      none : (l : Loop) (o : List Loop) → Head t (suc y) l o → (m : ℕ) → l.nexts ≡ m → l.nexts ≡ 0
      none l o h zero e = e
      none l o h (suc m) e = absurd (n (h.next_rows y m (omega arith) (omega arith)).0)
