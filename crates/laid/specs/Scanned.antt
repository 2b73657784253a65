-- The loops that a value passes on its way in, found loop by loop going outward: what a program finds of a table that passes with no stack.
--
--   Walks                         loop L is passed on the way from body B out to the home of v
--   walk_stops                    at home nothing is passed; elsewhere (`here`, `further`) B, and what the body around B passes
--   walked_is_carried, carried_is_walked      carried into L is: passed on the way of some operand
--
-- Assumes nothing.
use Rattle.std.specs.Prelude.{ℕ, zero, suc, ◌<◌, ◌≡◌, refl, ◌≢◌, ◌⊎◌, Bool, true, false, List}
use Rattle.std.proofs.Common.{sym, ap, ◌∙◌, subst, inl, inr, arith}
use Rattle.std.proofs.Math.Decide.{ℕ_discrete}
use Rattle.table.specs.Rows.{kind_at, size, operand_count}
use Rattle.table.specs.Scan.{stack_at, body_of, reads, home, holds}
use Rattle.table.specs.Bodies.{operand}
use Rattle.structure.specs.Spans.{open_is_for, Encloses, same, inside as within, outermost}
use Rattle.structure.specs.Structure.{Structure, InLoop, in_table}
use Rattle.lowered.specs.Sources.{inside, carried}
use Rattle.laid.specs.Listed.{no_both}
use Rattle.laid.specs.Reached.{carried_by, carried_is, inside_cases, inside_at, inside_by, reads_loop}

-- loop L is B, or passed further out; the way stops at the home of v
pub data Walks (t : List ℕ) (v L : ℕ) : ℕ → Type 0 where
  here : home t v ≢ L → Walks t v L L
  further : {B : ℕ} → home t v ≢ B → Walks t v L (body_of t B) → Walks t v L B

pub walk_stops : (t : List ℕ) (v L B : ℕ) → home t v ≡ B → Walks t v L B → ⊥
walk_stops t v L B e (here n) = n e
walk_stops t v L B e (further n w) = n e

module _ (t : List ℕ) (S : Structure t) where
  -- a body around B that is not B is around the body around B
  pub out_of : (H B : ℕ) → B < size t → kind_at t B ≡ 4 → H ≢ B → Encloses t H B → Encloses t H (body_of t B)
  out_of H B l k n (same e) = absurd (n e)
  out_of H B l k n (within kH a b) = S.body_inmost B H (omega arith) (in_table t S H (λ z. omega arith)) (record { is_for_lem = kH; low = a; high = b })
  out_of H B l k n (outermost e) = outermost e

  -- nothing but the outermost body is around the outermost body
  pub at_the_rim : (H : ℕ) → Encloses t H (size t) → H ≡ size t
  at_the_rim H (same e) = e
  at_the_rim H (within kH a b) = let s = S.loop_span H (in_table t S H (λ z. omega arith)) kH in let i = s.inside in absurd (omega arith)
  at_the_rim H (outermost e) = e

  -- B is outside a body H around it that is not B
  unheld_by : (H B : ℕ) → H ≢ B → Encloses t H B → holds B (stack_at t H) ≡ false
  unheld_by H B n e = go (holds B (stack_at t H)) refl e
    where
      go : (b : Bool) → holds B (stack_at t H) ≡ b → Encloses t H B → b ≡ false
      go false q e = refl
      go true q (same e) = absurd (n e)
      go true q (within kH a b) = let o = (open_is_for t H B q).0 in absurd (omega arith)
      go true q (outermost e) = no_both (holds B (stack_at t H)) q (ap (λ (x : ℕ). holds B (stack_at t x)) e ∙ ap (holds B) S.all_shut)

  -- what is in the body around B has B in it too
  one_in : (L B : ℕ) → B < size t → body_of t B ≢ size t → inside t L (body_of t B) ≡ true → inside t L B ≡ true
  one_in L B l n i =
      let b = S.body_loop B (omega arith) n in
      let low = b.low in
      elim (inside_cases t L (body_of t B) i) [
        | inl e ↦ inside_by t L B (subst (λ (x : ℕ). holds x (stack_at t B) ≡ true) e ((S.loop_span (body_of t B) (omega arith) b.is_for_lem).open_in B b.low b.high))
        | inr h ↦ deep b h
      ]
    where
      deep : InLoop t (body_of t B) B → holds L (stack_at t (body_of t B)) ≡ true → inside t L B ≡ true
      deep b h =
          let low = b.low in
          let high = b.high in
          let f = open_is_for t (body_of t B) L h in
          let f0 = f.0 in
          let s = S.loop_span L (omega arith) f.1 in
          let o = (s.open_only (body_of t B) h).1 in
          let m = (S.nest L (body_of t B) (omega arith) f.1 b.is_for_lem f0 o).1 in
          inside_by t L B (s.open_in B (omega arith) (omega arith))

  -- ---- passed on the way is inside L and outside home
  abbrev Passed : ℕ → ℕ → ℕ → Type 0
  Passed v L B = (home t v ≢ L) × (holds L (stack_at t (home t v)) ≡ false) × (inside t L B ≡ true)

  pub around_body : (B : ℕ) → B < size t → (body_of t B ≡ size t) ⊎ ((body_of t B < size t) × (kind_at t (body_of t B) ≡ 4))
  around_body B l =
      elim (ℕ_discrete (body_of t B) (size t)) [
        | yes e ↦ inl e
        | no n ↦ (let b = S.body_loop B (omega arith) n in let low = b.low in inr (omega arith, b.is_for_lem))
      ]

  walk_passes : (v L B : ℕ) → (B ≡ size t) ⊎ ((B < size t) × (kind_at t B ≡ 4)) → Encloses t (home t v) B → Walks t v L B → Passed v L B
  walk_passes v L B q e (here n) = (n, unheld_by (home t v) L n e, inside_at t L)
  walk_passes v L B (inl d) e (further n w) = absurd (n (at_the_rim (home t v) (subst (Encloses t (home t v)) d e) ∙ sym d))
  walk_passes v L B (inr q) e (further n w) =
      let p = walk_passes v L (body_of t B) (around_body B q.0) (out_of (home t v) B q.0 q.1 n e) w in
      (p.0, p.1, elim (ℕ_discrete (body_of t B) (size t)) [ yes d ↦ rim p.0 p.2 d (out_of (home t v) B q.0 q.1 n e) | no d ↦ one_in L B q.0 d p.2 ])
    where
      rim : home t v ≢ L → inside t L (body_of t B) ≡ true → body_of t B ≡ size t → Encloses t (home t v) (body_of t B) → inside t L B ≡ true
      rim n i d h =
          elim (inside_cases t L (body_of t B) i) [
            | inl q ↦ absurd (n (at_the_rim (home t v) (subst (Encloses t (home t v)) d h) ∙ sym d ∙ q))
            | inr q ↦ no_both (holds L (stack_at t (body_of t B))) q (ap (λ (x : ℕ). holds L (stack_at t x)) d ∙ ap (holds L) S.all_shut)
          ]

  pub reads_body_or_rim : (r : ℕ) → r < size t → (reads t r ≡ size t) ⊎ ((reads t r < size t) × (kind_at t (reads t r) ≡ 4))
  reads_body_or_rim r l =
      elim (ℕ_discrete (reads t r) (size t)) [ yes e ↦ inl e | no n ↦ (let b = reads_loop t S r l n in inr (b.1, b.0)) ]

  -- every loop that an operand passes carries it
  pub walked_is_carried : (r j L : ℕ) → r < size t → j < operand_count (kind_at t r) → Walks t (operand t r j) L (reads t r) → carried t L (operand t r j) ≡ true
  walked_is_carried r j L lr lj w =
      let p = walk_passes (operand t r j) L (reads t r) (reads_body_or_rim r lr) (S.operands r j lr lj).at_home w in
      carried_is t L (operand t r j) r j p.0 p.1 lr lj refl p.2

  -- and a loop that carries a value is passed by an operand that names it
  walk_in : (m v L B : ℕ) → B < m → B < size t → kind_at t B ≡ 4 → L < size t → kind_at t L ≡ 4 → home t v ≢ L → holds L (stack_at t (home t v)) ≡ false → Encloses t (home t v) B → inside t L B ≡ true → Walks t v L B
  walk_in zero v L B b l k l_l kL n h e i = absurd (omega arith)
  walk_in (suc m) v L B b l k l_l kL n h e i =
      elim (inside_cases t L B i) [
        | inl q ↦ subst (Walks t v L) (sym q) (here n)
        | inr q ↦ deeper q (λ c. no_both (holds L (stack_at t (home t v))) (ap (λ (x : ℕ). holds L (stack_at t x)) c ∙ q) h)
            (λ z f g i. walk_in m v L (body_of t B) z f g l_l kL n h (out_of (home t v) B l k (λ c. no_both (holds L (stack_at t (home t v))) (ap (λ (x : ℕ). holds L (stack_at t x)) c ∙ q) h) e) i)
      ]
    where
      deeper : holds L (stack_at t B) ≡ true → home t v ≢ B
          → (body_of t B < m → body_of t B < size t → kind_at t (body_of t B) ≡ 4 → inside t L (body_of t B) ≡ true → Walks t v L (body_of t B)) → Walks t v L B
      deeper q c ih =
          let s = S.loop_span L l_l kL in
          let end-in = s.inside in
          let o = s.open_only B q in
          let o0 = o.0 in
          let o1 = o.1 in
          further c (by (S.body_inmost B L (omega arith) l_l (record { is_for_lem = kL; low = o0; high = o1 })))
        where
          on : body_of t B ≢ size t → inside t L (body_of t B) ≡ true → Walks t v L (body_of t B)
          on d i = let p = S.body_loop B (omega arith) d in let low = p.low in ih (omega arith) (omega arith) p.is_for_lem i

          by : Encloses t L (body_of t B) → Walks t v L (body_of t B)
          by (same d) = on (λ z. omega arith) (subst (λ (x : ℕ). inside t L x ≡ true) d (inside_at t L))
          by (within kk a b) =
              let s = S.loop_span L l_l kL in
              let end-in = s.inside in
              on (λ z. omega arith) (inside_by t L (body_of t B) (s.open_in (body_of t B) a b))
          by (outermost d) = absurd (omega arith)

  pub carried_is_walked : (L v : ℕ) → L < size t → kind_at t L ≡ 4 → carried t L v ≡ true
      → (r : ℕ) × (j : ℕ) × (r < size t) × (j < operand_count (kind_at t r)) × (operand t r j ≡ v) × Walks t v L (reads t r)
  carried_is_walked L v l_l kL c =
      let C = carried_by t L v c in
      let e = subst (λ (x : ℕ). Encloses t (home t x) (reads t C.row)) C.is (S.operands C.row C.place C.row_below_lem C.place_below).at_home in
      (C.row, C.place, C.row_below_lem, C.place_below, C.is, at (reads_body_or_rim C.row C.row_below_lem) C.deep C.away C.unheld e)
    where
      at : {B : ℕ} → (B ≡ size t) ⊎ ((B < size t) × (kind_at t B ≡ 4)) → inside t L B ≡ true → home t v ≢ L → holds L (stack_at t (home t v)) ≡ false → Encloses t (home t v) B → Walks t v L B
      at {B} (inr q) i n h e = walk_in (suc B) v L B (omega arith) q.0 q.1 l_l kL n h e i
      at {B} (inl q) i n h e =
          elim (inside_cases t L B i) [
            | inl d ↦ absurd (omega arith)
            | inr d ↦ no_both (holds L (stack_at t B)) d (ap (λ (x : ℕ). holds L (stack_at t x)) q ∙ ap (holds L) S.all_shut)
          ]
