-- The loops that are open before each row from the row before it, and so the body: what a program keeps going down the rows, with no stack.
-- Main names: `loops_at`; `loops_first`, `loops_last`, `loops_around`, `loops_after_for`, `loops_after_end`, `loops_after_other`, `loops_in_body`, `loops_few`; and of the
-- body: `body_first`, `body_last`, `body_after_for`, `body_after_end`, `body_after_other`, `same_loops`.
-- Assumes nothing.
use Rattle.std.specs.Prelude.{ℕ, suc, ◌<◌, ◌≤◌, ◌≡◌, refl, ◌≢◌, List, [], ◌∷◌, length}
use Rattle.std.proofs.Common.{sym, ap, ◌∙◌, arith, ne_eqb}
use Rattle.std.proofs.Math.Decide.{ℕ_discrete}
use Rattle.table.specs.Rows.{kind_at, size}
use Rattle.table.specs.Scan.{Loop, one_arg, one_next, at_head, after, inner, stack_at, body_of, outward}
use Rattle.table.specs.Bodies.{args_of, first_of}
use Rattle.table.specs.Kept.{entry_of}
use Rattle.table.specs.Right.{TableRight}
use Rattle.structure.specs.Loops.{innermost}
use Rattle.structure.specs.Order.{nothing_left_open, at_most_eight_deep}
use Rattle.structure.specs.Serving.{header_rows, header_stack}

abbrev for_rows : List Loop → List ℕ
for_rows [] = []
for_rows (l ∷ s) = l.row ∷ for_rows s

-- the FOR rows of the loops that are open before row r, innermost first
unfoldable pub loops_at : List ℕ → ℕ → List ℕ
loops_at t r = for_rows (stack_at t r)

-- the first of them, or the row count
abbrev inmost : ℕ → List ℕ → ℕ
inmost n [] = n
inmost n (L ∷ s) = L

inner_is_inmost : (n : ℕ) (s : List Loop) → inner n s ≡ inmost n (for_rows s)
inner_is_inmost n [] = refl
inner_is_inmost n (l ∷ s) = refl

body_is_inmost : (t : List ℕ) (r : ℕ) → body_of t r ≡ inmost (size t) (loops_at t r)
unfolding body_of loops_at
body_is_inmost t r = inner_is_inmost (size t) (stack_at t r)

-- rows in the same loops stand in the same body
pub same_loops : (t : List ℕ) (p r : ℕ) → loops_at t p ≡ loops_at t r → body_of t p ≡ body_of t r
same_loops t p r e = body_is_inmost t p ∙ ap (inmost (size t)) e ∙ sym (body_is_inmost t r)

-- ---- the loops
pub loops_first : (t : List ℕ) → loops_at t 0 ≡ []
unfolding loops_at stack_at
loops_first t = refl

pub loops_last : (t : List ℕ) → TableRight t → loops_at t (size t) ≡ []
unfolding loops_at
loops_last t ok = rw (nothing_left_open t ok)

pub loops_after_for : (t : List ℕ) (r : ℕ) → kind_at t r ≡ 4 → loops_at t (suc r) ≡ r ∷ loops_at t r
unfolding loops_at stack_at after
loops_after_for t r k = rw k

-- in a loop's body: the loop, and those around it
pub loops_around : (t : List ℕ) → TableRight t → (r : ℕ) → r ≤ size t → body_of t r ≢ size t → loops_at t r ≡ body_of t r ∷ loops_at t (body_of t r)
unfolding loops_at body_of
loops_around t ok r l n = go (stack_at t r) refl n
  where
    go : (s : List Loop) → stack_at t r ≡ s → inner (size t) s ≢ size t → for_rows s ≡ inner (size t) s ∷ for_rows (stack_at t (inner (size t) s))
    go [] e n = absurd (n refl)
    go (x ∷ s) e n = ap (λ (z : List Loop). x.row ∷ for_rows z) (sym (innermost t ok r l x s e).around)

pub loops_after_end : (t : List ℕ) → TableRight t → (r : ℕ) → r < size t → kind_at t r ≡ 7 → loops_at t (suc r) ≡ loops_at t (body_of t r)
unfolding loops_at body_of stack_at after
loops_after_end t ok r l k = rw k (go (stack_at t r) refl)
  where
    go : (s : List Loop) → stack_at t r ≡ s → for_rows (outward s) ≡ for_rows (stack_at t (inner (size t) s))
    go [] e = ap for_rows (sym (nothing_left_open t ok))
    go (x ∷ s) e = ap for_rows (sym (innermost t ok r (omega arith) x s e).around)

-- ARG and NEXT only count
same_rows : (f : Loop → Loop) → ((l : Loop) → (f l).row ≡ l.row) → (s : List Loop) → for_rows (at_head f s) ≡ for_rows s
same_rows f h [] = refl
same_rows f h (l ∷ s) = ap (λ (x : ℕ). x ∷ for_rows s) (h l)

counted_rows : (kind r : ℕ) (s : List Loop) → kind ≢ 4 → kind ≢ 7 → for_rows (after kind r s) ≡ for_rows s
unfolding after
counted_rows kind r s a b =
    elim (ℕ_discrete kind 5) [
      | yes e ↦ rw e (same_rows one_arg (λ l. refl) s)
      | no e ↦ elim (ℕ_discrete kind 6) [
        | yes d ↦ rw d (same_rows one_next (λ l. refl) s)
        | no d ↦ rw (ne_eqb kind 4 a, ne_eqb kind 5 e, ne_eqb kind 6 d, ne_eqb kind 7 b)
      ]
    ]

pub loops_after_other : (t : List ℕ) (r : ℕ) → kind_at t r ≢ 4 → kind_at t r ≢ 7 → loops_at t (suc r) ≡ loops_at t r
unfolding loops_at stack_at
loops_after_other t r a b = counted_rows (kind_at t r) r (stack_at t r) a b

in_body : (t : List ℕ) (L : ℕ) → kind_at t L ≡ 4 → ((a : ℕ) → L < a → a < first_of t L → kind_at t a ≡ 5) → stack_at t (first_of t L) ≡ entry_of L (args_of t L) 0 ∷ stack_at t L
unfolding first_of
in_body t L k h = header_stack t L (args_of t L) k h

-- behind its ARGs a loop is open, and those around it
pub loops_in_body : (t : List ℕ) (L : ℕ) → kind_at t L ≡ 4 → loops_at t (first_of t L) ≡ L ∷ loops_at t L
unfolding loops_at
loops_in_body t L k = ap for_rows (in_body t L k (header_rows t L))

rows_long : (s : List Loop) → length (for_rows s) ≡ length s
rows_long [] = refl
rows_long (l ∷ s) = ap suc (rows_long s)

-- at most eight are open
pub loops_few : (t : List ℕ) → TableRight t → (r : ℕ) → r ≤ size t → length (loops_at t r) ≤ 8
unfolding loops_at
loops_few t ok r l = let e = rows_long (stack_at t r) in let d = at_most_eight_deep t ok r l in omega arith

-- ---- the body
module _ (t : List ℕ) where
  pub body_first : body_of t 0 ≡ size t
  body_first = body_is_inmost t 0 ∙ ap (inmost (size t)) (loops_first t)

  pub body_last : TableRight t → body_of t (size t) ≡ size t
  body_last ok = body_is_inmost t (size t) ∙ ap (inmost (size t)) (loops_last t ok)

  pub body_after_for : (r : ℕ) → kind_at t r ≡ 4 → body_of t (suc r) ≡ r
  body_after_for r k = body_is_inmost t (suc r) ∙ ap (inmost (size t)) (loops_after_for t r k)

  pub body_after_end : TableRight t → (r : ℕ) → r < size t → kind_at t r ≡ 7 → body_of t (suc r) ≡ body_of t (body_of t r)
  body_after_end ok r l k = same_loops t (suc r) (body_of t r) (loops_after_end t ok r l k)

  pub body_after_other : (r : ℕ) → kind_at t r ≢ 4 → kind_at t r ≢ 7 → body_of t (suc r) ≡ body_of t r
  body_after_other r a b = same_loops t (suc r) r (loops_after_other t r a b)

  pub body_in_body : (L : ℕ) → kind_at t L ≡ 4 → body_of t (first_of t L) ≡ L
  body_in_body L k = body_is_inmost t (first_of t L) ∙ ap (inmost (size t)) (loops_in_body t L k)
