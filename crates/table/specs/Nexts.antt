-- What is told of loops: where the NEXTs of a loop stand, and that a loop is told by a FOR row.
--
--   rows_before_pass      the rows before a refused one pass
--   nexts_stand_before    the NEXTs of the innermost loop are the rows directly before; a NEXT too many is told with their rows
--   body_is_for           the body in which a row stands is the outermost one, or a FOR row
--   home_is_for           likewise the home of a value
--
-- Assumes nothing.
use Rattle.std.specs.Prelude.{ℕ, zero, suc, ◌+◌, ◌-◌, ◌<◌, ◌≤◌, Bool, true, false, cond, ◌&&◌, List, [], ◌∷◌, ◌≡◌, refl, ◌⊎◌, eqb, leb}
use Rattle.std.proofs.Common.{sym, ap, ◌∙◌, inl, inr, arith, eq-eqb, ne_eqb, eqb-true}
use Rattle.std.proofs.Math.Decide.{ℕ_discrete}
use Rattle.table.specs.Rows.{kind_at, size, CONST, FOR, ARG, NEXT, END}
use Rattle.table.specs.Scan.{Loop, opened, one_arg, one_next, at_head, outward, after, stack_at, inner, body_of, home_by, home}
use Rattle.table.specs.Bodies.{nexts_in}
use Rattle.table.specs.Check.{LENGTH, OPEN, length_right, kind_before, follows, stands, place_right, end_right, row_refusal, Refusal, answer, rows_from, table_refusal}
use Rattle.table.specs.Right.{passing_row_is_right}

-- no loop has a NEXT yet
abbrev Quiet : List Loop → Type 0
Quiet [] = Unit {0}
Quiet (l ∷ s) = (l.nexts ≡ 0) × Quiet s

quiet_outward : (s : List Loop) → Quiet s → Quiet (outward s)
quiet_outward [] q = tt
quiet_outward (l ∷ s) q = q.1

quiet_nexts : (s : List Loop) → Quiet s → nexts_in s ≡ 0
quiet_nexts [] q = refl
quiet_nexts (l ∷ s) q = q.0

whole_quiet : (s : List Loop) → Quiet (outward s) → nexts_in s ≡ 0 → Quiet s
whole_quiet [] q e = tt
whole_quiet (l ∷ s) q e = (e, q)

-- the innermost loop's NEXTs are the last rows, and no loop around it has one
record Kept (t : List ℕ) (r : ℕ) : Type 0 where
  quiet : Quiet (outward (stack_at t r))
  fewer : nexts_in (stack_at t r) ≤ r
  stand : (j : ℕ) → j < nexts_in (stack_at t r) → (kind_at t (r - suc j) ≡ NEXT) × (body_of t (r - suc j) ≡ body_of t r)

-- behind a NEXT comes a NEXT or the END
behind_next : (b k : ℕ) → follows b k ≡ true → b ≡ NEXT → (k ≡ NEXT → ⊥) → (k ≡ END → ⊥) → ⊥
unfolding follows
behind_next b k h e n d =
    let z : ◌≡◌ {A = Bool} false true = rw (e, ne_eqb k NEXT n, ne_eqb k END d) at h in
    let y : ◌≡◌ {A = ℕ} 1 0 = ap (λ b. cond b 0 1) z in omega arith

row_follows : (t : List ℕ) (r : ℕ) → row_refusal t r ≡ 0 → follows (kind_before t r) (kind_at t r) ≡ true
unfolding place_right
row_follows t r e = first (follows (kind_before t r) (kind_at t r)) (stands (kind_at t r) (stack_at t r)) (passing_row_is_right t r e).place
  where
    first : (a b : Bool) → (a && b) ≡ true → a ≡ true
    first true b h = refl
    first false b h = h

before_is : (t : List ℕ) (r : ℕ) → 0 < r → kind_before t r ≡ kind_at t (r - 1)
before_is t zero h = absurd (omega arith)
before_is t (suc r) h = let e : suc r - 1 ≡ r = omega arith in rw e

-- so where another kind comes, no NEXT stands
no_nexts : (t : List ℕ) (r : ℕ) → row_refusal t r ≡ 0 → Kept t r → (kind_at t r ≡ NEXT → ⊥) → (kind_at t r ≡ END → ⊥) → nexts_in (stack_at t r) ≡ 0
no_nexts t r p K n d =
    elim (ℕ_discrete (nexts_in (stack_at t r)) 0) [
      | yes e ↦ e
      | no e ↦ absurd (behind_next (kind_before t r) (kind_at t r) (row_follows t r p) (before_is t r (omega (arith, K.fewer)) ∙ (K.stand 0 (omega arith)).0) n d)
    ]

quiet_kept : (t : List ℕ) (r : ℕ) → Quiet (outward (stack_at t r)) → nexts_in (stack_at t r) ≡ 0 → Kept t r
quiet_kept t r q e = record { quiet = q; fewer = omega arith; stand = λ j h. absurd (omega arith) }

-- one NEXT more, one ARG more
next_outward : (s : List Loop) → outward (at_head one_next s) ≡ outward s
next_outward [] = refl
next_outward (l ∷ s) = refl

next_counts : (s : List Loop) → nexts_in (at_head one_next s) ≤ suc (nexts_in s)
next_counts [] = omega arith
next_counts (l ∷ s) = omega arith

arg_outward : (s : List Loop) → outward (at_head one_arg s) ≡ outward s
arg_outward [] = refl
arg_outward (l ∷ s) = refl

arg_counts : (s : List Loop) → nexts_in (at_head one_arg s) ≡ nexts_in s
arg_counts [] = refl
arg_counts (l ∷ s) = refl

next_inner : (n : ℕ) (s : List Loop) → inner n (at_head one_next s) ≡ inner n s
next_inner n [] = refl
next_inner n (l ∷ s) = refl

one_more_lem : (t : List ℕ) (r : ℕ) → kind_at t r ≡ NEXT → body_of t (suc r) ≡ body_of t r → nexts_in (stack_at t (suc r)) ≤ suc (nexts_in (stack_at t r)) → Kept t r
    → (j : ℕ) → j < nexts_in (stack_at t (suc r)) → (kind_at t (suc r - suc j) ≡ NEXT) × (body_of t (suc r - suc j) ≡ body_of t (suc r))
one_more_lem t r n b h K zero l = let e : suc r - 1 ≡ r = omega arith in (rw e n, rw e (sym b))
one_more_lem t r n b h K (suc j) l =
    let e : suc r - suc (suc j) ≡ r - suc j = omega arith in
    let k = K.stand j (omega arith) in
    (rw e k.0, rw e (k.1 ∙ sym b))

kept_more : (t : List ℕ) (r : ℕ) → row_refusal t r ≡ 0 → Kept t r → Kept t (suc r)
unfolding stack_at after body_of
kept_more t r p K =
    elim (ℕ_discrete (kind_at t r) NEXT) [
      | yes n ↦ let e : stack_at t (suc r) ≡ at_head one_next (stack_at t r) = rw n in
          let h : nexts_in (stack_at t (suc r)) ≤ suc (nexts_in (stack_at t r)) = rw e (next_counts (stack_at t r)) in
          let b : body_of t (suc r) ≡ body_of t r = rw e (next_inner (size t) (stack_at t r)) in
          record {
            quiet = rw (e, next_outward (stack_at t r)) K.quiet;
            fewer = omega (arith, K.fewer);
            stand = one_more_lem t r n b h K;
          }
      | no n ↦ elim (ℕ_discrete (kind_at t r) END) [
        | yes d ↦ let e : stack_at t (suc r) ≡ outward (stack_at t r) = rw d in
            quiet_kept t (suc r) (rw e (quiet_outward (outward (stack_at t r)) K.quiet)) (rw e (quiet_nexts (outward (stack_at t r)) K.quiet))
        | no d ↦ let z = no_nexts t r p K n d in
            elim (ℕ_discrete (kind_at t r) FOR) [
              | yes f ↦ let e : stack_at t (suc r) ≡ opened r ∷ stack_at t r = rw f in
                  quiet_kept t (suc r) (rw e (whole_quiet (stack_at t r) K.quiet z)) (rw e)
              | no f ↦ elim (ℕ_discrete (kind_at t r) ARG) [
                | yes a ↦ let e : stack_at t (suc r) ≡ at_head one_arg (stack_at t r) = rw a in
                    quiet_kept t (suc r) (rw (e, arg_outward (stack_at t r)) K.quiet) (rw (e, arg_counts (stack_at t r)) z)
                | no a ↦ let e : stack_at t (suc r) ≡ stack_at t r = rw (ne_eqb _ FOR f, ne_eqb _ ARG a, ne_eqb _ NEXT n, ne_eqb _ END d) in
                    quiet_kept t (suc r) (rw e K.quiet) (rw e z)
              ]
            ]
      ]
    ]

kept : (t : List ℕ) (r : ℕ) → ((k : ℕ) → k < r → row_refusal t k ≡ 0) → Kept t r
unfolding stack_at
kept t zero p = quiet_kept t 0 tt refl
kept t (suc r) p = kept_more t r (p r (omega arith)) (kept t r (λ k h. p k (omega arith)))

-- WHERE ALL ROWS BEFORE ROW r PASS, THE NEXTS OF THE INNERMOST LOOP ARE THE ROWS DIRECTLY BEFORE r
pub nexts_stand_before : (t : List ℕ) (r : ℕ) → ((k : ℕ) → k < r → row_refusal t k ≡ 0)
    → (nexts_in (stack_at t r) ≤ r) × ((j : ℕ) → r - nexts_in (stack_at t r) ≤ j → j < r → (kind_at t j ≡ NEXT) × (body_of t j ≡ body_of t r))
nexts_stand_before t r p = ((kept t r p).fewer, λ j h l. each j h l)
  where
    each : (j : ℕ) → r - nexts_in (stack_at t r) ≤ j → j < r → (kind_at t j ≡ NEXT) × (body_of t j ≡ body_of t r)
    each j h l =
        let K = kept t r p in
        let e : r - suc (r - suc j) ≡ j = omega arith in
        let k = K.stand (r - suc j) (omega (arith, K.fewer)) in
        (rw (← e) k.0, rw (← e) k.1)

-- ---- the rows before a refused one

abbrev row_of : Refusal → ℕ
row_of x = x.row

rows_pass : (t : List ℕ) (m r0 number r : ℕ) → r0 + m ≡ size t → answer number r ≡ rows_from m t r0 → r < size t → (number ≡ 0 → ⊥)
    → (k : ℕ) → r0 ≤ k → k < r → row_refusal t k ≡ 0
unfolding rows_from
rows_pass t zero r0 number r s e l n k a b = last (end_right t) e
  where
    last : (c : Bool) → answer number r ≡ cond c (answer 0 0) (answer OPEN r0) → row_refusal t k ≡ 0
    last true e = let z : r ≡ 0 = ap row_of e in absurd (omega arith)
    last false e = let z : r ≡ r0 = ap row_of e in absurd (omega arith)
rows_pass t (suc m) r0 number r s e l n k a b =
    elim (ℕ_discrete (row_refusal t r0) 0) [
      | no z ↦ let i : r ≡ r0 = ap row_of (rw (ne_eqb _ 0 z) at e) in absurd (omega arith)
      | yes z ↦ elim (ℕ_discrete k r0) [
        | yes q ↦ rw q z
        | no q ↦ rows_pass t m (r0 + 1) number r (omega arith) (rw (eq-eqb _ 0 z) at e) l n k (omega arith) b
      ]
    ]

-- THE ROWS BEFORE A REFUSED ROW PASS
pub rows_before_pass : (t : List ℕ) (number r : ℕ) → answer number r ≡ table_refusal t → r < size t → (number ≡ 0 → ⊥) → (k : ℕ) → k < r → row_refusal t k ≡ 0
unfolding table_refusal
rows_before_pass t number r e l n k b = go (length_right t) e
  where
    go : (c : Bool) → answer number r ≡ cond c (rows_from (size t) t 0) (answer LENGTH 0) → row_refusal t k ≡ 0
    go true e = rows_pass t (size t) 0 number r (omega arith) e l n k (omega arith) b
    go false e = let z : r ≡ 0 = ap row_of e in absurd (omega arith)

-- ---- loops are told by their FOR rows

abbrev Fors : List ℕ → List Loop → Type 0
Fors t [] = Unit {0}
Fors t (l ∷ s) = (kind_at t l.row ≡ FOR) × Fors t s

fors_head : (t : List ℕ) (f : Loop → Loop) (s : List Loop) → ((l : Loop) → (f l).row ≡ l.row) → Fors t s → Fors t (at_head f s)
fors_head t f [] e h = tt
fors_head t f (l ∷ s) e h = (rw (e l) h.0, h.1)

fors_outward : (t : List ℕ) (s : List Loop) → Fors t s → Fors t (outward s)
fors_outward t [] h = tt
fors_outward t (l ∷ s) h = h.1

fors : (t : List ℕ) (r : ℕ) → Fors t (stack_at t r)
unfolding stack_at after
fors t zero = tt
fors t (suc r) = go (eqb (kind_at t r) FOR) (eqb (kind_at t r) ARG) (eqb (kind_at t r) NEXT) (eqb (kind_at t r) END) (eqb-true (kind_at t r) FOR) (stack_at t r) (fors t r)
  where
    go : (f a n d : Bool) → (f ≡ true → kind_at t r ≡ FOR) → (s : List Loop) → Fors t s
        → Fors t (cond f (opened r ∷ s) (cond a (at_head one_arg s) (cond n (at_head one_next s) (cond d (outward s) s))))
    go true a n d k s h = (k refl, h)
    go false true n d k s h = fors_head t one_arg s (λ l. refl) h
    go false false true d k s h = fors_head t one_next s (λ l. refl) h
    go false false false true k s h = fors_outward t s h
    go false false false false k s h = h

inner_is_for : (t : List ℕ) (n : ℕ) (s : List Loop) → Fors t s → (inner n s ≡ n) ⊎ (kind_at t (inner n s) ≡ FOR)
inner_is_for t n [] h = inl refl
inner_is_for t n (l ∷ s) h = inr h.0

-- A BODY IS THE OUTERMOST ONE, OR IS TOLD BY ITS FOR ROW
pub body_is_for : (t : List ℕ) (r : ℕ) → (body_of t r ≡ size t) ⊎ (kind_at t (body_of t r) ≡ FOR)
unfolding body_of
body_is_for t r = inner_is_for t (size t) (stack_at t r) (fors t r)

pub home_is_for : (t : List ℕ) (v : ℕ) → (home t v ≡ size t) ⊎ (kind_at t (home t v) ≡ FOR)
unfolding home home_by
home_is_for t v = go (leb (kind_at t v) CONST) (eqb (kind_at t v) FOR) (eqb (kind_at t v) NEXT) (eqb-true (kind_at t v) FOR)
  where
    go : (c f x : Bool) → (f ≡ true → kind_at t v ≡ FOR)
        → (cond c (size t) (cond f v (cond x (inner (size t) (outward (stack_at t v))) (inner (size t) (stack_at t v)))) ≡ size t)
        ⊎ (kind_at t (cond c (size t) (cond f v (cond x (inner (size t) (outward (stack_at t v))) (inner (size t) (stack_at t v))))) ≡ FOR)
    go true f x k = inl refl
    go false true x k = inr (k refl)
    go false false true k = inner_is_for t (size t) (outward (stack_at t v)) (fors_outward t (stack_at t v) (fors t v))
    go false false false k = inner_is_for t (size t) (stack_at t v) (fors t v)
