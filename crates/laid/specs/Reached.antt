-- Where values come from in a table that passes: each value that a use names is at home in the body in which it is read, or carried
-- into that body; and so is each copy's own source, one loop further out.
--
--   Carries                       what it means to be carried into a loop
--   Reached                       a value at home in a body, or carried into it
--   operand_is_reached            of every operand
--   copy_is_reached               of the source of every copy
--
-- Assumes nothing.
use Rattle.std.specs.Prelude.{ℕ, zero, suc, ◌≤◌, ◌<◌, ◌≡◌, ◌≢◌, ◌⊎◌, Bool, ◌&&◌, ◌||◌, List}
use Rattle.std.proofs.Math.Path.{refl}
use Rattle.std.proofs.Common.{sym, ap, ◌∙◌, subst, arith}
use Rattle.std.proofs.Math.Logic.{inl, inr}
use Rattle.std.proofs.Math.Bool.{true, false, not}
use Rattle.std.proofs.Math.Decide.{ℕ_discrete, dec_lt}
use borrow.Author.Tests.{eqb-true, eqb-false, eq-eqb, ne_eqb}
use Rattle.std.proofs.Math.Dec.{eqb}
use Rattle.table.specs.Rows.{kind_at, size, operand_count}
use Rattle.table.specs.Scan.{stack_at, body_of, reads, home, holds}
use Rattle.table.specs.Bodies.{operand, end_of}
use Rattle.structure.specs.Spans.{open_is_for, Encloses, same, inside as within, outermost}
use Rattle.structure.specs.Structure.{Structure, in_table}
use Rattle.lowered.specs.Gathered.{some?}
use Rattle.lowered.specs.Sources.{inside, names, carried}
use Rattle.laid.specs.Listed.{and_true, and_both, no_both}
use Rattle.laid.specs.Lists.{below_or_last}

over : (a b : ℕ) → (a < b → ⊥) → b ≤ a
over a b p = omega arith

-- ---- one of the rows
pub some_from : (test : ℕ → Bool) (n : ℕ) → some? test n ≡ true → (i : ℕ) × (i < n) × (test i ≡ true)
unfolding some?
some_from test zero e = no_both true refl (sym e)
some_from test (suc n) e = go (test n) refl e (some_from test n)
  where
    go : (b : Bool) → test n ≡ b → b || some? test n ≡ true → (some? test n ≡ true → (i : ℕ) × (i < n) × (test i ≡ true)) → (i : ℕ) × (i < suc n) × (test i ≡ true)
    go true q k ih = (n, omega arith, q)
    go false q k ih = let r = ih k in let l = r.1 in (r.0, omega arith, r.2)

pub some_has : (test : ℕ → Bool) (n i : ℕ) → i < n → test i ≡ true → some? test n ≡ true
unfolding some?
some_has test zero i h e = absurd (omega arith)
some_has test (suc n) i h e = go (test n) refl (below_or_last i n h) (λ l. some_has test n i l e)
  where
    go : (b : Bool) → test n ≡ b → (i < n) ⊎ (i ≡ n) → (i < n → some? test n ≡ true) → b || some? test n ≡ true
    go true q k ih = refl
    go false q (inl l) ih = ih l
    go false q (inr d) ih = no_both (test n) (ap test (sym d) ∙ e) q

-- ---- inside and outside a loop
module _ (t : List ℕ) where
  pub inside_cases : (L B : ℕ) → inside t L B ≡ true → (B ≡ L) ⊎ (holds L (stack_at t B) ≡ true)
  unfolding inside
  inside_cases L B e = go (eqb B L) refl e
    where
      go : (b : Bool) → eqb B L ≡ b → b || holds L (stack_at t B) ≡ true → (B ≡ L) ⊎ (holds L (stack_at t B) ≡ true)
      go true q k = inl (eqb-true B L q)
      go false q k = inr k

  pub inside_at : (L : ℕ) → inside t L L ≡ true
  unfolding inside
  inside_at L = rw (eq-eqb L L refl)

  pub inside_by : (L B : ℕ) → holds L (stack_at t B) ≡ true → inside t L B ≡ true
  unfolding inside
  inside_by L B h = go (eqb B L)
    where
      go : (b : Bool) → b || holds L (stack_at t B) ≡ true
      go true = refl
      go false = h

  outside_by : (L B : ℕ) → B ≢ L → holds L (stack_at t B) ≡ false → not (inside t L B) ≡ true
  unfolding inside
  outside_by L B n h = rw (ne_eqb B L n, h)

  outside_is : (L B : ℕ) → not (inside t L B) ≡ true → (B ≢ L) × (holds L (stack_at t B) ≡ false)
  unfolding inside
  outside_is L B e = go (eqb B L) (holds L (stack_at t B)) refl refl e
    where
      go : (a b : Bool) → eqb B L ≡ a → holds L (stack_at t B) ≡ b → not (a || b) ≡ true → (B ≢ L) × (holds L (stack_at t B) ≡ false)
      go true b p q k = no_both true refl (sym k)
      go false true p q k = no_both true refl (sym k)
      go false false p q k = (eqb-false B L p, q)

  not_held : (L B : ℕ) → (holds L (stack_at t B) ≡ true → ⊥) → holds L (stack_at t B) ≡ false
  not_held L B n = go (holds L (stack_at t B)) refl
    where
      go : (b : Bool) → holds L (stack_at t B) ≡ b → b ≡ false
      go true q = absurd (n q)
      go false q = refl

  -- value v is carried into L, by operand `place` of row `row`
  pub record Carries (L v : ℕ) : Type 0 where
    pub away : home t v ≢ L
    pub unheld : holds L (stack_at t (home t v)) ≡ false
    pub row : ℕ
    pub place : ℕ
    pub row_below_lem : row < size t
    pub place_below : place < operand_count (kind_at t row)
    pub is : operand t row place ≡ v
    pub deep : inside t L (reads t row) ≡ true

  pub carried_by : (L v : ℕ) → carried t L v ≡ true → Carries L v
  unfolding carried names
  carried_by L v e =
      let p = and_both (not (inside t L (home t v))) (some? (λ r. inside t L (reads t r) && names t r v) (size t)) e in
      let o = outside_is L (home t v) p.0 in
      let r = some_from (λ r. inside t L (reads t r) && names t r v) (size t) p.1 in
      let q = and_both (inside t L (reads t r.0)) (names t r.0 v) r.2 in
      let j = some_from (λ j. eqb (operand t r.0 j) v) (operand_count (kind_at t r.0)) q.1 in
      record {
        away = o.0;
        unheld = o.1;
        row = r.0;
        place = j.0;
        row_below_lem = r.1;
        place_below = j.1;
        is = eqb-true (operand t r.0 j.0) v j.2;
        deep = q.0;
      }

  pub carried_is : (L v r j : ℕ) → home t v ≢ L → holds L (stack_at t (home t v)) ≡ false → r < size t → j < operand_count (kind_at t r) → operand t r j ≡ v
      → inside t L (reads t r) ≡ true → carried t L v ≡ true
  unfolding carried names
  carried_is L v r j n h lr lj e i =
      and_true (not (inside t L (home t v))) (some? (λ r. inside t L (reads t r) && names t r v) (size t)) (outside_by L (home t v) n h)
      (some_has (λ r. inside t L (reads t r) && names t r v) (size t) r lr
      (and_true (inside t L (reads t r)) (names t r v) i (some_has (λ j. eqb (operand t r j) v) (operand_count (kind_at t r)) j lj (eq-eqb (operand t r j) v e))))

module _ (t : List ℕ) (S : Structure t) where
  pub reads_loop : (r : ℕ) → r < size t → reads t r ≢ size t → (kind_at t (reads t r) ≡ 4) × (reads t r < size t)
  reads_loop r less n = elim (ℕ_discrete (kind_at t r) 5) [ yes k ↦ of_arg k | no k ↦ of_row k ]
    where
      loop : (q : ℕ) → q < size t → reads t r ≡ body_of t q → (kind_at t (reads t r) ≡ 4) × (reads t r < size t)
      loop q l e =
          let b = S.body_loop q (omega arith) (λ d. n (e ∙ d)) in
          let low = b.low in
          (ap (kind_at t) e ∙ b.is_for_lem, omega arith)

      of_arg : kind_at t r ≡ 5 → (kind_at t (reads t r) ≡ 4) × (reads t r < size t)
      of_arg k = let a = S.arg_row r less k in let low = a.low in loop (body_of t r) (omega arith) (S.arg_reads r less k)

      of_row : kind_at t r ≢ 5 → (kind_at t (reads t r) ≡ 4) × (reads t r < size t)
      of_row k = loop r less (S.reads_body r k)

  abbrev pub Reached : ℕ → ℕ → Type 0
  Reached v B = (home t v ≡ B) ⊎ ((carried t B v ≡ true) × (kind_at t B ≡ 4))

  nothing_open : (B : ℕ) → holds B (stack_at t (size t)) ≡ false
  nothing_open B = rw S.all_shut

  pub operand_is_reached : (r j : ℕ) → r < size t → j < operand_count (kind_at t r) → Reached (operand t r j) (reads t r)
  operand_is_reached r j lr lj = elim (ℕ_discrete (home t v) (reads t r)) [ yes e ↦ inl e | no n ↦ go n (S.operands r j lr lj).at_home ]
    where
      v : ℕ
      v = operand t r j

      into_loop : home t v ≢ reads t r → reads t r ≢ size t → holds (reads t r) (stack_at t (home t v)) ≡ false → Reached v (reads t r)
      into_loop n m h = inr (carried_is t (reads t r) v r j n h lr lj refl (inside_at t (reads t r)), (reads_loop r lr m).0)

      go : home t v ≢ reads t r → Encloses t (home t v) (reads t r) → Reached v (reads t r)
      go n (same e) = inl e
      go n (within k low high) =
          let s = S.loop_span (home t v) (in_table t S (home t v) (λ z. omega arith)) k in
          let end-in = s.inside in
          into_loop n (λ z. omega arith) (not_held t (reads t r) (home t v) (λ h. let o = (open_is_for t (home t v) (reads t r) h).0 in omega arith))
      go n (outermost e) = into_loop n (λ z. n (e ∙ sym z)) (ap (λ (x : ℕ). holds (reads t r) (stack_at t x)) e ∙ nothing_open (reads t r))

  -- what lies in L lies in the loop around L
  further_out : (L x : ℕ) → L < size t → kind_at t L ≡ 4 → body_of t L ≢ size t → inside t L x ≡ true → inside t (body_of t L) x ≡ true
  further_out L x less k n i =
      let b = S.body_loop L (omega arith) n in
      let low = b.low in
      let P = S.loop_span (body_of t L) (omega arith) b.is_for_lem in
      elim (inside_cases t L x i) [
        | inl e ↦ inside_by t (body_of t L) x (P.open_in x (omega (arith, b.low)) (omega (arith, b.high)))
        | inr h ↦ let o = (S.loop_span L less k).open_only x h in
            let o0 = o.0 in
            let o1 = o.1 in
            let m = (S.nest (body_of t L) L less b.is_for_lem k b.low b.high).1 in
            inside_by t (body_of t L) x (P.open_in x (omega arith) (omega arith))
      ]

  -- 'the copy takes from the wire of v in the body around, so its origin is found loop by loop going outward'
  pub copy_is_reached : (L v : ℕ) → L < size t → kind_at t L ≡ 4 → carried t L v ≡ true → Reached v (reads t L)
  copy_is_reached L v less k c = subst (Reached v) (sym (S.reads_body L (λ z. omega arith))) (elim (ℕ_discrete (home t v) (body_of t L)) [ yes e ↦ inl e | no n ↦ go n ])
    where
      C : Carries t L v
      C = carried_by t L v c

      H : ℕ
      H = home t v

      around : H ≢ body_of t L → body_of t L ≢ size t → holds (body_of t L) (stack_at t H) ≡ false → Reached v (body_of t L)
      around n m h =
          inr (
            carried_is t (body_of t L) v C.row C.place n h C.row_below_lem C.place_below C.is (further_out L (reads t C.row) less k m C.deep),
            (S.body_loop L (omega arith) m).is_for_lem,
          )

      -- H is a loop around L
      by_loop : H ≢ body_of t L → kind_at t H ≡ 4 → H < L → L ≤ end_of t H → Reached v (body_of t L)
      by_loop n kH low high = out (S.body_inmost L H (omega arith) (in_table t S H (λ z. omega arith)) (record { is_for_lem = kH; low = low; high = high }))
        where
          out : Encloses t H (body_of t L) → Reached v (body_of t L)
          out (same e) = inl e
          out (within q a b) =
              let s = S.loop_span H (in_table t S H (λ z. omega arith)) kH in
              let end-in = s.inside in
              around n (λ z. omega arith) (not_held t (body_of t L) H (λ h. let o = (open_is_for t H (body_of t L) h).0 in omega arith))
          out (outermost e) = absurd (omega arith)

      below_loop : kind_at t H ≡ 4 → H < reads t C.row → reads t C.row ≤ end_of t H → (H < L) × (L ≤ end_of t H)
      below_loop kH a b =
          elim (inside_cases t L (reads t C.row) C.deep) [
            | inl e ↦ (omega arith, omega arith)
            | inr h ↦ let o = (S.loop_span L less k).open_only (reads t C.row) h in
                let o0 = o.0 in
                let o1 = o.1 in
                elim (dec_lt H L) [
                  | yes p ↦ (p, omega arith)
                  | no p ↦ absurd (no_both (holds L (stack_at t H)) ((S.loop_span L less k).open_in H (strict (over H L p) C.away) (omega arith)) C.unheld)
                ]
          ]
        where
          strict : L ≤ H → H ≢ L → L < H
          strict p q = omega arith

      go : H ≢ body_of t L → Reached v (body_of t L)
      go n = by (subst (λ (x : ℕ). Encloses t (home t x) (reads t C.row)) C.is (S.operands C.row C.place C.row_below_lem C.place_below).at_home)
        where
          by : Encloses t H (reads t C.row) → Reached v (body_of t L)
          by (same e) =
              elim (inside_cases t L (reads t C.row) C.deep) [
                | inl d ↦ absurd (C.away (e ∙ d))
                | inr h ↦ absurd (no_both (holds L (stack_at t H)) (ap (λ (x : ℕ). holds L (stack_at t x)) e ∙ h) C.unheld)
              ]
          by (within kH a b) = let z = below_loop kH a b in by_loop n kH z.0 z.1
          by (outermost e) = around n (λ z. n (e ∙ sym z)) (ap (λ (x : ℕ). holds (body_of t L) (stack_at t x)) e ∙ nothing_open (body_of t L))
