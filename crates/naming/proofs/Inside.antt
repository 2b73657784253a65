-- Whether a body lies in a loop, found going outward; and which values a loop carries, by marks.
--
--   inside_outward        a body lies in a loop if it is that loop, or the body around it lies in it
--   body_around, home_is_body             bodies all the way
--   mark_more, row_marked, row_passed     one operand, one row more is looked at
--   carried_by_marks      carried: marked, and at home outside
--
-- Assumes nothing.
use Prim.Native.Nat.{ℕ, ◌+◌, ◌<◌, ◌≤◌}
use mathlib.Core.Path.{◌≡◌, refl, sym, ap, ap₂, ◌∙◌, subst}
use mathlib.Core.Logic.{◌≢◌, inl, inr}
use mathlib.Core.Bool.{Bool, true, false, cond, not, ◌&&◌, ◌||◌}
use mathlib.Core.List.{List, [], ◌∷◌}
use native.Mathlib.Omega.{arith}
use native.Mathlib.Numerals.{add-one}
use native.Mathlib.Decide.{ℕ_discrete, dec_le}
use borrow.Author.Tests.{eq-eqb, ne_eqb}
use lib.Dec.{eqb}
use lib.ListN.{length, get_or, set, length-set, replicate, get_or-replicate, length-replicate}
use lib.Seq.{get_or-set_same, get_or-set_other}
use Rattle.word.specs.Words.{flag}
use Rattle.table.specs.Rows.{kind_at, size, operand_count}
use Rattle.table.specs.Scan.{Loop, inner, stack_at, body_of, reads, home, holds}
use Rattle.table.specs.Bodies.{operand}
use Rattle.table.specs.Right.{TableRight}
use Rattle.structure.specs.Depth.{depth, depth_falls}
use Rattle.structure.specs.Loops.{innermost}
use Rattle.structure.specs.Operands.{home_here}
use Rattle.structure.specs.Order.{nothing_left_open}
use Rattle.structure.specs.Structure.{Structure, right_table_has_structure}
use Rattle.lowered.specs.Gathered.{some?}
use Rattle.lowered.specs.Sources.{inside, names, carried}
use Rattle.laid.specs.Scanned.{around_body, reads_body_or_rim}
use Rattle.carrying.specs.Kept.{Passing, Bodies}
use Rattle.naming.specs.Carried.{Body, Marked, named_in, Marks}

at_rim : (t : List ℕ) → stack_at t (size t) ≡ [] → body_of t (size t) ≡ size t
unfolding body_of
at_rim t e = rw e

not_here : (t : List ℕ) (L x : ℕ) → x ≢ L → inside t L x ≡ holds L (stack_at t x)
unfolding inside
not_here t L x d = rw (ne_eqb x L d)

names_are : (t : List ℕ) (r v : ℕ) → some? (λ j. eqb (operand t r j) v) (operand_count (kind_at t r)) ≡ names t r v
unfolding names
names_are t r v = refl

named_is : (t : List ℕ) (L v : ℕ) → named_in t L v (size t) ≡ some? (λ r. inside t L (reads t r) && names t r v) (size t)
unfolding named_in
named_is t L v = refl

unflag : (b : Bool) → eqb (flag b) 1 ≡ b
unflag true = refl
unflag false = refl

-- ---- bodies

module _ (t : List ℕ) (n : ℕ) (P : Passing t n) where
  S : Structure t
  S = right_table_has_structure t P.right

  pub reads_is_body : (r : ℕ) → r < n → Body t (reads t r)
  reads_is_body r l = let e = P.rows in reads_body_or_rim t S r (omega arith)

  pub operands_low : (r count : ℕ) → r < n → count ≡ operand_count (kind_at t r) → (j : ℕ) → j < count → operand t r j < 512
  operands_low r count l e j h =
      let m = P.rows in
      let f = P.few in
      let b = (S.operands r j (omega arith) (omega arith)).before in
      omega arith

  -- the body around a loop, as it is noted
  pub body_around : (x y : ℕ) (bodies : List ℕ) → Bodies t n bodies → Body t x → x ≢ n → y ≡ get_or bodies x 0 → Body t y × (y ≡ body_of t x) × (x < n)
  body_around x y bodies B (inl e) d h = absurd (d (e ∙ sym P.rows))
  body_around x y bodies B (inr q) d h =
      let l = q.0 in
      let m = P.rows in
      let e : y ≡ body_of t x = h ∙ B.body x (omega arith) in
      (subst (Body t) (sym e) (around_body t S x q.0), e, omega arith)

  -- and lies less deep
  pub outward_less : (x y : ℕ) → Body t x → x ≢ n → y ≡ body_of t x → depth t y < depth t x
  outward_less x y b d e = go b
    where
      go : Body t x → depth t y < depth t x
      go (inl q) = absurd (d (q ∙ sym P.rows))
      go (inr q) = let f = depth_falls t P.right x q.0 in let z : depth t y ≡ depth t (body_of t x) = ap (depth t) e in omega arith

  pub home_is_body : (v : ℕ) → v < n → Body t (home t v)
  home_is_body v l = go (ℕ_discrete (kind_at t v) 4) (ℕ_discrete (kind_at t v) 6) (dec_le (kind_at t v) 1)
    where
      low : v < size t
      low = let m = P.rows in omega arith

      further : Body t (body_of t v) → Body t (body_of t (body_of t v))
      further (inl e) = inl (ap (body_of t) e ∙ at_rim t S.all_shut)
      further (inr q) = around_body t S (body_of t v) q.0

      go : Dec (kind_at t v ≡ 4) → Dec (kind_at t v ≡ 6) → Dec (kind_at t v ≤ 1) → Body t (home t v)
      go (yes e) d c = inr (subst (λ (x : ℕ). (x < size t) × (kind_at t x ≡ 4)) (sym (S.for_home v e)) (low, e))
      go (no a) (yes e) c = subst (Body t) (sym (S.next_home v low e)) (further (around_body t S v low))
      go (no a) (no b) (yes c) = inl (S.start_home v c)
      go (no a) (no b) (no c) = subst (Body t) (sym (home_here t v (omega arith) a b)) (around_body t S v low)

-- ---- going outward

-- what a body's stack says of the body around it
holds_outward : (t : List ℕ) → TableRight t → (L x : ℕ) → L < size t → x ≤ size t → holds L (stack_at t x) ≡ inside t L (body_of t x)
unfolding inside body_of
holds_outward t ok L x l lx = go (stack_at t x) refl
  where
    same : (b c : Bool) → cond b true c ≡ b || c
    same true c = refl
    same false c = refl

    go : (s : List Loop) → stack_at t x ≡ s → holds L s ≡ eqb (inner (size t) s) L || holds L (stack_at t (inner (size t) s))
    go [] e = rw (ne_eqb (size t) L (λ z. omega arith), nothing_left_open t ok)
    go (m ∷ s) e = rw (innermost t ok x lx m s e).around (same (eqb m.row L) (holds L s))

module _ (t : List ℕ) (n : ℕ) (P : Passing t n) (L : ℕ) (l : L < n) where
  -- at the rim
  pub outside_all : (x : ℕ) → x ≡ n → inside t L x ≡ false
  unfolding inside
  outside_all x e =
      let m = P.rows in
      let z : x ≡ size t = e ∙ m in
      rw (z, ne_eqb (size t) L (λ q. omega arith), nothing_left_open t P.right)

  pub inside_here : (x : ℕ) → x ≡ L → inside t L x ≡ true
  unfolding inside
  inside_here x e = rw (eq-eqb x L e)

  pub inside_outward : (x y : ℕ) → x < n → x ≢ L → y ≡ body_of t x → inside t L x ≡ inside t L y
  inside_outward x y lx d e =
      let m = P.rows in
      not_here t L x d ∙ holds_outward t P.right L x (omega arith) (omega arith) ∙ ap (inside t L) (sym e)

-- ---- marks

some_or : (test : ℕ → Bool) (k : ℕ) → some? test (k + 1) ≡ test k || some? test k
unfolding some?
some_or test k = rw (add-one k)

or_cond : (a b : Bool) (x : ℕ) → cond (a || b) 1 x ≡ cond a 1 (cond b 1 x)
or_cond true b x = refl
or_cond false b x = refl

pub none_marked : (t : List ℕ) (r : ℕ) (marks : List ℕ) → length marks ≡ 512 → Marked t r 0 marks marks
unfolding some?
none_marked t r marks l = record { long = l; mark = λ v h. refl }

-- one operand more
pub mark_more : (t : List ℕ) (r j v : ℕ) (before after : List ℕ) → Marked t r j before after → v ≡ operand t r j → v < 512 → Marked t r (j + 1) before (set after v 1)
mark_more t r j v before after M e l = record { long = length-set after v 1 ∙ M.long; mark = mark }
  where
    is : (u : ℕ) → u < 512 → Dec (v ≡ u) → get_or (set after v 1) u 0 ≡ cond (eqb v u) 1 (get_or after u 0)
    is u h (yes q) = let n = M.long in subst (λ (x : ℕ). get_or (set after v 1) x 0 ≡ cond (eqb v x) 1 (get_or after x 0)) q (rw (eq-eqb v v refl) (get_or-set_same after v 1 0 (omega arith)))
    is u h (no q) = rw (ne_eqb v u q) (get_or-set_other after v u 1 0 (λ z. q (sym z)))

    mark : (u : ℕ) → u < 512 → get_or (set after v 1) u 0 ≡ cond (some? (λ i. eqb (operand t r i) u) (j + 1)) 1 (get_or before u 0)
    mark u h =
        is u h (ℕ_discrete v u) ∙ ap₂ (λ (x y : ℕ). cond (eqb x u) 1 y) e (M.mark u h)
        ∙ sym (ap (λ (b : Bool). cond b 1 (get_or before u 0)) (some_or (λ i. eqb (operand t r i) u) j) ∙ or_cond (eqb (operand t r j) u) (some? (λ i. eqb (operand t r i) u) j) (get_or before u 0))

module _ (t : List ℕ) (L : ℕ) where
  pub no_marks : Marks t L 0 (replicate 512 0)
  unfolding named_in some?
  no_marks = record { long = length-replicate {A = ℕ} 512 0; mark = λ v h. get_or-replicate {A = ℕ} 512 v 0 0 h }

  next_named_lem : (v r : ℕ) → named_in t L v (r + 1) ≡ (inside t L (reads t r) && names t r v) || named_in t L v r
  unfolding named_in
  next_named_lem v r = some_or (λ q. inside t L (reads t q) && names t q v) r

  flag_or : (a b : Bool) → flag (a || b) ≡ cond a 1 (flag b)
  flag_or true b = refl
  flag_or false b = refl

  -- a row that reads in the loop
  pub row_marked : (r count : ℕ) {b : Bool} (before after : List ℕ) → Marks t L r before → b ≡ inside t L (reads t r) → b ≡ true → count ≡ operand_count (kind_at t r) → Marked t r count before after
      → Marks t L (r + 1) after
  row_marked r count before after M e y c D =
      record { long = D.long; mark = λ v h. D.mark v h ∙ ap₂ (λ (a : Bool) (x : ℕ). cond a 1 x) (all v) (M.mark v h) ∙ sym (ap flag (next_named_lem v r) ∙ flag_or (inside t L (reads t r) && names t r v) (named_in t L v r)) }
    where
      all : (v : ℕ) → some? (λ j. eqb (operand t r j) v) count ≡ inside t L (reads t r) && names t r v
      all v = ap (some? (λ j. eqb (operand t r j) v)) c ∙ names_are t r v ∙ ap (λ (a : Bool). a && names t r v) (sym y ∙ e)

  -- a row that does not
  pub row_passed : (r : ℕ) {b : Bool} (marks : List ℕ) → Marks t L r marks → b ≡ inside t L (reads t r) → b ≡ false → Marks t L (r + 1) marks
  row_passed r marks M e y =
      record { long = M.long; mark = λ v h. M.mark v h ∙ sym (ap flag (next_named_lem v r ∙ ap (λ (a : Bool). (a && names t r v) || named_in t L v r) (sym e ∙ y))) }

  pub carried_by_marks : (n v : ℕ) {b : Bool} (marks : List ℕ) → Passing t n → v < n → Marks t L n marks → b ≡ inside t L (home t v) → b ≡ false → eqb (get_or marks v 0) 1 ≡ carried t L v
  unfolding carried
  carried_by_marks n v marks P l M e y =
      let f = P.few in
      ap (λ (x : ℕ). eqb x 1) (M.mark v (omega arith) ∙ ap (λ (k : ℕ). flag (named_in t L v k)) P.rows) ∙ unflag (named_in t L v (size t)) ∙ named_is t L v ∙ sym (ap (λ (a : Bool). not a && some? (λ r. inside t L (reads t r) && names t r v) (size t)) (sym e ∙ y))

  pub at_home_inside : (v : ℕ) {b : Bool} → b ≡ inside t L (home t v) → b ≡ true → false ≡ carried t L v
  unfolding carried
  at_home_inside v e y = sym (ap (λ (a : Bool). not a && some? (λ r. inside t L (reads t r) && names t r v) (size t)) (sym e ∙ y))
