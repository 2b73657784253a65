-- A loop's ARGs are the rows behind its FOR and its NEXTs those before its END, as many: so what a turn sets and what leaving sets are rows copied.
-- Assumes nothing.
use Prim.Native.Nat.{ℕ, suc, ◌+◌, ◌-◌, ◌≤◌, ◌<◌}
use mathlib.Core.Bool.{true, cond}
use mathlib.Core.List.{List}
use mathlib.Core.Path.{◌≡◌, refl, sym, ap, ◌∙◌}
use mathlib.Core.Logic.{◌≢◌}
use native.Mathlib.Omega.{arith}
use native.Mathlib.Decide.{ℕ_discrete}
use borrow.Author.Tests.{eqb-true, eq-eqb}
use lib.Dec.{eqb}
use Rattle.table.specs.Rows.{kind_at, word, size}
use Rattle.table.specs.Scan.{body_of}
use Rattle.table.specs.Bodies.{end_of, args_from, args_of, first_of, is_arg, is_next, arg_of, next_of}
use Rattle.table.specs.Right.{TableRight}
use Rattle.structure.specs.Place.{both}
use Rattle.structure.specs.Serving.{args_least}
use Rattle.structure.specs.Structure.{Structure, right_table_has_structure, in_table}
use Rattle.reading.specs.Reading.{Env, set_row, turn, leave, named, next_named, arg_named}
use Rattle.turning.specs.Words.{copied, Source, Copies, LoopAt}
use Rattle.turning.proofs.Naming.{arg_names, next_names}
use Rattle.turning.proofs.Copying.{placed_by}

-- ---- the row behind the ARGs
module _ (t : List ℕ) (ok : TableRight t) (L : ℕ) (l : L < size t) (k : kind_at t L ≡ 4) where
  abbrev T : Structure t
  T = right_table_has_structure t ok

  args_are_counted : suc (args_of t L) ≤ size t - suc L → kind_at t (suc L + args_of t L) ≡ 5 → ((a : ℕ) → suc L ≤ a → a < suc L + args_of t L → kind_at t a ≡ 5) → ⊥
  unfolding args_of
  args_are_counted room e all =
      let n = args_from (size t - suc L) t (suc L) in
      let m = args_least t (size t - suc L) (suc L) (suc n) room (λ a p q. elim (ℕ_discrete a (suc L + n)) [ yes d ↦ ap (kind_at t) d ∙ e | no d ↦ all a p (under a n d q) ]) in
      omega arith
    where
      under : (a n : ℕ) → a ≢ suc L + n → a < suc L + suc n → a < suc L + n
      under a n d q = omega arith

  first_is_no_arg : kind_at t (first_of t L) ≡ 5 → ⊥
  unfolding first_of
  first_is_no_arg e =
      let f = (T.loop_first L l k).1 in
      let s = (T.loop_span L l k).inside in
      args_are_counted (omega arith) e (λ a p q. (T.loop_args L a l k p q).0)

  pub first_inside_table : (r : ℕ) → r ≤ first_of t L → (r < size t) × (r < 512)
  first_inside_table r h =
      let f = (T.loop_first L l k).1 in
      let s = (T.loop_span L l k).inside in
      let w = T.few in
      (omega arith, omega arith)

  pub one_arg_more : (r x : ℕ) → r ≤ first_of t L → x ≡ kind_at t r → x ≡ 5 → r + 1 ≤ first_of t L
  one_arg_more r x h a b = below r h (λ e. first_is_no_arg (ap (kind_at t) (sym e) ∙ sym a ∙ b))
    where
      below : (r : ℕ) → r ≤ first_of t L → r ≢ first_of t L → r + 1 ≤ first_of t L
      below r h n = omega arith

  pub first_found : (r x : ℕ) → L < r → r ≤ first_of t L → x ≡ kind_at t r → x ≢ 5 → r ≡ first_of t L
  first_found r x low high a n = let p = T.past_args L r (λ e. n (a ∙ e)) low in omega arith

  pub first_above : L + 1 ≤ first_of t L
  first_above = let f = (T.loop_first L l k).0 in omega arith

module _ (t : List ℕ) (L first : ℕ) (at : LoopAt t L first) where
  abbrev S : Structure t
  S = right_table_has_structure t at.right

  -- ---- the places
  record Places : Type 0 where
    args : first ≡ suc L + args_of t L
    below : first ≤ end_of t L
    inside : end_of t L < size t
    few : size t ≤ 512

  args_counted : first_of t L ≡ suc L + args_of t L
  unfolding first_of
  args_counted = refl

  places : Places
  places =
      record {
        args = at.first_row ∙ args_counted;
        below = let f = (S.loop_first L at.row at.is_for_lem).1 in let q = at.first_row in omega arith;
        inside = (S.loop_span L at.row at.is_for_lem).inside;
        few = S.few;
      }

  pub first_inside : (L + 1 ≤ first) × (first ≤ end_of t L) × (end_of t L < size t) × (size t ≤ 512)
  first_inside = let p = places in let a = p.args in (omega arith, p.below, p.inside, p.few)

  -- ---- ARGs
  is_arg_lem : (r : ℕ) → kind_at t r ≡ 5 → body_of t r ≡ L → is_arg t L r ≡ true
  unfolding is_arg
  is_arg_lem r k b = rw (k, eq-eqb (body_of t r) L b)

  arg_is : (r : ℕ) → is_arg t L r ≡ true → (kind_at t r ≡ 5) × (body_of t r ≡ L)
  unfolding is_arg
  arg_is r h = let q = both (eqb (kind_at t r) 5) (eqb (body_of t r) L) h in (eqb-true (kind_at t r) 5 q.0, eqb-true (body_of t r) L q.1)

  arg_there : (r : ℕ) → L + 1 ≤ r → r < L + 1 + (first - (L + 1)) → (kind_at t r ≡ 5) × (body_of t r ≡ L)
  arg_there r a b = let p = first_inside.0 in let q = at.first_row in S.loop_args L r at.row at.is_for_lem (omega arith) (omega arith)

  arg_found : (r : ℕ) → is_arg t L r ≡ true → (L + 1 ≤ r) × (r < L + 1 + (first - (L + 1)))
  arg_found r h =
      let q = arg_is r h in
      let a = S.arg_row r (in_table t S r (λ e. let k = q.0 in omega arith)) q.0 in
      let low = a.low in
      let high = a.high in
      let b = q.1 in
      let f = ap (first_of t) b in
      let g = at.first_row in
      (omega arith, omega arith)

  -- ---- NEXTs
  next_place : (a : ℕ) → body_of t a ≡ L → L < a → next_of t a ≡ end_of t L - (first - (L + 1)) + (a - (L + 1))
  unfolding next_of
  next_place a b l = let p = places.args in let q = ap (args_of t) b in let e = ap (end_of t) b in omega arith

  is_next_lem : (r : ℕ) → kind_at t r ≡ 6 → body_of t r ≡ L → is_next t L r ≡ true
  unfolding is_next
  is_next_lem r k b = rw (k, eq-eqb (body_of t r) L b)

  next_is : (r : ℕ) → is_next t L r ≡ true → (kind_at t r ≡ 6) × (body_of t r ≡ L)
  unfolding is_next
  next_is r h = let q = both (eqb (kind_at t r) 6) (eqb (body_of t r) L) h in (eqb-true (kind_at t r) 6 q.0, eqb-true (body_of t r) L q.1)

  -- the NEXT at row r serves the ARG that stands as far behind the first
  abbrev arg_at : ℕ → ℕ
  arg_at r = L + 1 + (r - (end_of t L - (first - (L + 1))))

  served : (r : ℕ) → end_of t L - (first - (L + 1)) ≤ r → r < end_of t L - (first - (L + 1)) + (first - (L + 1)) → next_of t (arg_at r) ≡ r
  served r a b =
      let p = first_inside.0 in
      let w = arg_there (arg_at r) (omega arith) (omega arith) in
      let n = next_place (arg_at r) w.1 (omega arith) in
      omega arith

  next_there : (r : ℕ) → end_of t L - (first - (L + 1)) ≤ r → r < end_of t L - (first - (L + 1)) + (first - (L + 1)) → (kind_at t r ≡ 6) × (body_of t r ≡ L)
  next_there r a b =
      let p = first_inside.0 in
      let w = arg_there (arg_at r) (omega arith) (omega arith) in
      let A = S.arg_row (arg_at r) (in_table t S (arg_at r) (λ e. let k = w.0 in omega arith)) w.0 in
      let e = served r a b in
      (ap (kind_at t) (sym e) ∙ A.next_kind, ap (body_of t) (sym e) ∙ A.next_body ∙ w.1)

  record Serves (r : ℕ) : Type 0 where
    arg_low : L + 1 ≤ arg_of t r
    arg_high : arg_of t r < L + 1 + (first - (L + 1))
    place : end_of t L - (first - (L + 1)) + (arg_of t r - (L + 1)) ≡ r

  serves : (r : ℕ) → kind_at t r ≡ 6 → body_of t r ≡ L → Serves r
  serves r k b =
      let N = S.next_row r (in_table t S r (λ e. omega arith)) k in
      let g = arg_found (arg_of t r) (is_arg_lem (arg_of t r) N.arg_kind (N.arg_body ∙ b)) in
      let l = g.0 in
      record { arg_low = g.0; arg_high = g.1; place = sym (next_place (arg_of t r) (N.arg_body ∙ b) (omega arith)) ∙ N.arg_next }

  next_found : (r : ℕ) → is_next t L r ≡ true → (end_of t L - (first - (L + 1)) ≤ r) × (r < end_of t L - (first - (L + 1)) + (first - (L + 1)))
  next_found r h =
      let q = next_is r h in
      let s = serves r q.0 q.1 in
      let a = s.arg_low in
      let b = s.arg_high in
      let c = s.place in
      (omega arith, omega arith)

  -- ---- what copying relies on
  args_source : Source t (L + 1) (first - (L + 1))
  args_source =
      let p = first_inside in
      let p0 = p.0 in
      let p1 = p.1 in
      let p2 = p.2 in
      record {
        rows = omega arith;
        names = λ j l. let a = (arg_there (L + 1 + j) (omega arith) (omega arith)).0 in (arg_names t at.right (L + 1 + j) (in_table t S (L + 1 + j) (λ e. omega arith)) a).named;
      }

  nexts_source : Source t (end_of t L - (first - (L + 1))) (first - (L + 1))
  nexts_source =
      let p = first_inside in
      let p0 = p.0 in
      let p1 = p.1 in
      let p2 = p.2 in
      record {
        rows = omega arith;
        names = λ j l.
            let r = end_of t L - (first - (L + 1)) + j in
            let a = (next_there r (omega arith) (omega arith)).0 in
            (next_names t at.right r (in_table t S r (λ e. omega arith)) a).named;
      }

  pub copies : (from to : ℕ) → Source t from (first - (L + 1)) → to + (first - (L + 1)) ≤ size t → Copies t from to (first - (L + 1))
  copies from to s h = record { source = s; target = h }

  pub args_to_args : Copies t (L + 1) (L + 1) (first - (L + 1))
  args_to_args = copies (L + 1) (L + 1) args_source args_source.rows

  module _ (end : ℕ) (e : end ≡ end_of t L) where
    pub nexts_to_args : Copies t (end - (first - (L + 1))) (L + 1) (first - (L + 1))
    nexts_to_args = rw e (copies (end_of t L - (first - (L + 1))) (L + 1) nexts_source args_source.rows)

    pub nexts_to_nexts : Copies t (end - (first - (L + 1))) (end - (first - (L + 1))) (first - (L + 1))
    nexts_to_nexts = rw e (copies (end_of t L - (first - (L + 1))) (end_of t L - (first - (L + 1))) nexts_source nexts_source.rows)

    pub args_to_nexts : Copies t (L + 1) (end - (first - (L + 1))) (first - (L + 1))
    args_to_nexts = rw e (copies (L + 1) (end_of t L - (first - (L + 1))) args_source nexts_source.rows)

  -- ---- what is copied
  module _ (env : Env) where
    own : (from r : ℕ) → from ≤ r → env (word t (from + (r - from)) 1) ≡ env (word t r 1)
    own from r l = let e : from + (r - from) ≡ r = omega arith in rw e

    pub first_turn_is : (x : ℕ) → set_row L x (copied t (L + 1) (L + 1) (first - (L + 1)) env) ≡ turn t L x (named t env) env
    unfolding turn copied
    first_turn_is x =
        λ i r. cond (eqb r L) x (placed_by (L + 1) (first - (L + 1)) (λ j. env (word t (L + 1 + j) 1)) (named t env) env (is_arg t L) (λ r a b. let w = arg_there r a b in (is_arg_lem r w.0 w.1, own (L + 1) r a)) arg_found r i)

    pub next_turn_is : (end : ℕ) → end ≡ end_of t L → (x : ℕ) → set_row L x (copied t (end - (first - (L + 1))) (L + 1) (first - (L + 1)) env) ≡ turn t L x (next_named t env) env
    unfolding turn copied
    next_turn_is end e x =
        rw e (λ i r. cond (eqb r L) x (placed_by (L + 1) (first - (L + 1)) (λ j. env (word t (end_of t L - (first - (L + 1)) + j) 1)) (next_named t env) env (is_arg t L)
        (λ r a b. let w = arg_there r a b in (is_arg_lem r w.0 w.1, ap (λ (y : ℕ). env (word t y 1)) (sym (next_place r w.1 (omega arith))))) arg_found r i))

    pub leaving_is : (end : ℕ) → end ≡ end_of t L → copied t (end - (first - (L + 1))) (end - (first - (L + 1))) (first - (L + 1)) env ≡ leave t L (named t env) env
    unfolding leave copied
    leaving_is end e =
        rw e (λ i r. placed_by (end_of t L - (first - (L + 1))) (first - (L + 1)) (λ j. env (word t (end_of t L - (first - (L + 1)) + j) 1)) (named t env) env (is_next t L)
        (λ r a b. let w = next_there r a b in (is_next_lem r w.0 w.1, own (end_of t L - (first - (L + 1))) r a)) next_found r i)

    pub passing_is : (end : ℕ) → end ≡ end_of t L → copied t (L + 1) (end - (first - (L + 1))) (first - (L + 1)) env ≡ leave t L (arg_named t env) env
    unfolding leave copied
    passing_is end e =
        rw e (λ i r. placed_by (end_of t L - (first - (L + 1))) (first - (L + 1)) (λ j. env (word t (L + 1 + j) 1)) (arg_named t env) env (is_next t L)
        (λ r a b. let w = next_there r a b in (is_next_lem r w.0 w.1, ap (λ (y : ℕ). env (word t y 1)) (arg_of_lem r a (serves r w.0 w.1)))) next_found r i)
      where
        arg_of_lem : (r : ℕ) → end_of t L - (first - (L + 1)) ≤ r → Serves r → arg_at r ≡ arg_of t r
        arg_of_lem r a s = let x = s.arg_low in let y = s.place in omega arith
