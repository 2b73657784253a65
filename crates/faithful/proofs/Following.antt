-- THE READING IS FOLLOWED: while the plain reading of a passing table takes its small steps, the use machine fires and stands after each step where
-- the reading stands.
--
--   Follows                   the use machine stands where the reading does: its configuration, and the words on each loop's conditions
--   one_step                  a step of the reading is a list of firings, and one that goes back or makes a turn has some
--   Ended, Faulted            the reading has ended; it has met a zero step
--   followed                  a reading that comes to an outcome is followed to it
--
-- Assumes nothing.
use Rattle.std.proofs.Math.Path.{◌≡◌, refl, sym, ap, subst, subst₂}
use Rattle.std.proofs.Common.{◌∙◌, eq-eqb, ne_eqb, eqb-true, length-append}
use Rattle.std.specs.Prelude.{◌≢◌, ◌⊎◌, Bool, true, false, ◌&&◌, length}
use Rattle.std.proofs.Math.Logic.{inl, inr}
use Rattle.std.proofs.Math.Bool.{cond}
use Rattle.std.proofs.Math.Option.{some}
use mathlib.Core.List.{List, [], ◌∷◌, ◌++◌, append-nil, reverse}
use Prim.Native.Nat.{ℕ, zero, suc, ◌≤◌, ◌<◌}
use native.Mathlib.Omega.{arith}
use Rattle.std.proofs.Math.Decide.{dec_lt, ℕ_discrete}
use Rattle.std.proofs.Math.Dec.{eqb}
use Rattle.word.specs.Words.{condition, update, operate}
use Rattle.step.specs.Kinds.{out1}
use Rattle.table.specs.Rows.{kind_at, word, size}
use Rattle.table.specs.Scan.{body_of}
use Rattle.table.specs.Bodies.{Row, input, const, op, pick, for, arg, next, end, out, unknown, row_at, end_of, first_of, arg_of, next_of}
use Rattle.table.specs.Bodies
use Rattle.structure.specs.Structure.{Structure}
use Rattle.reading.specs.Reading.{Opening, opening, Outcome, ended, zero_step, Step, on, stop, one_turn, results_from, turn, leave, next_named, arg_named, for_step, end_step, end_by, row_step, step, and_then, read_from}
use Rattle.reading.specs.Reading
use Rattle.reading.specs.Steps.{step_below, step_past}
use Rattle.reading.specs.Within.{turns_made}
use Rattle.reading.specs.Standing.{no_turn_made}
use Rattle.lowered.specs.Roles.{Role, stream, gate}
use Rattle.uses.specs.Machine.{State, Steps, steps_append}
use Rattle.faithful.specs.Table.{Table, IsFor, is_arg, plan}
use Rattle.faithful.specs.Good.{Good}
use Rattle.faithful.specs.Gamma.{Env, Inside, Gamma}
use Rattle.faithful.specs.Rows.{set_by, set_to, choose, body_quiet, plain_row, step_plain, Path, silent, step_op, step_pick}
use Rattle.faithful.specs.Stages.{say_if}
use Rattle.faithful.specs.Turn.{is_next, args_to, nexts_to, turn_env, for_edge, turn_edge, end_edge, exit_edge, inside_same}
use Rattle.faithful.proofs.For.{step_open, step_none}
use Rattle.faithful.proofs.End.{step_again, step_leave}
use Rattle.faithful.specs.Carried.{first_is, last_is}
use Rattle.faithful.proofs.Sound.{passing_is_good}
use Rattle.faithful.specs.Conditions.{Told, turns_other, one_turn_other, told_same, told_opens, told_skips, told_again, told_leaves}
use Rattle.faithful.specs.Table
use Rattle.faithful.specs.Tables

and_flip : (a b : Bool) → (a && b) ≡ (b && a)
and_flip true true = refl
and_flip true false = refl
and_flip false true = refl
and_flip false false = refl

and_left : (a b : Bool) → (a && b) ≡ true → a ≡ true
and_left true b h = refl
and_left false b h = h

-- the two ways to set a word by a test
set_as_cond : (b : Bool) (x y : ℕ) → cond b x y ≡ set_by b x y
set_as_cond true x y = refl
set_as_cond false x y = refl

-- a step from row pc and m turns to row pc₁ and m₁ turns, with n firings: it goes down and makes no turn, or there are some firings
abbrev pub DownOrFires : ℕ → ℕ → ℕ → ℕ → ℕ → Type 0
DownOrFires pc m pc₁ m₁ n = ((pc < pc₁) × (m₁ ≡ m)) ⊎ (0 < n)

module _ (t : List ℕ) (S : Structure t) where
  abbrev tb : Table
  tb = Tables.table_of t

  abbrev g : Good tb
  g = passing_is_good t S

  -- ---- the words of the rows, set as the reading sets them

  kind_next : (v : ℕ) → eqb (kind_at t v) 6 ≡ is_next (tb.row v)
  kind_next v = elim (dec_lt v (size t)) [ yes l ↦ go (tb.row v) (Tables.row_kind_lem t S v l) | no n ↦ rw (Tables.kind_past t S v (omega arith), Tables.row_past t v (omega arith)) ]
    where
      go : (d : Row) → Tables.row_kind d ≡ kind_at t v → eqb (kind_at t v) 6 ≡ is_next d
      go input e = rw (sym e)
      go (const w) e = rw (sym e)
      go (op c x y) e = rw (sym e)
      go (pick f x y) e = rw (sym e)
      go (for s st b u c) e = rw (sym e)
      go (arg i) e = rw (sym e)
      go (next x) e = rw (sym e)
      go end e = rw (sym e)
      go (out x) e = rw (sym e)
      go unknown e = rw (sym e)

  arg_test : (L v : ℕ) → Bodies.is_arg t L v ≡ (eqb (body_of t v) L && is_arg (tb.row v))
  unfolding Bodies.is_arg
  arg_test L v = and_flip (eqb (kind_at t v) 5) (eqb (body_of t v) L) ∙ ap (λ (b : Bool). eqb (body_of t v) L && b) (Tables.kind_arg t S v)

  next_test : (L v : ℕ) → Bodies.is_next t L v ≡ (eqb (body_of t v) L && is_next (tb.row v))
  unfolding Bodies.is_next
  next_test L v = and_flip (eqb (kind_at t v) 6) (eqb (body_of t v) L) ∙ ap (λ (b : Bool). eqb (body_of t v) L && b) (kind_next v)

  by_test : (b : Bool) (x y z : ℕ) → (b ≡ true → x ≡ y) → cond b x z ≡ set_by b y z
  by_test true x y z h = h refl
  by_test false x y z h = refl

  set_is : (r w : ℕ) (env : Env) → Reading.set_row r w env ≡ set_to r w env
  unfolding set_to
  set_is r w env = λ i. λ v. set_as_cond (eqb v r) w (env v) i

  turn_is : (L x : ℕ) (args h env : Env) → ((v : ℕ) → kind_at t v ≡ 5 → args v ≡ h v) → turn t L x args env ≡ turn_env tb L x h env
  unfolding turn set_to args_to Bodies.is_arg
  turn_is L x args h env e = λ i. λ v. (by_test (eqb v L) x x (cond (Bodies.is_arg t L v) (args v) (env v)) (λ _. refl) ∙ ap (set_by (eqb v L) x) (arg v)) i
    where
      arg : (v : ℕ) → cond (Bodies.is_arg t L v) (args v) (env v) ≡ set_by (eqb (body_of t v) L && is_arg (tb.row v)) (h v) (env v)
      arg v =
          by_test (Bodies.is_arg t L v) (args v) (h v) (env v) (λ k. e v (eqb-true (kind_at t v) 5 (and_left (eqb (kind_at t v) 5) (eqb (body_of t v) L) k)))
          ∙ ap (λ (b : Bool). set_by b (h v) (env v)) (arg_test L v)

  leave_is : (L : ℕ) (exits h env : Env) → ((v : ℕ) → kind_at t v ≡ 6 → exits v ≡ h v) → leave t L exits env ≡ nexts_to tb L h env
  unfolding leave nexts_to Bodies.is_next
  leave_is L exits h env e =
      λ i. λ v. (by_test (Bodies.is_next t L v) (exits v) (h v) (env v) (λ k. e v (eqb-true (kind_at t v) 6 (and_left (eqb (kind_at t v) 6) (eqb (body_of t v) L) k)))
      ∙ ap (λ (b : Bool). set_by b (h v) (env v)) (next_test L v)) i

  -- what an ARG's row names, and a NEXT's
  arg_named_lem : (a : ℕ) → kind_at t a ≡ 5 → word t a 1 ≡ Table.named (tb.row a)
  arg_named_lem a k = sym (ap Table.named (Tables.row_at_lem t a (Tables.below_by_kind t S a 4 k) ∙ Tables.is_arg_lem t a k))

  next_named_lem : (x : ℕ) → kind_at t x ≡ 6 → word t x 1 ≡ Table.named (tb.row x)
  next_named_lem x k = sym (ap Table.named (Tables.row_at_lem t x (Tables.below_by_kind t S x 5 k) ∙ Tables.is_next_lem t x k))

  next_of_arg : (a : ℕ) → kind_at t a ≡ 5 → kind_at t (next_of t a) ≡ 6
  next_of_arg a k = (S.arg_row a (Tables.below_by_kind t S a 4 k) k).next_kind

  arg_of_next : (x : ℕ) → kind_at t x ≡ 6 → (kind_at t (arg_of t x) ≡ 5) × (next_of t (arg_of t x) ≡ x)
  arg_of_next x k = let N = S.next_row x (Tables.below_by_kind t S x 5 k) k in (N.arg_kind, N.arg_next)

  -- ---- no step leads to an ARG

  not_behind : (r : ℕ) → (IsFor tb r → ⊥) → ((i : ℕ) → tb.row r ≡ arg i → ⊥) → (i : ℕ) → tb.row (suc r) ≡ arg i → ⊥
  not_behind r nf na i h =
      let f = g.arg_for (suc r) i h in
      let lo = g.arg_low (suc r) i h in
      let hi = g.arg_high (suc r) i h in
      elim (ℕ_discrete (body_of t (suc r)) r) [
        | yes e ↦ nf (subst (IsFor tb) e f)
        | no n ↦ let a = g.for_args (body_of t (suc r)) r f (omega arith) (omega arith) in na a.0 a.1
      ]

  not_first : (L : ℕ) → IsFor tb L → (i : ℕ) → tb.row (tb.first L) ≡ arg i → ⊥
  not_first L f i h =
      let a = tb.first L in
      let M = body_of t a in
      let m = g.arg_for a i h in
      let lo : M < a = g.arg_low a i h in
      let hi : a < tb.first M = g.arg_high a i h in
      let fl = g.for_first L f in
      let ll = g.for_last L f in
      elim (ℕ_discrete M L) [
        | yes e ↦ let q : tb.first M ≡ tb.first L = ap tb.first e in omega arith
        | no n ↦ elim (dec_lt M L) [
          | yes l ↦ let x = g.for_args M L m l (omega arith) in let p = x.1 in let k = f.5 in let z : ◌≡◌ {A = ℕ} 0 1 = cc in omega arith
          | no l ↦ let x = (g.nest L M f m (omega arith) (omega arith)).0 in omega arith
        ]
      ]

  -- ---- where the reading stands

  pub record Follows (r : Reading.State) (s : State) : Type 0 where
    pub below : r.pc ≤ size t
    pub plain : (i : ℕ) → tb.row r.pc ≡ arg i → ⊥
    pub gamma : Gamma tb r.pc r.env s
    pub told : (M : ℕ) → IsFor tb M → Told tb M r.pc r.openings (s.hist (stream M) out1) (s.hist (gate M) out1)

  -- from row pc, with openings os, the reading goes on to r, and firings lead from s there; if it goes back or makes a turn, there are some
  abbrev pub Onward : ℕ → List Opening → Reading.State → State → Type 0
  Onward pc os r s = (xs : List Role) × (s' : State) × Steps (plan tb) xs s s' × Follows r s' × DownOrFires pc (turns_made os) r.pc (turns_made r.openings) (length xs)

  -- a path that puts a word somewhere has a firing
  some_fire : (xs : List Role) (s s' : State) (M w : ℕ) → Steps (plan tb) xs s s' → s'.hist (stream M) out1 ≡ s.hist (stream M) out1 ++ (w ∷ []) → 0 < length xs
  some_fire [] s s' M w P h =
      let a = length-append (s.hist (stream M) out1) (w ∷ []) in
      let b : length (s.hist (stream M) out1) ≡ length (s.hist (stream M) out1 ++ (w ∷ [])) = ap (λ (z : State). length (z.hist (stream M) out1)) P ∙ ap (λ (z : List ℕ). length z) h in
      absurd (omega arith)
  some_fire (n ∷ xs) s s' M w P h = omega arith

  -- ---- a row that opens and shuts no loop
  module _ (pc : ℕ) (env : Env) (os : List Opening) (s : State) (F : Follows (Reading.at pc env os) s) (l : pc < size t) where
    straight : (IsFor tb pc → ⊥) → (tb.row pc ≡ end → ⊥) → (env' : Env) → Path tb g env s (suc pc) env' (silent tb g) (silent tb g) → Onward pc os (Reading.at (suc pc) env' os) s
    straight nf ne env' P = (
      P.0,
      P.1,
      P.2,
      record {
        below = omega arith;
        plain = not_behind pc nf F.plain;
        gamma = P.3;
        told = λ M m.
            let q = body_quiet tb g pc l nf F.plain ne M (inr m) in
            let q0 : tb.first M ≢ suc pc = q.0 in
            let q1 : tb.last M ≢ pc = q.1 in
            told_same tb M pc (suc pc) os os (s.hist (stream M) out1) (P.1.hist (stream M) out1) (s.hist (gate M) out1) (P.1.hist (gate M) out1)
            (λ i. let i0 : tb.first M ≤ pc = i.0 in let i1 : pc ≤ tb.last M = i.1 in (omega arith, omega arith), λ i. let i0 : tb.first M ≤ suc pc = i.0 in let i1 : suc pc ≤ tb.last M = i.1 in (omega arith, omega arith))
            refl (P.4 M ∙ append-nil (s.hist (stream M) out1)) (P.5 M ∙ append-nil (s.hist (gate M) out1)) (F.told M m);
      },
      inl (omega arith, refl),
    )

    quiet : (IsFor tb pc → ⊥) → (tb.row pc ≡ end → ⊥) → plain_row tb g (tb.row pc) ≡ true → Onward pc os (Reading.at (suc pc) env os) s
    quiet nf ne h =
        straight nf ne env ([], s, refl, step_plain tb g pc l h env s F.gamma, λ M. sym (append-nil (s.hist (stream M) out1)), λ M. sym (append-nil (s.hist (gate M) out1)))

  -- ---- a loop
  module _ (L a st b u c : ℕ) (q : tb.row L ≡ for a st b u c) where
    f : IsFor tb L
    f = (a, st, b, u, c, q)

    not_at : Inside tb L L → ⊥
    not_at i = let k = g.for_first L f in let i0 = i.0 in omega arith

    at_first : Inside tb L (tb.first L)
    at_first = let k = g.for_last L f in (omega arith, omega arith)

    at_last : Inside tb L (tb.last L)
    at_last = let k = g.for_last L f in (omega arith, omega arith)

    past : Inside tb L (suc (tb.last L)) → ⊥
    past i = let i1 = i.1 in omega arith

    say_own : (M : ℕ) (w : List ℕ) → M ≡ L → say_if (eqb M L) w ≡ w
    say_own M w e = rw (eq-eqb M L e)

    say_other : (M : ℕ) (w : List ℕ) → M ≢ L → say_if (eqb M L) w ≡ []
    say_other M w n = rw (ne_eqb M L n)

    -- a path that says the condition of a turn has a firing
    turn_fires : (xs : List Role) (s s' : State) → Steps (plan tb) xs s s' → s'.hist (stream L) out1 ≡ s.hist (stream L) out1 ++ say_if (eqb L L) (1 ∷ []) → 0 < length xs
    turn_fires xs s s' P h = some_fire xs s s' L 1 P (h ∙ ap (λ (z : List ℕ). s.hist (stream L) out1 ++ z) (say_own L (1 ∷ []) refl))

    -- FOR, a turn starts
    module _ (env : Env) (os : List Opening) (s : State) (F : Follows (Reading.at L env os) s) (nz : env st ≢ 0) where
      opens : (k : ℕ) → condition c (env a) (env b) ≡ suc k → Onward L os (Reading.at (first_of t L) (turn t L (env a) (Reading.named t env) env) (opening L 1 ∷ os)) s
      unfolding f
      opens k h =
          let P = step_open tb g L a st b u c q env s F.gamma nz k h in
          let e : turn t L (env a) (Reading.named t env) env ≡ turn_env tb L (env a) (λ v. env (Table.named (tb.row v))) env
          = turn_is L (env a) (Reading.named t env) (λ v. env (Table.named (tb.row v))) env (λ v kv. ap env (arg_named_lem v kv)) in
          let d = first_is t S L (Tables.for_kind t S L f).1 in (
            P.0,
            P.1,
            P.2,
            subst₂ (λ (x : ℕ) (y : Env). Follows (Reading.at x y (opening L 1 ∷ os)) P.1) d (sym e)
                (record {
                  below = let x = g.for_size L f in let y = g.for_last L f in omega arith;
                  plain = not_first L f;
                  gamma = P.3;
                  told = λ M m. elim (ℕ_discrete M L) [
                    | yes w ↦
                        subst (λ (z : ℕ). Told tb M (tb.first L) (opening z 1 ∷ os) (P.1.hist (stream M) out1) (P.1.hist (gate M) out1)) w
                        (told_opens tb M L (tb.first L) os (s.hist (stream M) out1) (P.1.hist (stream M) out1) (s.hist (gate M) out1) (P.1.hist (gate M) out1)
                        (subst (λ (z : ℕ). Inside tb z L → ⊥) (sym w) not_at) (subst (λ (z : ℕ). Inside tb z (tb.first L)) (sym w) at_first)
                        (P.4 M ∙ ap (λ (z : List ℕ). s.hist (stream M) out1 ++ z) (say_own M (1 ∷ []) w)) (P.5 M ∙ append-nil (s.hist (gate M) out1)) (F.told M m))
                    | no n ↦
                        told_same tb M L (tb.first L) os (opening L 1 ∷ os) (s.hist (stream M) out1) (P.1.hist (stream M) out1) (s.hist (gate M) out1) (P.1.hist (gate M) out1)
                        (inside_same tb g L f M L (tb.first L) (inr m) n (for_edge tb g L f) (turn_edge tb g L f)) (turns_other M L 1 os n)
                        (P.4 M ∙ ap (λ (z : List ℕ). s.hist (stream M) out1 ++ z) (say_other M (1 ∷ []) n) ∙ append-nil (s.hist (stream M) out1)) (P.5 M ∙ append-nil (s.hist (gate M) out1)) (F.told M m)
                  ];
                }),
            inr (turn_fires P.0 s P.1 P.2 (P.4 L)),
          )

      -- FOR, no turn
      skips : condition c (env a) (env b) ≡ 0 → Onward L os (Reading.at (suc (end_of t L)) (leave t L (arg_named t env) env) (opening L 0 ∷ os)) s
      unfolding f
      skips h =
          let P = step_none tb g L a st b u c q env s F.gamma nz h in
          let e : leave t L (arg_named t env) env ≡ nexts_to tb L (λ v. env (Table.named (tb.row (arg_of t v)))) env
          = leave_is L (arg_named t env) (λ v. env (Table.named (tb.row (arg_of t v)))) env (λ v kv. ap env (arg_named_lem (arg_of t v) (arg_of_next v kv).0)) in
          let d = last_is t S L (Tables.for_kind t S L f).1 in (
            P.0,
            P.1,
            P.2,
            subst₂ (λ (x : ℕ) (y : Env). Follows (Reading.at (suc x) y (opening L 0 ∷ os)) P.1) d (sym e)
                (record {
                  below = let x = g.for_size L f in omega arith;
                  plain = after_end;
                  gamma = P.3;
                  told = λ M m. elim (ℕ_discrete M L) [
                    | yes w ↦
                        subst (λ (z : ℕ). Told tb M (suc (tb.last L)) (opening z 0 ∷ os) (P.1.hist (stream M) out1) (P.1.hist (gate M) out1)) w
                        (told_skips tb M L (suc (tb.last L)) os (s.hist (stream M) out1) (P.1.hist (stream M) out1) (s.hist (gate M) out1) (P.1.hist (gate M) out1)
                        (subst (λ (z : ℕ). Inside tb z L → ⊥) (sym w) not_at) (subst (λ (z : ℕ). Inside tb z (suc (tb.last L)) → ⊥) (sym w) past)
                        (P.4 M ∙ ap (λ (z : List ℕ). s.hist (stream M) out1 ++ z) (say_own M (0 ∷ []) w)) (P.5 M ∙ append-nil (s.hist (gate M) out1)) (F.told M m))
                    | no n ↦
                        told_same tb M L (suc (tb.last L)) os (opening L 0 ∷ os) (s.hist (stream M) out1) (P.1.hist (stream M) out1) (s.hist (gate M) out1) (P.1.hist (gate M) out1)
                        (inside_same tb g L f M L (suc (tb.last L)) (inr m) n (for_edge tb g L f) (exit_edge tb g L f)) (turns_other M L 0 os n)
                        (P.4 M ∙ ap (λ (z : List ℕ). s.hist (stream M) out1 ++ z) (say_other M (0 ∷ []) n) ∙ append-nil (s.hist (stream M) out1)) (P.5 M ∙ append-nil (s.hist (gate M) out1)) (F.told M m)
                  ];
                }),
            inl (let x = g.for_first L f in let y = g.for_last L f in omega arith, no_turn_made L os),
          )
        where
          after_end : (i : ℕ) → tb.row (suc (tb.last L)) ≡ arg i → ⊥
          after_end = not_behind (tb.last L) (λ m. let k = g.for_end L f in let x = m.5 in let z : ◌≡◌ {A = ℕ} 0 1 = cc in omega arith) (λ i x. let k = g.for_end L f in let z : ◌≡◌ {A = ℕ} 0 1 = cc in omega arith)

    -- END of L
    module _ (env : Env) (os : List Opening) (s : State) (F : Follows (Reading.at (tb.last L) env os) s) where
      index : ℕ
      index = update u (env L) (env st)

      again : (k : ℕ) → condition c index (env b) ≡ suc k → Onward (tb.last L) os (Reading.at (first_of t L) (turn t L index (next_named t env) env) (one_turn L os)) s
      unfolding f index
      again k h =
          let P = step_again tb g L a st b u c q env s F.gamma k h in
          let e : turn t L index (next_named t env) env ≡ turn_env tb L index (λ v. env (Table.named (tb.row (next_of t v)))) env
          = turn_is L index (next_named t env) (λ v. env (Table.named (tb.row (next_of t v)))) env (λ v kv. ap env (next_named_lem (next_of t v) (next_of_arg v kv))) in
          let d = first_is t S L (Tables.for_kind t S L f).1 in (
            P.0,
            P.1,
            P.2,
            subst₂ (λ (x : ℕ) (y : Env). Follows (Reading.at x y (one_turn L os)) P.1) d (sym e)
                (record {
                  below = let x = g.for_size L f in let y = g.for_last L f in omega arith;
                  plain = not_first L f;
                  gamma = P.3;
                  told = λ M m. elim (ℕ_discrete M L) [
                    | yes w ↦
                        subst (λ (z : ℕ). Told tb M (tb.first L) (one_turn z os) (P.1.hist (stream M) out1) (P.1.hist (gate M) out1)) w
                        (told_again tb M (tb.last L) (tb.first L) os (s.hist (stream M) out1) (P.1.hist (stream M) out1) (s.hist (gate M) out1) (P.1.hist (gate M) out1)
                        (subst (λ (z : ℕ). Inside tb z (tb.last L)) (sym w) at_last) (subst (λ (z : ℕ). Inside tb z (tb.first L)) (sym w) at_first)
                        (P.4 M ∙ ap (λ (z : List ℕ). s.hist (stream M) out1 ++ z) (say_own M (1 ∷ []) w)) (P.5 M ∙ ap (λ (z : List ℕ). s.hist (gate M) out1 ++ z) (say_own M (1 ∷ []) w)) (F.told M m))
                    | no n ↦
                        told_same tb M (tb.last L) (tb.first L) os (one_turn L os) (s.hist (stream M) out1) (P.1.hist (stream M) out1) (s.hist (gate M) out1) (P.1.hist (gate M) out1)
                        (inside_same tb g L f M (tb.last L) (tb.first L) (inr m) n (end_edge tb g L f) (turn_edge tb g L f)) (one_turn_other M L os n)
                        (P.4 M ∙ ap (λ (z : List ℕ). s.hist (stream M) out1 ++ z) (say_other M (1 ∷ []) n) ∙ append-nil (s.hist (stream M) out1))
                        (P.5 M ∙ ap (λ (z : List ℕ). s.hist (gate M) out1 ++ z) (say_other M (1 ∷ []) n) ∙ append-nil (s.hist (gate M) out1)) (F.told M m)
                  ];
                }),
            inr (turn_fires P.0 s P.1 P.2 (P.4 L)),
          )

      leaves : condition c index (env b) ≡ 0 → Onward (tb.last L) os (Reading.at (suc (tb.last L)) (leave t L (Reading.named t env) env) os) s
      unfolding f index
      leaves h =
          let P = step_leave tb g L a st b u c q env s F.gamma h in
          let e : leave t L (Reading.named t env) env ≡ nexts_to tb L (λ v. env (Table.named (tb.row (next_of t (arg_of t v))))) env
          = leave_is L (Reading.named t env) (λ v. env (Table.named (tb.row (next_of t (arg_of t v))))) env
          (λ v kv. ap env (next_named_lem v kv ∙ ap (λ (z : ℕ). Table.named (tb.row z)) (sym (arg_of_next v kv).1))) in (
            P.0,
            P.1,
            P.2,
            subst (λ (y : Env). Follows (Reading.at (suc (tb.last L)) y os) P.1) (sym e)
                (record {
                  below = let x = g.for_size L f in omega arith;
                  plain = after_end;
                  gamma = P.3;
                  told = λ M m. elim (ℕ_discrete M L) [
                    | yes w ↦
                        told_leaves tb M (tb.last L) (suc (tb.last L)) os (s.hist (stream M) out1) (P.1.hist (stream M) out1) (s.hist (gate M) out1) (P.1.hist (gate M) out1)
                        (subst (λ (z : ℕ). Inside tb z (tb.last L)) (sym w) at_last) (subst (λ (z : ℕ). Inside tb z (suc (tb.last L)) → ⊥) (sym w) past)
                        (P.4 M ∙ ap (λ (z : List ℕ). s.hist (stream M) out1 ++ z) (say_own M (0 ∷ []) w)) (P.5 M ∙ ap (λ (z : List ℕ). s.hist (gate M) out1 ++ z) (say_own M (0 ∷ []) w)) (F.told M m)
                    | no n ↦
                        told_same tb M (tb.last L) (suc (tb.last L)) os os (s.hist (stream M) out1) (P.1.hist (stream M) out1) (s.hist (gate M) out1) (P.1.hist (gate M) out1)
                        (inside_same tb g L f M (tb.last L) (suc (tb.last L)) (inr m) n (end_edge tb g L f) (exit_edge tb g L f)) refl
                        (P.4 M ∙ ap (λ (z : List ℕ). s.hist (stream M) out1 ++ z) (say_other M (0 ∷ []) n) ∙ append-nil (s.hist (stream M) out1))
                        (P.5 M ∙ ap (λ (z : List ℕ). s.hist (gate M) out1 ++ z) (say_other M (0 ∷ []) n) ∙ append-nil (s.hist (gate M) out1)) (F.told M m)
                  ];
                }),
            inl (omega arith, refl),
          )
        where
          after_end : (i : ℕ) → tb.row (suc (tb.last L)) ≡ arg i → ⊥
          after_end = not_behind (tb.last L) (λ m. let k = g.for_end L f in let x = m.5 in let z : ◌≡◌ {A = ℕ} 0 1 = cc in omega arith) (λ i x. let k = g.for_end L f in let z : ◌≡◌ {A = ℕ} 0 1 = cc in omega arith)

  -- ---- any row

  move : (pc : ℕ) (os : List Opening) (a r : Reading.State) (s : State) → on a ≡ on r → Onward pc os a s → Onward pc os r s
  move pc os a r s h P = let e : a ≡ r = cc in subst (λ (z : Reading.State). Onward pc os z s) e P

  choose_is : (f x y : ℕ) → Reading.choose f x y ≡ choose f x y
  choose_is zero x y = refl
  choose_is (suc f) x y = refl

  for_step_lem : (L a st b u c : ℕ) → tb.row L ≡ for a st b u c → (env : Env) (os : List Opening) (s : State) → Follows (Reading.at L env os) s
      → (x : ℕ) → env st ≡ x → (y : ℕ) → condition c (env a) (env b) ≡ y → (r : Reading.State) → for_step t L (env a) env os x y ≡ on r → Onward L os r s
  for_step_lem L a st b u c q env os s F zero ex y ey r h = let z : ◌≡◌ {A = ℕ} 0 1 = cc in absurd (omega arith)
  for_step_lem L a st b u c q env os s F (suc x) ex zero ey r h =
      move L os (Reading.at (suc (end_of t L)) (leave t L (arg_named t env) env) (opening L 0 ∷ os)) r s h (skips L a st b u c q env os s F (λ z. omega arith) ey)
  for_step_lem L a st b u c q env os s F (suc x) ex (suc y) ey r h =
      move L os (Reading.at (first_of t L) (turn t L (env a) (Reading.named t env) env) (opening L 1 ∷ os)) r s h (opens L a st b u c q env os s F (λ z. omega arith) y ey)

  end_step_lem : (L a st b u c : ℕ) → tb.row L ≡ for a st b u c → (pc : ℕ) → tb.last L ≡ pc → (env : Env) (os : List Opening) (s : State) → Follows (Reading.at pc env os) s
      → (y : ℕ) → condition c (update u (env L) (env st)) (env b) ≡ y → (r : Reading.State) → end_step t L pc (update u (env L) (env st)) env os y ≡ on r → Onward pc os r s
  unfolding index
  end_step_lem L a st b u c q pc e env os s F zero ey r h =
      move pc os (Reading.at (suc pc) (leave t L (Reading.named t env) env) os) r s h
      (subst (λ (z : ℕ). Onward z os (Reading.at (suc z) (leave t L (Reading.named t env) env) os) s) e
      (leaves L a st b u c q env os s (subst (λ (z : ℕ). Follows (Reading.at z env os) s) (sym e) F) ey))
  end_step_lem L a st b u c q pc e env os s F (suc y) ey r h =
      move pc os (Reading.at (first_of t L) (turn t L (update u (env L) (env st)) (next_named t env) env) (one_turn L os)) r s h
      (subst (λ (z : ℕ). Onward z os (Reading.at (first_of t L) (turn t L (update u (env L) (env st)) (next_named t env) env) (one_turn L os)) s) e
      (again L a st b u c q env os s (subst (λ (z : ℕ). Follows (Reading.at z env os) s) (sym e) F) y ey))

  -- A STEP OF THE READING is a list of firings
  pub one_step : (d : Row) (pc : ℕ) (env : Env) (os : List Opening) (s : State) → tb.row pc ≡ d → pc < size t → Follows (Reading.at pc env os) s → (r : Reading.State) → row_step d t pc env os ≡ on r → Onward pc os r s
  one_step input pc env os s q l F r h =
      move pc os (Reading.at (suc pc) env os) r s h (quiet pc env os s F l (λ m. let k = m.5 in let z : ◌≡◌ {A = ℕ} 0 1 = cc in omega arith) (λ e. let z : ◌≡◌ {A = ℕ} 0 1 = cc in omega arith) (ap (plain_row tb g) q))
  one_step (const w) pc env os s q l F r h =
      move pc os (Reading.at (suc pc) env os) r s h (quiet pc env os s F l (λ m. let k = m.5 in let z : ◌≡◌ {A = ℕ} 0 1 = cc in omega arith) (λ e. let z : ◌≡◌ {A = ℕ} 0 1 = cc in omega arith) (ap (plain_row tb g) q))
  one_step (op c x y) pc env os s q l F r h =
      move pc os (Reading.at (suc pc) (Reading.set_row pc (operate c (env x) (env y)) env) os) r s h
      (subst (λ (z : Env). Onward pc os (Reading.at (suc pc) z os) s) (sym (set_is pc (operate c (env x) (env y)) env))
      (straight pc env os s F l (λ m. let k = m.5 in let z : ◌≡◌ {A = ℕ} 0 1 = cc in omega arith) (λ e. let z : ◌≡◌ {A = ℕ} 0 1 = cc in omega arith) (set_to pc (operate c (env x) (env y)) env) (step_op tb g pc c x y q env s F.gamma)))
  one_step (pick f x y) pc env os s q l F r h =
      move pc os (Reading.at (suc pc) (Reading.set_row pc (Reading.choose (env f) (env x) (env y)) env) os) r s h
      (subst (λ (z : Env). Onward pc os (Reading.at (suc pc) z os) s) (sym (ap (λ (z : ℕ). Reading.set_row pc z env) (choose_is (env f) (env x) (env y)) ∙ set_is pc (choose (env f) (env x) (env y)) env))
      (straight pc env os s F l (λ m. let k = m.5 in let z : ◌≡◌ {A = ℕ} 0 1 = cc in omega arith) (λ e. let z : ◌≡◌ {A = ℕ} 0 1 = cc in omega arith) (set_to pc (choose (env f) (env x) (env y)) env) (step_pick tb g pc f x y q env s F.gamma)))
  one_step (for a st b u c) pc env os s q l F r h = for_step_lem pc a st b u c q env os s F (env st) refl (condition c (env a) (env b)) refl r h
  one_step (arg i) pc env os s q l F r h = absurd (F.plain i q)
  one_step (next v) pc env os s q l F r h =
      move pc os (Reading.at (suc pc) env os) r s h (quiet pc env os s F l (λ m. let k = m.5 in let z : ◌≡◌ {A = ℕ} 0 1 = cc in omega arith) (λ e. let z : ◌≡◌ {A = ℕ} 0 1 = cc in omega arith) (ap (plain_row tb g) q))
  one_step end pc env os s q l F r h =
      let m = g.end_for pc q l in
      let e : row_at t (body_of t pc) ≡ for m.0 m.1 m.2 m.3 m.4 = sym (Tables.row_at_lem t (body_of t pc) (Tables.for_kind t S (body_of t pc) m).0) ∙ m.5 in
      end_step_lem (body_of t pc) m.0 m.1 m.2 m.3 m.4 m.5 pc (g.end_last pc q l) env os s F
      (condition m.4 (update m.3 (env (body_of t pc)) (env m.1)) (env m.2)) refl r
      (ap (λ (z : Row). end_by z t (body_of t pc) pc env os) (sym e) ∙ h)
  one_step (out x) pc env os s q l F r h =
      move pc os (Reading.at (suc pc) env os) r s h (quiet pc env os s F l (λ m. let k = m.5 in let z : ◌≡◌ {A = ℕ} 0 1 = cc in omega arith) (λ e. let z : ◌≡◌ {A = ℕ} 0 1 = cc in omega arith) (ap (plain_row tb g) q))
  one_step unknown pc env os s q l F r h = let k = Tables.row_kind_lem t S pc l in let e : Tables.row_kind (tb.row pc) ≡ 9 = ap Tables.row_kind q in let m = S.kinds pc l in absurd (omega arith)

  -- a reading stops at a row only for a zero step
  pub one_stop : (d : Row) (pc : ℕ) (env : Env) (os : List Opening) → tb.row pc ≡ d → (o : Outcome) → row_step d t pc env os ≡ stop o
      → (a : ℕ) × (st : ℕ) × (b : ℕ) × (u : ℕ) × (c : ℕ) × (tb.row pc ≡ for a st b u c) × (env st ≡ 0) × (o ≡ zero_step pc (reverse os))
  one_stop input pc env os q o h = let z : ◌≡◌ {A = ℕ} 0 1 = cc in absurd (omega arith)
  one_stop (const w) pc env os q o h = let z : ◌≡◌ {A = ℕ} 0 1 = cc in absurd (omega arith)
  one_stop (op c x y) pc env os q o h = let z : ◌≡◌ {A = ℕ} 0 1 = cc in absurd (omega arith)
  one_stop (pick f x y) pc env os q o h = let z : ◌≡◌ {A = ℕ} 0 1 = cc in absurd (omega arith)
  one_stop (for a st b u c) pc env os q o h = go (env st) refl (condition c (env a) (env b)) h
    where
      go : (x : ℕ) → env st ≡ x → (y : ℕ) → for_step t pc (env a) env os x y ≡ stop o
          → (a : ℕ) × (st : ℕ) × (b : ℕ) × (u : ℕ) × (c : ℕ) × (tb.row pc ≡ for a st b u c) × (env st ≡ 0) × (o ≡ zero_step pc (reverse os))
      go zero e y k = (a, st, b, u, c, q, e, cc)
      go (suc x) e zero k = let z : ◌≡◌ {A = ℕ} 0 1 = cc in absurd (omega arith)
      go (suc x) e (suc y) k = let z : ◌≡◌ {A = ℕ} 0 1 = cc in absurd (omega arith)
  one_stop (arg i) pc env os q o h = let z : ◌≡◌ {A = ℕ} 0 1 = cc in absurd (omega arith)
  one_stop (next v) pc env os q o h = let z : ◌≡◌ {A = ℕ} 0 1 = cc in absurd (omega arith)
  one_stop end pc env os q o h = absurd (go (row_at t (body_of t pc)) h)
    where
      by : (L x y : ℕ) → end_step t L pc x env os y ≡ stop o → ⊥
      by L x zero k = let z : ◌≡◌ {A = ℕ} 0 1 = cc in omega arith
      by L x (suc y) k = let z : ◌≡◌ {A = ℕ} 0 1 = cc in omega arith

      go : (d : Row) → end_by d t (body_of t pc) pc env os ≡ stop o → ⊥
      go input k = let z : ◌≡◌ {A = ℕ} 0 1 = cc in omega arith
      go (const w) k = let z : ◌≡◌ {A = ℕ} 0 1 = cc in omega arith
      go (op c x y) k = let z : ◌≡◌ {A = ℕ} 0 1 = cc in omega arith
      go (pick f x y) k = let z : ◌≡◌ {A = ℕ} 0 1 = cc in omega arith
      go (for a st b u c) k = by (body_of t pc) (update u (env (body_of t pc)) (env st)) (condition c (update u (env (body_of t pc)) (env st)) (env b)) k
      go (arg i) k = let z : ◌≡◌ {A = ℕ} 0 1 = cc in omega arith
      go (next v) k = let z : ◌≡◌ {A = ℕ} 0 1 = cc in omega arith
      go end k = let z : ◌≡◌ {A = ℕ} 0 1 = cc in omega arith
      go (out x) k = let z : ◌≡◌ {A = ℕ} 0 1 = cc in omega arith
      go unknown k = let z : ◌≡◌ {A = ℕ} 0 1 = cc in omega arith
  one_stop (out x) pc env os q o h = let z : ◌≡◌ {A = ℕ} 0 1 = cc in absurd (omega arith)
  one_stop unknown pc env os q o h = let z : ◌≡◌ {A = ℕ} 0 1 = cc in absurd (omega arith)

  -- ---- the whole reading

  -- firings lead to where the reading has ended with o
  pub record Ended (s : State) (o : Outcome) : Type 0 where
    pub env : Env
    pub openings : List Opening
    pub path : List Role
    pub there : State
    pub steps : Steps (plan tb) path s there
    pub follows : Follows (Reading.at (size t) env openings) there
    pub outcome : o ≡ ended (results_from (size t) t env 0) (reverse openings)

  -- firings lead to the FOR row at which the reading meets a zero step
  pub record Faulted (s : State) (o : Outcome) : Type 0 where
    pub loop : ℕ
    pub start : ℕ
    pub step : ℕ
    pub bound : ℕ
    pub change : ℕ
    pub compare : ℕ
    pub env : Env
    pub openings : List Opening
    pub path : List Role
    pub there : State
    pub steps : Steps (plan tb) path s there
    pub follows : Follows (Reading.at loop env openings) there
    pub row : tb.row loop ≡ for start step bound change compare
    pub zero_step_lem : env step ≡ 0
    pub outcome : o ≡ zero_step loop (reverse openings)

  on_path : (xs : List Role) (s s' : State) → Steps (plan tb) xs s s' → (o : Outcome) → Ended s' o ⊎ Faulted s' o → Ended s o ⊎ Faulted s o
  on_path xs s s' P o (inl e) =
      inl (record {
        env = e.env;
        openings = e.openings;
        path = xs ++ e.path;
        there = e.there;
        steps = steps_append (plan tb) xs e.path s s' e.there P e.steps;
        follows = e.follows;
        outcome = e.outcome;
      })
  on_path xs s s' P o (inr e) =
      inr (record {
        loop = e.loop;
        start = e.start;
        step = e.step;
        bound = e.bound;
        change = e.change;
        compare = e.compare;
        env = e.env;
        openings = e.openings;
        path = xs ++ e.path;
        there = e.there;
        steps = steps_append (plan tb) xs e.path s s' e.there P e.steps;
        follows = e.follows;
        row = e.row;
        zero_step_lem = e.zero_step_lem;
        outcome = e.outcome;
      })

  -- THE READING, followed to its outcome
  pub followed : (k : ℕ) (r : Reading.State) (s : State) → Follows r s → (o : Outcome) → read_from k t r ≡ some o → Ended s o ⊎ Faulted s o
  unfolding read_from
  followed zero r s F o h = let z : ◌≡◌ {A = ℕ} 0 1 = cc in absurd (omega arith)
  followed (suc k) r s F o h = go (step t r) refl h (followed k)
    where
      stopped : (p : Outcome) → step t r ≡ stop p → p ≡ o → Ended s o ⊎ Faulted s o
      stopped p e d =
          elim (dec_lt r.pc (size t)) [
            | yes l ↦
                let x = one_stop (row_at t r.pc) r.pc r.env r.openings (Tables.row_at_lem t r.pc l) p (sym (step_below t r l) ∙ e) in
                inr (record {
                  loop = r.pc;
                  start = x.0;
                  step = x.1;
                  bound = x.2;
                  change = x.3;
                  compare = x.4;
                  env = r.env;
                  openings = r.openings;
                  path = [];
                  there = s;
                  steps = refl;
                  follows = F;
                  row = x.5;
                  zero_step_lem = x.6;
                  outcome = sym d ∙ x.7;
                })
            | no n ↦
                let q : r.pc ≡ size t = let b = F.below in omega arith in
                let f : stop p ≡ stop (ended (results_from (size t) t r.env 0) (reverse r.openings)) = sym e ∙ step_past t r (omega arith) in
                let f' : p ≡ ended (results_from (size t) t r.env 0) (reverse r.openings) = cc in
                inl (record {
                  env = r.env;
                  openings = r.openings;
                  path = [];
                  there = s;
                  steps = refl;
                  follows = subst (λ (z : ℕ). Follows (Reading.at z r.env r.openings) s) q F;
                  outcome = sym d ∙ f';
                })
          ]

      goes : (r₁ : Reading.State) → step t r ≡ on r₁ → read_from k t r₁ ≡ some o
          → ((r : Reading.State) (s : State) → Follows r s → (o : Outcome) → read_from k t r ≡ some o → Ended s o ⊎ Faulted s o) → Ended s o ⊎ Faulted s o
      goes r₁ e d ih =
          elim (dec_lt r.pc (size t)) [
            | yes l ↦
                let P = one_step (row_at t r.pc) r.pc r.env r.openings s (Tables.row_at_lem t r.pc l) l F r₁ (sym (step_below t r l) ∙ e) in
                on_path P.0 s P.1 P.2 o (ih r₁ P.1 P.3 o d)
            | no n ↦ let q = step_past t r (omega arith) in let z : ◌≡◌ {A = ℕ} 0 1 = cc in absurd (omega arith)
          ]

      go : (x : Step) → step t r ≡ x → and_then x (λ s₁. read_from k t s₁) ≡ some o
          → ((r : Reading.State) (s : State) → Follows r s → (o : Outcome) → read_from k t r ≡ some o → Ended s o ⊎ Faulted s o) → Ended s o ⊎ Faulted s o
      go (on r₁) e d ih = goes r₁ e d ih
      go (stop p) e d ih = stopped p e (cc)
