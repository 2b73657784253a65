-- Walks behind one another, and what one row, a loop that opens and a body that has come to its END are to the reading.
-- Assumes nothing.
use Prim.Native.Nat.{ℕ, suc, ◌+◌, ◌-◌, ◌≤◌, ◌<◌}
use mathlib.Core.List.{List, [], ◌∷◌}
use mathlib.Core.Logic.{◌≢◌, ⊎_elim}
use mathlib.Core.Path.{◌≡◌, refl, sym, ap, ◌∙◌, subst}
use native.Mathlib.Omega.{arith}
use native.Mathlib.Numerals.{add-one}
use lib.ListN.{length}
use Rattle.word.specs.Words.{condition, update, operate}
use Rattle.table.specs.Rows.{kind_at, word, size}
use Rattle.table.specs.Scan.{body_of}
use Rattle.table.specs.Bodies.{end_of, first_of}
use Rattle.table.specs.Right.{TableRight}
use Rattle.structure.specs.Structure.{Structure, right_table_has_structure}
use Rattle.structure.specs.Behind.{loops_at, loops_last, loops_after_end, loops_after_other, loops_in_body, loops_few, same_loops, body_in_body}
use Rattle.reading.specs.Reading.{Env, Opening, opening, at, on, set_row, choose, turn, leave, named, next_named, arg_named, one_turn, step}
use Rattle.reading.specs.Steps.{step_op, step_pick, step_other, step_faults, step_skips, step_opens, step_leaves, step_turns}
use Rattle.reading.specs.Within.{turns_made, here, then, joined}
use Rattle.reading.specs.Standing.{Opened, Standing, turn_counts, no_turn_made, one_turn_made, end_opened, reach_stands}
use Rattle.turning.specs.Words.{env_of}
use Rattle.std.specs.Prelude.{Ok, Err}
use Rattle.walking.specs.declared.Halt.{Halt}
use Rattle.walking.specs.declared.Halt.TheVariants.{ZeroStep, Spent as HaltSpent}
use Rattle.walking.specs.Walks.{Went, On, Zero, Moves, Walk, Faults, Dues, Walked, Rowed, Turned}

-- ---- behind one another
pub stays : (t : List ℕ) (i : ℕ) (e : List ℕ) (a : ℕ) → Moves t i e a i a e
stays t i e a os st = record { openings = os; reach = here; turns = refl }

module _ {t : List ℕ} (ok : TableRight t) where
  pub moves_on : {i p q a l m : ℕ} {e e₁ e₂ : List ℕ} → Moves t i e a p l e₁ → Moves t p e₁ l q m e₂ → Moves t i e a q m e₂
  moves_on v w os st =
      let x = v os st in
      let y = w x.openings (reach_stands t ok x.reach st) in
      record { openings = y.openings; reach = joined x.reach y.reach; turns = y.turns ∙ x.turns }

  pub faults_later : {i p a l r m : ℕ} {e e₁ : List ℕ} → Moves t i e a p l e₁ → l ≤ a → Faults t p e₁ l r m → Faults t i e a r m
  faults_later {i} {p} {a} {l} {r} {m} {e} {e₁} v h w = (
    λ os st.
        let x = v os st in
        let y = w.0 x.openings (reach_stands t ok x.reach st) in
        record { last = y.last; reach = joined x.reach y.reach; stops = y.stops; turns = y.turns ∙ x.turns },
    let z = w.1 in omega arith,
  )

  pub dues_later : {i p a l : ℕ} {e e₁ : List ℕ} → Moves t i e a p l e₁ → Dues t p e₁ l → Dues t i e a
  dues_later {i} {p} {a} {l} {e} {e₁} v w os st =
      let x = v os st in
      let y = w x.openings (reach_stands t ok x.reach st) in
      record {
        last = y.last;
        reach = joined x.reach y.reach;
        made = y.made ∙ x.turns;
        over = y.over;
        next = y.next;
        one_more_lem = y.one_more_lem ∙ ap suc x.turns;
      }

  pub walks_on : {i p q a l m : ℕ} {e e₁ e₂ : List ℕ} → Walk t i e a p l e₁ → Walk t p e₁ l q m e₂ → Walk t i e a q m e₂
  walks_on v w =
      let f = v.fewer in
      let g = w.fewer in
      let h = v.onward in
      let k = w.onward in
      record { moves = moves_on v.moves w.moves; same = w.same ∙ v.same; fewer = omega arith; onward = omega arith; within = w.within }

  -- a walker that comes no further answers so for the one that called it
  pub row_halts : (w : Halt) (e₂ : List ℕ) {i p a l : ℕ} {e e₁ : List ℕ} → Moves t i e a p l e₁ → l ≤ a → Rowed t p e₁ l (Err w) e₂ → Walked t i e a (Err w) e₂
  row_halts (ZeroStep r l) e₂ v g w = faults_later v g w
  row_halts HaltSpent e₂ v g w = dues_later v w

  pub body_halts : (w : Halt) (L : ℕ) (e₂ : List ℕ) {i p a l : ℕ} {e e₁ : List ℕ} → Moves t i e a p l e₁ → l ≤ a → Walked t p e₁ l (Err w) e₂ → Turned t L i e a (Err w) e₂
  body_halts (ZeroStep r l) L e₂ v g w = faults_later v g w
  body_halts HaltSpent L e₂ v g w = dues_later v w

pub stands_still : (t : List ℕ) (i : ℕ) (e : List ℕ) (a : ℕ) → i ≤ size t → Walk t i e a i a e
stands_still t i e a h = record { moves = stays t i e a; same = refl; fewer = omega arith; onward = omega arith; within = h }

-- ---- one row that opens nothing
module _ (t : List ℕ) (i : ℕ) (e e₁ : List ℕ) (a : ℕ) (l : i < size t) where
  one_row : kind_at t i ≢ 4 → kind_at t i ≢ 7 → (env : Env) → env_of e₁ ≡ env → ((os : List Opening) → step t (at i (env_of e) os) ≡ on (at (suc i) env os)) → Rowed t i e a (On (i + 1) a) e₁
  one_row n m env q s =
      rw (add-one i) (
        record {
          moves = λ os st. record { openings = os; reach = then (s os ∙ ap (λ (x : Env). on (at (suc i) x os)) (sym q)) here; turns = refl };
          same = loops_after_other t i n m;
          fewer = omega arith;
          onward = omega arith;
          within = omega arith;
        },
        omega arith,
      )

  pub op_walks : {k : ℕ} → k ≡ kind_at t i → k ≡ 2 → env_of e₁ ≡ set_row i (operate (word t i 1) (env_of e (word t i 2)) (env_of e (word t i 3))) (env_of e) → Rowed t i e a (On (i + 1) a) e₁
  op_walks {k} q z h = one_row (λ x. omega arith) (λ x. omega arith) _ h (λ os. step_op t i (env_of e) os l (sym q ∙ z))

  pub pick_walks : {k : ℕ} → k ≡ kind_at t i → k ≡ 3 → env_of e₁ ≡ set_row i (choose (env_of e (word t i 1)) (env_of e (word t i 2)) (env_of e (word t i 3))) (env_of e) → Rowed t i e a (On (i + 1) a) e₁
  pick_walks {k} q z h = one_row (λ x. omega arith) (λ x. omega arith) _ h (λ os. step_pick t i (env_of e) os l (sym q ∙ z))

  pub other_walks : {k : ℕ} → k ≡ kind_at t i → k ≢ 2 → k ≢ 3 → k ≢ 4 → kind_at t i ≢ 7 → e₁ ≡ e → Rowed t i e a (On (i + 1) a) e₁
  other_walks {k} q n2 n3 n4 n7 h =
      one_row (λ z. n4 (q ∙ z)) n7 (env_of e) (ap env_of h) (λ os. step_other t i (env_of e) os l (λ z. n2 (q ∙ z)) (λ z. n3 (q ∙ z)) (λ z. n4 (q ∙ z)) n7)

-- ---- the loop at row L
module _ (t : List ℕ) (ok : TableRight t) (L : ℕ) (l : L < size t) (k : kind_at t L ≡ 4) where
  abbrev S : Structure t
  S = right_table_has_structure t ok

  pub end_inside : end_of t L < size t
  end_inside = (S.loop_span L l k).inside

  pub end_few : {end : ℕ} → end ≡ end_of t L → end + 1 ≤ 512
  end_few {end} q = let a = end_inside in let b = S.few in omega arith

  pub first_below : {first : ℕ} → first ≡ first_of t L → first ≤ size t
  first_below {first} q = let a = (S.loop_first L l k).1 in let b = end_inside in omega arith

  behind : loops_at t (suc (end_of t L)) ≡ loops_at t L
  behind = let p = S.loop_span L l k in loops_after_end t ok (end_of t L) p.inside p.end_kind ∙ ap (loops_at t) p.end_body

  -- how many loops are open in its body, and that there is room for them
  pub one_deeper : {first : ℕ} → first ≡ first_of t L → length (loops_at t first) ≡ suc (length (loops_at t L))
  one_deeper q = ap (λ (x : ℕ). length (loops_at t x)) q ∙ ap length (loops_in_body t L k)

  pub room : suc (length (loops_at t L)) ≤ 8
  room = let a = one_deeper refl in let b = loops_few t ok (first_of t L) (first_below refl) in omega arith

  -- as it opens
  module _ (e : List ℕ) (a : ℕ) where
    abbrev env : Env
    env = env_of e

    pub opens_zero : {z : ℕ} → z ≡ env (word t L 2) → z ≡ 0 → Rowed t L e a (Zero L a) e
    opens_zero q z = (λ os st. record { last = at L env os; reach = here; stops = step_faults t L env os l k (sym q ∙ z); turns = refl }, omega arith)

    module _ {z x c : ℕ} (qz : z ≡ env (word t L 2)) (nz : z ≢ 0) (qx : x ≡ env (word t L 1)) (qc : c ≡ condition (word t L 5) x (env (word t L 3))) where
      has_step : env (word t L 2) ≢ 0
      has_step h = nz (qz ∙ h)

      tested : condition (word t L 5) (env (word t L 1)) (env (word t L 3)) ≡ c
      tested = ap (λ (y : ℕ). condition (word t L 5) y (env (word t L 3))) (sym qx) ∙ sym qc

      pub opens_none : {end : ℕ} {e₁ : List ℕ} → c ≡ 0 → end ≡ end_of t L → env_of e₁ ≡ leave t L (arg_named t env) env → Rowed t L e a (On (end + 1) a) e₁
      opens_none {end} {e₁} z q h =
          rw (add-one end, q) (
            record {
              moves =
                  λ os st.
                  record {
                    openings = opening L 0 ∷ os;
                    reach = then (step_skips t L env os l k has_step (tested ∙ z) ∙ ap (λ (y : Env). on (at (suc (end_of t L)) y (opening L 0 ∷ os))) (sym h)) here;
                    turns = let m = no_turn_made L os in omega arith;
                  };
              same = behind;
              fewer = omega arith;
              onward = let p = (S.loop_span L l k).below in omega arith;
              within = end_inside;
            },
            let p = (S.loop_span L l k).below in omega arith,
          )

      opening_turn : c ≢ 0 → (os : List Opening) → step t (at L env os) ≡ on (at (first_of t L) (turn t L x (named t env) env) (opening L 1 ∷ os))
      opening_turn n os =
          step_opens t L env os l k has_step (λ z. n (sym tested ∙ z)) ∙ ap (λ (y : ℕ). on (at (first_of t L) (turn t L y (named t env) env) (opening L 1 ∷ os))) (sym qx)

      pub opens_spent : c ≢ 0 → a ≡ 0 → Dues t L e a
      opens_spent n z os st =
          record {
            last = at L env os;
            reach = here;
            made = omega arith;
            over = at (first_of t L) (turn t L x (named t env) env) (opening L 1 ∷ os);
            next = opening_turn n os;
            one_more_lem = let m = one_turn_made L os in omega arith;
          }

      pub opens_turn : {first : ℕ} {e₁ : List ℕ} → c ≢ 0 → a ≢ 0 → first ≡ first_of t L → env_of e₁ ≡ turn t L x (named t env) env → Moves t L e a first (a - 1) e₁
      opens_turn {first} {e₁} n z q h os st =
          record {
            openings = opening L 1 ∷ os;
            reach = rw q (then (opening_turn n os ∙ ap (λ (y : Env). on (at (first_of t L) y (opening L 1 ∷ os))) (sym h)) here);
            turns = let m = one_turn_made L os in omega arith;
          }

      -- and its turns behind that
      pub turns_walk : (w : Went) (e₁ e₂ : List ℕ) {first : ℕ} → c ≢ 0 → a ≢ 0 → first ≡ first_of t L → env_of e₁ ≡ turn t L x (named t env) env → Turned t L first e₁ (a - 1) w e₂
          → Rowed t L e a w e₂
      turns_walk (Ok g) e₁ e₂ n z q h w =
          let b = w.2 in
          let r = w.1 in
          let s = (S.loop_span L l k).below in
          let i = end_inside in (
            record {
              moves = moves_on ok (opens_turn n z q h) w.0;
              same = ap (loops_at t) r ∙ behind;
              fewer = omega arith;
              onward = omega arith;
              within = omega arith;
            },
            omega arith,
          )
      turns_walk (Err (ZeroStep r m)) e₁ e₂ n z q h w = faults_later ok (opens_turn n z q h) (omega arith) w
      turns_walk (Err HaltSpent) e₁ e₂ n z q h w = dues_later ok (opens_turn n z q h) w

  -- as its body has come to row p
  module _ {first : ℕ} (qf : first ≡ first_of t L) {e₀ e₁ e : List ℕ} {a₀ a p m : ℕ} (so : Moves t first e₀ a₀ first a e₁) (v : Walked t first e₁ a (On p m) e) where
    in_loop_lem : loops_at t p ≡ L ∷ loops_at t L
    in_loop_lem = v.0.same ∙ ap (loops_at t) qf ∙ loops_in_body t L k

    not_last : p ≢ size t
    not_last q = absurd (empty (sym (loops_last t ok) ∙ ap (loops_at t) (sym q) ∙ in_loop_lem))
      where
        empty : {x : ℕ} {xs : List ℕ} → [] ≡ x ∷ xs → ⊥
        empty h = let z : ◌≡◌ {A = ℕ} 0 1 = cc in omega arith

    at_end : kind_at t p ≡ 7
    at_end = ⊎_elim (λ q. q) (λ q. absurd (not_last q)) v.1

    inside : p < size t
    inside = let w = v.0.within in let n : p ≢ size t = not_last in omega arith

    of_loop : body_of t p ≡ L
    of_loop = same_loops t p first v.0.same ∙ ap (body_of t) qf ∙ body_in_body t L k

    pub end_is : p ≡ end_of t L
    end_is = sym (S.end_of_lem p inside at_end).2 ∙ ap (end_of t) of_loop

    come : Moves t first e₀ a₀ p m e
    come = moves_on ok so v.0.moves

    module _ {x c : ℕ} (qx : x ≡ update (word t L 4) (env_of e L) (env_of e (word t L 2))) (qc : c ≡ condition (word t L 5) x (env_of e (word t L 3))) where
      pub turn_leaves : {e₂ : List ℕ} → a ≤ a₀ → c ≡ 0 → env_of e₂ ≡ leave t L (named t (env_of e)) (env_of e) → Turned t L first e₀ a₀ (On (p + 1) m) e₂
      turn_leaves {e₂} h z q =
          let f = v.0.fewer in
          rw (add-one p) (
            moves_on ok come (λ os st. record {
              openings = os;
              reach = then (step_leaves t p (env_of e) os inside L at_end of_loop k x qx (sym qc ∙ z) ∙ ap (λ (y : Env). on (at (suc p) y os)) (sym q)) here;
              turns = refl;
            }),
            ap suc end_is,
            omega arith,
          )

      another : c ≢ 0 → (os : List Opening) → step t (at p (env_of e) os) ≡ on (at (first_of t L) (turn t L x (next_named t (env_of e)) (env_of e)) (one_turn L os))
      another n os = step_turns t p (env_of e) os inside L at_end of_loop k x qx (λ z. n (qc ∙ z))

      counted : (os : List Opening) → Standing t p os → turns_made (one_turn L os) ≡ suc (turns_made os)
      counted os st = turn_counts L (subst (λ (y : ℕ). Opened y os) of_loop (end_opened t ok p os inside at_end st))

      pub turn_spent : c ≢ 0 → m ≡ 0 → Dues t first e₀ a₀
      turn_spent n z =
          dues_later ok come (λ os st. record {
            last = at p (env_of e) os;
            reach = here;
            made = omega arith;
            over = at (first_of t L) (turn t L x (next_named t (env_of e)) (env_of e)) (one_turn L os);
            next = another n os;
            one_more_lem = let q = counted os st in omega arith;
          })

      pub turn_again : {e₂ : List ℕ} → c ≢ 0 → m ≢ 0 → env_of e₂ ≡ turn t L x (next_named t (env_of e)) (env_of e) → Moves t first e₀ a₀ first (m - 1) e₂
      turn_again {e₂} n z q =
          moves_on ok come (λ os st. record {
            openings = one_turn L os;
            reach = rw qf (then (another n os ∙ ap (λ (y : Env). on (at (first_of t L) y (one_turn L os))) (sym q)) here);
            turns = let h = counted os st in omega arith;
          })
