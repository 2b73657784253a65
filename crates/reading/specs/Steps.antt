-- What one small step is, by the place of the reading and the kind of the row there.
-- Main names: `step_below`, `step_past`; `step_op`, `step_pick`, `step_other`, of a FOR `step_faults`, `step_skips`, `step_opens`, of an END `step_leaves`,
-- `step_turns`; `Stepped`, `step_is`: where a step of a table that passes goes, and what becomes of the openings.
-- Assumes nothing.
use Rattle.std.specs.Prelude.{ℕ, zero, suc, ◌<◌, ◌≤◌, List, ◌∷◌, reverse, ◌≢◌, ◌≡◌, refl}
use Rattle.std.proofs.Common.{sym, ap, ap₂, ◌∙◌, arith, lt-ltb, le-ltb}
use Rattle.word.specs.Words.{condition, update, operate}
use Rattle.table.specs.Rows.{kind_at, word, size}
use Rattle.table.specs.Scan.{body_of}
use Rattle.table.specs.Bodies.{Row, row_at, end_of, first_of}
use Rattle.structure.specs.Decoded.{Decoded, is_input_lem, is_const, is_op_lem, is_pick, is_for_lem, is_arg_lem, is_next_lem, is_end, is_out_lem, is_unknown, decoded, op_row_lem, pick_row_lem, for_row, end_row}
use Rattle.structure.specs.Structure.{Structure}
use Rattle.reading.specs.Reading.{Env, Opening, opening, State, at, ended, zero_step, on, stop, set_row, choose, one_turn, results_from, turn, leave, named, next_named, arg_named, for_step, end_step, end_by, row_step, step}

module _ (t : List ℕ) (s : State) where
  pub step_below : s.pc < size t → step t s ≡ row_step (row_at t s.pc) t s.pc s.env s.openings
  unfolding step
  step_below l = rw (lt-ltb s.pc (size t) l, step)

  pub step_past : size t ≤ s.pc → step t s ≡ stop (ended (results_from (size t) t s.env 0) (reverse s.openings))
  unfolding step
  step_past l = rw (le-ltb s.pc (size t) l, step)

above : (x : ℕ) → x ≢ 0 → (y : ℕ) × (x ≡ suc y)
above zero n = absurd (n refl)
above (suc y) n = (y, refl)

-- ---- by the kind of the row
module _ (t : List ℕ) (pc : ℕ) (env : Env) (os : List Opening) (l : pc < size t) where
  by_row : (x : Row) → row_at t pc ≡ x → step t (at pc env os) ≡ row_step x t pc env os
  by_row x e = step_below t (at pc env os) l ∙ ap (λ (y : Row). row_step y t pc env os) e

  pub step_op : kind_at t pc ≡ 2 → step t (at pc env os) ≡ on (at (suc pc) (set_row pc (operate (word t pc 1) (env (word t pc 2)) (env (word t pc 3))) env) os)
  step_op k = by_row _ (op_row_lem t pc k)

  pub step_pick : kind_at t pc ≡ 3 → step t (at pc env os) ≡ on (at (suc pc) (set_row pc (choose (env (word t pc 1)) (env (word t pc 2)) (env (word t pc 3))) env) os)
  step_pick k = by_row _ (pick_row_lem t pc k)

  pub step_other : kind_at t pc ≢ 2 → kind_at t pc ≢ 3 → kind_at t pc ≢ 4 → kind_at t pc ≢ 7 → step t (at pc env os) ≡ on (at (suc pc) env os)
  step_other a b c d = go (decoded t pc)
    where
      go : Decoded t pc → step t (at pc env os) ≡ on (at (suc pc) env os)
      go (is_input_lem k e) = by_row _ e
      go (is_const k e) = by_row _ e
      go (is_op_lem k e) = absurd (a k)
      go (is_pick k e) = absurd (b k)
      go (is_for_lem k e) = absurd (c k)
      go (is_arg_lem k e) = by_row _ e
      go (is_next_lem k e) = by_row _ e
      go (is_end k e) = absurd (d k)
      go (is_out_lem k e) = by_row _ e
      go (is_unknown k e) = by_row _ e

  step_for : kind_at t pc ≡ 4
      → step t (at pc env os) ≡ for_step t pc (env (word t pc 1)) env os (env (word t pc 2)) (condition (word t pc 5) (env (word t pc 1)) (env (word t pc 3)))
  step_for k = by_row _ (for_row t pc k)

  step_end : (L : ℕ) → kind_at t pc ≡ 7 → body_of t pc ≡ L → kind_at t L ≡ 4
      → step t (at pc env os) ≡ end_step t L pc (update (word t L 4) (env L) (env (word t L 2))) env os (condition (word t L 5) (update (word t L 4) (env L) (env (word t L 2))) (env (word t L 3)))
  step_end L k b f =
      by_row _ (end_row t pc k) ∙ ap (λ (M : ℕ). end_by (row_at t M) t M pc env os) b ∙ ap (λ (x : Row). end_by x t L pc env os) (for_row t L f)

-- a FOR by its step word and its condition, an END by the condition of the updated index
module _ (t : List ℕ) (pc : ℕ) (env : Env) (os : List Opening) (l : pc < size t) where
  module _ (k : kind_at t pc ≡ 4) where
    abbrev start : ℕ
    start = env (word t pc 1)

    pub step_faults : env (word t pc 2) ≡ 0 → step t (at pc env os) ≡ stop (zero_step pc (reverse os))
    step_faults z = step_for t pc env os l k ∙ ap (λ (x : ℕ). for_step t pc start env os x (condition (word t pc 5) start (env (word t pc 3)))) z

    by_for_lem : (st c : ℕ) → env (word t pc 2) ≡ st → condition (word t pc 5) start (env (word t pc 3)) ≡ c → step t (at pc env os) ≡ for_step t pc start env os st c
    by_for_lem st c a b = step_for t pc env os l k ∙ ap₂ (λ (x y : ℕ). for_step t pc start env os x y) a b

    pub step_skips : env (word t pc 2) ≢ 0 → condition (word t pc 5) (env (word t pc 1)) (env (word t pc 3)) ≡ 0
        → step t (at pc env os) ≡ on (at (suc (end_of t pc)) (leave t pc (arg_named t env) env) (opening pc 0 ∷ os))
    step_skips n z = let m = above (env (word t pc 2)) n in by_for_lem (suc m.0) 0 m.1 z

    pub step_opens : env (word t pc 2) ≢ 0 → condition (word t pc 5) (env (word t pc 1)) (env (word t pc 3)) ≢ 0
        → step t (at pc env os) ≡ on (at (first_of t pc) (turn t pc (env (word t pc 1)) (named t env) env) (opening pc 1 ∷ os))
    step_opens n c = let m = above (env (word t pc 2)) n in let q = above (condition (word t pc 5) start (env (word t pc 3))) c in by_for_lem (suc m.0) (suc q.0) m.1 q.1

  module _ (L : ℕ) (k : kind_at t pc ≡ 7) (b : body_of t pc ≡ L) (f : kind_at t L ≡ 4) (x : ℕ) (index : x ≡ update (word t L 4) (env L) (env (word t L 2))) where
    by_end_lem : (c : ℕ) → condition (word t L 5) x (env (word t L 3)) ≡ c → step t (at pc env os) ≡ end_step t L pc x env os c
    by_end_lem c e =
        step_end t pc env os l L k b f ∙ ap (λ (y : ℕ). end_step t L pc y env os (condition (word t L 5) y (env (word t L 3)))) (sym index)
        ∙ ap (end_step t L pc x env os) e

    pub step_leaves : condition (word t L 5) x (env (word t L 3)) ≡ 0 → step t (at pc env os) ≡ on (at (suc pc) (leave t L (named t env) env) os)
    step_leaves z = by_end_lem 0 z

    pub step_turns : condition (word t L 5) x (env (word t L 3)) ≢ 0 → step t (at pc env os) ≡ on (at (first_of t L) (turn t L x (next_named t env) env) (one_turn L os))
    step_turns n = let q = above (condition (word t L 5) x (env (word t L 3))) n in by_end_lem (suc q.0) q.1

-- ---- where a step goes
-- on to the next row; a loop opens, has no turn, or has a zero step; at its END it has another turn, or is left
pub data Stepped (t : List ℕ) (s : State) : Type 0 where
  goes_on : kind_at t s.pc ≢ 4 → kind_at t s.pc ≢ 7 → (env : Env) → step t s ≡ on (at (suc s.pc) env s.openings) → Stepped t s
  opens : kind_at t s.pc ≡ 4 → (env : Env) → step t s ≡ on (at (first_of t s.pc) env (opening s.pc 1 ∷ s.openings)) → Stepped t s
  skips : kind_at t s.pc ≡ 4 → (env : Env) → step t s ≡ on (at (suc (end_of t s.pc)) env (opening s.pc 0 ∷ s.openings)) → Stepped t s
  faults : kind_at t s.pc ≡ 4 → step t s ≡ stop (zero_step s.pc (reverse s.openings)) → Stepped t s
  turns : kind_at t s.pc ≡ 7 → (env : Env) → step t s ≡ on (at (first_of t (body_of t s.pc)) env (one_turn (body_of t s.pc) s.openings)) → Stepped t s
  leaves : kind_at t s.pc ≡ 7 → (env : Env) → step t s ≡ on (at (suc s.pc) env s.openings) → Stepped t s

pub step_is : (t : List ℕ) → Structure t → (s : State) → s.pc < size t → Stepped t s
step_is t S s l = go (decoded t s.pc)
  where
    row : (x : Row) → row_at t s.pc ≡ x → step t s ≡ row_step x t s.pc s.env s.openings
    row x e = step_below t s l ∙ ap (λ (y : Row). row_step y t s.pc s.env s.openings) e

    for : kind_at t s.pc ≡ 4 → (start st c : ℕ) → step t s ≡ for_step t s.pc start s.env s.openings st c → Stepped t s
    for k start zero c e = faults k e
    for k start (suc m) zero e = skips k _ e
    for k start (suc m) (suc c) e = opens k _ e

    end : kind_at t s.pc ≡ 7 → (x c : ℕ) → step t s ≡ end_step t (body_of t s.pc) s.pc x s.env s.openings c → Stepped t s
    end k x zero e = leaves k _ e
    end k x (suc c) e = turns k _ e

    go : Decoded t s.pc → Stepped t s
    go (is_input_lem k e) = goes_on (λ z. omega arith) (λ z. omega arith) _ (row _ e)
    go (is_const k e) = goes_on (λ z. omega arith) (λ z. omega arith) _ (row _ e)
    go (is_op_lem k e) = goes_on (λ z. omega arith) (λ z. omega arith) _ (row _ e)
    go (is_pick k e) = goes_on (λ z. omega arith) (λ z. omega arith) _ (row _ e)
    go (is_for_lem k e) =
        for k (s.env (word t s.pc 1)) (s.env (word t s.pc 2)) (condition (word t s.pc 5) (s.env (word t s.pc 1)) (s.env (word t s.pc 3))) (step_for t s.pc s.env s.openings l k)
    go (is_arg_lem k e) = goes_on (λ z. omega arith) (λ z. omega arith) _ (row _ e)
    go (is_next_lem k e) = goes_on (λ z. omega arith) (λ z. omega arith) _ (row _ e)
    go (is_end k e) =
        let L = body_of t s.pc in
        let x = update (word t L 4) (s.env L) (s.env (word t L 2)) in
        end k x (condition (word t L 5) x (s.env (word t L 3))) (step_end t s.pc s.env s.openings l L k refl (S.end_of_lem s.pc l k).0)
    go (is_out_lem k e) = goes_on (λ z. omega arith) (λ z. omega arith) _ (row _ e)
    go (is_unknown k e) = absurd (let z = S.kinds s.pc l in omega arith)
