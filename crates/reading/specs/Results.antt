-- There is a result for each OUT row.
-- Main results: `results_are_rows`; `ended_has_a_word_each`: so where the reading of a table that passes ends.
-- Assumes nothing.
use Prim.Native.Nat.{ℕ, zero, suc, ◌+◌}
use Rattle.std.specs.Prelude.{Bool, true, false, cond, List, ◌∷◌, eqb}
use Rattle.std.proofs.Math.Option.{some}
use Rattle.std.proofs.Math.Path.{◌≡◌, refl, ap}
use Rattle.std.proofs.Common.{sym, ◌∙◌, arith}
use Rattle.std.proofs.Math.Decide.{dec_lt}
use Rattle.std.proofs.Math.ListN.{length}
use Rattle.table.specs.Rows.{kind_at, word, size}
use Rattle.table.specs.Counted.{rows_of, none_below}
use Rattle.structure.specs.Structure.{Structure}
use Rattle.reading.specs.Reading.{Env, Opening, State, ended, Step, on, stop, results_from, begin, step, and_then, read_from, read}
use Rattle.reading.specs.Steps.{step_past, Stepped, goes_on, opens, skips, faults, turns, leaves, step_is}
use Rattle.reading.specs.Outcome.{Reads}

-- the rows below r, and the results from r up
results_behind : (t : List ℕ) (env : Env) (m r : ℕ) → rows_of 8 t r + length (results_from m t env r) ≡ rows_of 8 t (r + m)
unfolding rows_of results_from
results_behind t env zero r = let e : r + 0 ≡ r = omega arith in rw e (omega arith)
results_behind t env (suc m) r = let e : r + suc m ≡ suc r + m = omega arith in rw e (go (eqb (kind_at t r) 8) (results_behind t env m (suc r)))
  where
    go : (b : Bool) → cond b (suc (rows_of 8 t r)) (rows_of 8 t r) + length (results_from m t env (suc r)) ≡ rows_of 8 t (suc r + m)
        → rows_of 8 t r + length (cond b (env (word t r 1) ∷ results_from m t env (suc r)) (results_from m t env (suc r))) ≡ rows_of 8 t (suc r + m)
    go true h = omega arith
    go false h = h

pub results_are_rows : (t : List ℕ) (env : Env) → length (results_from (size t) t env 0) ≡ rows_of 8 t (size t)
results_are_rows t env =
    let e = results_behind t env (size t) 0 in
    let z = none_below 8 t in
    let f : 0 + size t ≡ size t = omega arith in
    let g = ap (rows_of 8 t) f in
    omega arith

module _ (t : List ℕ) (S : Structure t) (rs : List ℕ) (os : List Opening) where
  -- a step ends the reading past the last row alone
  step_has_a_word_each : (s : State) → step t s ≡ stop (ended rs os) → length rs ≡ rows_of 8 t (size t)
  step_has_a_word_each s e = elim (dec_lt s.pc (size t)) [ yes l ↦ row (step_is t S s l) | no n ↦ past (sym (step_past t s (omega arith)) ∙ e) ]
    where
      past : {os₁ : List Opening} → stop (ended (results_from (size t) t s.env 0) os₁) ≡ stop (ended rs os) → length rs ≡ rows_of 8 t (size t)
      past h = let q : results_from (size t) t s.env 0 ≡ rs = cc in ap length (sym q) ∙ results_are_rows t s.env

      never : {x : State} → step t s ≡ on x → length rs ≡ rows_of 8 t (size t)
      never q = let h = sym q ∙ e in let z : ◌≡◌ {A = ℕ} 0 1 = cc in absurd (omega arith)

      row : Stepped t s → length rs ≡ rows_of 8 t (size t)
      row (goes_on a b env q) = never q
      row (opens k env q) = never q
      row (skips k env q) = never q
      row (faults k q) = let h = sym q ∙ e in let z : ◌≡◌ {A = ℕ} 0 1 = cc in absurd (omega arith)
      row (turns k env q) = never q
      row (leaves k env q) = never q

  read_has_a_word_each : (k : ℕ) (s : State) → read_from k t s ≡ some (ended rs os) → length rs ≡ rows_of 8 t (size t)
  unfolding read_from
  read_has_a_word_each zero s h = let z : ◌≡◌ {A = ℕ} 0 1 = cc in absurd (omega arith)
  read_has_a_word_each (suc k) s h = go (step t s) refl h (read_has_a_word_each k)
    where
      go : (x : Step) → step t s ≡ x → and_then x (λ s₁. read_from k t s₁) ≡ some (ended rs os) → ((s₁ : State) → read_from k t s₁ ≡ some (ended rs os) → length rs ≡ rows_of 8 t (size t))
          → length rs ≡ rows_of 8 t (size t)
      go (on s₁) e d later = later s₁ d
      go (stop o) e d later = step_has_a_word_each s (e ∙ ap stop (let f : o ≡ ended rs os = cc in f))

  pub ended_has_a_word_each : (inputs : List ℕ) → Reads t inputs (ended rs os) → length rs ≡ rows_of 8 t (size t)
  unfolding read
  ended_has_a_word_each inputs r = read_has_a_word_each r.steps (begin t inputs) r.comes
