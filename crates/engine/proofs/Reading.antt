-- The walk of the whole table, from its first row: what it has come to is the answer.
-- Assumes nothing.
use Prim.Native.Nat.{ℕ, suc, ◌+◌, ◌-◌, ◌*◌, ◌≤◌}
use mathlib.Core.Option.{some}
use mathlib.Core.List.{List, [], ◌∷◌, reverse}
use mathlib.Core.Logic.{◌⊎◌, ⊎_elim}
use mathlib.Core.Path.{◌≡◌, refl, sym, ap, ◌∙◌, subst}
use native.Mathlib.Omega.{arith}
use lib.Seq.{sets}
use Rattle.table.specs.Rows.{kind_at, size}
use Rattle.table.specs.Right.{TableRight}
use Rattle.structure.specs.Structure.{right_table_has_structure, in_table}
use Rattle.structure.specs.Behind.{loops_at, loops_first}
use Rattle.reading.specs.Reading.{Env, State, at, Outcome, ended, zero_step, stop, first_words, begin, results_from, step}
use Rattle.reading.specs.Steps.{step_past}
use Rattle.reading.specs.Within.{turns_made, Within, comes, spent, read_within, reverse_made, Reach}
use Rattle.reading.proofs.Within.{step_stops_there, one_within, reach_within, due_is_spent}
use Rattle.reading.specs.Standing.{Standing, begin_stands, end_loops}
use Rattle.reading.proofs.Bounded.{walk_is_bounded}
use Rattle.turning.specs.Words.{env_of}
use Rattle.walking.specs.Walks.{On, Faults, Dues, Walked}
use Rattle.engine.specs.Answers.{plain_within, told_by, lent_by}
use Rattle.engine.specs.Plain.{Ended, ZeroStep, Spent}

fresh : turns_made [] ≡ 0
unfolding turns_made
fresh = refl

module _ (t inputs : List ℕ) (ok : TableRight t) (A : ℕ) (e : List ℕ) (q : env_of e ≡ first_words t inputs) where
  abbrev first : State
  first = at 0 (env_of e) []

  begins : begin t inputs ≡ first
  unfolding begin
  begins = ap (λ (x : Env). at 0 x []) (sym q)

  stands : Standing t 0 []
  unfolding begin
  stands = begin_stands t ok inputs

  -- what the reading within the allowance comes to, in however many steps, is the answer's
  settled : (k : ℕ) (w : Within) → read_within k A t first ≡ some w → plain_within t inputs A ≡ some w
  unfolding plain_within
  settled k w h =
      let b = walk_is_bounded t ok inputs A in
      b.1 ∙ ap some (one_within t A (suc (suc A * size t)) k (begin t inputs) b.0 w b.1 (subst (λ (s : State). read_within k A t s ≡ some w) (sym begins) h))

  -- it stops at a state that the walk has come to
  stopped : (s : State) (o : Outcome) → Reach t first s → step t s ≡ stop o → turns_made s.openings ≤ A → plain_within t inputs A ≡ some (comes o)
  stopped s o r e m = let w = reach_within A r m 1 (comes o) (step_stops_there t A 0 s o e) in settled w.0 (comes o) w.1

  -- outside every loop there is no END
  past : {p : ℕ} → loops_at t p ≡ loops_at t 0 → (kind_at t p ≡ 7) ⊎ (p ≡ size t) → p ≡ size t
  past {p} same h = ⊎_elim (λ k. absurd (none k)) (λ z. z) h
    where
      empty : {x : ℕ} {xs : List ℕ} → [] ≡ x ∷ xs → ⊥
      empty h = let z : ◌≡◌ {A = ℕ} 0 1 = cc in omega arith

      none : kind_at t p ≡ 7 → ⊥
      none k = empty (sym (same ∙ loops_first t) ∙ end_loops t ok p (in_table t (right_table_has_structure t ok) p (λ z. omega arith)) k)

  pub ended_answer : {p l : ℕ} {e₁ : List ℕ} (n : ℕ) (res res₁ : List ℕ) → n ≡ size t → Walked t 0 e A (On p l) e₁ → res₁ ≡ sets res 0 (results_from n t (env_of e₁) 0)
      → (Ended (A - l) ≡ told_by A (plain_within t inputs A)) × (res₁ ≡ lent_by res (plain_within t inputs A))
  ended_answer {p} {l} {e₁} n res res₁ rows v h =
      let c = v.0.moves [] stands in
      let os = c.openings in
      let z = past v.0.same v.1 in
      let turns = c.turns in
      let f = fresh in
      let s = stopped (at p (env_of e₁) os) (ended (results_from (size t) t (env_of e₁) 0) (reverse os)) c.reach (step_past t (at p (env_of e₁) os) (omega arith)) (omega arith) in
      let made : A - l ≡ turns_made (reverse os) = let r = reverse_made os in omega arith in
      (ap Ended made ∙ sym (ap (told_by A) s), h ∙ ap (λ (m : ℕ). sets res 0 (results_from m t (env_of e₁) 0)) rows ∙ sym (ap (lent_by res) s))

  pub zero_answer : {r l : ℕ} (res : List ℕ) → Faults t 0 e A r l
      → (ZeroStep r (A - l) ≡ told_by A (plain_within t inputs A)) × (res ≡ lent_by res (plain_within t inputs A))
  zero_answer {r} {l} res v =
      let c = v.0 [] stands in
      let turns = c.turns in
      let f = fresh in
      let s = stopped c.last (zero_step r (reverse c.last.openings)) c.reach c.stops (omega arith) in
      let made : A - l ≡ turns_made (reverse c.last.openings) = let q = reverse_made c.last.openings in omega arith in
      (ap (ZeroStep r) made ∙ sym (ap (told_by A) s), sym (ap (lent_by res) s))

  pub spent_answer : (res : List ℕ) → Dues t 0 e A → (Spent A ≡ told_by A (plain_within t inputs A)) × (res ≡ lent_by res (plain_within t inputs A))
  spent_answer res v =
      let d = due_is_spent t (turns_made [] + A) first (v [] stands) in
      let f : turns_made [] + A ≡ A = let g = fresh in omega arith in
      let s = settled d.0 spent (subst (λ (x : ℕ). read_within d.0 x t first ≡ some spent) f d.1) in
      (sym (ap (told_by A) s), sym (ap (lent_by res) s))
