-- The reading within an allowance is of bounded length.
--
--   walk_is_bounded      with A turns allowed, (A + 1) times the rows and one step more are enough
--
-- Assumes nothing.
use Rattle.std.specs.Prelude.{ℕ, zero, suc, ◌+◌, ◌*◌, ◌-◌, ◌<◌, ◌≤◌, List, ◌⊎◌, ◌≡◌, refl}
use Rattle.std.proofs.Math.Option.{some}
use Rattle.std.proofs.Common.{inl, inr, ap, ◌∙◌, suc-mul, arith}
use Rattle.std.proofs.Math.Decide.{dec_le}
use Rattle.table.specs.Rows.{size}
use Rattle.table.specs.Right.{TableRight}
use Rattle.reading.specs.Reading.{State, Step, on, stop, begin, step}
use Rattle.reading.specs.Within.{turns_made, Within, comes, spent, read_within}
use Rattle.reading.specs.Standing.{Standing, begin_stands, step_further, on_below}
use Rattle.reading.proofs.Within.{step_goes_on, step_goes_no_further, step_stops_there}

module _ (t : List ℕ) (ok : TableRight t) where
  -- ---- the length of the reading within an allowance
  -- one step from m turns and row p to m₁ turns and row p₁, of n rows, with A turns allowed
  one_shorter : (A n m p m₁ p₁ k : ℕ) → p < n → m₁ ≤ A → ((p < p₁) × (m₁ ≡ m)) ⊎ (m₁ ≡ suc m) → (A - m) * n + (n - p) ≤ k → (A - m₁) * n + (n - p₁) < k
  one_shorter A n m p m₁ p₁ k l h (inl q) w = let q0 = q.0 in let e : (A - m₁) * n ≡ (A - m) * n = ap (λ (x : ℕ). (A - x) * n) q.1 in omega arith
  one_shorter A n m p m₁ p₁ k l h (inr q) w =
      let e : A - m ≡ suc (A - m₁) = omega arith in
      let f : (A - m) * n ≡ suc (A - m₁) * n = ap (λ (x : ℕ). x * n) e in
      let g = suc-mul (A - m₁) n in
      omega arith

  bounded : (A k : ℕ) (s : State) → Standing t s.pc s.openings → turns_made s.openings ≤ A → (A - turns_made s.openings) * size t + (size t - s.pc) < k
      → (w : Within) × (read_within k A t s ≡ some w)
  bounded A zero s st m h = absurd (omega arith)
  bounded A (suc k) s st m h = go (step t s) refl (bounded A k)
    where
      go : (x : Step) → step t s ≡ x
          → ((s : State) → Standing t s.pc s.openings → turns_made s.openings ≤ A → (A - turns_made s.openings) * size t + (size t - s.pc) < k → (w : Within) × (read_within k A t s ≡ some w))
          → (w : Within) × (read_within (suc k) A t s ≡ some w)
      go (stop o) e ih = (comes o, step_stops_there t A k s o e)
      go (on s₁) e ih =
          elim (dec_le (turns_made s₁.openings) A) [
            | yes a ↦
                let l = on_below t ok s s₁ e in
                let f = step_further t ok s s₁ st l e in
                let r = ih s₁ f.stands a (one_shorter A (size t) (turns_made s.openings) s.pc (turns_made s₁.openings) s₁.pc k l a f.further (omega arith)) in
                (r.0, step_goes_on t A k s s₁ e a ∙ r.1)
            | no n ↦ (spent, step_goes_no_further t A k s s₁ e (omega arith))
          ]

  fresh : (inputs : List ℕ) → (turns_made (begin t inputs).openings ≡ 0) × ((begin t inputs).pc ≡ 0)
  unfolding begin turns_made
  fresh inputs = (refl, refl)

  -- THE READING WITHIN AN ALLOWANCE IS OF BOUNDED LENGTH
  pub walk_is_bounded : (inputs : List ℕ) (A : ℕ) → (w : Within) × (read_within (suc (suc A * size t)) A t (begin t inputs) ≡ some w)
  walk_is_bounded inputs A =
      let z = fresh inputs in
      let m = z.0 in
      bounded A (suc (suc A * size t)) (begin t inputs) (begin_stands t ok inputs) (omega arith) (enough (turns_made (begin t inputs).openings) (begin t inputs).pc z.0 z.1)
    where
      enough : (m p : ℕ) → m ≡ 0 → p ≡ 0 → (A - m) * size t + (size t - p) < suc (suc A * size t)
      enough m p a b =
          let d : A - m ≡ A = omega arith in
          let e : (A - m) * size t ≡ A * size t = ap (λ (x : ℕ). x * size t) d in
          let f = suc-mul A (size t) in
          omega arith
