-- The outcome of a reading: there is at most one.
-- Main names: `Reads` (reading a table on some inputs comes to an outcome), `one_outcome`.
-- Assumes nothing.
use Rattle.std.specs.Prelude.{ℕ, zero, suc, ◌+◌, ◌≡◌, List}
use Rattle.std.proofs.Math.Option.{some}
use Rattle.std.proofs.Common.{arith}
use Rattle.reading.specs.Reading.{State, Outcome, Step, on, stop, step, begin, and_then, read_from, read}

-- so many steps bring the reading of t on these inputs to outcome o
pub record Reads (t inputs : List ℕ) (o : Outcome) : Type 0 where
  pub steps : ℕ
  pub comes : read steps t inputs ≡ some o

-- more steps change no outcome
pub more_steps : (t : List ℕ) (k m : ℕ) (s : State) (o : Outcome) → read_from k t s ≡ some o → read_from (k + m) t s ≡ some o
unfolding read_from
more_steps t zero m s o h = let z : ◌≡◌ {A = ℕ} 0 1 = cc in absurd (omega arith)
more_steps t (suc k) m s o h =
    let e : suc k + m ≡ suc (k + m) = omega arith in rw e (go (λ s₁. more_steps t k m s₁ o) (step t s) h)
  where
    go : ((s₁ : State) → read_from k t s₁ ≡ some o → read_from (k + m) t s₁ ≡ some o) → (x : Step) → and_then x (λ s₁. read_from k t s₁) ≡ some o
        → and_then x (λ s₁. read_from (k + m) t s₁) ≡ some o
    go later (on s₁) h = later s₁ h
    go later (stop p) h = h

-- THE READING IS DETERMINISTIC: a table has at most one outcome on its inputs
pub one_outcome : (t inputs : List ℕ) (o p : Outcome) → Reads t inputs o → Reads t inputs p → o ≡ p
unfolding read
one_outcome t inputs o p a b =
    let m = a.steps in let n = b.steps in
    let x = more_steps t m n (begin t inputs) o a.comes in
    let y = more_steps t n m (begin t inputs) p b.comes in
    let e : n + m ≡ m + n = omega arith in
    let z = rw e at y in
    cc
