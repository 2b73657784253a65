-- What the walkers say: from the state in which they begin, the small steps of the plain reading come to the state that they leave.
--
--   Moves, Walk           the reading comes from one row to another, with so many turns left
--   Faults, Dues          it comes to a zero step; it comes to where all turns are used up and one more is due
--   Went, On, Zero, Spent   how far a walker went
--   Walked, Rowed, Turned     a body's rows up to its END, one row, the turns of a loop whose first has begun
--
-- Openings are no words of the walkers: what is said holds for all that may stand there, and the turns left tell how many they have become.
-- Assumes nothing.
use Rattle.std.specs.Prelude.{ℕ, suc, ◌+◌, ◌<◌, ◌≤◌, List, reverse, ◌⊎◌, ◌≡◌, Result, Ok, Err}
use Rattle.table.specs.Rows.{kind_at, size}
use Rattle.table.specs.Bodies.{end_of}
use Rattle.structure.specs.Behind.{loops_at}
use Rattle.reading.specs.Reading.{Opening, State, at, zero_step, stop, step}
use Rattle.reading.specs.Within.{turns_made, Reach, Due}
use Rattle.reading.specs.Standing.{Standing}
use Rattle.turning.specs.Words.{env_of}
use Rattle.walking.specs.declared.At.{At}
use Rattle.walking.specs.declared.Halt.{Halt}
use Rattle.walking.specs.declared.Halt.TheVariants.{ZeroStep, Spent as HaltSpent}

-- row i, words e, a turns left; then row p, words e₁, l turns left
pub record Comes (t : List ℕ) (i : ℕ) (e : List ℕ) (a p l : ℕ) (e₁ : List ℕ) (os : List Opening) : Type 0 where
  pub openings : List Opening
  pub reach : Reach t (at i (env_of e) os) (at p (env_of e₁) openings)
  pub turns : turns_made openings + l ≡ turns_made os + a

abbrev pub Moves : List ℕ → ℕ → List ℕ → ℕ → ℕ → ℕ → List ℕ → Type 0
Moves t i e a p l e₁ = (os : List Opening) → Standing t i os → Comes t i e a p l e₁ os

-- further down in the same loops
pub record Walk (t : List ℕ) (i : ℕ) (e : List ℕ) (a p l : ℕ) (e₁ : List ℕ) : Type 0 where
  pub moves : Moves t i e a p l e₁
  pub same : loops_at t p ≡ loops_at t i
  pub fewer : l ≤ a
  pub onward : i ≤ p
  pub within : p ≤ size t

-- a zero step at row r with l turns left
pub record Stops (t : List ℕ) (i : ℕ) (e : List ℕ) (a r l : ℕ) (os : List Opening) : Type 0 where
  pub last : State
  pub reach : Reach t (at i (env_of e) os) last
  pub stops : step t last ≡ stop (zero_step r (reverse last.openings))
  pub turns : turns_made last.openings + l ≡ turns_made os + a

abbrev pub Faults : List ℕ → ℕ → List ℕ → ℕ → ℕ → ℕ → Type 0
Faults t i e a r l = ((os : List Opening) → Standing t i os → Stops t i e a r l os) × (l ≤ a)

abbrev pub Dues : List ℕ → ℕ → List ℕ → ℕ → Type 0
Dues t i e a = (os : List Opening) → Standing t i os → Due t (turns_made os + a) (at i (env_of e) os)

-- how far a walker went: to row p with l turns left; to a zero step at row r with l left; or to where a turn is due and none is left
abbrev pub Went : Type 0
Went = Result At Halt

abbrev pub On : ℕ → ℕ → Went
On p l = Ok (record { row = p; left = l })

abbrev pub Zero : ℕ → ℕ → Went
Zero r l = Err (ZeroStep r l)

abbrev pub Spent : Went
Spent = Err HaltSpent

-- the rows of a body up to its END, or up to the table's end
abbrev pub Walked : List ℕ → ℕ → List ℕ → ℕ → Went → List ℕ → Type 0
Walked t i e a (Ok w) e₁ = Walk t i e a w.row w.left e₁ × ((kind_at t w.row ≡ 7) ⊎ (w.row ≡ size t))
Walked t i e a (Err (ZeroStep r l)) e₁ = Faults t i e a r l
Walked t i e a (Err HaltSpent) e₁ = Dues t i e a

-- one row, with all that it opens
abbrev pub Rowed : List ℕ → ℕ → List ℕ → ℕ → Went → List ℕ → Type 0
Rowed t i e a (Ok w) e₁ = Walk t i e a w.row w.left e₁ × (i < w.row)
Rowed t i e a (Err (ZeroStep r l)) e₁ = Faults t i e a r l
Rowed t i e a (Err HaltSpent) e₁ = Dues t i e a

-- from the first row of loop L's body, in its first turn, to the row behind its END
abbrev pub Turned : List ℕ → ℕ → ℕ → List ℕ → ℕ → Went → List ℕ → Type 0
Turned t L i e a (Ok w) e₁ = Moves t i e a w.row w.left e₁ × (w.row ≡ suc (end_of t L)) × (w.left ≤ a)
Turned t L i e a (Err (ZeroStep r l)) e₁ = Faults t i e a r l
Turned t L i e a (Err HaltSpent) e₁ = Dues t i e a
