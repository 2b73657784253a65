-- How the check keeps the scan: eight entries of three numbers and a depth for the open loops, and for each row its home and its body.
-- Main names: `open_loops`, `loops_of`, `Noted`, `Checks`.
-- Assumes nothing.
use Rattle.std.specs.Prelude.{ℕ, zero, suc, ◌*◌, ◌<◌, ◌≤◌, ◌≡◌, List, [], ◌∷◌, get_or, length, Result, MatchResult}
use Rattle.table.specs.Rows.{kind_at}
use Rattle.table.specs.Scan.{Loop, stack_at, body_of, home}
use Rattle.table.specs.Check.{kind_before, row_refusal}
use Rattle.table.specs.Clauses.{explained}
use Rattle.table.specs.Telling.{broken_number, broken_detail}
use Rattle.table.specs.declared.Kind.{Kind}
use Rattle.table.specs.declared.Broken.{Broken}
use Rattle.table.specs.Kinds.{kind_number}
use Rattle.table.specs.declared.loops.OpenLoop.{OpenLoop}
use Rattle.table.specs.declared.loops.OpenLoops.{OpenLoops}
use Rattle.table.specs.declared.Place.{Place}
use Rattle.table.specs.declared.Notes.{Notes}

-- 'For each open loop three numbers are kept: its FOR row, its ARGs and its NEXTs so far. The check has eight such entries.'
abbrev pub entry_of : ℕ → ℕ → ℕ → Loop
entry_of r m k = record { row = r; args = m; nexts = k }

abbrev pub loop_of : List ℕ → Loop
loop_of e = entry_of (get_or e 0 0) (get_or e 1 0) (get_or e 2 0)

abbrev pub as_loop : OpenLoop → Loop
as_loop e = entry_of e.row e.args e.nexts

-- the entries below d, the last one innermost
unfoldable pub open_loops : List (List ℕ) → ℕ → List Loop
open_loops a zero = []
open_loops a (suc d) = loop_of (get_or a d []) ∷ open_loops a d

abbrev pub loops_of : OpenLoops → List Loop
loops_of s = open_loops s.entries s.depth

-- no loop has more ARGs or NEXTs than m
abbrev pub Counted : ℕ → List Loop → Type 0
Counted m [] = Unit {0}
Counted m (l ∷ s) = (l.args ≤ m) × (l.nexts ≤ m) × Counted m s

abbrev pub nowhere : Place
nowhere = record { home = 0; body = 0 }

-- what the check has noted of a table when it comes to row r
pub record Noted (t : List ℕ) (r : ℕ) (notes : Notes) : Type 0 where
  pub whole : length t ≡ 6 * notes.size
  pub rows : notes.size ≤ 512
  pub below : r ≤ notes.size
  pub long : length notes.places ≡ 512
  pub loops : loops_of notes.loops ≡ stack_at t r
  pub before : kind_number notes.before ≡ kind_before t r
  pub home_of : (k : ℕ) → k < r → (get_or notes.places k nowhere).home ≡ home t k
  pub body_of_lem : (k : ℕ) → k < r → (get_or notes.places k nowhere).body ≡ body_of t k

-- what the check of row r answers: its kind where it passes, else the clause of its refusal
abbrev pub Checks : List ℕ → ℕ → Result Kind Broken → Type 0
Checks t r x =
    MatchResult x (λ kind. (kind_number kind ≡ kind_at t r) × (row_refusal t r ≡ 0))
    (λ b. (broken_number b ≡ row_refusal t r) × (broken_detail b ≡ explained t (row_refusal t r) r))
