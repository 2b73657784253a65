-- What naming keeps: of the values that a loop carries, and of the uses of wires.
--
--   Body                  a body's name: the row count, or a FOR row
--   Marked                the values that a row names are marked
--   named_in, Marks        the values that some row before r, reading in loop L, names
--   UsesRight             a table has how often each wire is used
--
-- Assumes nothing.
use Rattle.std.specs.Prelude.{ℕ, ◌<◌, ◌≡◌, ◌⊎◌, Bool, cond, ◌&&◌, List, eqb, length, get_or}
use Rattle.word.specs.Words.{flag}
use Rattle.table.specs.Rows.{kind_at, size}
use Rattle.table.specs.Scan.{reads}
use Rattle.table.specs.Bodies.{operand}
use Rattle.lowered.specs.Gathered.{some?}
use Rattle.written.specs.Numbers.{use_count}
use Rattle.forking.specs.Tallied.{Below}
use Rattle.lowered.specs.Sources.{inside, names}

abbrev pub Body : List ℕ → ℕ → Type 0
Body t b = (b ≡ size t) ⊎ ((b < size t) × (kind_at t b ≡ 4))

-- the first operands of row r, so many of them, are marked
pub record Marked (t : List ℕ) (r count : ℕ) (before after : List ℕ) : Type 0 where
  pub long : length after ≡ 512
  pub mark : (v : ℕ) → v < 512 → get_or after v 0 ≡ cond (some? (λ j. eqb (operand t r j) v) count) 1 (get_or before v 0)

-- value v is named by a row before r that reads in loop L
unfoldable pub named_in : List ℕ → ℕ → ℕ → ℕ → Bool
named_in t L v r = some? (λ q. inside t L (reads t q) && names t q v) r

pub record Marks (t : List ℕ) (L r : ℕ) (marks : List ℕ) : Type 0 where
  pub long : length marks ≡ 512
  pub mark : (v : ℕ) → v < 512 → get_or marks v 0 ≡ flag (named_in t L v r)

pub record UsesRight (t uses : List ℕ) : Type 0 where
  pub small : Below 40000 uses
  pub right : (w : ℕ) → w < 8192 → get_or uses w 0 ≡ use_count t w
