-- The words of the rows in lent words, and what a walk does to them.
-- Main names: `Passes`, `env_of`, `Names`, `placed`, `copied`, `Copies`, `LoopAt`, `WholeLoop`, `Ends`, and of the scan `body_after`, `note_at`, `note_of`.
-- Assumes nothing.
use Rattle.std.specs.Prelude.{ℕ, suc, ◌+◌, ◌-◌, ◌≤◌, ◌<◌, cond, List, ◌≡◌, eqb, ltb, get_or, length}
use Rattle.table.specs.Rows.{kind_at, word, size, FOR, END}
use Rattle.table.specs.Bodies.{end_of, first_of}
use Rattle.table.specs.Right.{TableRight}
use Rattle.reading.specs.Reading.{Env}

-- the table passes, and n is its row count
pub record Passes (t : List ℕ) (n : ℕ) : Type 0 where
  pub right : TableRight t
  pub rows : n ≡ size t
  pub few : n ≤ 512

-- the reading's words, from a list
unfoldable pub env_of : List ℕ → Env
env_of e r = get_or e r 0

-- word k of row r is an operand: it names a row
pub record Names (t : List ℕ) (r k : ℕ) : Type 0 where
  pub row : r < size t
  pub few : k < 6
  pub named : word t r k < size t

-- k rows from `to` up have the words that a list has from its first on
unfoldable pub placed : ℕ → ℕ → Env → Env → Env
placed to k words env r = cond (ltb r to) (env r) (cond (ltb r (to + k)) (words (r - to)) (env r))

-- k rows from `to` up have the words that word a of the rows from `from` up names, all as they were before
unfoldable pub copied : List ℕ → ℕ → ℕ → ℕ → Env → Env
copied t from to k env = placed to k (λ j. env (word t (from + j) 1)) env

-- what copying relies on: the rows are rows, and those read from name rows
pub record Source (t : List ℕ) (from k : ℕ) : Type 0 where
  pub rows : from + k ≤ size t
  pub names : (j : ℕ) → j < k → word t (from + j) 1 < size t

pub record Copies (t : List ℕ) (from to k : ℕ) : Type 0 where
  pub source : Source t from k
  pub target : to + k ≤ size t

-- the words put aside
pub record Aside (t : List ℕ) (from k : ℕ) (words aside : List ℕ) : Type 0 where
  pub at : (j : ℕ) → j < k → env_of aside j ≡ env_of words (word t (from + j) 1)

-- a loop at row L, with the row behind its ARGs
pub record LoopAt (t : List ℕ) (L first : ℕ) : Type 0 where
  pub right : TableRight t
  pub row : L < size t
  pub is_for_lem : kind_at t L ≡ 4
  pub first_row : first ≡ first_of t L

-- and with its END
pub record WholeLoop (t : List ℕ) (L first end : ℕ) : Type 0 where
  pub at : LoopAt t L first
  pub last : end ≡ end_of t L

-- One scan notes the ENDs. At its FOR row a loop has the body around it noted while it is open, and its END behind that: so an END finds the way back.
-- A row of another kind notes its body too, which nothing reads. The body behind row r, the place of its note, and the note:
abbrev pub body_after : ℕ → List ℕ → ℕ → ℕ → ℕ
body_after kind notes r body = cond (eqb kind FOR) r (cond (eqb kind END) (get_or notes body 0) body)

abbrev pub note_at : ℕ → ℕ → ℕ → ℕ
note_at kind r body = cond (eqb kind END) body r

abbrev pub note_of : ℕ → ℕ → ℕ → ℕ
note_of kind r body = cond (eqb kind END) r body

-- one more where a row is of the kind that is counted
abbrev pub one_more : ℕ → ℕ → ℕ → ℕ
one_more kind counted n = cond (eqb kind counted) (suc n) n

-- the END of each loop is noted at its FOR row
pub record Ends (t notes : List ℕ) : Type 0 where
  pub long : length notes ≡ 512
  pub end : (L : ℕ) → L < size t → kind_at t L ≡ 4 → get_or notes L 0 ≡ end_of t L
