-- What lowering notes of a table that passes, row by row.
--
--   Passing           the table passes 1 to 9, and its row count is n
--   Bodies            the body before each of the first r rows is noted
--   Pairs             which NEXT serves which ARG; PairsBefore: of the NEXTs before row r
--   Uses              the operands that name a value, linked, last first
--   Noted             all of these, of all rows
--   Counted, Bases    how many values are carried into each loop; the first node and the first output of each row
--   home_from          a value's wire at home, by noted outputs, which are Low
--   OnTheWay          a body on the way of a value from its home into the loops that use it
--
-- Assumes nothing.
use Rattle.std.specs.Prelude.{ℕ, suc, ◌+◌, ◌*◌, ◌≤◌, ◌<◌, cond, ◌≡◌, ◌⊎◌, List, eqb, leb, length, get_or}
use Rattle.table.specs.Rows.{kind_at, size, operand_count}
use Rattle.table.specs.Scan.{body_of, home}
use Rattle.table.specs.Bodies.{operand, arg_of, next_of}
use Rattle.table.specs.Right.{TableRight}
use Rattle.structure.specs.Spans.{Encloses}
use Rattle.lowered.specs.Lower.{carried_into}
use Rattle.laid.specs.Bases.{node_base, wire_base}

pub record Passing (t : List ℕ) (n : ℕ) : Type 0 where
  pub right : TableRight t
  pub rows : n ≡ size t
  pub few : n ≤ 512

pub record Bodies (t : List ℕ) (r : ℕ) (bodies : List ℕ) : Type 0 where
  pub long : length bodies ≡ 512
  pub body : (k : ℕ) → k < r → get_or bodies k 0 ≡ body_of t k

-- The ARG at each NEXT, the NEXT at each ARG.
pub record Pairs (t pairs : List ℕ) : Type 0 where
  pub long : length pairs ≡ 512
  pub arg : (x : ℕ) → x < size t → kind_at t x ≡ 6 → get_or pairs x 0 ≡ arg_of t x
  pub next : (a : ℕ) → a < size t → kind_at t a ≡ 5 → get_or pairs a 0 ≡ next_of t a

-- Of the NEXTs before row r.
pub record PairsBefore (t : List ℕ) (r : ℕ) (pairs : List ℕ) : Type 0 where
  pub long : length pairs ≡ 512
  pub arg : (x : ℕ) → x < r → kind_at t x ≡ 6 → get_or pairs x 0 ≡ arg_of t x
  pub next : (a : ℕ) → a < size t → kind_at t a ≡ 5 → next_of t a < r → get_or pairs a 0 ≡ next_of t a

abbrev pub IsUse : List ℕ → ℕ → ℕ → Type 0
IsUse t r j = (r < size t) × (j < operand_count (kind_at t r))

-- 0, or one more than the place of an operand that names v; operand j of row r has place 3 * r + j
abbrev pub UseOrNone : List ℕ → ℕ → ℕ → Type 0
UseOrNone t v c = (c ≡ 0) ⊎ ((r : ℕ) × (j : ℕ) × (c ≡ suc (3 * r + j)) × IsUse t r j × (operand t r j ≡ v))

-- Of the operands before place p: a value leads to the last one that names it, each operand to the one before it that names the same value.
pub record Uses (t : List ℕ) (p : ℕ) (heads links : List ℕ) : Type 0 where
  pub heads_long : length heads ≡ 512
  pub links_long : length links ≡ 1536
  pub head : (v : ℕ) → v < size t → UseOrNone t v (get_or heads v 0)
  pub head_below : (v : ℕ) → v < size t → get_or heads v 0 ≤ p
  pub head_last : (r j : ℕ) → IsUse t r j → 3 * r + j < p → 3 * r + j < get_or heads (operand t r j) 0
  pub link : (r j : ℕ) → IsUse t r j → 3 * r + j < p → UseOrNone t (operand t r j) (get_or links (3 * r + j) 0)
  pub link_below : (r j : ℕ) → IsUse t r j → 3 * r + j < p → get_or links (3 * r + j) 0 ≤ 3 * r + j
  pub link_last : (r j q i : ℕ) → IsUse t r j → IsUse t q i → 3 * r + j < p → operand t q i ≡ operand t r j → 3 * q + i < 3 * r + j → 3 * q + i < get_or links (3 * r + j) 0

-- What is noted of a table before anything is counted.
pub record Noted (t : List ℕ) (n : ℕ) (bodies pairs heads links : List ℕ) : Type 0 where
  pub passing : Passing t n
  pub bodies_noted : Bodies t n bodies
  pub pairs_noted : Pairs t pairs
  pub uses_noted : Uses t (3 * n) heads links

pub record Counted (t counts : List ℕ) : Type 0 where
  pub long : length counts ≡ 512
  pub count : (L : ℕ) → L < size t → kind_at t L ≡ 4 → get_or counts L 0 ≡ length (carried_into t L)

pub record Bases (t nodes wires : List ℕ) : Type 0 where
  pub nodes_long : length nodes ≡ 512
  pub wires_long : length wires ≡ 512
  pub node : (r : ℕ) → r < size t → get_or nodes r 0 ≡ node_base t r
  pub wire : (r : ℕ) → r < size t → get_or wires r 0 ≡ wire_base t r

-- what keeps the sums with a row's outputs within a word
abbrev pub Low : List ℕ → Type 0
Low wires = (r : ℕ) → get_or wires r 0 ≤ 100000000

-- the number of a value's wire at home, where `wires` has the first output of each row
unfoldable pub home_from : List ℕ → List ℕ → ℕ → ℕ
home_from t wires v =
    cond (leb (kind_at t v) 1) v
    (cond (leb (kind_at t v) 3) (get_or wires v 0)
    (cond (eqb (kind_at t v) 4) (get_or wires v 0 + 2) (cond (eqb (kind_at t v) 5) (get_or wires v 0 + 1) (get_or wires (arg_of t v) 0 + 2))))

-- Body b is home to value v, or a loop inside its home: where the way of v may start.
pub record OnTheWay (t : List ℕ) (v b : ℕ) : Type 0 where
  pub around : Encloses t (home t v) b
  pub body : (b ≡ size t) ⊎ ((b < size t) × (kind_at t b ≡ 4))
