-- How all values are entered, each for all the operands that name it.
--
--   Counting          the values below v are entered: each loop has counted those that it carries
--   UseAt             place p is that of an operand that names v
--   UseResolved       the operand at place p has its wire
--   Using             those at places from c on have theirs
--   UsesResolved      all operands that name v have theirs, and v is entered
--   Values            the same of all values below v
--
-- Operand j of row r has place 3 * r + j.
-- Assumes nothing.
use Rattle.std.specs.Prelude.{ℕ, suc, ◌+◌, ◌*◌, ◌≤◌, ◌<◌, true, ◌≡◌, ◌≢◌, List, length, get_or}
use Rattle.table.specs.Rows.{kind_at, size}
use Rattle.table.specs.Scan.{reads}
use Rattle.table.specs.Bodies.{operand}
use Rattle.lowered.specs.Sources.{carried}
use Rattle.laid.specs.Bases.{copy_place}
use Rattle.laid.specs.Sourced.{operand_number}
use Rattle.laid.specs.Scanned.{Walks}
use Rattle.written.specs.Plain.{RightRow}
use Rattle.carrying.specs.Kept.{Bases, IsUse, UseOrNone}
use Rattle.laying.specs.Entering.{Entering, RightCopy, RightCopies}

pub record Counting (t : List ℕ) (v : ℕ) (counts lasts : List ℕ) : Type 0 where
  pub counts_long : length counts ≡ 512
  pub lasts_long : length lasts ≡ 512
  pub low : (L : ℕ) → get_or lasts L 0 ≤ v
  pub count : (L : ℕ) → L < size t → kind_at t L ≡ 4 → get_or counts L 0 ≡ copy_place t L v

pub record UseAt (t : List ℕ) (v p : ℕ) : Type 0 where
  pub row : ℕ
  pub place : ℕ
  pub at : p ≡ 3 * row + place
  pub is : IsUse t row place
  pub names : operand t row place ≡ v

pub record UseRight (t : List ℕ) (v p : ℕ) (lasts rows lasts' rows' at' : List ℕ) : Type 0 where
  pub stays : (i : ℕ) → RightRow t rows i → RightRow t rows' i
  pub copies : RightCopies t v lasts rows → RightCopies t v lasts' rows'
  pub value : (r j : ℕ) → IsUse t r j → operand t r j ≡ v → p ≡ 3 * r + j → get_or at' p 0 ≡ operand_number t r j

pub record UseResolved (t : List ℕ) (v p : ℕ) (nodes wires lasts rows at counts' lasts' rows' at' : List ℕ) : Type 0 where
  pub next : Entering t v counts' lasts'
  pub kept : (L : ℕ) → get_or lasts L 0 ≡ suc v → get_or lasts' L 0 ≡ suc v
  pub passed : (r j L : ℕ) → IsUse t r j → p ≡ 3 * r + j → Walks t v L (reads t r) → get_or lasts' L 0 ≡ suc v
  pub long : length rows' ≡ 28672
  pub at_long : length at' ≡ 1536
  pub others : (i : ℕ) → i ≢ p → get_or at' i 0 ≡ get_or at i 0
  pub right : Bases t nodes wires → UseRight t v p lasts rows lasts' rows' at'

pub record UsingRight (t : List ℕ) (v c : ℕ) (rows₀ lasts rows at : List ℕ) : Type 0 where
  pub stays : (i : ℕ) → RightRow t rows₀ i → RightRow t rows i
  pub copies : RightCopies t v lasts rows
  pub value : (r j : ℕ) → IsUse t r j → operand t r j ≡ v → c ≤ 3 * r + j → get_or at (3 * r + j) 0 ≡ operand_number t r j

pub record Using (t : List ℕ) (v c : ℕ) (nodes wires rows₀ at₀ counts lasts rows at : List ℕ) : Type 0 where
  pub place : UseOrNone t v c
  pub next : Entering t v counts lasts
  pub passed : (r j L : ℕ) → IsUse t r j → operand t r j ≡ v → c ≤ 3 * r + j → Walks t v L (reads t r) → get_or lasts L 0 ≡ suc v
  pub long : length rows ≡ 28672
  pub at_long : length at ≡ 1536
  pub others : (r j : ℕ) → IsUse t r j → operand t r j ≢ v → get_or at (3 * r + j) 0 ≡ get_or at₀ (3 * r + j) 0
  pub right : Bases t nodes wires → UsingRight t v c rows₀ lasts rows at

pub record UsesRight (t : List ℕ) (v : ℕ) (rows rows' at' : List ℕ) : Type 0 where
  pub stays : (i : ℕ) → RightRow t rows i → RightRow t rows' i
  pub copies : (L : ℕ) → L < size t → kind_at t L ≡ 4 → carried t L v ≡ true → RightCopy t v rows' L
  pub value : (r j : ℕ) → IsUse t r j → operand t r j ≡ v → get_or at' (3 * r + j) 0 ≡ operand_number t r j

pub record UsesResolved (t : List ℕ) (v : ℕ) (nodes wires rows at counts' lasts' rows' at' : List ℕ) : Type 0 where
  pub next : Counting t (suc v) counts' lasts'
  pub long : length rows' ≡ 28672
  pub at_long : length at' ≡ 1536
  pub others : (r j : ℕ) → IsUse t r j → operand t r j ≢ v → get_or at' (3 * r + j) 0 ≡ get_or at (3 * r + j) 0
  pub right : Bases t nodes wires → UsesRight t v rows rows' at'

pub record ValuesRight (t : List ℕ) (v : ℕ) (rows at : List ℕ) : Type 0 where
  pub copies : (L u : ℕ) → L < size t → kind_at t L ≡ 4 → u < v → carried t L u ≡ true → RightCopy t u rows L
  pub value : (r j : ℕ) → IsUse t r j → operand t r j < v → get_or at (3 * r + j) 0 ≡ operand_number t r j

pub record Values (t : List ℕ) (v : ℕ) (nodes wires counts lasts rows at : List ℕ) : Type 0 where
  pub next : Counting t v counts lasts
  pub long : length rows ≡ 28672
  pub at_long : length at ≡ 1536
  pub right : Bases t nodes wires → ValuesRight t v rows at
