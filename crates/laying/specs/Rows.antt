-- How the nodes of the rows are laid down, and the results.
--
--   Operands          every operand has its wire
--   op_row ..          the rows of one OP, PICK, FOR and ARG, with its nodes from i and its wires from w
--   Known             all numbers are right: bases that fit, and every operand's wire
--   RowLaid           the nodes of row r, but for the copies of a loop, are laid down right, and every right row stays
--   RowsLaid          the same of the rows before r
--   OutsLaid          the results of the OUT rows before r
--
-- Assumes nothing.
use Rattle.std.specs.Prelude.{ℕ, ◌+◌, ◌*◌, ◌≤◌, ◌<◌, true, ◌≡◌, List, [], ◌∷◌, length, get_or}
use Rattle.std.proofs.lemmas.List.Edits.{sets}
use Rattle.table.specs.Rows.{kind_at, size}
use Rattle.graph.specs.Graph.{absent}
use Rattle.lowered.specs.Gathered.{those}
use Rattle.lowered.specs.Sources.{is_op}
use Rattle.lowered.specs.Lower.{plain_nodes, is_out}
use Rattle.laid.specs.Bases.{node_base}
use Rattle.laid.specs.Sourced.{operand_number}
use Rattle.written.specs.Plain.{RightRow}
use Rattle.carrying.specs.Kept.{Passing, Bodies, Pairs, Bases, Low, IsUse}

-- every operand has its wire
abbrev pub Operands : List ℕ → List ℕ → Type 0
Operands t at = (r j : ℕ) → IsUse t r j → get_or at (3 * r + j) 0 ≡ operand_number t r j

abbrev pub op_row : List ℕ → ℕ → ℕ → ℕ → ℕ → ℕ → List ℕ
op_row rows i w code a b = sets rows (7 * i) (7 ∷ code ∷ 0 ∷ a ∷ b ∷ absent ∷ w ∷ [])

abbrev pub pick_row : List ℕ → ℕ → ℕ → ℕ → ℕ → ℕ → List ℕ
pick_row rows i w a b c = sets rows (7 * i) (8 ∷ 0 ∷ 0 ∷ a ∷ b ∷ c ∷ w ∷ [])

-- STREAM, GATE and the guard
abbrev pub loop_rows : List ℕ → ℕ → ℕ → ℕ → ℕ → ℕ → ℕ → ℕ → List ℕ
loop_rows rows i w update condition a b c =
    sets
    (sets
    (sets rows (7 * i) (0 ∷ (5 * update + condition) ∷ 0 ∷ a ∷ b ∷ c ∷ w ∷ []))
    (7 * (i + 1)) (1 ∷ 0 ∷ 0 ∷ w ∷ (w + 1) ∷ absent ∷ (w + 2) ∷ []))
    (7 * (i + 2)) (7 ∷ (3 + condition) ∷ 0 ∷ a ∷ c ∷ absent ∷ (w + 4) ∷ [])

-- CARRY and SPLIT
abbrev pub arg_rows : List ℕ → ℕ → ℕ → ℕ → ℕ → ℕ → List ℕ
arg_rows rows i w raw a b =
    sets
    (sets rows (7 * i) (2 ∷ 0 ∷ 0 ∷ raw ∷ a ∷ b ∷ w ∷ []))
    (7 * (i + 1)) (4 ∷ 0 ∷ 0 ∷ raw ∷ w ∷ absent ∷ (w + 1) ∷ [])

pub record Known (t bodies pairs nodes wires at : List ℕ) : Type 0 where
  pub passing : Passing t (size t)
  pub bodies_noted : Bodies t (size t) bodies
  pub pairs_noted : Pairs t pairs
  pub bases : Bases t nodes wires
  pub low : Low wires
  pub fit : plain_nodes t ≤ 4096
  pub operands : Operands t at

pub record RowRight (t : List ℕ) (r : ℕ) (rows : List ℕ) : Type 0 where
  pub op : is_op t r ≡ true → RightRow t rows (node_base t r)
  pub loop : kind_at t r ≡ 4 → RightRow t rows (node_base t r) × RightRow t rows (node_base t r + 1) × RightRow t rows (node_base t r + 2)
  pub arg : kind_at t r ≡ 5 → RightRow t rows (node_base t r) × RightRow t rows (node_base t r + 1)

pub record RowLaid (t : List ℕ) (r : ℕ) (rows rows' : List ℕ) : Type 0 where
  pub row : RowRight t r rows'
  pub stays : (i : ℕ) → RightRow t rows i → RightRow t rows' i
  pub long : length rows' ≡ 28672

pub record RowsLaid (t : List ℕ) (r : ℕ) (rows rows' : List ℕ) : Type 0 where
  pub each : (q : ℕ) → q < r → RowRight t q rows'
  pub stays : (i : ℕ) → RightRow t rows i → RightRow t rows' i
  pub long : length rows' ≡ 28672

-- k is how many they are; each stands behind those of the OUT rows before it
pub record OutsLaid (t : List ℕ) (r k : ℕ) (outs : List ℕ) : Type 0 where
  pub long : length outs ≡ 512
  pub count : k ≡ length (those (is_out t) r)
  pub out : (q : ℕ) → q < r → is_out t q ≡ true → get_or outs (length (those (is_out t) q)) 0 ≡ operand_number t q 0
