-- Loops and bodies of a table by row number, all from the one scan: where a loop ends, its ARGs, which NEXT serves which ARG; and a row
-- as the table of kinds prints it.
-- Main names: `Row`, `row_at`, `end_of`, `args_of`, `first_of`, `arg_of`, `next_of`, `parent`, `operand`.
-- Assumes nothing.
use Rattle.std.specs.Prelude.{ℕ, zero, suc, ◌+◌, ◌-◌, Bool, cond, ◌&&◌, List, [], ◌∷◌, eqb}
use Rattle.table.specs.Rows.{kind_at, word, size, INPUT, CONST, OP, PICK, FOR, ARG, NEXT, END, OUT, first_operand}
use Rattle.table.specs.Scan.{Loop, stack_at, body_of}

-- The table of kinds, with the words used. A kind over 8 is `unknown`.
pub data Row : Type 0 where
  input : Row
  const : ℕ → Row
  op : ℕ → ℕ → ℕ → Row
  pick : ℕ → ℕ → ℕ → Row
  for : ℕ → ℕ → ℕ → ℕ → ℕ → Row
  arg : ℕ → Row
  next : ℕ → Row
  end : Row
  out : ℕ → Row
  unknown : Row

unfoldable pub row_by : ℕ → ℕ → ℕ → ℕ → ℕ → ℕ → Row
row_by kind a b c d e =
    cond (eqb kind INPUT) input
    (cond (eqb kind CONST) (const a)
    (cond (eqb kind OP) (op a b c)
    (cond (eqb kind PICK) (pick a b c)
    (cond (eqb kind FOR) (for a b c d e)
    (cond (eqb kind ARG) (arg a) (cond (eqb kind NEXT) (next a) (cond (eqb kind END) end (cond (eqb kind OUT) (out a) unknown))))))))

unfoldable pub row_at : List ℕ → ℕ → Row
row_at t r = row_by (kind_at t r) (word t r 1) (word t r 2) (word t r 3) (word t r 4) (word t r 5)

-- the j-th operand of row r, from 0
abbrev pub operand : List ℕ → ℕ → ℕ → ℕ
operand t r j = word t r (first_operand (kind_at t r) + j)

-- row r is the END of loop L
unfoldable pub ends : List ℕ → ℕ → ℕ → Bool
ends t L r = eqb (kind_at t r) END && eqb (body_of t r) L

-- the first END of L among so many rows from r up; the row behind them where there is none
unfoldable pub end_from : ℕ → List ℕ → ℕ → ℕ → ℕ
end_from zero t L r = r
end_from (suc m) t L r = let later = end_from m t L (suc r) in cond (ends t L r) r later

-- the END of loop L
unfoldable pub end_of : List ℕ → ℕ → ℕ
end_of t L = end_from (size t - suc L) t L (suc L)

-- how many of so many rows from r up are ARGs before another kind comes
unfoldable pub args_from : ℕ → List ℕ → ℕ → ℕ
args_from zero t r = 0
args_from (suc m) t r = let later = suc (args_from m t (suc r)) in cond (eqb (kind_at t r) ARG) later 0

-- 'The ARGs of a loop stand directly behind its FOR.'
unfoldable pub args_of : List ℕ → ℕ → ℕ
args_of t L = args_from (size t - suc L) t (suc L)

-- the first row of the body behind the ARGs
unfoldable pub first_of : List ℕ → ℕ → ℕ
first_of t L = suc L + args_of t L

-- row r is an ARG, a NEXT of loop L
unfoldable pub is_arg : List ℕ → ℕ → ℕ → Bool
is_arg t L r = eqb (kind_at t r) ARG && eqb (body_of t r) L

unfoldable pub is_next : List ℕ → ℕ → ℕ → Bool
is_next t L r = eqb (kind_at t r) NEXT && eqb (body_of t r) L

-- how many NEXTs the innermost loop has had
abbrev pub nexts_in : List Loop → ℕ
nexts_in [] = 0
nexts_in (l ∷ s) = l.nexts

-- 'its first NEXT serves its first ARG, and so on': the ARG of NEXT x, and the NEXT of ARG a. 'the NEXTs of a loop stand directly before its
-- END'.
unfoldable pub arg_of : List ℕ → ℕ → ℕ
arg_of t x = suc (body_of t x) + nexts_in (stack_at t x)

unfoldable pub next_of : List ℕ → ℕ → ℕ
next_of t a = end_of t (body_of t a) - args_of t (body_of t a) + (a - suc (body_of t a))

-- the body around loop L is the one in which its FOR stands
abbrev pub parent : List ℕ → ℕ → ℕ
parent t L = body_of t L
