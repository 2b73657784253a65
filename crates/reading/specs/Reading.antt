-- 'A table is read from its first row down. A loop whose step is 0 is a fault. Otherwise the body is read once for each turn, as long as the
-- condition holds between index and bound: first the body's rows, then all ARGs change at once to what their NEXTs name, then the index takes
-- its update.'
-- In small steps over the row number and the words of the rows, with the openings so far beside them.
-- Main names: `Env`, `State`, `begin`, `step`, `read`.
-- Assumes nothing.
use Rattle.std.specs.Prelude.{ℕ, zero, suc, true, false, cond, List, [], ◌∷◌, reverse, eqb, ltb, get_or}
use Rattle.std.proofs.Math.Option.{Option, none, some}
use Rattle.word.specs.Words.{condition, update, operate}
use Rattle.table.specs.Rows.{kind_at, word, size, INPUT, CONST, OUT}
use Rattle.table.specs.Counted.{rows_of}
use Rattle.table.specs.Scan.{body_of}
use Rattle.table.specs.Bodies.{Row, input, const, op, pick, for, arg, next, end, out, unknown, row_at, end_of, first_of, is_arg, is_next, arg_of, next_of}

-- the words of the rows. A name is set once in its body and a loop's operands stand in bodies around it, so this is all that an open loop needs.
abbrev pub Env : Type 0
Env = ℕ → ℕ

-- one opening of a loop, and its turns so far
pub record Opening : Type 0 where
  pub loop : ℕ
  pub turns : ℕ

abbrev pub opening : ℕ → ℕ → Opening
opening L n = record { loop = L; turns = n }

-- the reading stands at row pc; the openings, newest first
pub record State : Type 0 where
  pub pc : ℕ
  pub env : Env
  pub openings : List Opening

abbrev pub at : ℕ → Env → List Opening → State
at pc env os = record { pc = pc; env = env; openings = os }

-- ends with results; a zero step at a FOR row; with the openings in the order of opening
pub data Outcome : Type 0 where
  ended : List ℕ → List Opening → Outcome
  zero_step : ℕ → List Opening → Outcome

-- a step goes on or comes to an outcome
pub data Step : Type 0 where
  on : State → Step
  stop : Outcome → Step

abbrev pub set_row : ℕ → ℕ → Env → Env
set_row r w env x = cond (eqb x r) w (env x)

-- 'b if the flag is 1, c if it is 0'
abbrev pub choose : ℕ → ℕ → ℕ → ℕ
choose zero x y = y
choose (suc f) x y = x

-- one turn more of the newest opening of loop L
abbrev pub one_turn : ℕ → List Opening → List Opening
one_turn L [] = []
one_turn L (o ∷ os) = cond (eqb o.loop L) (opening L (suc o.turns) ∷ os) (o ∷ one_turn L os)

-- 'the n-th INPUT has the n-th input word, a CONST its word, every other row 0'
unfoldable pub first_words : List ℕ → List ℕ → Env
first_words t inputs r =
    cond (eqb (kind_at t r) INPUT) (get_or inputs (rows_of INPUT t r) 0) (cond (eqb (kind_at t r) CONST) (word t r 1) 0)

unfoldable pub begin : List ℕ → List ℕ → State
begin t inputs = at 0 (first_words t inputs) []

-- the words that the OUT rows name, of so many rows from r up
unfoldable pub results_from : ℕ → List ℕ → Env → ℕ → List ℕ
results_from zero t env r = []
results_from (suc m) t env r =
    cond (eqb (kind_at t r) OUT) (env (word t r 1) ∷ results_from m t env (suc r)) (results_from m t env (suc r))

-- a turn of loop L begins: the index, and all ARGs together
unfoldable pub turn : List ℕ → ℕ → ℕ → Env → Env → Env
turn t L index args env r = cond (eqb r L) index (cond (is_arg t L r) (args r) (env r))

-- loop L is left: 'each NEXT has its exit word'
unfoldable pub leave : List ℕ → ℕ → Env → Env → Env
leave t L exits env r = cond (is_next t L r) (exits r) (env r)

-- what an ARG's row names, what its NEXT names, what a NEXT names, what its ARG's row names
abbrev pub named : List ℕ → Env → Env
named t env r = env (word t r 1)

abbrev pub next_named : List ℕ → Env → Env
next_named t env a = env (word t (next_of t a) 1)

abbrev pub arg_named : List ℕ → Env → Env
arg_named t env x = env (word t (arg_of t x) 1)

-- FOR at L, by its step word and its condition
abbrev pub for_step : List ℕ → ℕ → ℕ → Env → List Opening → ℕ → ℕ → Step
for_step t L start env os zero c = stop (zero_step L (reverse os))
for_step t L start env os (suc k) zero = on (at (suc (end_of t L)) (leave t L (arg_named t env) env) (opening L 0 ∷ os))
for_step t L start env os (suc k) (suc c) = on (at (first_of t L) (turn t L start (named t env) env) (opening L 1 ∷ os))

-- END of loop L at row pc, by the condition of the updated index
abbrev pub end_step : List ℕ → ℕ → ℕ → ℕ → Env → List Opening → ℕ → Step
end_step t L pc index env os zero = on (at (suc pc) (leave t L (named t env) env) os)
end_step t L pc index env os (suc c) = on (at (first_of t L) (turn t L index (next_named t env) env) (one_turn L os))

-- END at row pc of the loop whose row is the first argument; an END of no loop does nothing
abbrev pub end_by : Row → List ℕ → ℕ → ℕ → Env → List Opening → Step
end_by input t L pc env os = on (at (suc pc) env os)
end_by (const w) t L pc env os = on (at (suc pc) env os)
end_by (op c x y) t L pc env os = on (at (suc pc) env os)
end_by (pick f x y) t L pc env os = on (at (suc pc) env os)
end_by (for s st b u c) t L pc env os =
    end_step t L pc (update u (env L) (env st)) env os (condition c (update u (env L) (env st)) (env b))
end_by (arg i) t L pc env os = on (at (suc pc) env os)
end_by (next v) t L pc env os = on (at (suc pc) env os)
end_by end t L pc env os = on (at (suc pc) env os)
end_by (out x) t L pc env os = on (at (suc pc) env os)
end_by unknown t L pc env os = on (at (suc pc) env os)

-- one row
abbrev pub row_step : Row → List ℕ → ℕ → Env → List Opening → Step
row_step input t pc env os = on (at (suc pc) env os)
row_step (const w) t pc env os = on (at (suc pc) env os)
row_step (op c x y) t pc env os = on (at (suc pc) (set_row pc (operate c (env x) (env y)) env) os)
row_step (pick f x y) t pc env os = on (at (suc pc) (set_row pc (choose (env f) (env x) (env y)) env) os)
row_step (for s st b u c) t pc env os = for_step t pc (env s) env os (env st) (condition c (env s) (env b))
row_step (arg i) t pc env os = on (at (suc pc) env os)
row_step (next v) t pc env os = on (at (suc pc) env os)
row_step end t pc env os = end_by (row_at t (body_of t pc)) t (body_of t pc) pc env os
row_step (out x) t pc env os = on (at (suc pc) env os)
row_step unknown t pc env os = on (at (suc pc) env os)

-- one small step: past the last row the reading has ended
unfoldable pub step : List ℕ → State → Step
step t s =
    elim (ltb s.pc (size t)) [
      | true ↦ row_step (row_at t s.pc) t s.pc s.env s.openings
      | false ↦ stop (ended (results_from (size t) t s.env 0) (reverse s.openings))
    ]

-- a step, and what comes behind it
abbrev pub and_then : Step → (State → Option Outcome) → Option Outcome
and_then (on s) rest = rest s
and_then (stop o) rest = some o

-- the outcome within so many steps
unfoldable pub read_from : ℕ → List ℕ → State → Option Outcome
read_from zero t s = none
read_from (suc k) t s = and_then (step t s) (λ s₁. read_from k t s₁)

unfoldable pub read : ℕ → List ℕ → List ℕ → Option Outcome
read k t inputs = read_from k t (begin t inputs)
