-- Which clause of a refusal a table breaks: the word, the fault and the loop that people are told beside the number and the row.
--
--   spare_word, code_word, hidden_word, mistyped_word   the first word of a row that breaks 3, 4, 7, 8; 0 where none does
--   place_fault, sight                               what is wrong with a row's place, with a name; 0 where nothing is
--   Detail, explained                               all that is told of a refusal
--   Told                                            a refusal told: its number and row are the check's
--
-- `Broken` says what each of them means in terms of the check's own tests.
-- Assumes nothing.
use Rattle.std.specs.Prelude.{ℕ, zero, suc, ◌+◌, ◌-◌, ◌%◌, Bool, cond, ◌||◌, List, [], ◌∷◌, ◌≡◌, eqb, leb, ltb, length}
use Rattle.table.specs.Rows.{kind_at, word, size, CONST, FOR, ARG, NEXT, END, OUT, used_words, operand_count, first_operand, sort_of, wanted_sort}
use Rattle.table.specs.Scan.{Loop, stack_at, body_of, read_stack, home, body_open, end_passed}
use Rattle.table.specs.Bodies.{nexts_in}
use Rattle.table.specs.Check.{LENGTH, SPARE, CODE, PLACE, DEPTH, NAME, TYPE, OPEN, is_code, kind_before, outside, answer, table_refusal}

-- the first of so many words, from word k up, that fails a test; 0 where none does
unfoldable pub first_from : (ℕ → Bool) → ℕ → ℕ → ℕ
first_from p zero k = 0
first_from p (suc m) k = cond (p k) (first_from p m (k + 1)) k

-- 3 SPARE
abbrev pub is_zero : List ℕ → ℕ → ℕ → Bool
is_zero t r k = eqb (word t r k) 0

unfoldable pub spare_word : List ℕ → ℕ → ℕ
spare_word t r = first_from (is_zero t r) (5 - used_words (kind_at t r)) (used_words (kind_at t r) + 1)

-- 4 CODE
unfoldable pub code_word : List ℕ → ℕ → ℕ
code_word t r = first_from (is_code t r) 5 1

-- 5 PLACE. By the row before: 1 something behind an OUT, 2 neither NEXT nor END behind a NEXT, 3 an INPUT or CONST behind another kind,
-- 4 an ARG behind neither FOR nor ARG.
unfoldable pub follows_fault : ℕ → ℕ → ℕ
follows_fault before kind =
    cond (eqb before OUT) (cond (eqb kind OUT) 0 1)
    (cond (eqb before NEXT) (cond (eqb kind NEXT || eqb kind END) 0 2)
    (cond (leb kind CONST) (cond (leb before CONST) 0 3)
    (cond (eqb kind ARG) (cond (eqb before FOR || eqb before ARG) 0 4) 0)))

-- By the open loops: 5 a NEXT in no loop, 6 a NEXT more than ARGs, 7 an END of no loop, 8 an END before all NEXTs, 9 an OUT in a loop.
abbrev pub next_fault : List Loop → ℕ
next_fault [] = 5
next_fault (l ∷ s) = cond (ltb l.nexts l.args) 0 6

abbrev pub end_fault : List Loop → ℕ
end_fault [] = 7
end_fault (l ∷ s) = cond (eqb l.nexts l.args) 0 8

unfoldable pub stands_fault : ℕ → List Loop → ℕ
stands_fault kind s =
    cond (eqb kind NEXT) (next_fault s)
    (cond (eqb kind END) (end_fault s) (cond (eqb kind OUT) (cond (outside s) 0 9) 0))

unfoldable pub place_fault : List ℕ → ℕ → ℕ
place_fault t r =
    let before = follows_fault (kind_before t r) (kind_at t r) in
    cond (eqb before 0) (stands_fault (kind_at t r) (stack_at t r)) before

-- 7 NAME. Value v seen from row r: 1 no earlier row, 2 an END or OUT, 3 of a loop that is closed, 4 of the loop that an ARG enters,
-- 5 a NEXT whose END has not come.
unfoldable pub sight : List ℕ → ℕ → ℕ → ℕ
sight t r v =
    cond (ltb v r)
    (cond (leb (kind_at t v) NEXT)
    (cond (body_open (size t) (home t v) (read_stack t r))
    (cond (end_passed t r v) 0 5)
    (cond (body_open (size t) (home t v) (stack_at t r)) 4 3))
    2)
    1

abbrev pub is_seen : List ℕ → ℕ → ℕ → Bool
is_seen t r k = eqb (sight t r (word t r k)) 0

unfoldable pub hidden_word : List ℕ → ℕ → ℕ
hidden_word t r = first_from (is_seen t r) (operand_count (kind_at t r)) (first_operand (kind_at t r))

-- the loop that a hidden value belongs to: for 3 and 4 its home, for 5 the loop that the NEXT stands in
unfoldable pub hidden_body : List ℕ → ℕ → ℕ → ℕ
hidden_body t fault v = cond (ltb fault 3) 0 (cond (eqb fault 5) (body_of t v) (home t v))

-- 8 TYPE
abbrev pub is_sorted : List ℕ → ℕ → ℕ → Bool
is_sorted t r k = eqb (sort_of t (word t r k)) (wanted_sort (kind_at t r) k)

unfoldable pub mistyped_word : List ℕ → ℕ → ℕ
mistyped_word t r = first_from (is_sorted t r) (operand_count (kind_at t r)) (first_operand (kind_at t r))

-- 1 LENGTH: 1 the last row is not whole, 2 no rows, 3 more than 512
unfoldable pub length_fault : List ℕ → ℕ
length_fault t = cond (eqb (length t % 6) 0) (cond (leb 1 (size t)) 3 2) 1

-- What is told beside number and row. `word` is 0 for the kind, 1 to 5 for a to e; `body` is a FOR row, the row count for the outermost
-- body, and 0 where no loop is told; `args` and `nexts` count those of the innermost open loop so far for PLACE, DEPTH and OPEN, else 0.
pub record Detail : Type 0 where
  pub fault : ℕ
  pub word : ℕ
  pub body : ℕ
  pub args : ℕ
  pub nexts : ℕ

abbrev pub detail : ℕ → ℕ → ℕ → ℕ → ℕ → Detail
detail f w b a x = record { fault = f; word = w; body = b; args = a; nexts = x }

abbrev pub args_in : List Loop → ℕ
args_in [] = 0
args_in (l ∷ s) = l.args

-- a fault with the innermost loop open before row r
unfoldable pub loop_detail : List ℕ → ℕ → ℕ → Detail
loop_detail t r fault = detail fault 0 (body_of t r) (args_in (stack_at t r)) (nexts_in (stack_at t r))

unfoldable pub name_detail : List ℕ → ℕ → Detail
name_detail t r =
    let v = word t r (hidden_word t r) in
    detail (sight t r v) (hidden_word t r) (hidden_body t (sight t r v) v) 0 0

-- for TYPE the fault is the sort that is wanted: 1 a flag, 0 a word; for OPEN 1 a loop is open, 2 none is, so no OUT stands last
unfoldable pub explained : List ℕ → ℕ → ℕ → Detail
explained t number r =
    cond (eqb number LENGTH) (detail (length_fault t) 0 0 0 0)
    (cond (eqb number SPARE) (detail 0 (spare_word t r) 0 0 0)
    (cond (eqb number CODE) (detail 0 (code_word t r) 0 0 0)
    (cond (eqb number PLACE) (loop_detail t r (place_fault t r))
    (cond (eqb number DEPTH) (loop_detail t r 0)
    (cond (eqb number NAME) (name_detail t r)
    (cond (eqb number TYPE) (detail (wanted_sort (kind_at t r) (mistyped_word t r)) (mistyped_word t r) 0 0 0)
    (cond (eqb number OPEN) (loop_detail t r (cond (outside (stack_at t r)) 2 1)) (detail 0 0 0 0 0))))))))

-- a table told: the check's number and row, and what they are explained by
pub record Told (t : List ℕ) (number row fault word body args nexts : ℕ) : Type 0 where
  pub refusal : answer number row ≡ table_refusal t
  pub clause : detail fault word body args nexts ≡ explained t number row
