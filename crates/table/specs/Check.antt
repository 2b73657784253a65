-- The refusal of a table, 1 to 9, as one function of its words.
-- Main names: `row_refusal`, `table_refusal`, and the test of each number: `length_right`, `kind_right`, `spare_right`, `code_right`,
-- `place_right`, `depth_right`, `names_right`, `types_right`, `end_right`.
-- Assumes nothing.
use Rattle.std.specs.Prelude.{ℕ, zero, suc, ◌+◌, ◌-◌, ◌%◌, Bool, true, false, cond, ◌&&◌, ◌||◌, List, [], ◌∷◌, eqb, leb, ltb, length}
use Rattle.table.specs.Rows.{kind_at, word, size, INPUT, CONST, FOR, ARG, NEXT, END, OUT, allows, field_at, used_words, operand_count, first_operand, sort_of, wanted_sort}
use Rattle.table.specs.Scan.{Loop, stack_at, visible}

-- the numbers
abbrev pub LENGTH : ℕ
LENGTH = 1

abbrev pub KIND : ℕ
KIND = 2

abbrev pub SPARE : ℕ
SPARE = 3

abbrev pub CODE : ℕ
CODE = 4

abbrev pub PLACE : ℕ
PLACE = 5

abbrev pub DEPTH : ℕ
DEPTH = 6

abbrev pub NAME : ℕ
NAME = 7

abbrev pub TYPE : ℕ
TYPE = 8

abbrev pub OPEN : ℕ
OPEN = 9

-- 1 LENGTH: 'the words are a multiple of 6, and there are 1 to 512 rows'
unfoldable pub length_right : List ℕ → Bool
length_right t = eqb (length t % 6) 0 && (leb 1 (size t) && leb (size t) 512)

-- 2 KIND: 'the kind is at most 8'
unfoldable pub kind_right : List ℕ → ℕ → Bool
kind_right t r = leb (kind_at t r) OUT

-- 3 SPARE: 'each word that the kind does not use is 0'. So many words of row r, from word k up, are 0.
unfoldable pub zeros_from : ℕ → List ℕ → ℕ → ℕ → Bool
zeros_from zero t r k = true
zeros_from (suc m) t r k = eqb (word t r k) 0 && zeros_from m t r (k + 1)

unfoldable pub spare_right : List ℕ → ℕ → Bool
spare_right t r = zeros_from (5 - used_words (kind_at t r)) t r (used_words (kind_at t r) + 1)

-- 4 CODE: 'OP's a is at most 7; FOR's d is at most 5 and its e at most 4', as the table of row kinds says of each word. So many words of row r,
-- from word k up, are codes where their kind has codes.
abbrev pub is_code : List ℕ → ℕ → ℕ → Bool
is_code t r k = allows (field_at (kind_at t r) k) (word t r k)

unfoldable pub codes_from : ℕ → List ℕ → ℕ → ℕ → Bool
codes_from zero t r k = true
codes_from (suc m) t r k = is_code t r k && codes_from m t r (k + 1)

unfoldable pub code_right : List ℕ → ℕ → Bool
code_right t r = codes_from 5 t r 1

-- 5 PLACE. The kind of the row before; the first row stands as if behind an INPUT.
abbrev pub kind_before : List ℕ → ℕ → ℕ
kind_before t zero = INPUT
kind_before t (suc r) = kind_at t r

-- 'b is OUT: k is OUT.' 'b is NEXT: k is NEXT or END.' 'k is INPUT or CONST: b is INPUT or CONST.' 'k is ARG: b is FOR or ARG.'
-- Rows are refused in order, so it is enough to look at the row before: an INPUT behind an INPUT or CONST has only such rows before it,
-- and a row behind no OUT has no OUT before it.
unfoldable pub follows : ℕ → ℕ → Bool
follows before kind =
    cond (eqb before OUT) (eqb kind OUT)
    (cond (eqb before NEXT) (eqb kind NEXT || eqb kind END)
    (cond (leb kind CONST) (leb before CONST) (cond (eqb kind ARG) (eqb before FOR || eqb before ARG) true)))

-- 'a NEXT needs an innermost loop that has fewer NEXTs than ARGs'
abbrev pub arg_left : List Loop → Bool
arg_left [] = false
arg_left (l ∷ s) = ltb l.nexts l.args

-- 'An END closes an open loop that has all its NEXTs.'
abbrev pub all_served : List Loop → Bool
all_served [] = false
all_served (l ∷ s) = eqb l.nexts l.args

-- 'An OUT stands in no loop.'
abbrev pub outside : List Loop → Bool
outside [] = true
outside (l ∷ s) = false

unfoldable pub stands : ℕ → List Loop → Bool
stands kind s =
    cond (eqb kind NEXT) (arg_left s) (cond (eqb kind END) (all_served s) (cond (eqb kind OUT) (outside s) true))

unfoldable pub place_right : List ℕ → ℕ → Bool
place_right t r = follows (kind_before t r) (kind_at t r) && stands (kind_at t r) (stack_at t r)

-- 6 DEPTH: 'a FOR has at most 7 loops open before it'
unfoldable pub depth_right : List ℕ → ℕ → Bool
depth_right t r = cond (eqb (kind_at t r) FOR) (ltb (length (stack_at t r)) 8) true

-- 7 NAME: 'every operand is visible'. So many words of row r, from word k up, name visible values.
unfoldable pub names_from : ℕ → List ℕ → ℕ → ℕ → Bool
names_from zero t r k = true
names_from (suc m) t r k = visible t r (word t r k) && names_from m t r (k + 1)

unfoldable pub names_right : List ℕ → ℕ → Bool
names_right t r = names_from (operand_count (kind_at t r)) t r (first_operand (kind_at t r))

-- 8 TYPE: 'every operand has the sort that is wanted there'
unfoldable pub types_from : ℕ → List ℕ → ℕ → ℕ → Bool
types_from zero t r k = true
types_from (suc m) t r k = eqb (sort_of t (word t r k)) (wanted_sort (kind_at t r) k) && types_from m t r (k + 1)

unfoldable pub types_right : List ℕ → ℕ → Bool
types_right t r = types_from (operand_count (kind_at t r)) t r (first_operand (kind_at t r))

-- 9 OPEN: 'every loop is closed, and there is an OUT'. Below an OUT there are only OUTs, so there is one exactly if the last row is one.
unfoldable pub end_right : List ℕ → Bool
end_right t = outside (stack_at t (size t)) && eqb (kind_before t (size t)) OUT

-- 'of the first row that fails any of 2 to 8 the lowest number that it fails is answered': 0 where it fails none
abbrev pub or_else : Bool → ℕ → ℕ → ℕ
or_else true number rest = rest
or_else false number rest = number

unfoldable pub row_refusal : List ℕ → ℕ → ℕ
row_refusal t r =
    or_else (kind_right t r) KIND
    (or_else (spare_right t r) SPARE
    (or_else (code_right t r) CODE
    (or_else (place_right t r) PLACE
    (or_else (depth_right t r) DEPTH (or_else (names_right t r) NAME (or_else (types_right t r) TYPE 0))))))

-- 'A refusal is a number and a row.'
pub record Refusal : Type 0 where
  pub number : ℕ
  pub row : ℕ

abbrev pub answer : ℕ → ℕ → Refusal
answer k r = record { number = k; row = r }

-- so many rows from row r up; 'Then comes 9', with the row count; 'What passes is answered with 0.'
unfoldable pub rows_from : ℕ → List ℕ → ℕ → Refusal
rows_from zero t r = cond (end_right t) (answer 0 0) (answer OPEN r)
rows_from (suc m) t r = cond (eqb (row_refusal t r) 0) (rows_from m t (r + 1)) (answer (row_refusal t r) r)

-- '1 is looked at first, over the whole table.'
unfoldable pub table_refusal : List ℕ → Refusal
table_refusal t = cond (length_right t) (rows_from (size t) t 0) (answer LENGTH 0)
