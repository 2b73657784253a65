-- A loop table as its words: rows of six, the words each kind uses, the operands, the sort of a value.
-- Main names: `kind_at`, `word`, `size`, the table `row_kinds`, and what is read from it: `name_of`, `field_at`, `used_words`, `operand_count`,
-- `first_operand`, `wanted_sort`; `sort_of`.
-- Assumes nothing.
use Rattle.std.specs.Prelude.{ℕ, zero, suc, ◌+◌, ◌*◌, ◌/◌, ◌≤◌, Bool, true, false, cond, ◌&&◌, List, [], ◌∷◌, ◌≡◌, refl, eqb, leb, ltb, get_or, length}
use Rattle.std.proofs.lemmas.Bool.{false≢true}
use Rattle.std.proofs.Common.{arith, leb-true}
use Rattle.table.specs.Letters.{letters}

-- 'A table is a list of words, six to a row: its kind, then its words a to e.' Words past the end read as 0.
abbrev pub kind_at : List ℕ → ℕ → ℕ
kind_at t r = get_or t (6 * r) 0

-- word a is `word t r 1`, word e is `word t r 5`
abbrev pub word : List ℕ → ℕ → ℕ → ℕ
word t r k = get_or t (6 * r + k) 0

-- the row count
abbrev pub size : List ℕ → ℕ
size t = length t / 6

-- the kinds
abbrev pub INPUT : ℕ
INPUT = 0

abbrev pub CONST : ℕ
CONST = 1

abbrev pub OP : ℕ
OP = 2

abbrev pub PICK : ℕ
PICK = 3

abbrev pub FOR : ℕ
FOR = 4

abbrev pub ARG : ℕ
ARG = 5

abbrev pub NEXT : ℕ
NEXT = 6

abbrev pub END : ℕ
END = 7

abbrev pub OUT : ℕ
OUT = 8

-- What a word of a row is: spare; any value; one of so many codes, counted from 0; or an operand, 'a row number: it names the value of that
-- row', with the sort that this value has to have.
pub data Field : Type 0 where
  spare value : Field
  code names : ℕ → Field

-- the words a to e of a row
pub record Fields : Type 0 where
  pub a : Field
  pub b : Field
  pub c : Field
  pub d : Field
  pub e : Field

abbrev pub fields : Field → Field → Field → Field → Field → Fields
fields p q r s u = record { a = p; b = q; c = r; d = s; e = u }

-- a kind of rows: its name, in the bytes of its letters, and its words
pub record RowKind : Type 0 where
  pub name : List ℕ
  pub words : Fields

abbrev pub kind : List ℕ → Fields → RowKind
kind n u = record { name = n; words = u }

-- THE TABLE OF ROW KINDS, in the order of their numbers: INPUT, CONST, OP, PICK, FOR, ARG, NEXT, END, OUT. All that the check, lowering and sheets ask
-- about a kind's name and words is read from it. OP has its code, x and y; PICK a flag, x and y; FOR start, step, bound, update and condition.
abbrev pub row_kinds : List RowKind
row_kinds =
    kind (letters "input") (fields spare spare spare spare spare)
    ∷ kind (letters "const") (fields value spare spare spare spare)
    ∷ kind (letters "op") (fields (code 8) (names 0) (names 0) spare spare)
    ∷ kind (letters "pick") (fields (names 1) (names 0) (names 0) spare spare)
    ∷ kind (letters "for") (fields (names 0) (names 0) (names 0) (code 6) (code 5))
    ∷ kind (letters "arg") (fields (names 0) spare spare spare spare)
    ∷ kind (letters "next") (fields (names 0) spare spare spare spare)
    ∷ kind (letters "end") (fields spare spare spare spare spare)
    ∷ kind (letters "out") (fields (names 0) spare spare spare spare)
    ∷ []

-- a number that is no kind has no name and uses no word
abbrev pub no_kind : RowKind
no_kind = kind [] (fields spare spare spare spare spare)

abbrev pub kind_of : ℕ → RowKind
kind_of k = get_or row_kinds k no_kind

abbrev pub name_of : ℕ → List ℕ
name_of k = (kind_of k).name

abbrev pub fields_of : ℕ → Fields
fields_of k = (kind_of k).words

-- what word k is, 1 to 5 for a to e
abbrev pub field_in : Fields → ℕ → Field
field_in u zero = spare
field_in u (suc zero) = u.a
field_in u (suc (suc zero)) = u.b
field_in u (suc (suc (suc zero))) = u.c
field_in u (suc (suc (suc (suc zero)))) = u.d
field_in u (suc (suc (suc (suc (suc zero))))) = u.e
field_in u (suc (suc (suc (suc (suc (suc k)))))) = spare

unfoldable pub field_at : ℕ → ℕ → Field
field_at kind k = field_in (fields_of kind) k

-- ---- what is read from it

abbrev pub in_use : Field → ℕ
in_use spare = 0
in_use value = 1
in_use (code n) = 1
in_use (names s) = 1

abbrev pub named : Field → ℕ
named spare = 0
named value = 0
named (code n) = 0
named (names s) = 1

abbrev pub coded : Field → ℕ
coded spare = 0
coded value = 0
coded (code n) = 1
coded (names s) = 0

-- whether a word may stand there, as far as codes go
abbrev pub allows : Field → ℕ → Bool
allows spare w = true
allows value w = true
allows (code n) w = ltb w n
allows (names s) w = true

abbrev pub sort_named : Field → ℕ
sort_named spare = 0
sort_named value = 0
sort_named (code n) = 0
sort_named (names s) = s

abbrev pub summed : (Field → ℕ) → Fields → ℕ
summed f u = f u.a + f u.b + f u.c + f u.d + f u.e

-- 'Words that a kind does not use have to be 0.' The words that it uses are the first so many of a to e.
unfoldable pub used_words : ℕ → ℕ
used_words kind = summed in_use (fields_of kind)

-- 'An operand is a row number': how many there are.
unfoldable pub operand_count : ℕ → ℕ
operand_count kind = summed named (fields_of kind)

-- The word in which the first of them stands, the others directly behind it: a, or b where a is a code.
unfoldable pub first_operand : ℕ → ℕ
first_operand kind = 1 + coded (fields_of kind).a

-- the sort that word k of a row of this kind has to name
unfoldable pub wanted_sort : ℕ → ℕ → ℕ
wanted_sort kind k = sort_named (field_at kind k)

-- '0 for words, 1 for flags. The value of an OP with code 3 to 7 is a flag; every other value is a word.'
unfoldable pub sort_of : List ℕ → ℕ → ℕ
sort_of t v = cond (eqb (kind_at t v) OP) (cond (leb 3 (word t v 1)) 1 0) 0

-- ---- laws

pub at_most_five : (kind : ℕ) → used_words kind ≤ 5
unfolding used_words
at_most_five kind = go (fields_of kind)
  where
    one : (u : Field) → in_use u ≤ 1
    one spare = omega arith
    one value = omega arith
    one (code n) = omega arith
    one (names s) = omega arith

    go : (u : Fields) → summed in_use u ≤ 5
    go u = let p = one u.a in let q = one u.b in let r = one u.c in let s = one u.d in let v = one u.e in omega arith

-- What is asked of every row of the table is computed over the table; a number that is no kind has a row too.
abbrev pub each_row : (RowKind → Bool) → List RowKind → Bool
each_row P [] = true
each_row P (u ∷ us) = cond (P u) (each_row P us) false

both : (a b : Bool) → cond a b false ≡ true → (a ≡ true) × (b ≡ true)
both true b h = (refl, h)
both false b h = absurd (false≢true h)

pub of_each : (P : RowKind → Bool) (us : List RowKind) (d : RowKind) → each_row P us ≡ true → P d ≡ true → (k : ℕ) → P (get_or us k d) ≡ true
of_each P [] d h e k = e
of_each P (u ∷ us) d h e zero = (both (P u) (each_row P us) h).0
of_each P (u ∷ us) d h e (suc k) = of_each P us d (both (P u) (each_row P us) h).1 e k

-- The words in use stand first, and the operands one behind the other, from the first on: so a count says which they are.
abbrev pub in_order : Fields → ℕ → Bool
in_order u k =
    eqb (in_use (field_in u k)) (cond (leb k (summed in_use u)) 1 0)
    && eqb (named (field_in u k)) (cond (ltb (coded u.a) k && leb k (coded u.a + summed named u)) 1 0)

pub words_in_order : (kind : ℕ) → (in_order (fields_of kind) 1 && (in_order (fields_of kind) 2 && (in_order (fields_of kind) 3 && (in_order (fields_of kind) 4 && in_order (fields_of kind) 5)))) ≡ true
words_in_order = of_each (λ u. in_order u.words 1 && (in_order u.words 2 && (in_order u.words 3 && (in_order u.words 4 && in_order u.words 5)))) row_kinds no_kind refl refl

pub at_most_three : (kind : ℕ) → operand_count kind ≤ 3
unfolding operand_count
at_most_three kind = leb-true (summed named (fields_of kind)) 3 (of_each (λ u. leb (summed named u.words) 3) row_kinds no_kind refl refl kind)

pub first_is_a_or_b : (kind : ℕ) → (1 ≤ first_operand kind) × (first_operand kind ≤ 2)
unfolding first_operand
first_is_a_or_b kind = go (fields_of kind).a
  where
    go : (u : Field) → (1 ≤ 1 + coded u) × (1 + coded u ≤ 2)
    go spare = (omega arith, omega arith)
    go value = (omega arith, omega arith)
    go (code n) = (omega arith, omega arith)
    go (names s) = (omega arith, omega arith)

-- words that name no flag
words : (u : Fields) → sort_named u.a ≡ 0 → sort_named u.b ≡ 0 → sort_named u.c ≡ 0 → sort_named u.d ≡ 0 → sort_named u.e ≡ 0
    → (k : ℕ) → sort_named (field_in u k) ≡ 0
words u a b c d e zero = refl
words u a b c d e (suc zero) = a
words u a b c d e (suc (suc zero)) = b
words u a b c d e (suc (suc (suc zero))) = c
words u a b c d e (suc (suc (suc (suc zero)))) = d
words u a b c d e (suc (suc (suc (suc (suc zero))))) = e
words u a b c d e (suc (suc (suc (suc (suc (suc k)))))) = refl

-- 'PICK's word a has to name a flag, and every other operand a word': so the table says.
pub every_other_names_a_word : (kind k : ℕ) → (kind ≡ PICK → k ≡ 1 → ⊥) → wanted_sort kind k ≡ 0
unfolding field_at wanted_sort
every_other_names_a_word zero k n = words (fields_of 0) refl refl refl refl refl k
every_other_names_a_word (suc zero) k n = words (fields_of 1) refl refl refl refl refl k
every_other_names_a_word (suc (suc zero)) k n = words (fields_of 2) refl refl refl refl refl k
every_other_names_a_word (suc (suc (suc zero))) zero n = refl
every_other_names_a_word (suc (suc (suc zero))) (suc zero) n = absurd (n refl refl)
every_other_names_a_word (suc (suc (suc zero))) (suc (suc zero)) n = refl
every_other_names_a_word (suc (suc (suc zero))) (suc (suc (suc zero))) n = refl
every_other_names_a_word (suc (suc (suc zero))) (suc (suc (suc (suc zero)))) n = refl
every_other_names_a_word (suc (suc (suc zero))) (suc (suc (suc (suc (suc zero))))) n = refl
every_other_names_a_word (suc (suc (suc zero))) (suc (suc (suc (suc (suc (suc k)))))) n = refl
every_other_names_a_word (suc (suc (suc (suc zero)))) k n = words (fields_of 4) refl refl refl refl refl k
every_other_names_a_word (suc (suc (suc (suc (suc zero))))) k n = words (fields_of 5) refl refl refl refl refl k
every_other_names_a_word (suc (suc (suc (suc (suc (suc zero)))))) k n = words (fields_of 6) refl refl refl refl refl k
every_other_names_a_word (suc (suc (suc (suc (suc (suc (suc zero))))))) k n = words (fields_of 7) refl refl refl refl refl k
every_other_names_a_word (suc (suc (suc (suc (suc (suc (suc (suc zero)))))))) k n = words (fields_of 8) refl refl refl refl refl k
every_other_names_a_word (suc (suc (suc (suc (suc (suc (suc (suc (suc kind))))))))) k n = words (fields spare spare spare spare spare) refl refl refl refl refl k
