-- Words and flags: docs/RULES.md, section 'Words and flags', whose sentences stand above what renders them.
-- Main definitions: `condition`, `update`, `operate`, each total: a code beyond its list gives 0.
-- `value_of` reads a word with a sign, as one of the library's integers; the rules that have to do with a sign are written over it.
-- `pick` and `flag` turn a test into a choice and into a flag.
-- Assumes nothing.
use Rattle.std.specs.Prelude.{ℕ, ◌+◌, ◌-◌, ◌*◌, ◌%◌, ◌^◌, Bool, true, false, not, ℤ, pos, negsuc, ◌==◌, nat_lt}
use Rattle.std.specs.Int.Signed.{lt_z, le_z, quot_z, shr_z}

-- The first of two things where a test holds, else the second.
abbrev pub pick {ℓ} : {A : Type ℓ} → Bool → A → A → A
pick true a b = a
pick false a b = b

-- 'A word is a number from 0 to 4,294,967,295': one below this.
abbrev pub word_limit : ℕ
word_limit = 4294967296

-- 'A flag is 0 for false or 1 for true.'
abbrev pub flag : Bool → ℕ
flag true = 1
flag false = 0

-- 'Read with a sign, a word below 2^31 is itself, and any other is that number less 2^32.' The integer `negsuc n` is -(n + 1).
abbrev pub value_of : ℕ → ℤ
value_of x = pick (nat_lt x 2147483648) (pos x) (negsuc (4294967295 - x))

-- The word of a number from -2^32 to 2^32 - 1: itself, or below zero 2^32 more.
abbrev pub word_of : ℤ → ℕ
word_of (pos n) = n
word_of (negsuc n) = 4294967295 - n

-- 'A sum or difference that leaves the words comes round at 2^32.'
abbrev pub sum : ℕ → ℕ → ℕ
sum x y = (x + y) % word_limit

abbrev pub difference : ℕ → ℕ → ℕ
difference x y = (x + (word_limit - y)) % word_limit

-- 'Of a product only the remainder by 2^32 is kept.'
abbrev pub product : ℕ → ℕ → ℕ
product x y = x * y % word_limit

-- 'A quotient is of the values, rounded toward zero; a quotient by 0 is 0.'
-- The least value divided by -1 is 2^31, whose word is that of the least value.
abbrev pub quotient : ℕ → ℕ → ℕ
quotient x y = pick (y == 0) 0 (word_of (quot_z (value_of x) (value_of y)))

-- 'A left shift drops what passes the 32nd place, and by 32 places or more it leaves 0.'
abbrev pub shift_left : ℕ → ℕ → ℕ
shift_left x places = pick (nat_lt places 32) (x * 2 ^ places % word_limit) 0

-- 'A right shift repeats the sign bit: the value is divided by a power of two and rounded down. By 32 places or more it does what 32 places do.'
abbrev pub shift_right : ℕ → ℕ → ℕ
shift_right x places = word_of (shr_z (value_of x) (2 ^ pick (nat_lt places 32) places 32))

-- 'Updates: 0 `+=`, 1 `-=`, 2 `*=`, 3 `/=`, 4 `<<=`, 5 `>>=`.' Code, index, step.
-- 'A code beyond its list answers 0.'
unfoldable pub update : ℕ → ℕ → ℕ → ℕ
update code index step =
    pick (code == 0) (sum index step)
    (pick (code == 1) (difference index step)
    (pick (code == 2) (product index step)
    (pick (code == 3) (quotient index step)
    (pick (code == 4) (shift_left index step)
    (pick (code == 5) (shift_right index step)
    0)))))

-- 'Conditions: 0 `<`, 1 `<=`, 2 `>`, 3 `>=`, 4 `!=`, of the values; each answers a flag.' Code, x, y. Words that differ have values that differ.
unfoldable pub condition : ℕ → ℕ → ℕ → ℕ
condition code x y =
    pick (code == 0) (flag (lt_z (value_of x) (value_of y)))
    (pick (code == 1) (flag (le_z (value_of x) (value_of y)))
    (pick (code == 2) (flag (lt_z (value_of y) (value_of x)))
    (pick (code == 3) (flag (le_z (value_of y) (value_of x)))
    (pick (code == 4) (flag (not (x == y)))
    0))))

-- 'Operators: 0 adds, 1 subtracts, 2 multiplies, and 3 to 7 ask the five conditions in their order and answer a flag.' Code, x, y.
-- A code beyond 7 asks for a condition beyond 4, which gives 0.
unfoldable pub operate : ℕ → ℕ → ℕ → ℕ
operate code x y =
    pick (code == 0) (sum x y)
    (pick (code == 1) (difference x y)
    (pick (code == 2) (product x y)
    (condition (code - 3) x y)))
