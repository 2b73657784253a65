-- Cases by computation: each condition and update on all pairs of the least value, -1, 0, 1 and the greatest, the operators, and the first
-- code beyond each list. In a square each row is an x, and each column a y, in that order.
-- Assumes nothing.
use Rattle.std.specs.Prelude.{◌≡◌, ℕ, List, [], ◌∷◌, map, pos, negsuc, refl}
use Rattle.word.specs.Words.{value_of, update, condition, operate}

-- The words of the five values.
abbrev ends : List ℕ
ends = 2147483648 ∷ 4294967295 ∷ 0 ∷ 1 ∷ 2147483647 ∷ []

abbrev square : (ℕ → ℕ → ℕ) → List (List ℕ)
square f = map (λ (x : ℕ). map (f x) ends) ends

ends_are : map value_of ends ≡ negsuc 2147483647 ∷ negsuc 0 ∷ pos 0 ∷ pos 1 ∷ pos 2147483647 ∷ []
ends_are = refl

less :
    square (condition 0) ≡
    (0 ∷ 1 ∷ 1 ∷ 1 ∷ 1 ∷ []) ∷
    (0 ∷ 0 ∷ 1 ∷ 1 ∷ 1 ∷ []) ∷
    (0 ∷ 0 ∷ 0 ∷ 1 ∷ 1 ∷ []) ∷
    (0 ∷ 0 ∷ 0 ∷ 0 ∷ 1 ∷ []) ∷
    (0 ∷ 0 ∷ 0 ∷ 0 ∷ 0 ∷ []) ∷
    []
unfolding condition
less = refl

at_most :
    square (condition 1) ≡
    (1 ∷ 1 ∷ 1 ∷ 1 ∷ 1 ∷ []) ∷
    (0 ∷ 1 ∷ 1 ∷ 1 ∷ 1 ∷ []) ∷
    (0 ∷ 0 ∷ 1 ∷ 1 ∷ 1 ∷ []) ∷
    (0 ∷ 0 ∷ 0 ∷ 1 ∷ 1 ∷ []) ∷
    (0 ∷ 0 ∷ 0 ∷ 0 ∷ 1 ∷ []) ∷
    []
unfolding condition
at_most = refl

more :
    square (condition 2) ≡
    (0 ∷ 0 ∷ 0 ∷ 0 ∷ 0 ∷ []) ∷
    (1 ∷ 0 ∷ 0 ∷ 0 ∷ 0 ∷ []) ∷
    (1 ∷ 1 ∷ 0 ∷ 0 ∷ 0 ∷ []) ∷
    (1 ∷ 1 ∷ 1 ∷ 0 ∷ 0 ∷ []) ∷
    (1 ∷ 1 ∷ 1 ∷ 1 ∷ 0 ∷ []) ∷
    []
unfolding condition
more = refl

at_least :
    square (condition 3) ≡
    (1 ∷ 0 ∷ 0 ∷ 0 ∷ 0 ∷ []) ∷
    (1 ∷ 1 ∷ 0 ∷ 0 ∷ 0 ∷ []) ∷
    (1 ∷ 1 ∷ 1 ∷ 0 ∷ 0 ∷ []) ∷
    (1 ∷ 1 ∷ 1 ∷ 1 ∷ 0 ∷ []) ∷
    (1 ∷ 1 ∷ 1 ∷ 1 ∷ 1 ∷ []) ∷
    []
unfolding condition
at_least = refl

unequal :
    square (condition 4) ≡
    (0 ∷ 1 ∷ 1 ∷ 1 ∷ 1 ∷ []) ∷
    (1 ∷ 0 ∷ 1 ∷ 1 ∷ 1 ∷ []) ∷
    (1 ∷ 1 ∷ 0 ∷ 1 ∷ 1 ∷ []) ∷
    (1 ∷ 1 ∷ 1 ∷ 0 ∷ 1 ∷ []) ∷
    (1 ∷ 1 ∷ 1 ∷ 1 ∷ 0 ∷ []) ∷
    []
unfolding condition
unequal = refl

sums :
    square (update 0) ≡
    (0 ∷ 2147483647 ∷ 2147483648 ∷ 2147483649 ∷ 4294967295 ∷ []) ∷
    (2147483647 ∷ 4294967294 ∷ 4294967295 ∷ 0 ∷ 2147483646 ∷ []) ∷
    (2147483648 ∷ 4294967295 ∷ 0 ∷ 1 ∷ 2147483647 ∷ []) ∷
    (2147483649 ∷ 0 ∷ 1 ∷ 2 ∷ 2147483648 ∷ []) ∷
    (4294967295 ∷ 2147483646 ∷ 2147483647 ∷ 2147483648 ∷ 4294967294 ∷ []) ∷
    []
unfolding update
sums = refl

differences :
    square (update 1) ≡
    (0 ∷ 2147483649 ∷ 2147483648 ∷ 2147483647 ∷ 1 ∷ []) ∷
    (2147483647 ∷ 0 ∷ 4294967295 ∷ 4294967294 ∷ 2147483648 ∷ []) ∷
    (2147483648 ∷ 1 ∷ 0 ∷ 4294967295 ∷ 2147483649 ∷ []) ∷
    (2147483649 ∷ 2 ∷ 1 ∷ 0 ∷ 2147483650 ∷ []) ∷
    (4294967295 ∷ 2147483648 ∷ 2147483647 ∷ 2147483646 ∷ 0 ∷ []) ∷
    []
unfolding update
differences = refl

products :
    square (update 2) ≡
    (0 ∷ 2147483648 ∷ 0 ∷ 2147483648 ∷ 2147483648 ∷ []) ∷
    (2147483648 ∷ 1 ∷ 0 ∷ 4294967295 ∷ 2147483649 ∷ []) ∷
    (0 ∷ 0 ∷ 0 ∷ 0 ∷ 0 ∷ []) ∷
    (2147483648 ∷ 4294967295 ∷ 0 ∷ 1 ∷ 2147483647 ∷ []) ∷
    (2147483648 ∷ 2147483649 ∷ 0 ∷ 2147483647 ∷ 1 ∷ []) ∷
    []
unfolding update
products = refl

quotients :
    square (update 3) ≡
    (1 ∷ 2147483648 ∷ 0 ∷ 2147483648 ∷ 4294967295 ∷ []) ∷
    (0 ∷ 1 ∷ 0 ∷ 4294967295 ∷ 0 ∷ []) ∷
    (0 ∷ 0 ∷ 0 ∷ 0 ∷ 0 ∷ []) ∷
    (0 ∷ 4294967295 ∷ 0 ∷ 1 ∷ 0 ∷ []) ∷
    (0 ∷ 2147483649 ∷ 0 ∷ 2147483647 ∷ 1 ∷ []) ∷
    []
unfolding update
quotients = refl

left_shifts :
    square (update 4) ≡
    (0 ∷ 0 ∷ 2147483648 ∷ 0 ∷ 0 ∷ []) ∷
    (0 ∷ 0 ∷ 4294967295 ∷ 4294967294 ∷ 0 ∷ []) ∷
    (0 ∷ 0 ∷ 0 ∷ 0 ∷ 0 ∷ []) ∷
    (0 ∷ 0 ∷ 1 ∷ 2 ∷ 0 ∷ []) ∷
    (0 ∷ 0 ∷ 2147483647 ∷ 4294967294 ∷ 0 ∷ []) ∷
    []
unfolding update
left_shifts = refl

right_shifts :
    square (update 5) ≡
    (4294967295 ∷ 4294967295 ∷ 2147483648 ∷ 3221225472 ∷ 4294967295 ∷ []) ∷
    (4294967295 ∷ 4294967295 ∷ 4294967295 ∷ 4294967295 ∷ 4294967295 ∷ []) ∷
    (0 ∷ 0 ∷ 0 ∷ 0 ∷ 0 ∷ []) ∷
    (0 ∷ 0 ∷ 1 ∷ 0 ∷ 0 ∷ []) ∷
    (0 ∷ 0 ∷ 2147483647 ∷ 1073741823 ∷ 0 ∷ []) ∷
    []
unfolding update
right_shifts = refl

-- -7 and 7 by 2 and -2
quotients_go_toward_zero :
    (update 3 4294967289 2 ≡ 4294967293) × (update 3 7 4294967294 ≡ 4294967293) × (update 3 4294967289 4294967294 ≡ 3) × (update 3 7 2 ≡ 3)
unfolding update
quotients_go_toward_zero = (refl, refl, refl, refl)

quotient_by_zero : (update 3 7 0 ≡ 0) × (update 3 4294967289 0 ≡ 0)
unfolding update
quotient_by_zero = (refl, refl)

left_shift_ends_at_32 :
    (update 4 1 0 ≡ 1) × (update 4 3 31 ≡ 2147483648) × (update 4 1 32 ≡ 0) × (update 4 1 4294967295 ≡ 0)
unfolding update
left_shift_ends_at_32 = (refl, refl, refl, refl)

-- 16, -16, -1 and the greatest value
right_shift_keeps_the_sign :
    (update 5 16 1 ≡ 8) × (update 5 4294967280 2 ≡ 4294967292) × (update 5 4294967295 31 ≡ 4294967295) × (update 5 2147483647 31 ≡ 0)
unfolding update
right_shift_keeps_the_sign = (refl, refl, refl, refl)

-- the greatest and the least value, 1 and -8
right_shift_ends_at_32 :
    (update 5 2147483647 32 ≡ 0) × (update 5 2147483648 32 ≡ 4294967295) × (update 5 1 4294967295 ≡ 0) × (update 5 4294967288 40 ≡ 4294967295)
unfolding update
right_shift_ends_at_32 = (refl, refl, refl, refl)

products_wrap : (update 2 65535 65537 ≡ 4294967295) × (update 2 65536 65536 ≡ 0)
unfolding update
products_wrap = (refl, refl)

operators_wrap : (operate 0 4294967295 2 ≡ 1) × (operate 1 3 5 ≡ 4294967294) × (operate 2 65536 65536 ≡ 0)
unfolding operate
operators_wrap = (refl, refl, refl)

operators_3_to_7_are_conditions :
    (operate 3 4294967295 0 ≡ 1) × (operate 4 4 4 ≡ 1) × (operate 5 4294967295 0 ≡ 0) × (operate 6 4 4 ≡ 1) × (operate 7 4 4 ≡ 0)
unfolding operate condition
operators_3_to_7_are_conditions = (refl, refl, refl, refl, refl)

beyond_the_lists : (condition 5 1 2 ≡ 0) × (update 6 1 2 ≡ 0) × (operate 8 1 2 ≡ 0)
unfolding condition update operate
beyond_the_lists = (refl, refl, refl)
