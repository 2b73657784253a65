-- Lists made row by row: what each number below n gives, joined in order; positions in a list.
--
--   gathered          a list for each number below n, joined in order
--   those             the numbers below n that pass a test, rising
--   some?             one of the numbers below n passes a test
--   each              a list for each element of a list, joined in order
--   position          the place of an element in a list
--
-- Assumes nothing.
use Rattle.std.specs.Prelude.{ℕ, zero, suc, ◌≡◌, Bool, false, cond, ◌||◌, List, [], ◌∷◌, ◌++◌}

unfoldable pub gathered : {A : Type 0} → (ℕ → List A) → ℕ → List A
gathered f zero = []
gathered f (suc n) = gathered f n ++ f n

unfoldable pub those : (ℕ → Bool) → ℕ → List ℕ
those test zero = []
those test (suc n) = those test n ++ cond (test n) (n ∷ []) []

unfoldable pub some? : (ℕ → Bool) → ℕ → Bool
some? test zero = false
some? test (suc n) = test n || some? test n

-- what each element of a list gives, joined in order
unfoldable pub each : {A B : Type 0} → (A → List B) → List A → List B
each f [] = []
each f (x ∷ xs) = f x ++ each f xs

abbrev pub place_after : {A : Type 0} → Dec A → ℕ → ℕ
place_after (yes e) k = 0
place_after (no e) k = suc k

-- the place of an element, from 0; the length of the list where it is not there
unfoldable pub position : {A : Type 0} → ((a b : A) → Dec (a ≡ b)) → A → List A → ℕ
position same a [] = 0
position same a (x ∷ xs) = place_after (same a x) (position same a xs)
