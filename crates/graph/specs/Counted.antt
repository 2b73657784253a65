-- A table of how often each wire is read, counted up to two: once or not is all that refusal 14 asks.
--
--   once_more          0 becomes 1, all else 2
--   counted           a table after a list of wires was read
--   counted_once      the table of no reads, then of a list: its word at w is 1 exactly where w stands once in the list
--
-- Assumes nothing.
use Rattle.std.specs.Prelude.{ℕ, zero, suc, ◌+◌, ◌<◌, ◌≡◌, refl, Bool, true, false, List, [], ◌∷◌, ◌++◌, eqb, get_or, set, length, replicate}
use Rattle.std.proofs.Common.{sym, arith, length-set, get_or-set_same, get_or-set_other, eqb-true, ne_eqb}
use Rattle.std.proofs.lemmas.List.{get_or-replicate, length-replicate}
use Rattle.std.proofs.lemmas.Bool.{eqb-false}
use Rattle.word.specs.Words.{flag}
use Rattle.graph.specs.Below.{times}

abbrev pub once_more : ℕ → ℕ
once_more zero = 1
once_more (suc t) = 2

unfoldable pub counted : List ℕ → List ℕ → List ℕ
counted t [] = t
counted t (w ∷ ws) = counted (set t w (once_more (get_or t w 0))) ws

-- ---- laws

pub counted_append : (t xs ys : List ℕ) → counted t (xs ++ ys) ≡ counted (counted t xs) ys
unfolding counted
counted_append t [] ys = refl
counted_append t (x ∷ xs) ys = counted_append (set t x (once_more (get_or t x 0))) xs ys

-- A count, up to two.
abbrev pub up_to_two : ℕ → ℕ
up_to_two zero = 0
up_to_two (suc zero) = 1
up_to_two (suc (suc t)) = 2

more_up_to_two : (t : ℕ) → once_more (up_to_two t) ≡ up_to_two (suc t)
more_up_to_two zero = refl
more_up_to_two (suc zero) = refl
more_up_to_two (suc (suc t)) = refl

after_one : (t : List ℕ) (w x m : ℕ) → w < length t → get_or t w 0 ≡ up_to_two m
    → get_or (set t x (once_more (get_or t x 0))) w 0 ≡ up_to_two (m + flag (eqb w x))
after_one t w x m h e = go (eqb w x) refl
  where
    go : (b : Bool) → eqb w x ≡ b → get_or (set t x (once_more (get_or t x 0))) w 0 ≡ up_to_two (m + flag b)
    go true q =
        let same : w ≡ x = eqb-true w x q in
        let one : m + 1 ≡ suc m = omega arith in
        rw (← same, get_or-set_same t w (once_more (get_or t w 0)) 0 h, e, more_up_to_two m, one)
    go false q =
        let none : m + 0 ≡ m = omega arith in
        rw (get_or-set_other t x w (once_more (get_or t x 0)) 0 (eqb-false w x q), e, none)

pub counted_at : (xs t : List ℕ) (w m : ℕ) → w < length t → get_or t w 0 ≡ up_to_two m
    → get_or (counted t xs) w 0 ≡ up_to_two (m + times w xs)
unfolding counted times
counted_at [] t w m h e = let none : m + 0 ≡ m = omega arith in rw none e
counted_at (x ∷ xs) t w m h e =
    let there : w < length (set t x (once_more (get_or t x 0))) = rw (length-set t x (once_more (get_or t x 0))) h in
    let group : m + (flag (eqb w x) + times w xs) ≡ m + flag (eqb w x) + times w xs = omega arith in
    rw group (counted_at xs (set t x (once_more (get_or t x 0))) w (m + flag (eqb w x)) there (after_one t w x m h e))

once_up_to_two : (t : ℕ) → eqb (up_to_two t) 1 ≡ eqb t 1
once_up_to_two zero = refl
once_up_to_two (suc zero) = refl
once_up_to_two (suc (suc t)) = sym (ne_eqb (suc (suc t)) 1 (λ e. omega arith))

pub counted_once : (xs : List ℕ) (n w : ℕ) → w < n → eqb (get_or (counted (replicate n 0) xs) w 0) 1 ≡ eqb (times w xs) 1
counted_once xs n w h =
    let zeros : List ℕ = replicate n 0 in
    let there : w < length zeros = rw (length-replicate {A = ℕ} n 0) h in
    let none : 0 + times w xs ≡ times w xs = omega arith in
    rw (counted_at xs zeros w 0 there (get_or-replicate n w 0 0 h), none) (once_up_to_two (times w xs))
