-- Lists read by place: what is joined or summed over the numbers below a length is joined or summed along the list.
--
--   joined_along, total_along         from numbers to the list
--   joined_same, total_same           of functions that agree below n
--   each_long, each_at                a list of equal pieces: its length, and the words of one piece
--   each_append, joined_first, total_first
--
-- Assumes nothing.
use Prim.Native.Nat.{ℕ, zero, suc, ◌+◌, ◌*◌, ◌<◌}
use Rattle.std.specs.Prelude.{◌≡◌}
use Rattle.std.proofs.Math.Path.{refl, sym, ap, ap₂}
use Rattle.std.proofs.Common.{◌∙◌, mul-zero}
use mathlib.Core.List.{List, [], ◌∷◌, ◌++◌, append_assoc, append-nil}
use Rattle.std.proofs.Math.Option.{Option, some}
use native.Mathlib.Omega.{arith}
use Rattle.std.proofs.Math.Nat.{mul-suc, zero-add}
use Rattle.std.proofs.Math.ListN.{length, get_or, get_elem?, length-append, get_or-append}
use Rattle.std.proofs.Math.Seq.{get_or-append-add}
use Rattle.graph.specs.Below.{joined, total}
use Rattle.lowered.specs.Gathered.{each}
use Rattle.laid.specs.Lists.{none_some}

pub joined_same : (f g : ℕ → List ℕ) (n : ℕ) → ((i : ℕ) → i < n → f i ≡ g i) → joined f n ≡ joined g n
unfolding joined
joined_same f g zero h = refl
joined_same f g (suc n) h = ap₂ {C = List ℕ} (λ a b. a ++ b) (joined_same f g n (λ i l. h i (omega arith))) (h n (omega arith))

pub total_same : (f g : ℕ → ℕ) (n : ℕ) → ((i : ℕ) → i < n → f i ≡ g i) → total f n ≡ total g n
unfolding total
total_same f g zero h = refl
total_same f g (suc n) h = ap₂ (λ a b. a + b) (total_same f g n (λ i l. h i (omega arith))) (h n (omega arith))

pub joined_first : (f : ℕ → List ℕ) (n : ℕ) → joined f (suc n) ≡ f 0 ++ joined (λ i. f (suc i)) n
unfolding joined
joined_first f zero = sym (append-nil (f 0))
joined_first f (suc n) = ap (λ (l : List ℕ). l ++ f (suc n)) (joined_first f n) ∙ append_assoc (f 0) (joined (λ i. f (suc i)) n) (f (suc n))

pub total_first : (f : ℕ → ℕ) (n : ℕ) → total f (suc n) ≡ f 0 + total (λ i. f (suc i)) n
unfolding total
total_first f zero = omega arith
total_first f (suc n) = let r = total_first f n in omega arith

abbrev pub sum_of : {A : Type 0} → (A → ℕ) → List A → ℕ
sum_of f [] = 0
sum_of f (x ∷ xs) = f x + sum_of f xs

module _ {A : Type 0} where
  pub joined_along : (F : Option A → List ℕ) (xs : List A) → joined (λ i. F (get_elem? xs i)) (length xs) ≡ each (λ x. F (some x)) xs
  unfolding joined each
  joined_along F [] = refl
  joined_along F (x ∷ xs) = joined_first (λ i. F (get_elem? (x ∷ xs) i)) (length xs) ∙ ap (λ (l : List ℕ). F (some x) ++ l) (joined_along F xs)

  pub total_along : (F : Option A → ℕ) (xs : List A) → total (λ i. F (get_elem? xs i)) (length xs) ≡ sum_of (λ x. F (some x)) xs
  unfolding total
  total_along F [] = refl
  total_along F (x ∷ xs) = total_first (λ i. F (get_elem? (x ∷ xs) i)) (length xs) ∙ ap (λ (n : ℕ). F (some x) + n) (total_along F xs)

  pub sum_append : (f : A → ℕ) (xs ys : List A) → sum_of f (xs ++ ys) ≡ sum_of f xs + sum_of f ys
  sum_append f [] ys = omega arith
  sum_append f (x ∷ xs) ys = let r = sum_append f xs ys in omega arith

  pub each_append : {B : Type 0} (f : A → List B) (xs ys : List A) → each f (xs ++ ys) ≡ each f xs ++ each f ys
  unfolding each
  each_append f [] ys = refl
  each_append f (x ∷ xs) ys = ap (λ l. f x ++ l) (each_append f xs ys) ∙ sym (append_assoc (f x) (each f xs) (each f ys))

  -- pieces of c words
  module _ (f : A → List ℕ) (c : ℕ) (size : (x : A) → length (f x) ≡ c) where
    pub each_long : (xs : List A) → length (each f xs) ≡ c * length xs
    unfolding each
    each_long [] = sym (mul-zero c)
    each_long (x ∷ xs) =
        let p = mul-suc c (length xs) in
        length-append (f x) (each f xs) ∙ ap₂ (λ a b. a + b) (size x) (each_long xs) ∙ (let e : c + c * length xs ≡ c * suc (length xs) = omega arith in e)

    pub each_at : (xs : List A) (i k : ℕ) (x : A) → get_elem? xs i ≡ some x → k < c → get_or (each f xs) (c * i + k) 0 ≡ get_or (f x) k 0
    unfolding each
    each_at [] i k x h l = none_some x h
    each_at (y ∷ xs) zero k x h l =
        let e : y ≡ x = cc in
        let z : c * 0 + k ≡ k = ap (λ (n : ℕ). n + k) (mul-zero c) ∙ zero-add k in
        let s = size y in
        ap (λ (n : ℕ). get_or (f y ++ each f xs) n 0) z ∙ get_or-append (f y) (each f xs) 0 k (omega arith) ∙ ap (λ (a : A). get_or (f a) k 0) e
    each_at (y ∷ xs) (suc i) k x h l =
        let s = size y in
        let p = mul-suc c i in
        let z : c * suc i + k ≡ length (f y) + (c * i + k) = omega arith in
        ap (λ (n : ℕ). get_or (f y ++ each f xs) n 0) z ∙ get_or-append-add (f y) (each f xs) (c * i + k) 0 ∙ each_at xs i k x h l
