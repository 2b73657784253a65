-- Lists without repeats, and the elements of a list by their places.
--
--   Among, Once               an element of a list; a list without repeats
--   among_left, among_right, among_split, once_append
--                             of two lists, one after the other
--   there, in_range, has_elem, elem_left, elem_right
--                             the element at a place
--
-- Assumes nothing.
use Rattle.std.specs.Prelude.{ℕ, zero, suc, ◌+◌, ◌≤◌, ◌<◌, ◌≡◌, refl, ◌⊎◌, List, [], ◌∷◌, ◌++◌, length}
use Rattle.std.proofs.Common.{ap, ◌∙◌, inl, inr, ⊎_elim, arith, eq-or-lt_of_le}
use Rattle.std.proofs.Math.Option.{Option, none, some}
use Rattle.std.proofs.Math.ListN.{get_elem?}

abbrev pub Among : {A : Type 0} → A → List A → Type 0
Among a [] = ⊥
Among a (x ∷ xs) = (a ≡ x) ⊎ Among a xs

abbrev pub Once : {A : Type 0} → List A → Type 0
Once [] = Unit {0}
Once (x ∷ xs) = (Among x xs → ⊥) × Once xs

pub none_some : {A B : Type 0} (a : A) → ◌≡◌ {A = Option A} none (some a) → B
none_some a h = let z : ◌≡◌ {A = ℕ} 0 1 = cc in absurd (omega arith)

pub below_or_last : (i n : ℕ) → i < suc n → (i < n) ⊎ (i ≡ n)
below_or_last i n h = ⊎_elim (λ (q : i ≡ n). inr q) (λ (q : i < n). inl q) (eq-or-lt_of_le (within i n h))
  where
    within : (i n : ℕ) → i < suc n → i ≤ n
    within i n h = omega arith

module _ {A : Type 0} where
  pub among_left : (a : A) (xs ys : List A) → Among a xs → Among a (xs ++ ys)
  among_left a [] ys h = absurd h
  among_left a (x ∷ xs) ys (inl h) = inl h
  among_left a (x ∷ xs) ys (inr h) = inr (among_left a xs ys h)

  pub among_right : (a : A) (xs ys : List A) → Among a ys → Among a (xs ++ ys)
  among_right a [] ys h = h
  among_right a (x ∷ xs) ys h = inr (among_right a xs ys h)

  pub among_split : (a : A) (xs ys : List A) → Among a (xs ++ ys) → Among a xs ⊎ Among a ys
  among_split a [] ys h = inr h
  among_split a (x ∷ xs) ys (inl h) = inl (inl h)
  among_split a (x ∷ xs) ys (inr h) = elim (among_split a xs ys h) [ inl k ↦ inl (inr k) | inr k ↦ inr k ]

  pub once_append : (xs ys : List A) → Once xs → Once ys → ((a : A) → Among a xs → Among a ys → ⊥) → Once (xs ++ ys)
  once_append [] ys p q h = q
  once_append (x ∷ xs) ys p q h = (λ k. no_head k, once_append xs ys p.1 q (λ a m n. h a (inr m) n))
    where
      no_head : Among x (xs ++ ys) → ⊥
      no_head k = elim (among_split x xs ys k) [ inl m ↦ p.0 m | inr m ↦ h x (inl refl) m ]

  -- ---- positions
  pub there : (xs : List A) (i : ℕ) (a : A) → get_elem? xs i ≡ some a → Among a xs
  there [] i a h = none_some a h
  there (x ∷ xs) zero a h = inl (cc)
  there (x ∷ xs) (suc i) a h = inr (there xs i a h)

  pub in_range : (xs : List A) (i : ℕ) (a : A) → get_elem? xs i ≡ some a → i < length xs
  in_range [] i a h = none_some a h
  in_range (x ∷ xs) zero a h = omega arith
  in_range (x ∷ xs) (suc i) a h = let r = in_range xs i a h in omega arith

  pub has_elem : (xs : List A) (i : ℕ) → i < length xs → (a : A) × (get_elem? xs i ≡ some a)
  has_elem [] i l = absurd (omega arith)
  has_elem (x ∷ xs) zero l = (x, refl)
  has_elem (x ∷ xs) (suc i) l = has_elem xs i (omega arith)

  pub elem_left : (xs ys : List A) (i : ℕ) (a : A) → get_elem? xs i ≡ some a → get_elem? (xs ++ ys) i ≡ some a
  elem_left [] ys i a h = none_some a h
  elem_left (x ∷ xs) ys zero a h = h
  elem_left (x ∷ xs) ys (suc i) a h = elem_left xs ys i a h

  pub elem_right : (xs ys : List A) (i : ℕ) → get_elem? (xs ++ ys) (length xs + i) ≡ get_elem? ys i
  elem_right [] ys i = ap (get_elem? ys) (let e : 0 + i ≡ i = omega arith in e)
  elem_right (x ∷ xs) ys i = ap (get_elem? (x ∷ (xs ++ ys))) (let e : suc (length xs) + i ≡ suc (length xs + i) = omega arith in e) ∙ elem_right xs ys i
