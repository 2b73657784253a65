-- The lists of lowering: where their elements come from, that they are without repeats, and at which place each element stands.
--
--   gathered_from, -has, -once            of lists made row by row
--   each_from, -has, -once                of lists made element by element
--   those_from, -has, -once               of the rows that pass a test
--   at_position, position_is              the place of an element
--
-- What is true of any list (Among, Once and their laws) is passed on from `lowered`.
-- Assumes nothing.
use Prim.Native.Nat.{ℕ, zero, suc, ◌<◌}
use Rattle.std.specs.Prelude.{◌≡◌, ◌⊎◌, Bool, cond, length}
use Rattle.std.proofs.Math.Path.{refl, ap}
use Rattle.std.proofs.Common.{sym, ◌∙◌, subst}
use Rattle.std.proofs.Math.Logic.{inl, inr}
use Rattle.std.proofs.Math.Bool.{true, false}
use mathlib.Core.List.{List, [], ◌∷◌}
use Rattle.std.proofs.Math.Option.{some}
use native.Mathlib.Omega.{arith}
use Rattle.std.proofs.Math.ListN.{get_elem?}
use Rattle.lowered.specs.Gathered.{gathered, those, each, place_after, position}
pub use Rattle.lowered.specs.Lists.{Among, Once, none_some, below_or_last, among_left, among_right, among_split, once_append, there, in_range, has_elem, elem_left, elem_right}

module _ {A : Type 0} where
  -- ---- row by row
  module _ (f : ℕ → List A) where
    pub gathered_from : (n : ℕ) (a : A) → Among a (gathered f n) → (i : ℕ) × (i < n) × Among a (f i)
    unfolding gathered
    gathered_from zero a h = absurd h
    gathered_from (suc n) a h =
        elim (among_split a (gathered f n) (f n) h) [
          | inl k ↦ let r = gathered_from n a k in let r1 = r.1 in (r.0, omega arith, r.2)
          | inr k ↦ (n, omega arith, k)
        ]

    pub gathered_has : (n : ℕ) (a : A) (i : ℕ) → i < n → Among a (f i) → Among a (gathered f n)
    unfolding gathered
    gathered_has zero a i h m = absurd (omega arith)
    gathered_has (suc n) a i h m =
        elim (below_or_last i n h) [
          | inl q ↦ among_left a (gathered f n) (f n) (gathered_has n a i q m)
          | inr q ↦ among_right a (gathered f n) (f n) (subst (λ (j : ℕ). Among a (f j)) q m)
        ]

    -- what a row gives says from which row it is
    pub gathered_once : (row : A → ℕ) → ((i : ℕ) (a : A) → Among a (f i) → row a ≡ i) → ((i : ℕ) → Once (f i)) → (n : ℕ) → Once (gathered f n)
    unfolding gathered
    gathered_once row h o zero = tt
    gathered_once row h o (suc n) =
        once_append (gathered f n) (f n) (gathered_once row h o n) (o n)
        (λ a p q. let r = gathered_from n a p in let r1 = r.1 in let e = h r.0 a r.2 in let d = h n a q in omega arith)

  module _ (same : (a b : A) → Dec (a ≡ b)) where
    pub at_position : (a : A) (xs : List A) → Among a xs → get_elem? xs (position same a xs) ≡ some a
    unfolding position
    at_position a [] h = absurd h
    at_position a (x ∷ xs) h = go (same a x) h (at_position a xs)
      where
        go : (d : Dec (a ≡ x)) → (a ≡ x) ⊎ Among a xs → (Among a xs → get_elem? xs (position same a xs) ≡ some a) → get_elem? (x ∷ xs) (place_after d (position same a xs)) ≡ some a
        go (yes e) k ih = ap some (sym e)
        go (no e) (inl k) ih = absurd (e k)
        go (no e) (inr k) ih = ih k

    pub position_is : (a : A) (xs : List A) (i : ℕ) → Once xs → get_elem? xs i ≡ some a → position same a xs ≡ i
    unfolding position
    position_is a [] i o h = none_some a h
    position_is a (x ∷ xs) zero o h = go (same a x)
      where
        go : (d : Dec (a ≡ x)) → place_after d (position same a xs) ≡ 0
        go (yes e) = refl
        go (no e) = absurd (e (cc))
    position_is a (x ∷ xs) (suc i) o h = go (same a x) (position_is a xs i o.1 h)
      where
        go : (d : Dec (a ≡ x)) → position same a xs ≡ i → place_after d (position same a xs) ≡ suc i
        go (yes e) ih = absurd (o.0 (subst (λ (z : A). Among z xs) e (there xs i a h)))
        go (no e) ih = ap suc ih

    pub position_below : (a : A) (xs : List A) → Among a xs → position same a xs < length xs
    position_below a xs h = in_range xs (position same a xs) a (at_position a xs h)

-- ---- element by element
module _ {A B : Type 0} (f : A → List B) where
  pub each_from : (xs : List A) (b : B) → Among b (each f xs) → (a : A) × Among a xs × Among b (f a)
  unfolding each
  each_from [] b h = absurd h
  each_from (x ∷ xs) b h =
      elim (among_split b (f x) (each f xs) h) [
        | inl k ↦ (x, inl refl, k)
        | inr k ↦ let r = each_from xs b k in (r.0, inr r.1, r.2)
      ]

  pub each_has : (xs : List A) (b : B) (a : A) → Among a xs → Among b (f a) → Among b (each f xs)
  unfolding each
  each_has [] b a h m = absurd h
  each_has (x ∷ xs) b a (inl e) m = among_left b (f x) (each f xs) (subst (λ (z : A). Among b (f z)) e m)
  each_has (x ∷ xs) b a (inr h) m = among_right b (f x) (each f xs) (each_has xs b a h m)

  -- what an element gives says from which element it is
  pub each_once : ((a c : A) (b : B) → Among b (f a) → Among b (f c) → a ≡ c) → ((a : A) → Once (f a)) → (xs : List A) → Once xs → Once (each f xs)
  unfolding each
  each_once h o [] p = tt
  each_once h o (x ∷ xs) p =
      once_append (f x) (each f xs) (o x) (each_once h o xs p.1)
      (λ b m n. let r = each_from xs b n in p.0 (subst (λ (z : A). Among z xs) (h r.0 x b r.2 m) r.1))

-- ---- the rows that pass a test
module _ (test : ℕ → Bool) where
  pub those_from : (n v : ℕ) → Among v (those test n) → (v < n) × (test v ≡ true)
  unfolding those
  those_from zero v h = absurd h
  those_from (suc n) v h =
      elim (among_split v (those test n) (cond (test n) (n ∷ []) []) h) [
        | inl k ↦ let r = those_from n v k in let r0 = r.0 in (omega arith, r.1)
        | inr k ↦ go (test n) refl k
      ]
    where
      go : (b : Bool) → test n ≡ b → Among v (cond b (n ∷ []) []) → (v < suc n) × (test v ≡ true)
      go true e (inl k) = (omega arith, ap test k ∙ e)
      go true e (inr k) = absurd k
      go false e k = absurd k

  pub those_has : (n v : ℕ) → v < n → test v ≡ true → Among v (those test n)
  unfolding those
  those_has zero v h e = absurd (omega arith)
  those_has (suc n) v h e =
      elim (below_or_last v n h) [
        | inl q ↦ among_left v (those test n) (cond (test n) (n ∷ []) []) (those_has n v q e)
        | inr q ↦ among_right v (those test n) (cond (test n) (n ∷ []) []) (rw (← q, e) (inl refl))
      ]

  pub those_once : (n : ℕ) → Once (those test n)
  unfolding those
  those_once zero = tt
  those_once (suc n) = once_append (those test n) (cond (test n) (n ∷ []) []) (those_once n) (one (test n)) (λ v p q. let r = those_from n v p in let r0 = r.0 in last (test n) v q r0)
    where
      one : (b : Bool) → Once (cond b (n ∷ []) [])
      one true = (λ h. h, tt)
      one false = tt

      last : (b : Bool) (v : ℕ) → Among v (cond b (n ∷ []) []) → v < n → ⊥
      last true v (inl e) h = omega arith
      last true v (inr e) h = e
      last false v e h = e
