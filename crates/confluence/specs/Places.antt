-- Words stored at places of a list: what stands there afterwards, and which stores may be made in either order.
--
--   Each                      a property of every store
--   Apart                     two lists of stores have no place in common
--   stored_other              a place that no store names keeps its word
--   stored_value              a place holds v if each store at it stores v, and one does or it held v
--   stored_commute            stores that are apart may be made in either order
--
-- Assumes nothing.
use Rattle.std.specs.Prelude.{◌≡◌, refl, ◌≢◌, List, [], ◌∷◌, ◌++◌, ℕ, ◌<◌, get_or, set, length}
use Rattle.std.proofs.Common.{sym, ap, ◌∙◌, length-set, get_or-set_same, get_or-set_other}
use Rattle.std.proofs.Math.Decide.{ℕ_discrete}
use Rattle.std.proofs.lemmas.List.{set_comm}
use Rattle.state.specs.State.{Stores, stored}

-- P of each store's place and word
abbrev pub Each : (ℕ → ℕ → Type 0) → Stores → Type 0
Each P [] = Unit {0}
Each P (x ∷ xs) = P x.0 x.1 × Each P xs

pub each_append : (P : ℕ → ℕ → Type 0) (xs ys : Stores) → Each P xs → Each P ys → Each P (xs ++ ys)
each_append P [] ys h k = k
each_append P (x ∷ xs) ys h k = (h.0, each_append P xs ys h.1 k)

pub each_left : (P : ℕ → ℕ → Type 0) (xs ys : Stores) → Each P (xs ++ ys) → Each P xs
each_left P [] ys h = tt
each_left P (x ∷ xs) ys h = (h.0, each_left P xs ys h.1)

pub each_right : (P : ℕ → ℕ → Type 0) (xs ys : Stores) → Each P (xs ++ ys) → Each P ys
each_right P [] ys h = h
each_right P (x ∷ xs) ys h = each_right P xs ys h.1

pub each_map : (P Q : ℕ → ℕ → Type 0) (xs : Stores) → ((p v : ℕ) → P p v → Q p v) → Each P xs → Each Q xs
each_map P Q [] f h = tt
each_map P Q (x ∷ xs) f h = (f x.0 x.1 h.0, each_map P Q xs f h.1)

-- no store is at p
abbrev pub Off : ℕ → Stores → Type 0
Off p xs = Each (λ q v. p ≢ q) xs

abbrev pub Apart : Stores → Stores → Type 0
Apart xs ys = Each (λ p v. Off p ys) xs

pub stored_other : (xs : Stores) (s : List ℕ) (p : ℕ) → Off p xs → get_or (stored xs s) p 0 ≡ get_or s p 0
stored_other [] s p h = refl
stored_other (x ∷ xs) s p h = stored_other xs (set s x.0 x.1) p h.1 ∙ get_or-set_other s x.0 p x.1 0 h.0

pub stored_value : (xs : Stores) (s : List ℕ) (p v : ℕ) → p < length s → Each (λ q y. q ≡ p → y ≡ v) xs → (Off p xs → get_or s p 0 ≡ v)
    → get_or (stored xs s) p 0 ≡ v
stored_value [] s p v l each held = held tt
stored_value (x ∷ xs) s p v l each held = stored_value xs (set s x.0 x.1) p v (rw length-set l) each.1 (λ off. now (ℕ_discrete p x.0) off)
  where
    now : Dec (p ≡ x.0) → Off p xs → get_or (set s x.0 x.1) p 0 ≡ v
    now (yes e) off = rw e (get_or-set_same s x.0 x.1 0 (rw e at l)) ∙ each.0 (sym e)
    now (no n) off = get_or-set_other s x.0 p x.1 0 n ∙ held (n, off)

set_past : (ys : Stores) (s : List ℕ) (p v : ℕ) → Off p ys → stored ys (set s p v) ≡ set (stored ys s) p v
set_past [] s p v h = refl
set_past (y ∷ ys) s p v h = ap (stored ys) (set_comm s p y.0 v y.1 h.0) ∙ set_past ys (set s y.0 y.1) p v h.1

pub stored_commute : (xs ys : Stores) (s : List ℕ) → Apart xs ys → stored ys (stored xs s) ≡ stored xs (stored ys s)
stored_commute [] ys s h = refl
stored_commute (x ∷ xs) ys s h =
    stored_commute xs ys (set s x.0 x.1) h.1 ∙ ap (stored xs) (set_past ys s x.0 x.1 h.0)
