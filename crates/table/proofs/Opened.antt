-- The open loops as entries and a depth: how `open_loops` meets a depth of 0, an entry more, and a store.
-- Assumes nothing.
use Prim.Native.Nat.{ℕ, zero, suc, ◌+◌, ◌-◌, ◌<◌, ◌≤◌}
use mathlib.Core.Bool.{Bool, true, false, cond, not}
use mathlib.Core.List.{List, [], ◌∷◌}
use mathlib.Core.Path.{◌≡◌, refl, sym, ap}
use native.Mathlib.Omega.{arith}
use native.Mathlib.Decide.{ℕ_discrete, dec_lt}
use borrow.Author.Tests.{ne_eqb, eq-eqb, le-leb, lt-leb, le-ltb, lt-ltb}
use lib.Dec.{eqb, leb, ltb}
use lib.ListN.{get_or, set, length}
use lib.Seq.{get_or-set_same, get_or-set_other}
use Rattle.table.specs.Rows.{kind_at}
use Rattle.table.specs.Scan.{Loop, opened, one_arg, one_next, at_head, outward, after, stack_at, holds}
use Rattle.table.specs.Check.{outside}
use Rattle.table.specs.Kept.{loop_of, open_loops, Counted}

module _ (a : List (List ℕ)) (d : ℕ) where
  pub open_none : d ≡ 0 → open_loops a d ≡ []
  unfolding open_loops
  open_none e = rw e

  pub open_some : (d ≡ 0 → ⊥) → open_loops a d ≡ loop_of (get_or a (d - 1) []) ∷ open_loops a (d - 1)
  unfolding open_loops
  open_some n = let e : d ≡ suc (d - 1) = omega arith in ap (open_loops a) e

pub open_outward : (a : List (List ℕ)) (d : ℕ) → outward (open_loops a d) ≡ open_loops a (d - 1)
unfolding open_loops
open_outward a zero = refl
open_outward a (suc d) = let e : suc d - 1 ≡ d = omega arith in rw e

pub open_length : (a : List (List ℕ)) (d : ℕ) → length (open_loops a d) ≡ d
unfolding open_loops
open_length a zero = refl
open_length a (suc d) = ap suc (open_length a d)

pub open_outside : (a : List (List ℕ)) (d : ℕ) → outside (open_loops a d) ≡ eqb d 0
unfolding open_loops
open_outside a zero = refl
open_outside a (suc d) = sym (ne_eqb (suc d) 0 (λ e. omega arith))

-- a store at or past the depth changes nothing
pub open_store : (a : List (List ℕ)) (d i : ℕ) (e : List ℕ) → d ≤ i → open_loops (set a i e) d ≡ open_loops a d
unfolding open_loops
open_store a zero i e h = refl
open_store a (suc d) i e h = rw (get_or-set_other a i d e [] (λ q. omega arith), open_store a d i e (omega arith))

-- a store into the innermost entry
pub open_top : (a : List (List ℕ)) (d : ℕ) (e : List ℕ) → d < length a → open_loops (set a d e) (d + 1) ≡ loop_of e ∷ open_loops a d
unfolding open_loops
open_top a d e h = let q : d + 1 ≡ suc d = omega arith in rw (q, get_or-set_same a d e [] h, open_store a d d e (omega arith))

-- ---- whether a loop is among them

pub holds_here : (a : List (List ℕ)) (b k d : ℕ) → k < d → (get_or (get_or a k []) 0 0) ≡ b → holds b (open_loops a d) ≡ true
unfolding open_loops
holds_here a b k zero l e = absurd (omega arith)
holds_here a b k (suc d) l e = elim (ℕ_discrete k d) [
  | yes q ↦ rw (← q, eq-eqb (get_or (get_or a k []) 0 0) b e)
  | no n ↦ rw (holds_here a b k d (omega arith) e) (go (eqb (get_or (get_or a d []) 0 0) b))
]
  where
    go : (x : Bool) → cond x true true ≡ true
    go true = refl
    go false = refl

pub holds_more : (a : List (List ℕ)) (b k : ℕ) → ((get_or (get_or a k []) 0 0) ≡ b → ⊥) → holds b (open_loops a k) ≡ false → holds b (open_loops a (k + 1)) ≡ false
unfolding open_loops
holds_more a b k n h = let q : k + 1 ≡ suc k = omega arith in rw (q, ne_eqb (get_or (get_or a k []) 0 0) b n) h

-- ---- no loop has more ARGs or NEXTs than there are rows

counted_more : (m n : ℕ) (s : List Loop) → m ≤ n → Counted m s → Counted n s
counted_more m n [] h c = tt
counted_more m n (l ∷ s) h c = (omega arith, omega arith, counted_more m n s h c.2)

counted_after : (kind r : ℕ) (s : List Loop) → Counted r s → Counted (suc r) (after kind r s)
unfolding after
counted_after kind r s c = go (eqb kind 4) (eqb kind 5) (eqb kind 6) (eqb kind 7) s c
  where
    go : (b4 b5 b6 b7 : Bool) (s : List Loop) → Counted r s
        → Counted (suc r) (cond b4 (opened r ∷ s) (cond b5 (at_head one_arg s) (cond b6 (at_head one_next s) (cond b7 (outward s) s))))
    go true b5 b6 b7 s c = (omega arith, omega arith, counted_more r (suc r) s (omega arith) c)
    go false true b6 b7 [] c = tt
    go false true b6 b7 (l ∷ s) c = (omega arith, omega arith, counted_more r (suc r) s (omega arith) c.2)
    go false false true b7 [] c = tt
    go false false true b7 (l ∷ s) c = (omega arith, omega arith, counted_more r (suc r) s (omega arith) c.2)
    go false false false true [] c = tt
    go false false false true (l ∷ s) c = counted_more r (suc r) s (omega arith) c.2
    go false false false false s c = counted_more r (suc r) s (omega arith) c

counted_by : (t : List ℕ) (r : ℕ) → Counted r (stack_at t r)
unfolding stack_at
counted_by t zero = tt
counted_by t (suc r) = counted_after (kind_at t r) r (stack_at t r) (counted_by t r)

pub counted_at : (t : List ℕ) (r n : ℕ) → r ≤ n → Counted n (stack_at t r)
counted_at t r n h = counted_more r n (stack_at t r) h (counted_by t r)

pub not_full : (d : ℕ) → not (leb 8 d) ≡ ltb d 8
not_full d = elim (dec_lt d 8) [ yes l ↦ rw (lt-leb 8 d l, lt-ltb d 8 l) | no n ↦ (let h : 8 ≤ d = omega arith in rw (le-leb 8 d h, le-ltb d 8 h)) ]
