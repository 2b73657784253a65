-- The legs of forks: each wire behind the forks is taken once, by a use, a FORK or a DRAIN.
--
--   numbers                           f, f + 1, .. so many numbers
--   standing                          the wires on which the uses of a list stand
--   taking                            the wires that FORKs and DRAINs take
--   one_wires_legs_are_taken_once     of one wire: itself and its new wires
--   each_wire_is_taken_once           of all wires
--   leg_is_new                        a use stands on its wire or on a new one of it
--
-- Idea. Follow the definition of forks: a FORK takes the wire, its first leg goes to the next use, and its second leg is the wire for the
-- rest. Count how often a number x is taken: the sum is that of x among the wire and its new numbers. Add up over all wires; each use
-- belongs to one wire.
-- Assumes nothing.
use Prim.Native.Nat.{ℕ, zero, suc, ◌+◌, ◌≤◌, ◌<◌}
use Rattle.std.specs.Prelude.{◌≡◌, ◌⊎◌, eqb}
use Rattle.std.proofs.Math.Path.{refl, ap}
use Rattle.std.proofs.Common.{ap₂, ◌∙◌, subst, inl, inr, eq-eqb, ne_eqb}
use mathlib.Core.List.{List, [], ◌∷◌, ◌++◌}
use Rattle.std.proofs.Math.Option.{Option, some}
use native.Mathlib.Omega.{arith}
use Rattle.std.proofs.Math.Decide.{ℕ_discrete}
use Rattle.std.proofs.Math.ListN.{length, get_elem?}
use Rattle.word.specs.Words.{flag}
use Rattle.graph.specs.Below.{times, times_append}
use Rattle.graph.specs.Graph.{Node}
use Rattle.lowered.specs.Roles.{Wire, Use, same_wire, same_use}
use Rattle.lowered.specs.Sources.{source}
use Rattle.lowered.specs.Lower.{wires, wire_number, wire_sort, uses, keep_if, reader_of, readers_in, users, fork_rows, fork_wires, leg_by, leg_of, free_at, all_fork_wires, users_each, plain_wires, all_users, stands_by, stands_on, forks_from}
use Rattle.laid.specs.Lists.{Among, Once, position_is}
use Rattle.laid.specs.Listed.{wires_once}
use Rattle.laid.specs.Uses.{users_are, users_once}

-- ---- numbers in a row
abbrev pub numbers : ℕ → ℕ → List ℕ
numbers f zero = []
numbers f (suc m) = f ∷ numbers (suc f) m

pub numbers_join : (f m k : ℕ) → numbers f (m + k) ≡ numbers f m ++ numbers (f + m) k
numbers_join f zero k = ap₂ numbers (let e : f ≡ f + 0 = omega arith in e) (let e : 0 + k ≡ k = omega arith in e)
numbers_join f (suc m) k =
    ap (numbers f) (let e : suc m + k ≡ suc (m + k) = omega arith in e)
    ∙ ap (λ (l : List ℕ). f ∷ l) (numbers_join (suc f) m k ∙ ap (λ (z : ℕ). numbers (suc f) m ++ numbers z k) (let e : suc f + m ≡ f + suc m = omega arith in e))

pub not_below_numbers : (x f m : ℕ) → x < f → times x (numbers f m) ≡ 0
unfolding times
not_below_numbers x f zero h = refl
not_below_numbers x f (suc m) h = rw (ne_eqb x f (λ z. omega arith)) (let r = not_below_numbers x (suc f) m (omega arith) in omega arith)

pub once_in_numbers : (x f m : ℕ) → f ≤ x → x < f + m → times x (numbers f m) ≡ 1
unfolding times
once_in_numbers x f zero a b = absurd (omega arith)
once_in_numbers x f (suc m) a b =
    elim (ℕ_discrete x f) [
      | yes e ↦ rw (eq-eqb x f e) (let r = not_below_numbers x (suc f) m (omega arith) in omega arith)
      | no e ↦ rw (ne_eqb x f e) (let r = once_in_numbers x (suc f) m (omega arith) (omega arith) in omega arith)
    ]

-- ---- lists of numbers, one for each use or node
abbrev pub standing : (Use → ℕ) → List Use → List ℕ
standing on [] = []
standing on (u ∷ us) = on u ∷ standing on us

abbrev pub taking : List Node → List ℕ
taking [] = []
taking (nd ∷ nds) = nd.wire0 ∷ taking nds

pub taking_append : (a b : List Node) → taking (a ++ b) ≡ taking a ++ taking b
taking_append [] b = refl
taking_append (nd ∷ a) b = ap (λ (l : List ℕ). nd.wire0 ∷ l) (taking_append a b)

standing_same : (f g : Use → ℕ) (us : List Use) → ((u : Use) → Among u us → f u ≡ g u) → standing f us ≡ standing g us
standing_same f g [] h = refl
standing_same f g (u ∷ us) h = ap₂ {C = List ℕ} (λ a l. a ∷ l) (h u (inl refl)) (standing_same f g us (λ v m. h v (inr m)))

-- ---- one wire
pub first_leg : (u v : Use) (us : List Use) (x f : ℕ) → leg_of u x (u ∷ v ∷ us) f ≡ f
unfolding leg_of
first_leg u v us x f = go (same_use u u)
  where
    go : (d : Dec (u ≡ u)) → leg_by d f (leg_of u (suc f) (v ∷ us) (suc (suc f))) ≡ f
    go (yes e) = refl
    go (no e) = absurd (e refl)

pub later_leg : (p u v : Use) (us : List Use) (x f : ℕ) → (p ≡ u → ⊥) → leg_of p x (u ∷ v ∷ us) f ≡ leg_of p (suc f) (v ∷ us) (suc (suc f))
unfolding leg_of
later_leg p u v us x f n = go (same_use p u)
  where
    go : (d : Dec (p ≡ u)) → leg_by d f (leg_of p (suc f) (v ∷ us) (suc (suc f))) ≡ leg_of p (suc f) (v ∷ us) (suc (suc f))
    go (yes e) = absurd (n e)
    go (no e) = refl

pub one_wires_legs_are_taken_once : (x s i : ℕ) (us : List Use) (f : ℕ) → Once us
    → times x (standing (λ p. leg_of p i us f) us) + times x (taking (fork_rows s i us f)) ≡ times x (i ∷ []) + times x (numbers f (fork_wires us))
unfolding times leg_of
one_wires_legs_are_taken_once x s i [] f o = omega arith
one_wires_legs_are_taken_once x s i (u ∷ []) f o = refl
one_wires_legs_are_taken_once x s i (u ∷ v ∷ us) f o =
    let ih = one_wires_legs_are_taken_once x s (suc f) (v ∷ us) (suc (suc f)) o.1 in
    let a : leg_of u i (u ∷ v ∷ us) f ≡ f = first_leg u v us i f in
    let b : standing (λ p. leg_of p i (u ∷ v ∷ us) f) (v ∷ us) ≡ standing (λ p. leg_of p (suc f) (v ∷ us) (suc (suc f))) (v ∷ us)
    = standing_same (λ p. leg_of p i (u ∷ v ∷ us) f) (λ p. leg_of p (suc f) (v ∷ us) (suc (suc f))) (v ∷ us)
    (λ p m. later_leg p u v us i f (λ e. o.0 (subst (λ (z : Use). Among z (v ∷ us)) e m))) in
    let c : times x (standing (λ p. leg_of p i (u ∷ v ∷ us) f) (u ∷ v ∷ us)) ≡ flag (eqb x f) + times x (standing (λ p. leg_of p (suc f) (v ∷ us) (suc (suc f))) (v ∷ us))
    = ap₂ (λ (y : ℕ) (l : List ℕ). flag (eqb x y) + times x l) a b in
    omega arith

-- a use stands on its wire, or on a new number
pub leg_is_new : (p : Use) (us : List Use) (x f : ℕ) → Among p us → (leg_of p x us f ≡ x) ⊎ ((f ≤ leg_of p x us f) × (leg_of p x us f < f + fork_wires us))
unfolding leg_of
leg_is_new p [] x f h = absurd h
leg_is_new p (u ∷ []) x f h = inl refl
leg_is_new p (u ∷ v ∷ us) x f h = go (same_use p u) h (leg_is_new p (v ∷ us) (suc f) (suc (suc f)))
  where
    behind : ℕ
    behind = leg_of p (suc f) (v ∷ us) (suc (suc f))

    go : (d : Dec (p ≡ u)) → (p ≡ u) ⊎ Among p (v ∷ us)
        → (Among p (v ∷ us) → (behind ≡ suc f) ⊎ ((suc (suc f) ≤ behind) × (behind < suc (suc f) + fork_wires (v ∷ us))))
        → (leg_by d f behind ≡ x) ⊎ ((f ≤ leg_by d f behind) × (leg_by d f behind < f + suc (suc (fork_wires (v ∷ us)))))
    go (yes e) k ih = inr (omega arith, omega arith)
    go (no e) (inl k) ih = absurd (e k)
    go (no e) (inr k) ih = elim (ih k) [ inl q ↦ inr (omega arith, omega arith) | inr q ↦ (let q0 = q.0 in let q1 = q.1 in inr (omega arith, omega arith)) ]

module _ (t : List ℕ) (x : ℕ) (on : Use → ℕ) where
  -- how often x is stood on by the uses of each of these lists
  abbrev stood : List (List Use) → ℕ
  stood [] = 0
  stood (us ∷ rest) = times x (standing on us) + stood rest

  -- ---- all wires: from wire i on, with free numbers from f on
  wires_taken : (ws : List Wire) (i f : ℕ)
      → ((k : ℕ) (w : Wire) → get_elem? ws k ≡ some w → (p : Use) → Among p (users t w) → on p ≡ leg_of p (i + k) (users t w) (free_at (users_each t ws) f k))
      → stood (users_each t ws) + times x (taking (forks_from t i ws f)) ≡ times x (numbers i (length ws)) + times x (numbers f (all_fork_wires (users_each t ws)))
  unfolding times
  wires_taken [] i f h = refl
  wires_taken (w ∷ ws) i f h =
      let us = users t w in
      let m = fork_wires (users t w) in
      let a = one_wires_legs_are_taken_once x (wire_sort t w) i (users t w) f (users_once t w) in
      let b : standing on (users t w) ≡ standing (λ p. leg_of p i (users t w) f) (users t w)
      = standing_same on (λ p. leg_of p i (users t w) f) (users t w) (λ p q. h 0 w refl p q ∙ ap (λ (z : ℕ). leg_of p z (users t w) f) (let e : i + 0 ≡ i = omega arith in e)) in
      let b' : times x (standing on (users t w)) ≡ times x (standing (λ p. leg_of p i (users t w) f) (users t w)) = ap (times x) b in
      let c = wires_taken ws (suc i) (f + m) (λ k v e p q. h (suc k) v e p q ∙ ap (λ (z : ℕ). leg_of p z (users t v) (free_at (users_each t ws) (f + m) k)) (let e : i + suc k ≡ suc i + k = omega arith in e)) in
      let d : times x (taking (fork_rows (wire_sort t w) i (users t w) f ++ forks_from t (suc i) ws (f + m)))
      ≡ times x (taking (fork_rows (wire_sort t w) i (users t w) f)) + times x (taking (forks_from t (suc i) ws (f + m)))
      = ap (times x) (taking_append (fork_rows (wire_sort t w) i (users t w) f) (forks_from t (suc i) ws (f + m)))
      ∙ times_append x (taking (fork_rows (wire_sort t w) i (users t w) f)) (taking (forks_from t (suc i) ws (f + m))) in
      let e : times x (numbers f (m + all_fork_wires (users_each t ws))) ≡ times x (numbers f m) + times x (numbers (f + m) (all_fork_wires (users_each t ws)))
      = ap (times x) (numbers_join f m (all_fork_wires (users_each t ws))) ∙ times_append x (numbers f m) (numbers (f + m) (all_fork_wires (users_each t ws))) in
      omega arith

  -- ---- each use belongs to one wire
  abbrev read : List Wire → List Use → ℕ
  read [] us = 0
  read (w ∷ ws) us = times x (standing on (readers_in t w us)) + read ws us

  read_none : (ws : List Wire) → read ws [] ≡ 0
  unfolding readers_in times
  read_none [] = refl
  read_none (w ∷ ws) = let r = read_none ws in omega arith

  reader_yes : (w v : Wire) (u : Use) (us : List Use) → v ≡ w → times x (standing on (reader_of w (some v) u us)) ≡ flag (eqb x (on u)) + times x (standing on us)
  unfolding times
  reader_yes w v u us e = go (same_wire v w)
    where
      go : (d : Dec (v ≡ w)) → times x (standing on (keep_if d u us)) ≡ flag (eqb x (on u)) + times x (standing on us)
      go (yes q) = refl
      go (no q) = absurd (q e)

  reader_no : (w v : Wire) (u : Use) (us : List Use) → (v ≡ w → ⊥) → times x (standing on (reader_of w (some v) u us)) ≡ times x (standing on us)
  unfolding times
  reader_no w v u us n = go (same_wire v w)
    where
      go : (d : Dec (v ≡ w)) → times x (standing on (keep_if d u us)) ≡ times x (standing on us)
      go (yes q) = absurd (n q)
      go (no q) = refl

  step_in : (w : Wire) (u : Use) (us : List Use) (v : Wire) → source t u ≡ some v
      → times x (standing on (readers_in t w (u ∷ us))) ≡ times x (standing on (reader_of w (some v) u (readers_in t w us)))
  unfolding readers_in
  step_in w u us v e = ap (λ (o : Option Wire). times x (standing on (reader_of w o u (readers_in t w us)))) e

  read_not : (ws : List Wire) (u : Use) (us : List Use) (v : Wire) → source t u ≡ some v → (Among v ws → ⊥) → read ws (u ∷ us) ≡ read ws us
  read_not [] u us v e n = refl
  read_not (w ∷ ws) u us v e n =
      let a = step_in w u us v e ∙ reader_no w v u (readers_in t w us) (λ q. n (inl q)) in
      let b = read_not ws u us v e (λ q. n (inr q)) in
      omega arith

  read_one : (ws : List Wire) (u : Use) (us : List Use) (v : Wire) → source t u ≡ some v → Once ws → Among v ws → read ws (u ∷ us) ≡ flag (eqb x (on u)) + read ws us
  read_one [] u us v e o h = absurd h
  read_one (w ∷ ws) u us v e o (inl q) =
      let a = step_in w u us v e ∙ reader_yes w v u (readers_in t w us) q in
      let b = read_not ws u us v e (λ m. o.0 (subst (λ (z : Wire). Among z ws) q m)) in
      omega arith
  read_one (w ∷ ws) u us v e o (inr q) =
      let a = step_in w u us v e ∙ reader_no w v u (readers_in t w us) (λ d. o.0 (subst (λ (z : Wire). Among z ws) d q)) in
      let b = read_one ws u us v e o.1 q in
      omega arith

  read_all : (ws : List Wire) → Once ws → (us : List Use) → ((u : Use) → Among u us → (v : Wire) × (source t u ≡ some v) × Among v ws) → read ws us ≡ times x (standing on us)
  unfolding times
  read_all ws o [] h = read_none ws
  read_all ws o (u ∷ us) h =
      let k = h u (inl refl) in
      let a = read_one ws u us k.0 k.1 o k.2 in
      let b = read_all ws o us (λ v m. h v (inr m)) in
      omega arith

  stood_read : (ws : List Wire) → stood (users_each t ws) ≡ read ws (uses t)
  unfolding users
  stood_read [] = refl
  stood_read (w ∷ ws) = let r = stood_read ws in omega arith

-- EVERY WIRE IS TAKEN ONCE
module _ (t : List ℕ) (made : (u : Use) → Among u (uses t) → (v : Wire) × (source t u ≡ some v) × Among v (wires t)) where
  pub stands_by_wire : (k : ℕ) (w : Wire) → get_elem? (wires t) k ≡ some w → (p : Use) → source t p ≡ some w → stands_on t p ≡ leg_of p k (users t w) (free_at (all_users t) (plain_wires t) k)
  unfolding stands_on wire_number
  stands_by_wire k w e p h =
      ap (stands_by t p) h
      ∙ ap (λ (z : ℕ). leg_of p z (users t w) (free_at (all_users t) (plain_wires t) z)) (position_is same_wire w (wires t) k (wires_once t) e)

  pub each_wire_is_taken_once : (x : ℕ) → x < plain_wires t + all_fork_wires (all_users t)
      → times x (standing (stands_on t) (uses t)) + times x (taking (forks_from t 0 (wires t) (plain_wires t))) ≡ 1
  unfolding all_users plain_wires
  each_wire_is_taken_once x h =
      let a = wires_taken t x (stands_on t) (wires t) 0 (length (wires t))
      (λ k w e p m. stands_by_wire k w e p (users_are t w p m).0 ∙ ap (λ (z : ℕ). leg_of p z (users t w) (free_at (users_each t (wires t)) (length (wires t)) k)) (let d : k ≡ 0 + k = omega arith in d)) in
      let b = stood_read t x (stands_on t) (wires t) in
      let c = read_all t x (stands_on t) (wires t) (wires_once t) (uses t) made in
      let d : times x (numbers 0 (length (wires t) + all_fork_wires (users_each t (wires t)))) ≡ times x (numbers 0 (length (wires t))) + times x (numbers (0 + length (wires t)) (all_fork_wires (users_each t (wires t))))
      = ap (times x) (numbers_join 0 (length (wires t)) (all_fork_wires (users_each t (wires t)))) ∙ times_append x (numbers 0 (length (wires t))) (numbers (0 + length (wires t)) (all_fork_wires (users_each t (wires t)))) in
      let e = once_in_numbers x 0 (length (wires t) + all_fork_wires (users_each t (wires t))) (omega arith) (omega arith) in
      let f : times x (numbers (0 + length (wires t)) (all_fork_wires (users_each t (wires t)))) ≡ times x (numbers (length (wires t)) (all_fork_wires (users_each t (wires t))))
      = ap (λ (z : ℕ). times x (numbers z (all_fork_wires (users_each t (wires t))))) (let q : 0 + length (wires t) ≡ length (wires t) = omega arith in q) in
      omega arith
