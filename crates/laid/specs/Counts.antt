-- Forks counted: the wire on which a use stands follows from numbers alone: its source, how many uses that has, and how many of them came
-- before.
--
--   source_number, use_wires      the number of each use's source, in the order of uses
--   leg_at                        the leg of the j-th of k uses
--   leg_by_number                 `leg_of` is `leg_at`
--   users_are_counted             a wire's uses are as often as its number stands in `use_wires`
--   free_is_a_running_sum         the free numbers are a running sum over the wires before
--   stands_by_numbers             the wire of a use, by counting
--   wire_total_by_numbers, node_total_by_numbers      the counts that ROOM asks for
--   fork_nodes_by_number, fork_wires_by_number
--
-- Assumes nothing.
use Prim.Native.Nat.{ℕ, zero, suc, ◌+◌, ◌-◌, ◌*◌, ◌≤◌, ◌<◌}
use Rattle.std.specs.Prelude.{◌≡◌, eqb, leb, ltb}
use Rattle.std.proofs.Math.Path.{refl, ap}
use Rattle.std.proofs.Common.{sym, ap₂, ◌∙◌, subst, inl, inr, eq-eqb, ne_eqb, lt-ltb, le-ltb}
use Rattle.std.proofs.Math.Bool.{cond}
use mathlib.Core.List.{List, [], ◌∷◌, ◌++◌}
use Rattle.std.proofs.Math.Option.{Option, none, some}
use native.Mathlib.Omega.{arith}
use Rattle.std.proofs.Math.Decide.{dec_lt}
use Rattle.std.proofs.lemmas.Bool.{lt-leb}
use Rattle.std.proofs.Math.ListN.{length, get_elem?}
use Rattle.word.specs.Words.{flag}
use Rattle.graph.specs.Below.{total, times}
use Rattle.structure.specs.Structure.{Structure}
use Rattle.lowered.specs.Roles.{Wire, Use, same_wire}
use Rattle.lowered.specs.Sources.{source}
use Rattle.lowered.specs.Lower.{wires, wire_number, uses, keep_if, reader_of, readers_in, users, fork_wires, fork_nodes, leg_of, free_at, all_fork_wires, all_fork_nodes, users_each, plain_nodes, plain_wires, all_users, stands_on, node_total, wire_total}
use Rattle.laid.specs.Lists.{Among, Once, among_left, among_right, there, none_some, in_range, elem_right, at_position, position_is}
use Rattle.laid.specs.Indexed.{total_first}
use Rattle.laid.specs.Listed.{wires_once}
use Rattle.laid.specs.Uses.{users_once}
use Rattle.laid.specs.Legs.{standing, first_leg, later_leg, stands_by_wire}
use Rattle.laid.specs.Taken.{made, number_at}

-- ---- legs by number
unfoldable pub leg_at : ℕ → ℕ → ℕ → ℕ → ℕ
leg_at x f k j = cond (leb k 1) x (cond (ltb (suc j) k) (f + 2 * j) (f + 2 * (k - 2) + 1))

leg_of_one : (x f : ℕ) → leg_at x f 1 0 ≡ x
unfolding leg_at
leg_of_one x f = refl

leg_first : (x f k : ℕ) → leg_at x f (suc (suc k)) 0 ≡ f
unfolding leg_at
leg_first x f k = rw (lt-leb (suc (suc k)) 1 (omega arith), lt-ltb 1 (suc (suc k)) (omega arith)) (omega arith)

leg_later : (x f k i : ℕ) → i < suc k → leg_at (suc f) (suc (suc f)) (suc k) i ≡ leg_at x f (suc (suc k)) (suc i)
unfolding leg_at
leg_later x f zero zero l = omega arith
leg_later x f zero (suc i) l = absurd (omega arith)
leg_later x f (suc k) i l =
    elim (dec_lt (suc i) (suc (suc k))) [
      | yes p ↦ rw (lt-leb (suc (suc k)) 1 (omega arith), lt-leb (suc (suc (suc k))) 1 (omega arith), lt-ltb (suc i) (suc (suc k)) p, lt-ltb (suc (suc i)) (suc (suc (suc k))) (omega arith)) (omega arith)
      | no p ↦ rw (lt-leb (suc (suc k)) 1 (omega arith), lt-leb (suc (suc (suc k))) 1 (omega arith), le-ltb (suc i) (suc (suc k)) (omega arith), le-ltb (suc (suc i)) (suc (suc (suc k))) (omega arith)) (omega arith)
    ]

pub leg_by_number : (us : List Use) (j : ℕ) (u : Use) (x f : ℕ) → Once us → get_elem? us j ≡ some u → leg_of u x us f ≡ leg_at x f (length us) j
unfolding leg_of
leg_by_number [] j u x f o h = none_some u h
leg_by_number (v ∷ []) zero u x f o h = sym (leg_of_one x f)
leg_by_number (v ∷ []) (suc j) u x f o h = none_some u h
leg_by_number (v ∷ w ∷ us) zero u x f o h = let e : v ≡ u = cc in ap (λ (z : Use). leg_of u x (z ∷ w ∷ us) f) e ∙ first_leg u w us x f ∙ sym (leg_first x f (length us))
leg_by_number (v ∷ w ∷ us) (suc j) u x f o h =
    later_leg u v w us x f (λ e. o.0 (subst (λ (z : Use). Among z (w ∷ us)) e (there (w ∷ us) j u h)))
    ∙ leg_by_number (w ∷ us) j u (suc f) (suc (suc f)) o.1 h
    ∙ leg_later x f (length us) j (let l = in_range (w ∷ us) j u h in l)

pub fork_wires_by_number : (us : List Use) → fork_wires us ≡ 2 * (length us - 1)
fork_wires_by_number [] = refl
fork_wires_by_number (u ∷ []) = refl
fork_wires_by_number (u ∷ v ∷ us) = let r = fork_wires_by_number (v ∷ us) in omega arith

pub fork_nodes_by_number : (us : List Use) → fork_nodes us ≡ cond (eqb (length us) 0) 1 (length us - 1)
fork_nodes_by_number [] = refl
fork_nodes_by_number (u ∷ []) = refl
fork_nodes_by_number (u ∷ v ∷ us) = go (length us) (fork_nodes_by_number (v ∷ us))
  where
    go : (k : ℕ) → fork_nodes (v ∷ us) ≡ cond (eqb (suc k) 0) 1 (suc k - 1) → suc (fork_nodes (v ∷ us)) ≡ cond (eqb (suc (suc k)) 0) 1 (suc (suc k) - 1)
    go k h = rw (ne_eqb (suc (suc k)) 0 (λ z. omega arith)) (let h' : fork_nodes (v ∷ us) ≡ suc k - 1 = rw (ne_eqb (suc k) 0 (λ z. omega arith)) at h in omega arith)

-- ---- sources by number
module _ (t : List ℕ) where
  abbrev pub number_of : Option Wire → ℕ
  number_of none = 0
  number_of (some w) = wire_number t w

  unfoldable pub source_number : Use → ℕ
  source_number u = number_of (source t u)

  unfoldable pub use_wires : List ℕ
  use_wires = standing source_number (uses t)

  number_of_lem : (k : ℕ) (w : Wire) → get_elem? (wires t) k ≡ some w → wire_number t w ≡ k
  unfolding wire_number
  number_of_lem k w h = position_is same_wire w (wires t) k (wires_once t) h

  at_number : (v : Wire) → Among v (wires t) → get_elem? (wires t) (wire_number t v) ≡ some v
  unfolding wire_number
  at_number v a = at_position same_wire v (wires t) a

  -- the uses of wire k among some uses are as many as its number among their sources
  readers_counted : (k : ℕ) (w : Wire) → get_elem? (wires t) k ≡ some w → (us : List Use) → ((u : Use) → Among u us → (v : Wire) × (source t u ≡ some v) × Among v (wires t))
      → length (readers_in t w us) ≡ times k (standing source_number us)
  unfolding readers_in times source_number
  readers_counted k w h [] m = refl
  readers_counted k w h (u ∷ us) m =
      let s = m u (inl refl) in
      let r = readers_counted k w h us (λ v q. m v (inr q)) in
      let a : length (reader_of w (source t u) u (readers_in t w us)) ≡ length (reader_of w (some s.0) u (readers_in t w us)) = ap (λ (o : Option Wire). length (reader_of w o u (readers_in t w us))) s.1 in
      let b : number_of (source t u) ≡ wire_number t s.0 = ap number_of s.1 in
      let c : length (reader_of w (some s.0) u (readers_in t w us)) ≡ flag (eqb k (wire_number t s.0)) + length (readers_in t w us) = one s.0 s.2 (same_wire s.0 w) in
      let d : flag (eqb k (number_of (source t u))) ≡ flag (eqb k (wire_number t s.0)) = ap (λ (n : ℕ). flag (eqb k n)) b in
      omega arith
    where
      one : (v : Wire) → Among v (wires t) → (d : Dec (v ≡ w)) → length (keep_if d u (readers_in t w us)) ≡ flag (eqb k (wire_number t v)) + length (readers_in t w us)
      one v a (yes e) = rw (eq-eqb k (wire_number t v) (sym (ap (wire_number t) e ∙ number_of_lem k w h))) (omega arith)
      one v a (no n) = rw (ne_eqb k (wire_number t v) (λ z. n (same v a z))) (omega arith)
        where
          same : (v : Wire) → Among v (wires t) → k ≡ wire_number t v → v ≡ w
          same v a z =
              let e : get_elem? (wires t) (wire_number t v) ≡ some v = at_number v a in
              let d : get_elem? (wires t) k ≡ some v = ap (get_elem? (wires t)) z ∙ e in
              cc

  -- ---- the free numbers are a running sum
  abbrev pub fork_sum : ℕ → ℕ
  fork_sum k = 2 * (times k use_wires - 1)

  free_from_lem : (ws : List Wire) (f i : ℕ) (c : ℕ → ℕ) → i ≤ length ws → ((k : ℕ) (w : Wire) → get_elem? ws k ≡ some w → fork_wires (users t w) ≡ c k) → free_at (users_each t ws) f i ≡ f + total c i
  unfolding total
  free_from_lem [] f zero c l h = omega arith
  free_from_lem [] f (suc i) c l h = absurd (omega arith)
  free_from_lem (w ∷ ws) f zero c l h = omega arith
  free_from_lem (w ∷ ws) f (suc i) c l h =
      let a = h 0 w refl in
      let r = free_from_lem ws (f + fork_wires (users t w)) i (λ k. c (suc k)) (omega arith) (λ k v e. h (suc k) v e) in
      let q = total_first c i in
      omega arith

  -- ---- where a use stands among the uses of its wire
  readers_append : (w : Wire) (a b : List Use) → readers_in t w (a ++ b) ≡ readers_in t w a ++ readers_in t w b
  unfolding readers_in
  readers_append w [] b = refl
  readers_append w (u ∷ a) b = go (source t u) (readers_append w a b)
    where
      go : (o : Option Wire) → readers_in t w (a ++ b) ≡ readers_in t w a ++ readers_in t w b → reader_of w o u (readers_in t w (a ++ b)) ≡ reader_of w o u (readers_in t w a) ++ readers_in t w b
      go none e = e
      go (some x) e = two (same_wire x w)
        where
          two : (d : Dec (x ≡ w)) → keep_if d u (readers_in t w (a ++ b)) ≡ keep_if d u (readers_in t w a) ++ readers_in t w b
          two (yes q) = ap (λ (l : List Use). u ∷ l) e
          two (no q) = e

  reader_first : (w : Wire) (u : Use) (b : List Use) → source t u ≡ some w → readers_in t w (u ∷ b) ≡ u ∷ readers_in t w b
  unfolding readers_in
  reader_first w u b h = ap (λ (o : Option Wire). reader_of w o u (readers_in t w b)) h ∙ go (same_wire w w)
    where
      go : (d : Dec (w ≡ w)) → keep_if d u (readers_in t w b) ≡ u ∷ readers_in t w b
      go (yes e) = refl
      go (no e) = absurd (e refl)

  use_place : (w : Wire) (a b : List Use) (u : Use) → uses t ≡ a ++ (u ∷ b) → source t u ≡ some w → get_elem? (users t w) (length (readers_in t w a)) ≡ some u
  unfolding users
  use_place w a b u e h =
      let z : length (readers_in t w a) + 0 ≡ length (readers_in t w a) = omega arith in
      ap (λ (us : List Use). get_elem? (readers_in t w us) (length (readers_in t w a))) e
      ∙ ap (λ (us : List Use). get_elem? us (length (readers_in t w a))) (readers_append w a (u ∷ b) ∙ ap (λ (l : List Use). readers_in t w a ++ l) (reader_first w u b h))
      ∙ ap (get_elem? (readers_in t w a ++ (u ∷ readers_in t w b))) (sym z)
      ∙ elem_right (readers_in t w a) (u ∷ readers_in t w b) 0

module _ (t : List ℕ) (S : Structure t) where
  pub users_are_counted : (k : ℕ) (w : Wire) → get_elem? (wires t) k ≡ some w → length (users t w) ≡ times k (use_wires t)
  unfolding users use_wires
  users_are_counted k w h = readers_counted t k w h (uses t) (made t S)

  pub free_is_a_running_sum : (i : ℕ) → i ≤ plain_wires t → free_at (all_users t) (plain_wires t) i ≡ plain_wires t + total (fork_sum t) i
  unfolding all_users plain_wires
  free_is_a_running_sum i l =
      free_from_lem t (wires t) (length (wires t)) i (fork_sum t) l
      (λ k w h. fork_wires_by_number (users t w) ∙ ap (λ (n : ℕ). 2 * (n - 1)) (users_are_counted k w h))

  pub source_number_lem : (u : Use) (w : Wire) → source t u ≡ some w → source_number t u ≡ wire_number t w
  unfolding source_number
  source_number_lem u w h = ap (number_of t) h

  plain_low : {k : ℕ} → k < length (wires t) → k ≤ plain_wires t
  unfolding plain_wires
  plain_low h = omega arith

  -- THE WIRE OF A USE, BY COUNTING: its source k, all uses of k, and those before this one
  pub stands_by_numbers : (a b : List Use) (u : Use) → uses t ≡ a ++ (u ∷ b)
      → stands_on t u ≡ leg_at (source_number t u) (plain_wires t + total (fork_sum t) (source_number t u)) (times (source_number t u) (use_wires t)) (times (source_number t u) (standing (source_number t) a))
  stands_by_numbers a b u e =
      let here : Among u (uses t) = subst (Among u) (sym e) (among_right u a (u ∷ b) (inl refl)) in
      let m = made t S u here in
      let k = wire_number t m.0 in
      let at = number_at t S m.0 m.2 in
      let low = in_range (wires t) (wire_number t m.0) m.0 at in
      let n : source_number t u ≡ wire_number t m.0 = source_number_lem u m.0 m.1 in
      let before = readers_counted t (wire_number t m.0) m.0 at a (λ v q. made t S v (subst (Among v) (sym e) (among_left v a (u ∷ b) q))) in
      let place = use_place t m.0 a b u e m.1 in
      let leg : stands_on t u ≡ leg_at (wire_number t m.0) (plain_wires t + total (fork_sum t) (wire_number t m.0)) (times (wire_number t m.0) (use_wires t)) (times (wire_number t m.0) (standing (source_number t) a))
      = stands_by_wire t (made t S) (wire_number t m.0) m.0 at u m.1
      ∙ leg_by_number (users t m.0) (length (readers_in t m.0 a)) u (wire_number t m.0) (free_at (all_users t) (plain_wires t) (wire_number t m.0)) (users_once t m.0) place
      ∙ ap (λ (f : ℕ). leg_at (wire_number t m.0) f (length (users t m.0)) (length (readers_in t m.0 a))) (free_is_a_running_sum (wire_number t m.0) (plain_low low))
      ∙ ap₂ (λ (x y : ℕ). leg_at (wire_number t m.0) (plain_wires t + total (fork_sum t) (wire_number t m.0)) x y) (users_are_counted (wire_number t m.0) m.0 at) before in
      subst (λ (z : ℕ). stands_on t u ≡ leg_at z (plain_wires t + total (fork_sum t) z) (times z (use_wires t)) (times z (standing (source_number t) a))) (sym n) leg

  -- ---- the totals, which give ROOM before a word is written
  abbrev pub fork_count : ℕ → ℕ
  fork_count k = cond (eqb (times k (use_wires t)) 0) 1 (times k (use_wires t) - 1)

  wires_from : (ws : List Wire) (c : ℕ → ℕ) → ((k : ℕ) (w : Wire) → get_elem? ws k ≡ some w → fork_wires (users t w) ≡ c k) → all_fork_wires (users_each t ws) ≡ total c (length ws)
  unfolding total
  wires_from [] c h = refl
  wires_from (w ∷ ws) c h =
      let a = h 0 w refl in
      let r = wires_from ws (λ k. c (suc k)) (λ k v e. h (suc k) v e) in
      let q = total_first c (length ws) in
      omega arith

  nodes_from_lem : (ws : List Wire) (c : ℕ → ℕ) → ((k : ℕ) (w : Wire) → get_elem? ws k ≡ some w → fork_nodes (users t w) ≡ c k) → all_fork_nodes (users_each t ws) ≡ total c (length ws)
  unfolding total
  nodes_from_lem [] c h = refl
  nodes_from_lem (w ∷ ws) c h =
      let a = h 0 w refl in
      let r = nodes_from_lem ws (λ k. c (suc k)) (λ k v e. h (suc k) v e) in
      let q = total_first c (length ws) in
      omega arith

  pub wire_total_by_numbers : wire_total t ≡ plain_wires t + total (fork_sum t) (plain_wires t)
  unfolding wire_total all_users plain_wires
  wire_total_by_numbers =
      ap (λ (n : ℕ). length (wires t) + n)
      (wires_from (wires t) (fork_sum t) (λ k w h. fork_wires_by_number (users t w) ∙ ap (λ (n : ℕ). 2 * (n - 1)) (users_are_counted k w h)))

  pub node_total_by_numbers : node_total t ≡ plain_nodes t + total fork_count (plain_wires t)
  unfolding node_total all_users plain_wires
  node_total_by_numbers =
      ap (λ (n : ℕ). plain_nodes t + n)
      (nodes_from_lem (wires t) fork_count (λ k w h. fork_nodes_by_number (users t w) ∙ ap (λ (n : ℕ). cond (eqb n 0) 1 (n - 1)) (users_are_counted k w h)))
