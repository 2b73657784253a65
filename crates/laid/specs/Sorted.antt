-- The sorts of a lowered table's wires: each wire has the sort of its value, and so have the legs behind it.
--
--   sorts_are         the sorts that the graph reads are those of the wires, then of each wire's new wires
--   stands_sorted     the wire of a use has the sort of its source
--
-- Assumes nothing.
use Prim.Native.Nat.{ℕ, zero, suc, ◌+◌, ◌-◌, ◌≤◌, ◌<◌}
use Rattle.std.specs.Prelude.{◌≡◌, take}
use Rattle.std.proofs.Math.Path.{refl, sym, ap, ap₂, subst}
use Rattle.std.proofs.Common.{◌∙◌, inl, inr}
use mathlib.Core.List.{List, [], ◌∷◌, ◌++◌, append_assoc}
use Rattle.std.proofs.Math.Option.{some}
use native.Mathlib.Omega.{arith}
use Rattle.std.proofs.Math.ListN.{length, get_or, get_elem?, replicate, get_or-append, get_or-replicate, length-replicate}
use Rattle.std.proofs.Math.Seq.{get_or-append-add}
use Rattle.step.specs.Kinds.{outputs, out0, out1}
use Rattle.graph.specs.Below.{joined}
use Rattle.graph.specs.Graph.{Node, node_at, output_sorts, wire_sorts, sort_at}
use Rattle.structure.specs.Structure.{Structure}
use Rattle.lowered.specs.Gathered.{each}
use Rattle.lowered.specs.Roles.{Role, Wire, start, output, Use}
use Rattle.lowered.specs.Sources.{source}
use Rattle.lowered.specs.Lower.{roles, role_kind, start_rows, starts, outputs_by, role_outputs, wires, wire_number, wire_sort, uses, users, fork_rows, fork_wires, free_at, users_each, plain_wires, all_users, stands_on, nodes_from, forks_from, lowered_nodes, node_total, start_total, lowered_words}
use Rattle.laid.specs.Lists.{Among, in_range, none_some}
use Rattle.laid.specs.Indexed.{joined_same, joined_along, each_append}
use Rattle.laid.specs.Uses.{users_has}
use Rattle.laid.specs.Legs.{leg_is_new, stands_by_wire}
use Rattle.laid.specs.Taken.{made, number_at, free_low}
use Rattle.laid.specs.Words.{node_in_list, nodes_are_counted, node_count_lem, start_count_lem}

-- what is left behind m
behind : (l m : ℕ) → m ≤ l → (n : ℕ) × (l ≡ m + n)
behind l m h = (l - m, omega arith)

module _ (t : List ℕ) where
  abbrev sorts : List Wire → List ℕ
  sorts [] = []
  sorts (w ∷ ws) = wire_sort t w ∷ sorts ws

  sorts_append : (a b : List Wire) → sorts (a ++ b) ≡ sorts a ++ sorts b
  sorts_append [] b = refl
  sorts_append (w ∷ a) b = ap (λ (l : List ℕ). wire_sort t w ∷ l) (sorts_append a b)

  sorts_long : (ws : List Wire) → length (sorts ws) ≡ length ws
  sorts_long [] = refl
  sorts_long (w ∷ ws) = ap suc (sorts_long ws)

  sort_at_lem : (ws : List Wire) (k : ℕ) (w : Wire) → get_elem? ws k ≡ some w → get_or (sorts ws) k 0 ≡ wire_sort t w
  sort_at_lem [] k w h = none_some w h
  sort_at_lem (v ∷ ws) zero w h = let e : v ≡ w = cc in ap (wire_sort t) e
  sort_at_lem (v ∷ ws) (suc k) w h = sort_at_lem ws k w h

  abbrev sorting : Node → List ℕ
  sorting nd = output_sorts (some nd)

  -- ---- starts
  starts_sorted : (rs : List ℕ) → sorts (each (λ r. start r ∷ []) rs) ≡ replicate (length rs) 0
  unfolding each
  starts_sorted [] = refl
  starts_sorted (r ∷ rs) = ap (λ (l : List ℕ). 0 ∷ l) (starts_sorted rs)

  -- ---- nodes
  outputs_sorted : (n : Role) (k : ℕ) → sorts (outputs_by n k) ≡ take k (wire_sort t (output n out0) ∷ wire_sort t (output n out1) ∷ [])
  outputs_sorted n zero = refl
  outputs_sorted n (suc zero) = refl
  outputs_sorted n (suc (suc zero)) = refl
  outputs_sorted n (suc (suc (suc k))) = refl

  roles_sorted : (f : ℕ) (ns : List Role) → each sorting (nodes_from t f ns) ≡ sorts (each (role_outputs t) ns)
  unfolding each
  roles_sorted f [] = refl
  roles_sorted f (n ∷ ns) =
      ap₂ {C = List ℕ} (λ a b. a ++ b) (sym (outputs_sorted n (outputs (role_kind t n)))) (roles_sorted (f + outputs (role_kind t n)) ns)
      ∙ sym (sorts_append (role_outputs t n) (each (role_outputs t) ns))

  -- ---- forks: so many new wires of the wire's sort
  abbrev new_sorts : Wire → List ℕ
  new_sorts w = replicate (fork_wires (users t w)) (wire_sort t w)

  fork_sorted : (s x : ℕ) (us : List Use) (f : ℕ) → each sorting (fork_rows s x us f) ≡ replicate (fork_wires us) s
  unfolding each
  fork_sorted s x [] f = refl
  fork_sorted s x (u ∷ []) f = refl
  fork_sorted s x (u ∷ v ∷ us) f = ap (λ (l : List ℕ). s ∷ s ∷ l) (fork_sorted s (suc f) (v ∷ us) (suc (suc f)))

  forks_sorted : (x : ℕ) (ws : List Wire) (f : ℕ) → each sorting (forks_from t x ws f) ≡ each new_sorts ws
  unfolding each
  forks_sorted x [] f = refl
  forks_sorted x (w ∷ ws) f =
      each_append sorting (fork_rows (wire_sort t w) x (users t w) f) (forks_from t (suc x) ws (f + fork_wires (users t w)))
      ∙ ap₂ {C = List ℕ} (λ a b. a ++ b) (fork_sorted (wire_sort t w) x (users t w) f) (forks_sorted (suc x) ws (f + fork_wires (users t w)))

  pub sorts_are : wire_sorts (lowered_words t) ≡ sorts (wires t) ++ each new_sorts (wires t)
  unfolding wire_sorts lowered_nodes wires starts start_total
  sorts_are =
      ap₂ {C = List ℕ} (λ s n. replicate s 0 ++ joined (λ i. output_sorts (node_at (lowered_words t) i)) n) (start_count_lem t) (node_count_lem t)
      ∙ ap₂ {C = List ℕ} (λ a b. a ++ b) (sym (starts_sorted (start_rows t)))
      (joined_same (λ i. output_sorts (node_at (lowered_words t) i)) (λ i. output_sorts (get_elem? (lowered_nodes t) i)) (node_total t) (λ i l. ap output_sorts (node_in_list t i l))
      ∙ ap (joined (λ i. output_sorts (get_elem? (lowered_nodes t) i))) (sym (nodes_are_counted t))
      ∙ joined_along output_sorts (lowered_nodes t)
      ∙ each_append sorting (nodes_from t (length (starts t)) (roles t)) (forks_from t 0 (wires t) (plain_wires t))
      ∙ ap₂ {C = List ℕ} (λ a b. a ++ b) (roles_sorted (length (starts t)) (roles t)) (forks_sorted 0 (wires t) (plain_wires t)))
      ∙ sym (append_assoc (sorts (starts t)) (sorts (each (role_outputs t) (roles t))) (each new_sorts (wires t)))
      ∙ ap (λ (l : List ℕ). l ++ each new_sorts (wires t)) (sym (sorts_append (starts t) (each (role_outputs t) (roles t))))

  -- the j-th new wire of wire k, with free numbers from f on, is the l-th of all new wires
  new_sort : (ws : List Wire) (k f j l : ℕ) (w : Wire) → get_elem? ws k ≡ some w → j < fork_wires (users t w) → f + l ≡ free_at (users_each t ws) f k + j → get_or (each new_sorts ws) l 0 ≡ wire_sort t w
  unfolding each
  new_sort [] k f j l w h b e = none_some w h
  new_sort (v ∷ ws) zero f j l w h b e =
      let d : w ≡ v = cc in
      let b' : j < fork_wires (users t v) = subst (λ (z : Wire). j < fork_wires (users t z)) d b in
      let q : l ≡ j = omega arith in
      let r = length-replicate (fork_wires (users t v)) (wire_sort t v) in
      ap (λ (n : ℕ). get_or (new_sorts v ++ each new_sorts ws) n 0) q
      ∙ get_or-append (new_sorts v) (each new_sorts ws) 0 j (omega arith)
      ∙ get_or-replicate (fork_wires (users t v)) j (wire_sort t v) 0 b'
      ∙ ap (wire_sort t) (sym d)
  new_sort (v ∷ ws) (suc k) f j l w h b e =
      let m = fork_wires (users t v) in
      let low = free_low (users_each t ws) (f + fork_wires (users t v)) k in
      let r = length-replicate (fork_wires (users t v)) (wire_sort t v) in
      let n = behind l (fork_wires (users t v)) (omega arith) in
      let q : l ≡ length (new_sorts v) + n.0 = omega (arith, n.1) in
      ap (λ (z : ℕ). get_or (new_sorts v ++ each new_sorts ws) z 0) q
      ∙ get_or-append-add (new_sorts v) (each new_sorts ws) n.0 0
      ∙ new_sort ws k (f + fork_wires (users t v)) j n.0 w h b (omega (arith, n.1))

  pub wire_sorted : (k : ℕ) (w : Wire) → get_elem? (wires t) k ≡ some w → sort_at (lowered_words t) k ≡ wire_sort t w
  wire_sorted k w h =
      let b = in_range (wires t) k w h in
      let s = sorts_long (wires t) in
      ap (λ (l : List ℕ). get_or l k 0) sorts_are
      ∙ get_or-append (sorts (wires t)) (each new_sorts (wires t)) 0 k (omega arith)
      ∙ sort_at_lem (wires t) k w h

  pub new_wire_sorted : (k j x : ℕ) (w : Wire) → get_elem? (wires t) k ≡ some w → j < fork_wires (users t w) → x ≡ free_at (all_users t) (plain_wires t) k + j → sort_at (lowered_words t) x ≡ wire_sort t w
  unfolding all_users plain_wires
  new_wire_sorted k j x w h b e =
      let low = free_low (users_each t (wires t)) (length (wires t)) k in
      let s = sorts_long (wires t) in
      let n = behind x (length (wires t)) (omega arith) in
      ap (λ (l : List ℕ). get_or l x 0) sorts_are
      ∙ ap (λ (z : ℕ). get_or (sorts (wires t) ++ each new_sorts (wires t)) z 0) (let q : x ≡ length (sorts (wires t)) + n.0 = omega (arith, n.1) in q)
      ∙ get_or-append-add (sorts (wires t)) (each new_sorts (wires t)) n.0 0
      ∙ new_sort (wires t) k (length (wires t)) j n.0 w h b (omega (arith, n.1))

module _ (t : List ℕ) (S : Structure t) where
  pub stands_sorted : (u : Use) (w : Wire) → Among u (uses t) → source t u ≡ some w → sort_at (lowered_words t) (stands_on t u) ≡ wire_sort t w
  stands_sorted u w h e =
      let m = made t S u h in
      let d : m.0 ≡ w = cc in
      let at = number_at t S w (subst (λ (z : Wire). Among z (wires t)) d m.2) in
      let k = wire_number t w in
      let free = free_at (all_users t) (plain_wires t) (wire_number t w) in
      let s = stands_by_wire t (made t S) (wire_number t w) w at u e in
      elim (leg_is_new u (users t w) (wire_number t w) (free_at (all_users t) (plain_wires t) (wire_number t w)) (users_has t w u h e)) [
        | inl q ↦ ap (sort_at (lowered_words t)) (s ∙ q) ∙ wire_sorted t (wire_number t w) w at
        | inr q ↦ new (s) q.0 q.1 at
      ]
    where
      new : {x : ℕ} → stands_on t u ≡ x → free_at (all_users t) (plain_wires t) (wire_number t w) ≤ x → x < free_at (all_users t) (plain_wires t) (wire_number t w) + fork_wires (users t w)
          → get_elem? (wires t) (wire_number t w) ≡ some w → sort_at (lowered_words t) (stands_on t u) ≡ wire_sort t w
      new {x} s low high at =
          let n = behind x (free_at (all_users t) (plain_wires t) (wire_number t w)) low in
          new_wire_sorted t (wire_number t w) n.0 (stands_on t u) w at (omega (arith, n.1)) (s ∙ n.1)
