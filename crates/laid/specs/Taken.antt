-- What the nodes and results of a lowered table take: every wire once, none past the last.
--
--   read_once_lem     a wire below W is read once
--   stands_below      the wire of a use is below W
--
-- Assumes nothing.
use Prim.Native.Nat.{ℕ, zero, suc, ◌+◌, ◌≤◌, ◌<◌}
use Rattle.std.specs.Prelude.{◌≡◌, Bool, true, false, length}
use Rattle.std.proofs.Math.Path.{refl, sym, ap, ap₂}
use Rattle.std.proofs.Common.{◌∙◌}
use Rattle.std.proofs.Math.Logic.{inl, inr}
use mathlib.Core.List.{List, [], ◌∷◌, ◌++◌}
use Rattle.std.proofs.Math.Option.{Option, none, some}
use native.Mathlib.Omega.{arith}
use Rattle.std.proofs.Math.ListN.{get_elem?}
use Rattle.word.specs.Words.{pick}
use Rattle.step.specs.Kinds.{outputs, Input, in0, in1, in2}
use Rattle.graph.specs.Below.{joined, times, times_append}
use Rattle.graph.specs.Graph.{Node, node_at, result_at, has_input, listed, node_reads, results, reads}
use Rattle.table.specs.Rows.{size}
use Rattle.structure.specs.Structure.{Structure}
use Rattle.lowered.specs.Gathered.{each}
use Rattle.lowered.specs.Roles.{Role, Wire, Use, into, result, same_wire}
use Rattle.lowered.specs.Sources.{Feed, value, inner, nothing, role_feed, wire_of, source}
use Rattle.lowered.specs.Lower.{roles, role_kind, wires, wire_number, wire_sort, taken, use_if, role_uses, is_out, out_rows, uses, users, fork_rows, fork_wires, free_at, all_fork_wires, users_each, plain_wires, all_users, starts, stands_on, role_node, nodes_from, forks_from, lowered_nodes, node_total, wire_total, result_total, lowered_words}
use Rattle.laid.specs.Lists.{Among, those_from, at_position, in_range, has_elem, none_some}
use Rattle.laid.specs.Indexed.{joined_same, joined_along, each_append}
use Rattle.laid.specs.Listed.{Real, listed_role_is_real, made_wire_is_listed}
use Rattle.laid.specs.Uses.{listed_use_reads, users_has}
use Rattle.laid.specs.Made.{is_fed, takes_where_it_has_a_place, node_feed, result_feed, source_is_made}
use Rattle.laid.specs.Legs.{standing, taking, taking_append, leg_is_new, stands_by_wire, each_wire_is_taken_once}
use Rattle.laid.specs.Words.{node_in_list, nodes_are_counted, node_count_lem, result_count_lem, result_at_lem}

standing_append : (on : Use → ℕ) (a b : List Use) → standing on (a ++ b) ≡ standing on a ++ standing on b
standing_append on [] b = refl
standing_append on (u ∷ a) b = ap (λ (l : List ℕ). on u ∷ l) (standing_append on a b)

-- ---- free numbers
pub free_low : (uss : List (List Use)) (f i : ℕ) → f ≤ free_at uss f i
free_low [] f i = omega arith
free_low (us ∷ uss) f zero = omega arith
free_low (us ∷ uss) f (suc i) = let r = free_low uss (f + fork_wires us) i in omega arith

pub free_high : (t : List ℕ) (ws : List Wire) (f i : ℕ) (w : Wire) → get_elem? ws i ≡ some w → free_at (users_each t ws) f i + fork_wires (users t w) ≤ f + all_fork_wires (users_each t ws)
free_high t [] f i w h = none_some w h
free_high t (v ∷ ws) f zero w h = let e : v ≡ w = cc in let d : fork_wires (users t v) ≡ fork_wires (users t w) = ap (λ (z : Wire). fork_wires (users t z)) e in omega arith
free_high t (v ∷ ws) f (suc i) w h = let r = free_high t ws (f + fork_wires (users t v)) i w h in omega arith

module _ (t : List ℕ) (S : Structure t) where
  -- ---- every use has a wire of the list
  pub made : (u : Use) → Among u (uses t) → (v : Wire) × (source t u ≡ some v) × Among v (wires t)
  made u h =
      let r = listed_use_reads t u h in
      (r.wire, r.from, made_wire_is_listed t r.wire (source_is_made t S u r.wire h r.from))

  pub number_at : (w : Wire) → Among w (wires t) → get_elem? (wires t) (wire_number t w) ≡ some w
  unfolding wire_number
  number_at w m = at_position same_wire w (wires t) m

  pub stands_below : (u : Use) → Among u (uses t) → stands_on t u < wire_total t
  unfolding wire_total plain_wires all_users
  stands_below u h =
      let m = made u h in
      let k = wire_number t m.0 in
      let e : get_elem? (wires t) (wire_number t m.0) ≡ some m.0 = number_at m.0 m.2 in
      let low = in_range (wires t) (wire_number t m.0) m.0 e in
      let s = stands_by_wire t made (wire_number t m.0) m.0 e u m.1 in
      let high = free_high t (wires t) (length (wires t)) (wire_number t m.0) m.0 e in
      elim (leg_is_new u (users t m.0) (wire_number t m.0) (free_at (users_each t (wires t)) (length (wires t)) (wire_number t m.0)) (users_has t m.0 u h m.1)) [
        | inl q ↦ omega arith
        | inr q ↦ (let q1 = q.1 in omega arith)
      ]

  -- ---- what one node takes
  some_feed : (f : Feed) → is_fed t f ≡ true → (w : Wire) × (wire_of t f ≡ some w)
  some_feed (value v B) h = (_, refl)
  some_feed (inner w) h = (w, refl)
  some_feed nothing h = let z : ◌≡◌ {A = ℕ} 0 1 = cc in absurd (omega arith)

  no_feed : (f : Feed) → is_fed t f ≡ false → wire_of t f ≡ none
  no_feed (value v B) h = let z : ◌≡◌ {A = ℕ} 0 1 = cc in absurd (omega arith)
  no_feed (inner w) h = let z : ◌≡◌ {A = ℕ} 0 1 = cc in absurd (omega arith)
  no_feed nothing h = refl

  pub present : (n : Role) (k : Input) → Real t n → has_input (role_kind t n) k ≡ true → (w : Wire) × (source t (into n k) ≡ some w)
  present n k l h =
      let f = some_feed (role_feed t n k) (takes_where_it_has_a_place t n k l.there ∙ h) in
      (f.0, node_feed t n k l.there ∙ f.1)

  pub missing : (n : Role) (k : Input) → Real t n → has_input (role_kind t n) k ≡ false → source t (into n k) ≡ none
  missing n k l h = node_feed t n k l.there ∙ no_feed (role_feed t n k) (takes_where_it_has_a_place t n k l.there ∙ h)

  place_reads : (n : Role) (k : Input) → Real t n → (b : Bool) → has_input (role_kind t n) k ≡ b
      → listed (pick b (some (stands_on t (into n k))) none) ≡ standing (stands_on t) (use_if t (into n k))
  place_reads n k l true h = let p = present n k l h in sym (ap (λ (o : Option Wire). standing (stands_on t) (taken o (into n k))) p.1)
  place_reads n k l false h = sym (ap (λ (o : Option Wire). standing (stands_on t) (taken o (into n k))) (missing n k l h))

  node_takes : (f : ℕ) (n : Role) → Real t n → node_reads (some (role_node t f n)) ≡ standing (stands_on t) (role_uses t n)
  node_takes f n l =
      ap₂ {C = List ℕ} (λ a b. a ++ b) (place_reads n in0 l (has_input (role_kind t n) in0) refl)
      (ap₂ {C = List ℕ} (λ a b. a ++ b) (place_reads n in1 l (has_input (role_kind t n) in1) refl) (place_reads n in2 l (has_input (role_kind t n) in2) refl)
      ∙ sym (standing_append (stands_on t) (use_if t (into n in1)) (use_if t (into n in2))))
      ∙ sym (standing_append (stands_on t) (use_if t (into n in0)) (use_if t (into n in1) ++ use_if t (into n in2)))

  abbrev reading : Node → List ℕ
  reading nd = node_reads (some nd)

  roles_take : (f : ℕ) (ns : List Role) → ((n : Role) → Among n ns → Real t n) → each reading (nodes_from t f ns) ≡ standing (stands_on t) (each (role_uses t) ns)
  unfolding each
  roles_take f [] h = refl
  roles_take f (n ∷ ns) h =
      ap₂ {C = List ℕ} (λ a b. a ++ b) (node_takes f n (h n (inl refl))) (roles_take (f + outputs (role_kind t n)) ns (λ m q. h m (inr q)))
      ∙ sym (standing_append (stands_on t) (role_uses t n) (each (role_uses t) ns))

  fork_takes : (s x : ℕ) (us : List Use) (f : ℕ) → each reading (fork_rows s x us f) ≡ taking (fork_rows s x us f)
  unfolding each
  fork_takes s x [] f = refl
  fork_takes s x (u ∷ []) f = refl
  fork_takes s x (u ∷ v ∷ us) f = ap (λ (l : List ℕ). x ∷ l) (fork_takes s (suc f) (v ∷ us) (suc (suc f)))

  forks_take : (x : ℕ) (ws : List Wire) (f : ℕ) → each reading (forks_from t x ws f) ≡ taking (forks_from t x ws f)
  unfolding each
  forks_take x [] f = refl
  forks_take x (w ∷ ws) f =
      let a = fork_rows (wire_sort t w) x (users t w) f in
      let b = forks_from t (suc x) ws (f + fork_wires (users t w)) in
      each_append reading (fork_rows (wire_sort t w) x (users t w) f) (forks_from t (suc x) ws (f + fork_wires (users t w)))
      ∙ ap₂ {C = List ℕ} (λ a b. a ++ b) (fork_takes (wire_sort t w) x (users t w) f) (forks_take (suc x) ws (f + fork_wires (users t w)))
      ∙ sym (taking_append (fork_rows (wire_sort t w) x (users t w) f) (forks_from t (suc x) ws (f + fork_wires (users t w))))

  results_take : (qs : List ℕ) → ((q : ℕ) → Among q qs → is_out t q ≡ true) → each (λ q. stands_on t (result q) ∷ []) qs ≡ standing (stands_on t) (each (λ q. use_if t (result q)) qs)
  unfolding each
  results_take [] h = refl
  results_take (q ∷ qs) h =
      ap₂ {C = List ℕ} (λ a b. a ++ b) (sym (ap (λ (o : Option Wire). standing (stands_on t) (taken o (result q))) (result_feed t q (h q (inl refl))))) (results_take qs (λ r m. h r (inr m)))
      ∙ sym (standing_append (stands_on t) (use_if t (result q)) (each (λ q. use_if t (result q)) qs))

  -- ---- all that is read
  node_part_lem : joined (λ i. node_reads (node_at (lowered_words t) i)) (node_total t) ≡ standing (stands_on t) (each (role_uses t) (roles t)) ++ taking (forks_from t 0 (wires t) (plain_wires t))
  unfolding lowered_nodes
  node_part_lem =
      joined_same (λ i. node_reads (node_at (lowered_words t) i)) (λ i. node_reads (get_elem? (lowered_nodes t) i)) (node_total t) (λ i l. ap node_reads (node_in_list t i l))
      ∙ ap (joined (λ i. node_reads (get_elem? (lowered_nodes t) i))) (sym (nodes_are_counted t))
      ∙ joined_along node_reads (lowered_nodes t)
      ∙ each_append reading (nodes_from t (length (starts t)) (roles t)) (forks_from t 0 (wires t) (plain_wires t))
      ∙ ap₂ {C = List ℕ} (λ a b. a ++ b) (roles_take (length (starts t)) (roles t) (listed_role_is_real t)) (forks_take 0 (wires t) (plain_wires t))

  pub out_row : (q : ℕ) → Among q (out_rows t) → (q < size t) × (is_out t q ≡ true)
  unfolding out_rows
  out_row q h = those_from (is_out t) (size t) q h

  result_part_lem : results (lowered_words t) (result_total t) ≡ standing (stands_on t) (each (λ q. use_if t (result q)) (out_rows t))
  unfolding result_total
  result_part_lem =
      joined_same (λ k. result_at (lowered_words t) k ∷ []) (λ k. shown (get_elem? (out_rows t) k)) (length (out_rows t)) at
      ∙ joined_along shown (out_rows t)
      ∙ results_take (out_rows t) (λ q h. (out_row q h).1)
    where
      shown : Option ℕ → List ℕ
      shown none = []
      shown (some q) = stands_on t (result q) ∷ []

      at : (k : ℕ) → k < length (out_rows t) → result_at (lowered_words t) k ∷ [] ≡ shown (get_elem? (out_rows t) k)
      at k l = let h = has_elem (out_rows t) k l in ap (λ (x : ℕ). x ∷ []) (result_at_lem t k h.0 h.1) ∙ ap shown (sym h.1)

  pub read_once_lem : (x : ℕ) → x < wire_total t → times x (reads (lowered_words t)) ≡ 1
  unfolding reads uses wire_total
  read_once_lem x h =
      let R = results (lowered_words t) (result_total t) in
      let N = joined (λ i. node_reads (node_at (lowered_words t) i)) (node_total t) in
      let A = standing (stands_on t) (each (role_uses t) (roles t)) in
      let F = taking (forks_from t 0 (wires t) (plain_wires t)) in
      let B = standing (stands_on t) (each (λ q. use_if t (result q)) (out_rows t)) in
      let counts : reads (lowered_words t) ≡ (A ++ F) ++ B
      = ap₂ {C = List ℕ} (λ n r. joined (λ i. node_reads (node_at (lowered_words t) i)) n ++ results (lowered_words t) r) (node_count_lem t) (result_count_lem t)
      ∙ ap₂ {C = List ℕ} (λ a b. a ++ b) node_part_lem result_part_lem in
      let a : times x (reads (lowered_words t)) ≡ times x A + times x F + times x B
      = ap (times x) counts ∙ times_append x (A ++ F) B ∙ ap (λ (n : ℕ). n + times x B) (times_append x A F) in
      let b : times x (standing (stands_on t) (uses t)) ≡ times x A + times x B
      = ap (times x) (standing_append (stands_on t) (each (role_uses t) (roles t)) (each (λ q. use_if t (result q)) (out_rows t))) ∙ times_append x A B in
      let c = each_wire_is_taken_once t made x h in
      omega arith
