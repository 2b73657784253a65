-- THE LOWERED WORDS LAY OUT THE TABLE: every node, wire and use of the table stands at its number, and the forks and drains behind.
--
--   role_node_lem             a role's node is in the graph's words, at the role's place
--   output_wire               its outputs are numbered as the wires are listed
--   fork_node_lem             so are the FORKs and DRAINs of each wire
--   layout                    the graph's words are a layout of the table
--   laid                      and there is nothing else in them
--
-- Assumes nothing.
use Rattle.std.proofs.Math.Path.{◌≡◌, refl, sym, ap, ap₂, subst}
use Rattle.std.proofs.Common.{◌∙◌, eq-eqb, ne_eqb, lt-ltb, length-append}
use Rattle.std.specs.Prelude.{◌⊎◌, Bool, true, false, cond}
use Rattle.std.proofs.Math.Logic.{inl, inr}
use Rattle.std.proofs.Math.Option.{Option, none, some}
use mathlib.Core.List.{List, [], ◌∷◌, ◌++◌}
use Prim.Native.Nat.{ℕ, zero, suc, ◌+◌, ◌*◌, ◌≤◌, ◌<◌}
use native.Mathlib.Omega.{arith}
use Rattle.std.proofs.Math.Decide.{ℕ_discrete, dec_lt}
use Rattle.std.proofs.Math.ListN.{length, get_elem?}
use Rattle.step.specs.Kinds.{Kind, Input, in0, in1, in2, Output, out0, out1, outputs}
use Rattle.step.specs.Firing.{View, Effect, perform}
use Rattle.step.specs.Machines.{step, program}
use Rattle.step.specs.Kinds
use Rattle.graph.specs.Graph.{Node, node_at, node_count, wire_count, input_of, output_of, output_place, has_input, wire_on}
use Rattle.graph.specs.Refusal.{graph_refusal}
use Rattle.graph.specs.Accepted.{node_in_range}
use Rattle.state.specs.Net.{step_at, net_of}
use Rattle.confluence.specs.Graphs.{accepted_is_wired}
use Rattle.table.specs.Rows.{kind_at, word}
use Rattle.table.specs.Bodies.{Row, input, const, op, pick, for, arg, next, end, out, unknown}
use Rattle.structure.specs.Structure.{Structure}
use Rattle.lowered.specs.Gathered.{each, position}
use Rattle.lowered.specs.Lists.{Among}
use Rattle.lowered.specs.Roles.{Role, same_role, op_node, stream, gate, guard, copy_split, copy_invariant, carry, arg_split, Wire, same_wire, output, Use, into}
use Rattle.lowered.specs.Sources.{source}
use Rattle.lowered.specs.Lower.{roles, role_kind, role_code, role_outputs, outputs_by, starts, wires, wire_number, wire_sort, users, fork_rows, fork_wires, fork_nodes, leg_of, free_at, all_fork_wires, all_fork_nodes, users_each, plain_nodes, plain_wires, all_users, stands_by, stands_on, role_node, nodes_from, forks_from, lowered_nodes, node_total, wire_total, lowered_words}
use Rattle.laid.specs.Lists.{in_range, has_elem, there, elem_left, elem_right, at_position, position_is}
use Rattle.laid.specs.Listed.{roles_once, listed_role_is_real, real_role_is_listed, listed_wire_is_made, made_wire_is_listed, wires_once}
use Rattle.laid.specs.Uses.{users_are, users_has, users_once}
use Rattle.laid.specs.Made.{source_is_made}
use Rattle.laid.specs.Taken.{present, missing}
use Rattle.laid.specs.Words.{node_count_lem, wire_count_lem, node_at_lem}
use Rattle.laid.specs.Listed
use Rattle.uses.specs.Wires.{Spread, below, nodes}
use Rattle.uses.specs.Layout.{Layout, Made, wire_if, Tree}
use Rattle.faithful.specs.Table.{Table, program_of, plan}
use Rattle.faithful.proofs.Sources.{source_is, to_real, from_real, use_is_listed, to_made, from_made, has_out}
use Rattle.faithful.specs.Legs.{up_from, up_from_range, Placed, tails, fork_rows_long, tails_range, tails_once, spread_built, fork_at, free_low, free_high, free_apart, free_all, fork_all, fork_shift, placed_among, place_there, placed_is, placed_tree, placed_inj}
use Rattle.faithful.specs.Finish.{Laid}
use Rattle.faithful.specs.Table
use Rattle.faithful.specs.Tables

-- two elements at one place are the same
pub same_place : {A : Type 0} (same : (a b : A) → Dec (a ≡ b)) (a b : A) (xs : List A) → Among a xs → Among b xs → position same a xs ≡ position same b xs → a ≡ b
same_place same a b xs m k e =
    let p : some a ≡ some b = sym (at_position same a xs m) ∙ ap (get_elem? xs) e ∙ at_position same b xs k in
    cc

plus0 : (f : ℕ) → f ≡ f + 0
plus0 f = omega arith

module _ (t : List ℕ) where
  -- ---- uses, wire by wire
  users_at : (ws : List Wire) (i : ℕ) (w : Wire) → get_elem? ws i ≡ some w → get_elem? (users_each t ws) i ≡ some (users t w)
  users_at [] i w h = let z : ◌≡◌ {A = ℕ} 0 1 = cc in absurd (omega arith)
  users_at (v ∷ ws) zero w h = let e : v ≡ w = cc in ap (λ (z : Wire). some (users t z)) e
  users_at (v ∷ ws) (suc i) w h = users_at ws i w h

  users_from : (ws : List Wire) (i : ℕ) (us : List Use) → get_elem? (users_each t ws) i ≡ some us → (w : Wire) × (get_elem? ws i ≡ some w) × (us ≡ users t w)
  users_from [] i us h = let z : ◌≡◌ {A = ℕ} 0 1 = cc in absurd (omega arith)
  users_from (v ∷ ws) zero us h = (v, refl, cc)
  users_from (v ∷ ws) (suc i) us h = users_from ws i us h

  -- ---- nodes by place
  nodes_long : (f : ℕ) (ns : List Role) → length (nodes_from t f ns) ≡ length ns
  nodes_long f [] = refl
  nodes_long f (n ∷ ns) = ap suc (nodes_long (f + outputs (role_kind t n)) ns)

  forks_long : (x : ℕ) (ws : List Wire) (f : ℕ) → length (forks_from t x ws f) ≡ all_fork_nodes (users_each t ws)
  forks_long x [] f = refl
  forks_long x (w ∷ ws) f =
      length-append (fork_rows (wire_sort t w) x (users t w) f) (forks_from t (suc x) ws (f + fork_wires (users t w)))
      ∙ ap₂ (λ (a b : ℕ). a + b) (fork_rows_long (wire_sort t w) x (users t w) f) (forks_long (suc x) ws (f + fork_wires (users t w)))

  forks_at : (ws : List Wire) (x f i : ℕ) (w : Wire) → get_elem? ws i ≡ some w → (k : ℕ) (nd : Node)
      → get_elem? (fork_rows (wire_sort t w) (x + i) (users t w) (free_at (users_each t ws) f i)) k ≡ some nd → get_elem? (forks_from t x ws f) (fork_at (users_each t ws) 0 i + k) ≡ some nd
  forks_at [] x f i w h k nd e = let z : ◌≡◌ {A = ℕ} 0 1 = cc in absurd (omega arith)
  forks_at (v ∷ ws) x f zero w h k nd e =
      let d : w ≡ v = cc in
      let e1 : get_elem? (fork_rows (wire_sort t v) (x + 0) (users t v) f) k ≡ some nd = subst (λ (z : Wire). get_elem? (fork_rows (wire_sort t z) (x + 0) (users t z) f) k ≡ some nd) d e in
      let e2 : get_elem? (fork_rows (wire_sort t v) x (users t v) f) k ≡ some nd = subst (λ (z : ℕ). get_elem? (fork_rows (wire_sort t v) z (users t v) f) k ≡ some nd) (let c : x + 0 ≡ x = omega arith in c) e1 in
      subst (λ (z : ℕ). get_elem? (forks_from t x (v ∷ ws) f) z ≡ some nd) (let c : k ≡ 0 + k = omega arith in c)
      (elem_left (fork_rows (wire_sort t v) x (users t v) f) (forks_from t (suc x) ws (f + fork_wires (users t v))) k nd e2)
  forks_at (v ∷ ws) x f (suc i) w h k nd e =
      let e1 : get_elem? (fork_rows (wire_sort t w) (suc x + i) (users t w) (free_at (users_each t ws) (f + fork_wires (users t v)) i)) k ≡ some nd
      = subst (λ (z : ℕ). get_elem? (fork_rows (wire_sort t w) z (users t w) (free_at (users_each t ws) (f + fork_wires (users t v)) i)) k ≡ some nd) (let c : x + suc i ≡ suc x + i = omega arith in c) e in
      let ih = forks_at ws (suc x) (f + fork_wires (users t v)) i w h k nd e1 in
      let ln = fork_rows_long (wire_sort t v) x (users t v) f in
      let sh : fork_at (users_each t ws) (fork_nodes (users t v) + 0) i ≡ fork_nodes (users t v) + fork_at (users_each t ws) 0 i = fork_shift (users_each t ws) 0 (fork_nodes (users t v)) i in
      let sh2 : fork_at (users_each t ws) (0 + fork_nodes (users t v)) i ≡ fork_nodes (users t v) + fork_at (users_each t ws) 0 i
      = ap (λ (z : ℕ). fork_at (users_each t ws) z i) (let c : 0 + fork_nodes (users t v) ≡ fork_nodes (users t v) + 0 = omega arith in c) ∙ sh in
      subst (λ (z : ℕ). get_elem? (forks_from t x (v ∷ ws) f) z ≡ some nd)
      (let c : length (fork_rows (wire_sort t v) x (users t v) f) + (fork_at (users_each t ws) 0 i + k) ≡ fork_at (users_each t ws) (0 + fork_nodes (users t v)) i + k = omega arith in c)
      (elem_right (fork_rows (wire_sort t v) x (users t v) f) (forks_from t (suc x) ws (f + fork_wires (users t v))) (fork_at (users_each t ws) 0 i + k) ∙ ih)

  -- the number of a node's first output
  abbrev pub first_at : List Role → ℕ → ℕ → ℕ
  first_at [] f i = f
  first_at (n ∷ ns) f zero = f
  first_at (n ∷ ns) f (suc i) = first_at ns (f + outputs (role_kind t n)) i

  nodes_at : (ns : List Role) (f i : ℕ) (n : Role) → get_elem? ns i ≡ some n → get_elem? (nodes_from t f ns) i ≡ some (role_node t (first_at ns f i) n)
  nodes_at [] f i n h = let z : ◌≡◌ {A = ℕ} 0 1 = cc in absurd (omega arith)
  nodes_at (m ∷ ns) f zero n h = let e : m ≡ n = cc in ap (λ (z : Role). some (role_node t f z)) e
  nodes_at (m ∷ ns) f (suc i) n h = nodes_at ns (f + outputs (role_kind t m)) i n h

  first_shift : (ns : List Role) (c f i : ℕ) → first_at ns (c + f) i ≡ c + first_at ns f i
  first_shift [] c f i = refl
  first_shift (n ∷ ns) c f zero = refl
  first_shift (n ∷ ns) c f (suc i) = ap (λ (z : ℕ). first_at ns z i) (let e : c + f + outputs (role_kind t n) ≡ c + (f + outputs (role_kind t n)) = omega arith in e) ∙ first_shift ns c (f + outputs (role_kind t n)) i

  own_output : (n : Role) (k : ℕ) (o : Output) → output_place o < k → get_elem? (outputs_by n k) (output_place o) ≡ some (output n o)
  own_output n zero o h = absurd (omega arith)
  own_output n (suc zero) out0 h = refl
  own_output n (suc zero) out1 h = absurd (omega arith)
  own_output n (suc (suc k)) out0 h = refl
  own_output n (suc (suc k)) out1 h = refl

  outputs_long : (n : Role) (k : ℕ) → k ≤ 2 → length (outputs_by n k) ≡ k
  outputs_long n zero l = refl
  outputs_long n (suc zero) l = refl
  outputs_long n (suc (suc zero)) l = refl
  outputs_long n (suc (suc (suc k))) l = absurd (omega arith)

  at_most_two : (κ : Kind) → outputs κ ≤ 2
  at_most_two Kinds.STREAM = omega arith
  at_most_two Kinds.GATE = omega arith
  at_most_two Kinds.CARRY = omega arith
  at_most_two Kinds.INVARIANT = omega arith
  at_most_two Kinds.SPLIT = omega arith
  at_most_two Kinds.FORK = omega arith
  at_most_two Kinds.DRAIN = omega arith
  at_most_two Kinds.OP = omega arith
  at_most_two Kinds.PICK = omega arith

  outputs_at : (ns : List Role) (i : ℕ) (n : Role) (o : Output) → output_place o < outputs (role_kind t n) → get_elem? ns i ≡ some n → get_elem? (each (role_outputs t) ns) (first_at ns 0 i + output_place o) ≡ some (output n o)
  unfolding each
  outputs_at [] i n o k h = let z : ◌≡◌ {A = ℕ} 0 1 = cc in absurd (omega arith)
  outputs_at (m ∷ ns) zero n o k h =
      let e : n ≡ m = cc in
      subst (λ (z : ℕ). get_elem? (role_outputs t m ++ each (role_outputs t) ns) z ≡ some (output n o)) (let c : output_place o ≡ 0 + output_place o = omega arith in c)
      (elem_left (role_outputs t m) (each (role_outputs t) ns) (output_place o) (output n o) (subst (λ (z : Role). get_elem? (role_outputs t z) (output_place o) ≡ some (output n o)) e (own_output n (outputs (role_kind t n)) o k)))
  outputs_at (m ∷ ns) (suc i) n o k h =
      let ih = outputs_at ns i n o k h in
      let ln : length (role_outputs t m) ≡ outputs (role_kind t m) = outputs_long m (outputs (role_kind t m)) (at_most_two (role_kind t m)) in
      let sh : first_at ns (outputs (role_kind t m) + 0) i ≡ outputs (role_kind t m) + first_at ns 0 i = first_shift ns (outputs (role_kind t m)) 0 i in
      let sh2 : first_at ns (0 + outputs (role_kind t m)) i ≡ outputs (role_kind t m) + first_at ns 0 i = ap (λ (z : ℕ). first_at ns z i) (let c : 0 + outputs (role_kind t m) ≡ outputs (role_kind t m) + 0 = omega arith in c) ∙ sh in
      subst (λ (z : ℕ). get_elem? (role_outputs t m ++ each (role_outputs t) ns) z ≡ some (output n o)) (let c : length (role_outputs t m) + (first_at ns 0 i + output_place o) ≡ first_at ns (0 + outputs (role_kind t m)) i + output_place o = omega arith in c)
      (elem_right (role_outputs t m) (each (role_outputs t) ns) (first_at ns 0 i + output_place o) ∙ ih)

module _ (t : List ℕ) (S : Structure t) where
  abbrev tb : Table
  tb = Tables.table_of t

  abbrev pub num : Role → ℕ
  num n = position same_role n (roles t)

  abbrev pub first_of : Role → ℕ
  first_of n = first_at t (roles t) (length (starts t)) (num n)

  pub role_listed : (n : Role) → Table.Real tb n → Among n (roles t)
  role_listed n rl = real_role_is_listed t n (to_real t S n rl)

  wire_listed : (w : Wire) → Made (plan tb) w → Among w (wires t)
  wire_listed w m = made_wire_is_listed t w (to_made t S w m)

  -- ---- nodes
  pub role_node_lem : (n : Role) → Table.Real tb n → node_at (lowered_words t) (num n) ≡ some (role_node t (first_of n) n)
  unfolding lowered_nodes
  role_node_lem n rl =
      node_at_lem t (num n) (role_node t (first_of n) n)
      (elem_left (nodes_from t (length (starts t)) (roles t)) (forks_from t 0 (wires t) (plain_wires t)) (num n) (role_node t (first_of n) n)
      (nodes_at t (roles t) (length (starts t)) (num n) n (at_position same_role n (roles t) (role_listed n rl))))

  pub wire_at_lem : (w : Wire) → Made (plan tb) w → get_elem? (wires t) (wire_number t w) ≡ some w
  unfolding wire_number
  wire_at_lem w m = at_position same_wire w (wires t) (wire_listed w m)

  pub number_is : (w : Wire) (i : ℕ) → get_elem? (wires t) i ≡ some w → wire_number t w ≡ i
  unfolding wire_number
  number_is w i h = position_is same_wire w (wires t) i (wires_once t) h

  pub number_below : (w : Wire) → Made (plan tb) w → wire_number t w < plain_wires t
  unfolding plain_wires
  number_below w m = in_range (wires t) (wire_number t w) w (wire_at_lem w m)

  abbrev free : Wire → ℕ
  free w = free_at (all_users t) (plain_wires t) (wire_number t w)

  abbrev pub tail : Wire → List ℕ
  tail w = tails (users t w) (free w)

  abbrev pub forks : Wire → List ℕ
  forks w = up_from (plain_nodes t + fork_at (all_users t) 0 (wire_number t w)) (fork_nodes (users t w))

  users_there : (w : Wire) → Made (plan tb) w → get_elem? (all_users t) (wire_number t w) ≡ some (users t w)
  unfolding all_users
  users_there w m = users_at t (wires t) (wire_number t w) w (wire_at_lem w m)

  fork_node_lem : (w : Wire) → Made (plan tb) w → (k : ℕ) (nd : Node) → get_elem? (fork_rows (wire_sort t w) (wire_number t w) (users t w) (free w)) k ≡ some nd
      → node_at (lowered_words t) (plain_nodes t + fork_at (all_users t) 0 (wire_number t w) + k) ≡ some nd
  unfolding lowered_nodes all_users plain_nodes plain_wires
  fork_node_lem w m k nd e =
      let f = forks_at t (wires t) 0 (length (wires t)) (wire_number t w) w (wire_at_lem w m) k nd
      (subst (λ (z : ℕ). get_elem? (fork_rows (wire_sort t w) z (users t w) (free_at (users_each t (wires t)) (length (wires t)) (wire_number t w))) k ≡ some nd) (let c : wire_number t w ≡ 0 + wire_number t w = omega arith in c) e) in
      let ln = nodes_long t (length (starts t)) (roles t) in
      node_at_lem t (length (roles t) + fork_at (users_each t (wires t)) 0 (wire_number t w) + k) nd
      (subst (λ (z : ℕ). get_elem? (nodes_from t (length (starts t)) (roles t) ++ forks_from t 0 (wires t) (length (wires t))) z ≡ some nd)
      (let c : length (nodes_from t (length (starts t)) (roles t)) + (fork_at (users_each t (wires t)) 0 (wire_number t w) + k) ≡ length (roles t) + fork_at (users_each t (wires t)) 0 (wire_number t w) + k = omega arith in c)
      (elem_right (nodes_from t (length (starts t)) (roles t)) (forks_from t 0 (wires t) (length (wires t))) (fork_at (users_each t (wires t)) 0 (wire_number t w) + k) ∙ f))

  -- ---- uses
  stands : (p : Use) (w : Wire) → source t p ≡ some w → stands_on t p ≡ leg_of p (wire_number t w) (users t w) (free w)
  unfolding stands_on
  stands p w h = ap (stands_by t p) h

  pub use_made : (p : Use) (w : Wire) → source t p ≡ some w → Made (plan tb) w
  use_made p w h = from_made t S w (source_is_made t S p w (use_is_listed t S p w h) h)

  pub placed : (p : Use) (w : Wire) → source t p ≡ some w → Placed p (stands_on t p) (wire_number t w) (users t w) (free w)
  placed p w h =
      subst (λ (z : ℕ). Placed p z (wire_number t w) (users t w) (free w)) (sym (stands p w h))
      (place_there p (wire_number t w) (users t w) (free w) (users_has t w p (use_is_listed t S p w h) h))

  -- ---- trees
  pub tail_range : (w : Wire) → Made (plan tb) w → (x : ℕ) → Among x (tail w) → (plain_wires t ≤ x) × (x < plain_wires t + all_fork_wires (all_users t))
  tail_range w m x h =
      let r = tails_range (users t w) (free w) x h in
      let lo = free_low (all_users t) (plain_wires t) (wire_number t w) in
      let hi = free_high (all_users t) (plain_wires t) (wire_number t w) (users t w) (users_there w m) in
      let r0 = r.0 in let r1 = r.1 in
      (omega arith, omega arith)

  same_wire_lem : (w u : Wire) → Made (plan tb) w → Made (plan tb) u → wire_number t w ≡ wire_number t u → w ≡ u
  unfolding wire_number
  same_wire_lem w u m k e = same_place same_wire w u (wires t) (wire_listed w m) (wire_listed u k) e

  apart_tails : (w u : Wire) → Made (plan tb) w → Made (plan tb) u → (x : ℕ) → Among x (tail w) → Among x (tail u) → w ≡ u
  apart_tails w u m k x h j =
      let a = tails_range (users t w) (free w) x h in
      let b = tails_range (users t u) (free u) x j in
      let a0 = a.0 in let a1 = a.1 in let b0 = b.0 in let b1 = b.1 in
      elim (ℕ_discrete (wire_number t w) (wire_number t u)) [
        | yes e ↦ same_wire_lem w u m k e
        | no e ↦ elim (dec_lt (wire_number t w) (wire_number t u)) [
          | yes l ↦ let z = free_apart (all_users t) (plain_wires t) (wire_number t w) (wire_number t u) (users t w) (users_there w m) l in absurd (omega arith)
          | no l ↦ let z = free_apart (all_users t) (plain_wires t) (wire_number t u) (wire_number t w) (users t u) (users_there u k) (omega arith) in absurd (omega arith)
        ]
      ]

  pub apart_trees : (w u : Wire) → Made (plan tb) w → Made (plan tb) u → (x : ℕ) → Among x (wire_number t w ∷ tail w) → Among x (wire_number t u ∷ tail u) → w ≡ u
  apart_trees w u m k x (inl e) (inl d) = same_wire_lem w u m k (sym e ∙ d)
  apart_trees w u m k x (inl e) (inr d) = let a = number_below w m in let b = tail_range u k x d in let b0 = b.0 in absurd (omega arith)
  apart_trees w u m k x (inr e) (inl d) = let a = number_below u k in let b = tail_range w m x e in let b0 = b.0 in absurd (omega arith)
  apart_trees w u m k x (inr e) (inr d) = apart_tails w u m k x e d

  pub forks_spread : (w : Wire) → Made (plan tb) w
      → (s : Spread (net_of (lowered_words t)) (stands_on t) (wire_number t w) (users t w)) × (below (net_of (lowered_words t)) (stands_on t) s ≡ tail w) × (nodes (net_of (lowered_words t)) (stands_on t) s ≡ forks w)
  forks_spread w m =
      spread_built (lowered_words t) (stands_on t) (wire_sort t w) (wire_number t w) (users t w) (free w) (plain_nodes t + fork_at (all_users t) 0 (wire_number t w)) (fork_node_lem w m)
      (λ p y h. stands p w (users_are t w p (placed_among p y (wire_number t w) (users t w) (free w) h)).0 ∙ placed_is p y (wire_number t w) (users t w) (free w) (users_once t w) h)

  -- ---- what a role's node says
  pub input_says : (n : Role) (f : ℕ) (k : Input) → Listed.Real t n → input_of (some (role_node t f n)) k ≡ wire_if (source t (into n k)) (stands_on t (into n k))
  input_says n f k rl = go (has_input (role_kind t n) k) refl
    where
      wire : (k : Input) → wire_on (role_node t f n) k ≡ stands_on t (into n k)
      wire in0 = refl
      wire in1 = refl
      wire in2 = refl

      go : (b : Bool) → has_input (role_kind t n) k ≡ b → input_of (some (role_node t f n)) k ≡ wire_if (source t (into n k)) (stands_on t (into n k))
      go true e = let p = present t S n k rl e in rw (e, p.1) (ap some (wire k))
      go false e = let p = missing t S n k rl e in rw (e, p)

  pub output_says : (n : Role) (f : ℕ) (o : Output) → output_place o < outputs (role_kind t n) → output_of (some (role_node t f n)) o ≡ some (f + output_place o)
  output_says n f o h = rw (lt-ltb (output_place o) (outputs (role_kind t n)) h)

  pub output_wire : (n : Role) → Table.Real tb n → (o : Output) → output_place o < outputs (role_kind t n) → first_of n + output_place o ≡ wire_number t (output n o)
  unfolding wires
  output_wire n rl o h =
      let oa = outputs_at t (roles t) (num n) n o h (at_position same_role n (roles t) (role_listed n rl)) in
      let sh : first_at t (roles t) (length (starts t) + 0) (num n) ≡ length (starts t) + first_at t (roles t) 0 (num n) = first_shift t (roles t) (length (starts t)) 0 (num n) in
      let sh2 : first_at t (roles t) (length (starts t)) (num n) ≡ length (starts t) + first_at t (roles t) 0 (num n) = ap (λ (z : ℕ). first_at t (roles t) z (num n)) (plus0 (length (starts t))) ∙ sh in
      let e : get_elem? (starts t ++ each (role_outputs t) (roles t)) (length (starts t) + (first_at t (roles t) 0 (num n) + output_place o)) ≡ some (output n o)
      = elem_right (starts t) (each (role_outputs t) (roles t)) (first_at t (roles t) 0 (num n) + output_place o) ∙ oa in
      let ix = number_is (output n o) (length (starts t) + (first_at t (roles t) 0 (num n) + output_place o)) e in
      omega arith

  -- ---- what a role's node does
  op_does : (d : Row) (r : ℕ) → tb.row r ≡ d → Table.is_op tb d ≡ true → (v : View) → step (role_kind t (op_node r)) (role_code t (op_node r)) v ≡ perform (Table.op_program d v.own) v
  unfolding step
  op_does (op c x y) r q h v =
      let w = Tables.op_words t S r c x y q in
      ap (λ (b : Bool). perform (program (cond b Kinds.OP Kinds.PICK) (cond b (word t r 1) 0) v.own) v) (eq-eqb (kind_at t r) 2 w.1) ∙ ap (λ (z : ℕ). perform (program Kinds.OP z v.own) v) w.2
  op_does (pick f x y) r q h v =
      let w = Tables.pick_words t S r f x y q in
      ap (λ (b : Bool). perform (program (cond b Kinds.OP Kinds.PICK) (cond b (word t r 1) 0) v.own) v) (ne_eqb (kind_at t r) 2 (λ z. let k = w.1 in omega arith))
  op_does input r q h v = let z : ◌≡◌ {A = ℕ} 0 1 = cc in absurd (omega arith)
  op_does (const x) r q h v = let z : ◌≡◌ {A = ℕ} 0 1 = cc in absurd (omega arith)
  op_does (for s st b u c) r q h v = let z : ◌≡◌ {A = ℕ} 0 1 = cc in absurd (omega arith)
  op_does (arg i) r q h v = let z : ◌≡◌ {A = ℕ} 0 1 = cc in absurd (omega arith)
  op_does (next x) r q h v = let z : ◌≡◌ {A = ℕ} 0 1 = cc in absurd (omega arith)
  op_does end r q h v = let z : ◌≡◌ {A = ℕ} 0 1 = cc in absurd (omega arith)
  op_does (out x) r q h v = let z : ◌≡◌ {A = ℕ} 0 1 = cc in absurd (omega arith)
  op_does unknown r q h v = let z : ◌≡◌ {A = ℕ} 0 1 = cc in absurd (omega arith)

  pub role_does : (n : Role) → Table.Real tb n → (v : View) → step (role_kind t n) (role_code t n) v ≡ perform (program_of tb n v.own) v
  unfolding step
  role_does (op_node r) rl v = op_does (tb.row r) r refl rl.1 v
  role_does (stream L) rl v =
      let w = Tables.for_words t S L rl.0 rl.1 rl.2 rl.3 rl.4 rl.5 in
      ap₂ (λ (a b : ℕ). perform (program Kinds.STREAM (5 * a + b) v.own) v) w.5 w.6 ∙ ap (λ (z : Row). perform (Table.stream_program z v.own) v) (sym rl.5)
  role_does (gate L) rl v = refl
  role_does (guard L) rl v =
      let w = Tables.for_words t S L rl.0 rl.1 rl.2 rl.3 rl.4 rl.5 in
      ap (λ (b : ℕ). perform (program Kinds.OP b v.own) v) (let e : 3 + word t L 5 ≡ suc (suc (suc rl.4)) = (let d = w.6 in omega arith) in e) ∙ ap (λ (z : Row). perform (Table.guard_program z v.own) v) (sym rl.5)
  role_does (copy_split L x) rl v = refl
  role_does (copy_invariant L x) rl v = refl
  role_does (carry a) rl v = refl
  role_does (arg_split a) rl v = refl

  -- a role's node is no FORK and no DRAIN
  pub aside : (n : Role) → Table.Real tb n → (w : Wire) → Made (plan tb) w → Among (num n) (forks w) → ⊥
  unfolding plain_nodes
  aside n rl w m h =
      let a = in_range (roles t) (num n) n (at_position same_role n (roles t) (role_listed n rl)) in
      let r = up_from_range (fork_nodes (users t w)) (length (roles t) + fork_at (all_users t) 0 (wire_number t w)) (num n) h in
      let r0 = r.0 in omega arith

  -- THE LAYOUT
  unfoldable pub layout : Layout (plan tb) (net_of (lowered_words t))
  layout =
      record {
        num = num;
        pw = stands_on t;
        ww = wire_number t;
        users = users t;
        tail = tail;
        forks = forks;
        sp = forks_spread;
        tree_once = λ w m. (λ h. let a = number_below w m in let b = tail_range w m (wire_number t w) h in let b0 = b.0 in omega arith, tails_once (users t w) (free w));
        tree_apart = apart_trees;
        users_full = λ p w h. let k = sym (source_is t S p) ∙ h in (users_has t w p (use_is_listed t S p w k) k, use_made p w k);
        users_sound = λ p w m h. source_is t S p ∙ (users_are t w p h).0;
        pw_inj = λ p r w u h k e.
            let h' = sym (source_is t S p) ∙ h in
            let k' = sym (source_is t S r) ∙ k in
            let d : w ≡ u = apart_trees w u (use_made p w h') (use_made r u k') (stands_on t p) (placed_tree p (stands_on t p) (wire_number t w) (users t w) (free w) (placed p w h'))
            (subst (λ (z : ℕ). Among z (wire_number t u ∷ tail u)) (sym e) (placed_tree r (stands_on t r) (wire_number t u) (users t u) (free u) (placed r u k'))) in
            placed_inj p r (stands_on t p) (wire_number t w) (users t w) (free w) (placed p w h')
            (subst (λ (z : ℕ). Placed r z (wire_number t w) (users t w) (free w)) (sym e) (placed r w (k' ∙ ap some (sym d))));
        num_inj = λ n m rn rm e. same_place same_role n m (roles t) (role_listed n rn) (role_listed m rm) e;
        aside = aside;
        ins = λ n rl k. ap (λ (o : Option Node). input_of o k) (role_node_lem n rl) ∙ input_says n (first_of n) k (to_real t S n rl) ∙ ap (λ (z : Option Wire). wire_if z (stands_on t (into n k))) (sym (source_is t S (into n k)));
        outs = λ n rl o h. ap (λ (z : Option Node). output_of z o) (role_node_lem n rl) ∙ output_says n (first_of n) o (has_out t S n o h) ∙ ap some (output_wire n rl o (has_out t S n o h));
        does = λ n rl v. ap (λ (o : Option Node). step_at o v) (role_node_lem n rl) ∙ role_does n rl v;
      }

  -- ---- and nothing else

  -- what holds of the uses at a place of the list holds of the wire with that number
  by_number : (P : List Use → ℕ → Type 0) (w : Wire) (i : ℕ) (us : List Use) → wire_number t w ≡ i → us ≡ users t w → P us i → P (users t w) (wire_number t w)
  by_number P w i us e d h = subst (P (users t w)) (sym e) (subst (λ (z : List Use). P z i) d h)

  pub wires_of : (x : ℕ) → x < wire_count (lowered_words t) → (w : Wire) × Made (plan tb) w × Tree (plan tb) (net_of (lowered_words t)) layout x w
  unfolding layout wire_total plain_wires all_users
  wires_of x l =
      let c = wire_count_lem t in
      elim (dec_lt x (length (wires t))) [
        | yes k ↦
            let e = has_elem (wires t) x k in
            (e.0, from_made t S e.0 (listed_wire_is_made t e.0 (there (wires t) x e.0 e.1)), inl (sym (number_is e.0 x e.1)))
        | no k ↦
            let r = free_all (users_each t (wires t)) (length (wires t)) x (omega arith) (omega arith) in
            let u = users_from t (wires t) r.0 r.1 r.2 in
            let m = from_made t S u.0 (listed_wire_is_made t u.0 (there (wires t) r.0 u.0 u.1)) in
            let ix = number_is u.0 r.0 u.1 in (
              u.0,
              m,
              inr (by_number (λ us i. Among x (tails us (free_at (users_each t (wires t)) (length (wires t)) i))) u.0 r.0 r.1 ix u.2 r.3),
            )
      ]

  pub wires_below_lem : (w : Wire) → Made (plan tb) w → (x : ℕ) → Tree (plan tb) (net_of (lowered_words t)) layout x w → x < wire_count (lowered_words t)
  unfolding layout wire_total
  wires_below_lem w m x (inl e) = let a = number_below w m in let c = wire_count_lem t in omega arith
  wires_below_lem w m x (inr h) = let r = (tail_range w m x h).1 in let c = wire_count_lem t in omega arith

  pub nodes_of : (i : ℕ) → i < node_count (lowered_words t) → ((n : Role) × Table.Real tb n × (i ≡ num n)) ⊎ ((w : Wire) × Made (plan tb) w × Among i (forks w))
  unfolding node_total plain_nodes all_users
  nodes_of i l =
      let c = node_count_lem t in
      elim (dec_lt i (length (roles t))) [
        | yes k ↦
            let e = has_elem (roles t) i k in
            inl (e.0, from_real t S e.0 (listed_role_is_real t e.0 (there (roles t) i e.0 e.1)), sym (position_is same_role e.0 (roles t) i (roles_once t) e.1))
        | no k ↦
            let r = fork_all (users_each t (wires t)) (length (roles t)) i (omega arith) (omega arith) in
            let u = users_from t (wires t) r.0 r.1 r.2 in
            let m = from_made t S u.0 (listed_wire_is_made t u.0 (there (wires t) r.0 u.0 u.1)) in
            let ix = number_is u.0 r.0 u.1 in
            let sh : fork_at (users_each t (wires t)) (length (roles t)) r.0 ≡ length (roles t) + fork_at (users_each t (wires t)) 0 r.0
            = ap (λ (z : ℕ). fork_at (users_each t (wires t)) z r.0) (plus0 (length (roles t))) ∙ fork_shift (users_each t (wires t)) 0 (length (roles t)) r.0 in
            inr (
              u.0,
              m,
              by_number (λ us z. Among i (up_from (length (roles t) + fork_at (users_each t (wires t)) 0 z) (fork_nodes us))) u.0 r.0 r.1 ix u.2 (subst (λ (z : ℕ). Among i (up_from z (fork_nodes r.1))) sh r.3),
            )
      ]

  pub node_below_lem : (i : ℕ) (v : View) (e : Effect) → step_at (node_at (lowered_words t) i) v ≡ some e → i < node_count (lowered_words t)
  node_below_lem i v e h = go (node_at (lowered_words t) i) refl h
    where
      go : (o : Option Node) → node_at (lowered_words t) i ≡ o → step_at o v ≡ some e → i < node_count (lowered_words t)
      go none q k = let z : ◌≡◌ {A = ℕ} 0 1 = cc in absurd (omega arith)
      go (some nd) q k = node_in_range (lowered_words t) i nd q

  -- THE GRAPH IS THE TABLE'S
  unfoldable pub laid : graph_refusal (lowered_words t) ≡ 0 → Laid tb (net_of (lowered_words t)) (node_count (lowered_words t))
  unfolding layout
  laid ok =
      record {
        wired = accepted_is_wired (lowered_words t) ok;
        node_below_lem = node_below_lem;
        layout = layout;
        all_wires = wires_of;
        wires_in = wires_below_lem;
        all_nodes = nodes_of;
      }
