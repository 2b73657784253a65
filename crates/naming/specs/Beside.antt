-- WHAT THE NAMES SAY: each stands at the number of the node or wire that it names.
--
--   name_at                name number i of a list of names
--   names_long            each node and each wire has its three words
--   named_node            a node before forks has the name of its role
--   named_wire            a wire before forks has its name
--   named_output          the wires that the graph numbers as the outputs of a node before forks have the names of its outputs
--   named_start           the wire of a start has its name
--   named_fork            a FORK or DRAIN has the name of the wire that it takes, marked
--   named_leg             both legs of a FORK have the name of the wire that it takes
--   one_naming            two answers to the contract are one
--   refused_as_checked    with enough lent words naming refuses what the check of a table refuses
--
-- Assumes nothing.
use Prim.Native.Nat.{ℕ, zero, suc, ◌+◌, ◌*◌, ◌<◌, ◌≤◌}
use Rattle.std.specs.Prelude.{◌≡◌, ◌⊎◌, get_or}
use Rattle.std.proofs.Math.Path.{refl, sym, ap, subst}
use Rattle.std.proofs.Common.{◌∙◌, le-leb, get_or-append-add}
use Rattle.std.proofs.Math.Logic.{inl, inr}
use mathlib.Core.List.{List, [], ◌∷◌, ◌++◌}
use Rattle.std.proofs.Math.Option.{Option, none, some}
use native.Mathlib.Omega.{arith}
use Rattle.std.proofs.Math.ListN.{length, get_elem?, length-append, get_or-append}
use Rattle.step.specs.Kinds.{Kind, STREAM, GATE, CARRY, INVARIANT, SPLIT, FORK, DRAIN, OP, PICK, outputs, Output, out0, out1}
use Rattle.graph.specs.Graph.{Node, output_place}
use Rattle.lowered.specs.Gathered.{each}
use Rattle.lowered.specs.Lists.{Among, in_range, none_some, elem_left, elem_right}
use Rattle.lowered.specs.Roles.{Role, Wire, start, output, Use}
use Rattle.lowered.specs.Lower.{roles, role_kind, start_rows, starts, outputs_by, role_outputs, wires, users, drain_node, fork_node, fork_rows, fork_nodes, fork_wires, all_fork_nodes, all_fork_wires, users_each, all_users, plain_nodes, plain_wires, role_node, nodes_from, forks_from, wire_sort, lowered_nodes, node_total, wire_total}
use Rattle.lowered.specs.Room.{in_limits, refused_by, check_answer}
use Rattle.laid.specs.Indexed.{each_long, each_at}
use Rattle.carrying.specs.Checked.{and_true}
use Rattle.naming.specs.Names.{role_name, wire_name, fork_name, drain_name, fork_names, leg_names, node_names, wire_names}
use Rattle.naming.specs.Answers.{names_fit, name_refusal, named, NameAnswer}

-- name number i
abbrev pub name_at : List ℕ → ℕ → List ℕ
name_at names i = get_or names (3 * i) 0 ∷ get_or names (3 * i + 1) 0 ∷ get_or names (3 * i + 2) 0 ∷ []

-- ---- how many

forks_long : (w : Wire) (us : List Use) → length (fork_names w us) ≡ 3 * fork_nodes us
forks_long w [] = refl
forks_long w (u ∷ []) = refl
forks_long w (u ∷ v ∷ us) = let r = forks_long w (v ∷ us) in let a = length-append (fork_name w) (fork_names w (v ∷ us)) in omega arith

legs_long : (w : Wire) (us : List Use) → length (leg_names w us) ≡ 3 * fork_wires us
legs_long w [] = refl
legs_long w (u ∷ []) = refl
legs_long w (u ∷ v ∷ us) =
    let r = legs_long w (v ∷ us) in
    let a = length-append (wire_name w) (wire_name w ++ leg_names w (v ∷ us)) in
    let b = length-append (wire_name w) (leg_names w (v ∷ us)) in
    omega arith

module _ (t : List ℕ) where
  all_forks_long : (ws : List Wire) → length (each (λ w. fork_names w (users t w)) ws) ≡ 3 * all_fork_nodes (users_each t ws)
  unfolding each
  all_forks_long [] = refl
  all_forks_long (w ∷ ws) =
      let r = all_forks_long ws in
      let a = length-append (fork_names w (users t w)) (each (λ w. fork_names w (users t w)) ws) in
      let f = forks_long w (users t w) in
      omega arith

  all_legs_long : (ws : List Wire) → length (each (λ w. leg_names w (users t w)) ws) ≡ 3 * all_fork_wires (users_each t ws)
  unfolding each
  all_legs_long [] = refl
  all_legs_long (w ∷ ws) =
      let r = all_legs_long ws in
      let a = length-append (leg_names w (users t w)) (each (λ w. leg_names w (users t w)) ws) in
      let f = legs_long w (users t w) in
      omega arith

  pub roles_long : length (each role_name (roles t)) ≡ 3 * plain_nodes t
  unfolding plain_nodes
  roles_long = each_long role_name 3 (λ n. refl) (roles t)

  pub wires_long : length (each wire_name (wires t)) ≡ 3 * plain_wires t
  unfolding plain_wires
  wires_long = each_long wire_name 3 (λ w. refl) (wires t)

  -- EACH NODE AND EACH WIRE HAS ITS THREE WORDS
  pub names_long : (length (node_names t) ≡ 3 * node_total t) × (length (wire_names t) ≡ 3 * wire_total t)
  unfolding node_names wire_names node_total wire_total all_users
  names_long =
      let a = length-append (each role_name (roles t)) (each (λ w. fork_names w (users t w)) (wires t)) in
      let b = length-append (each wire_name (wires t)) (each (λ w. leg_names w (users t w)) (wires t)) in
      let f = all_forks_long (wires t) in
      let g = all_legs_long (wires t) in
      let p = roles_long in
      let q = wires_long in
      (omega arith, omega arith)

-- ---- names in lists of names

three_same : {a b c x y z : ℕ} → a ≡ x → b ≡ y → c ≡ z → a ∷ b ∷ c ∷ [] ≡ x ∷ y ∷ z ∷ []
three_same p q r = rw (p, q, r)

name_left : (xs ys : List ℕ) (i : ℕ) → 3 * i + 3 ≤ length xs → name_at (xs ++ ys) i ≡ name_at xs i
name_left xs ys i l =
    three_same (get_or-append xs ys 0 (3 * i) (omega arith)) (get_or-append xs ys 0 (3 * i + 1) (omega arith)) (get_or-append xs ys 0 (3 * i + 2) (omega arith))

name_right : (xs ys : List ℕ) (m i : ℕ) → length xs ≡ 3 * m → name_at (xs ++ ys) (m + i) ≡ name_at ys i
name_right xs ys m i l = three_same (at 0 (3 * (m + i)) (3 * i) (omega arith) (omega arith)) (at 1 (3 * (m + i) + 1) (3 * i + 1) (omega arith) (omega arith)) (at 2 (3 * (m + i) + 2) (3 * i + 2) (omega arith) (omega arith))
  where
    at : (k p q : ℕ) → p ≡ 3 * m + q → q ≡ 3 * i + k → get_or (xs ++ ys) p 0 ≡ get_or ys q 0
    at k p q e d = ap (λ (x : ℕ). get_or (xs ++ ys) x 0) (e ∙ ap (λ (x : ℕ). x + q) (sym l)) ∙ get_or-append-add xs ys q 0

name_each : {A : Type 0} (f : A → List ℕ) → ((x : A) → length (f x) ≡ 3) → (xs : List A) (i : ℕ) (x : A) → get_elem? xs i ≡ some x → name_at (each f xs) i ≡ name_at (f x) 0
name_each f size xs i x h =
    let z : 3 * i ≡ 3 * i + 0 = omega arith in
    three_same (ap (λ (p : ℕ). get_or (each f xs) p 0) z ∙ each_at f 3 size xs i 0 x h (omega arith)) (each_at f 3 size xs i 1 x h (omega arith)) (each_at f 3 size xs i 2 x h (omega arith))

-- an element of two lists, one behind the other, is in the first or in the second
elem_split : {A : Type 0} (xs ys : List A) (k : ℕ) (a : A) → get_elem? (xs ++ ys) k ≡ some a → (get_elem? xs k ≡ some a) ⊎ ((j : ℕ) × (k ≡ length xs + j) × (get_elem? ys j ≡ some a))
elem_split [] ys k a h = inr (k, omega arith, h)
elem_split (x ∷ xs) ys zero a h = inl h
elem_split (x ∷ xs) ys (suc k) a h = elim (elem_split xs ys k a h) [ inl q ↦ inl q | inr q ↦ (let e = q.1 in inr (q.0, omega arith, q.2)) ]

-- ---- outputs by place

own_output : (n : Role) (k : ℕ) (o : Output) → output_place o < k → get_elem? (outputs_by n k) (output_place o) ≡ some (output n o)
own_output n zero o h = absurd (omega arith)
own_output n (suc zero) out0 h = refl
own_output n (suc zero) out1 h = absurd (omega arith)
own_output n (suc (suc k)) out0 h = refl
own_output n (suc (suc k)) out1 h = refl

own_long : (n : Role) (κ : Kind) → length (outputs_by n (outputs κ)) ≡ outputs κ
own_long n STREAM = refl
own_long n GATE = refl
own_long n CARRY = refl
own_long n INVARIANT = refl
own_long n SPLIT = refl
own_long n FORK = refl
own_long n DRAIN = refl
own_long n OP = refl
own_long n PICK = refl

abbrev first_of : Option Node → ℕ
first_of none = 0
first_of (some nd) = nd.first

start_of : (rs : List ℕ) (j r : ℕ) → get_elem? rs j ≡ some r → get_elem? (each (λ r. start r ∷ []) rs) j ≡ some (start r)
unfolding each
start_of [] j r h = none_some r h
start_of (q ∷ rs) zero r h = let e : q ≡ r = cc in ap (λ (x : ℕ). some (start x)) e
start_of (q ∷ rs) (suc j) r h = start_of rs j r h

module _ (t : List ℕ) where
  -- ---- before forks

  -- role i of a list, where the outputs of those before it are d: its first output is d behind f, and there its outputs stand
  output_of_lem : (f : ℕ) (ns : List Role) (i : ℕ) (n : Role) → get_elem? ns i ≡ some n
      → (d : ℕ) × (get_elem? (nodes_from t f ns) i ≡ some (role_node t (f + d) n)) × ((o : Output) → output_place o < outputs (role_kind t n) → get_elem? (each (role_outputs t) ns) (d + output_place o) ≡ some (output n o))
  unfolding each
  output_of_lem f [] i n h = none_some n h
  output_of_lem f (m ∷ ns) zero n h =
      let e : m ≡ n = cc in
      let z : f ≡ f + 0 = omega arith in (
        0,
        ap (λ (x : Role). some (role_node t f x)) e ∙ ap (λ (x : ℕ). some (role_node t x n)) z,
        λ o l. let c : 0 + output_place o ≡ output_place o = omega arith in
            ap (get_elem? (role_outputs t m ++ each (role_outputs t) ns)) c ∙ ap (λ (x : Role). get_elem? (role_outputs t x ++ each (role_outputs t) ns) (output_place o)) e
            ∙ elem_left (role_outputs t n) (each (role_outputs t) ns) (output_place o) (output n o) (own_output n (outputs (role_kind t n)) o l),
      )
  output_of_lem f (m ∷ ns) (suc i) n h =
      let r = output_of_lem (f + outputs (role_kind t m)) ns i n h in
      let k = own_long m (role_kind t m) in
      let z : f + outputs (role_kind t m) + r.0 ≡ f + (outputs (role_kind t m) + r.0) = omega arith in (
        outputs (role_kind t m) + r.0,
        r.1 ∙ ap (λ (x : ℕ). some (role_node t x n)) z,
        λ o l. let c : outputs (role_kind t m) + r.0 + output_place o ≡ length (role_outputs t m) + (r.0 + output_place o) = omega arith in
            ap (get_elem? (role_outputs t m ++ each (role_outputs t) ns)) c ∙ elem_right (role_outputs t m) (each (role_outputs t) ns) (r.0 + output_place o) ∙ r.2 o l,
      )

  -- A NODE BEFORE FORKS HAS THE NAME OF ITS ROLE: node i of the graph is the node of role i, and name i is that role's
  pub named_node : (i : ℕ) (n : Role) → get_elem? (roles t) i ≡ some n → (name_at (node_names t) i ≡ role_name n) × ((first : ℕ) × (get_elem? (lowered_nodes t) i ≡ some (role_node t first n)))
  unfolding node_names lowered_nodes
  named_node i n h =
      let r = in_range (roles t) i n h in
      let l = each_long role_name 3 (λ n. refl) (roles t) in
      let m = output_of_lem (length (starts t)) (roles t) i n h in (
        name_left (each role_name (roles t)) (each (λ w. fork_names w (users t w)) (wires t)) i (omega arith) ∙ name_each role_name (λ n. refl) (roles t) i n h,
        (length (starts t) + m.0, elem_left (nodes_from t (length (starts t)) (roles t)) (forks_from t 0 (wires t) (plain_wires t)) i (role_node t (length (starts t) + m.0) n) m.1),
      )

  -- A WIRE BEFORE FORKS HAS ITS NAME
  pub named_wire : (k : ℕ) (w : Wire) → get_elem? (wires t) k ≡ some w → name_at (wire_names t) k ≡ wire_name w
  unfolding wire_names
  named_wire k w h =
      let r = in_range (wires t) k w h in
      let l = each_long wire_name 3 (λ w. refl) (wires t) in
      name_left (each wire_name (wires t)) (each (λ w. leg_names w (users t w)) (wires t)) k (omega arith) ∙ name_each wire_name (λ w. refl) (wires t) k w h

  output_at_lem : (i first : ℕ) (n : Role) → get_elem? (roles t) i ≡ some n → get_elem? (lowered_nodes t) i ≡ some (role_node t first n)
      → (o : Output) → output_place o < outputs (role_kind t n) → get_elem? (wires t) (first + output_place o) ≡ some (output n o)
  unfolding lowered_nodes wires
  output_at_lem i first n h g o l =
      let r = output_of_lem (length (starts t)) (roles t) i n h in
      let p = elem_left (nodes_from t (length (starts t)) (roles t)) (forks_from t 0 (wires t) (plain_wires t)) i (role_node t (length (starts t) + r.0) n) r.1 in
      let e : first ≡ length (starts t) + r.0 = ap first_of (sym g ∙ p) in
      let c : first + output_place o ≡ length (starts t) + (r.0 + output_place o) = omega arith in
      ap (get_elem? (starts t ++ each (role_outputs t) (roles t))) c ∙ elem_right (starts t) (each (role_outputs t) (roles t)) (r.0 + output_place o) ∙ r.2 o l

  -- THE OUTPUTS OF A NODE BEFORE FORKS HAVE THEIR NAMES: node i of the graph is that of role n and its first output is wire `first`; then the wires
  -- from there on are named as the outputs of n
  pub named_output : (i first : ℕ) (n : Role) → get_elem? (roles t) i ≡ some n → get_elem? (lowered_nodes t) i ≡ some (role_node t first n)
      → (1 ≤ outputs (role_kind t n) → name_at (wire_names t) first ≡ wire_name (output n out0)) × (outputs (role_kind t n) ≡ 2 → name_at (wire_names t) (suc first) ≡ wire_name (output n out1))
  named_output i first n h g =
      let z : first ≡ first + 0 = omega arith in
      let y : suc first ≡ first + 1 = omega arith in (
        λ l. ap (name_at (wire_names t)) z ∙ named_wire (first + 0) (output n out0) (output_at_lem i first n h g out0 (omega arith)),
        λ l. ap (name_at (wire_names t)) y ∙ named_wire (first + 1) (output n out1) (output_at_lem i first n h g out1 (omega arith)),
      )

  start_at : (j r : ℕ) → get_elem? (start_rows t) j ≡ some r → get_elem? (wires t) j ≡ some (start r)
  unfolding wires starts
  start_at j r h = elem_left (each (λ r. start r ∷ []) (start_rows t)) (each (role_outputs t) (roles t)) j (start r) (start_of (start_rows t) j r h)

  -- THE WIRE OF A START HAS ITS NAME: start j is row r, and wire j is named as that row's
  pub named_start : (j r : ℕ) → get_elem? (start_rows t) j ≡ some r → name_at (wire_names t) j ≡ wire_name (start r)
  named_start j r h = named_wire j (start r) (start_at j r h)

  -- ---- forks

  -- what is said of a node that forks add, with this name: it takes a wire named w, and is named by it; and so are its legs
  pub record Added (nd : Node) (name : List ℕ) (w : Wire) : Type 0 where
    pub takes : name_at (wire_names t) nd.wire0 ≡ wire_name w
    pub is_named : ((nd.kind ≡ FORK) × (name ≡ fork_name w)) ⊎ ((nd.kind ≡ DRAIN) × (name ≡ drain_name w))
    pub legs : nd.kind ≡ FORK → (name_at (wire_names t) nd.first ≡ wire_name w) × (name_at (wire_names t) (suc nd.first) ≡ wire_name w)

  no_fork : {A : Type 0} → ◌≡◌ {A = Kind} DRAIN FORK → A
  no_fork h = let z : ◌≡◌ {A = ℕ} 0 1 = cc in absurd (omega arith)

  -- of one wire
  added_of : (w : Wire) (s x : ℕ) (us : List Use) (f k : ℕ) (nd : Node) → name_at (wire_names t) x ≡ wire_name w → ((j : ℕ) → j < fork_wires us → name_at (wire_names t) (f + j) ≡ wire_name w)
      → get_elem? (fork_rows s x us f) k ≡ some nd → Added nd (name_at (fork_names w us) k) w
  added_of w s x [] f zero nd e h g =
      let d : drain_node s x ≡ nd = cc in
      subst (λ (m : Node). Added m (drain_name w) w) d (record { takes = e; is_named = inr (refl, refl); legs = λ q. no_fork q })
  added_of w s x [] f (suc k) nd e h g = none_some nd g
  added_of w s x (u ∷ []) f k nd e h g = none_some nd g
  added_of w s x (u ∷ v ∷ us) f zero nd e h g =
      let d : fork_node s x f ≡ nd = cc in
      let z : f ≡ f + 0 = omega arith in
      let y : suc f ≡ f + 1 = omega arith in
      subst (λ (m : Node). Added m (fork_name w) w) d
      (record { takes = e; is_named = inl (refl, refl); legs = λ q. (ap (name_at (wire_names t)) z ∙ h 0 (omega arith), ap (name_at (wire_names t)) y ∙ h 1 (omega arith)) })
  added_of w s x (u ∷ v ∷ us) f (suc k) nd e h g =
      let y : suc f ≡ f + 1 = omega arith in
      let c : suc k ≡ 1 + k = omega arith in
      subst (λ (l : List ℕ). Added nd l w) (sym (ap (name_at (fork_name w ++ fork_names w (v ∷ us))) c ∙ name_right (fork_name w) (fork_names w (v ∷ us)) 1 k refl))
      (added_of w s (suc f) (v ∷ us) (suc (suc f)) k nd (ap (name_at (wire_names t)) y ∙ h 1 (omega arith))
      (λ j l. let z : suc (suc f) + j ≡ f + suc (suc j) = omega arith in ap (name_at (wire_names t)) z ∙ h (suc (suc j)) (omega arith)) g)

  leg_of_lem : (w : Wire) (us : List Use) (j : ℕ) → j < fork_wires us → name_at (leg_names w us) j ≡ wire_name w
  leg_of_lem w [] j l = absurd (omega arith)
  leg_of_lem w (u ∷ []) j l = absurd (omega arith)
  leg_of_lem w (u ∷ v ∷ us) zero l = refl
  leg_of_lem w (u ∷ v ∷ us) (suc zero) l = refl
  leg_of_lem w (u ∷ v ∷ us) (suc (suc j)) l =
      let c : suc (suc j) ≡ 2 + j = omega arith in
      ap (name_at (wire_name w ++ (wire_name w ++ leg_names w (v ∷ us)))) c ∙ name_right (wire_name w ++ wire_name w) (leg_names w (v ∷ us)) 2 j refl ∙ leg_of_lem w (v ∷ us) j (omega arith)

  rows_long : (s x : ℕ) (us : List Use) (f : ℕ) → length (fork_rows s x us f) ≡ fork_nodes us
  rows_long s x [] f = refl
  rows_long s x (u ∷ []) f = refl
  rows_long s x (u ∷ v ∷ us) f = ap suc (rows_long s (suc f) (v ∷ us) (suc (suc f)))

  -- of all wires from number x on, where the next free number is f
  added_from : (x f : ℕ) (ws : List Wire) (k : ℕ) (nd : Node) → ((j : ℕ) (w : Wire) → get_elem? ws j ≡ some w → name_at (wire_names t) (x + j) ≡ wire_name w)
      → ((j : ℕ) → j < all_fork_wires (users_each t ws) → name_at (wire_names t) (f + j) ≡ name_at (each (λ w. leg_names w (users t w)) ws) j)
      → get_elem? (forks_from t x ws f) k ≡ some nd → (w : Wire) × Among w ws × Added nd (name_at (each (λ w. fork_names w (users t w)) ws) k) w
  unfolding each
  added_from x f [] k nd h g e = none_some nd e
  added_from x f (w ∷ ws) k nd h g e =
      go
      (λ j q. added_from (suc x) (f + fork_wires (users t w)) ws j nd
      (λ j v m. let z : suc x + j ≡ x + suc j = omega arith in ap (name_at (wire_names t)) z ∙ h (suc j) v m)
      (λ j l. let z : f + fork_wires (users t w) + j ≡ f + (fork_wires (users t w) + j) = omega arith in
      ap (name_at (wire_names t)) z ∙ g (fork_wires (users t w) + j) (omega arith)
      ∙ name_right (leg_names w (users t w)) (each (λ w. leg_names w (users t w)) ws) (fork_wires (users t w)) j (legs_long w (users t w)))
      q)
      (elem_split (fork_rows (wire_sort t w) x (users t w) f) (forks_from t (suc x) ws (f + fork_wires (users t w))) k nd e)
    where
      go : ((j : ℕ) → get_elem? (forks_from t (suc x) ws (f + fork_wires (users t w))) j ≡ some nd → (v : Wire) × Among v ws × Added nd (name_at (each (λ w. fork_names w (users t w)) ws) j) v)
          → (get_elem? (fork_rows (wire_sort t w) x (users t w) f) k ≡ some nd)
          ⊎ ((j : ℕ) × (k ≡ length (fork_rows (wire_sort t w) x (users t w) f) + j) × (get_elem? (forks_from t (suc x) ws (f + fork_wires (users t w))) j ≡ some nd))
          → (v : Wire) × Among v (w ∷ ws) × Added nd (name_at (fork_names w (users t w) ++ each (λ w. fork_names w (users t w)) ws) k) v
      go ih (inl q) =
          let z : x ≡ x + 0 = omega arith in
          let r = in_range (fork_rows (wire_sort t w) x (users t w) f) k nd q in
          let n = rows_long (wire_sort t w) x (users t w) f in
          let l = forks_long w (users t w) in
          let p = legs_long w (users t w) in (
            w,
            inl refl,
            subst (λ (l : List ℕ). Added nd l w) (sym (name_left (fork_names w (users t w)) (each (λ w. fork_names w (users t w)) ws) k (omega arith)))
                (added_of w (wire_sort t w) x (users t w) f k nd (ap (name_at (wire_names t)) z ∙ h 0 w refl)
                (λ j l. g j (omega arith) ∙ name_left (leg_names w (users t w)) (each (λ w. leg_names w (users t w)) ws) j (omega arith) ∙ leg_of_lem w (users t w) j l) q),
          )
      go ih (inr q) =
          let n = rows_long (wire_sort t w) x (users t w) f in
          let d = q.1 in
          let c : k ≡ fork_nodes (users t w) + q.0 = omega arith in
          let r = ih q.0 q.2 in (
            r.0,
            inr r.1,
            subst (λ (l : List ℕ). Added nd l r.0)
                (sym (ap (name_at (fork_names w (users t w) ++ each (λ w. fork_names w (users t w)) ws)) c ∙ name_right (fork_names w (users t w)) (each (λ w. fork_names w (users t w)) ws) (fork_nodes (users t w)) q.0 (forks_long w (users t w))))
                r.2,
          )

  -- the names behind those before forks
  leg_at_lem : (j : ℕ) → name_at (wire_names t) (length (wires t) + j) ≡ name_at (each (λ w. leg_names w (users t w)) (wires t)) j
  unfolding wire_names
  leg_at_lem j = name_right (each wire_name (wires t)) (each (λ w. leg_names w (users t w)) (wires t)) (length (wires t)) j (each_long wire_name 3 (λ w. refl) (wires t))

  fork_at_lem : (k : ℕ) → name_at (node_names t) (length (roles t) + k) ≡ name_at (each (λ w. fork_names w (users t w)) (wires t)) k
  unfolding node_names
  fork_at_lem k = name_right (each role_name (roles t)) (each (λ w. fork_names w (users t w)) (wires t)) (length (roles t)) k (each_long role_name 3 (λ n. refl) (roles t))

  nodes_long : (f : ℕ) (ns : List Role) → length (nodes_from t f ns) ≡ length ns
  nodes_long f [] = refl
  nodes_long f (n ∷ ns) = ap suc (nodes_long (f + outputs (role_kind t n)) ns)

  -- EVERY NODE BEHIND THOSE BEFORE FORKS: the wire that it takes has the name of a wire w before forks, and it is named by w
  pub added_named : (k : ℕ) (nd : Node) → get_elem? (lowered_nodes t) (plain_nodes t + k) ≡ some nd → (w : Wire) × Among w (wires t) × Added nd (name_at (node_names t) (plain_nodes t + k)) w
  unfolding lowered_nodes plain_nodes plain_wires
  added_named k nd h =
      let l = nodes_long (length (starts t)) (roles t) in
      let c : length (roles t) + k ≡ length (nodes_from t (length (starts t)) (roles t)) + k = omega arith in
      let r = added_from 0 (length (wires t)) (wires t) k nd
      (λ j w m. let z : 0 + j ≡ j = omega arith in ap (name_at (wire_names t)) z ∙ named_wire j w m)
      (λ j q. leg_at_lem j)
      (sym (elem_right (nodes_from t (length (starts t)) (roles t)) (forks_from t 0 (wires t) (length (wires t))) k) ∙ sym (ap (get_elem? (nodes_from t (length (starts t)) (roles t) ++ forks_from t 0 (wires t) (length (wires t)))) c) ∙ h) in
      (r.0, r.1, subst (λ (x : List ℕ). Added nd x r.0) (sym (fork_at_lem k)) r.2)

  -- A FORK OR DRAIN IS NAMED BY THE WIRE THAT IT TAKES
  pub named_fork : (k : ℕ) (nd : Node) → get_elem? (lowered_nodes t) (plain_nodes t + k) ≡ some nd → (w : Wire) × Among w (wires t) × (name_at (wire_names t) nd.wire0 ≡ wire_name w)
      × (((nd.kind ≡ FORK) × (name_at (node_names t) (plain_nodes t + k) ≡ fork_name w)) ⊎ ((nd.kind ≡ DRAIN) × (name_at (node_names t) (plain_nodes t + k) ≡ drain_name w)))
  named_fork k nd h = let r = added_named k nd h in (r.0, r.1, r.2.takes, r.2.is_named)

  -- THE LEGS OF A FORK ARE NAMED AS THE WIRE THAT IT TAKES
  pub named_leg : (k : ℕ) (nd : Node) → get_elem? (lowered_nodes t) (plain_nodes t + k) ≡ some nd → nd.kind ≡ FORK
      → (name_at (wire_names t) nd.first ≡ name_at (wire_names t) nd.wire0) × (name_at (wire_names t) (suc nd.first) ≡ name_at (wire_names t) nd.wire0)
  named_leg k nd h f =
      let r = added_named k nd h in
      let l = r.2.legs f in
      (l.0 ∙ sym r.2.takes, l.1 ∙ sym r.2.takes)

-- ---- the answer

-- TWO ANSWERS TO THE CONTRACT ARE ONE
pub one_naming : (t nodes wires : List ℕ) {k r n w k' r' n' w' : ℕ} {a b a' b' : List ℕ} → NameAnswer t nodes wires k r n w a b → NameAnswer t nodes wires k' r' n' w' a' b'
    → (named k r n w ≡ named k' r' n' w') × (a ≡ a') × (b ≡ b')
one_naming t nodes wires A B = (A.answer ∙ sym B.answer, A.node_words_lem ∙ sym B.node_words_lem, A.wire_words ∙ sym B.wire_words)

-- WITH ENOUGH LENT WORDS NAMING REFUSES WHAT THE CHECK OF A TABLE REFUSES
pub refused_as_checked : (t : List ℕ) (nodes wires : ℕ) → 3 * node_total t ≤ nodes → 3 * wire_total t ≤ wires → name_refusal t nodes wires ≡ check_answer t
unfolding name_refusal check_answer names_fit
refused_as_checked t nodes wires a b =
    let l = names_long t in
    let l0 = l.0 in
    let l1 = l.1 in
    ap (refused_by t) (rw (le-leb (length (node_names t)) nodes (omega arith), le-leb (length (wire_names t)) wires (omega arith)) (and_true (in_limits t)))
