-- The words of a lowered table in the order in which a program writes them, each part by number.
--
--   first_at                   the first output number of node i
--   first_number, first_next, all_first
--   wire_sort_at              the sort of wire w
--   start_sort, sort_first, sort_second
--   fork_list                 the DRAIN or the FORKs of a wire, from how many uses it has
--   lowered_by_number         THE WORDS: header, starts, results, nodes before forks, forks
--
-- Assumes nothing.
use Prim.Native.Nat.{ℕ, zero, suc, ◌+◌, ◌-◌, ◌*◌, ◌≤◌, ◌<◌}
use Rattle.std.specs.Prelude.{◌≡◌, ◌⊎◌, Bool, true, false, cond, eqb}
use Rattle.std.proofs.Math.Path.{refl, sym, ap, ap₂}
use Rattle.std.proofs.Common.{◌∙◌, inl, inr}
use mathlib.Core.List.{List, [], ◌∷◌, ◌++◌}
use Rattle.std.proofs.Math.Option.{Option, none, some}
use native.Mathlib.Omega.{arith}
use Rattle.std.proofs.Math.Decide.{ℕ_discrete}
use borrow.Author.Tests.{le-leb, leb-true}
use Rattle.std.proofs.Math.ListN.{length, get_elem?, length-append}
use Rattle.step.specs.Kinds.{Kind, STREAM, GATE, CARRY, INVARIANT, SPLIT, FORK, DRAIN, OP, PICK, outputs, output_sort, out0, out1}
use Rattle.graph.specs.Below.{joined, total}
use Rattle.graph.specs.Graph.{Node}
use Rattle.table.specs.Rows.{kind_at, size}
use Rattle.structure.specs.Structure.{Structure}
use Rattle.lowered.specs.Gathered.{those, each}
use Rattle.lowered.specs.Roles.{Role, op_node, stream, gate, guard, copy_split, copy_invariant, carry, arg_split, Wire, start, output, Use, result, same_wire}
use Rattle.lowered.specs.Lower.{roles, role_kind, role_code, role_sort, is_start, start_rows, starts, outputs_by, role_outputs, wires, wire_number, wire_sort, users, out_rows, drain_node, fork_node, fork_rows, fork_wires, plain_nodes, plain_wires, stands_on, role_node, nodes_from, forks_from, lowered_nodes, start_words, node_words, node_total, wire_total, start_total, result_total, lowered_words}
use Rattle.laid.specs.Lists.{there, has_elem, elem_left, elem_right, position_is, those_from, those_once}
use Rattle.laid.specs.Indexed.{sum_of, each_append, joined_along, joined_same, joined_first, total_along}
use Rattle.laid.specs.Listed.{wires_once}
use Rattle.laid.specs.Counts.{fork_sum, fork_wires_by_number, users_are_counted}
use Rattle.laid.specs.Bases.{starts_long, all_starts, those_at}
use Rattle.written.specs.Numbers.{cut, in_front, total_before, use_count, free_from}

-- ---- outputs, node by node
abbrev pub outputs_of : List ℕ → Option Role → ℕ
outputs_of t none = 0
outputs_of t (some n) = outputs (role_kind t n)

unfoldable pub first_at : List ℕ → ℕ → ℕ
first_at t i = start_total t + total (λ j. outputs_of t (get_elem? (roles t) j)) i

abbrev pub sort_of_wire : List ℕ → Option Wire → ℕ
sort_of_wire t none = 0
sort_of_wire t (some w) = wire_sort t w

abbrev pub wire_sort_at : List ℕ → ℕ → ℕ
wire_sort_at t w = sort_of_wire t (get_elem? (wires t) w)

outputs_long : (n : Role) (k : Kind) → length (outputs_by n (outputs k)) ≡ outputs k
outputs_long n STREAM = refl
outputs_long n GATE = refl
outputs_long n CARRY = refl
outputs_long n INVARIANT = refl
outputs_long n SPLIT = refl
outputs_long n FORK = refl
outputs_long n DRAIN = refl
outputs_long n OP = refl
outputs_long n PICK = refl

-- every node before forks has one or two outputs
pub one_or_two : (t : List ℕ) (n : Role) → (outputs (role_kind t n) ≡ 1) ⊎ (outputs (role_kind t n) ≡ 2)
one_or_two t (op_node r) = inl (which (eqb (kind_at t r) 2))
  where
    which : (b : Bool) → outputs (cond b OP PICK) ≡ 1
    which true = refl
    which false = refl
one_or_two t (stream L) = inr refl
one_or_two t (gate L) = inr refl
one_or_two t (guard L) = inl refl
one_or_two t (copy_split L v) = inr refl
one_or_two t (copy_invariant L v) = inl refl
one_or_two t (carry a) = inl refl
one_or_two t (arg_split a) = inr refl

module _ (t : List ℕ) where
  abbrev outputs_of_role : Role → ℕ
  outputs_of_role n = outputs (role_kind t n)

  outputs_along : (ns : List Role) → length (each (role_outputs t) ns) ≡ sum_of outputs_of_role ns
  unfolding each
  outputs_along [] = refl
  outputs_along (n ∷ ns) = length-append (role_outputs t n) (each (role_outputs t) ns) ∙ ap₂ (λ (a b : ℕ). a + b) (outputs_long n (role_kind t n)) (outputs_along ns)

  -- an output of node i stands behind those of the nodes before
  wire_at_lem : (i : ℕ) (n : Role) (k : ℕ) (w : Wire) → get_elem? (roles t) i ≡ some n → get_elem? (role_outputs t n) k ≡ some w → get_elem? (wires t) (first_at t i + k) ≡ some w
  unfolding wires first_at each
  wire_at_lem i n k w h e =
      let C = cut (roles t) i n h in
      let s = starts_long t in
      let a = outputs_along C.before in
      let b = total_before (outputs_of t) (roles t) i n C in
      let z : start_total t + total (λ j. outputs_of t (get_elem? (roles t) j)) i + k ≡ length (starts t) + (length (each (role_outputs t) C.before) + k) = omega arith in
      ap₂ (λ (ws : List Wire) (j : ℕ). get_elem? (starts t ++ ws) j) (ap (each (role_outputs t)) C.whole ∙ each_append (role_outputs t) C.before (n ∷ C.behind)) z
      ∙ elem_right (starts t) (each (role_outputs t) C.before ++ (role_outputs t n ++ each (role_outputs t) C.behind)) (length (each (role_outputs t) C.before) + k)
      ∙ elem_right (each (role_outputs t) C.before) (role_outputs t n ++ each (role_outputs t) C.behind) k
      ∙ elem_left (role_outputs t n) (each (role_outputs t) C.behind) k w e

  first_output_lem : (n : Role) → get_elem? (role_outputs t n) 0 ≡ some (output n out0)
  first_output_lem n = elim (one_or_two t n) [ inl e ↦ ap (λ (k : ℕ). get_elem? (outputs_by n k) 0) e | inr e ↦ ap (λ (k : ℕ). get_elem? (outputs_by n k) 0) e ]

  pub first_number : (i : ℕ) (n : Role) → get_elem? (roles t) i ≡ some n → wire_number t (output n out0) ≡ first_at t i
  unfolding wire_number
  first_number i n h =
      let z : first_at t i ≡ first_at t i + 0 = omega arith in
      position_is same_wire (output n out0) (wires t) (first_at t i) (wires_once t) (ap (get_elem? (wires t)) z ∙ wire_at_lem i n 0 (output n out0) h (first_output_lem n))

  pub first_next : (i : ℕ) (n : Role) → get_elem? (roles t) i ≡ some n → first_at t (suc i) ≡ first_at t i + outputs (role_kind t n)
  unfolding first_at total
  first_next i n h = let e : outputs_of t (get_elem? (roles t) i) ≡ outputs (role_kind t n) = ap (outputs_of t) h in omega arith

  pub first_start : first_at t 0 ≡ start_total t
  unfolding first_at total
  first_start = omega arith

  pub all_first : first_at t (plain_nodes t) ≡ plain_wires t
  unfolding first_at plain_nodes plain_wires wires
  all_first =
      let a = outputs_along (roles t) in
      let b = total_along (outputs_of t) (roles t) in
      let s = starts_long t in
      let l = length-append (starts t) (each (role_outputs t) (roles t)) in
      omega arith

  -- ---- sorts
  pub sort_first : (i : ℕ) (n : Role) → get_elem? (roles t) i ≡ some n → wire_sort_at t (first_at t i) ≡ output_sort (role_kind t n) (role_code t n) (role_sort t n) out0
  sort_first i n h = let z : first_at t i ≡ first_at t i + 0 = omega arith in ap (sort_of_wire t) (ap (get_elem? (wires t)) z ∙ wire_at_lem i n 0 (output n out0) h (first_output_lem n))

  pub sort_second : (i : ℕ) (n : Role) → get_elem? (roles t) i ≡ some n → outputs (role_kind t n) ≡ 2 → wire_sort_at t (first_at t i + 1) ≡ output_sort (role_kind t n) (role_code t n) (role_sort t n) out1
  sort_second i n h e = ap (sort_of_wire t) (wire_at_lem i n 1 (output n out1) h (ap (λ (k : ℕ). get_elem? (outputs_by n k) 1) e))

  starts_are_words : (rs : List ℕ) (w : ℕ) → sort_of_wire t (get_elem? (each (λ r. start r ∷ []) rs) w) ≡ 0
  unfolding each
  starts_are_words [] w = refl
  starts_are_words (r ∷ rs) zero = refl
  starts_are_words (r ∷ rs) (suc w) = starts_are_words rs w

  pub start_sort : (w : ℕ) → w < start_total t → wire_sort_at t w ≡ 0
  unfolding wires starts
  start_sort w l =
      let s = starts_long t in
      ap (sort_of_wire t) (in_front (starts t) (each (role_outputs t) (roles t)) w (omega arith)) ∙ starts_are_words (start_rows t) w

-- ---- forks, from how many uses a wire has
unfoldable pub fork_list : ℕ → ℕ → ℕ → ℕ → List Node
fork_list s x zero f = drain_node s x ∷ []
fork_list s x (suc zero) f = []
fork_list s x (suc (suc k)) f = fork_node s x f ∷ fork_list s (suc f) (suc k) (suc (suc f))

forks_counted : (s x : ℕ) (us : List Use) (f : ℕ) → fork_rows s x us f ≡ fork_list s x (length us) f
unfolding fork_list
forks_counted s x [] f = refl
forks_counted s x (u ∷ []) f = refl
forks_counted s x (u ∷ v ∷ us) f = ap (λ (l : List Node). fork_node s x f ∷ l) (forks_counted s (suc f) (v ∷ us) (suc (suc f)))

abbrev pub fork_words_at : List ℕ → ℕ → List ℕ
fork_words_at t w = each node_words (fork_list (wire_sort_at t w) w (use_count t w) (free_from t w))

abbrev pub row_words : List ℕ → Option Role → List ℕ
row_words t none = []
row_words t (some n) = node_words (role_node t (wire_number t (output n out0)) n)

abbrev pub result_words : List ℕ → Option ℕ → List ℕ
result_words t none = []
result_words t (some q) = stands_on t (result q) ∷ []

module _ (t : List ℕ) (S : Structure t) where
  -- ---- starts: row i is the i-th of them
  start_place : (i : ℕ) → i < start_total t → get_elem? (start_rows t) i ≡ some i
  unfolding start_total start_rows
  start_place i l =
      let e = has_elem (those (is_start t) (size t)) i l in
      let f = those_from (is_start t) (size t) e.0 (there (those (is_start t) (size t)) i e.0 e.1) in
      let k = leb-true (kind_at t e.0) 1 f.1 in
      let f0 = f.0 in
      let all = all_starts t S e.0 (omega arith) (λ r q. le-leb (kind_at t r) 1 (S.starts r e.0 q f.0 k)) in
      let at = those_at (is_start t) (size t) e.0 f.0 f.1 in
      let one : i ≡ length (those (is_start t) e.0) = sym (position_is ℕ_discrete e.0 (those (is_start t) (size t)) i (those_once (is_start t) (size t)) e.1)
      ∙ position_is ℕ_discrete e.0 (those (is_start t) (size t)) (length (those (is_start t) e.0)) (those_once (is_start t) (size t)) at in
      e.1 ∙ ap some (sym (one ∙ all))

  pub start_row : (i : ℕ) → i < start_total t → (i < size t) × (kind_at t i ≤ 1)
  unfolding start_rows
  start_row i l =
      let f = those_from (is_start t) (size t) i (there (those (is_start t) (size t)) i i (start_place i l)) in
      (f.0, leb-true (kind_at t i) 1 f.1)

  starts_by_number : each (start_words t) (start_rows t) ≡ joined (start_words t) (start_total t)
  unfolding start_total
  starts_by_number = sym (joined_same (start_words t) (λ i. words_of (get_elem? (start_rows t) i)) (length (start_rows t)) (λ i l. sym (ap words_of (start_place i l))) ∙ joined_along words_of (start_rows t))
    where
      words_of : Option ℕ → List ℕ
      words_of none = []
      words_of (some r) = start_words t r

  results_by_number : each (λ q. stands_on t (result q) ∷ []) (out_rows t) ≡ joined (λ i. result_words t (get_elem? (out_rows t) i)) (result_total t)
  unfolding result_total
  results_by_number = sym (joined_along (result_words t) (out_rows t))

  -- ---- nodes before forks
  abbrev words_of_role : Role → List ℕ
  words_of_role n = row_words t (some n)

  nodes_on : (f i : ℕ) (ns : List Role) → ((k : ℕ) (n : Role) → get_elem? ns k ≡ some n → get_elem? (roles t) (i + k) ≡ some n) → f ≡ first_at t i
      → each node_words (nodes_from t f ns) ≡ each words_of_role ns
  unfolding each
  nodes_on f i [] h e = refl
  nodes_on f i (n ∷ ns) h e =
      let z : i ≡ i + 0 = omega arith in
      let here : get_elem? (roles t) i ≡ some n = ap (get_elem? (roles t)) z ∙ h 0 n refl in
      ap₂ {C = List ℕ} (λ a b. a ++ b) (ap (λ (x : ℕ). node_words (role_node t x n)) (e ∙ sym (first_number t i n here)))
      (nodes_on (f + outputs (role_kind t n)) (suc i) ns (λ k m q. let y : suc i + k ≡ i + suc k = omega arith in ap (get_elem? (roles t)) y ∙ h (suc k) m q) (ap (λ (x : ℕ). x + outputs (role_kind t n)) e ∙ sym (first_next t i n here)))

  nodes_by_number : each node_words (nodes_from t (length (starts t)) (roles t)) ≡ joined (λ i. row_words t (get_elem? (roles t) i)) (plain_nodes t)
  unfolding plain_nodes
  nodes_by_number =
      nodes_on (length (starts t)) 0 (roles t) (λ k n h. let z : 0 + k ≡ k = omega arith in ap (get_elem? (roles t)) z ∙ h) (starts_long t ∙ sym (first_start t))
      ∙ sym (joined_along (row_words t) (roles t))

  -- ---- forks
  forks_on : (x f : ℕ) (ws : List Wire) → ((k : ℕ) (w : Wire) → get_elem? ws k ≡ some w → get_elem? (wires t) (x + k) ≡ some w) → f ≡ free_from t x
      → each node_words (forks_from t x ws f) ≡ joined (λ i. fork_words_at t (x + i)) (length ws)
  unfolding each joined total
  forks_on x f [] h e = refl
  forks_on x f (w ∷ ws) h e =
      let z : x ≡ x + 0 = omega arith in
      let here : get_elem? (wires t) x ≡ some w = ap (get_elem? (wires t)) z ∙ h 0 w refl in
      let n : length (users t w) ≡ use_count t x = users_are_counted t S x w here in
      let sorted : wire_sort t w ≡ wire_sort_at t x = sym (ap (sort_of_wire t) here) in
      let head : fork_rows (wire_sort t w) x (users t w) f ≡ fork_list (wire_sort_at t x) x (use_count t x) (free_from t x)
      = forks_counted (wire_sort t w) x (users t w) f ∙ ap₂ (λ (s k : ℕ). fork_list s x k f) sorted n ∙ ap (fork_list (wire_sort_at t x) x (use_count t x)) e in
      let on : f + fork_wires (users t w) ≡ free_from t (suc x)
      = ap₂ (λ (a b : ℕ). a + b) e (fork_wires_by_number (users t w) ∙ ap (λ (k : ℕ). 2 * (k - 1)) n) ∙ (let y : plain_wires t + total (fork_sum t) x + 2 * (use_count t x - 1) ≡ plain_wires t + (total (fork_sum t) x + fork_sum t x) = omega arith in y) in
      each_append node_words (fork_rows (wire_sort t w) x (users t w) f) (forks_from t (suc x) ws (f + fork_wires (users t w)))
      ∙ ap₂ {C = List ℕ} (λ a b. a ++ b)
      (ap (each node_words) head ∙ ap (fork_words_at t) z)
      (forks_on (suc x) (f + fork_wires (users t w)) ws (λ k v q. let y : suc x + k ≡ x + suc k = omega arith in ap (get_elem? (wires t)) y ∙ h (suc k) v q) on
      ∙ joined_same (λ i. fork_words_at t (suc x + i)) (λ i. fork_words_at t (x + suc i)) (length ws) (λ i l. let y : suc x + i ≡ x + suc i = omega arith in ap (fork_words_at t) y))
      ∙ sym (joined_first (λ i. fork_words_at t (x + i)) (length ws))

  forks_by_number : each node_words (forks_from t 0 (wires t) (plain_wires t)) ≡ joined (fork_words_at t) (plain_wires t)
  unfolding plain_wires total
  forks_by_number =
      forks_on 0 (plain_wires t) (wires t) (λ k w h. let z : 0 + k ≡ k = omega arith in ap (get_elem? (wires t)) z ∙ h) (let z : plain_wires t ≡ plain_wires t + 0 = omega arith in z)
      ∙ joined_same (λ i. fork_words_at t (0 + i)) (fork_words_at t) (length (wires t)) (λ i l. let z : 0 + i ≡ i = omega arith in ap (fork_words_at t) z)

  -- THE WORDS OF A LOWERED TABLE, PART BY PART
  pub lowered_by_number : lowered_words t
      ≡ node_total t ∷ wire_total t ∷ start_total t ∷ result_total t
      ∷ (joined (start_words t) (start_total t)
      ++ (joined (λ i. result_words t (get_elem? (out_rows t) i)) (result_total t)
      ++ (joined (λ i. row_words t (get_elem? (roles t) i)) (plain_nodes t) ++ joined (fork_words_at t) (plain_wires t))))
  unfolding lowered_words lowered_nodes
  lowered_by_number =
      ap (λ (l : List ℕ). node_total t ∷ wire_total t ∷ start_total t ∷ result_total t ∷ l)
      (ap₂ {C = List ℕ} (λ a b. a ++ b) starts_by_number
      (ap₂ {C = List ℕ} (λ a b. a ++ b) results_by_number
      (each_append node_words (nodes_from t (length (starts t)) (roles t)) (forks_from t 0 (wires t) (plain_wires t)) ∙ ap₂ {C = List ℕ} (λ a b. a ++ b) nodes_by_number forks_by_number)))
