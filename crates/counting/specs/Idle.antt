-- THE COUNTS OF A TABLE'S GRAPH BY ITS ROWS, forks and drains too: from how many uses there are, and how many wires have none.
--
--   idle                  1 where a wire has no use, else 0
--   row_uses, row_idle      the uses that a row's nodes and results have, the wires without a use that it gives
--   totals_by_rows        the counts with forks
--   uses-of-.., idle-of-..        both by the row's kind
--   named_any              some row names a value
--
-- Assumes nothing.
use Rattle.std.specs.Prelude.{ℕ, zero, suc, ◌+◌, ◌-◌, ◌*◌, ◌<◌, ◌≤◌, ◌≡◌, ◌≢◌, ◌⊎◌, Bool, true, false, cond, not}
use Rattle.std.proofs.Math.Path.{refl, sym, ap}
use Rattle.std.proofs.Common.{◌∙◌, subst, inl, inr}
use Rattle.std.proofs.lemmas.Bool.{false≢true}
use mathlib.Core.List.{List, [], ◌∷◌}
use Rattle.std.proofs.Math.Option.{Option, none, some}
use native.Mathlib.Omega.{arith}
use borrow.Author.Tests.{eq-eqb, ne_eqb, eqb-true, le-leb, lt-leb}
use Rattle.std.proofs.Math.Dec.{eqb}
use Rattle.std.proofs.Math.ListN.{length, get_elem?, length-append}
use Rattle.word.specs.Words.{flag}
use Rattle.step.specs.Kinds.{out0, out1}
use Rattle.graph.specs.Below.{total, times}
use Rattle.table.specs.Rows.{kind_at, size, operand_count}
use Rattle.table.specs.Bodies.{operand, next_of}
use Rattle.structure.specs.Structure.{Structure, in_table}
use Rattle.lowered.specs.Gathered.{gathered, those, some?, each}
use Rattle.lowered.specs.Lists.{Among, has_elem, below_or_last}
use Rattle.lowered.specs.Roles.{Role, op_node, stream, gate, guard, copy_split, copy_invariant, carry, arg_split, Wire, start, output, Use}
use Rattle.lowered.specs.Sources.{names, carried, home_wire, is_op, source}
use Rattle.lowered.specs.Lower.{carried_into, row_roles, roles, is_start, start_rows, starts, role_outputs, wires, is_out, out_rows, uses, users, fork_nodes, fork_wires, all_fork_nodes, all_fork_wires, users_each, all_users, plain_nodes, plain_wires, wire_number, node_total, wire_total}
use Rattle.laid.specs.Lists.{those_from, those_has, position_below}
use Rattle.lowered.specs.Roles.{same_wire}
use Rattle.laid.specs.Indexed.{sum_of, sum_append, total_along, total_same, each_append}
use Rattle.laid.specs.Legs.{standing}
use Rattle.laid.specs.Bases.{length_pieces, no_roles, for_outputs, arg_outputs, op_outputs}
use Rattle.laid.specs.Made.{home_of_start, home_of_op, home_of_for, home_of_arg, home_of_next}
use Rattle.laid.specs.Reached.{some_from, some_has}
use Rattle.laid.specs.Taken.{made}
use Rattle.laid.specs.Counts.{source_number, source_number_lem, use_wires, users_are_counted, fork_nodes_by_number, fork_wires_by_number}
use Rattle.laid.specs.Sourced.{row_sources, copy_sources, out_source, use_wires_by_rows}
use Rattle.counting.specs.Used.{Used, index_used, raw_used, leg_used, guard_used, condition_used, carry_used, value_used, copy_used, exit_unused, guard_carries, condition_carries, used_is_named}

-- ---- sums

total_each : {A : Type 0} (H : ℕ → ℕ) (F : A → ℕ) (xs : List A) → ((i : ℕ) (x : A) → get_elem? xs i ≡ some x → H i ≡ F x) → total H (length xs) ≡ sum_of F xs
total_each {A} H F xs h =
    total_same H (λ i. given (get_elem? xs i)) (length xs) (λ i l. let m = has_elem xs i l in h i m.0 m.1 ∙ sym (ap given m.1)) ∙ total_along given xs
  where
    given : Option A → ℕ
    given none = 0
    given (some x) = F x

zeros : (n : ℕ) → total (λ k. 0) n ≡ 0
unfolding total
zeros zero = refl
zeros (suc n) = let r = zeros n in omega arith

total_sum : (f g : ℕ → ℕ) (n : ℕ) → total (λ k. f k + g k) n ≡ total f n + total g n
unfolding total
total_sum f g zero = refl
total_sum f g (suc n) = let r = total_sum f g n in omega arith

no_flag : (x n : ℕ) → n ≤ x → total (λ k. flag (eqb k x)) n ≡ 0
unfolding total
no_flag x zero h = refl
no_flag x (suc n) h = let r = no_flag x n (omega arith) in rw (ne_eqb n x (λ e. omega arith)) (omega arith)

one_flag : (x n : ℕ) → x < n → total (λ k. flag (eqb k x)) n ≡ 1
unfolding total
one_flag x zero h = absurd (omega arith)
one_flag x (suc n) h =
    elim (below_or_last x n h) [
      | inl q ↦ (let r = one_flag x n q in rw (ne_eqb n x (λ e. omega arith)) (omega arith))
      | inr q ↦ (let r = no_flag x n (omega arith) in rw (eq-eqb n x (sym q)) (omega arith))
    ]

abbrev AllBelow : ℕ → List ℕ → Type 0
AllBelow n [] = Unit {0}
AllBelow n (x ∷ xs) = (x < n) × AllBelow n xs

-- how often the numbers below n stand in a list of such numbers
count_all : (n : ℕ) (xs : List ℕ) → AllBelow n xs → total (λ k. times k xs) n ≡ length xs
unfolding times
count_all n [] b = zeros n
count_all n (x ∷ xs) b =
    let r = count_all n xs b.1 in
    let o = one_flag x n b.0 in
    let s = total_sum (λ k. flag (eqb k x)) (λ k. times k xs) n in
    omega arith

length_gathered : {A : Type 0} (f : ℕ → List A) (n : ℕ) → length (gathered f n) ≡ total (λ r. length (f r)) n
unfolding gathered total
length_gathered f zero = refl
length_gathered f (suc n) = let r = length_gathered f n in let a = length-append (gathered f n) (f n) in omega arith

-- sums over lists made row by row
sum_gathered : {A : Type 0} (h : A → ℕ) (g : Role → List A) (f : ℕ → List Role) (n : ℕ) → sum_of h (each g (gathered f n)) ≡ total (λ r. sum_of h (each g (f r))) n
unfolding gathered total each
sum_gathered h g f zero = refl
sum_gathered h g f (suc n) =
    let r = sum_gathered h g f n in
    let a = ap (sum_of h) (each_append g (gathered f n) (f n)) in
    let b = sum_append h (each g (gathered f n)) (each g (f n)) in
    omega arith

sum_those : {A : Type 0} (h : A → ℕ) (g : ℕ → List A) (test : ℕ → Bool) (n : ℕ) → sum_of h (each g (those test n)) ≡ total (λ r. sum_of h (each g (cond (test r) (r ∷ []) []))) n
unfolding those total each
sum_those h g test zero = refl
sum_those h g test (suc n) =
    let r = sum_those h g test n in
    let a = ap (sum_of h) (each_append g (those test n) (cond (test n) (n ∷ []) [])) in
    let b = sum_append h (each g (those test n)) (each g (cond (test n) (n ∷ []) [])) in
    omega arith

pub length_those : (test : ℕ → Bool) (n : ℕ) → length (those test n) ≡ total (λ r. flag (test r)) n
unfolding those total
length_those test zero = refl
length_those test (suc n) =
    let r = length_those test n in
    let a = length-append (those test n) (cond (test n) (n ∷ []) []) in
    let o = one (test n) in
    omega arith
  where
    one : (b : Bool) → length (cond b (n ∷ []) []) ≡ flag b
    one true = refl
    one false = refl

-- ---- named values
unfoldable pub named_any : List ℕ → ℕ → Bool
named_any t v = some? (λ r. names t r v) (size t)

module _ (t : List ℕ) where
  pub named_from : (v : ℕ) → named_any t v ≡ true → (r : ℕ) × (j : ℕ) × (r < size t) × (j < operand_count (kind_at t r)) × (operand t r j ≡ v)
  unfolding named_any names
  named_from v h =
      let a = some_from (λ r. some? (λ j. eqb (operand t r j) v) (operand_count (kind_at t r))) (size t) h in
      let b = some_from (λ j. eqb (operand t a.0 j) v) (operand_count (kind_at t a.0)) a.2 in
      (a.0, b.0, a.1, b.1, eqb-true (operand t a.0 b.0) v b.2)

  pub named_by : (r j v : ℕ) → r < size t → j < operand_count (kind_at t r) → operand t r j ≡ v → named_any t v ≡ true
  unfolding named_any names
  named_by r j v l h e =
      some_has (λ r. some? (λ j. eqb (operand t r j) v) (operand_count (kind_at t r))) (size t) r l
      (some_has (λ j. eqb (operand t r j) v) (operand_count (kind_at t r)) j h (eq-eqb (operand t r j) v e))

  named_not : (v : ℕ) → named_any t v ≡ false → (r : ℕ) × (j : ℕ) × (r < size t) × (j < operand_count (kind_at t r)) × (operand t r j ≡ v) → ⊥
  named_not v e n = false≢true (sym e ∙ named_by n.0 n.1 v n.2 n.3 n.4)

  carried_in : (L v : ℕ) → Among v (carried_into t L) → (v < size t) × (carried t L v ≡ true)
  unfolding carried_into
  carried_in L v h = those_from (carried t L) (size t) v h

  in_carried : (L v : ℕ) → v < size t → carried t L v ≡ true → Among v (carried_into t L)
  unfolding carried_into
  in_carried L v l c = those_has (carried t L) (size t) v l c

-- ---- a wire without a use
module _ (t : List ℕ) where
  unfoldable pub idle : Wire → ℕ
  idle w = flag (eqb (length (users t w)) 0)

  -- what forks and drains add, from the uses of a wire and whether there are any
  fork_sum_lem : (us : List Use) → (fork_nodes us + 1 ≡ length us + 2 * flag (eqb (length us) 0)) × (fork_wires us + 2 ≡ 2 * length us + 2 * flag (eqb (length us) 0))
  fork_sum_lem [] = (refl, refl)
  fork_sum_lem (u ∷ us) = go (length us) (fork_nodes_by_number (u ∷ us)) (fork_wires_by_number (u ∷ us))
    where
      go : (k : ℕ) → fork_nodes (u ∷ us) ≡ cond (eqb (suc k) 0) 1 (suc k - 1) → fork_wires (u ∷ us) ≡ 2 * (suc k - 1)
          → (fork_nodes (u ∷ us) + 1 ≡ suc k + 2 * flag (eqb (suc k) 0)) × (fork_wires (u ∷ us) + 2 ≡ 2 * suc k + 2 * flag (eqb (suc k) 0))
      go k a b =
          let a' : fork_nodes (u ∷ us) ≡ suc k - 1 = rw (ne_eqb (suc k) 0 (λ z. omega arith)) at a in
          rw (ne_eqb (suc k) 0 (λ z. omega arith)) (omega arith, omega arith)

  fork_sums : (ws : List Wire) → (all_fork_nodes (users_each t ws) + length ws ≡ sum_of (λ w. length (users t w)) ws + 2 * sum_of idle ws)
      × (all_fork_wires (users_each t ws) + 2 * length ws ≡ 2 * sum_of (λ w. length (users t w)) ws + 2 * sum_of idle ws)
  unfolding idle
  fork_sums [] = (refl, refl)
  fork_sums (w ∷ ws) =
      let f = fork_sum_lem (users t w) in
      let r = fork_sums ws in
      let f0 = f.0 in
      let f1 = f.1 in
      let r0 = r.0 in
      let r1 = r.1 in
      (omega arith, omega arith)

  -- ---- by rows

  -- the uses of a row's nodes, and its result
  unfoldable pub row_uses : ℕ → ℕ
  row_uses r = length (row_sources t r) + flag (is_out t r)

  -- the wires without a use among its start and the outputs of its nodes
  unfoldable pub row_idle : ℕ → ℕ
  row_idle r = sum_of idle (each (λ q. start q ∷ []) (cond (is_start t r) (r ∷ []) [])) + sum_of idle (each (role_outputs t) (row_roles t r))

  idle_by_rows : sum_of idle (wires t) ≡ total row_idle (size t)
  unfolding wires starts start_rows roles row_idle
  idle_by_rows =
      let a = sum_append idle (each (λ r. start r ∷ []) (those (is_start t) (size t))) (each (role_outputs t) (gathered (row_roles t) (size t))) in
      let b = sum_those idle (λ r. start r ∷ []) (is_start t) (size t) in
      let c = sum_gathered idle (role_outputs t) (row_roles t) (size t) in
      let d = total_sum (λ r. sum_of idle (each (λ q. start q ∷ []) (cond (is_start t r) (r ∷ []) []))) (λ r. sum_of idle (each (role_outputs t) (row_roles t r))) (size t) in
      omega arith

  module _ (S : Structure t) where
    uses_by_rows : length (use_wires t) ≡ total row_uses (size t)
    unfolding row_uses out_rows each
    uses_by_rows =
        let a = ap length (use_wires_by_rows t S) in
        let b = length-append (gathered (row_sources t) (size t)) (each (out_source t S) (those (is_out t) (size t))) in
        let c = length_gathered (row_sources t) (size t) in
        let d = length_pieces (out_source t S) 1 (λ q. refl) (those (is_out t) (size t)) in
        let e = length_those (is_out t) (size t) in
        let f = total_sum (λ r. length (row_sources t r)) (λ r. flag (is_out t r)) (size t) in
        omega arith

    sources_below : (us : List Use) → ((u : Use) → Among u us → (v : Wire) × (source t u ≡ some v) × Among v (wires t)) → AllBelow (length (wires t)) (standing (source_number t) us)
    unfolding wire_number
    sources_below [] m = tt
    sources_below (u ∷ us) m =
        let s = m u (inl refl) in
        let e = source_number_lem t S u s.0 s.1 in
        (subst (λ (x : ℕ). x < length (wires t)) (sym e) (position_below same_wire s.0 (wires t) s.2), sources_below us (λ v q. m v (inr q)))

    users_sum : sum_of (λ w. length (users t w)) (wires t) ≡ total row_uses (size t)
    unfolding use_wires
    users_sum =
        sym (total_each (λ k. times k (standing (source_number t) (uses t))) (λ w. length (users t w)) (wires t) (λ i w h. sym (users_are_counted t S i w h)))
        ∙ count_all (length (wires t)) (standing (source_number t) (uses t)) (sources_below (uses t) (made t S)) ∙ uses_by_rows

    -- THE COUNTS WITH FORKS, BY ROWS
    pub totals_by_rows : (node_total t + plain_wires t ≡ plain_nodes t + total row_uses (size t) + 2 * total row_idle (size t))
        × (wire_total t + plain_wires t ≡ 2 * total row_uses (size t) + 2 * total row_idle (size t))
    unfolding node_total wire_total all_users plain_wires
    totals_by_rows =
        let f = fork_sums (wires t) in
        let f0 = f.0 in
        let f1 = f.1 in
        let u = users_sum in
        let i = idle_by_rows in
        (omega arith, omega arith)

    -- ---- wires, used or not
    idle_used : (w : Wire) → Used t S w → idle w ≡ 0
    unfolding idle
    idle_used w u = go (users t w) u.1
      where
        go : (us : List Use) → Among u.0 us → flag (eqb (length us) 0) ≡ 0
        go [] h = absurd h
        go (x ∷ us) h = rw (ne_eqb (suc (length us)) 0 (λ z. omega arith))

    idle_unused : (w : Wire) → (Used t S w → ⊥) → idle w ≡ 1
    unfolding idle
    idle_unused w n = go (users t w) (λ u h. n (u, h))
      where
        go : (us : List Use) → ((u : Use) → Among u us → ⊥) → flag (eqb (length us) 0) ≡ 1
        go [] h = refl
        go (x ∷ us) h = absurd (h x (inl refl))

    idle_home : (v : ℕ) → v < size t → kind_at t v ≤ 6 → idle (home_wire t v) ≡ flag (not (named_any t v))
    idle_home v l k = go (named_any t v) refl
      where
        go : (b : Bool) → named_any t v ≡ b → idle (home_wire t v) ≡ flag (not b)
        go true e = let n = named_from t v e in idle_used (home_wire t v) (subst (λ (x : ℕ). Used t S (home_wire t x)) n.4 (value_used t S n.0 n.1 n.2 n.3))
        go false e = idle_unused (home_wire t v) (λ u. named_not t v e (used_is_named t S v l k u))

    loop_idle : (L : ℕ) → L < size t → kind_at t L ≡ 4
        → (idle (output (guard L) out0) ≡ flag (eqb (length (carried_into t L)) 0)) × (idle (output (gate L) out1) ≡ flag (eqb (length (carried_into t L)) 0))
    loop_idle L l k = go (carried_into t L) (carried_in t L) (in_carried t L)
      where
        go : (vs : List ℕ) → ((v : ℕ) → Among v vs → (v < size t) × (carried t L v ≡ true)) → ((v : ℕ) → v < size t → carried t L v ≡ true → Among v vs)
            → (idle (output (guard L) out0) ≡ flag (eqb (length vs) 0)) × (idle (output (gate L) out1) ≡ flag (eqb (length vs) 0))
        go [] f h = (
          idle_unused (output (guard L) out0) (λ u. let c = guard_carries t S L u in h c.0 c.1 c.2),
          idle_unused (output (gate L) out1) (λ u. let c = condition_carries t S L u in h c.0 c.1 c.2),
        )
        go (v ∷ vs) f h =
            let c = f v (inl refl) in
            rw (ne_eqb (suc (length vs)) 0 (λ z. omega arith))
            (idle_used (output (guard L) out0) (guard_used t S L l k v c.0 c.1), idle_used (output (gate L) out1) (condition_used t S L l k v c.0 c.1))

    copies_idle : (L : ℕ) → L < size t → kind_at t L ≡ 4 → (vs : List ℕ) → ((v : ℕ) → Among v vs → (v < size t) × (carried t L v ≡ true))
        → sum_of idle (each (λ v. output (copy_split L v) out0 ∷ output (copy_split L v) out1 ∷ output (copy_invariant L v) out0 ∷ []) vs) ≡ length vs
    unfolding each
    copies_idle L l k [] f = refl
    copies_idle L l k (v ∷ vs) f =
        let c = f v (inl refl) in
        let a = idle_used (output (copy_split L v) out0) (leg_used t S L l k v c.0 c.1) in
        let b = idle_unused (output (copy_split L v) out1) (exit_unused t S L v) in
        let d = idle_used (output (copy_invariant L v) out0) (copy_used t S L v l k c.1) in
        let r = copies_idle L l k vs (λ x m. f x (inr m)) in
        omega arith

    -- ---- by kind

    outputs_idle : (r : ℕ) → 1 < kind_at t r → row_idle r ≡ sum_of idle (each (role_outputs t) (row_roles t r))
    unfolding row_idle each
    outputs_idle r h = rw (lt-leb (kind_at t r) 1 h) (omega arith)

    pub idle_of_start : (r : ℕ) → r < size t → kind_at t r ≤ 1 → row_idle r ≡ flag (not (named_any t r))
    unfolding row_idle each
    idle_of_start r l k =
        let e = no_roles t r (λ z. omega arith) (λ z. omega arith) (λ z. omega arith) (λ z. omega arith) in
        let i : idle (start r) ≡ flag (not (named_any t r)) = ap idle (sym (home_of_start t r k)) ∙ idle_home r l (omega arith) in
        rw (le-leb (kind_at t r) 1 k, e) (omega arith)

    pub idle_of_op : (r : ℕ) → r < size t → (kind_at t r ≡ 2) ⊎ (kind_at t r ≡ 3) → row_idle r ≡ flag (not (named_any t r))
    idle_of_op r l k =
        let i : idle (output (op_node r) out0) ≡ flag (not (named_any t r)) = ap idle (sym (home_of_op t r k)) ∙ idle_home r l (low k) in
        outputs_idle r (high k) ∙ ap (sum_of idle) (op_outputs t r (is_op_lem k)) ∙ (let z : idle (output (op_node r) out0) + 0 ≡ flag (not (named_any t r)) = omega arith in z)
      where
        low : (kind_at t r ≡ 2) ⊎ (kind_at t r ≡ 3) → kind_at t r ≤ 6
        low (inl e) = omega arith
        low (inr e) = omega arith

        high : (kind_at t r ≡ 2) ⊎ (kind_at t r ≡ 3) → 1 < kind_at t r
        high (inl e) = omega arith
        high (inr e) = omega arith

        is_op_lem : (kind_at t r ≡ 2) ⊎ (kind_at t r ≡ 3) → is_op t r ≡ true
        is_op_lem (inl e) = rw e
        is_op_lem (inr e) = rw e

    pub idle_of_for : (L : ℕ) → L < size t → kind_at t L ≡ 4 → row_idle L ≡ flag (not (named_any t L)) + length (carried_into t L) + 2 * flag (eqb (length (carried_into t L)) 0)
    idle_of_for L l k =
        let a = idle_used (output (stream L) out0) (index_used t S L l k) in
        let b = idle_used (output (stream L) out1) (raw_used t S L l k) in
        let c : idle (output (gate L) out0) ≡ flag (not (named_any t L)) = ap idle (sym (home_of_for t L k)) ∙ idle_home L l (omega arith) in
        let d = loop_idle L l k in
        let d0 = d.0 in
        let d1 = d.1 in
        let e = copies_idle L l k (carried_into t L) (carried_in t L) in
        outputs_idle L (omega arith) ∙ ap (sum_of idle) (for_outputs t L k)
        ∙ (let z : idle (output (stream L) out0) + (idle (output (stream L) out1) + (idle (output (gate L) out0) + (idle (output (gate L) out1) + (idle (output (guard L) out0)
        + sum_of idle (each (λ v. output (copy_split L v) out0 ∷ output (copy_split L v) out1 ∷ output (copy_invariant L v) out0 ∷ []) (carried_into t L))))))
        ≡ flag (not (named_any t L)) + length (carried_into t L) + 2 * flag (eqb (length (carried_into t L)) 0) = omega arith in z)

    pub idle_of_arg : (a : ℕ) → a < size t → kind_at t a ≡ 5 → row_idle a ≡ flag (not (named_any t a)) + flag (not (named_any t (next_of t a)))
    idle_of_arg a l k =
        let n = S.arg_row a l k in
        let nk = n.next_kind in
        let x = idle_used (output (carry a) out0) (carry_used t S a l k) in
        let y : idle (output (arg_split a) out0) ≡ flag (not (named_any t a)) = ap idle (sym (home_of_arg t a k)) ∙ idle_home a l (omega arith) in
        let h : home_wire t (next_of t a) ≡ output (arg_split a) out1 = home_of_next t (next_of t a) nk ∙ ap (λ (b : ℕ). output (arg_split b) out1) n.next_arg in
        let z : idle (output (arg_split a) out1) ≡ flag (not (named_any t (next_of t a))) = ap idle (sym h) ∙ idle_home (next_of t a) (in_table t S (next_of t a) (λ q. omega arith)) (omega arith) in
        outputs_idle a (omega arith) ∙ ap (sum_of idle) (arg_outputs t a k)
        ∙ (let q : idle (output (carry a) out0) + (idle (output (arg_split a) out0) + (idle (output (arg_split a) out1) + 0)) ≡ flag (not (named_any t a)) + flag (not (named_any t (next_of t a))) = omega arith in q)

    pub idle_of_other : (r : ℕ) → 5 < kind_at t r → row_idle r ≡ 0
    unfolding each
    idle_of_other r h =
        outputs_idle r (omega arith)
        ∙ ap (λ (ns : List Role). sum_of idle (each (role_outputs t) ns)) (no_roles t r (λ z. omega arith) (λ z. omega arith) (λ z. omega arith) (λ z. omega arith))

  -- the uses of a row, by its kind
  pub uses_of_op : (r : ℕ) → kind_at t r ≡ 2 → row_uses r ≡ 2
  unfolding row_uses row_sources
  uses_of_op r k = rw k

  pub uses_of_pick : (r : ℕ) → kind_at t r ≡ 3 → row_uses r ≡ 3
  unfolding row_uses row_sources
  uses_of_pick r k = rw k

  pub uses_of_for : (L : ℕ) → kind_at t L ≡ 4 → row_uses L ≡ 7 + 4 * length (carried_into t L)
  unfolding row_uses row_sources
  uses_of_for L k = let c = length_pieces (copy_sources t L) 4 (λ v. refl) (carried_into t L) in rw k (omega arith)

  pub uses_of_arg : (r : ℕ) → kind_at t r ≡ 5 → row_uses r ≡ 5
  unfolding row_uses row_sources
  uses_of_arg r k = rw k

  pub uses_of_out : (r : ℕ) → kind_at t r ≡ 8 → row_uses r ≡ 1
  unfolding row_uses row_sources
  uses_of_out r k = rw k

  pub uses_of_other : (r : ℕ) → kind_at t r ≢ 2 → kind_at t r ≢ 3 → kind_at t r ≢ 4 → kind_at t r ≢ 5 → kind_at t r ≢ 8 → row_uses r ≡ 0
  unfolding row_uses row_sources
  uses_of_other r a b c d e = rw (ne_eqb (kind_at t r) 2 a, ne_eqb (kind_at t r) 3 b, ne_eqb (kind_at t r) 4 c, ne_eqb (kind_at t r) 5 d, ne_eqb (kind_at t r) 8 e)
