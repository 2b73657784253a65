-- How starts and results are counted, and how the first nodes and outputs of the rows are added up. Assumes nothing.
use Prim.Native.Nat.{ℕ, suc, ◌+◌, ◌*◌, ◌≤◌, ◌<◌}
use mathlib.Core.Path.{◌≡◌, refl, sym, ap, ◌∙◌, subst}
use mathlib.Core.Logic.{◌≢◌, ◌⊎◌, inl, inr}
use mathlib.Core.Bool.{Bool, true}
use mathlib.Core.List.{List, [], ◌∷◌, ◌++◌, append-nil}
use native.Mathlib.Omega.{arith}
use native.Mathlib.Numerals.{add-one}
use native.Mathlib.Decide.{ℕ_discrete}
use lib.Dec.{eqb, leb}
use lib.ListN.{length, get_or, set, length-set, length-append}
use lib.Seq.{get_or-set_same, get_or-set_other}
use Rattle.word.specs.Words.{flag}
use Rattle.table.specs.Rows.{kind_at, size}
use Rattle.structure.specs.Structure.{Structure, right_table_has_structure}
use Rattle.lowered.specs.Gathered.{gathered, those, each}
use Rattle.lowered.specs.Roles.{Role, start}
use Rattle.lowered.specs.Sources.{carried, is_op}
use Rattle.lowered.specs.Lower.{carried_into, roles, role_outputs, row_roles, is_start, start_rows, out_rows, starts, wires, start_total, result_total, plain_nodes, plain_wires}
use Rattle.laid.specs.Bases.{node_base, wire_base, length_pieces, no_roles, node_base_op, node_base_for, node_base_arg, node_base_other, wire_base_op, wire_base_for, wire_base_arg}
use Rattle.laid.specs.Those.{those_more, those_few}
use Rattle.carrying.specs.Kept.{Passing, Counted, Bases, Low}

-- The bases of the rows before r, with the sums so far; the outputs are low.
pub record BasesBefore (t : List ℕ) (r : ℕ) (nodes wires : List ℕ) (node wire : ℕ) : Type 0 where
  pub nodes_long : length nodes ≡ 512
  pub wires_long : length wires ≡ 512
  pub nodes_noted : (q : ℕ) → q < r → get_or nodes q 0 ≡ node_base t q
  pub wires_noted : (q : ℕ) → q < r → get_or wires q 0 ≡ wire_base t q
  pub node_is : node ≡ node_base t r
  pub wire_is : wire ≡ wire_base t r
  pub node_small : node ≤ 2000 * r
  pub wire_small : wire ≤ 512 + 2000 * r
  pub low : Low wires

-- ---- starts and results
abbrev pub of_kind : (ℕ → Bool) → List ℕ → ℕ → ℕ
of_kind test t r = length (those (λ q. test (kind_at t q)) r)

pub none_counted : (test : ℕ → Bool) (t : List ℕ) → 0 ≡ of_kind test t 0
unfolding those
none_counted test t = refl

pub one_counted : (test : ℕ → Bool) (t : List ℕ) (r count k f : ℕ) → count ≡ of_kind test t r → k ≡ kind_at t r → f ≡ flag (test k) → count + f ≡ of_kind test t (r + 1)
one_counted test t r count k f e d q =
    let m = those_more (λ x. test (kind_at t x)) r in
    let z : f ≡ flag (test (kind_at t r)) = q ∙ ap (λ (x : ℕ). flag (test x)) d in
    (let s : count + f ≡ length (those (λ x. test (kind_at t x)) r) + flag (test (kind_at t r)) = omega arith in s)
    ∙ sym m ∙ ap (λ (x : ℕ). of_kind test t x) (sym (add-one r))

pub few_counted : (test : ℕ → Bool) (t : List ℕ) (r count : ℕ) → count ≡ of_kind test t r → count ≤ r
few_counted test t r count e = let z = those_few (λ x. test (kind_at t x)) r in omega arith

module _ (t : List ℕ) (n : ℕ) (p : Passing t n) where
  abbrev S : Structure t
  S = right_table_has_structure t p.right

  whole : (r : ℕ) → r ≤ n → n ≤ r → r ≡ size t
  whole r a b = let q = p.rows in omega arith

  pub all_starts : (r count : ℕ) → r ≤ n → n ≤ r → count ≡ of_kind (λ k. leb k 1) t r → (count ≡ start_total t) × (count ≤ 512)
  unfolding start_total start_rows
  all_starts r count a b e = (e ∙ ap (λ (x : ℕ). of_kind (λ k. leb k 1) t x) (whole r a b), let z = few_counted (λ k. leb k 1) t r count e in let f = p.few in omega arith)

  pub all_results : (r count : ℕ) → r ≤ n → n ≤ r → count ≡ of_kind (λ k. eqb k 8) t r → (count ≡ result_total t) × (count ≤ 512)
  unfolding result_total out_rows
  all_results r count a b e = (e ∙ ap (λ (x : ℕ). of_kind (λ k. eqb k 8) t x) (whole r a b), let z = few_counted (λ k. eqb k 8) t r count e in let f = p.few in omega arith)

  starts_few : start_total t ≤ 512
  unfolding start_total start_rows
  starts_few = let z = those_few (is_start t) (size t) in let f = S.few in omega arith

  -- ---- what a row adds
  module _ (counts : List ℕ) (C : Counted t counts) (r k : ℕ) (l : r < n) (e : k ≡ kind_at t r) where
    in_rows : r < size t
    in_rows = let q = p.rows in omega arith

    carried_count : k ≡ 4 → get_or counts r 0 ≡ length (carried_into t r)
    carried_count h = C.count r in_rows (sym e ∙ h)

    pub carried_few : k ≡ 4 → get_or counts r 0 ≤ 512
    unfolding carried_into
    carried_few h = let z = those_few (carried t r) (size t) in let f = S.few in let c = carried_count h in omega arith

    pub nodes_of_for : k ≡ 4 → node_base t (r + 1) ≡ node_base t r + (3 + 2 * get_or counts r 0)
    nodes_of_for h = ap (node_base t) (add-one r) ∙ node_base_for t r (sym e ∙ h) ∙ ap (λ (x : ℕ). node_base t r + (3 + 2 * x)) (sym (carried_count h))

    pub wires_of_for : k ≡ 4 → wire_base t (r + 1) ≡ wire_base t r + (5 + 3 * get_or counts r 0)
    wires_of_for h = ap (wire_base t) (add-one r) ∙ wire_base_for t r (sym e ∙ h) ∙ ap (λ (x : ℕ). wire_base t r + (5 + 3 * x)) (sym (carried_count h))

  no_wires : (r : ℕ) → row_roles t r ≡ [] → wire_base t (suc r) ≡ wire_base t r
  unfolding wire_base gathered
  no_wires r e = ap (λ (ns : List Role). start_total t + length (each (role_outputs t) (gathered (row_roles t) r ++ ns))) e ∙ ap (λ (ns : List Role). start_total t + length (each (role_outputs t) ns)) (append-nil (gathered (row_roles t) r))

  module _ (r k : ℕ) (e : k ≡ kind_at t r) where
    is_op_lem : (k ≡ 2) ⊎ (k ≡ 3) → is_op t r ≡ true
    is_op_lem (inl h) = rw (sym e ∙ h)
    is_op_lem (inr h) = rw (sym e ∙ h)

    none : k ≢ 4 → k ≢ 5 → k ≢ 2 → k ≢ 3 → row_roles t r ≡ []
    none a b c d = no_roles t r (λ z. c (e ∙ z)) (λ z. d (e ∙ z)) (λ z. a (e ∙ z)) (λ z. b (e ∙ z))

    pub nodes_of_arg : k ≡ 5 → node_base t (r + 1) ≡ node_base t r + 2
    nodes_of_arg h = ap (node_base t) (add-one r) ∙ node_base_arg t r (sym e ∙ h)

    pub nodes_of_op : (k ≡ 2) ⊎ (k ≡ 3) → node_base t (r + 1) ≡ node_base t r + 1
    nodes_of_op h = ap (node_base t) (add-one r) ∙ node_base_op t r (is_op_lem h)

    pub nodes_of_other : k ≢ 4 → k ≢ 5 → k ≢ 2 → k ≢ 3 → node_base t (r + 1) ≡ node_base t r + 0
    nodes_of_other a b c d = ap (node_base t) (add-one r) ∙ node_base_other t r (none a b c d) ∙ (let z : node_base t r ≡ node_base t r + 0 = omega arith in z)

    pub wires_of_arg : k ≡ 5 → wire_base t (r + 1) ≡ wire_base t r + 3
    wires_of_arg h = ap (wire_base t) (add-one r) ∙ wire_base_arg t r (sym e ∙ h)

    pub wires_of_op : (k ≡ 2) ⊎ (k ≡ 3) → wire_base t (r + 1) ≡ wire_base t r + 1
    wires_of_op h = ap (wire_base t) (add-one r) ∙ wire_base_op t r (is_op_lem h)

    pub wires_of_other : k ≢ 4 → k ≢ 5 → k ≢ 2 → k ≢ 3 → wire_base t (r + 1) ≡ wire_base t r + 0
    wires_of_other a b c d = ap (wire_base t) (add-one r) ∙ no_wires r (none a b c d) ∙ (let z : wire_base t r ≡ wire_base t r + 0 = omega arith in z)

  -- ---- all rows
  pub no_bases : (starts : ℕ) (nodes wires : List ℕ) → starts ≡ start_total t → length nodes ≡ 512 → length wires ≡ 512 → Low wires → BasesBefore t 0 nodes wires 0 starts
  unfolding node_base wire_base gathered each
  no_bases starts nodes wires e a b w =
      record {
        nodes_long = a;
        wires_long = b;
        nodes_noted = λ q h. absurd (omega arith);
        wires_noted = λ q h. absurd (omega arith);
        node_is = refl;
        wire_is = e ∙ (let z : start_total t ≡ start_total t + 0 = omega arith in z);
        node_small = omega arith;
        wire_small = let z = starts_few in omega arith;
        low = w;
      }

  noted_at : (r x : ℕ) (base : ℕ → ℕ) (notes : List ℕ) → length notes ≡ 512 → r < n → x ≡ base r → ((q : ℕ) → q < r → get_or notes q 0 ≡ base q)
      → (q : ℕ) → q < r + 1 → get_or (set notes r x) q 0 ≡ base q
  noted_at r x base notes long l e N q h =
      elim (ℕ_discrete q r) [
        | yes z ↦ ap (λ (i : ℕ). get_or (set notes r x) i 0) z ∙ get_or-set_same notes r x 0 (let f = p.few in omega arith) ∙ e ∙ ap base (sym z)
        | no z ↦ get_or-set_other notes r q x 0 z ∙ N q (under z h)
      ]
    where
      under : q ≢ r → q < r + 1 → q < r
      under z h = omega arith

  pub one_base : (r node wire x y : ℕ) (nodes wires : List ℕ) → r < n → BasesBefore t r nodes wires node wire
      → (node_base t (r + 1) ≡ node_base t r + x) × (x ≤ 2000) → (wire_base t (r + 1) ≡ wire_base t r + y) × (y ≤ 2000)
      → BasesBefore t (r + 1) (set nodes r node) (set wires r wire) (node + x) (wire + y)
  one_base r node wire x y nodes wires l B a b =
      record {
        nodes_long = length-set nodes r node ∙ B.nodes_long;
        wires_long = length-set wires r wire ∙ B.wires_long;
        nodes_noted = noted_at r node (node_base t) nodes B.nodes_long l B.node_is B.nodes_noted;
        wires_noted = noted_at r wire (wire_base t) wires B.wires_long l B.wire_is B.wires_noted;
        node_is = ap (λ (z : ℕ). z + x) B.node_is ∙ sym a.0;
        wire_is = ap (λ (z : ℕ). z + y) B.wire_is ∙ sym b.0;
        node_small = let z = B.node_small in let s = a.1 in omega arith;
        wire_small = let z = B.wire_small in let s = b.1 in omega arith;
        low = λ q. elim (ℕ_discrete q r) [ yes z ↦ here q z | no z ↦ subst (λ (w : ℕ). w ≤ 100000000) (sym (get_or-set_other wires r q wire 0 z)) (B.low q) ];
      }
    where
      here : (q : ℕ) → q ≡ r → get_or (set wires r wire) q 0 ≤ 100000000
      here q z =
          let e : get_or (set wires r wire) q 0 ≡ wire = ap (λ (i : ℕ). get_or (set wires r wire) i 0) z ∙ get_or-set_same wires r wire 0 (let f = p.few in let g = B.wires_long in omega arith) in
          let f = p.few in
          let s = B.wire_small in
          omega arith

  all_nodes : node_base t (size t) ≡ plain_nodes t
  unfolding node_base plain_nodes roles
  all_nodes = refl

  all_wires : wire_base t (size t) ≡ plain_wires t
  unfolding wire_base plain_wires roles wires starts start_total
  all_wires =
      let a = length-append (each (λ r. start r ∷ []) (start_rows t)) (each (role_outputs t) (gathered (row_roles t) (size t))) in
      let b = length_pieces (λ r. start r ∷ []) 1 (λ r. refl) (start_rows t) in
      omega arith

  pub all_bases : (r node wire : ℕ) (nodes wires : List ℕ) → r ≤ n → n ≤ r → BasesBefore t r nodes wires node wire
      → Bases t nodes wires × (node ≡ plain_nodes t) × (wire ≡ plain_wires t) × Low wires
  all_bases r node wire nodes wires a b B =
      let s = whole r a b in (
        record {
          nodes_long = B.nodes_long;
          wires_long = B.wires_long;
          node = λ q h. B.nodes_noted q (omega arith);
          wire = λ q h. B.wires_noted q (omega arith);
        },
        B.node_is ∙ ap (node_base t) s ∙ all_nodes,
        B.wire_is ∙ ap (wire_base t) s ∙ all_wires,
        B.low,
      )
