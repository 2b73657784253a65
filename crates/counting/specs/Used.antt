-- WHICH WIRES ARE USED: by what feeds each input.
--
--   Used, Fed             a wire has a use; what a used wire is
--   used_fed              a wire that is used is one of these
--   value_used, value-unused          a value's wire at home is used exactly if some row names the value
--   copy_used             a copy is used
--
-- Assumes nothing.
use Rattle.std.specs.Prelude.{ℕ, zero, suc, ◌<◌, ◌≤◌, ◌≡◌, ◌≢◌, ◌⊎◌, Bool, cond, List, eqb}
use Rattle.std.proofs.Math.Path.{refl, ap}
use Rattle.std.proofs.Common.{sym, ◌∙◌, subst, eq-eqb, ne_eqb, eqb-true}
use Rattle.std.proofs.Math.Logic.{inl, inr}
use Rattle.std.proofs.Math.Bool.{true, false}
use Rattle.std.proofs.Math.Option.{Option, some}
use native.Mathlib.Omega.{arith}
use Rattle.std.proofs.Math.Decide.{ℕ_discrete}
use Rattle.step.specs.Kinds.{Input, in0, in1, in2, Output, out0, out1}
use Rattle.table.specs.Rows.{kind_at, size, operand_count}
use Rattle.table.specs.Scan.{body_of, reads, home}
use Rattle.table.specs.Bodies.{operand, arg_of, next_of}
use Rattle.structure.specs.Spans.{Encloses}
use Rattle.structure.specs.Structure.{Structure, in_table}
use Rattle.lowered.specs.Lists.{Among, none_some}
use Rattle.lowered.specs.Roles.{Role, op_node, stream, gate, guard, copy_split, copy_invariant, carry, arg_split, Wire, start, output, Use, into, result}
use Rattle.lowered.specs.Sources.{carried, home_wire, value_wire, nothing, named, is_op, is_for, is_arg_row, role_feed, wire_of, source}
use Rattle.lowered.specs.Lower.{is_out, users}
use Rattle.laid.specs.Listed.{Real, and_true, and_both}
use Rattle.laid.specs.Made.{op_kind, node_feed, result_feed, home_of_start, home_of_op, home_of_for, home_of_arg, home_of_next}
use Rattle.laid.specs.Uses.{listed_use_is, node_use_is_listed, result_use_is_listed, users_are, users_has}
use Rattle.laid.specs.Reached.{carried_by}
use Rattle.laid.specs.Scanned.{Walks, here, further, out_of, at_the_rim, around_body, reads_body_or_rim, walked_is_carried, carried_is_walked}
use Rattle.naming.specs.Names.{wire_what, wire_row}

module _ (t : List ℕ) (S : Structure t) where
  abbrev pub Used : Wire → Type 0
  Used w = (u : Use) × Among u (users t w)

  used_by : (n : Role) (k : Input) (w : Wire) → Real t n → wire_of t (role_feed t n k) ≡ some w → Used w
  used_by n k w l e = let s = node_feed t n k l.there ∙ e in (into n k, users_has t w (into n k) (node_use_is_listed t n k w l s) s)

  -- ---- nodes of the table
  op_real : (r : ℕ) → r < size t → (kind_at t r ≡ 2) ⊎ (kind_at t r ≡ 3) → Real t (op_node r)
  op_real r l (inl k) = record { row = l; value = l; there = rw k }
  op_real r l (inr k) = record { row = l; value = l; there = rw k }

  module _ (L : ℕ) (l : L < size t) (k : kind_at t L ≡ 4) where
    stream_real : Real t (stream L)
    stream_real = record { row = l; value = l; there = eq-eqb (kind_at t L) 4 k }

    gate_real : Real t (gate L)
    gate_real = record { row = l; value = l; there = eq-eqb (kind_at t L) 4 k }

    module _ (v : ℕ) (lv : v < size t) (c : carried t L v ≡ true) where
      split_real : Real t (copy_split L v)
      split_real = record { row = l; value = lv; there = and_true (is_for t L) (carried t L v) (eq-eqb (kind_at t L) 4 k) c }

      copy_real : Real t (copy_invariant L v)
      copy_real = record { row = l; value = lv; there = and_true (is_for t L) (carried t L v) (eq-eqb (kind_at t L) 4 k) c }

      pub leg_used : Used (output (copy_split L v) out0)
      leg_used = used_by (copy_invariant L v) in1 (output (copy_split L v) out0) copy_real refl

      pub guard_used : Used (output (guard L) out0)
      guard_used = used_by (copy_split L v) in0 (output (guard L) out0) split_real refl

      pub condition_used : Used (output (gate L) out1)
      condition_used = used_by (copy_invariant L v) in0 (output (gate L) out1) copy_real refl

      -- a copy's own source
      at_copy : Used (value_wire t v (body_of t L))
      at_copy = subst (λ (B : ℕ). Used (value_wire t v B)) (S.reads_body L (λ z. omega arith)) (used_by (copy_split L v) in1 (value_wire t v (reads t L)) split_real refl)

    pub index_used : Used (output (stream L) out0)
    index_used = used_by (gate L) in0 (output (stream L) out0) gate_real refl

    pub raw_used : Used (output (stream L) out1)
    raw_used = used_by (gate L) in1 (output (stream L) out1) gate_real refl

  module _ (a : ℕ) (l : a < size t) (k : kind_at t a ≡ 5) where
    carry_real : Real t (carry a)
    carry_real = record { row = l; value = l; there = eq-eqb (kind_at t a) 5 k }

    pub carry_used : Used (output (carry a) out0)
    carry_used = used_by (arg_split a) in1 (output (carry a) out0) (record { row = l; value = l; there = eq-eqb (kind_at t a) 5 k }) refl

  -- ---- operands
  at_row : (r j : ℕ) → r < size t → j < operand_count (kind_at t r) → Used (value_wire t (operand t r j) (reads t r))
  unfolding operand_count
  at_row r j l h = go (kind_at t r) j refl h
    where
      third : kind_at t r ≡ 3 → wire_of t (role_feed t (op_node r) in2) ≡ some (value_wire t (operand t r 2) (reads t r))
      third e = ap (λ (b : Bool). wire_of t (cond b (named t r 2) nothing)) (eq-eqb (kind_at t r) 3 e)

      go : (k j : ℕ) → kind_at t r ≡ k → j < operand_count k → Used (value_wire t (operand t r j) (reads t r))
      go zero j e h = absurd (omega arith)
      go (suc zero) j e h = absurd (omega arith)
      go (suc (suc zero)) zero e h = used_by (op_node r) in0 (value_wire t (operand t r 0) (reads t r)) (op_real r l (inl e)) refl
      go (suc (suc zero)) (suc zero) e h = used_by (op_node r) in1 (value_wire t (operand t r 1) (reads t r)) (op_real r l (inl e)) refl
      go (suc (suc zero)) (suc (suc j)) e h = absurd (omega arith)
      go (suc (suc (suc zero))) zero e h = used_by (op_node r) in0 (value_wire t (operand t r 0) (reads t r)) (op_real r l (inr e)) refl
      go (suc (suc (suc zero))) (suc zero) e h = used_by (op_node r) in1 (value_wire t (operand t r 1) (reads t r)) (op_real r l (inr e)) refl
      go (suc (suc (suc zero))) (suc (suc zero)) e h = used_by (op_node r) in2 (value_wire t (operand t r 2) (reads t r)) (op_real r l (inr e)) (third e)
      go (suc (suc (suc zero))) (suc (suc (suc j))) e h = absurd (omega arith)
      go (suc (suc (suc (suc zero)))) zero e h = used_by (stream r) in0 (value_wire t (operand t r 0) (reads t r)) (stream_real r l e) refl
      go (suc (suc (suc (suc zero)))) (suc zero) e h = used_by (stream r) in1 (value_wire t (operand t r 1) (reads t r)) (stream_real r l e) refl
      go (suc (suc (suc (suc zero)))) (suc (suc zero)) e h = used_by (stream r) in2 (value_wire t (operand t r 2) (reads t r)) (stream_real r l e) refl
      go (suc (suc (suc (suc zero)))) (suc (suc (suc j))) e h = absurd (omega arith)
      go (suc (suc (suc (suc (suc zero))))) zero e h = used_by (carry r) in1 (value_wire t (operand t r 0) (reads t r)) (carry_real r l e) refl
      go (suc (suc (suc (suc (suc zero))))) (suc j) e h = absurd (omega arith)
      go (suc (suc (suc (suc (suc (suc zero)))))) zero e h =
          let n = S.next_row r l e in
          let k = n.arg_kind in
          subst (λ (x : ℕ). Used (value_wire t (operand t x 0) (reads t x))) n.arg_next
          (used_by (carry (arg_of t r)) in2 (value_wire t (operand t (next_of t (arg_of t r)) 0) (reads t (next_of t (arg_of t r)))) (carry_real (arg_of t r) (in_table t S (arg_of t r) (λ z. omega arith)) k) refl)
      go (suc (suc (suc (suc (suc (suc zero)))))) (suc j) e h = absurd (omega arith)
      go (suc (suc (suc (suc (suc (suc (suc zero))))))) j e h = absurd (omega arith)
      go (suc (suc (suc (suc (suc (suc (suc (suc zero)))))))) zero e h =
          let o : is_out t r ≡ true = eq-eqb (kind_at t r) 8 e in
          let f = result_feed t r o in
          (result r, users_has t (value_wire t (operand t r 0) (reads t r)) (result r) (result_use_is_listed t r (value_wire t (operand t r 0) (reads t r)) l o f) f)
      go (suc (suc (suc (suc (suc (suc (suc (suc zero)))))))) (suc j) e h = absurd (omega arith)
      go (suc (suc (suc (suc (suc (suc (suc (suc (suc k))))))))) j e h = let q = S.kinds r l in absurd (omega arith)

  -- ---- outward from where a value is read: each body on its way uses the value's wire there
  module _ (r j : ℕ) (lr : r < size t) (lj : j < operand_count (kind_at t r)) where
    abbrev v : ℕ
    v = operand t r j

    low : v < size t
    low = let b = (S.operands r j lr lj).before in omega arith

    abbrev Passing : ℕ → Type 0
    Passing B = (M : ℕ) → Walks t v M B → Walks t v M (reads t r)

    on : (B : ℕ) → (B < size t) × (kind_at t B ≡ 4) → home t v ≢ B → Passing B → Used (value_wire t v (body_of t B))
    on B q n p = at_copy B q.0 q.1 v low (walked_is_carried t S r j B lr lj (p B (here n)))

    to_home : (m B : ℕ) → B < m → (B < size t) × (kind_at t B ≡ 4) → Encloses t (home t v) B → Passing B → Used (value_wire t v B) → Used (value_wire t v (home t v))
    to_home zero B h q e p u = absurd (omega arith)
    to_home (suc m) B h q e p u =
        elim (ℕ_discrete (home t v) B) [
          | yes d ↦ subst (λ (x : ℕ). Used (value_wire t v x)) (sym d) u
          | no d ↦ further_out d (around_body t S B q.0) (out_of t S (home t v) B q.0 q.1 d e)
              (λ c b i. to_home m (body_of t B) c b i (λ M w. p M (further d w)) (on B q d p))
        ]
      where
        further_out : home t v ≢ B → (body_of t B ≡ size t) ⊎ ((body_of t B < size t) × (kind_at t (body_of t B) ≡ 4)) → Encloses t (home t v) (body_of t B)
            → (body_of t B < m → (body_of t B < size t) × (kind_at t (body_of t B) ≡ 4) → Encloses t (home t v) (body_of t B) → Used (value_wire t v (home t v))) → Used (value_wire t v (home t v))
        further_out d (inl z) i ih = subst (λ (x : ℕ). Used (value_wire t v x)) (z ∙ sym (at_the_rim t S (home t v) (subst (Encloses t (home t v)) z i))) (on B q d p)
        further_out d (inr b) i ih =
            let bl = b.0 in
            let ql = q.0 in
            let lo = (S.body_loop B (omega arith) (λ z. omega arith)).low in
            ih (omega arith) b i

    to_loop : (L B : ℕ) → (B ≡ size t) ⊎ ((B < size t) × (kind_at t B ≡ 4)) → Encloses t (home t v) B → Passing B → Used (value_wire t v B) → Walks t v L B → Used (value_wire t v L)
    to_loop L B b e p u (here n) = u
    to_loop L B (inl z) e p u (further n w) = absurd (n (at_the_rim t S (home t v) (subst (Encloses t (home t v)) z e) ∙ sym z))
    to_loop L B (inr q) e p u (further n w) = to_loop L (body_of t B) (around_body t S B q.0) (out_of t S (home t v) B q.0 q.1 n e) (λ M x. p M (further n x)) (on B q n p) w

    home_used : Used (value_wire t v (home t v))
    home_used = go (reads_body_or_rim t S r lr)
      where
        e : Encloses t (home t v) (reads t r)
        e = (S.operands r j lr lj).at_home

        go : (reads t r ≡ size t) ⊎ ((reads t r < size t) × (kind_at t (reads t r) ≡ 4)) → Used (value_wire t v (home t v))
        go (inl z) = subst (λ (x : ℕ). Used (value_wire t v x)) (z ∙ sym (at_the_rim t S (home t v) (subst (Encloses t (home t v)) z e))) (at_row r j lr lj)
        go (inr q) = to_home (suc (reads t r)) (reads t r) (omega arith) q e (λ M w. w) (at_row r j lr lj)

    loop_used : (L : ℕ) → Walks t v L (reads t r) → Used (value_wire t v L)
    loop_used L w = to_loop L (reads t r) (reads_body_or_rim t S r lr) (S.operands r j lr lj).at_home (λ M w. w) (at_row r j lr lj) w

  at_home_wire : (v : ℕ) → value_wire t v (home t v) ≡ home_wire t v
  unfolding value_wire
  at_home_wire v = rw (eq-eqb (home t v) (home t v) refl)

  away_wire : (v B : ℕ) → home t v ≢ B → value_wire t v B ≡ output (copy_invariant B v) out0
  unfolding value_wire
  away_wire v B n = rw (ne_eqb (home t v) B n)

  -- A VALUE THAT A ROW NAMES IS USED AT HOME
  pub value_used : (r j : ℕ) → r < size t → j < operand_count (kind_at t r) → Used (home_wire t (operand t r j))
  value_used r j l h = subst Used (at_home_wire (operand t r j)) (home_used r j l h)

  -- A COPY IS USED
  pub copy_used : (L v : ℕ) → L < size t → kind_at t L ≡ 4 → carried t L v ≡ true → Used (output (copy_invariant L v) out0)
  copy_used L v l k c =
      let w = carried_is_walked t S L v l k c in
      let n = (carried_by t L v c).away in
      subst Used (away_wire v L n) (subst (λ (x : ℕ). Used (value_wire t x L)) w.4 (loop_used w.0 w.1 w.2 w.3 L (subst (λ (x : ℕ). Walks t x L (reads t w.0)) (sym w.4) w.5)))

  -- ---- what feeds an input

  -- a wire that an input or a result takes
  pub data Fed (w : Wire) : Type 0 where
    by_row : (r j : ℕ) → r < size t → j < operand_count (kind_at t r) → w ≡ value_wire t (operand t r j) (reads t r) → Fed w
    by_copy : (L v : ℕ) → carried t L v ≡ true → w ≡ value_wire t v (reads t L) → Fed w
    by_stream : (L : ℕ) (o : Output) → w ≡ output (stream L) o → Fed w
    by_guard : (L v : ℕ) → v < size t → carried t L v ≡ true → w ≡ output (guard L) out0 → Fed w
    by_gate : (L v : ℕ) → v < size t → carried t L v ≡ true → w ≡ output (gate L) out1 → Fed w
    by_leg : (L v : ℕ) → w ≡ output (copy_split L v) out0 → Fed w
    by_carry : (a : ℕ) → w ≡ output (carry a) out0 → Fed w

  is : {x w : Wire} → ◌≡◌ {A = Option Wire} (some x) (some w) → w ≡ x
  is e = cc

  row_fed : (r j k : ℕ) (w : Wire) → r < size t → kind_at t r ≡ k → j < operand_count k → ◌≡◌ {A = Option Wire} (some (value_wire t (operand t r j) (reads t r))) (some w) → Fed w
  row_fed r j k w l e h q = by_row r j l (subst (λ (x : ℕ). j < operand_count x) (sym e) h) (is q)

  op_fed : (r j : ℕ) (w : Wire) → r < size t → is_op t r ≡ true → j < 2 → ◌≡◌ {A = Option Wire} (some (value_wire t (operand t r j) (reads t r))) (some w) → Fed w
  unfolding operand_count
  op_fed r j w l o h q = elim (op_kind t r o) [ inl e ↦ row_fed r j 2 w l e h q | inr e ↦ row_fed r j 3 w l e (let z : j < 3 = omega arith in z) q ]

  pick_fed : (r : ℕ) (w : Wire) → r < size t → (b : Bool) → eqb (kind_at t r) 3 ≡ b → wire_of t (cond b (named t r 2) nothing) ≡ some w → Fed w
  unfolding operand_count
  pick_fed r w l true e q = row_fed r 2 3 w l (eqb-true (kind_at t r) 3 e) (let z : 2 < 3 = omega arith in z) q
  pick_fed r w l false e q = none_some w q

  loop_fed : (L j : ℕ) (w : Wire) → L < size t → is_for t L ≡ true → j < 3 → ◌≡◌ {A = Option Wire} (some (value_wire t (operand t L j) (reads t L))) (some w) → Fed w
  unfolding operand_count
  loop_fed L j w l f h q = row_fed L j 4 w l (eqb-true (kind_at t L) 4 f) h q

  arg_fed : (a : ℕ) (w : Wire) → a < size t → is_arg_row t a ≡ true → ◌≡◌ {A = Option Wire} (some (value_wire t (operand t a 0) (reads t a))) (some w) → Fed w
  unfolding operand_count
  arg_fed a w l f q = row_fed a 0 5 w l (eqb-true (kind_at t a) 5 f) (let z : 0 < 1 = omega arith in z) q

  next_fed : (a : ℕ) (w : Wire) → a < size t → is_arg_row t a ≡ true → ◌≡◌ {A = Option Wire} (some (value_wire t (operand t (next_of t a) 0) (reads t (next_of t a)))) (some w) → Fed w
  unfolding operand_count
  next_fed a w l f q =
      let k = (S.arg_row a l (eqb-true (kind_at t a) 5 f)).next_kind in
      row_fed (next_of t a) 0 6 w (in_table t S (next_of t a) (λ z. omega arith)) k (let z : 0 < 1 = omega arith in z) q

  fed_from : (n : Role) (k : Input) (w : Wire) → Real t n → wire_of t (role_feed t n k) ≡ some w → Fed w
  fed_from (op_node r) in0 w l e = op_fed r 0 w l.row l.there (omega arith) e
  fed_from (op_node r) in1 w l e = op_fed r 1 w l.row l.there (omega arith) e
  fed_from (op_node r) in2 w l e = pick_fed r w l.row (eqb (kind_at t r) 3) refl e
  fed_from (stream L) in0 w l e = loop_fed L 0 w l.row l.there (omega arith) e
  fed_from (stream L) in1 w l e = loop_fed L 1 w l.row l.there (omega arith) e
  fed_from (stream L) in2 w l e = loop_fed L 2 w l.row l.there (omega arith) e
  fed_from (gate L) in0 w l e = by_stream L out0 (is e)
  fed_from (gate L) in1 w l e = by_stream L out1 (is e)
  fed_from (gate L) in2 w l e = none_some w e
  fed_from (guard L) in0 w l e = loop_fed L 0 w l.row l.there (omega arith) e
  fed_from (guard L) in1 w l e = loop_fed L 2 w l.row l.there (omega arith) e
  fed_from (guard L) in2 w l e = none_some w e
  fed_from (copy_split L v) in0 w l e = by_guard L v l.value (and_both (is_for t L) (carried t L v) l.there).1 (is e)
  fed_from (copy_split L v) in1 w l e = by_copy L v (and_both (is_for t L) (carried t L v) l.there).1 (is e)
  fed_from (copy_split L v) in2 w l e = none_some w e
  fed_from (copy_invariant L v) in0 w l e = by_gate L v l.value (and_both (is_for t L) (carried t L v) l.there).1 (is e)
  fed_from (copy_invariant L v) in1 w l e = by_leg L v (is e)
  fed_from (copy_invariant L v) in2 w l e = none_some w e
  fed_from (carry a) in0 w l e = by_stream (body_of t a) out1 (is e)
  fed_from (carry a) in1 w l e = arg_fed a w l.row l.there e
  fed_from (carry a) in2 w l e = next_fed a w l.row l.there e
  fed_from (arg_split a) in0 w l e = by_stream (body_of t a) out1 (is e)
  fed_from (arg_split a) in1 w l e = by_carry a (is e)
  fed_from (arg_split a) in2 w l e = none_some w e

  out_fed : (q : ℕ) (w : Wire) → q < size t → is_out t q ≡ true → ◌≡◌ {A = Option Wire} (some (value_wire t (operand t q 0) (reads t q))) (some w) → Fed w
  unfolding operand_count
  out_fed q w l o e = row_fed q 0 8 w l (eqb-true (kind_at t q) 8 o) (let z : 0 < 1 = omega arith in z) e

  -- A WIRE THAT IS USED IS ONE OF THESE
  pub used_fed : (w : Wire) → Used w → Fed w
  used_fed w u =
      let s = users_are t w u.0 u.1 in
      elim (listed_use_is t u.0 s.1) [
        | inl q ↦ fed_from q.0 q.1 w q.2 (sym (node_feed t q.0 q.1 q.2.there) ∙ sym (ap (source t) q.3) ∙ s.0)
        | inr q ↦ out_fed q.0 w q.1 q.2 (sym (result_feed t q.0 q.2) ∙ sym (ap (source t) q.3) ∙ s.0)
      ]

  -- ---- what a value's wire is

  -- the value of a wire at home
  abbrev value_of : Wire → ℕ
  value_of (start r) = r
  value_of (output (op_node r) o) = r
  value_of (output (stream L) o) = 0
  value_of (output (gate L) o) = L
  value_of (output (guard L) o) = 0
  value_of (output (copy_split L v) o) = 0
  value_of (output (copy_invariant L v) o) = 0
  value_of (output (carry a) o) = 0
  value_of (output (arg_split a) out0) = a
  value_of (output (arg_split a) out1) = next_of t a

  -- at home it is none of these
  abbrev Plain : ℕ → Type 0
  Plain k = (k ≢ 2) × (k ≢ 3) × (k ≢ 5) × (k ≢ 6) × (k ≢ 7) × (k ≢ 8) × (k ≢ 9) × (k ≢ 10)

  home_is : (v : ℕ) → v < size t → kind_at t v ≤ 6 → Plain (wire_what (home_wire t v)) × (value_of (home_wire t v) ≡ v)
  home_is v l h = go (kind_at t v) refl h
    where
      plain : (k : ℕ) → (k ≡ 0) ⊎ ((k ≡ 1) ⊎ ((k ≡ 4) ⊎ ((k ≡ 11) ⊎ (k ≡ 12)))) → Plain k
      plain k (inl e) = ((λ z. omega arith), (λ z. omega arith), (λ z. omega arith), (λ z. omega arith), (λ z. omega arith), (λ z. omega arith), (λ z. omega arith), (λ z. omega arith))
      plain k (inr (inl e)) = ((λ z. omega arith), (λ z. omega arith), (λ z. omega arith), (λ z. omega arith), (λ z. omega arith), (λ z. omega arith), (λ z. omega arith), (λ z. omega arith))
      plain k (inr (inr (inl e))) = ((λ z. omega arith), (λ z. omega arith), (λ z. omega arith), (λ z. omega arith), (λ z. omega arith), (λ z. omega arith), (λ z. omega arith), (λ z. omega arith))
      plain k (inr (inr (inr (inl e)))) = ((λ z. omega arith), (λ z. omega arith), (λ z. omega arith), (λ z. omega arith), (λ z. omega arith), (λ z. omega arith), (λ z. omega arith), (λ z. omega arith))
      plain k (inr (inr (inr (inr e)))) = ((λ z. omega arith), (λ z. omega arith), (λ z. omega arith), (λ z. omega arith), (λ z. omega arith), (λ z. omega arith), (λ z. omega arith), (λ z. omega arith))

      with_wire : (w : Wire) → home_wire t v ≡ w → (wire_what w ≡ 0) ⊎ ((wire_what w ≡ 1) ⊎ ((wire_what w ≡ 4) ⊎ ((wire_what w ≡ 11) ⊎ (wire_what w ≡ 12)))) → value_of w ≡ v → Plain (wire_what (home_wire t v)) × (value_of (home_wire t v) ≡ v)
      with_wire w e p q = (subst (λ (x : Wire). Plain (wire_what x)) (sym e) (plain (wire_what w) p), ap value_of e ∙ q)

      go : (k : ℕ) → kind_at t v ≡ k → k ≤ 6 → Plain (wire_what (home_wire t v)) × (value_of (home_wire t v) ≡ v)
      go zero e h = with_wire (start v) (home_of_start t v (omega arith)) (inl refl) refl
      go (suc zero) e h = with_wire (start v) (home_of_start t v (omega arith)) (inl refl) refl
      go (suc (suc zero)) e h = with_wire (output (op_node v) out0) (home_of_op t v (inl e)) (inr (inl refl)) refl
      go (suc (suc (suc zero))) e h = with_wire (output (op_node v) out0) (home_of_op t v (inr e)) (inr (inl refl)) refl
      go (suc (suc (suc (suc zero)))) e h = with_wire (output (gate v) out0) (home_of_for t v e) (inr (inr (inl refl))) refl
      go (suc (suc (suc (suc (suc zero))))) e h = with_wire (output (arg_split v) out0) (home_of_arg t v e) (inr (inr (inr (inl refl)))) refl
      go (suc (suc (suc (suc (suc (suc zero)))))) e h = with_wire (output (arg_split (arg_of t v)) out1) (home_of_next t v e) (inr (inr (inr (inr refl)))) (S.next_row v l e).arg_next
      go (suc (suc (suc (suc (suc (suc (suc k))))))) e h = absurd (omega arith)

  -- a value in a body: at home, or a copy
  value_cases : (v B : ℕ) → (value_wire t v B ≡ home_wire t v) ⊎ (value_wire t v B ≡ output (copy_invariant B v) out0)
  value_cases v B = elim (ℕ_discrete (home t v) B) [ yes e ↦ inl (subst (λ (x : ℕ). value_wire t v x ≡ home_wire t v) e (at_home_wire v)) | no e ↦ inr (away_wire v B e) ]

  -- a named value, its row and kind
  operand_value : (r j : ℕ) → r < size t → j < operand_count (kind_at t r) → (operand t r j < size t) × (kind_at t (operand t r j) ≤ 6)
  operand_value r j l h = let o = S.operands r j l h in let b = o.before in (omega arith, o.is_value)

  copied_value : (L v : ℕ) → carried t L v ≡ true → (v < size t) × (kind_at t v ≤ 6)
  copied_value L v c = let C = carried_by t L v c in subst (λ (x : ℕ). (x < size t) × (kind_at t x ≤ 6)) C.is (operand_value C.row C.place C.row_below_lem C.place_below)

  -- a wire that is no value's is not taken as one
  not_value : (w : Wire) (v B : ℕ) → (v < size t) × (kind_at t v ≤ 6) → w ≡ value_wire t v B → Plain (wire_what w) ⊎ (wire_what w ≡ 9)
  not_value w v B l e =
      elim (value_cases v B) [
        | inl q ↦ inl (subst (λ (x : Wire). Plain (wire_what x)) (sym (e ∙ q)) (home_is v l.0 l.1).0)
        | inr q ↦ inr (ap wire_what (e ∙ q))
      ]

  -- THE FALSE LEG OF A COPY'S SPLIT IS NOT USED
  pub exit_unused : (L v : ℕ) → Used (output (copy_split L v) out1) → ⊥
  exit_unused L v u = go (used_fed (output (copy_split L v) out1) u)
    where
      no_value : Plain 8 ⊎ (◌≡◌ {A = ℕ} 8 9) → ⊥
      no_value (inl p) = p.5 refl
      no_value (inr e) = omega arith

      go : Fed (output (copy_split L v) out1) → ⊥
      go (by_row r j l h e) = no_value (not_value (output (copy_split L v) out1) (operand t r j) (reads t r) (operand_value r j l h) e)
      go (by_copy M x c e) = no_value (not_value (output (copy_split L v) out1) x (reads t M) (copied_value M x c) e)
      go (by_stream M out0 e) = let z : ◌≡◌ {A = ℕ} 8 2 = ap wire_what e in omega arith
      go (by_stream M out1 e) = let z : ◌≡◌ {A = ℕ} 8 3 = ap wire_what e in omega arith
      go (by_guard M x l c e) = let z : ◌≡◌ {A = ℕ} 8 6 = ap wire_what e in omega arith
      go (by_gate M x l c e) = let z : ◌≡◌ {A = ℕ} 8 5 = ap wire_what e in omega arith
      go (by_leg M x e) = let z : ◌≡◌ {A = ℕ} 8 7 = ap wire_what e in omega arith
      go (by_carry a e) = let z : ◌≡◌ {A = ℕ} 8 10 = ap wire_what e in omega arith

  abbrev Carries : ℕ → Type 0
  Carries L = (v : ℕ) × (v < size t) × (carried t L v ≡ true)

  -- THE GUARD AND THE GATED CONDITION ARE USED ONLY WHERE A VALUE IS CARRIED IN
  pub guard_carries : (L : ℕ) → Used (output (guard L) out0) → Carries L
  guard_carries L u = go (used_fed (output (guard L) out0) u)
    where
      no_value : Plain 6 ⊎ (◌≡◌ {A = ℕ} 6 9) → Carries L
      no_value (inl p) = absurd (p.3 refl)
      no_value (inr e) = absurd (omega arith)

      go : Fed (output (guard L) out0) → Carries L
      go (by_row r j l h e) = no_value (not_value (output (guard L) out0) (operand t r j) (reads t r) (operand_value r j l h) e)
      go (by_copy M x c e) = no_value (not_value (output (guard L) out0) x (reads t M) (copied_value M x c) e)
      go (by_stream M out0 e) = let z : ◌≡◌ {A = ℕ} 6 2 = ap wire_what e in absurd (omega arith)
      go (by_stream M out1 e) = let z : ◌≡◌ {A = ℕ} 6 3 = ap wire_what e in absurd (omega arith)
      go (by_guard M x l c e) = let z : L ≡ M = ap wire_row e in (x, l, subst (λ (y : ℕ). carried t y x ≡ true) (sym z) c)
      go (by_gate M x l c e) = let z : ◌≡◌ {A = ℕ} 6 5 = ap wire_what e in absurd (omega arith)
      go (by_leg M x e) = let z : ◌≡◌ {A = ℕ} 6 7 = ap wire_what e in absurd (omega arith)
      go (by_carry a e) = let z : ◌≡◌ {A = ℕ} 6 10 = ap wire_what e in absurd (omega arith)

  pub condition_carries : (L : ℕ) → Used (output (gate L) out1) → Carries L
  condition_carries L u = go (used_fed (output (gate L) out1) u)
    where
      no_value : Plain 5 ⊎ (◌≡◌ {A = ℕ} 5 9) → Carries L
      no_value (inl p) = absurd (p.2 refl)
      no_value (inr e) = absurd (omega arith)

      go : Fed (output (gate L) out1) → Carries L
      go (by_row r j l h e) = no_value (not_value (output (gate L) out1) (operand t r j) (reads t r) (operand_value r j l h) e)
      go (by_copy M x c e) = no_value (not_value (output (gate L) out1) x (reads t M) (copied_value M x c) e)
      go (by_stream M out0 e) = let z : ◌≡◌ {A = ℕ} 5 2 = ap wire_what e in absurd (omega arith)
      go (by_stream M out1 e) = let z : ◌≡◌ {A = ℕ} 5 3 = ap wire_what e in absurd (omega arith)
      go (by_guard M x l c e) = let z : ◌≡◌ {A = ℕ} 5 6 = ap wire_what e in absurd (omega arith)
      go (by_gate M x l c e) = let z : L ≡ M = ap wire_row e in (x, l, subst (λ (y : ℕ). carried t y x ≡ true) (sym z) c)
      go (by_leg M x e) = let z : ◌≡◌ {A = ℕ} 5 7 = ap wire_what e in absurd (omega arith)
      go (by_carry a e) = let z : ◌≡◌ {A = ℕ} 5 10 = ap wire_what e in absurd (omega arith)

  -- A VALUE IS USED AT HOME ONLY WHERE A ROW NAMES IT
  abbrev Named : ℕ → Type 0
  Named v = (r : ℕ) × (j : ℕ) × (r < size t) × (j < operand_count (kind_at t r)) × (operand t r j ≡ v)

  pub used_is_named : (v : ℕ) → v < size t → kind_at t v ≤ 6 → Used (home_wire t v) → Named v
  used_is_named v l k u = go (used_fed (home_wire t v) u)
    where
      p : Plain (wire_what (home_wire t v))
      p = (home_is v l k).0

      same : (x B : ℕ) → (x < size t) × (kind_at t x ≤ 6) → home_wire t v ≡ value_wire t x B → x ≡ v
      same x B q e =
          elim (value_cases x B) [
            | inl d ↦ sym (home_is x q.0 q.1).1 ∙ sym (ap value_of (e ∙ d)) ∙ (home_is v l k).1
            | inr d ↦ absurd (p.6 (ap wire_what (e ∙ d)))
          ]

      go : Fed (home_wire t v) → Named v
      go (by_row r j lr h e) = (r, j, lr, h, same (operand t r j) (reads t r) (operand_value r j lr h) e)
      go (by_copy M x c e) =
          let C = carried_by t M x c in
          (C.row, C.place, C.row_below_lem, C.place_below, C.is ∙ same x (reads t M) (copied_value M x c) e)
      go (by_stream M out0 e) = absurd (p.0 (ap wire_what e))
      go (by_stream M out1 e) = absurd (p.1 (ap wire_what e))
      go (by_guard M x lx c e) = absurd (p.3 (ap wire_what e))
      go (by_gate M x lx c e) = absurd (p.2 (ap wire_what e))
      go (by_leg M x e) = absurd (p.4 (ap wire_what e))
      go (by_carry a e) = absurd (p.7 (ap wire_what e))
