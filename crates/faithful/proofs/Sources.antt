-- The lowering's sources, nodes and wires are those of the abstract table.
--
--   value_wire_lem            the wire on which a value comes to a body
--   source_is                 each use reads the wire that lowering says
--   to_real, from_real        the table has the same nodes
--   use_is_listed             a use that takes a wire is listed
--   to_made, from_made        and the same wires
--
-- Assumes nothing.
use Rattle.std.proofs.Math.Path.{◌≡◌, refl, sym, ap}
use Rattle.std.proofs.Common.{ap₂, ◌∙◌, subst, inl, inr, arith, eq-eqb, ne_eqb, eqb-true}
use Rattle.std.specs.Prelude.{Bool, ◌||◌, List, ℕ, suc, ◌≤◌, ◌<◌, eqb, leb}
use Rattle.std.proofs.Math.Bool.{true, false, cond}
use Rattle.std.proofs.Math.Option.{none, some}
use Rattle.std.proofs.Math.Decide.{dec_lt}
use Rattle.step.specs.Kinds.{Input, in0, in1, in2, Output, out0, out1, outputs, OP, PICK}
use Rattle.graph.specs.Graph.{output_place}
use Rattle.table.specs.Rows.{kind_at, word, size, operand_count}
use Rattle.table.specs.Scan.{body_of, reads, home}
use Rattle.table.specs.Bodies.{Row, input, const, op, pick, for, arg, next, end, out, unknown, operand, arg_of, next_of}
use Rattle.structure.specs.Structure.{Structure}
use Rattle.lowered.specs.Lists.{Among}
use Rattle.lowered.specs.Roles.{Role, op_node, stream, gate, guard, copy_split, copy_invariant, carry, arg_split, Wire, start, output, Use, into, result}
use Rattle.lowered.specs.Sources.{home_wire, value_wire, source, is_for, is_arg_row, carried}
use Rattle.lowered.specs.Lower.{role_kind}
use Rattle.lowered.specs.Sources
use Rattle.lowered.specs.Lower
use Rattle.laid.specs.Made.{home_of_start, home_of_op, home_of_for, home_of_arg, home_of_next, node_feed, result_feed}
use Rattle.laid.specs.Listed
use Rattle.laid.specs.Uses
use Rattle.uses.specs.Layout
use Rattle.faithful.specs.Table.{Table, IsFor, wire_by, slot_wire, src, op_slot, stream_slot, guard_slot, gate_slot, copy_split_slot, copy_invariant_slot, carry_slot, arg_split_slot, result_slot, is_for_row, is_in, is_arg, HasOut, plan}
use Rattle.faithful.specs.Carried.{carried_by, carried_before}
use Rattle.faithful.specs.Table
use Rattle.faithful.specs.Tables

module _ (t : List ℕ) (S : Structure t) where
  abbrev tb : Table
  tb = Tables.table_of t

  -- ---- values

  home_wire_lem : (v B : ℕ) (b : Bool) → v < size t → kind_at t v ≤ 6 → wire_by b (tb.row v) v (arg_of t v) B ≡ cond b (home_wire t v) (output (copy_invariant B v) out0)
  home_wire_lem v B false l k = refl
  home_wire_lem v B true l k = go (tb.row v) (Tables.row_kind_lem t S v l)
    where
      go : (d : Row) → Tables.row_kind d ≡ kind_at t v → wire_by true d v (arg_of t v) B ≡ home_wire t v
      go input e = sym (home_of_start t v (omega arith))
      go (const w) e = sym (home_of_start t v (omega arith))
      go (op c x y) e = sym (home_of_op t v (inl (sym e)))
      go (pick f x y) e = sym (home_of_op t v (inr (sym e)))
      go (for s st b u c) e = sym (home_of_for t v (sym e))
      go (arg i) e = sym (home_of_arg t v (sym e))
      go (next x) e = sym (home_of_next t v (sym e))
      go end e = absurd (omega arith)
      go (out x) e = absurd (omega arith)
      go unknown e = absurd (omega arith)

  pub value_wire_lem : (v B : ℕ) → v < size t → kind_at t v ≤ 6 → Table.wire_of tb v B ≡ value_wire t v B
  unfolding Table.wire_of value_wire
  value_wire_lem v B l k =
      ap (λ (h : ℕ). wire_by (eqb h B) (tb.row v) v (arg_of t v) B) (Tables.home_of t v l k) ∙ home_wire_lem v B (eqb (home t v) B) l k

  -- operand j of row r, read in body B
  operand_wire : (r j v B : ℕ) → r < size t → j < operand_count (kind_at t r) → operand t r j ≡ v → reads t r ≡ B → some (Table.wire_of tb v B) ≡ Sources.wire_of t (Sources.named t r j)
  operand_wire r j v B l lj e d =
      let O = S.operands r j l lj in
      let lv : operand t r j < size t = let b = O.before in omega arith in
      ap some (ap₂ (Table.wire_of tb) (sym e) (sym d) ∙ value_wire_lem (operand t r j) (reads t r) lv O.is_value)

  counts : (r k n : ℕ) → kind_at t r ≡ k → operand_count k ≡ n → (j : ℕ) → j < n → j < operand_count (kind_at t r)
  counts r k n e h j l = let q : operand_count (kind_at t r) ≡ n = ap operand_count e ∙ h in omega arith

  -- ---- what the table has

  kind_for : (L : ℕ) → is_for_row (tb.row L) ≡ eqb (kind_at t L) 4
  kind_for L = elim (dec_lt L (size t)) [ yes l ↦ go (tb.row L) (Tables.row_kind_lem t S L l) | no n ↦ rw (Tables.kind_past t S L (omega arith), Tables.row_past t L (omega arith)) ]
    where
      go : (d : Row) → Tables.row_kind d ≡ kind_at t L → is_for_row d ≡ eqb (kind_at t L) 4
      go input e = rw (sym e)
      go (const w) e = rw (sym e)
      go (op c x y) e = rw (sym e)
      go (pick f x y) e = rw (sym e)
      go (for s st b u c) e = rw (sym e)
      go (arg i) e = rw (sym e)
      go (next x) e = rw (sym e)
      go end e = rw (sym e)
      go (out x) e = rw (sym e)
      go unknown e = rw (sym e)

  kind_op : (r : ℕ) → Table.is_op tb (tb.row r) ≡ (eqb (kind_at t r) 2 || eqb (kind_at t r) 3)
  kind_op r = elim (dec_lt r (size t)) [ yes l ↦ go (tb.row r) (Tables.row_kind_lem t S r l) | no n ↦ rw (Tables.kind_past t S r (omega arith), Tables.row_past t r (omega arith)) ]
    where
      go : (d : Row) → Tables.row_kind d ≡ kind_at t r → Table.is_op tb d ≡ (eqb (kind_at t r) 2 || eqb (kind_at t r) 3)
      go input e = rw (sym e)
      go (const w) e = rw (sym e)
      go (op c x y) e = rw (sym e)
      go (pick f x y) e = rw (sym e)
      go (for s st b u c) e = rw (sym e)
      go (arg i) e = rw (sym e)
      go (next x) e = rw (sym e)
      go end e = rw (sym e)
      go (out x) e = rw (sym e)
      go unknown e = rw (sym e)

  kind_out : (q : ℕ) (d : Row) → tb.row q ≡ d → ((x : ℕ) → d ≡ out x → ⊥) → eqb (kind_at t q) 8 ≡ false
  kind_out q d e n = ne_eqb (kind_at t q) 8 (λ k. let l = Tables.below_by_kind t S q 7 k in n (word t q 1) (sym e ∙ Tables.row_at_lem t q l ∙ Tables.is_out_lem t q k))

  -- a node that the table does not have takes nothing
  none_there : (n : Role) (k : Input) → Sources.has t n ≡ false → source t (into n k) ≡ none
  unfolding source Sources.feed
  none_there n k h = rw h

  not_result : (q : ℕ) → eqb (kind_at t q) 8 ≡ false → source t (result q) ≡ none
  unfolding source Sources.feed
  not_result q h = rw h

  -- ---- OP and PICK

  op_source : (r : ℕ) (d : Row) → tb.row r ≡ d → (k : Input) → slot_wire tb (op_slot d (reads t r) r k) ≡ source t (into (op_node r) k)
  unfolding operand_count
  op_source r (op c x y) q in0 =
      let w = Tables.op_words t S r c x y q in
      operand_wire r 0 x (reads t r) w.0 (counts r 2 2 w.1 refl 0 (omega arith)) w.3 refl ∙ sym (node_feed t (op_node r) in0 (sym (kind_op r) ∙ ap (Table.is_op tb) q))
  op_source r (op c x y) q in1 =
      let w = Tables.op_words t S r c x y q in
      operand_wire r 1 y (reads t r) w.0 (counts r 2 2 w.1 refl 1 (omega arith)) w.4 refl ∙ sym (node_feed t (op_node r) in1 (sym (kind_op r) ∙ ap (Table.is_op tb) q))
  op_source r (op c x y) q in2 =
      let w = Tables.op_words t S r c x y q in
      sym (node_feed t (op_node r) in2 (sym (kind_op r) ∙ ap (Table.is_op tb) q) ∙ ap (Sources.wire_of t) (two (eqb (kind_at t r) 3) (ne_eqb (kind_at t r) 3 (λ z. let k = w.1 in omega arith))))
    where
      two : (b : Bool) → b ≡ false → cond b (Sources.named t r 2) Sources.nothing ≡ Sources.nothing
      two b h = rw h
  op_source r (pick f x y) q in0 =
      let w = Tables.pick_words t S r f x y q in
      operand_wire r 0 f (reads t r) w.0 (counts r 3 3 w.1 refl 0 (omega arith)) w.2 refl ∙ sym (node_feed t (op_node r) in0 (sym (kind_op r) ∙ ap (Table.is_op tb) q))
  op_source r (pick f x y) q in1 =
      let w = Tables.pick_words t S r f x y q in
      operand_wire r 1 x (reads t r) w.0 (counts r 3 3 w.1 refl 1 (omega arith)) w.3 refl ∙ sym (node_feed t (op_node r) in1 (sym (kind_op r) ∙ ap (Table.is_op tb) q))
  op_source r (pick f x y) q in2 =
      let w = Tables.pick_words t S r f x y q in
      operand_wire r 2 y (reads t r) w.0 (counts r 3 3 w.1 refl 2 (omega arith)) w.4 refl
      ∙ sym (node_feed t (op_node r) in2 (sym (kind_op r) ∙ ap (Table.is_op tb) q) ∙ ap (Sources.wire_of t) (three (eqb (kind_at t r) 3) (eq-eqb (kind_at t r) 3 w.1)))
    where
      three : (b : Bool) → b ≡ true → cond b (Sources.named t r 2) Sources.nothing ≡ Sources.named t r 2
      three b h = rw h
  op_source r input q k = sym (none_there (op_node r) k (sym (kind_op r) ∙ ap (Table.is_op tb) q))
  op_source r (const x) q k = sym (none_there (op_node r) k (sym (kind_op r) ∙ ap (Table.is_op tb) q))
  op_source r (for s st b u c) q k = sym (none_there (op_node r) k (sym (kind_op r) ∙ ap (Table.is_op tb) q))
  op_source r (arg i) q k = sym (none_there (op_node r) k (sym (kind_op r) ∙ ap (Table.is_op tb) q))
  op_source r (next x) q k = sym (none_there (op_node r) k (sym (kind_op r) ∙ ap (Table.is_op tb) q))
  op_source r end q k = sym (none_there (op_node r) k (sym (kind_op r) ∙ ap (Table.is_op tb) q))
  op_source r (out x) q k = sym (none_there (op_node r) k (sym (kind_op r) ∙ ap (Table.is_op tb) q))
  op_source r unknown q k = sym (none_there (op_node r) k (sym (kind_op r) ∙ ap (Table.is_op tb) q))

  -- ---- FOR

  stream_source : (L : ℕ) (d : Row) → tb.row L ≡ d → (k : Input) → slot_wire tb (stream_slot d (reads t L) L k) ≡ source t (into (stream L) k)
  unfolding operand_count
  stream_source L (for s st b u c) q in0 =
      let w = Tables.for_words t S L s st b u c q in
      operand_wire L 0 s (reads t L) w.0 (counts L 4 3 w.1 refl 0 (omega arith)) w.2 refl ∙ sym (node_feed t (stream L) in0 (sym (kind_for L) ∙ ap is_for_row q))
  stream_source L (for s st b u c) q in1 =
      let w = Tables.for_words t S L s st b u c q in
      operand_wire L 1 st (reads t L) w.0 (counts L 4 3 w.1 refl 1 (omega arith)) w.3 refl ∙ sym (node_feed t (stream L) in1 (sym (kind_for L) ∙ ap is_for_row q))
  stream_source L (for s st b u c) q in2 =
      let w = Tables.for_words t S L s st b u c q in
      operand_wire L 2 b (reads t L) w.0 (counts L 4 3 w.1 refl 2 (omega arith)) w.4 refl ∙ sym (node_feed t (stream L) in2 (sym (kind_for L) ∙ ap is_for_row q))
  stream_source L input q k = sym (none_there (stream L) k (sym (kind_for L) ∙ ap is_for_row q))
  stream_source L (const x) q k = sym (none_there (stream L) k (sym (kind_for L) ∙ ap is_for_row q))
  stream_source L (op c x y) q k = sym (none_there (stream L) k (sym (kind_for L) ∙ ap is_for_row q))
  stream_source L (pick f x y) q k = sym (none_there (stream L) k (sym (kind_for L) ∙ ap is_for_row q))
  stream_source L (arg i) q k = sym (none_there (stream L) k (sym (kind_for L) ∙ ap is_for_row q))
  stream_source L (next x) q k = sym (none_there (stream L) k (sym (kind_for L) ∙ ap is_for_row q))
  stream_source L end q k = sym (none_there (stream L) k (sym (kind_for L) ∙ ap is_for_row q))
  stream_source L (out x) q k = sym (none_there (stream L) k (sym (kind_for L) ∙ ap is_for_row q))
  stream_source L unknown q k = sym (none_there (stream L) k (sym (kind_for L) ∙ ap is_for_row q))

  guard_source : (L : ℕ) (d : Row) → tb.row L ≡ d → (k : Input) → slot_wire tb (guard_slot d (reads t L) L k) ≡ source t (into (guard L) k)
  unfolding operand_count
  guard_source L (for s st b u c) q in0 =
      let w = Tables.for_words t S L s st b u c q in
      operand_wire L 0 s (reads t L) w.0 (counts L 4 3 w.1 refl 0 (omega arith)) w.2 refl ∙ sym (node_feed t (guard L) in0 (sym (kind_for L) ∙ ap is_for_row q))
  guard_source L (for s st b u c) q in1 =
      let w = Tables.for_words t S L s st b u c q in
      operand_wire L 2 b (reads t L) w.0 (counts L 4 3 w.1 refl 2 (omega arith)) w.4 refl ∙ sym (node_feed t (guard L) in1 (sym (kind_for L) ∙ ap is_for_row q))
  guard_source L (for s st b u c) q in2 = sym (node_feed t (guard L) in2 (sym (kind_for L) ∙ ap is_for_row q))
  guard_source L input q k = sym (none_there (guard L) k (sym (kind_for L) ∙ ap is_for_row q))
  guard_source L (const x) q k = sym (none_there (guard L) k (sym (kind_for L) ∙ ap is_for_row q))
  guard_source L (op c x y) q k = sym (none_there (guard L) k (sym (kind_for L) ∙ ap is_for_row q))
  guard_source L (pick f x y) q k = sym (none_there (guard L) k (sym (kind_for L) ∙ ap is_for_row q))
  guard_source L (arg i) q k = sym (none_there (guard L) k (sym (kind_for L) ∙ ap is_for_row q))
  guard_source L (next x) q k = sym (none_there (guard L) k (sym (kind_for L) ∙ ap is_for_row q))
  guard_source L end q k = sym (none_there (guard L) k (sym (kind_for L) ∙ ap is_for_row q))
  guard_source L (out x) q k = sym (none_there (guard L) k (sym (kind_for L) ∙ ap is_for_row q))
  guard_source L unknown q k = sym (none_there (guard L) k (sym (kind_for L) ∙ ap is_for_row q))

  gate_source : (L : ℕ) (b : Bool) → is_for_row (tb.row L) ≡ b → (k : Input) → slot_wire tb (gate_slot b L k) ≡ source t (into (gate L) k)
  gate_source L false e k = sym (none_there (gate L) k (sym (kind_for L) ∙ e))
  gate_source L true e in0 = sym (node_feed t (gate L) in0 (sym (kind_for L) ∙ e))
  gate_source L true e in1 = sym (node_feed t (gate L) in1 (sym (kind_for L) ∙ e))
  gate_source L true e in2 = sym (node_feed t (gate L) in2 (sym (kind_for L) ∙ e))

  -- ---- copies

  split_source : (L v : ℕ) (b : Bool) → tb.carried L v ≡ b → (k : Input) → slot_wire tb (copy_split_slot b (reads t L) L v k) ≡ source t (into (copy_split L v) k)
  split_source L v false e k = sym (none_there (copy_split L v) k e)
  split_source L v true e in0 = sym (node_feed t (copy_split L v) in0 e)
  split_source L v true e in1 =
      let C = carried_by t S L v e in
      let lv : v < size t = let a = carried_before t S L v C in let b = C.below in omega arith in
      let kv : kind_at t v ≤ 6 = subst (λ (z : ℕ). kind_at t z ≤ 6) C.is_operand (S.operands C.row C.place C.row_below_lem C.place_below).is_value in
      ap some (value_wire_lem v (reads t L) lv kv) ∙ sym (node_feed t (copy_split L v) in1 e)
  split_source L v true e in2 = sym (node_feed t (copy_split L v) in2 e)

  invariant_source : (L v : ℕ) (b : Bool) → tb.carried L v ≡ b → (k : Input) → slot_wire tb (copy_invariant_slot b (tb.reads L) L v k) ≡ source t (into (copy_invariant L v) k)
  invariant_source L v false e k = sym (none_there (copy_invariant L v) k e)
  invariant_source L v true e in0 = sym (node_feed t (copy_invariant L v) in0 e)
  invariant_source L v true e in1 = sym (node_feed t (copy_invariant L v) in1 e)
  invariant_source L v true e in2 = sym (node_feed t (copy_invariant L v) in2 e)

  -- ---- ARG

  carry_source : (a : ℕ) (d : Row) → tb.row a ≡ d → (k : Input)
      → slot_wire tb (carry_slot d (reads t (body_of t a)) (body_of t a) (Table.named (tb.row (next_of t a))) (tb.last (body_of t a)) k) ≡ source t (into (carry a) k)
  unfolding operand_count
  carry_source a (arg i) q in0 = sym (node_feed t (carry a) in0 (Tables.kind_arg t S a ∙ ap is_arg q))
  carry_source a (arg i) q in1 =
      let w = Tables.arg_words t S a i q in
      let A = S.arg_row a w.0 w.1 in
      operand_wire a 0 i (reads t (body_of t a)) w.0 (counts a 5 1 w.1 refl 0 (omega arith)) w.2 (S.arg_reads a w.0 w.1 ∙ sym (S.reads_body (body_of t a) (λ z. let k = A.loop_for in omega arith)))
      ∙ sym (node_feed t (carry a) in1 (Tables.kind_arg t S a ∙ ap is_arg q))
  carry_source a (arg i) q in2 =
      let w = Tables.arg_words t S a i q in
      let A = S.arg_row a w.0 w.1 in
      let x = next_of t a in
      let lx : x < size t = Tables.below_by_kind t S x 5 A.next_kind in
      let e : tb.row x ≡ next (word t x 1) = Tables.row_at_lem t x lx ∙ Tables.is_next_lem t x A.next_kind in
      let n = Tables.next_words t S x (word t x 1) e in
      operand_wire x 0 (Table.named (tb.row x)) (body_of t a) lx (counts x 6 1 A.next_kind refl 0 (omega arith)) (n.2 ∙ sym (ap Table.named e))
      (S.reads_body x (λ z. let k = A.next_kind in omega arith) ∙ A.next_body)
      ∙ sym (node_feed t (carry a) in2 (Tables.kind_arg t S a ∙ ap is_arg q))
  carry_source a input q k = sym (none_there (carry a) k (Tables.kind_arg t S a ∙ ap is_arg q))
  carry_source a (const x) q k = sym (none_there (carry a) k (Tables.kind_arg t S a ∙ ap is_arg q))
  carry_source a (op c x y) q k = sym (none_there (carry a) k (Tables.kind_arg t S a ∙ ap is_arg q))
  carry_source a (pick f x y) q k = sym (none_there (carry a) k (Tables.kind_arg t S a ∙ ap is_arg q))
  carry_source a (for s st b u c) q k = sym (none_there (carry a) k (Tables.kind_arg t S a ∙ ap is_arg q))
  carry_source a (next x) q k = sym (none_there (carry a) k (Tables.kind_arg t S a ∙ ap is_arg q))
  carry_source a end q k = sym (none_there (carry a) k (Tables.kind_arg t S a ∙ ap is_arg q))
  carry_source a (out x) q k = sym (none_there (carry a) k (Tables.kind_arg t S a ∙ ap is_arg q))
  carry_source a unknown q k = sym (none_there (carry a) k (Tables.kind_arg t S a ∙ ap is_arg q))

  arg_source : (a : ℕ) (b : Bool) → is_arg (tb.row a) ≡ b → (k : Input) → slot_wire tb (arg_split_slot b (body_of t a) a k) ≡ source t (into (arg_split a) k)
  arg_source a false e k = sym (none_there (arg_split a) k (Tables.kind_arg t S a ∙ e))
  arg_source a true e in0 = sym (node_feed t (arg_split a) in0 (Tables.kind_arg t S a ∙ e))
  arg_source a true e in1 = sym (node_feed t (arg_split a) in1 (Tables.kind_arg t S a ∙ e))
  arg_source a true e in2 = sym (node_feed t (arg_split a) in2 (Tables.kind_arg t S a ∙ e))

  -- ---- results

  result_source : (q : ℕ) (d : Row) → tb.row q ≡ d → slot_wire tb (result_slot d (size t) (suc (size t))) ≡ source t (result q)
  unfolding operand_count
  result_source q (out x) e =
      let w = Tables.out_words_lem t S q x e in
      operand_wire q 0 x (size t) w.0 (counts q 8 1 w.1 refl 0 (omega arith)) w.2 (S.reads_body q (λ z. let k = w.1 in omega arith) ∙ S.out_body q w.0 w.1)
      ∙ sym (result_feed t q (eq-eqb (kind_at t q) 8 w.1))
  result_source q input e = sym (not_result q (kind_out q input e (λ x d. let z : ◌≡◌ {A = ℕ} 0 1 = cc in omega arith)))
  result_source q (const w) e = sym (not_result q (kind_out q (const w) e (λ x d. let z : ◌≡◌ {A = ℕ} 0 1 = cc in omega arith)))
  result_source q (op c x y) e = sym (not_result q (kind_out q (op c x y) e (λ x d. let z : ◌≡◌ {A = ℕ} 0 1 = cc in omega arith)))
  result_source q (pick f x y) e = sym (not_result q (kind_out q (pick f x y) e (λ x d. let z : ◌≡◌ {A = ℕ} 0 1 = cc in omega arith)))
  result_source q (for s st b u c) e = sym (not_result q (kind_out q (for s st b u c) e (λ x d. let z : ◌≡◌ {A = ℕ} 0 1 = cc in omega arith)))
  result_source q (arg i) e = sym (not_result q (kind_out q (arg i) e (λ x d. let z : ◌≡◌ {A = ℕ} 0 1 = cc in omega arith)))
  result_source q (next v) e = sym (not_result q (kind_out q (next v) e (λ x d. let z : ◌≡◌ {A = ℕ} 0 1 = cc in omega arith)))
  result_source q end e = sym (not_result q (kind_out q end e (λ x d. let z : ◌≡◌ {A = ℕ} 0 1 = cc in omega arith)))
  result_source q unknown e = sym (not_result q (kind_out q unknown e (λ x d. let z : ◌≡◌ {A = ℕ} 0 1 = cc in omega arith)))

  -- EACH USE READS THE WIRE THAT LOWERING SAYS
  pub source_is : (p : Use) → src tb p ≡ source t p
  source_is (into (op_node r) k) = op_source r (tb.row r) refl k
  source_is (into (stream L) k) = stream_source L (tb.row L) refl k
  source_is (into (gate L) k) = gate_source L (is_for_row (tb.row L)) refl k
  source_is (into (guard L) k) = guard_source L (tb.row L) refl k
  source_is (into (copy_split L v) k) = split_source L v (tb.carried L v) refl k
  source_is (into (copy_invariant L v) k) = invariant_source L v (tb.carried L v) refl k
  source_is (into (carry a) k) = carry_source a (tb.row a) refl k
  source_is (into (arg_split a) k) = arg_source a (is_arg (tb.row a)) refl k
  source_is (result q) = result_source q (tb.row q) refl

  -- ---- nodes

  for_real : (n : Role) (L : ℕ) → IsFor tb L → Listed.role_row n ≡ L → Listed.role_value n ≡ L → Sources.has t n ≡ is_for t L → Listed.Real t n
  for_real n L f a b h =
      let k = Tables.for_kind t S L f in
      let l : L < size t = k.0 in
      record { row = omega arith; value = omega arith; there = h ∙ eq-eqb (kind_at t L) 4 k.1 }

  copy_real : (n : Role) (L v : ℕ) → tb.carried L v ≡ true → Listed.role_row n ≡ L → Listed.role_value n ≡ v → Sources.has t n ≡ tb.carried L v → Listed.Real t n
  copy_real n L v c a b h =
      let C = carried_by t S L v c in
      let l = C.below in let m = carried_before t S L v C in
      record { row = omega arith; value = omega arith; there = h ∙ c }

  arg_real : (n : Role) (a i : ℕ) → tb.row a ≡ arg i → Listed.role_row n ≡ a → Listed.role_value n ≡ a → Sources.has t n ≡ is_arg_row t a → Listed.Real t n
  arg_real n a i q d b h =
      let w = Tables.arg_words t S a i q in
      let l : a < size t = w.0 in
      record { row = omega arith; value = omega arith; there = h ∙ eq-eqb (kind_at t a) 5 w.1 }

  pub to_real : (n : Role) → Table.Real tb n → Listed.Real t n
  to_real (op_node r) rl = record { row = rl.0; value = rl.0; there = sym (kind_op r) ∙ rl.1 }
  to_real (stream L) rl = for_real (stream L) L rl refl refl refl
  to_real (gate L) rl = for_real (gate L) L rl refl refl refl
  to_real (guard L) rl = for_real (guard L) L rl refl refl refl
  to_real (copy_split L v) rl = copy_real (copy_split L v) L v rl.1 refl refl refl
  to_real (copy_invariant L v) rl = copy_real (copy_invariant L v) L v rl.1 refl refl refl
  to_real (carry a) rl = arg_real (carry a) a rl.0 rl.1 refl refl refl
  to_real (arg_split a) rl = arg_real (arg_split a) a rl.0 rl.1 refl refl refl

  arg_form : (a : ℕ) → is_arg_row t a ≡ true → (i : ℕ) × (tb.row a ≡ arg i)
  arg_form a h = let k = eqb-true (kind_at t a) 5 h in (word t a 1, Tables.row_at_lem t a (Tables.below_by_kind t S a 4 k) ∙ Tables.is_arg_lem t a k)

  pub from_real : (n : Role) → Listed.Real t n → Table.Real tb n
  from_real (op_node r) rl = (rl.row, kind_op r ∙ rl.there)
  from_real (stream L) rl = Tables.for_row t S L (eqb-true (kind_at t L) 4 rl.there)
  from_real (gate L) rl = Tables.for_row t S L (eqb-true (kind_at t L) 4 rl.there)
  from_real (guard L) rl = Tables.for_row t S L (eqb-true (kind_at t L) 4 rl.there)
  from_real (copy_split L v) rl = (Tables.for_row t S L (carried_by t S L v rl.there).is_loop, rl.there)
  from_real (copy_invariant L v) rl = (Tables.for_row t S L (carried_by t S L v rl.there).is_loop, rl.there)
  from_real (carry a) rl = arg_form a rl.there
  from_real (arg_split a) rl = arg_form a rl.there

  -- a node that takes something is in the table
  op_cases : (r : ℕ) → (eqb (kind_at t r) 2 || eqb (kind_at t r) 3) ≡ true → r < size t
  op_cases r h = go (eqb (kind_at t r) 2) refl h
    where
      go : (b : Bool) → eqb (kind_at t r) 2 ≡ b → (b || eqb (kind_at t r) 3) ≡ true → r < size t
      go true e k = Tables.below_by_kind t S r 1 (eqb-true (kind_at t r) 2 e)
      go false e k = Tables.below_by_kind t S r 2 (eqb-true (kind_at t r) 3 k)

  real_if_has : (n : Role) → Sources.has t n ≡ true → Listed.Real t n
  real_if_has (op_node r) h = record { row = op_cases r h; value = op_cases r h; there = h }
  real_if_has (stream L) h = let l = Tables.below_by_kind t S L 3 (eqb-true (kind_at t L) 4 h) in record { row = l; value = l; there = h }
  real_if_has (gate L) h = let l = Tables.below_by_kind t S L 3 (eqb-true (kind_at t L) 4 h) in record { row = l; value = l; there = h }
  real_if_has (guard L) h = let l = Tables.below_by_kind t S L 3 (eqb-true (kind_at t L) 4 h) in record { row = l; value = l; there = h }
  real_if_has (copy_split L v) h = copy_real (copy_split L v) L v h refl refl refl
  real_if_has (copy_invariant L v) h = copy_real (copy_invariant L v) L v h refl refl refl
  real_if_has (carry a) h = let l = Tables.below_by_kind t S a 4 (eqb-true (kind_at t a) 5 h) in record { row = l; value = l; there = h }
  real_if_has (arg_split a) h = let l = Tables.below_by_kind t S a 4 (eqb-true (kind_at t a) 5 h) in record { row = l; value = l; there = h }

  pub use_is_listed : (p : Use) (w : Wire) → source t p ≡ some w → Among p (Lower.uses t)
  use_is_listed (into n k) w h = go (Sources.has t n) refl
    where
      go : (b : Bool) → Sources.has t n ≡ b → Among (into n k) (Lower.uses t)
      go true e = Uses.node_use_is_listed t n k w (real_if_has n e) h
      go false e = let q = none_there n k e in let z : ◌≡◌ {A = ℕ} 0 1 = cc in absurd (omega arith)
  use_is_listed (result q) w h = go (eqb (kind_at t q) 8) refl
    where
      go : (b : Bool) → eqb (kind_at t q) 8 ≡ b → Among (result q) (Lower.uses t)
      go true e = Uses.result_use_is_listed t q w (Tables.below_by_kind t S q 7 (eqb-true (kind_at t q) 8 e)) e h
      go false e = let k = not_result q e in let z : ◌≡◌ {A = ℕ} 0 1 = cc in absurd (omega arith)

  -- ---- wires

  op_one : (b : Bool) → outputs (cond b OP PICK) ≡ 1
  op_one true = refl
  op_one false = refl

  pub has_out : (n : Role) (o : Output) → HasOut n o → output_place o < outputs (role_kind t n)
  has_out (op_node r) out0 h = let e = op_one (eqb (kind_at t r) 2) in omega arith
  has_out (op_node r) out1 h = absurd h
  has_out (stream L) out0 h = omega arith
  has_out (stream L) out1 h = omega arith
  has_out (gate L) out0 h = omega arith
  has_out (gate L) out1 h = omega arith
  has_out (guard L) out0 h = omega arith
  has_out (guard L) out1 h = absurd h
  has_out (copy_split L v) out0 h = omega arith
  has_out (copy_split L v) out1 h = omega arith
  has_out (copy_invariant L v) out0 h = omega arith
  has_out (copy_invariant L v) out1 h = absurd h
  has_out (carry a) out0 h = omega arith
  has_out (carry a) out1 h = absurd h
  has_out (arg_split a) out0 h = omega arith
  has_out (arg_split a) out1 h = omega arith

  out_has : (n : Role) (o : Output) → output_place o < outputs (role_kind t n) → HasOut n o
  out_has n out0 h = tt
  out_has (op_node r) out1 h = let e = op_one (eqb (kind_at t r) 2) in absurd (omega arith)
  out_has (stream L) out1 h = tt
  out_has (gate L) out1 h = tt
  out_has (guard L) out1 h = absurd (omega arith)
  out_has (copy_split L v) out1 h = tt
  out_has (copy_invariant L v) out1 h = absurd (omega arith)
  out_has (carry a) out1 h = absurd (omega arith)
  out_has (arg_split a) out1 h = tt

  kind_in : (v : ℕ) → v < size t → is_in (tb.row v) ≡ leb (kind_at t v) 1
  kind_in v l = go (tb.row v) (Tables.row_kind_lem t S v l)
    where
      go : (d : Row) → Tables.row_kind d ≡ kind_at t v → is_in d ≡ leb (kind_at t v) 1
      go input e = rw (sym e)
      go (const w) e = rw (sym e)
      go (op c x y) e = rw (sym e)
      go (pick f x y) e = rw (sym e)
      go (for s st b u c) e = rw (sym e)
      go (arg i) e = rw (sym e)
      go (next x) e = rw (sym e)
      go end e = rw (sym e)
      go (out x) e = rw (sym e)
      go unknown e = rw (sym e)

  pub to_made : (w : Wire) → Layout.Made (plan tb) w → Listed.Made t w
  to_made (start v) m = (m.0, sym (kind_in v m.0) ∙ m.1)
  to_made (output n o) m = (to_real n m.0, has_out n o m.1)

  pub from_made : (w : Wire) → Listed.Made t w → Layout.Made (plan tb) w
  from_made (start v) m = (m.0, kind_in v m.0 ∙ m.1)
  from_made (output n o) m = (from_real n m.0, out_has n o m.1)
