-- What the following of the reading asks of a table, in row numbers; and what follows for each use.
--
--   Inner                     a row stands in a body, and no loop between
--   Used                      a value named in a body by what waits until a row
--   Good                      all facts together; Sound proves them of every table that passes
--   Source, source            where the wire of a value in a body comes from
--   When, when                which use waits until which row: by an OP or PICK, by a FOR, by an END, for ever
--   Inward, inward            which uses read a wire of their own loop
--
-- Assumes nothing.
use Rattle.std.specs.Prelude.{◌≡◌, ◌≢◌, ◌⊎◌, Bool, ℕ, suc, ◌≤◌, ◌<◌}
use Rattle.std.proofs.Math.Path.{refl, subst}
use Rattle.std.proofs.Common.{sym, ap, ◌∙◌, arith, eqb→eq}
use Rattle.std.proofs.Math.Bool.{true, false}
use Rattle.std.proofs.Math.Facts.{yes_eqb}
use Rattle.std.proofs.Math.Dec.{T, eqb}
use Rattle.step.specs.Kinds.{Input, in0, in1, in2, Output, out0, out1}
use Rattle.table.specs.Bodies.{Row, input, const, op, pick, for, arg, next, end, out, unknown}
use Rattle.lowered.specs.Roles.{Role, op_node, stream, gate, guard, copy_split, copy_invariant, carry, arg_split, Wire, start, output, Use, into, result}
use Rattle.faithful.specs.Table.{Table, val, inner, named, op_slot, stream_slot, guard_slot, gate_slot, copy_split_slot, copy_invariant_slot, carry_slot, arg_split_slot, result_slot, IsFor, wire_of, born, since, slot, is_op, is_start, is_arg, is_for_row, is_in}
use Rattle.faithful.specs.Members.{eqb_yes, in_loop, two_in, arg_in}

module _ (tb : Table) where
  -- row r stands in body B, and B is the innermost there
  pub record Inner (B r : ℕ) : Type 0 where
    pub low : tb.first B ≤ r
    pub high : r ≤ tb.last B
    pub within : (L : ℕ) → IsFor tb L → L < r → r ≤ tb.last L → (tb.first L ≤ tb.first B) × (tb.last B ≤ tb.last L)

  -- a value v named in body B by what waits until row c
  pub record Used (v B c : ℕ) : Type 0 where
    pub body : (B ≡ tb.size) ⊎ IsFor tb B
    pub place : Inner B c
    pub heads : (L : ℕ) → IsFor tb L → L < c → tb.first L ≤ c
    pub before : v < c
    pub named_before : since tb v B ≤ c
    pub away : tb.home v ≢ B → tb.carried B v ≡ true
    -- no END and no OUT is named
    pub value : is_start tb (tb.row v) ≡ true → is_in (tb.row v) ≡ true

  pub record Good : Type 0 where
    pub outer_first : tb.first tb.size ≡ 0
    pub outer_last : tb.last tb.size ≡ suc tb.size
    -- INPUT and CONST live in the outermost body
    pub start_home : (v : ℕ) → is_start tb (tb.row v) ≡ true → tb.home v ≡ tb.size
    pub in_size : (v : ℕ) → is_in (tb.row v) ≡ true → v < tb.size
    pub out_size : (q x : ℕ) → tb.row q ≡ out x → q < tb.size
    -- loops
    pub for_size : (L : ℕ) → IsFor tb L → tb.last L < tb.size
    pub for_first : (L : ℕ) → IsFor tb L → L < tb.first L
    pub for_last : (L : ℕ) → IsFor tb L → tb.first L ≤ tb.last L
    pub for_end : (L : ℕ) → IsFor tb L → tb.row (tb.last L) ≡ end
    pub end_loop : (L : ℕ) → IsFor tb L → tb.loop (tb.last L) ≡ L
    pub for_home : (L : ℕ) → IsFor tb L → tb.home L ≡ L
    pub for_code : (L s t b u c : ℕ) → tb.row L ≡ for s t b u c → c < 5
    pub for_reads : (L : ℕ) → IsFor tb L → Inner (tb.reads L) L
    pub for_args : (L a : ℕ) → IsFor tb L → L < a → a < tb.first L → (i : ℕ) × (tb.row a ≡ arg i) × (tb.loop a ≡ L)
    pub nest : (L M : ℕ) → IsFor tb L → IsFor tb M → L < M → M ≤ tb.last L → (tb.first L ≤ M) × (tb.last M < tb.last L)
    -- ARG
    pub arg_for : (a i : ℕ) → tb.row a ≡ arg i → IsFor tb (tb.loop a)
    pub arg_low : (a i : ℕ) → tb.row a ≡ arg i → tb.loop a < a
    pub arg_high : (a i : ℕ) → tb.row a ≡ arg i → a < tb.first (tb.loop a)
    pub arg_home : (a i : ℕ) → tb.row a ≡ arg i → tb.home a ≡ tb.loop a
    pub arg_next : (a i : ℕ) → tb.row a ≡ arg i → tb.row (tb.next_of a) ≡ next (named (tb.row (tb.next_of a)))
    pub arg_next_loop : (a i : ℕ) → tb.row a ≡ arg i → tb.loop (tb.next_of a) ≡ tb.loop a
    pub arg_next_arg : (a i : ℕ) → tb.row a ≡ arg i → tb.arg_of (tb.next_of a) ≡ a
    -- NEXT
    pub next_for : (x v : ℕ) → tb.row x ≡ next v → IsFor tb (tb.loop x)
    pub next_low : (x v : ℕ) → tb.row x ≡ next v → tb.first (tb.loop x) ≤ x
    pub next_high : (x v : ℕ) → tb.row x ≡ next v → x < tb.last (tb.loop x)
    pub next_home : (x v : ℕ) → tb.row x ≡ next v → tb.home x ≡ tb.reads (tb.loop x)
    pub next_arg : (x v : ℕ) → tb.row x ≡ next v → (i : ℕ) × (tb.row (tb.arg_of x) ≡ arg i)
    pub next_arg_loop : (x v : ℕ) → tb.row x ≡ next v → tb.loop (tb.arg_of x) ≡ tb.loop x
    pub next_arg_next : (x v : ℕ) → tb.row x ≡ next v → tb.next_of (tb.arg_of x) ≡ x
    -- END
    pub end_for : (r : ℕ) → tb.row r ≡ end → r < tb.size → IsFor tb (tb.loop r)
    pub end_last : (r : ℕ) → tb.row r ≡ end → r < tb.size → tb.last (tb.loop r) ≡ r
    -- OP, PICK
    pub op_size : (r : ℕ) → is_op tb (tb.row r) ≡ true → r < tb.size
    pub op_home : (r : ℕ) → is_op tb (tb.row r) ≡ true → tb.home r ≡ tb.reads r
    pub op_place : (r : ℕ) → is_op tb (tb.row r) ≡ true → Inner (tb.reads r) r
    -- operands
    pub uses : (p : Use) (v B c : ℕ) → slot tb p ≡ val v B c → Used v B c
    -- carried in
    pub in_for : (L v : ℕ) → tb.carried L v ≡ true → IsFor tb L
    pub in_before : (L v : ℕ) → tb.carried L v ≡ true → v < L
    pub in_born : (L v : ℕ) → tb.carried L v ≡ true → born tb v ≤ L
    pub in_home : (L v : ℕ) → tb.carried L v ≡ true → tb.home v ≢ L

  -- ---- where the wire of v in B comes from
  pub data Source (v B : ℕ) : Type 0 where
    from_start : wire_of tb v B ≡ start v → tb.home v ≡ B → is_start tb (tb.row v) ≡ true → since tb v B ≡ 0 → Source v B
    from_op : wire_of tb v B ≡ output (op_node v) out0 → tb.home v ≡ B → is_op tb (tb.row v) ≡ true → since tb v B ≡ suc v → Source v B
    from_for : wire_of tb v B ≡ output (gate v) out0 → tb.home v ≡ B → IsFor tb v → since tb v B ≡ 0 → Source v B
    from_arg : (i : ℕ) → wire_of tb v B ≡ output (arg_split v) out0 → tb.home v ≡ B → tb.row v ≡ arg i → since tb v B ≡ 0 → Source v B
    from_next : (x : ℕ) → wire_of tb v B ≡ output (arg_split (tb.arg_of v)) out1 → tb.home v ≡ B → tb.row v ≡ next x → since tb v B ≡ suc (tb.last (tb.loop v)) → Source v B
    from_copy : wire_of tb v B ≡ output (copy_invariant B v) out0 → tb.home v ≢ B → since tb v B ≡ 0 → Source v B

  pub source : (v B : ℕ) → Source v B
  unfolding wire_of since
  source v B = go (eqb (tb.home v) B) refl (tb.row v) refl
    where
      go : (b : Bool) → eqb (tb.home v) B ≡ b → (r : Row) → tb.row v ≡ r → Source v B
      go false e r q = from_copy (rw e) (λ h. subst T e (yes_eqb h)) (rw e)
      go true e input q = from_start (rw (e, q)) (eqb→eq (tb.home v) B (subst T (sym e) tt)) (rw q) (rw (e, q))
      go true e (const w) q = from_start (rw (e, q)) (eqb→eq (tb.home v) B (subst T (sym e) tt)) (rw q) (rw (e, q))
      go true e (op c x y) q = from_op (rw (e, q)) (eqb→eq (tb.home v) B (subst T (sym e) tt)) (rw q) (rw (e, q))
      go true e (pick f x y) q = from_op (rw (e, q)) (eqb→eq (tb.home v) B (subst T (sym e) tt)) (rw q) (rw (e, q))
      go true e (for s t b u c) q = from_for (rw (e, q)) (eqb→eq (tb.home v) B (subst T (sym e) tt)) (s, t, b, u, c, q) (rw (e, q))
      go true e (arg i) q = from_arg i (rw (e, q)) (eqb→eq (tb.home v) B (subst T (sym e) tt)) q (rw (e, q))
      go true e (next x) q = from_next x (rw (e, q)) (eqb→eq (tb.home v) B (subst T (sym e) tt)) q (rw (e, q))
      go true e end q = from_start (rw (e, q)) (eqb→eq (tb.home v) B (subst T (sym e) tt)) (rw q) (rw (e, q))
      go true e unknown q = from_start (rw (e, q)) (eqb→eq (tb.home v) B (subst T (sym e) tt)) (rw q) (rw (e, q))
      go true e (out x) q = from_start (rw (e, q)) (eqb→eq (tb.home v) B (subst T (sym e) tt)) (rw q) (rw (e, q))

  -- ---- which use waits until row c: of an OP or PICK there, of a node of the loop whose FOR or END it is, of a result
  pub data When (p : Use) (v B c : ℕ) : Type 0 where
    by_op : (k : Input) → p ≡ into (op_node c) k → is_op tb (tb.row c) ≡ true → When p v B c
    by_for : IsFor tb c → (n : Role) (k : Input) → p ≡ into n k → in_loop tb c n ≡ true → B ≡ tb.reads c → When p v B c
    by_end : (L : ℕ) → IsFor tb L → (n : Role) (k : Input) → p ≡ into n k → in_loop tb L n ≡ true → c ≡ tb.last L → B ≡ L → When p v B c
    by_out : (q : ℕ) → p ≡ result q → c ≡ suc tb.size → B ≡ tb.size → When p v B c

  at_op : (r : ℕ) (k : Input) (v B c : ℕ) → r ≡ c → is_op tb (tb.row r) ≡ true → When (into (op_node r) k) v B c
  at_op r k v B c e h = by_op k (ap (λ (z : ℕ). into (op_node z) k) e) (subst (λ (z : ℕ). is_op tb (tb.row z) ≡ true) e h)

  when_op : (r : ℕ) (w : Row) (k : Input) (v B c : ℕ) → tb.row r ≡ w → op_slot w (tb.reads r) r k ≡ val v B c → When (into (op_node r) k) v B c
  when_op r input k v B c q h = let z : ◌≡◌ {A = ℕ} 0 1 = cc in absurd (omega arith)
  when_op r (const x) k v B c q h = let z : ◌≡◌ {A = ℕ} 0 1 = cc in absurd (omega arith)
  when_op r (op d x y) in0 v B c q h = at_op r in0 v B c (cc) (rw q)
  when_op r (op d x y) in1 v B c q h = at_op r in1 v B c (cc) (rw q)
  when_op r (op d x y) in2 v B c q h = let z : ◌≡◌ {A = ℕ} 0 1 = cc in absurd (omega arith)
  when_op r (pick f x y) in0 v B c q h = at_op r in0 v B c (cc) (rw q)
  when_op r (pick f x y) in1 v B c q h = at_op r in1 v B c (cc) (rw q)
  when_op r (pick f x y) in2 v B c q h = at_op r in2 v B c (cc) (rw q)
  when_op r (for s t b u d) k v B c q h = let z : ◌≡◌ {A = ℕ} 0 1 = cc in absurd (omega arith)
  when_op r (arg i) k v B c q h = let z : ◌≡◌ {A = ℕ} 0 1 = cc in absurd (omega arith)
  when_op r (next x) k v B c q h = let z : ◌≡◌ {A = ℕ} 0 1 = cc in absurd (omega arith)
  when_op r end k v B c q h = let z : ◌≡◌ {A = ℕ} 0 1 = cc in absurd (omega arith)
  when_op r unknown k v B c q h = let z : ◌≡◌ {A = ℕ} 0 1 = cc in absurd (omega arith)
  when_op r (out x) k v B c q h = let z : ◌≡◌ {A = ℕ} 0 1 = cc in absurd (omega arith)

  -- L is c and B is its body: by the equations
  at_for : (n : Role) (k : Input) (L v B c : ℕ) → L ≡ c → tb.reads L ≡ B → IsFor tb L → in_loop tb L n ≡ true → When (into n k) v B c
  at_for n k L v B c e d f i = by_for (subst (IsFor tb) e f) n k refl (subst (λ (z : ℕ). in_loop tb z n ≡ true) e i) (sym d ∙ ap tb.reads e)

  when_stream : (L : ℕ) (w : Row) (k : Input) (v B c : ℕ) → tb.row L ≡ w → stream_slot w (tb.reads L) L k ≡ val v B c → When (into (stream L) k) v B c
  when_stream L input k v B c q h = let z : ◌≡◌ {A = ℕ} 0 1 = cc in absurd (omega arith)
  when_stream L (const x) k v B c q h = let z : ◌≡◌ {A = ℕ} 0 1 = cc in absurd (omega arith)
  when_stream L (op d x y) k v B c q h = let z : ◌≡◌ {A = ℕ} 0 1 = cc in absurd (omega arith)
  when_stream L (pick f x y) k v B c q h = let z : ◌≡◌ {A = ℕ} 0 1 = cc in absurd (omega arith)
  when_stream L (for s t b u d) in0 v B c q h = at_for (stream L) in0 L v B c (cc) (cc) (s, t, b, u, d, q) (eqb_yes L)
  when_stream L (for s t b u d) in1 v B c q h = at_for (stream L) in1 L v B c (cc) (cc) (s, t, b, u, d, q) (eqb_yes L)
  when_stream L (for s t b u d) in2 v B c q h = at_for (stream L) in2 L v B c (cc) (cc) (s, t, b, u, d, q) (eqb_yes L)
  when_stream L (arg i) k v B c q h = let z : ◌≡◌ {A = ℕ} 0 1 = cc in absurd (omega arith)
  when_stream L (next x) k v B c q h = let z : ◌≡◌ {A = ℕ} 0 1 = cc in absurd (omega arith)
  when_stream L end k v B c q h = let z : ◌≡◌ {A = ℕ} 0 1 = cc in absurd (omega arith)
  when_stream L unknown k v B c q h = let z : ◌≡◌ {A = ℕ} 0 1 = cc in absurd (omega arith)
  when_stream L (out x) k v B c q h = let z : ◌≡◌ {A = ℕ} 0 1 = cc in absurd (omega arith)

  when_guard : (L : ℕ) (w : Row) (k : Input) (v B c : ℕ) → tb.row L ≡ w → guard_slot w (tb.reads L) L k ≡ val v B c → When (into (guard L) k) v B c
  when_guard L input k v B c q h = let z : ◌≡◌ {A = ℕ} 0 1 = cc in absurd (omega arith)
  when_guard L (const x) k v B c q h = let z : ◌≡◌ {A = ℕ} 0 1 = cc in absurd (omega arith)
  when_guard L (op d x y) k v B c q h = let z : ◌≡◌ {A = ℕ} 0 1 = cc in absurd (omega arith)
  when_guard L (pick f x y) k v B c q h = let z : ◌≡◌ {A = ℕ} 0 1 = cc in absurd (omega arith)
  when_guard L (for s t b u d) in0 v B c q h = at_for (guard L) in0 L v B c (cc) (cc) (s, t, b, u, d, q) (eqb_yes L)
  when_guard L (for s t b u d) in1 v B c q h = at_for (guard L) in1 L v B c (cc) (cc) (s, t, b, u, d, q) (eqb_yes L)
  when_guard L (for s t b u d) in2 v B c q h = let z : ◌≡◌ {A = ℕ} 0 1 = cc in absurd (omega arith)
  when_guard L (arg i) k v B c q h = let z : ◌≡◌ {A = ℕ} 0 1 = cc in absurd (omega arith)
  when_guard L (next x) k v B c q h = let z : ◌≡◌ {A = ℕ} 0 1 = cc in absurd (omega arith)
  when_guard L end k v B c q h = let z : ◌≡◌ {A = ℕ} 0 1 = cc in absurd (omega arith)
  when_guard L unknown k v B c q h = let z : ◌≡◌ {A = ℕ} 0 1 = cc in absurd (omega arith)
  when_guard L (out x) k v B c q h = let z : ◌≡◌ {A = ℕ} 0 1 = cc in absurd (omega arith)

  when_carry : Good → (a : ℕ) (r : Row) (k : Input) (v B c : ℕ) → tb.row a ≡ r
      → carry_slot r (tb.reads (tb.loop a)) (tb.loop a) (named (tb.row (tb.next_of a))) (tb.last (tb.loop a)) k ≡ val v B c → When (into (carry a) k) v B c
  when_carry g a input k v B c q h = let z : ◌≡◌ {A = ℕ} 0 1 = cc in absurd (omega arith)
  when_carry g a (const x) k v B c q h = let z : ◌≡◌ {A = ℕ} 0 1 = cc in absurd (omega arith)
  when_carry g a (op d x y) k v B c q h = let z : ◌≡◌ {A = ℕ} 0 1 = cc in absurd (omega arith)
  when_carry g a (pick f x y) k v B c q h = let z : ◌≡◌ {A = ℕ} 0 1 = cc in absurd (omega arith)
  when_carry g a (for s t b u d) k v B c q h = let z : ◌≡◌ {A = ℕ} 0 1 = cc in absurd (omega arith)
  when_carry g a (arg i) in0 v B c q h = let z : ◌≡◌ {A = ℕ} 0 1 = cc in absurd (omega arith)
  when_carry g a (arg i) in1 v B c q h = at_for (carry a) in1 (tb.loop a) v B c (cc) (cc) (g.arg_for a i q) (arg_in tb (tb.loop a) a refl (ap is_arg q))
  when_carry g a (arg i) in2 v B c q h = by_end (tb.loop a) (g.arg_for a i q) (carry a) in2 refl (arg_in tb (tb.loop a) a refl (ap is_arg q)) (cc) (cc)
  when_carry g a (next x) k v B c q h = let z : ◌≡◌ {A = ℕ} 0 1 = cc in absurd (omega arith)
  when_carry g a end k v B c q h = let z : ◌≡◌ {A = ℕ} 0 1 = cc in absurd (omega arith)
  when_carry g a unknown k v B c q h = let z : ◌≡◌ {A = ℕ} 0 1 = cc in absurd (omega arith)
  when_carry g a (out x) k v B c q h = let z : ◌≡◌ {A = ℕ} 0 1 = cc in absurd (omega arith)

  when_split : Good → (L u : ℕ) (b : Bool) (k : Input) (v B c : ℕ) → tb.carried L u ≡ b → copy_split_slot b (tb.reads L) L u k ≡ val v B c → When (into (copy_split L u) k) v B c
  when_split g L u false k v B c q h = let z : ◌≡◌ {A = ℕ} 0 1 = cc in absurd (omega arith)
  when_split g L u true in0 v B c q h = let z : ◌≡◌ {A = ℕ} 0 1 = cc in absurd (omega arith)
  when_split g L u true in1 v B c q h = at_for (copy_split L u) in1 L v B c (cc) (cc) (g.in_for L u q) (two_in tb L u q)
  when_split g L u true in2 v B c q h = let z : ◌≡◌ {A = ℕ} 0 1 = cc in absurd (omega arith)

  when_out : (q : ℕ) (r : Row) (v B c : ℕ) → tb.row q ≡ r → result_slot r tb.size (suc tb.size) ≡ val v B c → When (result q) v B c
  when_out q input v B c e h = let z : ◌≡◌ {A = ℕ} 0 1 = cc in absurd (omega arith)
  when_out q (const x) v B c e h = let z : ◌≡◌ {A = ℕ} 0 1 = cc in absurd (omega arith)
  when_out q (op d x y) v B c e h = let z : ◌≡◌ {A = ℕ} 0 1 = cc in absurd (omega arith)
  when_out q (pick f x y) v B c e h = let z : ◌≡◌ {A = ℕ} 0 1 = cc in absurd (omega arith)
  when_out q (for s t b u d) v B c e h = let z : ◌≡◌ {A = ℕ} 0 1 = cc in absurd (omega arith)
  when_out q (arg i) v B c e h = let z : ◌≡◌ {A = ℕ} 0 1 = cc in absurd (omega arith)
  when_out q (next x) v B c e h = let z : ◌≡◌ {A = ℕ} 0 1 = cc in absurd (omega arith)
  when_out q end v B c e h = let z : ◌≡◌ {A = ℕ} 0 1 = cc in absurd (omega arith)
  when_out q unknown v B c e h = let z : ◌≡◌ {A = ℕ} 0 1 = cc in absurd (omega arith)
  when_out q (out x) v B c e h = by_out q refl (cc) (cc)

  not_gate : (b : Bool) (L : ℕ) (k : Input) (v B c : ℕ) → gate_slot b L k ≡ val v B c → ⊥
  not_gate false L k v B c h = let z : ◌≡◌ {A = ℕ} 0 1 = cc in omega arith
  not_gate true L in0 v B c h = let z : ◌≡◌ {A = ℕ} 0 1 = cc in omega arith
  not_gate true L in1 v B c h = let z : ◌≡◌ {A = ℕ} 0 1 = cc in omega arith
  not_gate true L in2 v B c h = let z : ◌≡◌ {A = ℕ} 0 1 = cc in omega arith

  when_inv : Good → (L u : ℕ) (b : Bool) (k : Input) (v B c : ℕ) → tb.carried L u ≡ b → copy_invariant_slot b (tb.reads L) L u k ≡ val v B c → When (into (copy_invariant L u) k) v B c
  when_inv g L u false k v B c q h = let z : ◌≡◌ {A = ℕ} 0 1 = cc in absurd (omega arith)
  when_inv g L u true in0 v B c q h = let z : ◌≡◌ {A = ℕ} 0 1 = cc in absurd (omega arith)
  when_inv g L u true in1 v B c q h = let z : ◌≡◌ {A = ℕ} 0 1 = cc in absurd (omega arith)
  when_inv g L u true in2 v B c q h = let z : ◌≡◌ {A = ℕ} 0 1 = cc in absurd (omega arith)

  not_asplit : (b : Bool) (L a : ℕ) (k : Input) (v B c : ℕ) → arg_split_slot b L a k ≡ val v B c → ⊥
  not_asplit false L a k v B c h = let z : ◌≡◌ {A = ℕ} 0 1 = cc in omega arith
  not_asplit true L a in0 v B c h = let z : ◌≡◌ {A = ℕ} 0 1 = cc in omega arith
  not_asplit true L a in1 v B c h = let z : ◌≡◌ {A = ℕ} 0 1 = cc in omega arith
  not_asplit true L a in2 v B c h = let z : ◌≡◌ {A = ℕ} 0 1 = cc in omega arith

  pub when : Good → (p : Use) (v B c : ℕ) → slot tb p ≡ val v B c → When p v B c
  when g (into (op_node r) k) v B c h = when_op r (tb.row r) k v B c refl h
  when g (into (stream L) k) v B c h = when_stream L (tb.row L) k v B c refl h
  when g (into (gate L) k) v B c h = absurd (not_gate (is_for_row (tb.row L)) L k v B c h)
  when g (into (guard L) k) v B c h = when_guard L (tb.row L) k v B c refl h
  when g (into (copy_split L u) k) v B c h = when_split g L u (tb.carried L u) k v B c refl h
  when g (into (copy_invariant L u) k) v B c h = when_inv g L u (tb.carried L u) k v B c refl h
  when g (into (carry a) k) v B c h = when_carry g a (tb.row a) k v B c refl h
  when g (into (arg_split a) k) v B c h = absurd (not_asplit (is_arg (tb.row a)) (tb.loop a) a k v B c h)
  when g (result q) v B c h = when_out q (tb.row q) v B c refl h

  -- ---- inner uses: an input of a node of a loop reads an output of a node of the same loop
  pub record Inward (p : Use) (w : Wire) : Type 0 where
    pub loop : ℕ
    pub node : Role
    pub place : Input
    pub from : Role
    pub leg : Output
    pub use_is : p ≡ into node place
    pub wire_is : w ≡ output from leg
    pub node_in : in_loop tb loop node ≡ true
    pub from_in : in_loop tb loop from ≡ true

  within : (L : ℕ) (n : Role) (k : Input) (m : Role) (o : Output) (w : Wire) → w ≡ output m o → in_loop tb L n ≡ true → in_loop tb L m ≡ true → Inward (into n k) w
  within L n k m o w e i j = record { loop = L; node = n; place = k; from = m; leg = o; use_is = refl; wire_is = e; node_in = i; from_in = j }

  in_op : (r : ℕ) (d : Row) (k : Input) (w : Wire) → op_slot d (tb.reads r) r k ≡ inner w → ⊥
  in_op r input k w h = let z : ◌≡◌ {A = ℕ} 0 1 = cc in omega arith
  in_op r (const x) k w h = let z : ◌≡◌ {A = ℕ} 0 1 = cc in omega arith
  in_op r (op d x y) in0 w h = let z : ◌≡◌ {A = ℕ} 0 1 = cc in omega arith
  in_op r (op d x y) in1 w h = let z : ◌≡◌ {A = ℕ} 0 1 = cc in omega arith
  in_op r (op d x y) in2 w h = let z : ◌≡◌ {A = ℕ} 0 1 = cc in omega arith
  in_op r (pick f x y) in0 w h = let z : ◌≡◌ {A = ℕ} 0 1 = cc in omega arith
  in_op r (pick f x y) in1 w h = let z : ◌≡◌ {A = ℕ} 0 1 = cc in omega arith
  in_op r (pick f x y) in2 w h = let z : ◌≡◌ {A = ℕ} 0 1 = cc in omega arith
  in_op r (for s t b u d) k w h = let z : ◌≡◌ {A = ℕ} 0 1 = cc in omega arith
  in_op r (arg i) k w h = let z : ◌≡◌ {A = ℕ} 0 1 = cc in omega arith
  in_op r (next x) k w h = let z : ◌≡◌ {A = ℕ} 0 1 = cc in omega arith
  in_op r end k w h = let z : ◌≡◌ {A = ℕ} 0 1 = cc in omega arith
  in_op r unknown k w h = let z : ◌≡◌ {A = ℕ} 0 1 = cc in omega arith
  in_op r (out x) k w h = let z : ◌≡◌ {A = ℕ} 0 1 = cc in omega arith

  in_stream : (r : ℕ) (d : Row) (k : Input) (w : Wire) → stream_slot d (tb.reads r) r k ≡ inner w → ⊥
  in_stream r input k w h = let z : ◌≡◌ {A = ℕ} 0 1 = cc in omega arith
  in_stream r (const x) k w h = let z : ◌≡◌ {A = ℕ} 0 1 = cc in omega arith
  in_stream r (op d x y) k w h = let z : ◌≡◌ {A = ℕ} 0 1 = cc in omega arith
  in_stream r (pick f x y) k w h = let z : ◌≡◌ {A = ℕ} 0 1 = cc in omega arith
  in_stream r (for s t b u d) in0 w h = let z : ◌≡◌ {A = ℕ} 0 1 = cc in omega arith
  in_stream r (for s t b u d) in1 w h = let z : ◌≡◌ {A = ℕ} 0 1 = cc in omega arith
  in_stream r (for s t b u d) in2 w h = let z : ◌≡◌ {A = ℕ} 0 1 = cc in omega arith
  in_stream r (arg i) k w h = let z : ◌≡◌ {A = ℕ} 0 1 = cc in omega arith
  in_stream r (next x) k w h = let z : ◌≡◌ {A = ℕ} 0 1 = cc in omega arith
  in_stream r end k w h = let z : ◌≡◌ {A = ℕ} 0 1 = cc in omega arith
  in_stream r unknown k w h = let z : ◌≡◌ {A = ℕ} 0 1 = cc in omega arith
  in_stream r (out x) k w h = let z : ◌≡◌ {A = ℕ} 0 1 = cc in omega arith

  in_guard : (r : ℕ) (d : Row) (k : Input) (w : Wire) → guard_slot d (tb.reads r) r k ≡ inner w → ⊥
  in_guard r input k w h = let z : ◌≡◌ {A = ℕ} 0 1 = cc in omega arith
  in_guard r (const x) k w h = let z : ◌≡◌ {A = ℕ} 0 1 = cc in omega arith
  in_guard r (op d x y) k w h = let z : ◌≡◌ {A = ℕ} 0 1 = cc in omega arith
  in_guard r (pick f x y) k w h = let z : ◌≡◌ {A = ℕ} 0 1 = cc in omega arith
  in_guard r (for s t b u d) in0 w h = let z : ◌≡◌ {A = ℕ} 0 1 = cc in omega arith
  in_guard r (for s t b u d) in1 w h = let z : ◌≡◌ {A = ℕ} 0 1 = cc in omega arith
  in_guard r (for s t b u d) in2 w h = let z : ◌≡◌ {A = ℕ} 0 1 = cc in omega arith
  in_guard r (arg i) k w h = let z : ◌≡◌ {A = ℕ} 0 1 = cc in omega arith
  in_guard r (next x) k w h = let z : ◌≡◌ {A = ℕ} 0 1 = cc in omega arith
  in_guard r end k w h = let z : ◌≡◌ {A = ℕ} 0 1 = cc in omega arith
  in_guard r unknown k w h = let z : ◌≡◌ {A = ℕ} 0 1 = cc in omega arith
  in_guard r (out x) k w h = let z : ◌≡◌ {A = ℕ} 0 1 = cc in omega arith

  in_out : (q : ℕ) (d : Row) (w : Wire) → result_slot d tb.size (suc tb.size) ≡ inner w → ⊥
  in_out q input w h = let z : ◌≡◌ {A = ℕ} 0 1 = cc in omega arith
  in_out q (const x) w h = let z : ◌≡◌ {A = ℕ} 0 1 = cc in omega arith
  in_out q (op d x y) w h = let z : ◌≡◌ {A = ℕ} 0 1 = cc in omega arith
  in_out q (pick f x y) w h = let z : ◌≡◌ {A = ℕ} 0 1 = cc in omega arith
  in_out q (for s t b u d) w h = let z : ◌≡◌ {A = ℕ} 0 1 = cc in omega arith
  in_out q (arg i) w h = let z : ◌≡◌ {A = ℕ} 0 1 = cc in omega arith
  in_out q (next x) w h = let z : ◌≡◌ {A = ℕ} 0 1 = cc in omega arith
  in_out q end w h = let z : ◌≡◌ {A = ℕ} 0 1 = cc in omega arith
  in_out q unknown w h = let z : ◌≡◌ {A = ℕ} 0 1 = cc in omega arith
  in_out q (out x) w h = let z : ◌≡◌ {A = ℕ} 0 1 = cc in omega arith

  in_carry : (a : ℕ) (r : Row) (B L x e : ℕ) (k : Input) (w : Wire) → tb.row a ≡ r → tb.loop a ≡ L → carry_slot r B L x e k ≡ inner w → Inward (into (carry a) k) w
  in_carry a input B L x e k w q l h = let z : ◌≡◌ {A = ℕ} 0 1 = cc in absurd (omega arith)
  in_carry a (const y) B L x e k w q l h = let z : ◌≡◌ {A = ℕ} 0 1 = cc in absurd (omega arith)
  in_carry a (op d y u) B L x e k w q l h = let z : ◌≡◌ {A = ℕ} 0 1 = cc in absurd (omega arith)
  in_carry a (pick f y u) B L x e k w q l h = let z : ◌≡◌ {A = ℕ} 0 1 = cc in absurd (omega arith)
  in_carry a (for s t b u d) B L x e k w q l h = let z : ◌≡◌ {A = ℕ} 0 1 = cc in absurd (omega arith)
  in_carry a (arg i) B L x e in0 w q l h = let y = arg_in tb (tb.loop a) a refl (ap is_arg q) in within (tb.loop a) (carry a) in0 (stream (tb.loop a)) out1 w (cc) y (eqb_yes (tb.loop a))
  in_carry a (arg i) B L x e in1 w q l h = let z : ◌≡◌ {A = ℕ} 0 1 = cc in absurd (omega arith)
  in_carry a (arg i) B L x e in2 w q l h = let z : ◌≡◌ {A = ℕ} 0 1 = cc in absurd (omega arith)
  in_carry a (next y) B L x e k w q l h = let z : ◌≡◌ {A = ℕ} 0 1 = cc in absurd (omega arith)
  in_carry a end B L x e k w q l h = let z : ◌≡◌ {A = ℕ} 0 1 = cc in absurd (omega arith)
  in_carry a unknown B L x e k w q l h = let z : ◌≡◌ {A = ℕ} 0 1 = cc in absurd (omega arith)
  in_carry a (out y) B L x e k w q l h = let z : ◌≡◌ {A = ℕ} 0 1 = cc in absurd (omega arith)

  in_split : (L u : ℕ) (b : Bool) (k : Input) (w : Wire) → tb.carried L u ≡ b → copy_split_slot b (tb.reads L) L u k ≡ inner w → Inward (into (copy_split L u) k) w
  in_split L u false k w q h = let z : ◌≡◌ {A = ℕ} 0 1 = cc in absurd (omega arith)
  in_split L u true in0 w q h = within L (copy_split L u) in0 (guard L) out0 w (cc) (two_in tb L u q) (eqb_yes L)
  in_split L u true in1 w q h = let z : ◌≡◌ {A = ℕ} 0 1 = cc in absurd (omega arith)
  in_split L u true in2 w q h = let z : ◌≡◌ {A = ℕ} 0 1 = cc in absurd (omega arith)

  in_gate : (L : ℕ) (b : Bool) (k : Input) (w : Wire) → is_for_row (tb.row L) ≡ b → gate_slot b L k ≡ inner w → Inward (into (gate L) k) w
  in_gate L false k w q h = let z : ◌≡◌ {A = ℕ} 0 1 = cc in absurd (omega arith)
  in_gate L true in0 w q h = within L (gate L) in0 (stream L) out0 w (cc) (eqb_yes L) (eqb_yes L)
  in_gate L true in1 w q h = within L (gate L) in1 (stream L) out1 w (cc) (eqb_yes L) (eqb_yes L)
  in_gate L true in2 w q h = let z : ◌≡◌ {A = ℕ} 0 1 = cc in absurd (omega arith)

  in_inv : (L u : ℕ) (b : Bool) (k : Input) (w : Wire) → tb.carried L u ≡ b → copy_invariant_slot b (tb.reads L) L u k ≡ inner w → Inward (into (copy_invariant L u) k) w
  in_inv L u false k w q h = let z : ◌≡◌ {A = ℕ} 0 1 = cc in absurd (omega arith)
  in_inv L u true in0 w q h = within L (copy_invariant L u) in0 (gate L) out1 w (cc) (two_in tb L u q) (eqb_yes L)
  in_inv L u true in1 w q h = within L (copy_invariant L u) in1 (copy_split L u) out0 w (cc) (two_in tb L u q) (two_in tb L u q)
  in_inv L u true in2 w q h = let z : ◌≡◌ {A = ℕ} 0 1 = cc in absurd (omega arith)

  in_asplit : (a : ℕ) (b : Bool) (k : Input) (w : Wire) → is_arg (tb.row a) ≡ b → arg_split_slot b (tb.loop a) a k ≡ inner w → Inward (into (arg_split a) k) w
  in_asplit a false k w q h = let z : ◌≡◌ {A = ℕ} 0 1 = cc in absurd (omega arith)
  in_asplit a true in0 w q h = within (tb.loop a) (arg_split a) in0 (stream (tb.loop a)) out1 w (cc) (arg_in tb (tb.loop a) a refl q) (eqb_yes (tb.loop a))
  in_asplit a true in1 w q h = within (tb.loop a) (arg_split a) in1 (carry a) out0 w (cc) (arg_in tb (tb.loop a) a refl q) (arg_in tb (tb.loop a) a refl q)
  in_asplit a true in2 w q h = let z : ◌≡◌ {A = ℕ} 0 1 = cc in absurd (omega arith)

  pub inward : (p : Use) (w : Wire) → slot tb p ≡ inner w → Inward p w
  inward (into (op_node r) k) w h = absurd (in_op r (tb.row r) k w h)
  inward (into (stream L) k) w h = absurd (in_stream L (tb.row L) k w h)
  inward (into (gate L) k) w h = in_gate L (is_for_row (tb.row L)) k w refl h
  inward (into (guard L) k) w h = absurd (in_guard L (tb.row L) k w h)
  inward (into (copy_split L u) k) w h = in_split L u (tb.carried L u) k w refl h
  inward (into (copy_invariant L u) k) w h = in_inv L u (tb.carried L u) k w refl h
  inward (into (carry a) k) w h = in_carry a (tb.row a) (tb.reads (tb.loop a)) (tb.loop a) (named (tb.row (tb.next_of a))) (tb.last (tb.loop a)) k w refl refl h
  inward (into (arg_split a) k) w h = in_asplit a (is_arg (tb.row a)) k w refl h
  inward (result q) w h = absurd (in_out q (tb.row q) w h)
