-- A table with what one scan says of it, and its graph before forks and drains: each node by its role, each use by what it reads.
--
--   Table                     rows, bodies with their first and last row, homes, ARGs and NEXTs, what is carried into a loop
--   wire_of                   the wire on which a value comes to a body
--   born, since               from which row on a value is there, at home and elsewhere
--   Slot, slot, src           what a use reads: a value in a body until a row, or a wire of its own loop
--   program_of, Real, HasOut      what a role does, which roles the table has, and their outputs
--   plan                      the plan of the table
--
-- A body is a loop's FOR row; the outermost one is the row count, with first row 0 and last row the row count + 1, so that every question of
-- nesting is one of numbers.
-- Assumes nothing.
use Rattle.std.specs.Prelude.{◌≡◌, refl, Bool, true, false, ℕ, zero, suc, ◌+◌, ◌*◌, ◌<◌, eqb}
use Rattle.std.proofs.Common.{sym, ap, ◌∙◌, arith}
use Rattle.std.proofs.Math.Option.{Option, none, some}
use Rattle.step.specs.Kinds.{Input, in0, in1, in2, Output, out0, out1, STREAM, GATE, CARRY, INVARIANT, SPLIT, OP, PICK}
use Rattle.step.specs.Firing.{View, Effect, Program, stop, give, ask, perform, gives, fillable}
use Rattle.step.specs.Machines.{program, whether}
use Rattle.step.specs.Locality.{asking_inv, giving_inv, taking_gives}
use Rattle.step.specs.declared.Record.{Record}
use Rattle.step.specs.Machines
use Rattle.table.specs.Bodies.{Row, input, const, op, pick, for, arg, next, end, out, unknown}
use Rattle.lowered.specs.Roles.{Role, op_node, stream, gate, guard, copy_split, copy_invariant, carry, arg_split, Wire, start, output, Use, into, result}
use Rattle.uses.specs.Machine.{Plan}

-- A table with what one scan says of it. A body is a loop's FOR row, or `size` for the outermost.
pub record Table : Type 0 where
  pub size : ℕ
  pub row : ℕ → Row
  -- the body in which a row's operands are read, the body of a row's value
  pub reads : ℕ → ℕ
  pub home : ℕ → ℕ
  -- the first row behind a loop's ARGs, its END; of the outermost 0 and size + 1
  pub first : ℕ → ℕ
  pub last : ℕ → ℕ
  -- the loop of an ARG, a NEXT or an END; the ARG's NEXT, the NEXT's ARG
  pub loop : ℕ → ℕ
  pub next_of : ℕ → ℕ
  pub arg_of : ℕ → ℕ
  -- v is carried into L
  pub carried : ℕ → ℕ → Bool

-- what a use reads: a value v in a body, until a row; an inner wire; nothing
pub data Slot : Type 0 where
  val : ℕ → ℕ → ℕ → Slot
  inner : Wire → Slot
  absent : Slot

-- the row's one operand
abbrev pub named : Row → ℕ
named input = 0
named (const w) = 0
named (op c x y) = 0
named (pick f x y) = 0
named (for s t b u c) = 0
named (arg i) = i
named (next v) = v
named end = 0
named unknown = 0
named (out x) = x

-- ---- sources

abbrev pub home_wire : Row → ℕ → ℕ → Wire
home_wire input v a = start v
home_wire (const w) v a = start v
home_wire (op c x y) v a = output (op_node v) out0
home_wire (pick f x y) v a = output (op_node v) out0
home_wire (for s t b u c) v a = output (gate v) out0
home_wire (arg i) v a = output (arg_split v) out0
home_wire (next x) v a = output (arg_split a) out1
home_wire end v a = start v
home_wire unknown v a = start v
home_wire (out x) v a = start v

abbrev pub wire_by : Bool → Row → ℕ → ℕ → ℕ → Wire
wire_by false r v a B = output (copy_invariant B v) out0
wire_by true r v a B = home_wire r v a

-- from which row on a value's tokens stand in its home
abbrev pub born_by : Row → ℕ → ℕ → ℕ
born_by input v e = 0
born_by (const w) v e = 0
born_by (op c x y) v e = suc v
born_by (pick f x y) v e = suc v
born_by (for s t b u c) v e = 0
born_by (arg i) v e = 0
born_by (next x) v e = suc e
born_by end v e = 0
born_by unknown v e = 0
born_by (out x) v e = 0

abbrev pub since_by : Bool → ℕ → ℕ
since_by false b = 0
since_by true b = b

-- ---- slots

abbrev pub op_slot : Row → ℕ → ℕ → Input → Slot
op_slot input B r k = absent
op_slot (const w) B r k = absent
op_slot (op c x y) B r in0 = val x B r
op_slot (op c x y) B r in1 = val y B r
op_slot (op c x y) B r in2 = absent
op_slot (pick f x y) B r in0 = val f B r
op_slot (pick f x y) B r in1 = val x B r
op_slot (pick f x y) B r in2 = val y B r
op_slot (for s t b u c) B r k = absent
op_slot (arg i) B r k = absent
op_slot (next v) B r k = absent
op_slot end B r k = absent
op_slot unknown B r k = absent
op_slot (out x) B r k = absent

abbrev pub stream_slot : Row → ℕ → ℕ → Input → Slot
stream_slot input B r k = absent
stream_slot (const w) B r k = absent
stream_slot (op c x y) B r k = absent
stream_slot (pick f x y) B r k = absent
stream_slot (for s t b u c) B r in0 = val s B r
stream_slot (for s t b u c) B r in1 = val t B r
stream_slot (for s t b u c) B r in2 = val b B r
stream_slot (arg i) B r k = absent
stream_slot (next v) B r k = absent
stream_slot end B r k = absent
stream_slot unknown B r k = absent
stream_slot (out x) B r k = absent

abbrev pub guard_slot : Row → ℕ → ℕ → Input → Slot
guard_slot input B r k = absent
guard_slot (const w) B r k = absent
guard_slot (op c x y) B r k = absent
guard_slot (pick f x y) B r k = absent
guard_slot (for s t b u c) B r in0 = val s B r
guard_slot (for s t b u c) B r in1 = val b B r
guard_slot (for s t b u c) B r in2 = absent
guard_slot (arg i) B r k = absent
guard_slot (next v) B r k = absent
guard_slot end B r k = absent
guard_slot unknown B r k = absent
guard_slot (out x) B r k = absent

abbrev pub is_for_row : Row → Bool
is_for_row input = false
is_for_row (const w) = false
is_for_row (op c x y) = false
is_for_row (pick f x y) = false
is_for_row (for s t b u c) = true
is_for_row (arg i) = false
is_for_row (next v) = false
is_for_row end = false
is_for_row unknown = false
is_for_row (out x) = false

abbrev pub is_in : Row → Bool
is_in input = true
is_in (const w) = true
is_in (op c x y) = false
is_in (pick f x y) = false
is_in (for s t b u c) = false
is_in (arg i) = false
is_in (next v) = false
is_in end = false
is_in unknown = false
is_in (out x) = false

abbrev pub gate_slot : Bool → ℕ → Input → Slot
gate_slot false L k = absent
gate_slot true L in0 = inner (output (stream L) out0)
gate_slot true L in1 = inner (output (stream L) out1)
gate_slot true L in2 = absent

-- v is carried into L, which is read in B: the SPLIT and the INVARIANT of the copy
abbrev pub copy_split_slot : Bool → ℕ → ℕ → ℕ → Input → Slot
copy_split_slot false B L v k = absent
copy_split_slot true B L v in0 = inner (output (guard L) out0)
copy_split_slot true B L v in1 = val v B L
copy_split_slot true B L v in2 = absent

abbrev pub copy_invariant_slot : Bool → ℕ → ℕ → ℕ → Input → Slot
copy_invariant_slot false B L v k = absent
copy_invariant_slot true B L v in0 = inner (output (gate L) out1)
copy_invariant_slot true B L v in1 = inner (output (copy_split L v) out0)
copy_invariant_slot true B L v in2 = absent

-- i: the initial, B: where it is read; L: the loop; w: what its NEXT names; e: the END
abbrev pub carry_slot : Row → ℕ → ℕ → ℕ → ℕ → Input → Slot
carry_slot input B L w e k = absent
carry_slot (const x) B L w e k = absent
carry_slot (op c x y) B L w e k = absent
carry_slot (pick f x y) B L w e k = absent
carry_slot (for s t b u c) B L w e k = absent
carry_slot (arg i) B L w e in0 = inner (output (stream L) out1)
carry_slot (arg i) B L w e in1 = val i B L
carry_slot (arg i) B L w e in2 = val w L e
carry_slot (next v) B L w e k = absent
carry_slot end B L w e k = absent
carry_slot unknown B L w e k = absent
carry_slot (out x) B L w e k = absent

abbrev pub is_arg : Row → Bool
is_arg input = false
is_arg (const w) = false
is_arg (op c x y) = false
is_arg (pick f x y) = false
is_arg (for s t b u c) = false
is_arg (arg i) = true
is_arg (next v) = false
is_arg end = false
is_arg unknown = false
is_arg (out x) = false

abbrev pub arg_split_slot : Bool → ℕ → ℕ → Input → Slot
arg_split_slot false L a k = absent
arg_split_slot true L a in0 = inner (output (stream L) out1)
arg_split_slot true L a in1 = inner (output (carry a) out0)
arg_split_slot true L a in2 = absent

abbrev pub result_slot : Row → ℕ → ℕ → Slot
result_slot input B e = absent
result_slot (const x) B e = absent
result_slot (op c x y) B e = absent
result_slot (pick f x y) B e = absent
result_slot (for s t b u c) B e = absent
result_slot (arg i) B e = absent
result_slot (next v) B e = absent
result_slot end B e = absent
result_slot unknown B e = absent
result_slot (out x) B e = val x B e

abbrev pub op_program : Row → Record → Program
op_program input r = stop
op_program (const w) r = stop
op_program (op c x y) r = program OP c r
op_program (pick f x y) r = program PICK 0 r
op_program (for s t b u c) r = stop
op_program (arg i) r = stop
op_program (next v) r = stop
op_program end r = stop
op_program unknown r = stop
op_program (out x) r = stop

abbrev pub stream_program : Row → Record → Program
stream_program input r = stop
stream_program (const w) r = stop
stream_program (op c x y) r = stop
stream_program (pick f x y) r = stop
stream_program (for s t b u c) r = program STREAM (5 * u + c) r
stream_program (arg i) r = stop
stream_program (next v) r = stop
stream_program end r = stop
stream_program unknown r = stop
stream_program (out x) r = stop

abbrev pub guard_program : Row → Record → Program
guard_program input r = stop
guard_program (const w) r = stop
guard_program (op c x y) r = stop
guard_program (pick f x y) r = stop
guard_program (for s t b u c) r = program OP (suc (suc (suc c))) r
guard_program (arg i) r = stop
guard_program (next v) r = stop
guard_program end r = stop
guard_program unknown r = stop
guard_program (out x) r = stop

module _ (tb : Table) where
  abbrev pub IsFor : ℕ → Type 0
  IsFor L = (s : ℕ) × (t : ℕ) × (b : ℕ) × (u : ℕ) × (c : ℕ) × (tb.row L ≡ for s t b u c)

  abbrev pub outer : ℕ
  outer = tb.size

  -- the wire on which value v comes to body B
  unfoldable pub wire_of : ℕ → ℕ → Wire
  wire_of v B = wire_by (eqb (tb.home v) B) (tb.row v) v (tb.arg_of v) B

  abbrev pub born : ℕ → ℕ
  born v = born_by (tb.row v) v (tb.last (tb.loop v))

  unfoldable pub since : ℕ → ℕ → ℕ
  since v B = since_by (eqb (tb.home v) B) (born v)

  abbrev pub slot : Use → Slot
  slot (into (op_node r) k) = op_slot (tb.row r) (tb.reads r) r k
  slot (into (stream L) k) = stream_slot (tb.row L) (tb.reads L) L k
  slot (into (gate L) k) = gate_slot (is_for_row (tb.row L)) L k
  slot (into (guard L) k) = guard_slot (tb.row L) (tb.reads L) L k
  slot (into (copy_split L v) k) = copy_split_slot (tb.carried L v) (tb.reads L) L v k
  slot (into (copy_invariant L v) k) = copy_invariant_slot (tb.carried L v) (tb.reads L) L v k
  slot (into (carry a) k) = carry_slot (tb.row a) (tb.reads (tb.loop a)) (tb.loop a) (named (tb.row (tb.next_of a))) (tb.last (tb.loop a)) k
  slot (into (arg_split a) k) = arg_split_slot (is_arg (tb.row a)) (tb.loop a) a k
  slot (result q) = result_slot (tb.row q) tb.size (suc tb.size)

  abbrev pub slot_wire : Slot → Option Wire
  slot_wire (val v B c) = some (wire_of v B)
  slot_wire (inner w) = some w
  slot_wire absent = none

  abbrev pub src : Use → Option Wire
  src p = slot_wire (slot p)

  abbrev pub program_of : Role → Record → Program
  program_of (op_node r) = op_program (tb.row r)
  program_of (stream L) = stream_program (tb.row L)
  program_of (gate L) = program GATE 0
  program_of (guard L) = guard_program (tb.row L)
  program_of (copy_split L v) = program SPLIT 0
  program_of (copy_invariant L v) = program INVARIANT 0
  program_of (carry a) = program CARRY 0
  program_of (arg_split a) = program SPLIT 0

  -- the roles that the table has
  abbrev pub is_op : Row → Bool
  is_op input = false
  is_op (const w) = false
  is_op (op c x y) = true
  is_op (pick f x y) = true
  is_op (for s t b u c) = false
  is_op (arg i) = false
  is_op (next v) = false
  is_op end = false
  is_op unknown = false
  is_op (out x) = false

  -- rows whose value, if any, is there from the start
  abbrev pub is_start : Row → Bool
  is_start input = true
  is_start (const w) = true
  is_start (op c x y) = false
  is_start (pick f x y) = false
  is_start (for s t b u c) = false
  is_start (arg i) = false
  is_start (next v) = false
  is_start end = true
  is_start unknown = true
  is_start (out x) = true

  abbrev pub Real : Role → Type 0
  Real (op_node r) = (r < tb.size) × (is_op (tb.row r) ≡ true)
  Real (stream L) = IsFor L
  Real (gate L) = IsFor L
  Real (guard L) = IsFor L
  Real (copy_split L v) = IsFor L × (tb.carried L v ≡ true)
  Real (copy_invariant L v) = IsFor L × (tb.carried L v ≡ true)
  Real (carry a) = (i : ℕ) × (tb.row a ≡ arg i)
  Real (arg_split a) = (i : ℕ) × (tb.row a ≡ arg i)

-- ---- the plan of a table

-- programs that give on the first output alone
abbrev OneOut : Program → Type 0
OneOut stop = Unit {0}
OneOut (give x y r) = y ≡ none
OneOut (ask k f) = (x : ℕ) → OneOut (f x)

one_out : (p : Program) → OneOut p → (v : View) (e : Effect) → perform p v ≡ some e → gives e out1 ≡ none
one_out stop h v e q = let z : ◌≡◌ {A = ℕ} 0 1 = cc in absurd (omega arith)
one_out (give x y r) h v e q =
    let g = giving_inv (fillable x v.room0) (fillable y v.room1) x y r e q in
    ap (λ (d : Effect). d.gives1) (sym g.2) ∙ h
one_out (ask k f) h v e q =
    let g = asking_inv k f v e q in
    ap (λ (d : Effect). gives d out1) (sym g.4) ∙ taking_gives k g.1 out1 ∙ one_out (f g.0) (h g.0) v g.1 g.3

whether_one : (x : ℕ) (a b : Program) → OneOut a → OneOut b → OneOut (whether x a b)
whether_one zero a b h k = k
whether_one (suc x) a b h k = h

carry_one : (n : ℕ) → OneOut (Machines.carry n)
carry_one zero = λ x. refl
carry_one (suc zero) = λ x. whether_one x _ _ refl refl
carry_one (suc (suc zero)) = λ x. refl
carry_one (suc (suc (suc n))) = tt

invariant_one : (r : Record) (n : ℕ) → OneOut (Machines.invariant r n)
invariant_one r zero = λ x. refl
invariant_one r (suc zero) = λ x. whether_one x _ _ refl refl
invariant_one r (suc (suc n)) = tt

operator_one : (c n : ℕ) → OneOut (Machines.operator c n)
operator_one c zero = λ x y. refl
operator_one c (suc n) = tt

picker_one : (n : ℕ) → OneOut (Machines.picker n)
picker_one zero = λ a b c. whether_one a _ _ refl refl
picker_one (suc n) = tt

op_one : (d : Row) (r : Record) → OneOut (op_program d r)
op_one input r = tt
op_one (const w) r = tt
op_one (op c x y) r = operator_one c r.phase
op_one (pick f x y) r = picker_one r.phase
op_one (for s t b u c) r = tt
op_one (arg i) r = tt
op_one (next v) r = tt
op_one end r = tt
op_one unknown r = tt
op_one (out x) r = tt

guard_one : (d : Row) (r : Record) → OneOut (guard_program d r)
guard_one input r = tt
guard_one (const w) r = tt
guard_one (op c x y) r = tt
guard_one (pick f x y) r = tt
guard_one (for s t b u c) r = operator_one (suc (suc (suc c))) r.phase
guard_one (arg i) r = tt
guard_one (next v) r = tt
guard_one end r = tt
guard_one unknown r = tt
guard_one (out x) r = tt

-- the outputs that a role has
abbrev pub HasOut : Role → Output → Type 0
HasOut n out0 = Unit {0}
HasOut (op_node r) out1 = ⊥
HasOut (stream L) out1 = Unit {0}
HasOut (gate L) out1 = Unit {0}
HasOut (guard L) out1 = ⊥
HasOut (copy_split L v) out1 = Unit {0}
HasOut (copy_invariant L v) out1 = ⊥
HasOut (carry a) out1 = ⊥
HasOut (arg_split a) out1 = Unit {0}

not_both : {A : Type 0} (o : Option ℕ) (y : ℕ) → o ≡ none → o ≡ some y → A
not_both o y a b = let z : ◌≡◌ {A = ℕ} 0 1 = cc in absurd (omega arith)

pub has_out : (tb : Table) (n : Role) (r : Record) (v : View) (e : Effect) → perform (program_of tb n r) v ≡ some e → (o : Output) (y : ℕ) → gives e o ≡ some y → HasOut n o
has_out tb n r v e q out0 y h = tt
has_out tb (op_node x) r v e q out1 y h = not_both (gives e out1) y (one_out (program_of tb (op_node x) r) (op_one (tb.row x) r) v e q) h
has_out tb (stream L) r v e q out1 y h = tt
has_out tb (gate L) r v e q out1 y h = tt
has_out tb (guard L) r v e q out1 y h = not_both (gives e out1) y (one_out (program_of tb (guard L) r) (guard_one (tb.row L) r) v e q) h
has_out tb (copy_split L x) r v e q out1 y h = tt
has_out tb (copy_invariant L x) r v e q out1 y h = not_both (gives e out1) y (one_out (program_of tb (copy_invariant L x) r) (invariant_one r r.phase) v e q) h
has_out tb (carry a) r v e q out1 y h = not_both (gives e out1) y (one_out (program_of tb (carry a) r) (carry_one r.phase) v e q) h
has_out tb (arg_split a) r v e q out1 y h = tt

abbrev pub plan : Table → Plan
plan tb =
    record {
      source = src tb;
      does = program_of tb;
      Real = Real tb;
      HasOut = HasOut;
      Begins = λ v. (v < tb.size) × (is_in (tb.row v) ≡ true);
      gives_there = has_out tb;
    }
