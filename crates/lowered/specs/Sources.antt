-- Where each input and each result of a lowered table comes from: docs/RULES.md, sections 'Carried in' and 'Nodes, row by row'.
--
--   inside, carried       which values are carried into a loop
--   value_wire            the wire on which a value comes to a body
--   Feed, feed            what an input or a result takes: a value in a body, or a wire of its own loop
--   source                the wire of it
--
-- A body is named by its FOR row, the outermost one by the row count.
-- Assumes nothing.
use Rattle.std.specs.Prelude.{ℕ, Bool, cond, not, ◌&&◌, ◌||◌, List, eqb, leb}
use Rattle.std.proofs.Math.Option.{Option, none, some}
use Rattle.step.specs.Kinds.{Input, in0, in1, in2, out0, out1}
use Rattle.table.specs.Rows.{kind_at, size, operand_count, CONST, OP, PICK, FOR, ARG, OUT}
use Rattle.table.specs.Scan.{stack_at, body_of, reads, home, holds}
use Rattle.table.specs.Bodies.{operand, arg_of, next_of}
use Rattle.lowered.specs.Gathered.{some?}
use Rattle.lowered.specs.Roles.{Role, op_node, stream, gate, guard, copy_split, copy_invariant, carry, arg_split, Wire, start, output, Use, into, result}

-- body B is loop L, or lies in it
unfoldable pub inside : List ℕ → ℕ → ℕ → Bool
inside t L B = eqb B L || holds L (stack_at t B)

-- v is an operand of row r
unfoldable pub names : List ℕ → ℕ → ℕ → Bool
names t r v = some? (λ j. eqb (operand t r j) v) (operand_count (kind_at t r))

-- 'Value v is carried into loop L if its home is neither L nor a loop in L, and some row whose operands are read in L or in a loop in L names
-- v.' A NEXT's operand is read in its loop, those of FOR and ARG in the body around.
unfoldable pub carried : List ℕ → ℕ → ℕ → Bool
carried t L v = not (inside t L (home t v)) && some? (λ r. inside t L (reads t r) && names t r v) (size t)

-- 'At home a value has its own wire.' INPUT and CONST: 'its start'. OP, PICK: 'the value of its node'. FOR: 'the value of its GATE'. ARG: 'the
-- true leg of its SPLIT'. NEXT: 'the false leg of its ARG's SPLIT'.
unfoldable pub home_wire : List ℕ → ℕ → Wire
home_wire t v =
    cond (leb (kind_at t v) CONST) (start v)
    (cond (leb (kind_at t v) PICK) (output (op_node v) out0)
    (cond (eqb (kind_at t v) FOR) (output (gate v) out0)
    (cond (eqb (kind_at t v) ARG) (output (arg_split v) out0) (output (arg_split (arg_of t v)) out1))))

-- 'In any other body its wire is the copy of it that this loop makes'.
unfoldable pub value_wire : List ℕ → ℕ → ℕ → Wire
value_wire t v B = cond (eqb (home t v) B) (home_wire t v) (output (copy_invariant B v) out0)

-- what an input takes: a value in a body, a wire of its own loop, or nothing where there is no such input
pub data Feed : Type 0 where
  value : ℕ → ℕ → Feed
  inner : Wire → Feed
  nothing : Feed

-- operand j of row r, in the body in which the row reads
abbrev pub named : List ℕ → ℕ → ℕ → Feed
named t r j = value (operand t r j) (reads t r)

abbrev pub is_op : List ℕ → ℕ → Bool
is_op t r = eqb (kind_at t r) OP || eqb (kind_at t r) PICK

abbrev pub is_for : List ℕ → ℕ → Bool
is_for t L = eqb (kind_at t L) FOR

abbrev pub is_arg_row : List ℕ → ℕ → Bool
is_arg_row t a = eqb (kind_at t a) ARG

-- a table has this node
abbrev pub has : List ℕ → Role → Bool
has t (op_node r) = is_op t r
has t (stream L) = is_for t L
has t (gate L) = is_for t L
has t (guard L) = is_for t L
has t (copy_split L v) = is_for t L && carried t L v
has t (copy_invariant L v) = is_for t L && carried t L v
has t (carry a) = is_arg_row t a
has t (arg_split a) = is_arg_row t a

-- OP: 'x and y in the row's body'. PICK: 'flag, x and y in the row's body'.
abbrev pub op_feed : List ℕ → ℕ → Input → Feed
op_feed t r in0 = named t r 0
op_feed t r in1 = named t r 1
op_feed t r in2 = cond (eqb (kind_at t r) PICK) (named t r 2) nothing

-- STREAM: 'start, step and bound in the body around'
abbrev pub stream_feed : List ℕ → ℕ → Input → Feed
stream_feed t L in0 = named t L 0
stream_feed t L in1 = named t L 1
stream_feed t L in2 = named t L 2

-- GATE: 'the raw index and the raw condition'
abbrev pub gate_feed : ℕ → Input → Feed
gate_feed L in0 = inner (output (stream L) out0)
gate_feed L in1 = inner (output (stream L) out1)
gate_feed L in2 = nothing

-- guard: 'start and bound in the body around'
abbrev pub guard_feed : List ℕ → ℕ → Input → Feed
guard_feed t L in0 = named t L 0
guard_feed t L in1 = named t L 2
guard_feed t L in2 = nothing

-- SPLIT of a copy: 'the guard, and v in the body around'
abbrev pub copy_split_feed : List ℕ → ℕ → ℕ → Input → Feed
copy_split_feed t L v in0 = inner (output (guard L) out0)
copy_split_feed t L v in1 = value v (reads t L)
copy_split_feed t L v in2 = nothing

-- INVARIANT: 'the gated condition, and the true leg of that SPLIT'
abbrev pub copy_invariant_feed : ℕ → ℕ → Input → Feed
copy_invariant_feed L v in0 = inner (output (gate L) out1)
copy_invariant_feed L v in1 = inner (output (copy_split L v) out0)
copy_invariant_feed L v in2 = nothing

-- CARRY: 'the raw condition, the initial word in the body around, and what its NEXT names in the loop'
abbrev pub carry_feed : List ℕ → ℕ → Input → Feed
carry_feed t a in0 = inner (output (stream (body_of t a)) out1)
carry_feed t a in1 = named t a 0
carry_feed t a in2 = named t (next_of t a) 0

-- SPLIT of an ARG: 'the raw condition and the CARRY's word'
abbrev pub arg_split_feed : List ℕ → ℕ → Input → Feed
arg_split_feed t a in0 = inner (output (stream (body_of t a)) out1)
arg_split_feed t a in1 = inner (output (carry a) out0)
arg_split_feed t a in2 = nothing

abbrev pub role_feed : List ℕ → Role → Input → Feed
role_feed t (op_node r) k = op_feed t r k
role_feed t (stream L) k = stream_feed t L k
role_feed t (gate L) k = gate_feed L k
role_feed t (guard L) k = guard_feed t L k
role_feed t (copy_split L v) k = copy_split_feed t L v k
role_feed t (copy_invariant L v) k = copy_invariant_feed L v k
role_feed t (carry a) k = carry_feed t a k
role_feed t (arg_split a) k = arg_split_feed t a k

-- a node that the table does not have takes nothing; a result is what its OUT row names
unfoldable pub feed : List ℕ → Use → Feed
feed t (into n k) = cond (has t n) (role_feed t n k) nothing
feed t (result q) = cond (eqb (kind_at t q) OUT) (named t q 0) nothing

abbrev pub wire_of : List ℕ → Feed → Option Wire
wire_of t (value v B) = some (value_wire t v B)
wire_of t (inner w) = some w
wire_of t nothing = none

unfoldable pub source : List ℕ → Use → Option Wire
source t u = wire_of t (feed t u)
