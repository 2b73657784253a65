-- THE ROWS BESIDE A GRAPH: for each node and each wire of a lowered table, what it is for and the table's rows behind it.
--
--   role_name              a node before forks: what it is, its row, the row of the value carried in
--   wire_name              a wire before forks, likewise
--   fork_name, drain_name   a FORK or DRAIN is named by the wire that it copies or swallows
--   node_names, wire_names  all of them, three words each, in the order of `lowered_nodes` and of the wires' numbers
--
-- Assumes nothing.
use Rattle.std.specs.Prelude.{ℕ, ◌+◌, List, [], ◌∷◌, ◌++◌}
use Rattle.step.specs.Kinds.{Output, out0, out1}
use Rattle.lowered.specs.Gathered.{each}
use Rattle.lowered.specs.Roles.{Role, op_node, stream, gate, guard, copy_split, copy_invariant, carry, arg_split, Wire, start, output, Use}
use Rattle.lowered.specs.Lower.{roles, wires, users}
use Rattle.laid.specs.Listed.{role_row}

-- ---- nodes

abbrev pub role_number : Role → ℕ
role_number (op_node r) = 0
role_number (stream L) = 1
role_number (gate L) = 2
role_number (guard L) = 3
role_number (copy_split L v) = 4
role_number (copy_invariant L v) = 5
role_number (carry a) = 6
role_number (arg_split a) = 7

-- the row of the value carried in; 0 where there is none
abbrev pub carried_row : Role → ℕ
carried_row (op_node r) = 0
carried_row (stream L) = 0
carried_row (gate L) = 0
carried_row (guard L) = 0
carried_row (copy_split L v) = v
carried_row (copy_invariant L v) = v
carried_row (carry a) = 0
carried_row (arg_split a) = 0

-- what it is, the row that it is laid down for (of a loop's nodes the FOR row), the row of the value carried in
abbrev pub role_name : Role → List ℕ
role_name n = role_number n ∷ role_row n ∷ carried_row n ∷ []

-- ---- wires

abbrev pub output_number : Role → Output → ℕ
-- the value of an OP or PICK row
output_number (op_node r) out0 = 1
output_number (op_node r) out1 = 1
-- the STREAM's index and its raw condition
output_number (stream L) out0 = 2
output_number (stream L) out1 = 3
-- GATE's value and the gated condition
output_number (gate L) out0 = 4
output_number (gate L) out1 = 5
output_number (guard L) out0 = 6
output_number (guard L) out1 = 6
-- the legs of a copy's SPLIT, and its INVARIANT's output
output_number (copy_split L v) out0 = 7
output_number (copy_split L v) out1 = 8
output_number (copy_invariant L v) out0 = 9
output_number (copy_invariant L v) out1 = 9
-- CARRY's output, and the legs of an ARG's SPLIT
output_number (carry a) out0 = 10
output_number (carry a) out1 = 10
output_number (arg_split a) out0 = 11
output_number (arg_split a) out1 = 12

abbrev pub wire_what : Wire → ℕ
wire_what (start r) = 0
wire_what (output n o) = output_number n o

-- an output has its node's rows
abbrev pub wire_row : Wire → ℕ
wire_row (start r) = r
wire_row (output n o) = role_row n

abbrev pub wire_carried : Wire → ℕ
wire_carried (start r) = 0
wire_carried (output n o) = carried_row n

-- the name of a wire, with a number added to what it is
abbrev pub marked_name : ℕ → Wire → List ℕ
marked_name k w = (k + wire_what w) ∷ wire_row w ∷ wire_carried w ∷ []

abbrev pub wire_name : Wire → List ℕ
wire_name w = wire_what w ∷ wire_row w ∷ wire_carried w ∷ []

abbrev pub fork_name : Wire → List ℕ
fork_name w = marked_name 16 w

abbrev pub drain_name : Wire → List ℕ
drain_name w = marked_name 32 w

-- ---- forks, as `fork_rows` has them: a DRAIN where there is no use, a FORK for each use but the last

abbrev pub fork_names : Wire → List Use → List ℕ
fork_names w [] = drain_name w
fork_names w (u ∷ []) = []
fork_names w (u ∷ v ∷ us) = fork_name w ++ fork_names w (v ∷ us)

-- both legs of a FORK have the name of the wire that it copies
abbrev pub leg_names : Wire → List Use → List ℕ
leg_names w [] = []
leg_names w (u ∷ []) = []
leg_names w (u ∷ v ∷ us) = wire_name w ++ (wire_name w ++ leg_names w (v ∷ us))

-- ---- the graph

-- 'Nodes, row by row'; 'Then each of these wires has its turn, in the order of their numbers.'
unfoldable pub node_names : List ℕ → List ℕ
node_names t = each role_name (roles t) ++ each (λ w. fork_names w (users t w)) (wires t)

unfoldable pub wire_names : List ℕ → List ℕ
wire_names t = each wire_name (wires t) ++ each (λ w. leg_names w (users t w)) (wires t)
