-- THE GRAPH OF A TABLE: docs/RULES.md, from 'Nodes, row by row' to 'The words'.
--
--   roles, wires, uses            the nodes, wires and uses before forks, in order; a number is a place in its list
--   users                         the uses of a wire, in order
--   fork_rows, leg_of             the FORKs or the DRAIN of a wire; the wire on which a use stands
--   lowered_nodes, lowered_words  the graph's rows, and all its words
--
-- Assumes nothing.
use Rattle.std.specs.Prelude.{ℕ, zero, suc, ◌+◌, ◌*◌, Bool, cond, List, [], ◌∷◌, ◌++◌, eqb, leb, length}
use Rattle.std.proofs.Math.Option.{Option, none, some}
use Rattle.step.specs.Kinds.{Kind, STREAM, GATE, CARRY, INVARIANT, SPLIT, FORK, DRAIN, OP, PICK, outputs, output_sort, in0, in1, in2, out0, out1}
use Rattle.graph.specs.Graph.{Node, absent}
use Rattle.table.specs.Rows
use Rattle.table.specs.Rows.{kind_at, word, size, sort_of, INPUT, CONST, OUT}
use Rattle.lowered.specs.Gathered.{gathered, those, each, position}
use Rattle.lowered.specs.Roles.{Role, op_node, stream, gate, guard, copy_split, copy_invariant, carry, arg_split, Wire, start, output, Use, into, result, same_wire, same_use}
use Rattle.lowered.specs.Sources.{carried, is_op, is_for, is_arg_row, source}

-- ---- nodes

-- 'for each v carried in, from the lowest row up'
unfoldable pub carried_into : List ℕ → ℕ → List ℕ
carried_into t L = those (carried t L) (size t)

-- its SPLIT and its INVARIANT
abbrev pub copy : ℕ → ℕ → List Role
copy L v = copy_split L v ∷ copy_invariant L v ∷ []

-- 'each row lays down its nodes in this order'
unfoldable pub row_roles : List ℕ → ℕ → List Role
row_roles t r =
    cond (is_op t r) (op_node r ∷ [])
    (cond (is_for t r) (stream r ∷ gate r ∷ guard r ∷ each (copy r) (carried_into t r))
    (cond (is_arg_row t r) (carry r ∷ arg_split r ∷ []) []))

-- 'Going down the table, each row lays down its nodes'
unfoldable pub roles : List ℕ → List Role
roles t = gathered (row_roles t) (size t)

-- The columns of that table: kind, code and sort. STREAM: '5 × update + condition'. The guard asks the loop's condition, as an operator: '3 +
-- condition'.
abbrev pub role_kind : List ℕ → Role → Kind
role_kind t (op_node r) = cond (eqb (kind_at t r) Rows.OP) OP PICK
role_kind t (stream L) = STREAM
role_kind t (gate L) = GATE
role_kind t (guard L) = OP
role_kind t (copy_split L v) = SPLIT
role_kind t (copy_invariant L v) = INVARIANT
role_kind t (carry a) = CARRY
role_kind t (arg_split a) = SPLIT

abbrev pub role_code : List ℕ → Role → ℕ
role_code t (op_node r) = cond (eqb (kind_at t r) Rows.OP) (word t r 1) 0
role_code t (stream L) = 5 * word t L 4 + word t L 5
role_code t (gate L) = 0
role_code t (guard L) = 3 + word t L 5
role_code t (copy_split L v) = 0
role_code t (copy_invariant L v) = 0
role_code t (carry a) = 0
role_code t (arg_split a) = 0

abbrev pub role_sort : List ℕ → Role → ℕ
role_sort t (op_node r) = 0
role_sort t (stream L) = 0
role_sort t (gate L) = 0
role_sort t (guard L) = 0
role_sort t (copy_split L v) = sort_of t v
role_sort t (copy_invariant L v) = sort_of t v
role_sort t (carry a) = 0
role_sort t (arg_split a) = 0

-- ---- wires

abbrev pub is_start : List ℕ → ℕ → Bool
is_start t r = leb (kind_at t r) CONST

-- 'the INPUT and CONST rows as they stand'
unfoldable pub start_rows : List ℕ → List ℕ
start_rows t = those (is_start t) (size t)

unfoldable pub starts : List ℕ → List Wire
starts t = each (λ r. start r ∷ []) (start_rows t)

abbrev pub outputs_by : Role → ℕ → List Wire
outputs_by n zero = []
outputs_by n (suc zero) = output n out0 ∷ []
outputs_by n (suc (suc k)) = output n out0 ∷ output n out1 ∷ []

abbrev pub role_outputs : List ℕ → Role → List Wire
role_outputs t n = outputs_by n (outputs (role_kind t n))

-- 'the INPUT and CONST rows as they stand, then the outputs of these nodes by node and position'
unfoldable pub wires : List ℕ → List Wire
wires t = starts t ++ each (role_outputs t) (roles t)

unfoldable pub wire_number : List ℕ → Wire → ℕ
wire_number t w = position same_wire w (wires t)

abbrev pub wire_sort : List ℕ → Wire → ℕ
wire_sort t (start v) = 0
wire_sort t (output n o) = output_sort (role_kind t n) (role_code t n) (role_sort t n) o

-- ---- uses

abbrev pub taken : Option Wire → Use → List Use
taken none u = []
taken (some w) u = u ∷ []

abbrev pub use_if : List ℕ → Use → List Use
use_if t u = taken (source t u) u

abbrev pub role_uses : List ℕ → Role → List Use
role_uses t n = use_if t (into n in0) ++ (use_if t (into n in1) ++ use_if t (into n in2))

abbrev pub is_out : List ℕ → ℕ → Bool
is_out t r = eqb (kind_at t r) OUT

unfoldable pub out_rows : List ℕ → List ℕ
out_rows t = those (is_out t) (size t)

-- 'the inputs by node and position, then the OUT rows'
unfoldable pub uses : List ℕ → List Use
uses t = each (role_uses t) (roles t) ++ each (λ q. use_if t (result q)) (out_rows t)

abbrev pub keep_if : {A : Type 0} → Dec A → Use → List Use → List Use
keep_if (yes e) u us = u ∷ us
keep_if (no e) u us = us

abbrev pub reader_of : Wire → Option Wire → Use → List Use → List Use
reader_of w none u us = us
reader_of w (some x) u us = keep_if (same_wire x w) u us

unfoldable pub readers_in : List ℕ → Wire → List Use → List Use
readers_in t w [] = []
readers_in t w (u ∷ us) = reader_of w (source t u) u (readers_in t w us)

-- the uses of a wire, in their order
unfoldable pub users : List ℕ → Wire → List Use
users t w = readers_in t w (uses t)

-- ---- forks and drains

abbrev pub drain_node : ℕ → ℕ → Node
drain_node s x = record { kind = DRAIN; code = 0; sort = s; wire0 = x; wire1 = absent; wire2 = absent; first = absent }

abbrev pub fork_node : ℕ → ℕ → ℕ → Node
fork_node s x f = record { kind = FORK; code = 0; sort = s; wire0 = x; wire1 = absent; wire2 = absent; first = f }

-- 'A wire without a use gets a DRAIN, a wire with one use nothing, and any other one FORK fewer than it has uses. The first FORK reads the
-- wire; the first leg of each goes to the use that is next in order, and the next FORK reads its second leg'. Wire x of sort s has these uses, and
-- the next free wire number is f.
abbrev pub fork_rows : ℕ → ℕ → List Use → ℕ → List Node
fork_rows s x [] f = drain_node s x ∷ []
fork_rows s x (u ∷ []) f = []
fork_rows s x (u ∷ v ∷ us) f = fork_node s x f ∷ fork_rows s (suc f) (v ∷ us) (suc (suc f))

-- how many wires and nodes that adds
abbrev pub fork_wires : List Use → ℕ
fork_wires [] = 0
fork_wires (u ∷ []) = 0
fork_wires (u ∷ v ∷ us) = suc (suc (fork_wires (v ∷ us)))

abbrev pub fork_nodes : List Use → ℕ
fork_nodes [] = 1
fork_nodes (u ∷ []) = 0
fork_nodes (u ∷ v ∷ us) = suc (fork_nodes (v ∷ us))

abbrev pub leg_by : {A : Type 0} → Dec A → ℕ → ℕ → ℕ
leg_by (yes e) f rest = f
leg_by (no e) f rest = rest

-- the wire on which use p of wire x stands
unfoldable pub leg_of : Use → ℕ → List Use → ℕ → ℕ
leg_of p x [] f = x
leg_of p x (u ∷ []) f = x
leg_of p x (u ∷ v ∷ us) f = leg_by (same_use p u) f (leg_of p (suc f) (v ∷ us) (suc (suc f)))

-- 'Then each of these wires has its turn, in the order of their numbers.' The first free number when wire i has its turn, counting from f.
abbrev pub free_at : List (List Use) → ℕ → ℕ → ℕ
free_at [] f i = f
free_at (us ∷ rest) f zero = f
free_at (us ∷ rest) f (suc i) = free_at rest (f + fork_wires us) i

abbrev pub all_fork_wires : List (List Use) → ℕ
all_fork_wires [] = 0
all_fork_wires (us ∷ rest) = fork_wires us + all_fork_wires rest

abbrev pub all_fork_nodes : List (List Use) → ℕ
all_fork_nodes [] = 0
all_fork_nodes (us ∷ rest) = fork_nodes us + all_fork_nodes rest

abbrev pub users_each : List ℕ → List Wire → List (List Use)
users_each t [] = []
users_each t (w ∷ ws) = users t w ∷ users_each t ws

-- how many nodes and wires there are before forks
unfoldable pub plain_nodes : List ℕ → ℕ
plain_nodes t = length (roles t)

unfoldable pub plain_wires : List ℕ → ℕ
plain_wires t = length (wires t)

unfoldable pub all_users : List ℕ → List (List Use)
all_users t = users_each t (wires t)

-- the wire that a use is given: a use of nothing has X
abbrev pub stands_by : List ℕ → Use → Option Wire → ℕ
stands_by t p none = absent
stands_by t p (some w) = leg_of p (wire_number t w) (users t w) (free_at (all_users t) (plain_wires t) (wire_number t w))

unfoldable pub stands_on : List ℕ → Use → ℕ
stands_on t p = stands_by t p (source t p)

-- ---- the graph

abbrev pub role_node : List ℕ → ℕ → Role → Node
role_node t f n =
    record {
      kind = role_kind t n;
      code = role_code t n;
      sort = role_sort t n;
      wire0 = stands_on t (into n in0);
      wire1 = stands_on t (into n in1);
      wire2 = stands_on t (into n in2);
      first = f;
    }

-- first outputs: 'S plus the outputs of all nodes before it'
abbrev pub nodes_from : List ℕ → ℕ → List Role → List Node
nodes_from t f [] = []
nodes_from t f (n ∷ ns) = role_node t f n ∷ nodes_from t (f + outputs (role_kind t n)) ns

abbrev pub forks_from : List ℕ → ℕ → List Wire → ℕ → List Node
forks_from t x [] f = []
forks_from t x (w ∷ ws) f = fork_rows (wire_sort t w) x (users t w) f ++ forks_from t (suc x) ws (f + fork_wires (users t w))

unfoldable pub lowered_nodes : List ℕ → List Node
lowered_nodes t = nodes_from t (length (starts t)) (roles t) ++ forks_from t 0 (wires t) (plain_wires t)

-- 'of an INPUT, 0 and its number among the inputs, and of a CONST, 1 and its word'
abbrev pub start_words : List ℕ → ℕ → List ℕ
start_words t r = cond (eqb (kind_at t r) INPUT) (0 ∷ length (those (λ q. eqb (kind_at t q) INPUT) r) ∷ []) (1 ∷ word t r 1 ∷ [])

abbrev pub kind_number : Kind → ℕ
kind_number STREAM = 0
kind_number GATE = 1
kind_number CARRY = 2
kind_number INVARIANT = 3
kind_number SPLIT = 4
kind_number FORK = 5
kind_number DRAIN = 6
kind_number OP = 7
kind_number PICK = 8

-- 'kind, code, sort, the wires of its three inputs or X, its first output or X'
abbrev pub node_words : Node → List ℕ
node_words nd =
    kind_number nd.kind ∷ nd.code ∷ nd.sort ∷ nd.wire0 ∷ nd.wire1 ∷ nd.wire2 ∷ nd.first ∷ []

unfoldable pub node_total : List ℕ → ℕ
node_total t = plain_nodes t + all_fork_nodes (all_users t)

unfoldable pub wire_total : List ℕ → ℕ
wire_total t = plain_wires t + all_fork_wires (all_users t)

unfoldable pub start_total : List ℕ → ℕ
start_total t = length (start_rows t)

unfoldable pub result_total : List ℕ → ℕ
result_total t = length (out_rows t)

-- 'the four counts; two words for each start; the wire of each OUT row's use; seven words for each node'
unfoldable pub lowered_words : List ℕ → List ℕ
lowered_words t =
    node_total t ∷ wire_total t ∷ start_total t ∷ result_total t
    ∷ (each (start_words t) (start_rows t)
    ++ (each (λ q. stands_on t (result q) ∷ []) (out_rows t) ++ each node_words (lowered_nodes t)))
