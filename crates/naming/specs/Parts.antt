-- The names part by part, as the code writes them: a list for each row, node or wire, to be joined in order.
--
--   row_names, copy_names, start_names       the names that a row, a value carried into a loop, a start gives
--   output_names                           the outputs of a node, from its name
--   forks_of, legs_of                       the forks and legs of a wire with k uses, from its name
--
-- Assumes nothing.
use Rattle.std.specs.Prelude.{ℕ, ◌+◌, ◌-◌, ◌*◌, Bool, true, cond, List, [], ◌∷◌, ◌++◌, eqb, get_or}
use Rattle.graph.specs.Below.{joined}
use Rattle.lowered.specs.Gathered.{each}
use Rattle.lowered.specs.Sources.{carried}
use Rattle.lowered.specs.Lower.{row_roles, is_start}
use Rattle.naming.specs.Names.{role_name}

-- ---- nodes before forks
abbrev pub row_names : List ℕ → ℕ → List ℕ
row_names t r = each role_name (row_roles t r)

abbrev pub copy_names : List ℕ → ℕ → ℕ → List ℕ
copy_names t L v = cond (carried t L v) (4 ∷ L ∷ v ∷ 5 ∷ L ∷ v ∷ []) []

-- ---- wires before forks
abbrev pub start_names : List ℕ → ℕ → List ℕ
start_names t r = cond (is_start t r) (0 ∷ r ∷ 0 ∷ []) []

-- what the first output of a node is, by the node's number
unfoldable pub first_what : ℕ → ℕ
first_what k =
    cond (eqb k 0) 1
    (cond (eqb k 1) 2 (cond (eqb k 2) 4 (cond (eqb k 3) 6 (cond (eqb k 4) 7 (cond (eqb k 5) 9 (cond (eqb k 6) 10 11))))))

unfoldable pub two_outputs : ℕ → Bool
two_outputs k = cond (eqb k 1) true (cond (eqb k 2) true (cond (eqb k 4) true (eqb k 7)))

abbrev pub output_names : ℕ → ℕ → ℕ → List ℕ
output_names k r v = (first_what k ∷ r ∷ v ∷ []) ++ cond (two_outputs k) ((first_what k + 1) ∷ r ∷ v ∷ []) []

-- of node i, from the nodes' names
abbrev pub output_names_by : List ℕ → ℕ → List ℕ
output_names_by names i = output_names (get_or names (3 * i) 0) (get_or names (3 * i + 1) 0) (get_or names (3 * i + 2) 0)

-- ---- forks
abbrev pub times_over : ℕ → ℕ → ℕ → ℕ → List ℕ
times_over k a b c = joined (λ i. a ∷ b ∷ c ∷ []) k

abbrev pub forks_of : ℕ → ℕ → ℕ → ℕ → List ℕ
forks_of k a b c = cond (eqb k 0) ((32 + a) ∷ b ∷ c ∷ []) (times_over (k - 1) (16 + a) b c)

abbrev pub legs_of : ℕ → ℕ → ℕ → ℕ → List ℕ
legs_of k a b c = times_over (2 * (k - 1)) a b c

-- of wire w, from the wires' names and the table of uses
abbrev pub fork_names_by : List ℕ → List ℕ → ℕ → List ℕ
fork_names_by names uses w = forks_of (get_or uses w 0) (get_or names (3 * w) 0) (get_or names (3 * w + 1) 0) (get_or names (3 * w + 2) 0)

abbrev pub leg_names_by : List ℕ → List ℕ → ℕ → List ℕ
leg_names_by names uses w = legs_of (get_or uses w 0) (get_or names (3 * w) 0) (get_or names (3 * w + 1) 0) (get_or names (3 * w + 2) 0)
