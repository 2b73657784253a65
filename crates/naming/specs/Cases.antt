-- Names by computing: the sum table's and P12's, as an executable model found them that follows the wires of the two graphs.
-- Main names: `sum_table_is_named`, `p12_is_named`.
-- Assumes nothing.
use Rattle.std.specs.Prelude.{ℕ, ◌≡◌, refl, List, [], ◌∷◌}
use Rattle.table.specs.Cases.{sum_table, p12_table}
use Rattle.lowered.specs.Cases.{lowering_computes}
use Rattle.naming.specs.Names.{node_names, wire_names}

unfoldable pub sum_nodes : List ℕ
sum_nodes =
    1 ∷ 3 ∷ 0 ∷ 2 ∷ 3 ∷ 0 ∷ 3 ∷ 3 ∷ 0 ∷ 6 ∷ 4 ∷ 0 ∷
    7 ∷ 4 ∷ 0 ∷ 0 ∷ 5 ∷ 0 ∷ 16 ∷ 0 ∷ 0 ∷ 16 ∷ 1 ∷ 0 ∷
    16 ∷ 1 ∷ 0 ∷ 19 ∷ 3 ∷ 0 ∷ 19 ∷ 3 ∷ 0 ∷ 37 ∷ 3 ∷ 0 ∷
    38 ∷ 3 ∷ 0 ∷ []

unfoldable pub sum_wires : List ℕ
sum_wires =
    0 ∷ 0 ∷ 0 ∷ 0 ∷ 1 ∷ 0 ∷ 0 ∷ 2 ∷ 0 ∷ 2 ∷ 3 ∷ 0 ∷
    3 ∷ 3 ∷ 0 ∷ 4 ∷ 3 ∷ 0 ∷ 5 ∷ 3 ∷ 0 ∷ 6 ∷ 3 ∷ 0 ∷
    10 ∷ 4 ∷ 0 ∷ 11 ∷ 4 ∷ 0 ∷ 12 ∷ 4 ∷ 0 ∷ 1 ∷ 5 ∷ 0 ∷
    0 ∷ 0 ∷ 0 ∷ 0 ∷ 0 ∷ 0 ∷ 0 ∷ 1 ∷ 0 ∷ 0 ∷ 1 ∷ 0 ∷
    0 ∷ 1 ∷ 0 ∷ 0 ∷ 1 ∷ 0 ∷ 3 ∷ 3 ∷ 0 ∷ 3 ∷ 3 ∷ 0 ∷
    3 ∷ 3 ∷ 0 ∷ 3 ∷ 3 ∷ 0 ∷ []

unfoldable pub p12_nodes : List ℕ
p12_nodes =
    1 ∷ 3 ∷ 0 ∷ 2 ∷ 3 ∷ 0 ∷ 3 ∷ 3 ∷ 0 ∷ 4 ∷ 3 ∷ 0 ∷
    5 ∷ 3 ∷ 0 ∷ 4 ∷ 3 ∷ 1 ∷ 5 ∷ 3 ∷ 1 ∷ 6 ∷ 4 ∷ 0 ∷
    7 ∷ 4 ∷ 0 ∷ 1 ∷ 5 ∷ 0 ∷ 2 ∷ 5 ∷ 0 ∷ 3 ∷ 5 ∷ 0 ∷
    4 ∷ 5 ∷ 3 ∷ 5 ∷ 5 ∷ 3 ∷ 6 ∷ 6 ∷ 0 ∷ 7 ∷ 6 ∷ 0 ∷
    0 ∷ 7 ∷ 0 ∷ 16 ∷ 0 ∷ 0 ∷ 16 ∷ 0 ∷ 0 ∷ 16 ∷ 0 ∷ 0 ∷
    16 ∷ 1 ∷ 0 ∷ 16 ∷ 2 ∷ 0 ∷ 19 ∷ 3 ∷ 0 ∷ 19 ∷ 3 ∷ 0 ∷
    20 ∷ 3 ∷ 0 ∷ 20 ∷ 3 ∷ 0 ∷ 21 ∷ 3 ∷ 0 ∷ 22 ∷ 3 ∷ 0 ∷
    40 ∷ 3 ∷ 0 ∷ 25 ∷ 3 ∷ 0 ∷ 40 ∷ 3 ∷ 1 ∷ 19 ∷ 5 ∷ 0 ∷
    19 ∷ 5 ∷ 0 ∷ 36 ∷ 5 ∷ 0 ∷ 40 ∷ 5 ∷ 3 ∷ []

unfoldable pub p12_wires : List ℕ
p12_wires =
    0 ∷ 0 ∷ 0 ∷ 0 ∷ 1 ∷ 0 ∷ 0 ∷ 2 ∷ 0 ∷ 2 ∷ 3 ∷ 0 ∷
    3 ∷ 3 ∷ 0 ∷ 4 ∷ 3 ∷ 0 ∷ 5 ∷ 3 ∷ 0 ∷ 6 ∷ 3 ∷ 0 ∷
    7 ∷ 3 ∷ 0 ∷ 8 ∷ 3 ∷ 0 ∷ 9 ∷ 3 ∷ 0 ∷ 7 ∷ 3 ∷ 1 ∷
    8 ∷ 3 ∷ 1 ∷ 9 ∷ 3 ∷ 1 ∷ 10 ∷ 4 ∷ 0 ∷ 11 ∷ 4 ∷ 0 ∷
    12 ∷ 4 ∷ 0 ∷ 2 ∷ 5 ∷ 0 ∷ 3 ∷ 5 ∷ 0 ∷ 4 ∷ 5 ∷ 0 ∷
    5 ∷ 5 ∷ 0 ∷ 6 ∷ 5 ∷ 0 ∷ 7 ∷ 5 ∷ 3 ∷ 8 ∷ 5 ∷ 3 ∷
    9 ∷ 5 ∷ 3 ∷ 10 ∷ 6 ∷ 0 ∷ 11 ∷ 6 ∷ 0 ∷ 12 ∷ 6 ∷ 0 ∷
    1 ∷ 7 ∷ 0 ∷ 0 ∷ 0 ∷ 0 ∷ 0 ∷ 0 ∷ 0 ∷ 0 ∷ 0 ∷ 0 ∷
    0 ∷ 0 ∷ 0 ∷ 0 ∷ 0 ∷ 0 ∷ 0 ∷ 0 ∷ 0 ∷ 0 ∷ 1 ∷ 0 ∷
    0 ∷ 1 ∷ 0 ∷ 0 ∷ 2 ∷ 0 ∷ 0 ∷ 2 ∷ 0 ∷ 3 ∷ 3 ∷ 0 ∷
    3 ∷ 3 ∷ 0 ∷ 3 ∷ 3 ∷ 0 ∷ 3 ∷ 3 ∷ 0 ∷ 4 ∷ 3 ∷ 0 ∷
    4 ∷ 3 ∷ 0 ∷ 4 ∷ 3 ∷ 0 ∷ 4 ∷ 3 ∷ 0 ∷ 5 ∷ 3 ∷ 0 ∷
    5 ∷ 3 ∷ 0 ∷ 6 ∷ 3 ∷ 0 ∷ 6 ∷ 3 ∷ 0 ∷ 9 ∷ 3 ∷ 0 ∷
    9 ∷ 3 ∷ 0 ∷ 3 ∷ 5 ∷ 0 ∷ 3 ∷ 5 ∷ 0 ∷ 3 ∷ 5 ∷ 0 ∷
    3 ∷ 5 ∷ 0 ∷ []

-- one loop, nothing carried in: STREAM, GATE, guard, CARRY and SPLIT of the ARG, the OP; five FORKs, and two DRAINs
pub sum_table_is_named : (node_names sum_table ≡ sum_nodes) × (wire_names sum_table ≡ sum_wires)
unfolding lowering_computes node_names wire_names sum_nodes sum_wires
sum_table_is_named = (refl, refl)

-- a loop in a loop: two constants are carried into the outer one, its index into the inner one
pub p12_is_named : (node_names p12_table ≡ p12_nodes) × (wire_names p12_table ≡ p12_wires)
unfolding lowering_computes node_names wire_names p12_nodes p12_wires
p12_is_named = (refl, refl)
