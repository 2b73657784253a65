-- The sum table's graph: 'Its graph has 102 words.' Header; starts; result; thirteen rows.
-- Assumes nothing.
use Rattle.std.specs.Prelude.{ℕ, List, [], ◌∷◌}
use Rattle.graph.specs.Graph.{absent}

unfoldable pub sum_graph : List ℕ
sum_graph =
    13 ∷ 22 ∷ 3 ∷ 1 ∷
    0 ∷ 0 ∷
    1 ∷ 0 ∷
    1 ∷ 1 ∷
    10 ∷
    0 ∷ 0 ∷ 0 ∷ 14 ∷ 2 ∷ 12 ∷ 3 ∷
    1 ∷ 0 ∷ 0 ∷ 3 ∷ 18 ∷ absent ∷ 5 ∷
    7 ∷ 3 ∷ 0 ∷ 16 ∷ 13 ∷ absent ∷ 7 ∷
    2 ∷ 0 ∷ 0 ∷ 20 ∷ 17 ∷ 11 ∷ 8 ∷
    4 ∷ 0 ∷ 0 ∷ 21 ∷ 8 ∷ absent ∷ 9 ∷
    7 ∷ 0 ∷ 0 ∷ 9 ∷ 5 ∷ absent ∷ 11 ∷
    5 ∷ 0 ∷ 0 ∷ 0 ∷ absent ∷ absent ∷ 12 ∷
    5 ∷ 0 ∷ 0 ∷ 1 ∷ absent ∷ absent ∷ 14 ∷
    5 ∷ 0 ∷ 0 ∷ 15 ∷ absent ∷ absent ∷ 16 ∷
    5 ∷ 0 ∷ 1 ∷ 4 ∷ absent ∷ absent ∷ 18 ∷
    5 ∷ 0 ∷ 1 ∷ 19 ∷ absent ∷ absent ∷ 20 ∷
    6 ∷ 0 ∷ 1 ∷ 6 ∷ absent ∷ absent ∷ absent ∷
    6 ∷ 0 ∷ 1 ∷ 7 ∷ absent ∷ absent ∷ absent ∷ []
