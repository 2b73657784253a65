-- Slips of lowering, run: what P12's table would do if a value carried into a loop came without its guard, or if its
-- INVARIANT took the raw condition. The graphs are written out; lowering writes neither.
--
--   unguarded_gives_2         'a copy without its guard, with which P12 gives 2 and leaves a token behind'
--   raw_driven_gives_nothing  'a copy's INVARIANT on the raw condition'
--
-- Assumes nothing.
use Rattle.std.specs.Prelude.{ℕ, ◌≡◌, refl, List, [], ◌∷◌}
use Rattle.graph.specs.Graph.{absent}
use Rattle.register.specs.Runs.{ran_graph, running_computes}

-- each carried-in value straight into its INVARIANT
unfoldable unguarded : List ℕ
unguarded =
    30 ∷ 49 ∷ 3 ∷ 1 ∷
    1 ∷ 0 ∷
    1 ∷ 1 ∷
    1 ∷ 3 ∷
    12 ∷
    0 ∷ 0 ∷ 0 ∷ 23 ∷ 29 ∷ 31 ∷ 3 ∷
    1 ∷ 0 ∷ 0 ∷ 3 ∷ 33 ∷ absent ∷ 5 ∷
    7 ∷ 3 ∷ 0 ∷ 25 ∷ 32 ∷ absent ∷ 7 ∷
    3 ∷ 0 ∷ 0 ∷ 41 ∷ 27 ∷ absent ∷ 8 ∷
    3 ∷ 0 ∷ 0 ∷ 42 ∷ 30 ∷ absent ∷ 9 ∷
    2 ∷ 0 ∷ 0 ∷ 35 ∷ 28 ∷ 21 ∷ 10 ∷
    4 ∷ 0 ∷ 0 ∷ 36 ∷ 10 ∷ absent ∷ 11 ∷
    0 ∷ 0 ∷ 0 ∷ 43 ∷ 9 ∷ 37 ∷ 13 ∷
    1 ∷ 0 ∷ 0 ∷ 13 ∷ 45 ∷ absent ∷ 15 ∷
    7 ∷ 3 ∷ 0 ∷ 44 ∷ 39 ∷ absent ∷ 17 ∷
    3 ∷ 0 ∷ 0 ∷ 16 ∷ 40 ∷ absent ∷ 18 ∷
    2 ∷ 0 ∷ 0 ∷ 47 ∷ 11 ∷ 22 ∷ 19 ∷
    4 ∷ 0 ∷ 0 ∷ 48 ∷ 19 ∷ absent ∷ 20 ∷
    7 ∷ 0 ∷ 0 ∷ 20 ∷ 18 ∷ absent ∷ 22 ∷
    5 ∷ 0 ∷ 0 ∷ 0 ∷ absent ∷ absent ∷ 23 ∷
    5 ∷ 0 ∷ 0 ∷ 24 ∷ absent ∷ absent ∷ 25 ∷
    5 ∷ 0 ∷ 0 ∷ 26 ∷ absent ∷ absent ∷ 27 ∷
    5 ∷ 0 ∷ 0 ∷ 1 ∷ absent ∷ absent ∷ 29 ∷
    5 ∷ 0 ∷ 0 ∷ 2 ∷ absent ∷ absent ∷ 31 ∷
    5 ∷ 0 ∷ 1 ∷ 4 ∷ absent ∷ absent ∷ 33 ∷
    5 ∷ 0 ∷ 1 ∷ 34 ∷ absent ∷ absent ∷ 35 ∷
    5 ∷ 0 ∷ 0 ∷ 5 ∷ absent ∷ absent ∷ 37 ∷
    5 ∷ 0 ∷ 0 ∷ 38 ∷ absent ∷ absent ∷ 39 ∷
    5 ∷ 0 ∷ 1 ∷ 6 ∷ absent ∷ absent ∷ 41 ∷
    6 ∷ 0 ∷ 1 ∷ 7 ∷ absent ∷ absent ∷ absent ∷
    5 ∷ 0 ∷ 0 ∷ 8 ∷ absent ∷ absent ∷ 43 ∷
    5 ∷ 0 ∷ 1 ∷ 14 ∷ absent ∷ absent ∷ 45 ∷
    5 ∷ 0 ∷ 1 ∷ 46 ∷ absent ∷ absent ∷ 47 ∷
    6 ∷ 0 ∷ 0 ∷ 15 ∷ absent ∷ absent ∷ absent ∷
    6 ∷ 0 ∷ 1 ∷ 17 ∷ absent ∷ absent ∷ absent ∷ []

-- each INVARIANT on the raw condition
unfoldable raw_driven : List ℕ
raw_driven =
    39 ∷ 61 ∷ 3 ∷ 1 ∷
    1 ∷ 0 ∷
    1 ∷ 1 ∷
    1 ∷ 3 ∷
    16 ∷
    0 ∷ 0 ∷ 0 ∷ 29 ∷ 35 ∷ 37 ∷ 3 ∷
    1 ∷ 0 ∷ 0 ∷ 3 ∷ 39 ∷ absent ∷ 5 ∷
    7 ∷ 3 ∷ 0 ∷ 31 ∷ 38 ∷ absent ∷ 7 ∷
    4 ∷ 0 ∷ 0 ∷ 51 ∷ 33 ∷ absent ∷ 8 ∷
    3 ∷ 0 ∷ 0 ∷ 41 ∷ 8 ∷ absent ∷ 10 ∷
    4 ∷ 0 ∷ 0 ∷ 52 ∷ 36 ∷ absent ∷ 11 ∷
    3 ∷ 0 ∷ 0 ∷ 43 ∷ 11 ∷ absent ∷ 13 ∷
    2 ∷ 0 ∷ 0 ∷ 45 ∷ 34 ∷ 27 ∷ 14 ∷
    4 ∷ 0 ∷ 0 ∷ 46 ∷ 14 ∷ absent ∷ 15 ∷
    0 ∷ 0 ∷ 0 ∷ 53 ∷ 13 ∷ 47 ∷ 17 ∷
    1 ∷ 0 ∷ 0 ∷ 17 ∷ 55 ∷ absent ∷ 19 ∷
    7 ∷ 3 ∷ 0 ∷ 54 ∷ 49 ∷ absent ∷ 21 ∷
    4 ∷ 0 ∷ 0 ∷ 21 ∷ 50 ∷ absent ∷ 22 ∷
    3 ∷ 0 ∷ 0 ∷ 57 ∷ 22 ∷ absent ∷ 24 ∷
    2 ∷ 0 ∷ 0 ∷ 59 ∷ 15 ∷ 28 ∷ 25 ∷
    4 ∷ 0 ∷ 0 ∷ 60 ∷ 25 ∷ absent ∷ 26 ∷
    7 ∷ 0 ∷ 0 ∷ 26 ∷ 24 ∷ absent ∷ 28 ∷
    5 ∷ 0 ∷ 0 ∷ 0 ∷ absent ∷ absent ∷ 29 ∷
    5 ∷ 0 ∷ 0 ∷ 30 ∷ absent ∷ absent ∷ 31 ∷
    5 ∷ 0 ∷ 0 ∷ 32 ∷ absent ∷ absent ∷ 33 ∷
    5 ∷ 0 ∷ 0 ∷ 1 ∷ absent ∷ absent ∷ 35 ∷
    5 ∷ 0 ∷ 0 ∷ 2 ∷ absent ∷ absent ∷ 37 ∷
    5 ∷ 0 ∷ 1 ∷ 4 ∷ absent ∷ absent ∷ 39 ∷
    5 ∷ 0 ∷ 1 ∷ 40 ∷ absent ∷ absent ∷ 41 ∷
    5 ∷ 0 ∷ 1 ∷ 42 ∷ absent ∷ absent ∷ 43 ∷
    5 ∷ 0 ∷ 1 ∷ 44 ∷ absent ∷ absent ∷ 45 ∷
    5 ∷ 0 ∷ 0 ∷ 5 ∷ absent ∷ absent ∷ 47 ∷
    5 ∷ 0 ∷ 0 ∷ 48 ∷ absent ∷ absent ∷ 49 ∷
    6 ∷ 0 ∷ 1 ∷ 6 ∷ absent ∷ absent ∷ absent ∷
    5 ∷ 0 ∷ 1 ∷ 7 ∷ absent ∷ absent ∷ 51 ∷
    6 ∷ 0 ∷ 0 ∷ 9 ∷ absent ∷ absent ∷ absent ∷
    5 ∷ 0 ∷ 0 ∷ 10 ∷ absent ∷ absent ∷ 53 ∷
    6 ∷ 0 ∷ 0 ∷ 12 ∷ absent ∷ absent ∷ absent ∷
    5 ∷ 0 ∷ 1 ∷ 18 ∷ absent ∷ absent ∷ 55 ∷
    5 ∷ 0 ∷ 1 ∷ 56 ∷ absent ∷ absent ∷ 57 ∷
    5 ∷ 0 ∷ 1 ∷ 58 ∷ absent ∷ absent ∷ 59 ∷
    6 ∷ 0 ∷ 0 ∷ 19 ∷ absent ∷ absent ∷ absent ∷
    6 ∷ 0 ∷ 1 ∷ 20 ∷ absent ∷ absent ∷ absent ∷
    6 ∷ 0 ∷ 0 ∷ 23 ∷ absent ∷ absent ∷ absent ∷ []

-- STRANDED, and the result is 2
unguarded_gives_2 : ran_graph unguarded [] ≡ (2 ∷ 0 ∷ 119 ∷ []) ∷ (2 ∷ []) ∷ []
unfolding running_computes unguarded
unguarded_gives_2 = refl

-- STRANDED, with no result
raw_driven_gives_nothing : ran_graph raw_driven [] ≡ (2 ∷ 0 ∷ 99 ∷ []) ∷ [] ∷ []
unfolding running_computes raw_driven
raw_driven_gives_nothing = refl
