-- How the code says a row of the table of kinds, and a row of the graph: `named` reads what stands on a place, `said` the row of the table;
-- `inputs_read` has the wire on each input that the row at a place has. A wire that may not be there is below W, is read, is marked and is sorted
-- as the places that a kind has are (`below_of`, `listed_of`, `marked`, `sorted_of`).
-- Assumes nothing.
use Rattle.std.specs.Prelude.{ℕ, ◌+◌, Bool, true, List, [], ◌∷◌, eqb, ltb, get_or, set, Option as Maybe, None, Some}
use Rattle.std.specs.Bool.{then_some}
use Rattle.step.specs.Kinds.{kind_of, inputs, Place, own, flag, given, Columns, row}
use Rattle.graph.specs.Graph.{column}
use Rattle.graph.specs.declared.Place.{Place as Code}
use Rattle.graph.specs.declared.Place.TheVariants.{Own, Flag, Given}
use Rattle.graph.specs.declared.Columns.{Columns as Row}

abbrev pub named : Code → Place
named Own = own
named Flag = flag
named Given = given

abbrev pub place_at : List Code → ℕ → Place
place_at ps k = named (get_or ps k Own)

abbrev pub said : Row → Columns
said c = row c.inputs c.outputs c.codes c.sorts (place_at c.takes 0) (place_at c.takes 1) (place_at c.gives 0) (place_at c.gives 1)

abbrev pub inputs_read : List ℕ → ℕ → List (Maybe ℕ)
inputs_read g p =
    then_some (ltb 0 (column inputs (kind_of (get_or g p 0)))) (get_or g (p + 3) 0)
    ∷ then_some (ltb 1 (column inputs (kind_of (get_or g p 0)))) (get_or g (p + 4) 0)
    ∷ then_some (ltb 2 (column inputs (kind_of (get_or g p 0)))) (get_or g (p + 5) 0)
    ∷ []

abbrev pub below_of : Maybe ℕ → ℕ → Bool
below_of None wires = true
below_of (Some w) wires = ltb w wires

abbrev pub listed_of : Maybe ℕ → List ℕ
listed_of None = []
listed_of (Some w) = w ∷ []

abbrev pub marked : List ℕ → Maybe ℕ → ℕ → List ℕ
marked sorts None sort = sorts
marked sorts (Some w) sort = set sorts w sort

abbrev pub sorted_of : List ℕ → Maybe ℕ → ℕ → Bool
sorted_of sorts None sort = true
sorted_of sorts (Some w) sort = eqb (get_or sorts w 0) sort
