-- How the values of a table are entered into its loops, in rising order: each loop that a value is carried into has a copy of it.
--
--   Room              the bases leave room for a loop's nodes, and for the sums made with its wires
--   Entering          value v is being entered: the loops noted for it have its copy, every other the smaller values' alone
--   RightCopies       the copies of v so far are laid down right
--   Sound             what a step of entering keeps of the rows, and the wire it gives
--   Entered           the copy of v for loop b is there
--   Resolved          every loop that v passes on its way from body b out has its copy
--
-- Assumes nothing.
use Rattle.std.specs.Prelude.{ℕ, suc, ◌+◌, ◌*◌, ◌≤◌, ◌<◌, true, ◌≡◌, ◌≢◌, List, [], ◌∷◌, length, get_or}
use Rattle.std.proofs.lemmas.List.Edits.{sets}
use Rattle.table.specs.Rows.{kind_at, size}
use Rattle.table.specs.Scan.{body_of, home}
use Rattle.graph.specs.Graph.{absent}
use Rattle.lowered.specs.Sources.{carried}
use Rattle.lowered.specs.Lower.{carried_into}
use Rattle.laid.specs.Bases.{node_base, copy_place}
use Rattle.laid.specs.Wired.{home_number, value_number}
use Rattle.laid.specs.Scanned.{Walks}
use Rattle.written.specs.Plain.{RightRow}
use Rattle.carrying.specs.Kept.{Bases, Low}

pub record Room (t nodes wires : List ℕ) : Type 0 where
  pub node : (L : ℕ) → L < size t → kind_at t L ≡ 4 → get_or nodes L 0 + (3 + 2 * length (carried_into t L)) ≤ 4096
  pub wire : Low wires

-- the two rows of a copy, for a loop whose nodes start at i and wires at w
abbrev pub copy_rows : List ℕ → ℕ → ℕ → ℕ → ℕ → ℕ → List ℕ
copy_rows rows i w place sort outer =
    sets
    (sets rows (7 * (i + 3 + 2 * place)) (4 ∷ 0 ∷ sort ∷ (w + 4) ∷ outer ∷ absent ∷ (w + 5 + 3 * place) ∷ []))
    (7 * (i + 4 + 2 * place))
    (3 ∷ 0 ∷ sort ∷ (w + 3) ∷ (w + 5 + 3 * place) ∷ absent ∷ (w + 7 + 3 * place) ∷ [])

pub record Entering (t : List ℕ) (v : ℕ) (counts lasts : List ℕ) : Type 0 where
  pub counts_long : length counts ≡ 512
  pub lasts_long : length lasts ≡ 512
  pub low : (L : ℕ) → get_or lasts L 0 ≤ suc v
  pub there : (L : ℕ) → L < size t → kind_at t L ≡ 4 → get_or lasts L 0 ≡ suc v → (carried t L v ≡ true) × (get_or counts L 0 ≡ suc (copy_place t L v))
  pub away : (L : ℕ) → L < size t → kind_at t L ≡ 4 → get_or lasts L 0 ≢ suc v → get_or counts L 0 ≡ copy_place t L v

pub record RightCopy (t : List ℕ) (v : ℕ) (rows : List ℕ) (L : ℕ) : Type 0 where
  pub split : RightRow t rows (node_base t L + (3 + 2 * copy_place t L v))
  pub invariant : RightRow t rows (node_base t L + (4 + 2 * copy_place t L v))

abbrev pub RightCopies : List ℕ → ℕ → List ℕ → List ℕ → Type 0
RightCopies t v lasts rows = (L : ℕ) → L < size t → kind_at t L ≡ 4 → get_or lasts L 0 ≡ suc v → RightCopy t v rows L

pub record Sound (t : List ℕ) (v b : ℕ) (lasts rows lasts' rows' : List ℕ) (w : ℕ) : Type 0 where
  pub value : w ≡ value_number t v b
  pub stays : (i : ℕ) → RightRow t rows i → RightRow t rows' i
  pub copies : RightCopies t v lasts rows → RightCopies t v lasts' rows'

pub record Entered (t : List ℕ) (v b : ℕ) (nodes wires : List ℕ) (outer : ℕ) (lasts rows counts' lasts' rows' : List ℕ) (w : ℕ) : Type 0 where
  pub next : Entering t v counts' lasts'
  pub kept : (L : ℕ) → get_or lasts L 0 ≡ suc v → get_or lasts' L 0 ≡ suc v
  pub here : get_or lasts' b 0 ≡ suc v
  pub long : length rows' ≡ 28672
  pub right : Bases t nodes wires → outer ≡ value_number t v (body_of t b) → Sound t v b lasts rows lasts' rows' w

pub record Resolved (t : List ℕ) (v b : ℕ) (nodes wires : List ℕ) (own : ℕ) (lasts rows counts' lasts' rows' : List ℕ) (w : ℕ) : Type 0 where
  pub next : Entering t v counts' lasts'
  pub kept : (L : ℕ) → get_or lasts L 0 ≡ suc v → get_or lasts' L 0 ≡ suc v
  pub passed : (L : ℕ) → Walks t v L b → get_or lasts' L 0 ≡ suc v
  pub long : length rows' ≡ 28672
  pub right : Bases t nodes wires → own ≡ home_number t v → Sound t v b lasts rows lasts' rows' w

-- Loop b can take a copy of value v.
pub record Takes (t : List ℕ) (v b : ℕ) : Type 0 where
  pub loop : b < size t
  pub is_for_lem : kind_at t b ≡ 4
  pub carries : carried t b v ≡ true
  pub value : v < size t
  pub abroad : home t v ≢ b

-- every loop that v passes from body b out carries it
abbrev pub Carries : List ℕ → ℕ → ℕ → Type 0
Carries t v b = (L : ℕ) → Walks t v L b → carried t L v ≡ true
