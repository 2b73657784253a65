-- A run is one of the orders: what its rule fires. For any net of n nodes; the theorems are in proofs/Runs.
--
--   run_made                  the nodes that a run's rule fires, in order
--   Spends                    from one place of a run to another by a list of ready firings, as many as the allowance has lost
--   Sweeping                  a sweep is the last or less is left
--   Ends                      nothing is left, or it is at rest
--
-- Assumes nothing.
use Rattle.std.specs.Prelude.{◌≡◌, ◌⊎◌, length}
use Rattle.std.proofs.Math.Bool.{true, false}
use Rattle.std.proofs.Math.Option.{Option, none, some}
use mathlib.Core.List.{List, [], ◌∷◌, ◌++◌}
use Prim.Native.Nat.{ℕ, zero, suc, ◌+◌, ◌≤◌, ◌<◌}
use Rattle.std.proofs.Math.Dec.{eqb}
use Rattle.state.specs.Net.{Net, fire}
use Rattle.state.specs.Run.{At, turn, follow, sweep, sweeps}
use Rattle.confluence.specs.Orders.{fires, Rests}

abbrev pub from : List ℕ → ℕ → At
from s l = record { state = s; left = l }

-- ---- the nodes that a run's rule fires, in order: the rule once more, with what each turn fires

abbrev pub turn_made : Option (List ℕ) → ℕ → ℕ → List ℕ
turn_made none l i = []
turn_made (some a) zero i = []
turn_made (some a) (suc l) i = i ∷ []

unfoldable pub follow_made : Net → List ℕ → At → List ℕ
follow_made N [] p = []
follow_made N (i ∷ order) p = turn_made (fire N i p.state) p.left i ++ follow_made N order (turn N i p)

unfoldable pub sweep_made : Net → ℕ → ℕ → At → List ℕ
sweep_made N zero i p = []
sweep_made N (suc m) i p = turn_made (fire N i p.state) p.left i ++ sweep_made N m (i + 1) (turn N i p)

unfoldable pub sweeps_made : Net → ℕ → ℕ → At → List ℕ
sweeps_made N zero n p = []
sweeps_made N (suc f) n p =
    elim (eqb (sweep N n p).left p.left) [ true ↦ [] | false ↦ sweep_made N n 0 p ++ sweeps_made N f n (sweep N n p) ]

unfoldable pub run_made : Net → ℕ → List ℕ → At → List ℕ
run_made N n order p = follow_made N order p ++ sweeps_made N (suc (follow N order p).left) n (follow N order p)

module _ (N : Net) where
  -- from p to q by a list of ready firings, as many as the allowance has lost
  pub record Spends (made : List ℕ) (p q : At) : Type 0 where
    pub ready : fires (fire N) made p.state ≡ some q.state
    pub count : length made + q.left ≡ p.left

  module _ (n : ℕ) where
    -- A sweep that fires nothing is the last; after one that fires, less is left.
    pub data Sweeping (f : ℕ) (p : At) : Type 0 where
      last : (sweep N n p).left ≡ p.left → sweeps N (suc f) n p ≡ p → Sweeping f p
      again : (sweep N n p).left < p.left → sweeps N (suc f) n p ≡ sweeps N f n (sweep N n p) → Sweeping f p

  module _ (n : ℕ) (beyond : (i : ℕ) (s : List ℕ) → n ≤ i → fire N i s ≡ none) where
    abbrev pub Ends : At → Type 0
    Ends p = (p.left ≡ 0) ⊎ Rests (fire N) p.state
