-- A run that was stopped is resumed. For any net of n nodes; the theorems are in proofs/Resuming.
--
--   swept                     so many whole sweeps
--
-- Assumes nothing.
use Prim.Native.Nat.{ℕ, zero, suc}
use Rattle.state.specs.Net.{Net}
use Rattle.state.specs.Run.{At, sweep}

module _ (N : Net) (n : ℕ) where
  -- k whole sweeps
  unfoldable pub swept : ℕ → At → At
  swept zero p = p
  swept (suc k) p = swept k (sweep N n p)
