-- `forking::Uses::none` meets its contract. Zeros are in both limits.
-- Assumes nothing.
use Rattle.std.proofs.Common.{arith}
use Rattle.forking.specs.Tallied.{none_tallied}
use Rattle.forking.proofs.Tallies.{looser}
use Rattle.forking.proofs.Uses.none.Goals as goal

pub invariant_of-result : goal.invariant_of-result
invariant_of-result c = record { few = looser none_tallied (omega arith); low = looser none_tallied (omega arith) }
