-- The counts that naming answers; none where the table is refused.
-- Assumes nothing.
use Rattle.std.specs.Prelude.{ℕ, Result, Ok, Err}
use Rattle.refusal.specs.declared.Refused.{Refused}
use Rattle.naming.specs.declared.Named.{Named}

abbrev pub named_nodes : Result Named Refused → ℕ
named_nodes (Ok n) = n.nodes
named_nodes (Err e) = 0

abbrev pub named_wires : Result Named Refused → ℕ
named_wires (Ok n) = n.wires
named_wires (Err e) = 0
