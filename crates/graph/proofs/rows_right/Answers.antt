-- `graph::rows_right_lem` meets its contract. Starts first, then nodes.
-- Assumes nothing.
use Rattle.graph.specs.Refusal.{rows_right}
use Rattle.graph.proofs.rows_right.Goals as goal

pub returns-else-starts_right : goal.returns-else-starts_right
unfolding rows_right
returns-else-starts_right c = rw (← c.starts_right.ensures, c.if-starts_right.false)

pub returns-then-starts_right : goal.returns-then-starts_right
unfolding rows_right
returns-then-starts_right c = rw (← c.starts_right.ensures, c.if-starts_right.true) c.nodes_right.ensures
