-- `graph::count` meets its contract. One read, or none where the input is absent.
-- Assumes nothing.
use Rattle.graph.proofs.Readers.{one_read, no_read}
use Rattle.graph.proofs.count.Goals as goal

pub returns-in-Some : goal.returns-in-Some
returns-in-Some c = one_read _ c.in-Some.is c.wide-w.ensures.0 c.once_more.ensures

pub returns-in_default : goal.returns-in_default
returns-in_default c = no_read _ c.in_default.is
