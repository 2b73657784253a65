-- `table::loops::OpenLoops::outward` meets its contract. One entry fewer. Assumes nothing.
use mathlib.Core.Path.{sym}
use Rattle.table.proofs.Opened.{open_outward}
use Rattle.table.proofs.loops.OpenLoops.outward.Goals as goal

pub returns : goal.returns
returns c = (rw c.saturating_sub.ensures (sym (open_outward _ _)), c.saturating_sub.ensures)
