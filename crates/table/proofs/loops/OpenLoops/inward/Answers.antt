-- `table::loops::OpenLoops::inward` meets its contract. A store at the depth is one loop more. Assumes nothing.
use native.Mathlib.Omega.{arith}
use Rattle.table.proofs.Opened.{open_top}
use Rattle.table.proofs.loops.OpenLoops.inward.Goals as goal

pub returns : goal.returns
returns c = let s = c.args.self in open_top s.entries s.depth _ (omega arith)
