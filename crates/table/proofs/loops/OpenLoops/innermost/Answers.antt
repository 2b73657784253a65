-- `table::loops::OpenLoops::innermost` meets its contract. The last entry below the depth is the innermost loop. Assumes nothing.
use native.Mathlib.Omega.{arith}
use Rattle.table.proofs.Opened.{open_none, open_some, open_outward}
use Rattle.table.proofs.loops.OpenLoops.innermost.Goals as goal

pub returns-then-self-eq0 : goal.returns-then-self-eq0
returns-then-self-eq0 c = open_none _ _ c.if-self-eq0.true

pub returns : goal.returns
returns c = let s = c.args.self in (rw open_outward (open_some s.entries s.depth c.if-self-eq0.false), omega arith)
