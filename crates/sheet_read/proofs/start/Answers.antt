-- `sheet_read::start` meets its contract. The due bytes are what `sheet::put_start` put first into the buffer. Assumes nothing.
use mathlib.Core.Path.{ap}
use native.Mathlib.Omega.{arith}
use lib.ListN.{drop, replicate}
use mathlib.Core.List.{List, ◌++◌}
use Prim.Native.Nat.{ℕ}
use Rattle.sheet.specs.Reader.{fixed_from}
use Rattle.sheet_read.proofs.Names.{start_room, due}
use Rattle.sheet_read.proofs.Bytes.{same}
use Rattle.sheet.specs.Sheet.{decimal, line_of, row_key, kind_key}
use Rattle.sheet_read.proofs.start.Goals as goal

pub put_start-n-requires : goal.put_start-n-requires
put_start-n-requires c = let h = start_room c.args.r in omega arith

pub slice_bounds-due-end : goal.slice_bounds-due-end
slice_bounds-due-end c = (due (replicate 20 0) (line_of row_key (decimal c.args.r) ++ kind_key) c.put_start-n.ensures.0 c.put_start-n.ensures.1 (start_room c.args.r)).0

pub slice_bounds-fixed-end : goal.slice_bounds-fixed-end
slice_bounds-fixed-end c = (due (replicate 20 0) (line_of row_key (decimal c.args.r) ++ kind_key) c.put_start-n.ensures.0 c.put_start-n.ensures.1 (start_room c.args.r)).1

pub returns : goal.returns
returns c = same c.fixed.ensures (omega arith)
    (ap (λ (ks : List ℕ). fixed_from ks c.args.r (drop c.args.at c.args.text.now)) (due (replicate 20 0) (line_of row_key (decimal c.args.r) ++ kind_key) c.put_start-n.ensures.0 c.put_start-n.ensures.1 (start_room c.args.r)).2)
