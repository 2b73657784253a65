-- `table::sort_of` meets its contract. A row past the end reads as INPUT, whose value is a word. Assumes nothing.
use Rattle.table.specs.Rows.{sort_of}
use lib.ListN.{get_or-eq_default}
use native.Mathlib.Omega.{arith}
use Prim.Native.Nat.{◌*◌}
use Rattle.table.proofs.sort_of.Goals as goal

pub returns-else-v-size : goal.returns-else-v-size
unfolding sort_of
returns-else-v-size c = let e = get_or-eq_default c.args.table.now 0 {n = 6 * c.args.v} (omega arith) in rw e
