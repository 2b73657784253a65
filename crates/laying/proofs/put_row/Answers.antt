-- `laying::put_row` meets its contract: seven words, one after the other. Assumes nothing.
use Prim.Native.Nat.{◌*◌}
use Rattle.std.proofs.Common.{get_or}
use Rattle.step.specs.Named.{number_of}
use Rattle.laying.proofs.Putting.{seven}
use Rattle.laying.proofs.put_row.Goals as goal

pub returns : goal.returns
returns c = let A = c.args in
    seven A.rows.now _ _ _ _ _ _ _ (7 * A.i) (number_of A.node.kind) A.node.code A.node.sort (get_or A.node.inputs 0 0) (get_or A.node.inputs 1 0) (get_or A.node.inputs 2 0) A.node.first
    (rw c.number.ensures at c.put.ensures) c.put-2.ensures c.put-3.ensures c.put-4.ensures c.put-5.ensures c.put-6.ensures c.put-7.ensures
