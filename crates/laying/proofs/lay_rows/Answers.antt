-- `laying::lay_rows` meets its contract. Invariant: the nodes of the rows before r are laid down right. Assumes nothing.
use Rattle.std.proofs.Common.{arith}
use Rattle.laying.proofs.Nodes.{no_rows, one_row, all_rows}
use Rattle.laying.proofs.lay_rows.Goals as goal

pub loop-r-init : goal.loop-r-init
loop-r-init c = no_rows _ _ (omega arith)

pub lay_row-requires : goal.lay_row-requires
lay_row-requires c = (c.requires, omega (arith, c.args.notes.now.passed.passing.rows, c.loop-r-test.true))

pub loop-r-preserved : goal.loop-r-preserved
loop-r-preserved c = one_row _ _ _ _ _ c.loop-r.invariant c.lay_row.ensures

pub returns : goal.returns
returns c = all_rows _ _ _ _ _ (omega arith) (omega arith) c.loop-r.invariant
