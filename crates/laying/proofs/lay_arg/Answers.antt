-- `laying::lay_arg` meets its contract: two rows, CARRY and SPLIT. Assumes nothing.
use native.Mathlib.Omega.{arith}
use Rattle.laying.proofs.Putting.{two_arg_rows}
use Rattle.laying.proofs.lay_arg.Goals as goal

pub overflow_add-raw : goal.overflow_add-raw
overflow_add-raw c = omega (arith, c.requires.2 c.noted_at.result, c.noted_at-raw.ensures)

pub overflow_add-w : goal.overflow_add-w
overflow_add-w c = omega (arith, c.requires.2 c.args.r, c.noted_at-w.ensures)

pub returns : goal.returns
returns c =
    let A = c.args in
    two_arg_rows A.rows.now _ _ A.bases.now.wires A.at.now _ _ _ _ _ _ _ _ _ _ _ _
    c.noted_at-i.ensures
    c.noted_at-w.ensures
    c.noted_at.ensures
    c.noted_at-raw.ensures
    c.noted_at-next.ensures
    c.wire_of.ensures
    c.wire_of-2.ensures
    c.put_row.ensures
    c.put_row-2.ensures
