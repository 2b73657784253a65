-- `laying::lay_loop` meets its contract: three rows, STREAM, GATE and the guard. Assumes nothing.
use native.Mathlib.Omega.{arith}
use Rattle.laying.proofs.Putting.{three_loop_rows}
use Rattle.laying.proofs.lay_loop.Goals as goal

pub overflow_add-w : goal.overflow_add-w
overflow_add-w c = omega (arith, c.requires.3 c.args.r, c.noted_at-w.ensures)

pub overflow_add-w-2 : goal.overflow_add-w-2
overflow_add-w-2 c = omega (arith, c.requires.3 c.args.r, c.noted_at-w.ensures)

pub overflow_add-w-3 : goal.overflow_add-w-3
overflow_add-w-3 c = omega (arith, c.requires.3 c.args.r, c.noted_at-w.ensures)

pub returns : goal.returns
returns c =
    three_loop_rows c.args.rows.now _ _ _ _ _ _ _ _ _ _ _ _ _ _ _ _ _
    c.noted_at-i.ensures
    c.noted_at-w.ensures
    c.word_at-update.ensures
    c.word_at-condition.ensures
    c.wire_of-a.ensures
    c.wire_of-b.ensures
    c.wire_of-c.ensures
    c.put_row.ensures
    c.put_row-2.ensures
    c.put_row-3.ensures
