-- `table::tell_each` meets its contract. Invariant: what is noted is right (`Noted`), and the rows from this one on decide the answer. Assumes nothing.
use native.Mathlib.Omega.{arith}
use mathlib.Core.Path.{sym, ◌∙◌}
use Rattle.table.proofs.Different.{broken_counts}
use Rattle.table.proofs.Noting.{room, few, rows_go, rows_stop}
use Rattle.table.proofs.tell_each.Goals as goal

pub returns-in-Err : goal.returns-in-Err
returns-in-Err c = let b = c.in-Err.ensures in let t = c.args.table.now in
    (sym (rows_stop t c.args.size c.loop-row.row c.loop-row-test.true b.0 (broken_counts c.in-Err.broken)) ∙ c.loop-row.invariant.2, rw b.0 b.1)

pub note-requires : goal.note-requires
note-requires c = let I = c.loop-row.invariant in let N = I.0 in
    (omega (arith, N.rows), room c.args.table.now c.loop-row.row c.in-Ok.kind N c.in-Ok.ensures.0 c.in-Ok.ensures.1, few c.args.table.now c.loop-row.row N)

pub loop-row-preserved : goal.loop-row-preserved
loop-row-preserved c = let I = c.loop-row.invariant in
    let n = c.note.ensures c.args.table.now I.0 (omega arith) c.in-Ok.ensures.0 in
    (n.0, n.1 ∙ I.1, sym (rows_go c.args.table.now c.args.size c.loop-row.row c.loop-row-test.true c.in-Ok.ensures.1) ∙ I.2)
