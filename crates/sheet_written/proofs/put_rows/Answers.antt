-- `sheet_written::put_rows` meets its contract. Assumes nothing.
use Prim.Native.Nat.{◌+◌, ◌-◌}
use mathlib.Core.Path.{◌∙◌}
use native.Mathlib.Omega.{arith}
use Rattle.sheet.specs.Sheet.{row_text, rows_text}
use Rattle.sheet.proofs.Writing.{left_room, left_less, left_none}
use Rattle.sheet_written.proofs.Lines.{rows_go, rows_none}
use Rattle.sheet_written.proofs.put_rows.Goals as goal

pub put_row-p-requires : goal.put_row-p-requires
put_row-p-requires c = let v = c.loop-r.invariant in let q = c.requires in
    let t = c.args.table.now in let n = c.args.n in let r = c.loop-r.r in let e = v.1 in
    (omega arith, omega arith, rw e (left_room v.2 (row_text t r) (rows_text (n - (r + 1)) t (r + 1)) (rows_go t n r c.loop-r-test.true) q.2))

pub loop-r-preserved : goal.loop-r-preserved
loop-r-preserved c = let v = c.loop-r.invariant in
    let t = c.args.table.now in let n = c.args.n in let r = c.loop-r.r in
    (omega arith, c.put_row-p.auto.out ∙ v.1, left_less v.2 (row_text t r) (rows_text (n - (r + 1)) t (r + 1)) (rows_go t n r c.loop-r-test.true) c.put_row-p.ensures)

pub returns : goal.returns
returns c = left_none c.loop-r.invariant.2 (rows_none _ _ _ c.loop-r-test.false)
