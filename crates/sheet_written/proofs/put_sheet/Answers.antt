-- `sheet_written::put_sheet` meets its contract. Assumes nothing.
use native.Mathlib.Omega.{arith}
use Rattle.sheet_written.proofs.Lines.{sheet_room, sheet_put}
use Rattle.sheet_written.proofs.put_sheet.Goals as goal

pub put_line-p-requires : goal.put_line-p-requires
put_line-p-requires c = let r = sheet_room c.args.table.now c.args.n c.requires.0 in let q = c.requires.2 in omega arith

pub put_rows-requires : goal.put_rows-requires
put_rows-requires c = let r = sheet_room c.args.table.now c.args.n c.requires.0 in let q = c.requires.2 in
    let e = c.put_line-p.ensures.1 in let k = c.put_line-p.auto.out in (c.requires.0, c.requires.1, omega arith)

pub returns : goal.returns
returns c = sheet_put c.args.table.now c.args.n c.requires.0 c.args.out.now c.put_line-p.ensures c.put_rows.ensures
