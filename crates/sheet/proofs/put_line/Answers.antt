-- `sheet::put_line` meets its contract. Assumes nothing.
use native.Mathlib.Omega.{arith}
use Rattle.sheet.proofs.Writing.{line_room, line_put}
use Rattle.sheet.specs.Sheet.{decimal}
use Rattle.sheet.proofs.put_line.Goals as goal

pub put_bytes-p-requires : goal.put_bytes-p-requires
put_bytes-p-requires c = let r = line_room c.args.key.now (decimal c.args.v) in let p = c.requires in omega arith

pub put_number-q-requires : goal.put_number-q-requires
put_number-q-requires c = let r = line_room c.args.key.now (decimal c.args.v) in let p = c.requires in
    let e = c.put_bytes-p.ensures.1 in let k = c.put_bytes-p.auto.out in omega arith

pub put_bytes-requires : goal.put_bytes-requires
put_bytes-requires c = let r = line_room c.args.key.now (decimal c.args.v) in let p = c.requires in
    let e = c.put_bytes-p.ensures.1 in let k = c.put_bytes-p.auto.out in let f = c.put_number-q.ensures.1 in let m = c.put_number-q.auto.out in omega arith

pub returns : goal.returns
returns c = line_put c.args.out.now c.args.at c.args.key.now (decimal c.args.v) c.put_bytes-p.ensures c.put_number-q.ensures c.put_bytes.ensures
