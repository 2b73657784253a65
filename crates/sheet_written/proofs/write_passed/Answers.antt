-- `sheet_written::write_passed` meets its contract. Assumes nothing.
use mathlib.Core.Path.{sym}
use native.Mathlib.Omega.{arith}
use lib.Seq.{length-take-le}
use Rattle.sheet_written.proofs.Answered.{page_room, page_long, page_front, no_room, sheet_written_lem}
use Rattle.sheet_written.proofs.write_passed.Goals as goal

pub put_sheet-long-requires : goal.put_sheet-long-requires
put_sheet-long-requires c = (c.requires.0, c.requires.1, page_room c.args.table.now 65536 c.args.n c.requires.0 c.requires.1 (omega arith))

pub returns-then-text-long : goal.returns-then-text-long
returns-then-text-long c = no_room _ _ c.requires.0 c.requires.2 c.put_sheet-long.ensures.1 c.if-text-long.true

pub slice_bounds-page-end : goal.slice_bounds-page-end
slice_bounds-page-end c = let f = page_long c.args.table.now 65536 c.args.n c.requires.0 c.requires.1 (omega arith) c.put_sheet-long.ensures in omega arith

pub slice_bounds-put_bytes-end : goal.slice_bounds-put_bytes-end
slice_bounds-put_bytes-end c = let f = page_long c.args.table.now 65536 c.args.n c.requires.0 c.requires.1 (omega arith) c.put_sheet-long.ensures in
    sym (length-take-le _ _ (omega arith))

pub returns : goal.returns
returns c = sheet_written_lem c.args.table.now c.args.text.now c.requires.2 (page_front c.args.table.now 65536 c.args.n c.requires.0 c.requires.1 (omega arith) c.put_sheet-long.ensures) c.put_sheet-long.ensures.1 c.if-text-long.false c.put_bytes.ensures
