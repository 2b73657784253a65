-- `sheet::put_start` meets its contract. Assumes nothing.
use Rattle.sheet.proofs.Writing.{behind}
use Rattle.sheet.specs.Sheet.{decimal, line_of, row_key, kind_key}
use Rattle.sheet.proofs.put_start.Goals as goal

pub returns : goal.returns
returns c = behind c.args.out.now c.args.at (line_of row_key (decimal c.args.r)) kind_key c.put_line-p.ensures c.put_bytes.ensures
