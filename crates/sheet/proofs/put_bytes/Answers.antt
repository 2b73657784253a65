-- `sheet::put_bytes` meets its contract. Assumes nothing.
use mathlib.Core.Path.{refl}
use native.Mathlib.Omega.{arith}
use Rattle.sheet.proofs.Writing.{part_written}
use Rattle.sheet.proofs.put_bytes.Goals as goal

pub returns : goal.returns
returns c = (part_written c.args.out.now c.args.bytes.now c.args.at _ c.copy_from_slice.ensures.after (omega arith) c.requires, refl)
