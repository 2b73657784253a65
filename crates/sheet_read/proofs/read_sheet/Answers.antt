-- `sheet_read::read_sheet` meets its contract. 19 where the text stops, 10 where the lent words are too few, else the words are copied. Assumes nothing.
use mathlib.Core.Path.{refl}
use native.Mathlib.Omega.{arith}
use Rattle.sheet_read.proofs.Answering.{enough, refused, too_few, copied, answered, front_written}
use Rattle.sheet_read.proofs.read_sheet.Goals as goal

pub returns-then-rows-many : goal.returns-then-rows-many
returns-then-rows-many c = record { answer = too_few c.args.text.now c.args.rows.now c.in-Ok.ensures.0 refl c.if-rows-many.true }

pub returns-in-Err : goal.returns-in-Err
returns-in-Err c = record { answer = refused c.args.text.now c.args.rows.now c.in-Err.ensures.0 refl }

pub returns-else-rows-many : goal.returns-else-rows-many
returns-else-rows-many c = let e = enough c.in-Ok.ensures.1 in
    let k = copied c.args.text.now c.args.rows.now c.in-Ok.ensures.0 refl e in
    let h = c.if-rows-many.false in
    record { answer = answered c.args.text.now c.args.rows.now c.in-Ok.ensures.0 refl e h (front_written c.args.rows.now _ _ c.copy_from_slice.ensures.after k.1 (omega arith)) }
