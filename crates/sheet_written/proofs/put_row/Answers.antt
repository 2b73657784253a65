-- `sheet_written::put_row` meets its contract. Assumes nothing.
use mathlib.Core.Path.{refl}
use native.Mathlib.Omega.{arith}
use Rattle.sheet_written.proofs.Lines.{row_room, row_put}
use Rattle.sheet_written.proofs.put_row.Goals as goal

pub put_start-p-requires : goal.put_start-p-requires
put_start-p-requires c = let q = c.requires.2 in
    let r = row_room c.args.table.now c.args.r c.kind_at-kind.result _ c.kind_at-kind.ensures refl in omega arith

pub put_name-q-requires : goal.put_name-q-requires
put_name-q-requires c = let q = c.requires.2 in
    let r = row_room c.args.table.now c.args.r c.kind_at-kind.result _ c.kind_at-kind.ensures refl in
    let e = c.put_start-p.ensures.1 in let m = c.put_start-p.auto.out in omega arith

pub put_words-requires : goal.put_words-requires
put_words-requires c = let q = c.requires.2 in
    let r = row_room c.args.table.now c.args.r c.kind_at-kind.result c.used_words-used.result c.kind_at-kind.ensures c.used_words-used.ensures.0 in
    let e = c.put_start-p.ensures.1 in let m = c.put_start-p.auto.out in let f = c.put_name-q.ensures.1 in let n = c.put_name-q.auto.out in
    (c.requires.0, c.requires.1, c.used_words-used.ensures.1, omega arith)

pub returns : goal.returns
returns c = row_put c.args.table.now c.args.r c.kind_at-kind.result c.used_words-used.result c.kind_at-kind.ensures c.used_words-used.ensures.0 c.args.out.now c.args.at c.put_start-p.ensures c.put_name-q.ensures c.put_words.ensures
