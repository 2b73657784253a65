-- `sheet_read::row` meets its contract. The start, the kind or a word stops, or the row is read and the words behind its last are 0. Assumes nothing.
use Rattle.std.proofs.lemmas.Result.{err_from_is_err_and}
use Prim.Native.Nat.{◌+◌}
use mathlib.Core.Path.{refl, ◌∙◌}
use native.Mathlib.Omega.{arith}
use lib.ListN.{length-set}
use Rattle.sheet_read.proofs.Tables.{row_no_start, row_no_kind, row_no_words, row_read}
use Rattle.sheet_read.proofs.Storing.{cleared}
use Rattle.sheet_read.proofs.row.Goals as goal

pub returns-in_err-first : goal.returns-in_err-first
returns-in_err-first c = let p = err_from_is_err_and c.from_residual.result c.from_residual.ensures.1 in
    rw (p.1, p.2) (row_no_start c.args.text.now c.args.at c.args.r _ _ _ c.in_err-first.ensures tt)

pub returns-in_err-kind : goal.returns-in_err-kind
returns-in_err-kind c = let p = err_from_is_err_and c.from_residual-in_err-kind.result c.from_residual-in_err-kind.ensures.1 in
    rw (p.1, p.2) (row_no_kind c.args.text.now c.args.at c.args.r _ _ _ c.in_ok-first.ensures refl c.in_err-kind.ensures tt)

pub returns-in_err-last : goal.returns-in_err-last
returns-in_err-last c = let p = err_from_is_err_and c.from_residual-in_err-last.result c.from_residual-in_err-last.ensures.1 in
    rw (p.1, p.2) (row_no_words c.args.text.now c.args.at c.args.r _ _ _ c.in_ok-first.ensures refl c.in_ok-kind.ensures refl c.used_words-used.ensures.0 c.in_err-last.ensures tt)

pub returns : goal.returns
returns c = let u = c.used_words-used.ensures.1 in let h = c.requires.1 in
    let e = c.words.auto.out ∙ length-set c.args.out.now c.args.to c.in_ok-kind.kind.value in
    row_read c.args.text.now c.args.at c.args.r _ _ _ c.in_ok-first.ensures refl c.in_ok-kind.ensures refl c.used_words-used.ensures.0
    _ c.in_ok-last.ensures tt (cleared c.words.new.out (c.args.to + 1 + c.used_words-used.result) _ (c.fill.ensures.after (λ y q. q)) (omega arith))
