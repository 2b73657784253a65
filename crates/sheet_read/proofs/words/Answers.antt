-- `sheet_read::words` meets its contract. Invariant: i words are stored, and the lines from i on decide, at p, what is read. Assumes nothing.
use Rattle.std.proofs.lemmas.Result.{err_from_is_err_and}
use mathlib.Core.Path.{refl}
use lib.ListN.{length-set}
use Rattle.sheet_read.proofs.Storing.{words_on, words_stop, words_end}
use Rattle.sheet_read.proofs.words.Goals as goal

pub returns-in_err-word : goal.returns-in_err-word
returns-in_err-word c = let v = c.loop-i.invariant in let p = err_from_is_err_and c.from_residual.result c.from_residual.ensures.1 in
    rw (p.1, p.2) (words_stop c.args.text.now c.loop-i.p v.2 c.loop-i-test.true c.in_err-word.ensures tt)

pub loop-i-preserved : goal.loop-i-preserved
loop-i-preserved c = let v = c.loop-i.invariant in (c.in_ok-word.ensures.inside, simp length-set v.1, words_on c.args.text.now c.loop-i.p v.2 c.loop-i-test.true c.in_ok-word.ensures refl)

pub returns : goal.returns
returns c = let v = c.loop-i.invariant in words_end c.args.text.now c.loop-i.p v.2 c.loop-i-test.false c.loop-i.auto.i-end v.0
