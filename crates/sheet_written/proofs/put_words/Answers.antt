-- `sheet_written::put_words` meets its contract. Assumes nothing.
use Prim.Native.Nat.{◌+◌, ◌-◌}
use mathlib.Core.Path.{◌∙◌}
use native.Mathlib.Omega.{arith}
use Rattle.sheet.specs.Sheet.{decimal, line_of, word_key, words_text}
use Rattle.sheet.proofs.Writing.{left_room, left_less, left_none}
use Rattle.sheet_written.proofs.Lines.{words_go, words_none}
use Rattle.sheet_written.proofs.put_words.Goals as goal

pub put_word-p-requires : goal.put_word-p-requires
put_word-p-requires c = let v = c.loop-k.invariant in
    let t = c.args.table.now in let r = c.args.r in let u = c.args.used in let k = c.loop-k.k in let e = v.2 in
    (omega arith, rw e (left_room v.3 (line_of (word_key k) (decimal c.word_at.result)) (words_text (u + 1 - (k + 1)) t r (k + 1)) (words_go t r u k (omega arith) c.word_at.ensures) c.requires.3))

pub loop-k-preserved : goal.loop-k-preserved
loop-k-preserved c = let v = c.loop-k.invariant in
    let t = c.args.table.now in let r = c.args.r in let u = c.args.used in let k = c.loop-k.k in (
      omega arith,
      omega arith,
      c.put_word-p.auto.out ∙ v.2,
      left_less v.3 (line_of (word_key k) (decimal c.word_at.result)) (words_text (u + 1 - (k + 1)) t r (k + 1)) (words_go t r u k (omega arith) c.word_at.ensures) c.put_word-p.ensures,
    )

pub returns : goal.returns
returns c = left_none c.loop-k.invariant.3 (words_none _ _ _ _ (omega arith))
