use native.Mathlib.Omega.{arith}
use Rattle.turning.proofs.Naming.{word_is_set}
use Rattle.turning.proofs.set_row.Goals as goal

pub returns : goal.returns
returns c = word_is_set c.args.words.now c.args.r c.args.word (omega arith)
