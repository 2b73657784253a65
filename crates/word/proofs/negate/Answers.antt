-- `negate` answers the word of the negative number: with it, x comes round to 0.
-- Assumes nothing.
use Rattle.std.proofs.Common.{arith}
use Rattle.word.proofs.Signs.{minus}
use Rattle.word.proofs.negate.Goals as goal

pub returns : goal.returns
returns c = record { answer = minus c.args.x _ c.wrapping_sub_u32.type_inv (omega arith) c.wrapping_sub_u32.ensures.value }
