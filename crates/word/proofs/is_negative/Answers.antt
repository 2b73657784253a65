-- `is_negative` answers the sign of the value.
-- Assumes nothing.
use Rattle.word.proofs.Signs.{sign_told}
use Rattle.word.proofs.is_negative.Goals as goal

pub returns : goal.returns
returns c = record { answer = sign_told c.args.x }
