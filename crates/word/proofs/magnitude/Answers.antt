-- `magnitude` answers the value without its sign.
-- Assumes nothing.
use Rattle.word.proofs.Signs.{near, far}
use Rattle.word.proofs.magnitude.Goals as goal

pub returns-then-x-lt-HALF : goal.returns-then-x-lt-HALF
returns-then-x-lt-HALF c = record { answer = near c.args.x c.if-x-lt-HALF.true }

pub returns : goal.returns
returns c = record { answer = far c.args.x c.if-x-lt-HALF.false }
