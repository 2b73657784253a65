-- `shift_left` answers `shift_left`: the test on the places is the definition's own, and the language's shift is its power of two.
-- Assumes nothing.
use Rattle.std.proofs.Common.{arith, le-ltb, lt-ltb}
use Rattle.word.proofs.shift_left.Goals as goal

pub returns-then-places-ge-WIDTH : goal.returns-then-places-ge-WIDTH
returns-then-places-ge-WIDTH c = record { answer = rw (le-ltb c.args.places 32 (omega arith)) }

pub returns : goal.returns
returns c = record { answer = rw (lt-ltb c.args.places 32 (omega arith)) }
