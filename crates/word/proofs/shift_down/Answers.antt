-- `shift_down` divides by the power of two of its places, and by 2^32 for 32 or more: a word's quotient by that is 0.
-- Assumes nothing.
use Rattle.std.proofs.Common.{arith, le-ltb, lt-ltb}
use Rattle.word.proofs.shift_down.Goals as goal

pub returns-then-places-ge-WIDTH : goal.returns-then-places-ge-WIDTH
returns-then-places-ge-WIDTH c = record { answer = rw (le-ltb c.args.places 32 (omega arith)) (omega arith) }

pub returns : goal.returns
returns c = record { answer = rw (lt-ltb c.args.places 32 (omega arith)) }
