-- `forking::write_forks_of` meets its contract. A drain where there is no use, else the chain.
-- Assumes nothing.
use native.Mathlib.Omega.{arith}
use lib.ListN.{length}
use Rattle.forking.proofs.Words.{drain_written, used_long, drained_long}
use Rattle.forking.proofs.write_forks_of.Goals as goal

pub three-requires : goal.three-requires
three-requires c = let a = c.args in let e = drained_long a.uses a.at (length a.graph.now) c.if-uses-eq0.true c.requires.2 in omega arith

pub four-requires : goal.four-requires
four-requires c = let a = c.args in let e = drained_long a.uses a.at (length a.graph.now) c.if-uses-eq0.true c.requires.2 in let k = c.three.auto.graph in omega arith

pub returns-then-uses-eq0 : goal.returns-then-uses-eq0
returns-then-uses-eq0 c = let a = c.args in drain_written a.sort a.wire a.free a.graph.now a.at c.if-uses-eq0.true (rw c.number.ensures at c.three.ensures) c.four.ensures

pub write_chain-requires : goal.write_chain-requires
write_chain-requires c = let a = c.args in let e = used_long a.uses a.at (length a.graph.now) c.if-uses-eq0.false c.requires.2 in (e.0, c.requires.0, c.requires.1, e.1)
