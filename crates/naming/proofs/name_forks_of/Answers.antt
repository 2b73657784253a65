-- `naming::name_forks_of` meets its contract. A DRAIN where there is no use, else a FORK for each use but the last.
-- Assumes nothing.
use mathlib.Core.Path.{refl}
use native.Mathlib.Omega.{arith}
use Rattle.naming.proofs.Naming.{drain_room, drain_named, fork_room, forks_named}
use Rattle.naming.proofs.name_forks_of.Goals as goal

pub three-requires : goal.three-requires
three-requires c = let a = c.args in drain_room a.uses a.a a.b a.c a.at c.if-uses-eq0.true c.requires.2

pub returns-then-uses-eq0 : goal.returns-then-uses-eq0
returns-then-uses-eq0 c = let a = c.args in drain_named a.uses a.a a.b a.c a.at a.nodes.now c.if-uses-eq0.true c.three.ensures

pub repeat-requires : goal.repeat-requires
repeat-requires c = let a = c.args in let q = c.requires.0 in (omega arith, fork_room a.uses a.a a.b a.c a.at c.if-uses-eq0.false c.requires.2)

pub returns : goal.returns
returns c = let a = c.args in forks_named a.uses a.a a.b a.c a.at a.nodes.now c.if-uses-eq0.false refl c.repeat.ensures
