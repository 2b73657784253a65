-- `naming::name_legs_of` meets its contract. Two legs for each use but the last, with the wire's name.
-- Assumes nothing.
use Prim.Native.Nat.{◌+◌, ◌*◌}
use lib.ListN.{get_or}
use Rattle.naming.proofs.Naming.{no_legs}
use Rattle.naming.proofs.name_legs_of.Goals as goal

pub returns-then-uses-eq0 : goal.returns-then-uses-eq0
returns-then-uses-eq0 c = let a = c.args in no_legs a.uses (get_or a.wires.now (3 * a.w) 0) (get_or a.wires.now (3 * a.w + 1) 0) (get_or a.wires.now (3 * a.w + 2) 0) a.wires.now a.at c.if-uses-eq0.true
