use Prim.Native.Nat.{◌*◌}
use Rattle.carrying.specs.Kept.{Uses}
use Rattle.carrying.proofs.Passed.note_uses.Given as goal

abbrev pub invariant-loop-r : goal.invariant-loop-r
invariant-loop-r l = Uses l.self.words.now (3 * l.r) l.heads l.links
