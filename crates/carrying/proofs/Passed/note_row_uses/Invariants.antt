use Prim.Native.Nat.{◌+◌, ◌*◌}
use Rattle.carrying.specs.Kept.{Uses}
use Rattle.carrying.proofs.Passed.note_row_uses.Given as goal

abbrev pub invariant-loop-j : goal.invariant-loop-j
invariant-loop-j l = Uses l.self.words.now (3 * l.r + l.j) l.heads l.links
