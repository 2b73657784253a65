use mathlib.Core.Path.{◌≡◌}
use Rattle.table.specs.Scan.{body_of}
use Rattle.carrying.specs.Kept.{Bodies}
use Rattle.carrying.proofs.Passed.note_bodies.Given as goal

abbrev pub invariant-loop-r : goal.invariant-loop-r
invariant-loop-r l = Bodies l.self.words.now l.r l.bodies × (l.b ≡ body_of l.self.words.now l.r)
