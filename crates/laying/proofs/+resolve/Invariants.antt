use Rattle.structure.specs.Depth.{depth}
use Rattle.laying.proofs.+resolve.Given as goal

-- the value's way outward ends: the body around is less deep
abbrev pub decreases-resolve : goal.decreases-resolve
decreases-resolve l = depth l.notes.now.passed.words.now l.b
