use mathlib.Core.Path.{◌≡◌}
use Rattle.naming.specs.Carried.{Body}
use Rattle.structure.specs.Depth.{depth}
use Rattle.lowered.specs.Sources.{inside}
use Rattle.naming.proofs.lies_in.Given as goal

abbrev pub invariant-loop-x : goal.invariant-loop-x
invariant-loop-x l = Body l.notes.passed.words.now l.x × (inside l.notes.passed.words.now l.l l.b ≡ inside l.notes.passed.words.now l.l l.x)

abbrev pub decreases-loop-x : goal.decreases-loop-x
decreases-loop-x l = depth l.notes.passed.words.now l.x
