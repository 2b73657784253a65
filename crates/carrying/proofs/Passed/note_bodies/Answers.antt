-- `carrying::Passed::note_bodies` meets its contract. Invariant: the bodies of the rows before r are noted, and b is the next. Assumes nothing.
use Rattle.std.proofs.Common.{ℕ, sym, ◌∙◌}
use Rattle.std.proofs.Math.ListN.{length-replicate}
use Rattle.structure.specs.Behind.{body_first}
use Rattle.carrying.proofs.Scanning.{none_noted}
use Rattle.carrying.proofs.Passed.note_bodies.Goals as goal

pub loop-r-init : goal.loop-r-init
loop-r-init c = let P = c.args.self.now.passing in (none_noted _ _ P _ (length-replicate {A = ℕ} 512 0), P.rows ∙ sym (body_first _))
