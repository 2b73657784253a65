-- `carrying::Notes::new` meets its contract. Assumes nothing.
use Rattle.std.proofs.Common.{refl}
use Rattle.carrying.specs.Zeros.{zeros}
use Rattle.carrying.proofs.Notes.new.Goals as goal

pub note_uses-requires : goal.note_uses-requires
note_uses-requires c = (refl, refl, λ v l. zeros 512 v)
