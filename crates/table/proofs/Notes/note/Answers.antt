-- `table::Notes::note` meets its contract. Assumes nothing.
use mathlib.Core.Path.{refl}
use Rattle.table.proofs.Noting.{noted_more}
use Rattle.table.proofs.Notes.note.Goals as goal

pub returns : goal.returns
returns c = λ t N l k. (noted_more t c.args.r c.args.kind c.behind-self.result N l k c.home-home.ensures c.inner-body.ensures c.behind-self.ensures, refl)
