use Rattle.turning.proofs.Copying.{back_is_copied}
use mathlib.Core.Path.{◌∙◌}
use Rattle.turning.proofs.Rows.copy.Goals as goal

pub returns : goal.returns
returns c = c.put_back.ensures ∙ back_is_copied _ _ _ _ _ _ c.put_aside.ensures
