use Rattle.turning.proofs.Naming.{row_in, for_names}
use Rattle.walking.proofs.index_after.Goals as goal

pub named-step-requires : goal.named-step-requires
named-step-requires c = let P = c.args.rows.now.passes in (for_names _ P.right _ (row_in P c.requires.0) c.requires.1).1.0
