use Rattle.turning.proofs.Naming.{row_in, pick_names}
use Rattle.turning.proofs.Rows.pick_row.Goals as goal

pub named-f-requires : goal.named-f-requires
named-f-requires c = let P = c.args.self.now.passes in (pick_names _ P.right _ (row_in P c.requires.0) c.requires.1).0

pub named-x-requires : goal.named-x-requires
named-x-requires c = let P = c.args.self.now.passes in (pick_names _ P.right _ (row_in P c.requires.0) c.requires.1).1.0

pub named-y-requires : goal.named-y-requires
named-y-requires c = let P = c.args.self.now.passes in (pick_names _ P.right _ (row_in P c.requires.0) c.requires.1).1.1
