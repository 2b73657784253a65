use Rattle.turning.proofs.Naming.{row_in, op_names}
use Rattle.turning.proofs.Rows.op_row.Goals as goal

pub named-x-requires : goal.named-x-requires
named-x-requires c = let P = c.args.self.now.passes in (op_names _ P.right _ (row_in P c.requires.0) c.requires.1).0

pub named-y-requires : goal.named-y-requires
named-y-requires c = let P = c.args.self.now.passes in (op_names _ P.right _ (row_in P c.requires.0) c.requires.1).1
