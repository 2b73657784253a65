use Rattle.turning.proofs.Naming.{row_in, out_names}
use mathlib.Core.Path.{sym}
use Rattle.turning.proofs.Rows.put_result.Goals as goal

pub named-requires : goal.named-requires
named-requires c = let P = c.args.self.now.passes in out_names _ P.right _ (row_in P c.requires.0) (sym c.in-Out.ensures)
