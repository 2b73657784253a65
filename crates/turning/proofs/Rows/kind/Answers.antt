-- `turning::Rows::kind` meets its contract: a row of a table that passes has a kind. Assumes nothing.
use native.Mathlib.Omega.{arith}
use borrow.Author.Rules.{rules}
use Rattle.std.specs.Prelude.{Result, Ok, Err, ℕ, ◌≤◌}
use Rattle.std.specs.Result.{IsOk}
use Rattle.structure.specs.Structure.{right_table_has_structure}
use Rattle.table.specs.Kinds.{Decodes}
use Rattle.table.specs.declared.Kind.{Kind}
use Rattle.table.specs.declared.UnknownKind.{UnknownKind}
use Rattle.turning.proofs.Rows.kind.Goals as goal

known : (n : ℕ) (r : Result Kind UnknownKind) → Decodes n r → n ≤ 8 → IsOk r
known n (Ok k) d l = search rules
known n (Err e) d l = absurd (omega arith)

pub unwrap-requires : goal.unwrap-requires
unwrap-requires c =
    let P = c.args.self.now.passes in
    let k = (right_table_has_structure _ P.right).kinds c.args.r (omega (arith, P.rows)) in
    known _ _ c.try_from.ensures (omega (arith, c.kind_at.ensures))
