-- `table::operand_count` meets its contract. The operands among the five words. Assumes nothing.
use Rattle.table.proofs.Words.{counted}
use Rattle.table.specs.Rows.{named, operand_count, at_most_three}
use Prim.Native.Nat.{ℕ, ◌≤◌}
use mathlib.Core.Path.{sym, subst}
use Rattle.table.proofs.operand_count.Goals as goal

pub returns : goal.returns
unfolding operand_count
returns c = let k = c.args.kind in
    let e = counted named k c.fields_by_number-u.ensures c.named.ensures.0 c.named-2.ensures.0 c.named-3.ensures.0 c.named-4.ensures.0 c.named-5.ensures.0 in
    (e, subst (λ (x : ℕ). x ≤ 3) (sym e) (at_most_three k))
