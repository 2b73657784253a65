-- `table::used_words` meets its contract. Those of the five words that are not spare. Assumes nothing.
use Rattle.table.proofs.Words.{counted}
use Rattle.table.specs.Rows.{in_use, used_words, at_most_five}
use Prim.Native.Nat.{ℕ, ◌≤◌}
use mathlib.Core.Path.{sym, subst}
use Rattle.table.proofs.used_words.Goals as goal

pub returns : goal.returns
unfolding used_words
returns c = let k = c.args.kind in
    let e = counted in_use k c.fields_by_number-u.ensures c.in_use.ensures.0 c.in_use-2.ensures.0 c.in_use-3.ensures.0 c.in_use-4.ensures.0 c.in_use-5.ensures.0 in
    (e, subst (λ (x : ℕ). x ≤ 5) (sym e) (at_most_five k))
