-- `laying::lay_copy` meets its contract: two rows, one after the other. Assumes nothing.
use mathlib.Core.List.{[], ◌∷◌}
use Prim.Native.Nat.{◌+◌, ◌*◌}
use Rattle.laying.proofs.Putting.{two_rows}
use Rattle.laying.proofs.lay_copy.Goals as goal

pub returns : goal.returns
returns c = let A = c.args in
    two_rows A.rows.now _ _ (7 * (A.i + 3 + 2 * A.place)) (7 * (A.i + 4 + 2 * A.place))
    (4 ∷ 0 ∷ A.sort ∷ (A.w + 4) ∷ A.outer ∷ 4294967295 ∷ (A.w + 5 + 3 * A.place) ∷ [])
    (3 ∷ 0 ∷ A.sort ∷ (A.w + 3) ∷ (A.w + 5 + 3 * A.place) ∷ 4294967295 ∷ (A.w + 7 + 3 * A.place) ∷ [])
    c.put_row.ensures c.put_row-2.ensures
