-- `laying::count_copies` meets its contract: all bases are 0. Assumes nothing.
use Rattle.laying.proofs.Whole.{none_entered, room_at_zero}
use Rattle.laying.proofs.Uses.{counted}
use Rattle.laying.proofs.count_copies.Goals as goal

pub resolve_values-requires : goal.resolve_values-requires
resolve_values-requires c =
    let E = c.none-copies.ensures in
    let Z = c.zero.ensures in
    (rw (Z.0, Z.1) (room_at_zero _ _ c.args.notes.now.noted.passing), rw (E.0, E.1) (none_entered _))

pub returns : goal.returns
returns c = counted _ _ c.args.notes.now.noted.passing _ _ c.resolve_values.ensures.next
