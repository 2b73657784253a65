-- `laying::lay_all` meets its contract: the copies, the rows, then the results. Assumes nothing.
use Rattle.laying.proofs.Whole.{none_entered, room_where_all_fits, operands_known, known, all_laid}
use Rattle.laying.proofs.lay_all.Goals as goal

pub resolve_values-requires : goal.resolve_values-requires
resolve_values-requires c =
    let P = c.requires in
    let E = c.none-copies.ensures in
    (room_where_all_fits _ _ _ P.0 P.1 P.2, rw (E.0, E.1) (none_entered _))

pub lay_rows-requires : goal.lay_rows-requires
lay_rows-requires c = let P = c.requires in
    known _ _ _ _ _ _ c.args.notes.now.noted _ _ P.0 _ _ _ _ c.resolve_values.ensures P.1 P.2

pub lay_outs-requires : goal.lay_outs-requires
lay_outs-requires c = operands_known _ _ _ _ _ _ c.args.notes.now.noted _ _ c.requires.0 _ _ _ _ c.resolve_values.ensures

pub returns : goal.returns
returns c = (all_laid _ _ _ _ _ _ c.args.notes.now.noted _ _ c.requires.0 _ _ _ _ _ c.resolve_values.ensures c.lay_rows.ensures, c.lay_outs.ensures)
