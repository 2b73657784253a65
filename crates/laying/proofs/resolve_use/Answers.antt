-- `laying::resolve_use` meets its contract. Assumes nothing.
use Rattle.std.proofs.Common.{arith}
use Rattle.laying.proofs.Uses.{value_below, is_value, row_below_lem, place_below, way, carried_on_the_way, use_resolved}
use Rattle.laying.proofs.resolve_use.Goals as goal

pub home_of-h-requires : goal.home_of-h-requires
home_of-h-requires c = value_below _ _ c.args.notes.now.noted.passing _ _ c.requires.0

pub home_wire-own-requires : goal.home_wire-own-requires
home_wire-own-requires c = let P = c.requires in let N = c.args.notes.now.noted in (P.1.wire, value_below _ _ N.passing _ _ P.0, is_value _ _ N.passing _ _ P.0)

pub reads_of-b-requires : goal.reads_of-b-requires
reads_of-b-requires c = row_below_lem _ _ c.args.notes.now.noted.passing _ _ c.requires.0

pub resolve-requires : goal.resolve-requires
resolve-requires c = let P = c.requires in let N = c.args.notes.now.noted in
    let b = c.reads_of-b.ensures in
    (value_below _ _ N.passing _ _ P.0, c.home_of-h.ensures, way _ _ N.passing _ _ P.0 _ b, carried_on_the_way _ _ N.passing _ _ P.0 _ b, P.1, P.2)

pub bounds-at-p : goal.bounds-at-p
bounds-at-p c = let P = c.requires in let N = c.args.notes.now.noted in place_below _ _ N.passing _ _ P.0

pub returns : goal.returns
returns c = let P = c.requires in let N = c.args.notes.now.noted in use_resolved _ _ N.passing _ _ P.0 _ c.reads_of-b.ensures _ _ _ _ _ _ _ _ _ _ (omega arith) c.home_wire-own.ensures c.resolve.ensures
