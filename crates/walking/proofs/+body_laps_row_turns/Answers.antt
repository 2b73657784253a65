-- A body runs its loops, a loop its turns, and a turn its body.
use Rattle.walking.proofs.Walking.{stays, walks_on, row_halts, body_halts, stands_still, op_walks, pick_walks, other_walks, end_few, first_below, one_deeper, room, opens_zero, opens_none, opens_spent, turns_walk, turn_leaves, turn_spent, turn_again}
use Rattle.std.proofs.lemmas.Result.{err_from_is_err_and}
use Rattle.turning.proofs.Naming.{row_in, for_names, same_kind}
use Rattle.table.specs.Kinds.{apart}
use Rattle.table.specs.declared.Kind.TheVariants.{Op, Pick, For, End}
use native.Mathlib.Omega.{arith}
use mathlib.Core.Logic.{inl}
use mathlib.Core.Path.{refl, sym, ◌∙◌}
use Rattle.walking.proofs.+body_laps_row_turns.Goals as goal

pub body-loop-i-init : goal.body-loop-i-init
body-loop-i-init t c = let h = c.requires in let r = c.args.loops.now.rows.passes.rows in stands_still _ _ _ _ (omega arith)

pub body-returns-then-eq : goal.body-returns-then-eq
body-returns-then-eq t c = (c.loop-i.invariant, inl (sym c.kind.ensures ∙ same_kind _ End (sym c.eq.ensures ∙ c.if-eq.true)))

pub body-returns-in_err-next : goal.body-returns-in_err-next
body-returns-in_err-next t c = let p = err_from_is_err_and c.from_residual.result c.from_residual.ensures.1 in
    rw (p.1, p.2) (row_halts c.args.loops.now.rows.passes.right _ _ c.loop-i.invariant.moves c.loop-i.invariant.fewer c.in_err-next.ensures)

pub body-loop-i-preserved : goal.body-loop-i-preserved
body-loop-i-preserved t c = let k = c.in_ok-next.ensures in
    walks_on c.args.loops.now.rows.passes.right c.loop-i.invariant k.0

pub laps-named-requires : goal.laps-named-requires
laps-named-requires t c = let P = c.args.loops.now.rows.passes in let l = row_in P c.requires.0 in (for_names _ P.right _ l c.requires.1).1.0

pub laps-returns-then-named-eq0 : goal.laps-returns-then-named-eq0
laps-returns-then-named-eq0 t c = let P = c.args.loops.now.rows.passes in let l = row_in P c.requires.0 in opens_zero _ P.right _ l c.requires.1 _ _ c.named.ensures c.if-named-eq0.true

pub laps-named-start-requires : goal.laps-named-start-requires
laps-named-start-requires t c = let P = c.args.loops.now.rows.passes in let l = row_in P c.requires.0 in (for_names _ P.right _ l c.requires.1).0

pub laps-overflow_add-result : goal.laps-overflow_add-result
laps-overflow_add-result t c = let P = c.args.loops.now.rows.passes in let l = row_in P c.requires.0 in let f = end_few _ P.right _ l c.requires.1 c.at-place.ensures.1.last in omega arith

pub laps-returns-then-holds-eq0 : goal.laps-returns-then-holds-eq0
laps-returns-then-holds-eq0 t c = let P = c.args.loops.now.rows.passes in let l = row_in P c.requires.0 in opens_none _ P.right _ l c.requires.1 _ _ c.named.ensures c.if-named-eq0.false c.named-start.ensures c.holds.ensures c.if-holds-eq0.true c.at-place.ensures.1.last (rw c.at-place.ensures.0 at c.pass_over.ensures)

pub laps-returns-then-allow-eq0 : goal.laps-returns-then-allow-eq0
laps-returns-then-allow-eq0 t c = let P = c.args.loops.now.rows.passes in let l = row_in P c.requires.0 in opens_spent _ P.right _ l c.requires.1 _ _ c.named.ensures c.if-named-eq0.false c.named-start.ensures c.holds.ensures c.if-holds-eq0.false c.if-allow-eq0.true

pub laps-returns : goal.laps-returns
laps-returns t c = let P = c.args.loops.now.rows.passes in let l = row_in P c.requires.0 in turns_walk _ P.right _ l c.requires.1 _ _ c.named.ensures c.if-named-eq0.false c.named-start.ensures c.holds.ensures c.turns.result _ _ c.if-holds-eq0.false c.if-allow-eq0.false c.at-place.ensures.1.at.first_row (rw c.at-place.ensures.0 at c.first_turn.ensures) (rw c.at-place.ensures.0 at c.turns.ensures)

pub row-laps-requires : goal.row-laps-requires
row-laps-requires t c = let P = c.args.loops.now.rows.passes in let l = row_in P c.requires.0 in let k = sym c.in-For.ensures in let m = c.decreases in let q = room _ P.right _ l k in
    (omega arith, (c.requires.0, k))

pub row-returns-in-Op : goal.row-returns-in-Op
row-returns-in-Op t c = let P = c.args.loops.now.rows.passes in let l = row_in P c.requires.0 in op_walks _ _ _ _ _ l c.in-Op.ensures refl c.op_row.ensures

pub row-returns-in-Pick : goal.row-returns-in-Pick
row-returns-in-Pick t c = let P = c.args.loops.now.rows.passes in let l = row_in P c.requires.0 in pick_walks _ _ _ _ _ l c.in-Pick.ensures refl c.pick_row.ensures

pub row-returns-in_default : goal.row-returns-in_default
row-returns-in_default t c = let P = c.args.loops.now.rows.passes in let l = row_in P c.requires.0 in other_walks _ _ _ _ _ l c.kind.ensures (apart _ Op c.in_default.not-Op) (apart _ Pick c.in_default.not-Pick) (apart _ For c.in_default.not-For) c.requires.1 refl

pub turns-loop-end-init : goal.turns-loop-end-init
turns-loop-end-init t c = (stays _ _ _ _, omega arith)

pub turns-body-requires : goal.turns-body-requires
turns-body-requires t c = let at = c.requires.at in let m = c.decreases in let d = one_deeper _ at.right _ at.row at.is_for_lem at.first_row in let b = first_below _ at.right _ at.row at.is_for_lem at.first_row in let e = c.args.loops.now.rows.passes.rows in
    (omega arith, omega arith)

pub turns-returns-in_err-end : goal.turns-returns-in_err-end
turns-returns-in_err-end t c = let p = err_from_is_err_and c.from_residual.result c.from_residual.ensures.1 in
    rw (p.1, p.2) (body_halts c.args.loops.now.rows.passes.right _ c.args.l.now.row _ c.loop-end.invariant.0 c.loop-end.invariant.1 c.in_err-end.ensures)

pub turns-returns-then-holds-eq0 : goal.turns-returns-then-holds-eq0
turns-returns-then-holds-eq0 t c = let at = c.requires.at in let v = c.in_ok-end.ensures in turn_leaves _ at.right _ at.row at.is_for_lem at.first_row c.loop-end.invariant.0 v c.index_after-x.ensures c.holds.ensures c.loop-end.invariant.1 c.if-holds-eq0.true c.leave.ensures

pub turns-returns-then-end-eq0 : goal.turns-returns-then-end-eq0
turns-returns-then-end-eq0 t c = let at = c.requires.at in let v = c.in_ok-end.ensures in turn_spent _ at.right _ at.row at.is_for_lem at.first_row c.loop-end.invariant.0 v c.index_after-x.ensures c.holds.ensures c.if-holds-eq0.false c.if-end-eq0.true

pub turns-overflow_sub-left : goal.turns-overflow_sub-left
turns-overflow_sub-left t c = let h = c.if-end-eq0.false in omega arith

pub turns-loop-end-smaller : goal.turns-loop-end-smaller
turns-loop-end-smaller t c = let v = c.in_ok-end.ensures in let h = v.0.fewer in let z = c.if-end-eq0.false in omega arith

pub turns-loop-end-preserved : goal.turns-loop-end-preserved
turns-loop-end-preserved t c = let at = c.requires.at in let v = c.in_ok-end.ensures in let h = v.0.fewer in let i = c.loop-end.invariant.1 in
    (turn_again _ at.right _ at.row at.is_for_lem at.first_row c.loop-end.invariant.0 v c.index_after-x.ensures c.holds.ensures c.if-holds-eq0.false c.if-end-eq0.false c.next_turn.ensures, omega arith)
