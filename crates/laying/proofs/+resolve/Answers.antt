-- `laying::resolve` calls itself for the enclosing loop: the nesting depth of the body falls, until home is reached. Assumes nothing.
use Rattle.std.proofs.Common.{arith}
use Rattle.carrying.specs.Way.{below, noted, way_on, less_deep}
use Rattle.laying.proofs.Entered.{at_home, takes, carries_on, resolved_on}
use Rattle.laying.proofs.+resolve.Goals as goal

pub returns-then-b-h : goal.returns-then-b-h
returns-then-b-h t c = let P = c.requires in let N = c.args.notes.now.noted in at_home _ _ _ _ _ _ _ P.1 _ _ _ c.if-b-h.true P.5 (omega arith)

pub noted_at-around-requires : goal.noted_at-around-requires
noted_at-around-requires t c =
    let P = c.requires in let N = c.args.notes.now.noted in
    let l = below _ _ N.passing _ _ _ P.1 c.if-b-h.false P.2 in
    omega (arith, N.passing.few)

pub resolve-outer-requires : goal.resolve-outer-requires
resolve-outer-requires t c =
    let P = c.requires in let N = c.args.notes.now.noted in
    let d = c.if-b-h.false in
    let x = noted _ _ N.passing _ _ _ N.bodies_noted (below _ _ N.passing _ _ _ P.1 d P.2) c.noted_at-around.ensures in (
      less_deep _ _ N.passing _ _ _ _ _ c.decreases P.1 d P.2 x,
      (P.0, P.1, way_on _ _ N.passing _ _ _ _ P.1 d P.2 x, carries_on _ _ N.passing _ _ _ P.1 d P.2 P.3 P.0 _ x, P.4, P.5),
    )

pub enter-requires : goal.enter-requires
enter-requires t c =
    let P = c.requires in let N = c.args.notes.now.noted in
    let R = c.resolve-outer.ensures in
    (takes _ _ N.passing _ _ _ P.1 c.if-b-h.false P.2 P.3 P.0, P.4, R.next)

pub returns : goal.returns
returns t c =
    let P = c.requires in let N = c.args.notes.now.noted in
    let d = c.if-b-h.false in
    let x = noted _ _ N.passing _ _ _ N.bodies_noted (below _ _ N.passing _ _ _ P.1 d P.2) c.noted_at-around.ensures in
    resolved_on _ _ _ _ _ _ _ P.1 _ _ _ _ _ _ _ _ _ _ _ x c.resolve-outer.ensures c.enter.ensures
