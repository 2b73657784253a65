-- `naming::lies_in` meets its contract. Outward from body to body: each is the loop, or lies in it if the next one does.
-- Assumes nothing.
use Rattle.std.proofs.Common.{refl, sym, ◌∙◌, arith}
use Rattle.naming.proofs.Inside.{body_around, outward_less, outside_all, inside_here, inside_outward}
use Rattle.naming.proofs.lies_in.Goals as goal

pub loop-x-init : goal.loop-x-init
loop-x-init c = (c.requires.2, refl)

pub returns-then-x-l : goal.returns-then-x-l
returns-then-x-l c = sym (c.loop-x.invariant.1 ∙ inside_here _ _ c.args.notes.now.noted.passing c.args.l c.requires.0 c.loop-x.x c.if-x-l.true)

pub noted_at-x-requires : goal.noted_at-x-requires
noted_at-x-requires c =
    let N = c.args.notes.now.noted in
    let q = body_around _ _ N.passing c.loop-x.x _ _ N.bodies_noted c.loop-x.invariant.0 c.loop-x-test.true refl in
    let f = N.passing.few in
    let l = q.2 in
    omega arith

pub loop-x-smaller : goal.loop-x-smaller
loop-x-smaller c =
    let N = c.args.notes.now.noted in
    let q = body_around _ _ N.passing c.loop-x.x _ _ N.bodies_noted c.loop-x.invariant.0 c.loop-x-test.true c.noted_at-x.ensures in
    outward_less _ _ N.passing c.loop-x.x _ c.loop-x.invariant.0 c.loop-x-test.true q.1

pub loop-x-preserved : goal.loop-x-preserved
loop-x-preserved c =
    let N = c.args.notes.now.noted in
    let q = body_around _ _ N.passing c.loop-x.x _ _ N.bodies_noted c.loop-x.invariant.0 c.loop-x-test.true c.noted_at-x.ensures in
    (q.0, c.loop-x.invariant.1 ∙ inside_outward _ _ N.passing c.args.l c.requires.0 c.loop-x.x _ q.2 c.if-x-l.false q.1)

pub returns : goal.returns
returns c = sym (c.loop-x.invariant.1 ∙ outside_all _ _ c.args.notes.now.noted.passing c.args.l c.requires.0 c.loop-x.x c.loop-x-test.false)
