-- `laying::resolve_uses` meets its contract. Invariant: the operands that name v and stand at places from c on have their wires. Assumes nothing.
use native.Mathlib.Omega.{arith}
use Rattle.laying.proofs.Uses.{place_below, first_use, use_at, link_falls, one_more_lem, all_used}
use Rattle.laying.proofs.resolve_uses.Goals as goal

pub noted_at-c-requires : goal.noted_at-c-requires
noted_at-c-requires c = let P = c.requires in let N = c.args.notes.now.noted in omega (arith, P.1, N.passing.few)

pub loop-c-init : goal.loop-c-init
loop-c-init c = let P = c.requires in let N = c.args.notes.now.noted in first_use _ _ N.passing _ _ _ _ N.uses_noted _ P.1 _ _ _ _ _ c.noted_at-c.ensures P.2 (omega arith) (omega arith)

pub overflow_sub-p : goal.overflow_sub-p
overflow_sub-p c = omega (arith, c.loop-c-test.true)

pub resolve_use-requires : goal.resolve_use-requires
resolve_use-requires c = let P = c.requires in let N = c.args.notes.now.noted in
    let G = c.loop-c.invariant in
    (use_at _ _ N.passing _ _ _ _ N.uses_noted _ P.1 _ _ _ _ _ _ _ G c.loop-c-test.true, P.0, G.next)

pub overflow_cast-c : goal.overflow_cast-c
overflow_cast-c c = let P = c.requires in let N = c.args.notes.now.noted in omega (arith, place_below _ _ N.passing _ _ (use_at _ _ N.passing _ _ _ _ N.uses_noted _ P.1 _ _ _ _ _ _ _ c.loop-c.invariant c.loop-c-test.true))

pub bounds-notes-p : goal.bounds-notes-p
bounds-notes-p c = let P = c.requires in let N = c.args.notes.now.noted in place_below _ _ N.passing _ _ (use_at _ _ N.passing _ _ _ _ N.uses_noted _ P.1 _ _ _ _ _ _ _ c.loop-c.invariant c.loop-c-test.true)

pub loop-c-smaller : goal.loop-c-smaller
loop-c-smaller c = let P = c.requires in let N = c.args.notes.now.noted in link_falls _ _ N.passing _ _ _ _ N.uses_noted _ P.1 _ _ _ _ _ _ _ c.loop-c.invariant c.loop-c-test.true

pub loop-c-preserved : goal.loop-c-preserved
loop-c-preserved c = let P = c.requires in let N = c.args.notes.now.noted in one_more_lem _ _ N.passing _ _ _ _ N.uses_noted _ P.1 _ _ _ _ _ _ _ c.loop-c.invariant c.loop-c-test.true _ _ _ _ c.resolve_use.ensures

pub returns : goal.returns
returns c = let P = c.requires in let N = c.args.notes.now.noted in all_used _ _ N.passing _ _ _ _ N.uses_noted _ P.1 _ _ _ _ _ _ _ c.loop-c-test.false c.loop-c.invariant
