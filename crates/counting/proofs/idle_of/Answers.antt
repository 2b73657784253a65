-- `counting::idle_of` meets its contract. Kind by kind: the row's wires that have no use.
-- Assumes nothing.
use Rattle.std.proofs.Common.{refl, arith}
use Rattle.table.specs.Kinds.{apart}
use Rattle.table.specs.declared.Kind.TheVariants.{For, Arg}
use Rattle.counting.proofs.Counting.{loop_low, idle_none, idle_loop, next_there, idle_arg, idle_value}
use Rattle.counting.proofs.Valued.{of_none, of_value}
use Rattle.counting.proofs.idle_of.Goals as goal

pub overflow_add-result : goal.overflow_add-result
overflow_add-result c =
    let a = c.args in
    let h = loop_low _ _ a.notes.now.noted.passing a.r c.in-For.ensures a.counts.now c.requires.0 c.requires.1 refl c.noted_at-count.ensures in
    let o = c.unnamed-own.ensures.1 in
    omega arith

pub overflow_add-result-in-For : goal.overflow_add-result-in-For
overflow_add-result-in-For c =
    let a = c.args in
    let h = loop_low _ _ a.notes.now.noted.passing a.r c.in-For.ensures a.counts.now c.requires.0 c.requires.1 refl c.noted_at-count.ensures in
    let o = c.unnamed-own.ensures.1 in
    let f = c.one_if.ensures.1 in
    omega arith

pub returns-in-For : goal.returns-in-For
returns-in-For c =
    let a = c.args in
    idle_loop _ _ a.notes.now.noted.passing a.r c.in-For.ensures a.counts.now c.requires.0 c.requires.1 refl c.unnamed-own.ensures.0 c.unnamed-own.ensures.1 c.noted_at-count.ensures c.one_if.ensures.0 c.one_if.ensures.1

pub unnamed-requires : goal.unnamed-requires
unnamed-requires c = let N = c.args.notes.now.noted in next_there _ _ N.passing c.args.r c.in-Arg.ensures _ N.pairs_noted c.requires.1 refl c.noted_at.ensures

pub returns-in-Arg : goal.returns-in-Arg
returns-in-Arg c =
    let N = c.args.notes.now.noted in
    idle_arg _ _ N.passing c.args.r c.in-Arg.ensures _ N.pairs_noted c.requires.1 refl c.unnamed-own.ensures.0 c.unnamed-own.ensures.1 c.noted_at.ensures c.unnamed.ensures.0 c.unnamed.ensures.1

pub returns-in-Next : goal.returns-in-Next
returns-in-Next c = idle_none _ _ c.args.notes.now.noted.passing c.args.r c.kind.ensures (of_none _ c.in-Next.is)

pub returns-in_default : goal.returns-in_default
returns-in_default c =
    let d = c.in_default in
    idle_value _ _ c.args.notes.now.noted.passing c.args.r c.kind.ensures c.requires.1 (of_value _ d.not-Next d.not-End d.not-Out) (apart _ For d.not-For) (apart _ Arg d.not-Arg) c.unnamed-own.ensures.0 c.unnamed-own.ensures.1
