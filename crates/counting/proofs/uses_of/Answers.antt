-- `counting::uses_of` meets its contract. Kind by kind: the uses of the row's nodes and results.
-- Assumes nothing.
use Rattle.std.proofs.Common.{refl, sym, arith}
use Rattle.table.specs.Kinds.{apart}
use Rattle.table.specs.declared.Kind.TheVariants.{Op, Pick, For, Arg, Out}
use Rattle.counting.proofs.Counting.{loop_low, uses_of_loop, uses_of_none}
use Rattle.counting.specs.Idle.{uses_of_op, uses_of_pick, uses_of_arg, uses_of_out}
use Rattle.counting.proofs.uses_of.Goals as goal

pub returns-in-Op : goal.returns-in-Op
returns-in-Op c = (sym (uses_of_op _ c.args.r (sym c.in-Op.ensures)), omega arith)

pub returns-in-Pick : goal.returns-in-Pick
returns-in-Pick c = (sym (uses_of_pick _ c.args.r (sym c.in-Pick.ensures)), omega arith)

pub overflow_mul-result : goal.overflow_mul-result
overflow_mul-result c = let a = c.args in let h = loop_low _ _ a.passed.now.passing a.r c.in-For.ensures a.counts.now c.requires.0 c.requires.1 refl c.noted_at.ensures in omega arith

pub overflow_add-result : goal.overflow_add-result
overflow_add-result c = let a = c.args in let h = loop_low _ _ a.passed.now.passing a.r c.in-For.ensures a.counts.now c.requires.0 c.requires.1 refl c.noted_at.ensures in omega arith

pub returns-in-For : goal.returns-in-For
returns-in-For c = let a = c.args in uses_of_loop _ _ a.passed.now.passing a.r c.in-For.ensures a.counts.now c.requires.0 c.requires.1 refl c.noted_at.ensures

pub returns-in-Arg : goal.returns-in-Arg
returns-in-Arg c = (sym (uses_of_arg _ c.args.r (sym c.in-Arg.ensures)), omega arith)

pub returns-in-Out : goal.returns-in-Out
returns-in-Out c = (sym (uses_of_out _ c.args.r (sym c.in-Out.ensures)), omega arith)

pub returns-in_default : goal.returns-in_default
returns-in_default c =
    let d = c.in_default in
    (uses_of_none _ _ c.args.passed.now.passing c.args.r c.kind.ensures (apart _ Op d.not-Op) (apart _ Pick d.not-Pick) (apart _ For d.not-For) (apart _ Arg d.not-Arg) (apart _ Out d.not-Out), omega arith)
