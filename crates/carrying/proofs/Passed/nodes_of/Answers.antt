-- `carrying::Passed::nodes_of` meets its contract. One return for each kind of row. Assumes nothing.
use Rattle.std.proofs.Common.{refl, arith}
use Rattle.table.specs.Kinds.{apart, either}
use Rattle.table.specs.declared.Kind.TheVariants.{Op, Pick, For, Arg}
use Rattle.carrying.proofs.Counting.{carried_few, nodes_of_for, nodes_of_arg, nodes_of_op, nodes_of_other}
use Rattle.carrying.proofs.Passed.nodes_of.Goals as goal

pub overflow_mul-result : goal.overflow_mul-result
overflow_mul-result c = let z = carried_few _ _ c.args.self.now.passing _ c.requires.0 _ _ c.requires.1 c.in-For.ensures refl in omega arith

pub overflow_add-result : goal.overflow_add-result
overflow_add-result c = let z = carried_few _ _ c.args.self.now.passing _ c.requires.0 _ _ c.requires.1 c.in-For.ensures refl in omega arith

pub returns-in-Op : goal.returns-in-Op
returns-in-Op c = (nodes_of_op _ _ c.args.self.now.passing _ _ c.kind.ensures (either _ Op Pick c.in-Op.is), omega arith)

pub returns-in-For : goal.returns-in-For
returns-in-For c =
    let z = carried_few _ _ c.args.self.now.passing _ c.requires.0 _ _ c.requires.1 c.in-For.ensures refl in
    (nodes_of_for _ _ c.args.self.now.passing _ c.requires.0 _ _ c.requires.1 c.in-For.ensures refl, omega arith)

pub returns-in-Arg : goal.returns-in-Arg
returns-in-Arg c = (nodes_of_arg _ _ c.args.self.now.passing _ _ c.in-Arg.ensures refl, omega arith)

pub returns-in_default : goal.returns-in_default
returns-in_default c = let d = c.in_default in
    (nodes_of_other _ _ c.args.self.now.passing _ _ c.kind.ensures (apart _ For d.not-For) (apart _ Arg d.not-Arg) (apart _ Op d.not-Op) (apart _ Pick d.not-Pick), omega arith)
