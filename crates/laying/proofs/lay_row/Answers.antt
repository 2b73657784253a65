-- `laying::lay_row` meets its contract, kind by kind. Assumes nothing.
use Rattle.std.proofs.Common.{arith, sym, inl, inr}
use Rattle.table.specs.Kinds.{apart}
use Rattle.table.specs.declared.Kind.TheVariants.{Op, Pick, For, Arg}
use Rattle.laying.proofs.Nodes.{row_few, op_fits, op_laid, pick_laid, loop_fits, loop_words, loop_laid, arg_fits, arg_body, arg_next, arg_laid, none_laid}
use Rattle.laying.proofs.lay_row.Goals as goal

pub lay_op-requires : goal.lay_op-requires
lay_op-requires c =
    let P = c.requires in
    let k = sym c.in-Op.ensures in
    (P.1, row_few _ _ _ _ _ _ P.0 _ P.1, op_fits _ _ _ _ _ _ P.0 _ P.1 (inl k))

pub returns-in-Op : goal.returns-in-Op
returns-in-Op c =
    let P = c.requires in
    let k = sym c.in-Op.ensures in
    op_laid _ _ _ _ _ _ P.0 _ P.1 _ _ k (omega arith) c.lay_op.ensures

pub lay_pick-requires : goal.lay_pick-requires
lay_pick-requires c =
    let P = c.requires in
    let k = sym c.in-Pick.ensures in
    (row_few _ _ _ _ _ _ P.0 _ P.1, op_fits _ _ _ _ _ _ P.0 _ P.1 (inr k))

pub returns-in-Pick : goal.returns-in-Pick
returns-in-Pick c =
    let P = c.requires in
    let k = sym c.in-Pick.ensures in
    pick_laid _ _ _ _ _ _ P.0 _ P.1 _ _ k (omega arith) c.lay_pick.ensures

pub lay_loop-requires : goal.lay_loop-requires
lay_loop-requires c =
    let P = c.requires in
    let k = sym c.in-For.ensures in
    let z = loop_words _ _ _ _ _ _ P.0 _ P.1 k in
    (P.1, row_few _ _ _ _ _ _ P.0 _ P.1, loop_fits _ _ _ _ _ _ P.0 _ P.1 k, P.0.low, z.0, z.1)

pub returns-in-For : goal.returns-in-For
returns-in-For c =
    let P = c.requires in
    let k = sym c.in-For.ensures in
    loop_laid _ _ _ _ _ _ P.0 _ P.1 _ _ k (omega arith) c.lay_loop.ensures

pub lay_arg-requires : goal.lay_arg-requires
lay_arg-requires c =
    let P = c.requires in
    let k = sym c.in-Arg.ensures in
    (row_few _ _ _ _ _ _ P.0 _ P.1, arg_fits _ _ _ _ _ _ P.0 _ P.1 k, P.0.low, arg_body _ _ _ _ _ _ P.0 _ P.1 k, arg_next _ _ _ _ _ _ P.0 _ P.1 k)

pub returns-in-Arg : goal.returns-in-Arg
returns-in-Arg c =
    let P = c.requires in
    let k = sym c.in-Arg.ensures in
    arg_laid _ _ _ _ _ _ P.0 _ P.1 _ _ k (omega arith) c.lay_arg.ensures

pub returns-in_default : goal.returns-in_default
returns-in_default c =
    let P = c.requires in
    let d = c.in_default in
    none_laid _ _ _ _ _ _ P.0 _ _ _ (omega arith) c.kind.ensures (apart _ Op d.not-Op) (apart _ Pick d.not-Pick) (apart _ For d.not-For) (apart _ Arg d.not-Arg)
