-- `carrying::Notes::home_wire` meets its contract. One return for each kind of value. Assumes nothing.
use Rattle.std.proofs.Common.{refl, arith}
use Rattle.table.specs.Kinds.{apart}
use Rattle.table.specs.declared.Kind.TheVariants.{For, Arg}
use Rattle.carrying.specs.Starts.{of_start, of_no_start, of_node, of_no_node}
use Rattle.carrying.proofs.Homes.{start_home, op_home, for_home, arg_home, next_home, noted_arg, noted_arg_below}
use Rattle.carrying.proofs.Notes.home_wire.Goals as goal

pub returns-in-Input : goal.returns-in-Input
returns-in-Input c = start_home _ _ _ c.kind.ensures _ (of_start _ c.in-Input.is)

pub returns-in-Op : goal.returns-in-Op
returns-in-Op c = let k = of_node _ c.in-Op.is in op_home _ _ _ c.kind.ensures _ k.0 k.1

pub returns-in-For : goal.returns-in-For
returns-in-For c = for_home _ _ _ c.in-For.ensures _ (omega arith) refl

pub returns-in-Arg : goal.returns-in-Arg
returns-in-Arg c = arg_home _ _ _ c.in-Arg.ensures _ (omega arith) (omega arith) refl

pub bounds-wires-self : goal.bounds-wires-self
bounds-wires-self c =
    let N = c.args.self.now.noted in
    let d = c.in_default in
    let l = of_no_node _ (of_no_start _ d.not-Input d.not-Const) d.not-Op d.not-Pick in
    noted_arg_below _ _ N.passing _ _ c.kind.ensures c.requires.2 c.requires.1 l (apart _ For d.not-For) (apart _ Arg d.not-Arg) _ N.pairs_noted

pub returns-in_default : goal.returns-in_default
returns-in_default c =
    let N = c.args.self.now.noted in
    let d = c.in_default in
    let l = of_no_node _ (of_no_start _ d.not-Input d.not-Const) d.not-Op d.not-Pick in
    let f = apart _ For d.not-For in
    let g = apart _ Arg d.not-Arg in
    next_home _ _ _ c.kind.ensures _ _ l f g (noted_arg _ _ N.passing _ _ c.kind.ensures c.requires.2 c.requires.1 l f g _ N.pairs_noted)
