-- `naming::name_row` meets its contract. Kind by kind: the names of the row's nodes.
-- Assumes nothing.
use Rattle.std.proofs.Common.{◌+◌, ◌≤◌, [], ◌∷◌, refl, sym, ◌∙◌, length, arith}
use Rattle.table.specs.Kinds.{apart, either}
use Rattle.table.specs.declared.Kind.TheVariants.{Op, Pick, For, Arg}
use Rattle.naming.proofs.Naming.{room_as, named_as, node_row_names, arg_row_names, other_row_names}
use Rattle.naming.proofs.Writing.{two_written}
use Rattle.naming.proofs.name_row.Goals as goal

pub three-requires : goal.three-requires
three-requires c = room_as (node_row_names c.args.notes.now.passed.words.now c.args.r c.kind.ensures (either _ Op Pick c.in-Op.is)) c.args.at c.requires.1

pub returns-in-Op : goal.returns-in-Op
returns-in-Op c = let a = c.args in named_as (node_row_names a.notes.now.passed.words.now a.r c.kind.ensures (either _ Op Pick c.in-Op.is)) a.at a.nodes.now refl c.three.ensures

pub three-requires-in-Arg : goal.three-requires-in-Arg
three-requires-in-Arg c = let a = c.args in let h : a.at + 6 ≤ length a.nodes.now = room_as (arg_row_names a.notes.now.passed.words.now a.r (sym c.in-Arg.ensures)) a.at c.requires.1 in omega arith

pub three-requires-in-Arg-2 : goal.three-requires-in-Arg-2
three-requires-in-Arg-2 c =
    let a = c.args in
    let k = c.three-in-Arg.auto.graph in
    let h : a.at + 6 ≤ length a.nodes.now = room_as (arg_row_names a.notes.now.passed.words.now a.r (sym c.in-Arg.ensures)) a.at c.requires.1 in
    omega arith

pub returns-in-Arg : goal.returns-in-Arg
returns-in-Arg c =
    let a = c.args in
    named_as (arg_row_names a.notes.now.passed.words.now a.r (sym c.in-Arg.ensures)) a.at a.nodes.now refl
    (two_written (6 ∷ a.r ∷ 0 ∷ []) (7 ∷ a.r ∷ 0 ∷ []) a.nodes.now a.at (a.at + 3) c.three-in-Arg.ensures c.three-in-Arg-2.ensures refl)

pub returns-in_default : goal.returns-in_default
returns-in_default c =
    let a = c.args in
    let e = c.kind.ensures in
    let d = c.in_default in
    named_as
    (other_row_names a.notes.now.passed.words.now a.r (λ q. apart _ Op d.not-Op (e ∙ q)) (λ q. apart _ Pick d.not-Pick (e ∙ q)) (λ q. apart _ For d.not-For (e ∙ q)) (λ q. apart _ Arg d.not-Arg (e ∙ q)))
    a.at a.nodes.now (omega arith) refl
