-- `carrying::Notes::reads_of` meets its contract. An ARG's operand is read around its loop. Assumes nothing.
use Rattle.std.proofs.Common.{refl, arith}
use Rattle.table.specs.Kinds.{apart}
use Rattle.table.specs.declared.Kind.TheVariants.{Arg}
use Rattle.carrying.proofs.Scanning.{arg_body_below, arg_reads, other_reads}
use Rattle.carrying.proofs.Notes.reads_of.Goals as goal

pub noted_at-around-requires : goal.noted_at-around-requires
noted_at-around-requires c = omega (arith, c.args.self.now.passed.passing.few)

pub noted_at-requires : goal.noted_at-requires
noted_at-requires c =
    let N = c.args.self.now.noted in
    let z = arg_body_below _ _ N.passing _ _ _ _ N.bodies_noted c.requires c.in-Arg.ensures refl c.noted_at-around.ensures in
    omega (arith, N.passing.few)

pub returns-in-Arg : goal.returns-in-Arg
returns-in-Arg c =
    let N = c.args.self.now.noted in
    arg_reads _ _ N.passing _ _ _ _ _ N.bodies_noted c.requires c.in-Arg.ensures refl c.noted_at-around.ensures c.noted_at.ensures

pub returns-in_default : goal.returns-in_default
returns-in_default c =
    let N = c.args.self.now.noted in
    other_reads _ _ N.passing _ _ _ _ N.bodies_noted c.requires c.kind.ensures (apart _ Arg c.in_default.not-Arg) c.noted_at-around.ensures
