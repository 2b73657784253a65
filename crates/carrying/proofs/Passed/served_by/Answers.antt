-- `carrying::Passed::served_by` meets its contract. The NEXT before says which; the first NEXT of a loop serves its first ARG. Assumes nothing.
use Rattle.std.proofs.Common.{refl, arith}
use Rattle.table.specs.Kinds.{apart}
use Rattle.table.specs.declared.Kind.TheVariants.{Next}
use Rattle.carrying.proofs.Pairing.{not_first, arg_before, served_on, served_first}
use Rattle.carrying.proofs.Passed.served_by.Goals as goal

pub overflow_sub-before : goal.overflow_sub-before
overflow_sub-before c = let z = not_first _ _ c.args.self.now.passing _ c.requires.2 c.requires.3 in omega arith

pub overflow_add-result : goal.overflow_add-result
overflow_add-result c =
    let P = c.args.self.now.passing in
    let z = arg_before _ _ P _ c.requires.2 c.requires.3 in
    let y = served_on _ _ P _ _ _ c.requires.1 c.requires.2 c.requires.3 c.in-Next.ensures refl in
    omega (arith, P.few)

pub returns-in-Next : goal.returns-in-Next
returns-in-Next c = served_on _ _ c.args.self.now.passing _ _ _ c.requires.1 c.requires.2 c.requires.3 c.in-Next.ensures refl

pub overflow_add-result-in_default : goal.overflow_add-result-in_default
overflow_add-result-in_default c =
    let P = c.args.self.now.passing in
    let z = arg_before _ _ P _ c.requires.2 c.requires.3 in
    let y = served_first _ _ P _ _ _ c.requires.0 c.requires.2 c.requires.3 c.kind.ensures (apart _ Next c.in_default.not-Next) in
    omega (arith, P.few)

pub returns-in_default : goal.returns-in_default
returns-in_default c = served_first _ _ c.args.self.now.passing _ _ _ c.requires.0 c.requires.2 c.requires.3 c.kind.ensures (apart _ Next c.in_default.not-Next)
