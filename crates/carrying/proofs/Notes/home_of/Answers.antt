-- `carrying::Notes::home_of` meets its contract. One return for each kind of home. Assumes nothing.
use Rattle.std.proofs.Common.{refl, arith}
use Rattle.table.specs.Kinds.{apart}
use Rattle.table.specs.declared.Kind.TheVariants.{For, Next}
use Rattle.carrying.specs.Starts.{of_start, of_no_start}
use Rattle.carrying.proofs.Scanning.{start_home, for_home, next_body_below, next_home, other_home}
use Rattle.carrying.proofs.Notes.home_of.Goals as goal

pub returns-in-Input : goal.returns-in-Input
returns-in-Input c = start_home _ _ c.args.self.now.passed.passing _ _ c.kind.ensures (of_start _ c.in-Input.is)

pub returns-in-For : goal.returns-in-For
returns-in-For c = for_home _ _ c.args.self.now.passed.passing _ _ c.in-For.ensures refl

pub noted_at-requires : goal.noted_at-requires
noted_at-requires c = omega (arith, c.args.self.now.passed.passing.few)

pub noted_at-requires-in-Next : goal.noted_at-requires-in-Next
noted_at-requires-in-Next c =
    let N = c.args.self.now.noted in
    let z = next_body_below _ _ N.passing _ _ _ _ N.bodies_noted c.requires c.in-Next.ensures refl c.noted_at.ensures in
    omega (arith, N.passing.few)

pub returns-in-Next : goal.returns-in-Next
returns-in-Next c =
    let N = c.args.self.now.noted in
    next_home _ _ N.passing _ _ _ _ _ N.bodies_noted c.requires c.in-Next.ensures refl c.noted_at.ensures c.noted_at-in-Next.ensures

pub returns-in_default : goal.returns-in_default
returns-in_default c =
    let N = c.args.self.now.noted in
    let d = c.in_default in
    other_home _ _ N.passing _ _ _ _ N.bodies_noted c.requires c.kind.ensures (of_no_start _ d.not-Input d.not-Const) (apart _ For d.not-For) (apart _ Next d.not-Next) c.noted_at-in_default.ensures
