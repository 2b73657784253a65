-- `carrying::Passed::body_after` meets its contract: one law for each kind of row. Assumes nothing.
use Rattle.std.proofs.Common.{refl, arith}
use Rattle.table.specs.Kinds.{apart}
use Rattle.table.specs.declared.Kind.TheVariants.{For, End}
use Rattle.carrying.proofs.Scanning.{for_opens, end_body_below, end_leads_back, other_stays}
use Rattle.carrying.proofs.Passed.body_after.Goals as goal

pub noted_at-requires : goal.noted_at-requires
noted_at-requires c =
    let P = c.args.self.now.passing in
    let z = end_body_below _ _ P _ _ _ c.requires.1 c.in-End.ensures refl c.requires.2 in
    omega (arith, P.few, c.requires.1)

pub returns-in-For : goal.returns-in-For
returns-in-For c = for_opens _ _ c.args.self.now.passing _ _ c.in-For.ensures refl

pub returns-in-End : goal.returns-in-End
returns-in-End c = end_leads_back _ _ c.args.self.now.passing _ _ _ _ _ c.requires.0 c.requires.1 c.in-End.ensures refl c.requires.2 c.noted_at.ensures

pub returns-in_default : goal.returns-in_default
returns-in_default c = other_stays _ _ c.args.self.now.passing _ _ _ c.kind.ensures (apart _ For c.in_default.not-For) (apart _ End c.in_default.not-End) c.requires.2
