-- `laying::lay_out` meets its contract. Assumes nothing.
use Rattle.std.proofs.Common.{refl, arith}
use Rattle.table.specs.Kinds.{apart}
use Rattle.table.specs.declared.Kind.TheVariants.{Out}
use Rattle.carrying.specs.Sized.{sized, row_sized}
use Rattle.laying.proofs.Results.{out_fits, out_laid, out_skipped}
use Rattle.laying.proofs.lay_out.Goals as goal

pub bounds-outs-k : goal.bounds-outs-k
bounds-outs-k c = let P = c.args.passed.now.passing in out_fits _ _ (sized _ _ P) _ _ _ (row_sized _ _ P _ c.requires.1) c.requires.2

pub overflow_add-result : goal.overflow_add-result
overflow_add-result c = let P = c.args.passed.now.passing in omega (arith, out_fits _ _ (sized _ _ P) _ _ _ (row_sized _ _ P _ c.requires.1) c.requires.2)

pub returns-in-Out : goal.returns-in-Out
returns-in-Out c =
    let P = c.args.passed.now.passing in
    out_laid _ _ (sized _ _ P) c.args.at.now c.requires.0 _ _ _ _ _ (row_sized _ _ P _ c.requires.1) c.requires.2 c.in-Out.ensures refl c.wire_of.ensures

pub returns-in_default : goal.returns-in_default
returns-in_default c = out_skipped _ _ _ _ _ c.requires.2 c.kind.ensures (apart _ Out c.in_default.not-Out)
