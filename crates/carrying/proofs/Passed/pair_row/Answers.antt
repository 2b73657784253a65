-- `carrying::Passed::pair_row` meets its contract. Only a NEXT changes what is noted. Assumes nothing.
use Rattle.std.proofs.Common.{refl, sym, arith}
use Rattle.table.specs.Kinds.{apart}
use Rattle.table.specs.declared.Kind.TheVariants.{Next}
use Rattle.carrying.proofs.Pairing.{arg_before, other_passed, next_paired}
use Rattle.carrying.proofs.Passed.pair_row.Goals as goal

pub bounds-pairs-a : goal.bounds-pairs-a
bounds-pairs-a c = let P = c.args.self.now.passing in let z = arg_before _ _ P _ c.requires.2 (sym c.in-Next.ensures) in omega (arith, P.few, c.served_by-a.ensures)

pub returns-in-Next : goal.returns-in-Next
returns-in-Next c = next_paired _ _ c.args.self.now.passing _ _ _ _ c.requires.2 c.in-Next.ensures refl c.served_by-a.ensures c.requires.1

pub returns-in_default : goal.returns-in_default
returns-in_default c = other_passed _ _ c.args.self.now.passing _ _ _ c.kind.ensures (apart _ Next c.in_default.not-Next) c.requires.1
