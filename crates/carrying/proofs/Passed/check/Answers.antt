-- `carrying::Passed::check` meets its contract: a table that no refusal of 1 to 9 meets passes. Assumes nothing.
use Rattle.std.proofs.Common.{refl, arith}
use Rattle.carrying.specs.Checked.{few_rows, passing}
use Rattle.carrying.proofs.Passed.check.Goals as goal

pub overflow_cast-result : goal.overflow_cast-result
overflow_cast-result c = let f = few_rows c.args.words.now c.in_ok-check_rows.ensures refl in omega arith

pub invariant_of-result : goal.invariant_of-result
invariant_of-result c = record { passing = passing c.args.words.now c.in_ok-check_rows.ensures refl refl }
