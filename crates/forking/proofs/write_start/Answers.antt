-- `forking::write_start` meets its contract. By the row's kind.
-- Assumes nothing.
use Rattle.std.proofs.Common.{ap}
use Rattle.table.specs.Kinds.{kind_number, apart}
use Rattle.table.specs.declared.Kind.TheVariants.{Input}
use Rattle.forking.proofs.Words.{start_input, start_constant}
use Rattle.forking.proofs.write_start.Goals as goal

pub returns-in-Input : goal.returns-in-Input
returns-in-Input c = let a = c.args in start_input a.graph.now a.at a.word a.inputs (ap kind_number c.in-Input.is)

pub returns-in_default : goal.returns-in_default
returns-in_default c = let a = c.args in start_constant a.graph.now a.at a.word a.inputs (apart _ Input c.in_default.not-Input)
