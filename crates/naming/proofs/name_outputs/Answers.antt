-- `naming::name_outputs` meets its contract. One name or two, from what the first output is.
-- Assumes nothing.
use Rattle.naming.proofs.Naming.{second_room, one_output, both_outputs}
use Rattle.naming.proofs.name_outputs.Goals as goal

pub three-requires-then-two_outputs : goal.three-requires-then-two_outputs
three-requires-then-two_outputs c = let a = c.args in let k = c.three.auto.graph in second_room a.role a.row a.value a.at c.two_outputs.ensures c.if-two_outputs.true c.requires k

pub returns-then-two_outputs : goal.returns-then-two_outputs
returns-then-two_outputs c = let a = c.args in both_outputs a.role a.row a.value a.wires.now a.at c.first_what-what.ensures.0 c.two_outputs.ensures c.if-two_outputs.true c.three.ensures c.three-then-two_outputs.ensures

pub returns : goal.returns
returns c = let a = c.args in one_output a.role a.row a.value a.wires.now a.at c.first_what-what.ensures.0 c.two_outputs.ensures c.if-two_outputs.false c.three.ensures
