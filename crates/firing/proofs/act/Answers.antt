-- `firing::act` meets its contract. The stores are made one after the other. Assumes nothing.
use Rattle.firing.proofs.Laws.{acted_is}
use Rattle.firing.proofs.act.Goals as goal

pub returns : goal.returns
returns c = record {
  state = acted_is c.args.row c.args.done c.args.left c.args.wires c.args.i _ _ _ _ _ _ _
      c.take.ensures.state c.take-2.ensures.state c.take-3.ensures.state c.give.ensures.state c.give-2.ensures.state c.keep.ensures.state;
}
