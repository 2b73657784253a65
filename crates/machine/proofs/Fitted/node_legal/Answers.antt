-- `machine::node_legal` meets its contract. Assumes nothing.
use native.Mathlib.Omega.{arith}
use Rattle.graph.specs.Accepted.{accepted}
use Rattle.machine.proofs.Records.{node_legal_is}
use Rattle.machine.proofs.Fitted.node_legal.Goals as goal

pub returns : goal.returns
returns c = record { answer = node_legal_is _ _ _ c.requires _ c.row_of-row.ensures.row _ c.wide-wires.ensures.0 c.record_at-own.ensures.record c.record_legal.ensures.answer }

pub row_of-row-requires : goal.row_of-row-requires
row_of-row-requires c = ((accepted _ c.args.self.now.accepted).shape, c.requires)

pub bounds-self-1 : goal.bounds-self-1
bounds-self-1 c = let a = (accepted _ c.args.self.now.accepted).shape in omega arith
