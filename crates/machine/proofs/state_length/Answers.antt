-- `machine::state_length` meets its contract. Assumes nothing.
use Rattle.graph.specs.Accepted.{accepted}
use native.Mathlib.Omega.{arith}
use Rattle.machine.proofs.state_length.Goals as goal

pub bounds-graph-0 : goal.bounds-graph-0
bounds-graph-0 c = let a = (accepted _ c.requires).shape in omega arith

pub bounds-graph-1 : goal.bounds-graph-1
bounds-graph-1 c = let a = (accepted _ c.requires).shape in omega arith
