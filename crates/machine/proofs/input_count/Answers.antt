-- `machine::input_count` meets its contract. Assumes nothing.
use Rattle.machine.proofs.Loading.{inputs_below, inputs_go}
use Rattle.graph.specs.Accepted.{accepted}
use Rattle.graph.specs.Below.{total}
use native.Mathlib.Omega.{arith}
use mathlib.Core.Path.{refl}
use Rattle.machine.proofs.input_count.Goals as goal

pub bounds-graph-2 : goal.bounds-graph-2
bounds-graph-2 c = let a = (accepted _ c.requires).shape in omega arith

pub loop-k-init : goal.loop-k-init
unfolding total
loop-k-init c = (omega arith, c.wide-starts.ensures.0, refl)

pub bounds-graph-k : goal.bounds-graph-k
bounds-graph-k c = let a = (accepted _ c.requires).shape in omega arith

pub inputs_after-inputs-requires : goal.inputs_after-inputs-requires
inputs_after-inputs-requires c = let a = (accepted _ c.requires).shape in let b = inputs_below c.args.graph.now c.loop-k.k in omega arith

pub loop-k-preserved : goal.loop-k-preserved
loop-k-preserved c = (omega arith, c.loop-k.invariant.1, inputs_go c.args.graph.now c.loop-k.k c.loop-k.invariant.2 c.inputs_after-inputs.ensures)
