-- `traced::sweep_all` meets its contract. Assumes nothing.
use Rattle.run.proofs.Turns.{sweeps_go, sweeps_stop}
use Rattle.state.specs.Run.{finish}
use native.Mathlib.Omega.{arith}
use mathlib.Core.Path.{refl, sym, ◌∙◌}
use Prim.Native.Nat.{◌-◌}
use Rattle.traced.proofs.sweep_all.Goals as goal

pub loop-left-init : goal.loop-left-init
unfolding finish
loop-left-init g c = (refl, omega arith, (c.args.given, omega arith, refl))

pub sweep_once-swept-requires : goal.sweep_once-swept-requires
sweep_once-swept-requires g c = (record { graph = c.requires.0.graph; size = c.loop-left.invariant.0 ∙ c.requires.0.size }, omega arith)

pub returns-then-swept-left : goal.returns-then-swept-left
returns-then-swept-left g c = record { finished = (sym (sweeps_stop _ _ _ _ c.loop-left.invariant.2.0 c.sweep_once-swept.ensures.swept.0 c.if-swept-left.true) ∙ c.loop-left.invariant.2.2, omega arith) }

pub loop-left-preserved : goal.loop-left-preserved
loop-left-preserved g c = (c.sweep_once-swept.auto.state ∙ c.loop-left.invariant.0, omega arith, (c.loop-left.invariant.2.0 - 1, omega arith, sym (sweeps_go _ _ _ _ c.loop-left.invariant.2.0 (omega arith) c.sweep_once-swept.ensures.swept.0 c.if-swept-left.false) ∙ c.loop-left.invariant.2.2))
