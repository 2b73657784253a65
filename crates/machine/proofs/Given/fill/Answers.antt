-- `machine::fill` meets its contract. Assumes nothing.
use Rattle.graph.specs.Accepted.{accepted}
use Rattle.machine.proofs.Loading.{filled_whole}
use native.Mathlib.Omega.{arith}
use mathlib.Core.Path.{◌∙◌}
use Rattle.machine.proofs.Given.fill.Goals as goal

pub returns : goal.returns
returns c = record { state = filled_whole _ _ _ (accepted _ c.args.self.now.accepted) (c.loop-j.invariant.1 ∙ c.requires) (λ p h. c.loop-j.invariant.2 p (omega arith)) }
