use Rattle.run.specs.Entry.{at}
use Rattle.state.specs.Run.{follow}
use Rattle.state.specs.Net.{net_of}
use lib.ListN.{length, drop}
use mathlib.Core.Path.{◌≡◌}
use Prim.Native.Nat.{◌≤◌}
use Rattle.traced.proofs.follow_told.Given as goal

abbrev pub invariant-loop-node : goal.invariant-loop-node
invariant-loop-node g l = (l.node-index ≤ length l.order) × (length l.state ≡ length l.initial.state) × (l.left ≤ l.allowance) × (follow (net_of l.graph) (drop l.node-index l.order) (at l.state l.left) ≡ follow (net_of l.graph) l.order (at l.initial.state l.allowance))
