use Rattle.run.specs.Entry.{at}
use Rattle.state.specs.Run.{sweeps, finish}
use Rattle.state.specs.Net.{net_of}
use Rattle.graph.specs.Graph.{node_count}
use lib.ListN.{length}
use mathlib.Core.Path.{◌≡◌}
use Prim.Native.Nat.{ℕ, suc, ◌≤◌}
use Rattle.traced.proofs.sweep_all.Given as goal

abbrev pub invariant-loop-left : goal.invariant-loop-left
invariant-loop-left g l = (length l.state ≡ length l.initial.state) × (l.left ≤ l.given) × ((f : ℕ) × (l.left ≤ f) × (sweeps (net_of l.graph) (suc f) (node_count l.graph) (at l.state l.left) ≡ finish (net_of l.graph) (node_count l.graph) (at l.initial.state l.given)))

abbrev pub decreases-loop-left : goal.decreases-loop-left
decreases-loop-left g l = l.left
