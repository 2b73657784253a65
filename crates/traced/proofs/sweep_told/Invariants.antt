use Rattle.run.specs.Entry.{at}
use Rattle.state.specs.Run.{sweep_from, sweep}
use Rattle.state.specs.Net.{net_of}
use Rattle.graph.specs.Graph.{node_count}
use lib.ListN.{length}
use mathlib.Core.Path.{◌≡◌}
use Prim.Native.Nat.{◌-◌, ◌≤◌}
use Rattle.traced.proofs.sweep_told.Given as goal

abbrev pub invariant-loop-i : goal.invariant-loop-i
invariant-loop-i g l = (l.i ≤ l.nodes) × (l.nodes ≡ node_count l.graph) × (length l.state ≡ length l.initial.state) × (l.left ≤ l.given) × (sweep_from (net_of l.graph) (l.nodes - l.i) l.i (at l.state l.left) ≡ sweep (net_of l.graph) (node_count l.graph) (at l.initial.state l.given))
