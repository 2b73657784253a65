use Prim.Native.Nat.{◌≤◌}
use mathlib.Core.Path.{◌≡◌}
use lib.Seq.{sets}
use Rattle.graph.specs.Below.{joined}
use Rattle.graph.specs.Graph.{start_count, node_at, output_sorts, first_at}
use Rattle.graph.proofs.mark_nodes.Given as goal

abbrev pub invariant-loop-i : goal.invariant-loop-i
invariant-loop-i l = (l.i ≤ l.nodes) × (l.next ≡ first_at l.graph l.i) × (l.sorts ≡ sets l.initial.sorts (start_count l.graph) (joined (λ j. output_sorts (node_at l.graph j)) l.i))
