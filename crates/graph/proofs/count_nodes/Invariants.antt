use Prim.Native.Nat.{◌≤◌}
use mathlib.Core.Path.{◌≡◌}
use Rattle.graph.specs.Below.{joined}
use Rattle.graph.specs.Counted.{counted}
use Rattle.graph.specs.Graph.{node_at, node_reads}
use Rattle.graph.proofs.count_nodes.Given as goal

abbrev pub invariant-loop-i : goal.invariant-loop-i
invariant-loop-i l = (l.i ≤ l.nodes) × (l.seen ≡ counted l.initial.seen (joined (λ j. node_reads (node_at l.graph j)) l.i))
