use Rattle.graph.specs.Graph.{start_count, inputs_before}
use mathlib.Core.Path.{◌≡◌}
use Prim.Native.Nat.{◌≤◌}
use Rattle.machine.proofs.input_count.Given as goal

abbrev pub invariant-loop-k : goal.invariant-loop-k
invariant-loop-k l = (l.k ≤ l.starts) × (l.starts ≡ start_count l.graph) × (l.inputs ≡ inputs_before l.graph l.k)
