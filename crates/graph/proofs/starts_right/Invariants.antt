use Prim.Native.Nat.{◌-◌, ◌≤◌}
use mathlib.Core.Path.{◌≡◌}
use Rattle.graph.specs.Below.{every_from, every}
use Rattle.graph.specs.Graph.{start_count, inputs_before}
use Rattle.graph.specs.Refusal.{start_right}
use Rattle.graph.proofs.starts_right.Given as goal

abbrev pub invariant-loop-k : goal.invariant-loop-k
invariant-loop-k l = (l.k ≤ l.starts) × (l.inputs ≡ inputs_before l.graph l.k) × (l.inputs ≤ l.k) × (every_from (l.starts - l.k) l.k (start_right l.graph) ≡ every (start_count l.graph) (start_right l.graph))
