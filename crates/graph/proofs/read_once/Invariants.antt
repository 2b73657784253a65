use Prim.Native.Nat.{◌-◌, ◌≤◌}
use mathlib.Core.Path.{◌≡◌}
use Rattle.graph.specs.Below.{every_from}
use Rattle.graph.specs.Refusal.{once_read, read_once}
use Rattle.graph.proofs.read_once.Given as goal

abbrev pub invariant-loop-w : goal.invariant-loop-w
invariant-loop-w l = (l.w ≤ l.wires) × (every_from (l.wires - l.w) l.w (once_read l.graph) ≡ read_once l.graph)
