use Rattle.run.specs.Entry.{other_empty}
use Rattle.graph.specs.Graph.{wire_count}
use Rattle.graph.specs.Below.{every_from, every}
use mathlib.Core.Path.{◌≡◌}
use Prim.Native.Nat.{◌-◌, ◌≤◌}
use Rattle.run.proofs.Reached.others_empty.Given as goal

abbrev pub invariant-loop-w : goal.invariant-loop-w
invariant-loop-w l = (l.w ≤ l.wires) × (l.wires ≡ wire_count l.self.graph.now) × (every_from (l.wires - l.w) l.w (other_empty l.self.graph.now l.self.state.now) ≡ every (wire_count l.self.graph.now) (other_empty l.self.graph.now l.self.state.now))
