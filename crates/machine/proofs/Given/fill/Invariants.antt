use Rattle.state.specs.Loaded.{loaded_at}
use lib.ListN.{get_or, length}
use mathlib.Core.Path.{◌≡◌}
use Prim.Native.Nat.{ℕ, ◌≤◌, ◌<◌}
use Rattle.machine.proofs.Given.fill.Given as goal

abbrev pub invariant-loop-j : goal.invariant-loop-j
invariant-loop-j l = (l.j ≤ length l.state) × (length l.state ≡ length l.initial.state) × ((p : ℕ) → p < l.j → get_or l.state p 0 ≡ loaded_at l.self.graph.now l.self.inputs.now p)
