use Prim.Native.Nat.{ℕ, ◌*◌, ◌<◌, ◌≤◌}
use mathlib.Core.Path.{◌≡◌}
use lib.ListN.{get_or}
use Rattle.graph.specs.Below.{total}
use Rattle.forking.specs.Forked.{nodes_by, wires_by, free_of}
use Rattle.forking.specs.Tallied.{Below}
use Rattle.forking.proofs.note_free.Given as goal

abbrev pub invariant-loop-w : goal.invariant-loop-w
invariant-loop-w l = (l.nodes ≡ total (nodes_by l.count) l.w) × (l.added ≡ total (wires_by l.count) l.w) × (l.nodes ≤ 40000 * l.w) × (l.added ≤ 80000 * l.w) × ((p : ℕ) → p < l.w → get_or l.free p 0 ≡ free_of l.count l.wires p) × Below 700000000 l.free
