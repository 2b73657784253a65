use Prim.Native.Nat.{◌*◌, ◌≤◌}
use mathlib.Core.Path.{◌≡◌}
use Rattle.counting.specs.Idle.{row_uses, row_idle}
use Rattle.graph.specs.Below.{total}
use Rattle.counting.proofs.sum_rows.Given as goal

abbrev pub invariant-loop-r : goal.invariant-loop-r
invariant-loop-r l = (l.uses ≡ total (row_uses l.notes.passed.words.now) l.r) × (l.idle ≡ total (row_idle l.notes.passed.words.now) l.r) × (l.uses ≤ 3000 * l.r) × (l.idle ≤ 3000 * l.r)
