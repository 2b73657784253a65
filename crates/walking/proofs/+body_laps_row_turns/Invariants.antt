-- The one proof of the cycle. A measure is made of the loops that are open before the row: there is room for eight.
use Prim.Native.Nat.{suc, ◌+◌, ◌-◌, ◌*◌, ◌≤◌}
use lib.ListN.{length}
use Rattle.structure.specs.Behind.{loops_at}
use Rattle.walking.specs.Walks.{Moves, Walk}
use Rattle.walking.proofs.+body_laps_row_turns.Given as goal

abbrev pub decreases-body : goal.decreases-body
decreases-body l = 4 * (8 - length (loops_at l.loops.now.rows.table.now l.from)) + 1

abbrev pub decreases-laps : goal.decreases-laps
decreases-laps l = 4 * (8 - suc (length (loops_at l.loops.now.rows.table.now l.l))) + 3

abbrev pub decreases-row : goal.decreases-row
decreases-row l = 4 * (8 - length (loops_at l.loops.now.rows.table.now l.i))

abbrev pub decreases-turns : goal.decreases-turns
decreases-turns l = 4 * (8 - suc (length (loops_at l.loops.now.rows.table.now l.l.now.row))) + 2

abbrev pub invariant-body-loop-i : goal.invariant-body-loop-i
invariant-body-loop-i l = Walk l.loops.rows.table.now l.from l.initial.words l.allow l.i l.left l.words

abbrev pub decreases-body-loop-i : goal.decreases-body-loop-i
decreases-body-loop-i l = l.loops.rows.size - l.i

abbrev pub invariant-turns-loop-end : goal.invariant-turns-loop-end
invariant-turns-loop-end l =
    Moves l.loops.rows.table.now l.l.first l.initial.words l.allow l.l.first l.left l.words × (l.left ≤ l.allow)

abbrev pub decreases-turns-loop-end : goal.decreases-turns-loop-end
decreases-turns-loop-end l = l.left
