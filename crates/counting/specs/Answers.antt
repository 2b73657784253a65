-- What count_table answers: the counts of the graph of a table that passes 1 to 9, in its limits or not. Another table counts nothing.
-- Main names: `count_answer`, `room_by_counts`.
-- Assumes nothing.
use Rattle.std.specs.Prelude.{ℕ, ◌≡◌, refl, Bool, cond, ◌&&◌, List, eqb, leb}
use Rattle.table.specs.Check.{table_refusal}
use Rattle.lowered.specs.Lower.{node_total, wire_total, start_total, result_total}
use Rattle.lowered.specs.Room.{in_limits}

pub record Counts : Type 0 where
  pub nodes : ℕ
  pub wires : ℕ
  pub starts : ℕ
  pub results : ℕ

abbrev pub counts : ℕ → ℕ → ℕ → ℕ → Counts
counts n w s r = record { nodes = n; wires = w; starts = s; results = r }

-- A `let` waits, so nothing is counted before the table has passed.
unfoldable pub count_answer : List ℕ → Counts
count_answer t =
    let all : Counts = counts (node_total t) (wire_total t) (start_total t) (result_total t) in
    cond (eqb (table_refusal t).number 0) all (counts 0 0 0 0)

-- the counts are in their limits
unfoldable pub counts_fit : Counts → Bool
counts_fit c = leb c.nodes 4096 && (leb c.wires 8192 && (leb c.starts 512 && leb c.results 512))

-- THERE IS ROOM EXACTLY IF THE COUNTS ARE IN THEIR LIMITS
pub room_by_counts : (t : List ℕ) → in_limits t ≡ counts_fit (counts (node_total t) (wire_total t) (start_total t) (result_total t))
unfolding in_limits counts_fit
room_by_counts t = refl
