-- A node that waits, told before its firing is worked out: by kind and phase, an input that it cannot fire without is empty, or an output that
-- it cannot fire without is full.
--
--   waits_on                   the test, by kind and phase, from which inputs are empty and whether the first output has room
--   empty_at                   a wire is empty, named by the place of its number among the graph's words
--   waiting, waiting_at        the same of a view; of what stands in a row, where a number that is no kind always waits
--
-- A node that waits is not ready: `waiting_is_not_ready` of proofs/NotReady.antt. The converse does not hold: not every input and output is looked
-- at, nor any word.
-- Assumes nothing.
use Rattle.std.specs.Prelude.{ℕ, zero, suc, Bool, true, false, not, ◌||◌, List, get_or}
use Rattle.std.proofs.Math.Option.{Option, none, some}
use Rattle.step.specs.Kinds.{Kind, STREAM, GATE, CARRY, INVARIANT, SPLIT, FORK, DRAIN, OP, PICK}
use Rattle.step.specs.Firing.{View}
use Rattle.graph.specs.Graph.{Node}
use Rattle.state.specs.State.{is_empty, full_place}

-- `a`, `b` and `c`: the inputs are empty; `o`: the first output has room
abbrev pub waits_on : Kind → ℕ → Bool → Bool → Bool → Bool → Bool
waits_on STREAM zero a b c o = a
waits_on STREAM (suc p) a b c o = not o
waits_on GATE p a b c o = a || b
waits_on CARRY zero a b c o = b
waits_on CARRY (suc zero) a b c o = a
waits_on CARRY (suc (suc p)) a b c o = c
waits_on INVARIANT zero a b c o = b
waits_on INVARIANT (suc p) a b c o = a
waits_on SPLIT p a b c o = a || b
waits_on FORK p a b c o = a || not o
waits_on DRAIN p a b c o = a
waits_on OP p a b c o = a || b
waits_on PICK p a b c o = a || b

-- the wire that stands at place p of the graph's words is empty
abbrev pub empty_at : List ℕ → List ℕ → ℕ → Bool
empty_at g s p = is_empty (get_or s (full_place (get_or g p 0)) 0)

abbrev pub is_none : Option ℕ → Bool
is_none none = true
is_none (some x) = false

abbrev pub waiting : Kind → View → Bool
waiting κ v = waits_on κ v.own.phase (is_none v.word0) (is_none v.word1) (is_none v.word2) v.room0

abbrev pub waiting_at : Option Node → View → Bool
waiting_at none v = true
waiting_at (some nd) v = waiting nd.kind v
