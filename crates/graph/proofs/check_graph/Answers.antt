-- `graph::check_graph` meets its contract. Each early return is the first test that fails; a test that holds gives the next one what it requires.
-- Assumes nothing.
use mathlib.Core.Path.{sym, ◌∙◌}
use Rattle.graph.specs.Refusal.{graph_refusal, shaped}
use Rattle.graph.proofs.check_graph.Goals as goal

pub returns-then-not-has_shape : goal.returns-then-not-has_shape
unfolding graph_refusal
returns-then-not-has_shape c = record { answer = rw (← c.has_shape.ensures, c.if-not-has_shape.true) }

pub rows_right-requires : goal.rows_right-requires
rows_right-requires c = shaped _ (sym c.has_shape.ensures ∙ c.if-not-has_shape.false)

pub returns-then-not-rows_right : goal.returns-then-not-rows_right
unfolding graph_refusal
returns-then-not-rows_right c = record { answer = rw (← c.has_shape.ensures, c.if-not-has_shape.false, ← c.rows_right.ensures, c.if-not-rows_right.true) }

pub wires_below-requires : goal.wires_below-requires
wires_below-requires c = shaped _ (sym c.has_shape.ensures ∙ c.if-not-has_shape.false)

pub returns-then-not-wires_below : goal.returns-then-not-wires_below
unfolding graph_refusal
returns-then-not-wires_below c = record { answer = rw (← c.has_shape.ensures, c.if-not-has_shape.false, ← c.rows_right.ensures, c.if-not-rows_right.false, ← c.wires_below.ensures, c.if-not-wires_below.true) }

pub read_once-requires : goal.read_once-requires
read_once-requires c = (shaped _ (sym c.has_shape.ensures ∙ c.if-not-has_shape.false), sym c.wires_below.ensures ∙ c.if-not-wires_below.false)

pub returns-then-not-read_once : goal.returns-then-not-read_once
unfolding graph_refusal
returns-then-not-read_once c = record { answer = rw (← c.has_shape.ensures, c.if-not-has_shape.false, ← c.rows_right.ensures, c.if-not-rows_right.false, ← c.wires_below.ensures, c.if-not-wires_below.false, ← c.read_once.ensures, c.if-not-read_once.true) }

pub sorts_agree-requires : goal.sorts_agree-requires
sorts_agree-requires c = (shaped _ (sym c.has_shape.ensures ∙ c.if-not-has_shape.false), sym c.rows_right.ensures ∙ c.if-not-rows_right.false, sym c.wires_below.ensures ∙ c.if-not-wires_below.false)

pub returns-then-not-sorts_agree : goal.returns-then-not-sorts_agree
unfolding graph_refusal
returns-then-not-sorts_agree c = record { answer = rw (← c.has_shape.ensures, c.if-not-has_shape.false, ← c.rows_right.ensures, c.if-not-rows_right.false, ← c.wires_below.ensures, c.if-not-wires_below.false, ← c.read_once.ensures, c.if-not-read_once.false, ← c.sorts_agree.ensures, c.if-not-sorts_agree.true) }

pub returns : goal.returns
unfolding graph_refusal
returns c = record { answer = rw (← c.has_shape.ensures, c.if-not-has_shape.false, ← c.rows_right.ensures, c.if-not-rows_right.false, ← c.wires_below.ensures, c.if-not-wires_below.false, ← c.read_once.ensures, c.if-not-read_once.false, ← c.sorts_agree.ensures, c.if-not-sorts_agree.false) }
