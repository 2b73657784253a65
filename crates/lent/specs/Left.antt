-- The record after one firing.
--
--   left_by          the effect's `next`, or the record as it was where there is no effect
--
-- Assumes nothing.
use Rattle.std.proofs.Math.Option.{Option, none, some}
use Rattle.step.specs.Firing.{Effect}
use Rattle.step.specs.declared.Record.{Record}

abbrev pub left_by : Option Effect → Record → Record
left_by none r = r
left_by (some e) r = e.next
