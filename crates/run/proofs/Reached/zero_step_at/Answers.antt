-- `run::zero_step_at` meets its contract. Assumes nothing.
use Rattle.run.proofs.Ends.{not_stream, no_kind_no_stream, other_kind, other_phase, stalled_stream}
use Rattle.firing.proofs.Fired.{placed_within}
use Rattle.firing.proofs.Waiting.{kind_is}
use Rattle.machine.proofs.Answers.{placed}
use Rattle.graph.specs.Accepted.{accepted}
use Rattle.std.proofs.Common.{sym, ap, ◌∙◌}
use Rattle.step.specs.Named.{read_kind}
use native.Mathlib.Omega.{arith}
use Rattle.run.proofs.Reached.zero_step_at.Goals as goal

pub row_of-row-requires : goal.row_of-row-requires
row_of-row-requires c = ((accepted _ c.args.self.now.accepted).shape, c.requires)

pub returns-in_default : goal.returns-in_default
returns-in_default c = record { answer = other_kind _ _ _ c.requires _ c.row_of-row.ensures.row (not_stream _ c.in_default.in_default-own.refused-1.1 c.in_default.ensures _ _ _ _ _ _) }

pub returns-in_default-2 : goal.returns-in_default-2
returns-in_default-2 c = record { answer = other_kind _ _ _ c.requires _ c.row_of-row.ensures.row (no_kind_no_stream (sym (ap read_kind c.in_default.is) ∙ c.try_from.ensures) _ _ _ _ _ _) }

pub bounds-self-1 : goal.bounds-self-1
bounds-self-1 c = let a = (accepted _ c.args.self.now.accepted).shape in omega arith

pub returns-then-own-ne0 : goal.returns-then-own-ne0
returns-then-own-ne0 c = record { answer = other_phase _ _ _ c.requires _ c.row_of-row.ensures.row _ c.wide-wires.ensures.0 c.record_at-own.ensures.record (kind_is _ c.in-Ok-Stream.ensures c.in-Ok-Stream.field-0-is) c.if-own-ne0.true }

pub see-requires : goal.see-requires
see-requires c = placed_within _ _ _ c.row_of-row.ensures.row _ (placed _ _ _ c.args.self.now.accepted c.args.self.now.whole c.requires)

pub returns : goal.returns
returns c = record { answer = stalled_stream _ _ _ c.requires _ c.row_of-row.ensures.row _ c.wide-wires.ensures.0 c.record_at-own.ensures.record (kind_is _ c.in-Ok-Stream.ensures c.in-Ok-Stream.field-0-is) c.if-own-ne0.false c.see.ensures.seen c.stalled.ensures.answer }
