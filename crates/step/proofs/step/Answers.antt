-- `step::step` meets its contract. What is decided, when it is ready: the laws of `Laws`, over `ready_apart`. Assumes nothing.
use Rattle.std.proofs.Common.{ap, ◌∙◌}
use Rattle.step.specs.Shown.{shown}
use Rattle.step.proofs.Laws.{step_waits, step_fires, step_blocked}
use Rattle.step.proofs.step.Goals as goal

pub returns-in_err-act : goal.returns-in_err-act
returns-in_err-act c = record { firing = ap shown c.from_residual.ensures ∙ step_waits c.args.kind c.args.code c.args.seen c.args.own c.decide.result c.words_of.ensures.words c.decide.ensures.decision c.in_err-act.was }

pub returns-then-is_ready : goal.returns-then-is_ready
returns-then-is_ready c = record { firing = step_fires c.args.kind c.args.code c.args.seen c.args.own c.decide.result c.words_of.ensures.words c.decide.ensures.decision c.in_ok-act.was c.is_ready.ensures.answer c.if-is_ready.true }

pub returns-else-is_ready : goal.returns-else-is_ready
returns-else-is_ready c = record { firing = step_blocked c.args.kind c.args.code c.args.seen c.args.own c.decide.result c.words_of.ensures.words c.decide.ensures.decision c.in_ok-act.was c.is_ready.ensures.answer c.if-is_ready.false }
