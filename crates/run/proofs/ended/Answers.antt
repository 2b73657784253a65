-- `run::ended` meets its contract. Assumes nothing.
use Rattle.run.proofs.Ends.{ended_spent, ended_complete, ended_zero, ended_stranded}
use native.Mathlib.Omega.{arith}
use Rattle.run.proofs.ended.Goals as goal

pub returns-then-not-none_ready : goal.returns-then-not-none_ready
returns-then-not-none_ready c = record { answer = ended_spent c.args.graph.now c.args.state.now c.args.firings c.none_ready.ensures.answer c.if-not-none_ready.true }

pub returns-then-is_complete : goal.returns-then-is_complete
returns-then-is_complete c = record { answer = ended_complete c.args.graph.now c.args.state.now c.args.firings c.none_ready.ensures.answer c.if-not-none_ready.false c.is_complete.ensures.answer c.if-is_complete.true }

pub returns-in-Some : goal.returns-in-Some
returns-in-Some c = record { answer = ended_zero c.args.graph.now c.args.state.now c.args.firings c.none_ready.ensures.answer c.if-not-none_ready.false c.is_complete.ensures.answer c.if-is_complete.false c.in-Some.ensures.answer c.in-Some.ensures.below }

pub returns-in-None : goal.returns-in-None
returns-in-None c = record { answer = ended_stranded c.args.graph.now c.args.state.now c.args.firings c.none_ready.ensures.answer c.if-not-none_ready.false c.is_complete.ensures.answer c.if-is_complete.false c.in-None.ensures.answer (omega arith) }
