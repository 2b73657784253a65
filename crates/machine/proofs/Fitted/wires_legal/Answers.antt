-- `machine::wires_legal` meets its contract. Assumes nothing.
use Rattle.graph.specs.Accepted.{accepted}
use Rattle.machine.proofs.Records.{wire_legal_is}
use Rattle.graph.specs.Enough.{rows_right_lem}
use Rattle.graph.specs.Below.{every_go, every_stop, every_end}
use native.Mathlib.Omega.{arith}
use mathlib.Core.Path.{sym, ◌∙◌}
use Rattle.machine.proofs.Fitted.wires_legal.Goals as goal

pub wire_sorts-sorts-requires : goal.wire_sorts-sorts-requires
wire_sorts-sorts-requires c = ((accepted _ c.args.self.now.accepted).shape, rows_right_lem _ (accepted _ c.args.self.now.accepted))

pub loop-w-preserved : goal.loop-w-preserved
loop-w-preserved c = (omega arith, c.loop-w.invariant.1, sym (every_go _ _ _ c.loop-w-test.true (wire_legal_is _ _ _ _ (c.wire_sorts-sorts.ensures c.loop-w.w) c.token_legal.ensures.answer) c.if-not-token_legal.false) ∙ c.loop-w.invariant.2)

pub returns-then-not-token_legal : goal.returns-then-not-token_legal
returns-then-not-token_legal c = record { answer = sym (sym c.loop-w.invariant.2 ∙ every_stop _ _ _ c.loop-w-test.true (wire_legal_is _ _ _ _ (c.wire_sorts-sorts.ensures c.loop-w.w) c.token_legal.ensures.answer) c.if-not-token_legal.true) }

pub returns : goal.returns
returns c = record { answer = sym (every_end _ _ _ c.loop-w-test.false) ∙ c.loop-w.invariant.2 }

pub bounds-self-1 : goal.bounds-self-1
bounds-self-1 c = let a = (accepted _ c.args.self.now.accepted).shape in omega arith

pub bounds-sorts-w : goal.bounds-sorts-w
bounds-sorts-w c = let a = (accepted _ c.args.self.now.accepted).shape in omega arith
