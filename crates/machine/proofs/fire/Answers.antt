-- `machine::fire` meets its contract. Assumes nothing.
use Rattle.std.specs.Prelude.{Result}
use Rattle.std.proofs.Common.{subst}
use Rattle.refusal.specs.declared.Refusal.{Refusal}
use Rattle.machine.specs.declared.Fired.{Fired}
use Rattle.machine.specs.Entries.{FireAnswer}
use Rattle.machine.proofs.Answers.{passed_on}
use Rattle.machine.proofs.Answers.{state_known, legal_length, placed, fire_state_lem, fire_order, fire_done, fire_waits}
use Rattle.graph.specs.Accepted.{accepted}
use native.Mathlib.Omega.{arith}
use mathlib.Core.Path.{sym}
use Rattle.machine.proofs.fire.Goals as goal

pub returns-in_err-check_state : goal.returns-in_err-check_state
returns-in_err-check_state c = record { answer = subst (λ (r : Result Fired Refusal). FireAnswer c.args.graph.now c.args.state.now c.args.node r c.args.state.now) (sym (passed_on _ _ c.from_residual.ensures.1)) (fire_state_lem _ _ _ c.check_state.ensures.answer _ c.in_err-check_state.was) }

pub bounds-graph-0 : goal.bounds-graph-0
bounds-graph-0 c = let a = (accepted _ (state_known _ _ (sym c.in_ok-check_state.ensures.answer)).0).shape in omega arith

pub returns-then-nodes-node : goal.returns-then-nodes-node
returns-then-nodes-node c = record { answer = fire_order _ _ _ (sym c.in_ok-check_state.ensures.answer) (let e = c.wide-nodes.ensures.0 in omega arith) }

pub fire_node-requires : goal.fire_node-requires
fire_node-requires c = let p = state_known _ _ (sym c.in_ok-check_state.ensures.answer) in placed _ _ _ p.0 (legal_length _ _ p.1) (let e = c.wide-nodes.ensures.0 in omega arith)

pub returns-then-fire_node : goal.returns-then-fire_node
returns-then-fire_node c = record { answer = fire_done _ _ _ (sym c.in_ok-check_state.ensures.answer) (let e = c.wide-nodes.ensures.0 in omega arith) c.fire_node.ensures.fired c.if-fire_node.true }

pub returns : goal.returns
returns c = record { answer = fire_waits _ _ _ (sym c.in_ok-check_state.ensures.answer) (let e = c.wide-nodes.ensures.0 in omega arith) c.fire_node.ensures.fired c.if-fire_node.false }
