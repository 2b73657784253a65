-- `traced::run_told` meets its contract. Assumes nothing.
use Rattle.std.specs.Prelude.{Result}
use Rattle.std.proofs.Common.{subst}
use Rattle.refusal.specs.declared.Refusal.{Refusal}
use Rattle.run.specs.declared.Ran.{Ran}
use Rattle.run.specs.Numbers.{RunAnswer}
use Rattle.run.proofs.Ends.{below_known, run_state_lem, run_order, run_ends}
use Rattle.machine.proofs.Answers.{state_known, legal_length, passed_on}
use native.Mathlib.Omega.{arith}
use mathlib.Core.Path.{sym, ◌∙◌}
use Rattle.traced.proofs.run_told.Goals as goal

pub returns-in_err-check_state : goal.returns-in_err-check_state
returns-in_err-check_state g c = record { answer = subst (λ (r : Result Ran Refusal). RunAnswer c.args.graph.now c.args.state.now c.args.order.now c.args.allowance r c.args.state.now) (sym (passed_on _ _ c.from_residual.ensures.1)) (run_state_lem _ _ _ _ c.check_state.ensures.answer _ c.in_err-check_state.was) }

pub order_below-requires : goal.order_below-requires
order_below-requires g c = (state_known _ _ (sym c.in_ok-check_state.ensures.answer)).0

pub returns-then-not-order_below : goal.returns-then-not-order_below
returns-then-not-order_below g c = record { answer = run_order _ _ _ _ (sym c.in_ok-check_state.ensures.answer) c.order_below.ensures.answer c.if-not-order_below.true }

pub follow_order-followed-requires : goal.follow_order-followed-requires
follow_order-followed-requires g c = let p = state_known _ _ (sym c.in_ok-check_state.ensures.answer) in (record { graph = p.0; size = legal_length _ _ p.1 }, below_known c.args.graph.now c.args.state.now c.args.order.now c.args.allowance (sym c.order_below.ensures.answer ∙ c.if-not-order_below.false))

pub sweep_all-left-requires : goal.sweep_all-left-requires
sweep_all-left-requires g c = let p = state_known _ _ (sym c.in_ok-check_state.ensures.answer) in (record { graph = p.0; size = c.follow_order-followed.auto.state ∙ legal_length _ _ p.1 }, omega arith)

pub ended-requires : goal.ended-requires
ended-requires g c = let p = state_known _ _ (sym c.in_ok-check_state.ensures.answer) in record { graph = p.0; size = c.sweep_all-left.auto.state ∙ c.follow_order-followed.auto.state ∙ legal_length _ _ p.1 }

pub returns : goal.returns
returns g c = record { answer = run_ends c.args.graph.now c.args.state.now c.args.order.now c.args.allowance (sym c.in_ok-check_state.ensures.answer) c.order_below.ensures.answer c.if-not-order_below.false c.follow_order-followed.ensures.followed.0 c.sweep_all-left.ensures.finished.0 c.ended.ensures.answer }
