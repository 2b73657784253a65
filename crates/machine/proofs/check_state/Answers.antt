-- `machine::check_state` meets its contract. Assumes nothing.
use Rattle.std.proofs.Common.{refl, sym, ap, ◌∙◌}
use Rattle.refusal.specs.Numbers.{answer_number}
use Rattle.machine.proofs.Answers.{passed_on}
use Rattle.machine.proofs.Answers.{state_graph, state_right, state_wrong}
use Rattle.machine.proofs.check_state.Goals as goal

pub returns-in_err-check_graph : goal.returns-in_err-check_graph
returns-in_err-check_graph c = record { answer = ap answer_number (passed_on _ _ c.from_residual.ensures.1) ∙ state_graph _ _ c.check_graph.ensures.answer _ c.in_err-check_graph.was }

pub returns-else-is_legal : goal.returns-else-is_legal
returns-else-is_legal c = record { answer = state_wrong _ _ (sym c.in_ok-check_graph.ensures.answer) c.is_legal.ensures.answer c.if-is_legal.false }

pub returns-then-is_legal : goal.returns-then-is_legal
returns-then-is_legal c = record { answer = state_right _ _ c.in_ok-check_graph.ensures.answer refl c.is_legal.ensures.answer c.if-is_legal.true }
