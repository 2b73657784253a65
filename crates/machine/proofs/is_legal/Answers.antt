-- `machine::is_legal` meets its contract. Assumes nothing.
use Rattle.machine.proofs.Answers.{legal_nodes, legal_wires_not, legal_length_not}
use mathlib.Core.Path.{sym, ◌∙◌}
use Rattle.machine.proofs.is_legal.Goals as goal

pub returns-then-state-state_length : goal.returns-then-state-state_length
returns-then-state-state_length c = record { answer = legal_length_not _ _ (λ e. c.if-state-state_length.true (e ∙ sym c.state_length.ensures.answer)) }

pub returns-then-wires_legal : goal.returns-then-wires_legal
returns-then-wires_legal c = record { answer = legal_nodes _ _ (c.if-state-state_length.false ∙ c.state_length.ensures.answer) c.wires_legal.ensures.answer c.if-wires_legal.true c.nodes_legal.ensures.answer }

pub returns-else-wires_legal : goal.returns-else-wires_legal
returns-else-wires_legal c = record { answer = c.if-wires_legal.false ∙ legal_wires_not _ _ (c.if-state-state_length.false ∙ c.state_length.ensures.answer) c.wires_legal.ensures.answer c.if-wires_legal.false }
