-- `machine::load` meets its contract. Assumes nothing.
use Rattle.std.specs.Prelude.{⊤, Result}
use Rattle.std.proofs.Common.{subst}
use Rattle.refusal.specs.Numbers.{answer_number}
use Rattle.refusal.specs.declared.Refusal.{Refusal}
use Rattle.machine.specs.Entries.{LoadAnswer}
use Rattle.machine.proofs.Answers.{passed_on}
use Rattle.machine.proofs.Loading.{load_graph, load_state_lem, load_inputs, load_done}
use mathlib.Core.Path.{sym, ◌∙◌}
use Rattle.machine.proofs.load.Goals as goal

pub returns-in_err-check_graph : goal.returns-in_err-check_graph
returns-in_err-check_graph c = record { answer = subst (λ (r : Result ⊤ Refusal). LoadAnswer c.args.graph.now c.args.inputs.now c.args.state.now (answer_number r) c.args.state.now) (sym (passed_on _ _ c.from_residual.ensures.1)) (load_graph _ _ _ c.check_graph.ensures.answer _ c.in_err-check_graph.was) }

pub returns-then-state-state_length : goal.returns-then-state-state_length
returns-then-state-state_length c = record { answer = load_state_lem _ _ _ (sym c.in_ok-check_graph.ensures.answer) (λ e. c.if-state-state_length.true (e ∙ sym c.state_length.ensures.answer)) }

pub returns-then-inputs-input_count : goal.returns-then-inputs-input_count
returns-then-inputs-input_count c = record { answer = load_inputs _ _ _ (sym c.in_ok-check_graph.ensures.answer) (c.if-state-state_length.false ∙ c.state_length.ensures.answer) (λ e. c.if-inputs-input_count.true (e ∙ sym c.input_count.ensures.answer)) }

pub fill-requires : goal.fill-requires
fill-requires c = c.if-state-state_length.false ∙ c.state_length.ensures.answer

pub returns : goal.returns
returns c = record { answer = load_done _ _ _ (sym c.in_ok-check_graph.ensures.answer) (c.if-state-state_length.false ∙ c.state_length.ensures.answer) (c.if-inputs-input_count.false ∙ c.input_count.ensures.answer) c.fill.ensures.state }
