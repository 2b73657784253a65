-- `run::is_complete` meets its contract. Assumes nothing.
use Rattle.std.proofs.Common.{sym, ◌∙◌}
use Rattle.run.proofs.Ends.{true_not_false, complete_all, others_not, results_not}
use Rattle.run.proofs.Reached.is_complete.Goals as goal
use Rattle.run.proofs.Reached.is_complete.Goals.{then-results_full, else-results_full}

pub returns-then-others_empty : goal.returns-then-others_empty
returns-then-others_empty c =
    elim c.if-results_full.branch [
      | then-results_full w ↦ record { answer = complete_all _ _ c.results_full.ensures.answer w.if-results_full.true w.others_empty.ensures.answer (sym w.value-is ∙ c.if-others_empty.true) c.phases_zero.ensures.answer }
      | else-results_full w ↦ absurd (true_not_false (sym c.if-others_empty.true ∙ w.value-is ∙ w.if-results_full.false))
    ]

pub returns-else-others_empty : goal.returns-else-others_empty
returns-else-others_empty c =
    elim c.if-results_full.branch [
      | then-results_full w ↦ record { answer = c.if-others_empty.false ∙ others_not _ _ c.results_full.ensures.answer w.if-results_full.true w.others_empty.ensures.answer (sym w.value-is ∙ c.if-others_empty.false) }
      | else-results_full w ↦ record { answer = c.if-others_empty.false ∙ results_not _ _ c.results_full.ensures.answer w.if-results_full.false }
    ]
