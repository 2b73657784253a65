-- `step::is_ready` meets its contract. Each `&&` is one of the definition's. Assumes nothing.
use Rattle.std.specs.Prelude.{◌≡◌, false, ◌&&◌, get_or, None, is_some}
use Rattle.std.proofs.Common.{refl, ap, ◌∙◌}
use Rattle.step.specs.Shown.{unless}
use Rattle.step.proofs.Laws.{both_asked, first_fails, ready_is}
use Rattle.step.proofs.is_ready.Goals as goal
use Rattle.step.proofs.is_ready.Goals.{then-fit, else-fit, then-fit-2, else-fit-2, then-fit-3, else-fit-3}

pub returns-then-fit-4 : goal.returns-then-fit-4
returns-then-fit-4 c =
    let u0 : c.fit.result ≡ unless (get_or c.args.act.takes 0 false) (is_some (get_or c.args.seen.inputs 0 None)) = c.fit.ensures.answer ∙ ap (unless _) c.is_some.ensures in
    let u1 : c.if-fit.value ≡ (c.fit.result && unless (get_or c.args.act.takes 1 false) (is_some (get_or c.args.seen.inputs 1 None))) =
    elim c.if-fit.branch [
      | then-fit w ↦ both_asked _ w.if-fit.true (w.value-is ∙ w.fit-then-fit.ensures.answer ∙ ap (unless _) w.is_some-then-fit.ensures)
      | else-fit w ↦ first_fails _ w.if-fit.false w.value-is
    ] in
    let u2 : c.if-fit-2.value ≡ (c.if-fit.value && unless (get_or c.args.act.takes 2 false) (is_some (get_or c.args.seen.inputs 2 None))) =
    elim c.if-fit-2.branch [
      | then-fit-2 w ↦ both_asked _ w.if-fit-2.true (w.value-is ∙ w.fit-then-fit-2.ensures.answer ∙ ap (unless _) w.is_some-then-fit-2.ensures)
      | else-fit-2 w ↦ first_fails _ w.if-fit-2.false w.value-is
    ] in
    let u3 : c.if-fit-3.value ≡ (c.if-fit-2.value && unless (is_some (get_or c.args.act.gives 0 None)) (get_or c.args.seen.room 0 false)) =
    elim c.if-fit-3.branch [
      | then-fit-3 w ↦ both_asked _ w.if-fit-3.true (w.value-is ∙ w.fit-then-fit-3.ensures.answer ∙ ap (λ t. unless t _) w.is_some-then-fit-3.ensures)
      | else-fit-3 w ↦ first_fails _ w.if-fit-3.false w.value-is
    ] in
    record { answer = ready_is c.args.seen c.args.act u0 u1 u2 u3 (both_asked _ c.if-fit-4.true (c.fit-then-fit-4.ensures.answer ∙ ap (λ t. unless t (get_or c.args.seen.room 1 false)) c.is_some-then-fit-4.ensures)) }

pub returns-else-fit-4 : goal.returns-else-fit-4
returns-else-fit-4 c =
    let u0 : c.fit.result ≡ unless (get_or c.args.act.takes 0 false) (is_some (get_or c.args.seen.inputs 0 None)) = c.fit.ensures.answer ∙ ap (unless _) c.is_some.ensures in
    let u1 : c.if-fit.value ≡ (c.fit.result && unless (get_or c.args.act.takes 1 false) (is_some (get_or c.args.seen.inputs 1 None))) =
    elim c.if-fit.branch [
      | then-fit w ↦ both_asked _ w.if-fit.true (w.value-is ∙ w.fit-then-fit.ensures.answer ∙ ap (unless _) w.is_some-then-fit.ensures)
      | else-fit w ↦ first_fails _ w.if-fit.false w.value-is
    ] in
    let u2 : c.if-fit-2.value ≡ (c.if-fit.value && unless (get_or c.args.act.takes 2 false) (is_some (get_or c.args.seen.inputs 2 None))) =
    elim c.if-fit-2.branch [
      | then-fit-2 w ↦ both_asked _ w.if-fit-2.true (w.value-is ∙ w.fit-then-fit-2.ensures.answer ∙ ap (unless _) w.is_some-then-fit-2.ensures)
      | else-fit-2 w ↦ first_fails _ w.if-fit-2.false w.value-is
    ] in
    let u3 : c.if-fit-3.value ≡ (c.if-fit-2.value && unless (is_some (get_or c.args.act.gives 0 None)) (get_or c.args.seen.room 0 false)) =
    elim c.if-fit-3.branch [
      | then-fit-3 w ↦ both_asked _ w.if-fit-3.true (w.value-is ∙ w.fit-then-fit-3.ensures.answer ∙ ap (λ t. unless t _) w.is_some-then-fit-3.ensures)
      | else-fit-3 w ↦ first_fails _ w.if-fit-3.false w.value-is
    ] in
    record { answer = ready_is c.args.seen c.args.act u0 u1 u2 u3 (first_fails _ c.if-fit-4.false refl) }
