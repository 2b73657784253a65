-- `shift_right` answers `shift_right`: a negative word's complement is shifted and turned back.
-- Assumes nothing.
use Rattle.std.proofs.Common.{ℕ, ◌-◌, ap, ◌∙◌}
use Rattle.word.proofs.Signs.{shift_positive, shift_negative}
use Rattle.word.proofs.shift_right.Goals as goal

pub returns-then-is_negative : goal.returns-then-is_negative
returns-then-is_negative c = record {
  answer =
      ap (λ (k : ℕ). 4294967295 - k) c.shift_down.ensures.answer ∙ shift_negative c.args.x _ c.is_negative.ensures.answer c.if-is_negative.true;
}

pub returns : goal.returns
returns c = record {
  answer =
      c.shift_down-2.ensures.answer ∙ shift_positive c.args.x _ c.is_negative.ensures.answer c.if-is_negative.false;
}
