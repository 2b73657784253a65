-- `divide` answers `quotient`: a divisor that is not 0 has a magnitude, and the sign comes with the signs of both.
-- Assumes nothing.
use Rattle.std.proofs.Common.{◌∙◌}
use Rattle.word.proofs.Signs.{divisor, signs_alike, signs_apart}
use Rattle.word.proofs.divide.Goals as goal

pub returns-then-y-eq0 : goal.returns-then-y-eq0
returns-then-y-eq0 c = record { answer = rw c.if-y-eq0.true }

pub nonzero_div-q : goal.nonzero_div-q
nonzero_div-q c = divisor c.args.y c.if-y-eq0.false c.magnitude-2.ensures.answer

pub returns-then-is_negative : goal.returns-then-is_negative
returns-then-is_negative c = record {
  answer =
      signs_alike c.args.x c.args.y c.if-y-eq0.false
      c.is_negative.ensures.answer c.is_negative-2.ensures.answer
      c.magnitude.ensures.answer c.magnitude-2.ensures.answer c.if-is_negative.true;
}

pub returns : goal.returns
returns c = record {
  answer =
      c.negate.ensures.answer ∙
      signs_apart c.args.x c.args.y c.if-y-eq0.false
      c.is_negative.ensures.answer c.is_negative-2.ensures.answer
      c.magnitude.ensures.answer c.magnitude-2.ensures.answer c.if-is_negative.false;
}
