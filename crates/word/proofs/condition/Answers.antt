-- `condition` answers its definition: one need for each code of the list, and one for the codes beyond it. Words with their sign bits turned
-- are ordered as the values are.
-- Assumes nothing.
use Rattle.std.proofs.Common.{sym, ap, ◌∙◌, arith}
use Rattle.word.specs.Laws.{condition_beyond}
use Rattle.word.specs.Words.{flag, condition}
use Rattle.word.proofs.Signs.{below_found, at_most_found}
use Rattle.word.proofs.condition.Goals as goal

pub returns-in-0 : goal.returns-in-0
unfolding condition
returns-in-0 c = record {
  answer = let a = c.args in
      rw c.in-0.is (c.flag_of.ensures.answer ∙ ap flag (below_found a.x a.y (omega arith) (omega arith) c.turned-a.ensures.answer c.turned-b.ensures.answer));
}

pub returns-in-1 : goal.returns-in-1
unfolding condition
returns-in-1 c = record {
  answer = let a = c.args in
      rw c.in-1.is (c.flag_of-in-1.ensures.answer ∙ ap flag (at_most_found a.x a.y (omega arith) (omega arith) c.turned-a.ensures.answer c.turned-b.ensures.answer));
}

pub returns-in-2 : goal.returns-in-2
unfolding condition
returns-in-2 c = record {
  answer = let a = c.args in
      rw c.in-2.is (c.flag_of-in-2.ensures.answer ∙ ap flag (below_found a.y a.x (omega arith) (omega arith) c.turned-b.ensures.answer c.turned-a.ensures.answer));
}

pub returns-in-3 : goal.returns-in-3
unfolding condition
returns-in-3 c = record {
  answer = let a = c.args in
      rw c.in-3.is (c.flag_of-in-3.ensures.answer ∙ ap flag (at_most_found a.y a.x (omega arith) (omega arith) c.turned-b.ensures.answer c.turned-a.ensures.answer));
}

pub returns-in-4 : goal.returns-in-4
unfolding condition
returns-in-4 c = record { answer = rw c.in-4.is c.flag_of-in-4.ensures.answer }

pub returns-in_default : goal.returns-in_default
returns-in_default c = record { answer = let a = c.args in sym (condition_beyond a.code a.x a.y (omega arith)) }
