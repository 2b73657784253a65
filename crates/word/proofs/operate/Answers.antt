-- `operate` answers its definition: codes 3 to 7 by `operate_is_condition`, codes beyond 7 by `operate_beyond`.
-- Assumes nothing.
use Rattle.std.proofs.Common.{sym, ◌∙◌, arith}
use Rattle.word.specs.Laws.{operate_is_condition, operate_beyond}
use Rattle.word.specs.Words.{operate}
use Rattle.word.proofs.operate.Goals as goal

pub returns-in-0 : goal.returns-in-0
unfolding operate
returns-in-0 c = record { answer = rw c.in-0.is c.add.ensures.answer }

pub returns-in-1 : goal.returns-in-1
unfolding operate
returns-in-1 c = record { answer = rw c.in-1.is c.subtract.ensures.answer }

pub returns-in-2 : goal.returns-in-2
unfolding operate
returns-in-2 c = record { answer = rw c.in-2.is c.multiply.ensures.answer }

pub returns-in-3-to-7 : goal.returns-in-3-to-7
returns-in-3-to-7 c = record {
  answer = let a = c.args in
      c.condition.ensures.answer ∙ sym (operate_is_condition a.code a.x a.y (omega arith));
}

pub returns-in_default : goal.returns-in_default
returns-in_default c = record { answer = let a = c.args in sym (operate_beyond a.code a.x a.y (omega arith)) }
