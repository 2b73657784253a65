-- `update` answers its definition: one need for each code of the list, and one for the codes beyond it.
-- Assumes nothing.
use Rattle.std.proofs.Common.{sym, arith}
use Rattle.word.specs.Laws.{update_beyond}
use Rattle.word.specs.Words.{update}
use Rattle.word.proofs.update.Goals as goal

pub returns-in-0 : goal.returns-in-0
unfolding update
returns-in-0 c = record { answer = rw c.in-0.is c.add.ensures.answer }

pub returns-in-1 : goal.returns-in-1
unfolding update
returns-in-1 c = record { answer = rw c.in-1.is c.subtract.ensures.answer }

pub returns-in-2 : goal.returns-in-2
unfolding update
returns-in-2 c = record { answer = rw c.in-2.is c.multiply.ensures.answer }

pub returns-in-3 : goal.returns-in-3
unfolding update
returns-in-3 c = record { answer = rw c.in-3.is c.divide.ensures.answer }

pub returns-in-4 : goal.returns-in-4
unfolding update
returns-in-4 c = record { answer = rw c.in-4.is c.shift_left.ensures.answer }

pub returns-in-5 : goal.returns-in-5
unfolding update
returns-in-5 c = record { answer = rw c.in-5.is c.shift_right.ensures.answer }

pub returns-in_default : goal.returns-in_default
returns-in_default c = record { answer = let a = c.args in sym (update_beyond a.code a.index a.step (omega arith)) }
