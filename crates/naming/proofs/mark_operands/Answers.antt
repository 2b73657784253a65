-- `naming::mark_operands` meets its contract. After j operands these are marked.
-- Assumes nothing.
use mathlib.Core.Path.{subst}
use native.Mathlib.Omega.{arith}
use Rattle.naming.proofs.Inside.{none_marked, mark_more}
use Rattle.naming.specs.Carried.{Marked}
use Rattle.naming.proofs.mark_operands.Goals as goal

pub loop-j-init : goal.loop-j-init
loop-j-init c = none_marked _ _ _ (omega arith)

pub operand_at-v-requires : goal.operand_at-v-requires
operand_at-v-requires c = (c.requires.0, c.requires.1, omega arith)

pub overflow_cast-marks : goal.overflow_cast-marks
overflow_cast-marks c = omega arith

pub offset_bounds-marks-v : goal.offset_bounds-marks-v
offset_bounds-marks-v c = let e = c.operand_at-v.ensures in let h = c.requires.3 c.loop-j.j c.loop-j-test.true in omega arith

pub bounds-marks-v : goal.bounds-marks-v
bounds-marks-v c = let e = c.operand_at-v.ensures in let h = c.requires.3 c.loop-j.j c.loop-j-test.true in let m = c.loop-j.invariant.long in omega arith

pub loop-j-preserved : goal.loop-j-preserved
loop-j-preserved c = let e = c.operand_at-v.ensures in let h = c.requires.3 c.loop-j.j c.loop-j-test.true in mark_more c.args.table.now c.args.r c.loop-j.j _ _ _ c.loop-j.invariant e (omega arith)

pub returns : goal.returns
returns c = subst (λ k. Marked c.args.table.now c.args.r k c.args.marks.now c.loop-j.marks) (omega arith) c.loop-j.invariant
