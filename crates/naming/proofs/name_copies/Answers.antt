-- `naming::name_copies` meets its contract. After v values their copies' names stand in a run.
-- Assumes nothing.
use mathlib.Core.Path.{refl}
use native.Mathlib.Omega.{arith}
use Rattle.naming.proofs.Writing.{nothing_written, same_long, room_left, one_written, all_written}
use Rattle.naming.specs.Parts.{copy_names}
use Rattle.naming.proofs.name_copies.Goals as goal

pub mark_loop-marks-requires : goal.mark_loop-marks-requires
mark_loop-marks-requires c = let q = c.requires in (q.0, q.1)

pub loop-v-init : goal.loop-v-init
loop-v-init c = let a = c.args in nothing_written (copy_names a.notes.now.passed.words.now a.l) a.at a.nodes.now

pub name_copy-p-requires : goal.name_copy-p-requires
name_copy-p-requires c = let a = c.args in let l = c.loop-v in let q = c.requires in let t = c.loop-v-test.true in (q.0, q.1, t, c.mark_loop-marks.ensures, room_left (copy_names a.notes.now.passed.words.now a.l) a.at l.invariant a.notes.now.passed.rows t q.2 (copy_names a.notes.now.passed.words.now a.l l.v) refl)

pub loop-v-preserved : goal.loop-v-preserved
loop-v-preserved c = let a = c.args in let l = c.loop-v in let e = c.name_copy-p.ensures in one_written (copy_names a.notes.now.passed.words.now a.l) a.at l.invariant (copy_names a.notes.now.passed.words.now a.l l.v) refl e.0 e.1

pub shape_of-nodes : goal.shape_of-nodes
shape_of-nodes c = let a = c.args in same_long (copy_names a.notes.now.passed.words.now a.l) a.at c.loop-v.invariant

pub returns : goal.returns
returns c = let a = c.args in all_written (copy_names a.notes.now.passed.words.now a.l) a.at c.loop-v.invariant a.notes.now.passed.rows (omega arith)
