-- `naming::name_rows` meets its contract. After r rows their names stand in a run.
-- Assumes nothing.
use mathlib.Core.Path.{refl}
use native.Mathlib.Omega.{arith}
use Rattle.naming.proofs.Writing.{nothing_written, same_long, room_left, one_written, all_written}
use Rattle.naming.specs.Parts.{row_names}
use Rattle.naming.proofs.name_rows.Goals as goal

pub loop-r-init : goal.loop-r-init
loop-r-init c = let a = c.args in nothing_written (row_names a.notes.now.passed.words.now) 0 a.nodes.now

pub name_row-p-requires : goal.name_row-p-requires
name_row-p-requires c = let a = c.args in let l = c.loop-r in let t = c.loop-r-test.true in let h = c.requires in (t, room_left (row_names a.notes.now.passed.words.now) 0 l.invariant a.notes.now.passed.rows t (omega arith) (row_names a.notes.now.passed.words.now l.r) refl)

pub loop-r-preserved : goal.loop-r-preserved
loop-r-preserved c = let a = c.args in let l = c.loop-r in let e = c.name_row-p.ensures in one_written (row_names a.notes.now.passed.words.now) 0 l.invariant (row_names a.notes.now.passed.words.now l.r) refl e.0 e.1

pub shape_of-nodes : goal.shape_of-nodes
shape_of-nodes c = let a = c.args in same_long (row_names a.notes.now.passed.words.now) 0 c.loop-r.invariant

pub returns : goal.returns
returns c = let a = c.args in (all_written (row_names a.notes.now.passed.words.now) 0 c.loop-r.invariant a.notes.now.passed.rows (omega arith)).1
