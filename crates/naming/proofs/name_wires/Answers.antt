-- `naming::name_wires` meets its contract. After i nodes the names of their outputs stand in a run.
-- Assumes nothing.
use mathlib.Core.Path.{refl}
use native.Mathlib.Omega.{arith}
use Rattle.naming.proofs.Writing.{nothing_written, same_long, room_left, one_written, all_written}
use Rattle.naming.specs.Parts.{output_names_by}
use Rattle.naming.proofs.name_wires.Goals as goal

pub loop-i-init : goal.loop-i-init
loop-i-init c = let a = c.args in nothing_written (output_names_by a.nodes.now) a.at a.wires.now

pub overflow_mul-i : goal.overflow_mul-i
overflow_mul-i c = omega arith

pub offset_bounds-nodes-i : goal.offset_bounds-nodes-i
offset_bounds-nodes-i c = omega arith

pub bounds-nodes-i : goal.bounds-nodes-i
bounds-nodes-i c = let h = c.requires.0 in omega arith

pub overflow_mul-i-in-loop-i : goal.overflow_mul-i-in-loop-i
overflow_mul-i-in-loop-i c = omega arith

pub offset_bounds-nodes-i-in-loop-i : goal.offset_bounds-nodes-i-in-loop-i
offset_bounds-nodes-i-in-loop-i c = omega arith

pub bounds-nodes-i-in-loop-i : goal.bounds-nodes-i-in-loop-i
bounds-nodes-i-in-loop-i c = let h = c.requires.0 in omega arith

pub overflow_mul-i-in-loop-i-2 : goal.overflow_mul-i-in-loop-i-2
overflow_mul-i-in-loop-i-2 c = omega arith

pub offset_bounds-nodes-i-in-loop-i-2 : goal.offset_bounds-nodes-i-in-loop-i-2
offset_bounds-nodes-i-in-loop-i-2 c = omega arith

pub bounds-nodes-i-in-loop-i-2 : goal.bounds-nodes-i-in-loop-i-2
bounds-nodes-i-in-loop-i-2 c = let h = c.requires.0 in omega arith

pub name_outputs-p-requires : goal.name_outputs-p-requires
name_outputs-p-requires c = let a = c.args in let l = c.loop-i in room_left (output_names_by a.nodes.now) a.at l.invariant a.plain c.loop-i-test.true c.requires.2 (output_names_by a.nodes.now l.i) refl

pub loop-i-preserved : goal.loop-i-preserved
loop-i-preserved c = let a = c.args in let l = c.loop-i in let e = c.name_outputs-p.ensures in one_written (output_names_by a.nodes.now) a.at l.invariant (output_names_by a.nodes.now l.i) refl e.0 e.1

pub shape_of-wires : goal.shape_of-wires
shape_of-wires c = let a = c.args in same_long (output_names_by a.nodes.now) a.at c.loop-i.invariant

pub returns : goal.returns
returns c = let a = c.args in (all_written (output_names_by a.nodes.now) a.at c.loop-i.invariant a.plain (omega arith)).1
