-- `naming::name_legs` meets its contract. After w wires the names of their legs stand in a run; the wires' own names stand before them and are as they were.
-- Assumes nothing.
use Prim.Native.Nat.{◌+◌, ◌*◌}
use mathlib.Core.Path.{refl}
use native.Mathlib.Omega.{arith}
use lib.ListN.{get_or}
use Rattle.naming.proofs.Writing.{nothing_written, same_long, room_left, one_written, all_written}
use Rattle.naming.proofs.Naming.{legs_long, name_kept}
use Rattle.naming.specs.Parts.{legs_of, leg_names_by}
use Rattle.naming.proofs.name_legs.Goals as goal

pub overflow_mul-p : goal.overflow_mul-p
overflow_mul-p c = omega arith

pub loop-w-init : goal.loop-w-init
loop-w-init c = let a = c.args in nothing_written (leg_names_by a.wires.now a.uses.now.count) (3 * a.sources) a.wires.now

pub name_legs_of-p-requires : goal.name_legs_of-p-requires
name_legs_of-p-requires c = let a = c.args in let l = c.loop-w in let q = c.requires in let t = c.loop-w-test.true in let s = same_long (leg_names_by a.wires.now a.uses.now.count) (3 * a.sources) l.invariant in let r = room_left (leg_names_by a.wires.now a.uses.now.count) (3 * a.sources) l.invariant a.sources t q.1 (leg_names_by a.wires.now a.uses.now.count l.w) refl in let g = legs_long (get_or a.uses.now.count l.w 0) (get_or a.wires.now (3 * l.w) 0) (get_or a.wires.now (3 * l.w + 1) 0) (get_or a.wires.now (3 * l.w + 2) 0) in let q0 = q.0 in let q2 = q.1 in (a.uses.now.few.low l.w (omega arith), omega arith, omega arith, omega arith)

pub loop-w-preserved : goal.loop-w-preserved
loop-w-preserved c = let a = c.args in let l = c.loop-w in let e = c.name_legs_of-p.ensures in let e0 = e.0 in let k = get_or a.uses.now.count l.w 0 in let g = legs_long k (get_or l.wires (3 * l.w) 0) (get_or l.wires (3 * l.w + 1) 0) (get_or l.wires (3 * l.w + 2) 0) in one_written (leg_names_by a.wires.now a.uses.now.count) (3 * a.sources) l.invariant (legs_of k (get_or l.wires (3 * l.w) 0) (get_or l.wires (3 * l.w + 1) 0) (get_or l.wires (3 * l.w + 2) 0)) (name_kept a.uses.now.count a.wires.now l.wires a.sources l.w l.p l.invariant c.loop-w-test.true k refl) (omega arith) e.1

pub shape_of-wires : goal.shape_of-wires
shape_of-wires c = let a = c.args in same_long (leg_names_by a.wires.now a.uses.now.count) (3 * a.sources) c.loop-w.invariant

pub returns : goal.returns
returns c = let a = c.args in (all_written (leg_names_by a.wires.now a.uses.now.count) (3 * a.sources) c.loop-w.invariant a.sources (omega arith)).1
