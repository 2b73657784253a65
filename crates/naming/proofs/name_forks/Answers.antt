-- `naming::name_forks` meets its contract. After w wires the names of their forks stand in a run.
-- Assumes nothing.
use mathlib.Core.Path.{refl}
use native.Mathlib.Omega.{arith}
use Rattle.naming.proofs.Writing.{nothing_written, same_long, room_left, one_written, all_written}
use Rattle.naming.specs.Parts.{fork_names_by}
use Rattle.naming.proofs.name_forks.Goals as goal

pub loop-w-init : goal.loop-w-init
loop-w-init c = let a = c.args in nothing_written (fork_names_by a.wires.now a.uses.now.count) a.at a.nodes.now

pub name_forks_of-p-requires : goal.name_forks_of-p-requires
name_forks_of-p-requires c = let a = c.args in let l = c.loop-w in let q = c.requires in (a.uses.now.few.low l.w (let s = q.1 in let h = c.loop-w-test.true in omega arith), q.2 l.w c.loop-w-test.true, room_left (fork_names_by a.wires.now a.uses.now.count) a.at l.invariant a.sources c.loop-w-test.true q.3 (fork_names_by a.wires.now a.uses.now.count l.w) refl)

pub loop-w-preserved : goal.loop-w-preserved
loop-w-preserved c = let a = c.args in let l = c.loop-w in let e = c.name_forks_of-p.ensures in one_written (fork_names_by a.wires.now a.uses.now.count) a.at l.invariant (fork_names_by a.wires.now a.uses.now.count l.w) refl e.0 e.1

pub shape_of-nodes : goal.shape_of-nodes
shape_of-nodes c = let a = c.args in same_long (fork_names_by a.wires.now a.uses.now.count) a.at c.loop-w.invariant

pub returns : goal.returns
returns c = let a = c.args in (all_written (fork_names_by a.wires.now a.uses.now.count) a.at c.loop-w.invariant a.sources (omega arith)).1
