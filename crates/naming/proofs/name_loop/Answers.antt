-- `naming::name_loop` meets its contract. Three names, and the copies behind them.
-- Assumes nothing.
use native.Mathlib.Omega.{arith}
use Rattle.naming.proofs.Naming.{named_as, loop_names, loop_room, loop_place, three_names}
use Rattle.naming.specs.Parts.{copy_names}
use Rattle.graph.specs.Below.{joined}
use Rattle.naming.proofs.name_loop.Goals as goal

pub three-requires : goal.three-requires
three-requires c = let a = c.args in let h = loop_room a.notes.now.passed.words.now a.notes.now.passed.rows a.l a.at c.args.notes.now.noted.passing.rows c.requires.1 c.requires.2 in omega arith

pub three-requires-2 : goal.three-requires-2
three-requires-2 c = let a = c.args in let h = loop_room a.notes.now.passed.words.now a.notes.now.passed.rows a.l a.at c.args.notes.now.noted.passing.rows c.requires.1 c.requires.2 in let k = c.three.auto.graph in omega arith

pub three-requires-3 : goal.three-requires-3
three-requires-3 c = let a = c.args in let h = loop_room a.notes.now.passed.words.now a.notes.now.passed.rows a.l a.at c.args.notes.now.noted.passing.rows c.requires.1 c.requires.2 in let k = c.three.auto.graph in let k2 = c.three-2.auto.graph in omega arith

pub name_copies-requires : goal.name_copies-requires
name_copies-requires c = let a = c.args in let q = c.requires in let h = loop_room a.notes.now.passed.words.now a.notes.now.passed.rows a.l a.at c.args.notes.now.noted.passing.rows q.1 q.2 in let k = c.three.auto.graph in let k2 = c.three-2.auto.graph in let k3 = c.three-3.auto.graph in (q.0, q.1, omega arith)

pub returns : goal.returns
returns c = let a = c.args in let q = c.requires in let e = c.name_copies.ensures in named_as (loop_names a.notes.now.passed.words.now a.notes.now.passed.rows a.l c.args.notes.now.noted.passing.rows q.1) a.at a.nodes.now (loop_place a.notes.now.passed.words.now a.notes.now.passed.rows a.l a.at e.0) (three_names 1 a.l 0 2 a.l 0 3 a.l 0 (joined (copy_names a.notes.now.passed.words.now a.l) a.notes.now.passed.rows) a.nodes.now a.at c.three.ensures c.three-2.ensures c.three-3.ensures e.1)
