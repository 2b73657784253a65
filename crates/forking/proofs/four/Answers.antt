-- `forking::four` meets its contract. Four stores are one run of words.
-- Assumes nothing.
use native.Mathlib.Omega.{arith}
use lib.ListN.{length-set}
use Rattle.forking.specs.Written.{four_words}
use Rattle.forking.proofs.four.Goals as goal

pub bounds-graph-at-2 : goal.bounds-graph-at-2
bounds-graph-at-2 c = simp length-set (omega arith)

pub bounds-graph-at-3 : goal.bounds-graph-at-3
bounds-graph-at-3 c = simp length-set (omega arith)

pub bounds-graph-at-4 : goal.bounds-graph-at-4
bounds-graph-at-4 c = simp length-set (omega arith)

pub returns : goal.returns
returns c = let a = c.args in four_words a.graph.now a.at a.a a.b a.c a.d
