-- `forking::note_sort` meets its contract. One or two stores, by the outputs of the row's kind.
-- Assumes nothing.
use mathlib.Core.Path.{refl}
use native.Mathlib.Omega.{arith}
use Rattle.forking.proofs.Words.{one_sort, two_sorts}
use Rattle.step.specs.Kinds.{out0, out1}
use Rattle.forking.proofs.note_sort.Goals as goal

pub bounds-sorts-first : goal.bounds-sorts-first
bounds-sorts-first c = let f = c.requires.1.first in omega arith

pub returns-then-outputs_of-lt2 : goal.returns-then-outputs_of-lt2
returns-then-outputs_of-lt2 c = one_sort c.args.rows.now c.args.i c.args.sorts.now c.outputs_of.ensures c.if-outputs_of-lt2.true refl (c.output_sort.ensures out0 refl)

pub overflow_add-sorts : goal.overflow_add-sorts
overflow_add-sorts c = let f = c.requires.1.first in omega arith

pub bounds-sorts-first-2 : goal.bounds-sorts-first-2
bounds-sorts-first-2 c = let o = c.outputs_of.ensures in let f = c.requires.1.second (omega arith) in omega arith

pub returns : goal.returns
returns c = two_sorts c.args.rows.now c.args.i c.args.sorts.now c.outputs_of.ensures c.if-outputs_of-lt2.false refl (c.output_sort.ensures out0 refl) (c.output_sort-2.ensures out1 refl)
