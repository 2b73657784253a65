-- `counting::sum_rows` meets its contract. After r rows the sums are those of the rows before r.
-- Assumes nothing.
use Rattle.std.proofs.Common.{◌≡◌, ap, ◌∙◌, arith}
use Rattle.counting.proofs.Counting.{sum_more, no_sum}
use Rattle.counting.specs.Idle.{row_uses, row_idle}
use Rattle.graph.specs.Below.{total}
use Rattle.counting.proofs.sum_rows.Goals as goal

pub loop-r-init : goal.loop-r-init
loop-r-init c = let t = c.args.notes.now.passed.words.now in (no_sum (row_uses t), no_sum (row_idle t), omega arith, omega arith)

pub overflow_add-uses : goal.overflow_add-uses
overflow_add-uses c = let u = c.uses_of-uses.ensures.1 in let i = c.loop-r.invariant.2 in let f = c.args.notes.now.passed.passing.few in let t = c.loop-r-test.true in omega arith

pub overflow_add-idle : goal.overflow_add-idle
overflow_add-idle c = let u = c.idle_of-idle.ensures.1 in let i = c.loop-r.invariant.3 in let f = c.args.notes.now.passed.passing.few in let t = c.loop-r-test.true in omega arith

pub loop-r-preserved : goal.loop-r-preserved
loop-r-preserved c =
    let t = c.args.notes.now.passed.words.now in
    let l = c.loop-r in
    let u = c.uses_of-uses.ensures in
    let i = c.idle_of-idle.ensures in
    let u1 = u.1 in
    let i1 = i.1 in
    let l3 = l.invariant.2 in
    let l4 = l.invariant.3 in
    (sum_more (row_uses t) l.r l.invariant.0 u.0, sum_more (row_idle t) l.r l.invariant.1 i.0, omega arith, omega arith)

pub returns : goal.returns
returns c =
    let P = c.args.notes.now.passed in
    let l = c.loop-r in
    let e : l.r ≡ P.rows = omega arith in
    let f = P.passing.few in
    let l3 = l.invariant.2 in
    let l4 = l.invariant.3 in
    (l.invariant.0 ∙ ap (total (row_uses P.words.now)) e, l.invariant.1 ∙ ap (total (row_idle P.words.now)) e, omega arith, omega arith)
