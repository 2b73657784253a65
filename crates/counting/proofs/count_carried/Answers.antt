-- `counting::count_carried` meets its contract. After v values the count is that of the carried ones below v.
-- Assumes nothing.
use Rattle.std.proofs.Common.{◌≡◌, ap, ◌∙◌, arith}
use Rattle.word.specs.Words.{flag}
use Rattle.lowered.specs.Sources.{carried}
use Rattle.counting.proofs.Counting.{all_carried, sum_more, no_sum}
use Rattle.counting.proofs.count_carried.Goals as goal

pub loop-v-init : goal.loop-v-init
loop-v-init c = (omega arith, no_sum (λ x. flag (carried c.args.notes.now.passed.words.now c.args.l x)))

pub is_carried-requires : goal.is_carried-requires
is_carried-requires c = let q = c.requires in (q.0, q.1, c.loop-v-test.true, c.mark_loop-marks.ensures)

pub overflow_add-count : goal.overflow_add-count
overflow_add-count c = let f = c.args.notes.now.passed.passing.few in let o = c.one_if-count.ensures.1 in let i = c.loop-v.invariant.0 in let t = c.loop-v-test.true in omega arith

pub loop-v-preserved : goal.loop-v-preserved
loop-v-preserved c =
    let l = c.loop-v in
    let o = c.one_if-count.ensures.1 in
    let i = l.invariant.0 in
    (omega arith, sum_more (λ x. flag (carried c.args.notes.now.passed.words.now c.args.l x)) l.v l.invariant.1 (c.one_if-count.ensures.0 ∙ ap flag c.is_carried.ensures))

pub returns : goal.returns
returns c =
    let P = c.args.notes.now.passed in
    let l = c.loop-v in
    let e : l.v ≡ P.rows = omega arith in
    let f = P.passing.few in
    let i = l.invariant.0 in
    (l.invariant.1 ∙ all_carried P.words.now c.args.l P.rows l.v P.passing.rows e, omega arith)
