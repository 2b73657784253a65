-- `counting::count_table` meets its contract. A table that passes is counted by its rows; another counts nothing.
-- Assumes nothing.
use Rattle.std.proofs.Common.{◌≡◌, refl, ap, ◌∙◌, arith}
use Rattle.refusal.specs.Numbers.{number_above}
use Rattle.carrying.specs.declared.Passed.{Passed}
use Rattle.counting.proofs.Counting.{count_refused, counted_all, nodes_are, wires_are, wires_within, plain_low}
use Rattle.counting.proofs.count_table.Goals as goal

pub returns-in_default : goal.returns-in_default
returns-in_default c = let e = c.in_default.field-0 in record { answer = count_refused c.args.table.now c.in_default.ensures.answer (λ z. let a = number_above e.why in omega arith) }

pub overflow_add-result : goal.overflow_add-result
overflow_add-result c =
    let P = c.new-notes.result.passed.passing in
    let b = c.note_bases.ensures in
    let s = c.sum_rows-sums.ensures in
    let l = plain_low _ _ P b.1 b.2 s.0 s.1 in
    let l0 = l.0 in
    let s2 = s.2 in
    omega arith

pub overflow_add-result-2 : goal.overflow_add-result-2
overflow_add-result-2 c =
    let P = c.new-notes.result.passed.passing in
    let b = c.note_bases.ensures in
    let s = c.sum_rows-sums.ensures in
    let l = plain_low _ _ P b.1 b.2 s.0 s.1 in
    let l0 = l.0 in
    let s2 = s.2 in
    let s3 = s.3 in
    omega arith

pub overflow_sub-result : goal.overflow_sub-result
overflow_sub-result c =
    let P = c.new-notes.result.passed.passing in
    let b = c.note_bases.ensures in
    let s = c.sum_rows-sums.ensures in
    let w = wires_within _ _ P b.1 b.2 s.0 s.1 in
    let w0 = w.0 in
    omega arith

pub overflow_sub-result-2 : goal.overflow_sub-result-2
overflow_sub-result-2 c =
    let P = c.new-notes.result.passed.passing in
    let b = c.note_bases.ensures in
    let s = c.sum_rows-sums.ensures in
    let w = wires_within _ _ P b.1 b.2 s.0 s.1 in
    let w1 = w.1 in
    omega arith

pub returns : goal.returns
returns c =
    let P = c.new-notes.result.passed.passing in
    let n : c.new-notes.result.passed.words.now ≡ c.args.table.now = ap (λ (p : Passed). p.words.now) c.new-notes.ensures ∙ c.in-Ok.ensures.words in
    let b = c.note_bases.ensures in
    let s = c.sum_rows-sums.ensures in
    record {
      answer = counted_all c.args.table.now c.in-Ok.ensures.answer refl (rw n at (nodes_are _ _ P b.1 b.2 s.0 s.1)) (rw n at (wires_are _ _ P b.1 b.2 s.0 s.1))
          (rw n at c.count_starts-starts.ensures.0) (rw n at c.count_results-results.ensures.0);
    }
