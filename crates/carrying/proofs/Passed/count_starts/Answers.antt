-- `carrying::Passed::count_starts` meets its contract. Invariant: the starts among the rows before r are counted. Assumes nothing.
use Rattle.std.proofs.Common.{leb, arith}
use Rattle.carrying.proofs.Counting.{none_counted, one_counted, few_counted, all_starts}
use Rattle.carrying.proofs.Passed.count_starts.Goals as goal

pub loop-r-init : goal.loop-r-init
loop-r-init c = none_counted (λ k. leb k 1) c.args.self.now.words.now

pub overflow_add-count : goal.overflow_add-count
overflow_add-count c = omega (arith, c.start_of-count.ensures.1, few_counted (λ k. leb k 1) c.args.self.now.words.now c.loop-r.r c.loop-r.count c.loop-r.invariant, c.args.self.now.passing.few)

pub loop-r-preserved : goal.loop-r-preserved
loop-r-preserved c = one_counted (λ k. leb k 1) c.args.self.now.words.now c.loop-r.r c.loop-r.count _ _ c.loop-r.invariant c.kind.ensures c.start_of-count.ensures.0

pub returns : goal.returns
returns c = all_starts _ _ c.args.self.now.passing _ _ (omega arith) (omega arith) c.loop-r.invariant
