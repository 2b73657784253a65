-- `forking::write_starts` meets its contract. After r rows their words stand in a run, and the inputs among them are counted.
-- Assumes nothing.
use Rattle.std.proofs.Common.{◌≡◌, refl, ◌∙◌, eqb, arith}
use Rattle.graph.specs.Below.{joined}
use Rattle.table.specs.Rows.{kind_at}
use Rattle.lowered.specs.Gathered.{those}
use Rattle.laid.specs.Those.{those_few}
use Rattle.forking.proofs.Words.{inputs_more, next_start_written}
use Rattle.forking.proofs.write_starts.Goals as goal

pub loop-r-init : goal.loop-r-init
unfolding joined those
loop-r-init c = (refl, refl, refl)

pub write_start-inputs-requires : goal.write_start-inputs-requires
write_start-inputs-requires c = let n = those_few (λ q. eqb (kind_at c.args.passed.now.words.now q) 0) c.loop-r.r in let f = c.args.passed.now.passing.few in (omega arith, omega arith)

pub loop-r-preserved : goal.loop-r-preserved
loop-r-preserved c =
    let l = c.loop-r in
    let t = c.args.passed.now.words.now in
    let m = inputs_more t l.r in
    let s = rw c.kind.ensures at c.write_start-inputs.ensures.0 in
    (c.write_start-inputs.auto.graph ∙ l.invariant.0, omega arith, next_start_written t c.args.at l.r _ l.invariant.1 l.invariant.2 (rw (c.kind.ensures, c.word_at-word.ensures) at c.write_start-inputs.ensures.1))

pub shape_of-graph : goal.shape_of-graph
shape_of-graph c = c.loop-r.invariant.0

pub returns : goal.returns
returns c = let last : c.loop-r.r ≡ c.args.starts = omega arith in rw (← last) c.loop-r.invariant.2
