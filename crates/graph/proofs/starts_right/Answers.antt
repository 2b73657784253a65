-- `graph::starts_right` meets its contract. The loop follows `every`; beside it runs the number of inputs so far.
-- Assumes nothing.
use mathlib.Core.Path.{sym, ◌∙◌}
use native.Mathlib.Nat.{sub-zero}
use native.Mathlib.Omega.{arith}
use lib.Dec.{eqb}
use Rattle.word.specs.Laws.{flag_below}
use Rattle.word.specs.Words.{flag}
use Rattle.graph.specs.Below.{total, every_go, every_stop, every_end, total_more}
use Rattle.graph.specs.Graph.{start_kind_at}
use Rattle.graph.proofs.Rows.{start_right_is}
use Rattle.graph.proofs.starts_right.Goals as goal

pub loop-k-init : goal.loop-k-init
unfolding total
loop-k-init c = (omega arith, omega arith, omega arith, rw (sub-zero, c.wide-starts.ensures.0))

pub loop-k-preserved : goal.loop-k-preserved
loop-k-preserved c = let g = c.args.graph.now in
    let k = c.loop-k.k in
    let more = total_more (λ j. flag (eqb (start_kind_at g j) 0)) k in
    let small = flag_below (eqb (start_kind_at g k) 0) in (
      omega arith,
      omega (arith, more),
      omega arith,
      sym (every_go _ _ _ c.loop-k-test.true (start_right_is g k c.loop-k.invariant.1 c.start_right.ensures) c.if-not-start_right.false)
          ∙ c.loop-k.invariant.3,
    )

pub returns-then-not-start_right : goal.returns-then-not-start_right
returns-then-not-start_right c = let g = c.args.graph.now in
    sym (
    sym c.loop-k.invariant.3
    ∙ every_stop _ _ _ c.loop-k-test.true (start_right_is g c.loop-k.k c.loop-k.invariant.1 c.start_right.ensures) c.if-not-start_right.true
    )

pub returns : goal.returns
returns c = sym (every_end _ _ _ c.loop-k-test.false) ∙ c.loop-k.invariant.3
