-- `graph::read_once` meets its contract. The table holds all reads; the loop follows `every` over the wires.
-- Assumes nothing.
use mathlib.Core.Path.{sym, ◌∙◌}
use native.Mathlib.Nat.{sub-zero}
use native.Mathlib.Omega.{arith}
use borrow.Author.Tests.{eq-eqb, ne_eqb}
use Rattle.graph.specs.Below.{every_go, every_stop, every_end}
use Rattle.graph.specs.Refusal.{read_once}
use Rattle.graph.proofs.Readers.{once_read_is}
use Rattle.graph.proofs.read_once.Goals as goal

pub loop-w-init : goal.loop-w-init
unfolding read_once
loop-w-init c = (omega arith, rw (sub-zero, c.wide-wires.ensures.0))

pub loop-w-preserved : goal.loop-w-preserved
loop-w-preserved c = (
  omega arith,
  sym (every_go _ _ _ c.loop-w-test.true (once_read_is _ _ (omega arith) c.count_nodes.ensures c.count_results.ensures) (eq-eqb _ _ c.if-seen-w-ne1.false))
      ∙ c.loop-w.invariant.1,
)

pub returns-then-seen-w-ne1 : goal.returns-then-seen-w-ne1
returns-then-seen-w-ne1 c = sym (every_stop _ _ _ c.loop-w-test.true (once_read_is _ _ (omega arith) c.count_nodes.ensures c.count_results.ensures) (ne_eqb _ _ c.if-seen-w-ne1.true))
    ∙ c.loop-w.invariant.1

pub returns : goal.returns
returns c = sym (every_end _ _ _ c.loop-w-test.false) ∙ c.loop-w.invariant.1
