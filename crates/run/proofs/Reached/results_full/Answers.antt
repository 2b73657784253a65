-- `run::results_full` meets its contract. Assumes nothing.
use Rattle.run.proofs.Ends.{result_empty, result_full}
use Rattle.state.specs.Run.{results_full, is_full}
use Rattle.graph.specs.Graph.{result_at}
use Rattle.graph.specs.Accepted.{accepted}
use Rattle.graph.specs.Below.{every_go, every_stop, every_end}
use native.Mathlib.Omega.{arith}
use mathlib.Core.Path.{refl, sym, ◌∙◌}
use Rattle.run.proofs.Reached.results_full.Goals as goal

pub bounds-self-3 : goal.bounds-self-3
bounds-self-3 c = let a = (accepted _ c.args.self.now.accepted).shape in omega arith

pub result_at-requires : goal.result_at-requires
result_at-requires c = ((accepted _ c.args.self.now.accepted).shape, omega arith)

pub is_empty-requires : goal.is_empty-requires
is_empty-requires c = let b = (accepted _ c.args.self.now.accepted).results_below c.loop-k.k (omega arith) in let e = c.wide.ensures.0 in let d = c.result_at.ensures in let z = c.args.self.now.whole in omega arith

pub returns-then-is_empty : goal.returns-then-is_empty
unfolding results_full
returns-then-is_empty c = record { answer = sym (sym c.loop-k.invariant.2 ∙ every_stop (λ k. is_full c.args.self.now.state.now (result_at c.args.self.now.graph.now k)) _ _ c.loop-k-test.true refl (result_empty c.args.self.now.graph.now c.args.self.now.state.now c.loop-k.k c.result_at.ensures c.wide.ensures.0 c.is_empty.ensures.room c.if-is_empty.true)) }

pub loop-k-preserved : goal.loop-k-preserved
loop-k-preserved c = (omega arith, c.loop-k.invariant.1, sym (every_go (λ k. is_full c.args.self.now.state.now (result_at c.args.self.now.graph.now k)) _ _ c.loop-k-test.true refl (result_full c.args.self.now.graph.now c.args.self.now.state.now c.loop-k.k c.result_at.ensures c.wide.ensures.0 c.is_empty.ensures.room c.if-is_empty.false)) ∙ c.loop-k.invariant.2)

pub returns : goal.returns
unfolding results_full
returns c = record { answer = sym (every_end _ _ _ c.loop-k-test.false) ∙ c.loop-k.invariant.2 }
