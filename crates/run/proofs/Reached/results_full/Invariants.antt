use Rattle.state.specs.Run.{is_full}
use Rattle.graph.specs.Graph.{result_count, result_at}
use Rattle.graph.specs.Below.{every_from, every}
use mathlib.Core.Path.{◌≡◌}
use Prim.Native.Nat.{◌-◌, ◌≤◌}
use Rattle.run.proofs.Reached.results_full.Given as goal

abbrev pub invariant-loop-k : goal.invariant-loop-k
invariant-loop-k l = (l.k ≤ l.results) × (l.results ≡ result_count l.self.graph.now) × (every_from (l.results - l.k) l.k (λ k'. is_full l.self.state.now (result_at l.self.graph.now k')) ≡ every (result_count l.self.graph.now) (λ k'. is_full l.self.state.now (result_at l.self.graph.now k')))
