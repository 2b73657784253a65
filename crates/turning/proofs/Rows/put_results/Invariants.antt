use Rattle.table.specs.Counted.{rows_of}
use Rattle.turning.specs.Words.{env_of}
use Rattle.reading.specs.Reading.{results_from}
use lib.Seq.{sets}
use lib.ListN.{length}
use mathlib.Core.Path.{◌≡◌}
use Prim.Native.Nat.{◌-◌}
use Rattle.turning.proofs.Rows.put_results.Given as goal

abbrev pub invariant-loop-r : goal.invariant-loop-r
invariant-loop-r l = (l.k ≡ rows_of 8 l.self.table.now l.r) × (length l.results ≡ length l.initial.results) × (sets l.results l.k (results_from (l.self.size - l.r) l.self.table.now (env_of l.words) l.r) ≡ sets l.initial.results 0 (results_from l.self.size l.self.table.now (env_of l.words) 0))
