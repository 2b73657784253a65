use mathlib.Core.Path.{◌≡◌}
use lib.Seq.{sets}
use lib.ListN.{length}
use Rattle.graph.specs.Below.{joined}
use Rattle.lowered.specs.Lower.{start_words}
use Rattle.forking.proofs.Words.{inputs_before}
use Rattle.forking.proofs.write_starts.Given as goal

abbrev pub invariant-loop-r : goal.invariant-loop-r
invariant-loop-r l = (length l.graph ≡ length l.initial.graph) × (l.inputs ≡ inputs_before l.passed.words.now l.r) × (l.graph ≡ sets l.initial.graph l.at (joined (start_words l.passed.words.now) l.r))
