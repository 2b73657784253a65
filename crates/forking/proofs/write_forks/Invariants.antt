use Prim.Native.Nat.{◌+◌, ◌*◌}
use mathlib.Core.Path.{◌≡◌}
use lib.Seq.{sets}
use lib.ListN.{length}
use Rattle.graph.specs.Below.{joined, total}
use Rattle.forking.specs.Forked.{nodes_by, fork_words_by}
use Rattle.forking.proofs.write_forks.Given as goal

abbrev pub invariant-loop-w : goal.invariant-loop-w
invariant-loop-w l = (length l.graph ≡ length l.initial.graph) × (l.p ≡ l.at + 7 * total (nodes_by l.uses.count) l.w) × (l.graph ≡ sets l.initial.graph l.at (joined (fork_words_by l.sorts l.uses.count l.uses.free) l.w))
