use Prim.Native.Nat.{◌+◌, ◌-◌, ◌*◌}
use mathlib.Core.Path.{◌≡◌}
use lib.Seq.{sets}
use lib.ListN.{length}
use Rattle.forking.specs.Forked.{fork_words}
use Rattle.forking.proofs.write_chain.Given as goal

abbrev pub invariant-loop-k : goal.invariant-loop-k
invariant-loop-k l = (length l.graph ≡ length l.initial.graph) × (l.p ≡ l.at + 7 * l.k) × (sets l.graph l.p (fork_words l.sort l.x (l.uses - l.k) (l.free + 2 * l.k)) ≡ sets l.initial.graph l.at (fork_words l.sort l.wire l.uses l.free))
