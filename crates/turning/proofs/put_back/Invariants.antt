use Rattle.turning.specs.Words.{env_of, placed}
use mathlib.Core.Path.{◌≡◌}
use Rattle.turning.proofs.put_back.Given as goal

abbrev pub invariant-loop-j : goal.invariant-loop-j
invariant-loop-j l = env_of l.words ≡ placed l.to l.j (env_of l.aside) (env_of l.initial.words)
