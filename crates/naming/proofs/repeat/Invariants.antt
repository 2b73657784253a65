use Prim.Native.Nat.{◌+◌, ◌*◌}
use mathlib.Core.List.{[], ◌∷◌}
use mathlib.Core.Path.{◌≡◌}
use Rattle.naming.proofs.Writing.{Written}
use Rattle.naming.proofs.repeat.Given as goal

abbrev pub invariant-loop-i : goal.invariant-loop-i
invariant-loop-i l = (l.p ≡ l.at + 3 * l.i) × Written (λ j. l.a ∷ l.b ∷ l.c ∷ []) l.at l.i l.p l.initial.words l.words
