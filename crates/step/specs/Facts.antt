-- What single firings do, each once for words and for flags: a step does not look at the row's sort.
--
--   fork_copies, drain_swallows, split_routes_true, split_routes_false, invariant_opens, invariant_repeats, invariant_closes
--
-- Assumes nothing.
use Rattle.std.specs.Prelude.{◌≡◌, Bool, true, false, ℕ, suc}
use Rattle.std.proofs.Math.Path.{refl}
use Rattle.std.proofs.Math.Option.{Option, none, some}
use Rattle.step.specs.Kinds.{FORK, DRAIN, SPLIT, INVARIANT}
use Rattle.step.specs.Firing.{Effect}
use Rattle.step.specs.Machines.{rest, holding, step}
use Rattle.step.specs.declared.Record.{Record}

abbrev doing : Bool → Bool → Option ℕ → Option ℕ → Record → Option Effect
doing a b x y r = some (record { takes0 = a; takes1 = b; takes2 = false; gives0 = x; gives1 = y; next = r })

module _ (code x : ℕ) (d other : Option ℕ) where
  -- FORK: one token in, two copies out
  pub fork_copies : step FORK code (record { word0 = some x; word1 = d; word2 = other; room0 = true; room1 = true; own = rest }) ≡ doing true false (some x) (some x) rest
  unfolding step
  fork_copies = refl

  -- DRAIN: one token in, none out, room or not
  pub drain_swallows : (a b : Bool) → step DRAIN code (record { word0 = some x; word1 = d; word2 = other; room0 = a; room1 = b; own = rest }) ≡ doing true false none none rest
  unfolding step
  drain_swallows a b = refl

  -- SPLIT: the leg that the flag names, whatever stands on the other
  pub split_routes_true : (f : ℕ) (b : Bool) → step SPLIT code (record { word0 = some (suc f); word1 = some x; word2 = other; room0 = true; room1 = b; own = rest }) ≡ doing true true (some x) none rest
  unfolding step
  split_routes_true f b = refl

  pub split_routes_false : (a : Bool) → step SPLIT code (record { word0 = some 0; word1 = some x; word2 = other; room0 = a; room1 = true; own = rest }) ≡ doing true true none (some x) rest
  unfolding step
  split_routes_false a = refl

  -- INVARIANT: stores the seed and gives it; gives it again for each true; clears the store at the false
  pub invariant_opens : (b : Bool) → step INVARIANT code (record { word0 = d; word1 = some x; word2 = other; room0 = true; room1 = b; own = rest }) ≡ doing false true (some x) none (holding x 0 0)
  unfolding step
  invariant_opens b = refl

  pub invariant_repeats : (f : ℕ) (b : Bool) → step INVARIANT code (record { word0 = some (suc f); word1 = d; word2 = other; room0 = true; room1 = b; own = holding x 0 0 }) ≡ doing true false (some x) none (holding x 0 0)
  unfolding step
  invariant_repeats f b = refl

  pub invariant_closes : (a b : Bool) → step INVARIANT code (record { word0 = some 0; word1 = d; word2 = other; room0 = a; room1 = b; own = holding x 0 0 }) ≡ doing true false none none rest
  unfolding step
  invariant_closes a b = refl
