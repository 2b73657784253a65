-- A rehearsal of a graph: it is loaded, and run from what that leaves. What refuses to load it refuses the rehearsal. Assumes nothing.
use Rattle.std.specs.Prelude.{ℕ, List, ◌≡◌, ◌≢◌, Result}
use Rattle.refusal.specs.declared.Refusal.{Refusal}
use Rattle.machine.specs.Entries.{load_refusal, load_state}
use Rattle.run.specs.declared.Ran.{Ran}
use Rattle.run.specs.Entry.{ran_number}
use Rattle.run.specs.Numbers.{RunAnswer}

pub record Rehearsed (g inputs s order : List ℕ) (allowance : ℕ) (r : Result Ran Refusal) (exit : List ℕ) : Type 0 where
  -- the graph or its inputs are refused: the state is as it was
  pub refused : load_refusal g inputs s ≢ 0 → (ran_number r ≡ load_refusal g inputs s) × (exit ≡ s)
  -- they are not: the run starts where loading ends
  pub run : load_refusal g inputs s ≡ 0 → RunAnswer g (load_state g inputs s) order allowance r exit
