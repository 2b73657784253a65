-- A stage: different nodes that are all ready fire in their order, and the end is the pointwise update.
--
--   Among, Once               a number stands in a list; a list repeats nothing
--   Staged                    the pointwise update of a list of nodes: what each has taken, given and left; all else stands
--   stage                     different nodes that are all ready fire in any order of them, and their end is that update
--
-- Idea: the first node fires; the others stay ready with their effects, so they are a stage from there. What the first has taken, given or left
-- no other touches, since readers and writers are single and a taken wire is full where a given one is empty.
-- Assumes nothing.
use Rattle.std.specs.Prelude.{◌≡◌, ◌⊎◌, true, List, [], ◌∷◌, ℕ, ◌<◌, length}
use Rattle.std.proofs.Math.Option.{some}
use Rattle.step.specs.Kinds.{Input, Output}
use Rattle.step.specs.Firing.{Effect, takes, gives}
use Rattle.state.specs.State.{record_at}
use Rattle.state.specs.Net.{Net, effect_at}
use Rattle.confluence.specs.Histories.{history_of}
use Rattle.confluence.specs.Update.{wire_at, Untouched}

abbrev pub Among : ℕ → List ℕ → Type 0
Among i [] = ⊥
Among i (x ∷ xs) = (i ≡ x) ⊎ Among i xs

abbrev pub Once : List ℕ → Type 0
Once [] = Unit {0}
Once (x ∷ xs) = (Among x xs → ⊥) × Once xs

-- no node of the list takes from the wire, or gives on it
abbrev pub Aside : Net → List ℕ → List ℕ → ℕ → Type 0
Aside N nodes s w = (i : ℕ) (e : Effect) → Among i nodes → effect_at N i s ≡ some e → Untouched N i e w

-- from s to t, by what each node of the list does in s
pub record Staged (N : Net) (nodes s t : List ℕ) : Type 0 where
  pub same_length : length t ≡ length s
  -- a wire taken by one of them is empty
  pub taken : (i : ℕ) (e : Effect) → Among i nodes → effect_at N i s ≡ some e → (k : Input) (w : ℕ) → N.input i k ≡ some w → takes e k ≡ true
      → wire_at t w ≡ (0, 0)
  -- a wire given by one of them holds what it gave, and that is all that was put on it
  pub given : (i : ℕ) (e : Effect) → Among i nodes → effect_at N i s ≡ some e → (k : Output) (w x : ℕ) → N.output i k ≡ some w → gives e k ≡ some x
      → (wire_at t w ≡ (1, x)) × (history_of N nodes s w ≡ x ∷ [])
  -- its record is what it left
  pub left : (i : ℕ) (e : Effect) → Among i nodes → effect_at N i s ≡ some e → record_at N.wires t i ≡ e.next
  -- all else stands
  pub still : (w : ℕ) → w < N.wires → Aside N nodes s w → wire_at t w ≡ wire_at s w
  pub unput : (w : ℕ) → ((i : ℕ) (e : Effect) → Among i nodes → effect_at N i s ≡ some e → (k : Output) (x : ℕ) → N.output i k ≡ some w → gives e k ≡ some x → ⊥)
      → history_of N nodes s w ≡ []
  pub others : (i : ℕ) → (Among i nodes → ⊥) → record_at N.wires t i ≡ record_at N.wires s i
