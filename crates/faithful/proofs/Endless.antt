-- A reading is followed by many firings: a bound on the firings is one on the steps of the reading, and on its turns.
--
--   Bounded                   what n firings that follow so many steps of the reading say of it
--   Far                       firings that follow so many steps of the reading, and how many they are at least
--   outcome_or_far            so many steps of the reading are followed, to its outcome or not yet there
--   enough_steps              (F + 1) times (rows + 1) steps are followed by more than F firings
--
-- Idea: a step that does not go back raises the row, which is at most the row count; a step that goes back, an END with another turn, has a firing,
-- and so has a first turn.
-- Assumes nothing.
use Rattle.std.proofs.Math.Path.{◌≡◌, refl}
use Rattle.std.proofs.Common.{sym, ◌∙◌, suc-mul, mul-le-mul_right, arith, length-append}
use Rattle.std.specs.Prelude.{◌⊎◌, List, [], ◌++◌, length}
use Rattle.std.proofs.Math.Logic.{inl, inr}
use Rattle.std.proofs.Math.Option.{none, some}
use Prim.Native.Nat.{ℕ, zero, suc, ◌+◌, ◌*◌, ◌≤◌, ◌<◌}
use Rattle.std.proofs.Math.Decide.{dec_lt}
use Rattle.table.specs.Rows.{size}
use Rattle.table.specs.Bodies.{row_at}
use Rattle.structure.specs.Structure.{Structure}
use Rattle.reading.specs.Steps.{step_below, step_past}
use Rattle.reading.specs.Within.{turns_made, openings_of, step_grows, stops_so}
use Rattle.reading.specs.Reading.{Outcome, Step, on, stop, step, read_from}
use Rattle.reading.specs.Reading
use Rattle.lowered.specs.Roles.{Role}
use Rattle.uses.specs.Machine.{State, Steps, steps_append}
use Rattle.faithful.specs.Table.{plan}
use Rattle.faithful.specs.Tables.{table_of, row_at_lem}
use Rattle.faithful.proofs.Following.{DownOrFires, Follows, one_step}

-- one step more, from row pc to row pc₁ with n firings, before k steps with n₁ firings; the rows are z
one_more_lem : (z k pc m pc₁ m₁ n n₁ : ℕ) → k + pc₁ ≤ n₁ * suc z + z → pc ≤ z → DownOrFires pc m pc₁ m₁ n → suc k + pc ≤ (n + n₁) * suc z + z
one_more_lem z k pc m pc₁ m₁ n n₁ h l (inl d) =
    let a : n₁ * suc z ≤ (n + n₁) * suc z = mul-le-mul_right (suc z) (omega arith) in
    let b = d.0 in
    omega arith
one_more_lem z k pc m pc₁ m₁ n n₁ h l (inr d) =
    let a : suc n₁ * suc z ≤ (n + n₁) * suc z = mul-le-mul_right (suc z) (omega arith) in
    let b = suc-mul n₁ (suc z) in
    omega arith

-- the turns of a step are at most its firings
turns_fire : (pc m pc₁ m₁ n : ℕ) → m₁ ≤ suc m → DownOrFires pc m pc₁ m₁ n → m₁ ≤ m + n
turns_fire pc m pc₁ m₁ n h (inl d) = let a = d.1 in omega arith
turns_fire pc m pc₁ m₁ n h (inr d) = omega arith

-- n firings that follow (F + 1) times (z + 1) steps are more than F
pub enough_steps : (z F n : ℕ) → suc F * suc z ≤ n * suc z + z → F < n
enough_steps z F n h =
    elim (dec_lt F n) [
      | yes l ↦ l
      | no l ↦
          let a : n * suc z ≤ F * suc z = mul-le-mul_right (suc z) (omega arith) in
          let b = suc-mul F (suc z) in
          absurd (omega arith)
    ]

module _ (t : List ℕ) where
  -- n firings follow k steps of the reading from r: it has come to an outcome, with at most n turns more; or to none yet, and n bounds k
  abbrev pub Bounded : ℕ → Reading.State → ℕ → Type 0
  Bounded k r n =
      ((o : Outcome) × (read_from k t r ≡ some o) × (turns_made (openings_of o) ≤ turns_made r.openings + n))
      ⊎ ((read_from k t r ≡ none) × (k + r.pc ≤ n * suc (size t) + size t))

  -- one step more
  longer : (k : ℕ) (r r₁ : Reading.State) (n n₁ : ℕ) → r.pc ≤ size t → step t r ≡ on r₁
      → DownOrFires r.pc (turns_made r.openings) r₁.pc (turns_made r₁.openings) n → Bounded k r₁ n₁ → Bounded (suc k) r (n + n₁)
  unfolding read_from
  longer k r r₁ n n₁ l e d (inl x) =
      let a = turns_fire r.pc (turns_made r.openings) r₁.pc (turns_made r₁.openings) n (step_grows t r r₁ e).most d in
      let b = x.2 in
      inl (x.0, rw e x.1, omega arith)
  longer k r r₁ n n₁ l e d (inr x) =
      inr (rw e x.0, one_more_lem (size t) k r.pc (turns_made r.openings) r₁.pc (turns_made r₁.openings) n n₁ x.1 l d)

module _ (t : List ℕ) (S : Structure t) where
  -- firings from s that follow the reading from r for k steps, or to its outcome if that comes before
  pub record Far (k : ℕ) (r : Reading.State) (s : State) : Type 0 where
    pub path : List Role
    pub there : State
    pub steps : Steps (plan (table_of t)) path s there
    pub many : Bounded t k r (length path)

  -- THE READING, followed for so many steps
  pub outcome_or_far : (k : ℕ) (r : Reading.State) (s : State) → Follows t S r s → Far k r s
  unfolding read_from
  outcome_or_far zero r s F = record { path = []; there = s; steps = refl; many = inr (refl, let b = F.below in omega arith) }
  outcome_or_far (suc k) r s F = go (step t r) refl (outcome_or_far k)
    where
      go : (x : Step) → step t r ≡ x → ((r : Reading.State) (s : State) → Follows t S r s → Far k r s) → Far (suc k) r s
      go (stop o) e later = record { path = []; there = s; steps = refl; many = inl (o, rw e, let a = stops_so t r o e in omega arith) }
      go (on r₁) e later =
          elim (dec_lt r.pc (size t)) [
            | yes l ↦
                let P = one_step t S (row_at t r.pc) r.pc r.env r.openings s (row_at_lem t r.pc l) l F r₁ (sym (step_below t r l) ∙ e) in
                let x = later r₁ P.1 P.3 in
                record {
                  path = P.0 ++ x.path;
                  there = x.there;
                  steps = steps_append (plan (table_of t)) P.0 x.path s P.1 x.there P.2 x.steps;
                  many = rw (length-append P.0 x.path) (longer t k r r₁ (length P.0) (length x.path) F.below e P.4 x.many);
                }
            | no n ↦ let q = step_past t r (omega arith) in let z : ◌≡◌ {A = ℕ} 0 1 = cc in absurd (omega arith)
          ]
