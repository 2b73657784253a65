-- THE LAWS OF THE READING WITHIN AN ALLOWANCE.
--
--   one_within                        there is at most one answer
--   within_is_read, read_is_within    it comes to an outcome exactly if the reading comes there with no more turns than allowed
--   spent_needs_more                  where it is spent, the reading needs more turns or never ends
--   spent_is_all, due_is_spent        that is, where all that are allowed are made and one more turn is due (`Due`)
--   reach_within                      states on the way change nothing
--
-- Assumes nothing.
use Prim.Native.Nat.{ℕ, zero, suc, ◌+◌, ◌<◌, ◌≤◌}
use Rattle.std.proofs.Math.Option.{some}
use mathlib.Core.List.{List}
use Rattle.std.proofs.Math.Path.{◌≡◌, refl, sym, ap}
use Rattle.std.proofs.Common.{◌∙◌}
use native.Mathlib.Omega.{arith}
use Rattle.std.proofs.Math.Decide.{dec_le}
use borrow.Author.Tests.{le-leb, lt-leb}
use Rattle.reading.specs.Reading.{State, Outcome, Step, on, stop, step, and_then, read_from}
use Rattle.reading.specs.Within.{turns_made, Within, comes, spent, read_within, openings_of, step_grows, stops_so, outcome_made, Reach, here, then, reach_grows, Due}

module _ (t : List ℕ) (A : ℕ) where
  -- ---- one step of it
  pub step_goes_on : (k : ℕ) (s s₁ : State) → step t s ≡ on s₁ → turns_made s₁.openings ≤ A → read_within (suc k) A t s ≡ read_within k A t s₁
  unfolding read_within
  step_goes_on k s s₁ e l = rw (e, le-leb (turns_made s₁.openings) A l)

  pub step_goes_no_further : (k : ℕ) (s s₁ : State) → step t s ≡ on s₁ → A < turns_made s₁.openings → read_within (suc k) A t s ≡ some spent
  unfolding read_within
  step_goes_no_further k s s₁ e l = rw (e, lt-leb (turns_made s₁.openings) A l)

  pub step_stops_there : (k : ℕ) (s : State) (o : Outcome) → step t s ≡ stop o → read_within (suc k) A t s ≡ some (comes o)
  unfolding read_within
  step_stops_there k s o e = rw e

  -- what a step of it is
  data Goes (k : ℕ) (s : State) : Type 0 where
    further : (s₁ : State) → step t s ≡ on s₁ → turns_made s₁.openings ≤ A → read_within (suc k) A t s ≡ read_within k A t s₁ → Goes k s
    too_far : (s₁ : State) → step t s ≡ on s₁ → A < turns_made s₁.openings → read_within (suc k) A t s ≡ some spent → Goes k s
    there : (o : Outcome) → step t s ≡ stop o → read_within (suc k) A t s ≡ some (comes o) → Goes k s

  goes : (k : ℕ) (s : State) → Goes k s
  goes k s = go (step t s) refl
    where
      go : (x : Step) → step t s ≡ x → Goes k s
      go (on s₁) e =
          elim (dec_le (turns_made s₁.openings) A) [
            | yes l ↦ further s₁ e l (step_goes_on k s s₁ e l)
            | no n ↦ (let l : A < turns_made s₁.openings = omega arith in too_far s₁ e l (step_goes_no_further k s s₁ e l))
          ]
      go (stop o) e = there o e (step_stops_there k s o e)

  none_at_zero : (s : State) (w : Within) → read_within 0 A t s ≡ some w → ⊥
  unfolding read_within
  none_at_zero s w h = let z : ◌≡◌ {A = ℕ} 0 1 = cc in omega arith

  -- more steps change nothing
  pub more_within : (k m : ℕ) (s : State) (w : Within) → read_within k A t s ≡ some w → read_within (k + m) A t s ≡ some w
  more_within zero m s w h = absurd (none_at_zero s w h)
  more_within (suc k) m s w h = let e : suc k + m ≡ suc (k + m) = omega arith in rw e (go (goes k s) (λ s₁. more_within k m s₁ w))
    where
      go : Goes k s → ((s₁ : State) → read_within k A t s₁ ≡ some w → read_within (k + m) A t s₁ ≡ some w) → read_within (suc (k + m)) A t s ≡ some w
      go (further s₁ e l q) ih = step_goes_on (k + m) s s₁ e l ∙ ih s₁ (sym q ∙ h)
      go (too_far s₁ e l q) ih = step_goes_no_further (k + m) s s₁ e l ∙ sym q ∙ h
      go (there o e q) ih = step_stops_there (k + m) s o e ∙ sym q ∙ h

  -- THERE IS AT MOST ONE ANSWER
  pub one_within : (k m : ℕ) (s : State) (v w : Within) → read_within k A t s ≡ some v → read_within m A t s ≡ some w → v ≡ w
  one_within k m s v w a b =
      let x = more_within k m s v a in
      let y = more_within m k s w b in
      let e : m + k ≡ k + m = omega arith in
      let z = rw e at y in
      cc

  -- ---- against the reading
  pub within_is_read : (k : ℕ) (s : State) (o : Outcome) → turns_made s.openings ≤ A → read_within k A t s ≡ some (comes o)
      → (read_from k t s ≡ some o) × (turns_made (openings_of o) ≤ A)
  unfolding read_from
  within_is_read zero s o l h = absurd (none_at_zero s (comes o) h)
  within_is_read (suc k) s o l h = go (goes k s) (within_is_read k)
    where
      go : Goes k s → ((s : State) (o : Outcome) → turns_made s.openings ≤ A → read_within k A t s ≡ some (comes o) → (read_from k t s ≡ some o) × (turns_made (openings_of o) ≤ A))
          → (and_then (step t s) (λ s₁. read_from k t s₁) ≡ some o) × (turns_made (openings_of o) ≤ A)
      go (further s₁ e m q) ih = let r = ih s₁ o m (sym q ∙ h) in (rw e r.0, r.1)
      go (too_far s₁ e m q) ih = let f : some spent ≡ some (comes o) = sym q ∙ h in let z : ◌≡◌ {A = ℕ} 0 1 = cc in absurd (omega arith)
      go (there p e q) ih =
          let f : some (comes p) ≡ some (comes o) = sym q ∙ h in
          let g : p ≡ o = cc in
          (rw (e, g), let c = stops_so t s p e in let d = ap (λ (x : Outcome). turns_made (openings_of x)) g in omega arith)

  pub read_is_within : (k : ℕ) (s : State) (o : Outcome) → read_from k t s ≡ some o → turns_made (openings_of o) ≤ A → read_within k A t s ≡ some (comes o)
  unfolding read_from
  read_is_within zero s o h l = let z : ◌≡◌ {A = ℕ} 0 1 = cc in absurd (omega arith)
  read_is_within (suc k) s o h l = go (step t s) refl h (λ s₁ d. read_is_within k s₁ o d l)
    where
      go : (x : Step) → step t s ≡ x → and_then x (λ s₁. read_from k t s₁) ≡ some o → ((s₁ : State) → read_from k t s₁ ≡ some o → read_within k A t s₁ ≡ some (comes o))
          → read_within (suc k) A t s ≡ some (comes o)
      go (on s₁) e d ih = step_goes_on k s s₁ e (let m = outcome_made t k s₁ o d in omega arith) ∙ ih s₁ d
      go (stop p) e d ih = let f : p ≡ o = cc in step_stops_there k s p e ∙ ap (λ (x : Outcome). some (comes x)) f

  pub spent_needs_more : (k m : ℕ) (s : State) (o : Outcome) → read_within k A t s ≡ some spent → read_from m t s ≡ some o → A < turns_made (openings_of o)
  spent_needs_more k m s o h r =
      elim (dec_le (turns_made (openings_of o)) A) [
        | yes l ↦ (let e = one_within k m s spent (comes o) h (read_is_within m s o r l) in let z : ◌≡◌ {A = ℕ} 0 1 = cc in absurd (omega arith))
        | no n ↦ omega arith
      ]

-- ---- states on the way
pub reach_within : {t : List ℕ} (A : ℕ) {a b : State} → Reach t a b → turns_made b.openings ≤ A → (m : ℕ) (w : Within) → read_within m A t b ≡ some w
    → (k : ℕ) × (read_within k A t a ≡ some w)
reach_within A here l m w h = (m, h)
reach_within {t} A {a} {b} (then {s₁ = s₁} e p) l m w h =
    let r = reach_within A p l m w h in
    let g = reach_grows p in
    (suc r.0, step_goes_on t A r.0 a s₁ e (omega arith) ∙ r.1)

pub spent_is_all : (t : List ℕ) (A k : ℕ) (s : State) → turns_made s.openings ≤ A → read_within k A t s ≡ some spent → Due t A s
spent_is_all t A zero s l h = absurd (none_at_zero t A s spent h)
spent_is_all t A (suc k) s l h = go (goes t A k s) (spent_is_all t A k)
  where
    go : Goes t A k s → ((s₁ : State) → turns_made s₁.openings ≤ A → read_within k A t s₁ ≡ some spent → Due t A s₁) → Due t A s
    go (further s₁ e m q) ih =
        let d = ih s₁ m (sym q ∙ h) in
        record { last = d.last; reach = then e d.reach; made = d.made; over = d.over; next = d.next; one_more_lem = d.one_more_lem }
    go (too_far s₁ e m q) ih =
        let g = step_grows t s s₁ e in
        let a = g.least in
        let b = g.most in
        record { last = s; reach = here; made = omega arith; over = s₁; next = e; one_more_lem = omega arith }
    go (there o e q) ih = let f : some (comes o) ≡ some spent = sym q ∙ h in let z : ◌≡◌ {A = ℕ} 0 1 = cc in absurd (omega arith)

pub due_is_spent : (t : List ℕ) (A : ℕ) (s : State) → Due t A s → (k : ℕ) × (read_within k A t s ≡ some spent)
due_is_spent t A s d =
    let m = d.made in
    let o = d.one_more_lem in
    reach_within A d.reach (omega arith) 1 spent (step_goes_no_further t A 0 d.last d.over d.next (omega arith))
