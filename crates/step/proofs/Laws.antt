-- What the code's proofs need: a flag that is not 0 is true, a phase past a machine's last is not ready, and a step is what is decided, when it
-- is ready (`step_waits`, `step_fires`, `step_blocked`).
-- Assumes nothing.
use mathlib.Core.Path.{◌≡◌, refl, sym, ap, ◌∙◌}
use mathlib.Core.Bool.{Bool, true, false, ◌&&◌}
use mathlib.Core.Option.{Option, none, some}
use Rattle.std.specs.Prelude.{List}
use Prim.Native.Nat.{ℕ, zero, suc, ◌<◌}
use native.Mathlib.Omega.{arith}
use Rattle.step.specs.Kinds.{Kind, kind_of, no_kind_past_8}
use Rattle.step.specs.Firing.{Program, stop, fillable}
use Rattle.step.specs.Machines.{program, step, step_by, step_of}
use Rattle.step.specs.Shown.{shown, view_of, effect_of, words_seen, words_in, words_of, decided_by, decided_of, token_of, ready, when_ready, unless, ready_apart}
use Rattle.step.specs.declared.Record.{Record}
use Rattle.step.specs.declared.Seen.{Seen}
use Rattle.step.specs.declared.Act.{Act}
use Rattle.std.specs.Prelude.{get_or, Option as Maybe, None, Some, is_some}

-- a flag that is not 0
pub true_flag : {f : ℕ} → (f ≡ 0 → ⊥) → (k : ℕ) × (f ≡ suc k)
true_flag {f = zero} h = absurd (h refl)
true_flag {f = suc f} h = (f, refl)

module _ (f : ℕ → Program) where
  pub past_0 : ((p : ℕ) → f (suc p) ≡ stop) → (p : ℕ) → (p ≡ 0 → ⊥) → f p ≡ stop
  past_0 s zero h = absurd (h refl)
  past_0 s (suc p) h = s p

  pub past_1 : ((p : ℕ) → f (suc (suc p)) ≡ stop) → (p : ℕ) → (p ≡ 0 → ⊥) → (p ≡ 1 → ⊥) → f p ≡ stop
  past_1 s zero h k = absurd (h refl)
  past_1 s (suc zero) h k = absurd (k refl)
  past_1 s (suc (suc p)) h k = s p

  pub past_2 : ((p : ℕ) → f (suc (suc (suc p))) ≡ stop) → (p : ℕ) → (p ≡ 0 → ⊥) → (p ≡ 1 → ⊥) → (p ≡ 2 → ⊥) → f p ≡ stop
  past_2 s zero h k l = absurd (h refl)
  past_2 s (suc zero) h k l = absurd (k refl)
  past_2 s (suc (suc zero)) h k l = absurd (l refl)
  past_2 s (suc (suc (suc p))) h k l = s p

-- a number that is none of 0 to 8
past_3 : (k : ℕ) → (k ≡ 0 → ⊥) → (k ≡ 1 → ⊥) → (k ≡ 2 → ⊥) → (k ≡ 3 → ⊥) → 3 < k
past_3 k a b c d = omega arith

past_8 : (k : ℕ) → 3 < k → (k ≡ 4 → ⊥) → (k ≡ 5 → ⊥) → (k ≡ 6 → ⊥) → (k ≡ 7 → ⊥) → (k ≡ 8 → ⊥) → 8 < k
past_8 k l e f g h i = omega arith

pub no_kind_lem : (k : ℕ) → (k ≡ 0 → ⊥) → (k ≡ 1 → ⊥) → (k ≡ 2 → ⊥) → (k ≡ 3 → ⊥) → (k ≡ 4 → ⊥) → (k ≡ 5 → ⊥) → (k ≡ 6 → ⊥) → (k ≡ 7 → ⊥) → (k ≡ 8 → ⊥)
    → kind_of k ≡ none
no_kind_lem k a b c d e f g h i = no_kind_past_8 k (past_8 k (past_3 k a b c d) e f g h i)

-- ---- readiness

pub fillable_token : (t : Maybe ℕ) (r : Bool) → fillable (token_of t) r ≡ unless (is_some t) r
fillable_token None r = refl
fillable_token (Some x) r = refl

-- `a && b`, where b is asked only if a is true
pub both_asked : {a v : Bool} (b : Bool) → a ≡ true → v ≡ b → v ≡ (a && b)
both_asked b h e = rw (h, e)

pub first_fails : {a v : Bool} (b : Bool) → a ≡ false → v ≡ a → v ≡ (a && b)
first_fails b h e = rw (e, h)

all_asked : (a b d e f : Bool) → ((((a && b) && d) && e) && f) ≡ ((a && (b && d)) && (e && f))
all_asked true true true e f = refl
all_asked true true false e f = refl
all_asked true false d e f = refl
all_asked false b d e f = refl

pub ready_is : (s : Seen) (a : Act) {t0 t1 t2 t3 r : Bool}
    → t0 ≡ unless (get_or a.takes 0 false) (is_some (get_or s.inputs 0 None))
    → t1 ≡ (t0 && unless (get_or a.takes 1 false) (is_some (get_or s.inputs 1 None)))
    → t2 ≡ (t1 && unless (get_or a.takes 2 false) (is_some (get_or s.inputs 2 None)))
    → t3 ≡ (t2 && unless (is_some (get_or a.gives 0 None)) (get_or s.room 0 false))
    → r ≡ (t3 && unless (is_some (get_or a.gives 1 None)) (get_or s.room 1 false))
    → r ≡ ready s (effect_of a)
unfolding ready
ready_is s a e0 e1 e2 e3 e4 =
    simp (e4, e3, e2, e1, e0, fillable_token (get_or a.gives 0 None) (get_or s.room 0 false), fillable_token (get_or a.gives 1 None) (get_or s.room 1 false), all_asked)

-- ---- the step: what is decided, when it is ready

by_kind : (o : Option Kind) (code : ℕ) (s : Seen) (r : Record) → step_by o code (view_of s r) ≡ when_ready s (decided_by o code r (words_of s))
unfolding step
by_kind none code s r = refl
by_kind (some κ) code s r = ready_apart (program κ code r) s r

module _ (kind code : ℕ) (s : Seen) (r : Record) (f : Maybe Act) {ws : List ℕ} (q : ws ≡ words_seen s) (d : shown f ≡ decided_of kind code r (words_in ws)) where
  whole : step_of kind code (view_of s r) ≡ when_ready s (shown f)
  whole = by_kind (kind_of kind) code s r ∙ ap (when_ready s) (ap (λ us. decided_of kind code r (words_in us)) (sym q) ∙ sym d)

  pub step_waits : f ≡ None → none ≡ step_of kind code (view_of s r)
  step_waits e = sym (whole ∙ rw e)

  pub step_fires : {a : Act} {t : Bool} → f ≡ Some a → t ≡ ready s (effect_of a) → t ≡ true → some (effect_of a) ≡ step_of kind code (view_of s r)
  step_fires e t h = sym (whole ∙ rw (e, ← t, h))

  pub step_blocked : {a : Act} {t : Bool} → f ≡ Some a → t ≡ ready s (effect_of a) → t ≡ false → none ≡ step_of kind code (view_of s r)
  step_blocked e t h = sym (whole ∙ rw (e, ← t, h))
