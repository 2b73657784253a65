-- The words that firings put on each wire.
--
--   put_on, puts, put_by      the words that a firing puts on a wire
--   history_of                the words that a list of firings puts on a wire, first to last
--   puts_given, puts_nothing  a wire that is given a word gets that word alone; another gets none
--
-- Assumes nothing.
use Rattle.std.proofs.Math.Path.{◌≡◌, ap₂}
use Rattle.std.specs.Prelude.{refl, ◌≢◌, ◌⊎◌, ℕ, eqb}
use Rattle.std.proofs.Common.{sym, ap, ◌∙◌, eq-eqb, ne_eqb}
use Rattle.std.proofs.Math.Logic.{inl, inr, ⊎_elim}
use Rattle.std.proofs.Math.Option.{Option, none, some}
use mathlib.Core.List.{List, [], ◌∷◌, ◌++◌, append-nil}
use native.Mathlib.Omega.{arith}
use Rattle.std.proofs.Math.Decide.{ℕ_discrete}
use Rattle.word.specs.Words.{pick}
use Rattle.step.specs.Kinds.{Output, out0, out1}
use Rattle.step.specs.Firing.{Effect, gives}
use Rattle.state.specs.Net.{Net, effect_at, fire}
use Rattle.confluence.specs.Orders.{history}
use Rattle.confluence.specs.Wired.{Wired}

-- the word given on an output, if that output is wire w
abbrev pub put_on : Option ℕ → Option ℕ → ℕ → List ℕ
put_on none g w = []
put_on (some u) none w = []
put_on (some u) (some x) w = pick (eqb u w) (x ∷ []) []

unfoldable pub puts : Net → ℕ → Effect → ℕ → List ℕ
puts N i e w = put_on (N.output i out0) e.gives0 w ++ put_on (N.output i out1) e.gives1 w

abbrev pub put_by : Net → ℕ → Option Effect → ℕ → List ℕ
put_by N i none w = []
put_by N i (some e) w = puts N i e w

-- what the firing of node i in s puts on wire w
abbrev pub put_at : Net → ℕ → List ℕ → ℕ → List ℕ
put_at N i s w = put_by N i (effect_at N i s) w

abbrev pub history_of : Net → List ℕ → List ℕ → ℕ → List ℕ
history_of N order s w = history (fire N) (put_at N) order s w

-- ---- what a firing puts on one wire

put_here : (w x : ℕ) → put_on (some w) (some x) w ≡ x ∷ []
put_here w x = rw (eq-eqb w w refl)

put_none : (o g : Option ℕ) (w : ℕ) → ((x : ℕ) → o ≡ some w → g ≡ some x → ⊥) → put_on o g w ≡ []
put_none none g w n = refl
put_none (some u) none w n = refl
put_none (some u) (some x) w n = rw (ne_eqb u w (λ e. n x (ap some e) refl))

-- a wire on which node i gives nothing gets nothing
pub puts_nothing : (N : Net) (i : ℕ) (e : Effect) (w : ℕ) → ((k : Output) (x : ℕ) → N.output i k ≡ some w → gives e k ≡ some x → ⊥) → puts N i e w ≡ []
unfolding puts
puts_nothing N i e w n =
    ap₂ {C = List ℕ} (λ a b. a ++ b) (put_none (N.output i out0) e.gives0 w (n out0)) (put_none (N.output i out1) e.gives1 w (n out1))

module _ (N : Net) (wired : Wired N) where
  -- a wire on which it gives x gets x, and that alone
  pub puts_given : (i : ℕ) (e : Effect) (k : Output) (w x : ℕ) → N.output i k ≡ some w → gives e k ≡ some x → puts N i e w ≡ x ∷ []
  unfolding puts
  puts_given i e out0 w x a g =
      ap₂ {C = List ℕ} (λ y z. y ++ z) (ap₂ (λ o h. put_on o h w) a g ∙ put_here w x)
      (put_none (N.output i out1) e.gives1 w (λ y b h. differ (wired.one_writer i i out0 out1 w a b).1))
    where
      differ : out0 ≡ out1 → ⊥
      differ h = let z : ◌≡◌ {A = ℕ} 0 1 = cc in omega arith
  puts_given i e out1 w x a g =
      ap₂ {C = List ℕ} (λ y z. y ++ z)
      (put_none (N.output i out0) e.gives0 w (λ y b h. differ (wired.one_writer i i out1 out0 w a b).1))
      (ap₂ (λ o h. put_on o h w) a g ∙ put_here w x)
    where
      differ : out1 ≡ out0 → ⊥
      differ h = let z : ◌≡◌ {A = ℕ} 0 1 = cc in omega arith

  -- two nodes do not put on one wire
  put_cases : (o g : Option ℕ) (w : ℕ) → (put_on o g w ≡ []) ⊎ (o ≡ some w)
  put_cases none g w = inl refl
  put_cases (some u) none w = inl refl
  put_cases (some u) (some x) w = elim (ℕ_discrete u w) [ yes e ↦ inr (ap some e) | no n ↦ inl (rw (ne_eqb u w n)) ]

  puts_cases : (i : ℕ) (e : Effect) (w : ℕ) → (puts N i e w ≡ []) ⊎ ((k : Output) × (N.output i k ≡ some w))
  unfolding puts
  puts_cases i e w =
      ⊎_elim (λ (a : put_on (N.output i out0) e.gives0 w ≡ []).
      ⊎_elim (λ (b : put_on (N.output i out1) e.gives1 w ≡ []). inl (ap₂ {C = List ℕ} (λ x y. x ++ y) a b)) (λ (b : N.output i out1 ≡ some w). inr (out1, b))
      (put_cases (N.output i out1) e.gives1 w))
      (λ (a : N.output i out0 ≡ some w). inr (out0, a)) (put_cases (N.output i out0) e.gives0 w)

  nothing_first : (x y : List ℕ) → x ≡ [] → x ++ y ≡ y ++ x
  nothing_first x y e = rw e (sym (append-nil y))

  pub puts_in_either_order : (i j : ℕ) (e f : Effect) → i ≢ j → (w : ℕ) → puts N i e w ++ puts N j f w ≡ puts N j f w ++ puts N i e w
  puts_in_either_order i j e f n w = go (puts_cases i e w) (puts_cases j f w)
    where
      go : (puts N i e w ≡ []) ⊎ ((k : Output) × (N.output i k ≡ some w)) → (puts N j f w ≡ []) ⊎ ((k : Output) × (N.output j k ≡ some w))
          → puts N i e w ++ puts N j f w ≡ puts N j f w ++ puts N i e w
      go (inl a) b = nothing_first (puts N i e w) (puts N j f w) a
      go (inr a) (inl b) = sym (nothing_first (puts N j f w) (puts N i e w) b)
      go (inr a) (inr b) = absurd (n (wired.one_writer i j a.0 b.0 w a.1 b.1).0)
