-- Every wire has its ledger: at any moment of any order, what stood on it and then the words put on it are the words taken from it and then
-- what stands there.
--
--   stands                    the word on a wire, as a list of one or none
--   took, taken_of             the words that a firing takes from a wire, and that a list of firings takes, first to last
--
-- Assumes nothing.
use Rattle.std.proofs.Math.Path.{◌≡◌, ap, ap₂}
use Rattle.std.specs.Prelude.{refl, ◌≢◌, Bool, true, false, ℕ, eqb}
use Rattle.std.proofs.Common.{◌∙◌, arith, eq-eqb, ne_eqb}
use Rattle.std.proofs.Math.Option.{Option, none, some}
use mathlib.Core.List.{List, [], ◌++◌, append-nil}
use Rattle.word.specs.Words.{pick}
use Rattle.step.specs.Kinds.{Input, in0, in1, in2}
use Rattle.step.specs.Firing.{Effect, takes}
use Rattle.graph.specs.Graph.{listed}
use Rattle.state.specs.State.{token_at}
use Rattle.state.specs.Net.{Net, effect_at, fire}
use Rattle.confluence.specs.Orders.{history}
use Rattle.confluence.specs.Wired.{Wired}

abbrev pub stands : List ℕ → ℕ → List ℕ
stands s w = listed (token_at s w)

-- the word taken through an input, if that input is wire w
abbrev pub taken_from : List ℕ → Option ℕ → Bool → ℕ → List ℕ
taken_from s none b w = []
taken_from s (some u) false w = []
taken_from s (some u) true w = pick (eqb u w) (stands s w) []

unfoldable pub took : Net → ℕ → List ℕ → Effect → ℕ → List ℕ
took N i s e w =
    taken_from s (N.input i in0) e.takes0 w ++ (taken_from s (N.input i in1) e.takes1 w ++ taken_from s (N.input i in2) e.takes2 w)

abbrev pub took_by : Net → ℕ → List ℕ → Option Effect → ℕ → List ℕ
took_by N i s none w = []
took_by N i s (some e) w = took N i s e w

abbrev pub took_at : Net → ℕ → List ℕ → ℕ → List ℕ
took_at N i s w = took_by N i s (effect_at N i s) w

-- taken words are listed as put words are
abbrev pub taken_of : Net → List ℕ → List ℕ → ℕ → List ℕ
taken_of N order s w = history (fire N) (took_at N) order s w

-- ---- what a firing takes from one wire

take_here : (s : List ℕ) (o : Option ℕ) (b : Bool) (w : ℕ) → o ≡ some w → b ≡ true → taken_from s o b w ≡ stands s w
take_here s o b w a t = ap₂ (λ o b. taken_from s o b w) a t ∙ rw (eq-eqb w w refl)

take_none : (s : List ℕ) (o : Option ℕ) (b : Bool) (w : ℕ) → (o ≡ some w → b ≡ true → ⊥) → taken_from s o b w ≡ []
take_none s none b w n = refl
take_none s (some u) false w n = refl
take_none s (some u) true w n = rw (ne_eqb u w (λ e. n (ap some e) refl))

pub took_nothing : (N : Net) (i : ℕ) (s : List ℕ) (e : Effect) (w : ℕ) → ((k : Input) → N.input i k ≡ some w → takes e k ≡ true → ⊥) → took N i s e w ≡ []
unfolding took
took_nothing N i s e w n =
    rw (take_none s (N.input i in0) e.takes0 w (n in0), take_none s (N.input i in1) e.takes1 w (n in1), take_none s (N.input i in2) e.takes2 w (n in2))

module _ (N : Net) (wired : Wired N) where
  -- one reader: no other input of the node is the same wire
  other_input : (i : ℕ) (s : List ℕ) (e : Effect) (k l : Input) (w : ℕ) → N.input i k ≡ some w → k ≢ l → taken_from s (N.input i l) (takes e l) w ≡ []
  other_input i s e k l w a n = take_none s (N.input i l) (takes e l) w (λ b t. n (wired.one_reader i i k l w a b).1)

  pub took_taken : (i : ℕ) (s : List ℕ) (e : Effect) (k : Input) (w : ℕ) → N.input i k ≡ some w → takes e k ≡ true → took N i s e w ≡ stands s w
  unfolding took
  took_taken i s e in0 w a t =
      rw (
        take_here s (N.input i in0) e.takes0 w a t,
        other_input i s e in0 in1 w a (λ h. let z : ◌≡◌ {A = ℕ} 0 1 = cc in omega arith),
        other_input i s e in0 in2 w a (λ h. let z : ◌≡◌ {A = ℕ} 0 1 = cc in omega arith),
      ) (append-nil (stands s w))
  took_taken i s e in1 w a t =
      rw (
        other_input i s e in1 in0 w a (λ h. let z : ◌≡◌ {A = ℕ} 0 1 = cc in omega arith),
        take_here s (N.input i in1) e.takes1 w a t,
        other_input i s e in1 in2 w a (λ h. let z : ◌≡◌ {A = ℕ} 0 1 = cc in omega arith),
      ) (append-nil (stands s w))
  took_taken i s e in2 w a t =
      rw (
        other_input i s e in2 in0 w a (λ h. let z : ◌≡◌ {A = ℕ} 0 1 = cc in omega arith),
        other_input i s e in2 in1 w a (λ h. let z : ◌≡◌ {A = ℕ} 0 1 = cc in omega arith),
        take_here s (N.input i in2) e.takes2 w a t,
      )
