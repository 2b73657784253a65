-- Lists written one behind another, as every loop here writes them.
--
--   Written               the lists of the numbers below i stand from `at` on, and p is the place behind them
--   nothing_written, room_left, one_written       how a loop begins, what room it has for the next list, and how it goes on
--   all_written           what it leaves
--   when, unless          a list that is written under a condition
--
-- Assumes nothing.
use Prim.Native.Nat.{ℕ, zero, suc, ◌+◌, ◌<◌, ◌≤◌}
use mathlib.Core.Path.{◌≡◌, refl, ap, ◌∙◌}
use mathlib.Core.Logic.{inl, inr}
use mathlib.Core.Bool.{Bool, true, false, cond}
use mathlib.Core.List.{List, [], ◌++◌}
use native.Mathlib.Omega.{arith}
use lib.ListN.{length, length-append}
use lib.Seq.{sets, length-sets}
use Rattle.graph.specs.Below.{joined, joined_more}
use Rattle.lowered.specs.Lists.{below_or_last}
use Rattle.forking.specs.Written.{sets_append, written_more}

rises : (f : ℕ → List ℕ) (i n : ℕ) → i < n → length (joined f i) + length (f i) ≤ length (joined f n)
unfolding joined
rises f i zero l = absurd (omega arith)
rises f i (suc n) l =
    let a = length-append (joined f n) (f n) in
    elim (below_or_last i n l) [
      | inl q ↦ (let r = rises f i n q in omega arith)
      | inr q ↦ (let e : length (joined f i) ≡ length (joined f n) = ap (λ (k : ℕ). length (joined f k)) q in
          let d : length (f i) ≡ length (f n) = ap (λ (k : ℕ). length (f k)) q in
          omega arith)
    ]

pub record Written (f : ℕ → List ℕ) (at i p : ℕ) (before now : List ℕ) : Type 0 where
  pub place : p ≡ at + length (joined f i)
  pub words : now ≡ sets before at (joined f i)

module _ (f : ℕ → List ℕ) (at : ℕ) where
  pub nothing_written : (l : List ℕ) → Written f at 0 at l l
  unfolding joined
  nothing_written l = record { place = omega arith; words = refl }

  module _ {i p : ℕ} {before l : List ℕ} (W : Written f at i p before l) where
    pub same_long : length l ≡ length before
    same_long = ap length W.words ∙ length-sets before at (joined f i)

    pub room_left : (n : ℕ) → i < n → at + length (joined f n) ≤ length before → (xs : List ℕ) → xs ≡ f i → p + length xs ≤ length l
    room_left n h r xs e =
        let s = rises f i n h in
        let k = same_long in
        let w = W.place in
        let d = ap length e in
        omega arith

    pub one_written : {q : ℕ} {after : List ℕ} (xs : List ℕ) → xs ≡ f i → q ≡ p + length xs → after ≡ sets l p xs → Written f at (i + 1) q before after
    one_written xs e d h =
        let m = ap length (joined_more f i) in
        let a = length-append (joined f i) (f i) in
        let w = W.place in
        let x = ap length e in
        record { place = omega arith; words = written_more f i at before W.words W.place (h ∙ ap (sets l p) e) }

    pub all_written : (n : ℕ) → i ≡ n → (p ≡ at + length (joined f n)) × (l ≡ sets before at (joined f n))
    all_written n e = (W.place ∙ ap (λ (k : ℕ). at + length (joined f k)) e, W.words ∙ ap (λ (k : ℕ). sets before at (joined f k)) e)

-- ---- two lists, one behind the other
pub two_written : (xs ys l : List ℕ) (p q : ℕ) {l1 l2 : List ℕ} → l1 ≡ sets l p xs → l2 ≡ sets l1 q ys → q ≡ p + length xs → l2 ≡ sets l p (xs ++ ys)
two_written xs ys l p q e d h = d ∙ ap (λ (x : List ℕ). sets x q ys) e ∙ sets_append xs l ys p q h

-- ---- a list under a condition
module _ (b : Bool) (xs l : List ℕ) (at : ℕ) where
  pub room_when : b ≡ true → at + length (cond b xs []) ≤ length l → at + length xs ≤ length l
  room_when e h = rw e at h

  pub when : {p : ℕ} {after : List ℕ} → b ≡ true → p ≡ at + length xs → after ≡ sets l at xs → (p ≡ at + length (cond b xs [])) × (after ≡ sets l at (cond b xs []))
  when e d h = rw e (d, h)

  pub unless : b ≡ false → (at ≡ at + length (cond b xs [])) × (l ≡ sets l at (cond b xs []))
  unless e = rw e (omega arith, refl)
