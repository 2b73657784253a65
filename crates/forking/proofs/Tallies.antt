-- Uses as the code tallies them, the legs it gives them, and the free numbers it notes.
-- Assumes nothing.
use Prim.Native.Nat.{ℕ, suc, ◌+◌, ◌-◌, ◌*◌, ◌<◌, ◌≤◌}
use mathlib.Core.Path.{◌≡◌, sym, ap, ◌∙◌, subst}
use mathlib.Core.Logic.{inl, inr}
use mathlib.Core.List.{List, [], ◌∷◌}
use native.Mathlib.Omega.{arith}
use native.Mathlib.Decide.{ℕ_discrete}
use borrow.Author.Tests.{eq-eqb, ne_eqb, le-leb, lt-leb, lt-ltb, le-ltb}
use lib.ListN.{length, get_or, set, length-set}
use lib.Seq.{get_or-set_same, get_or-set_other}
use Rattle.graph.specs.Below.{joined}
use Rattle.graph.specs.Graph.{absent}
use Rattle.laid.specs.Counts.{leg_at}
use Rattle.forking.specs.Tallied.{Place, Below, one_more, tallied, tallied_below}
use Rattle.forking.specs.Written.{row_inputs, row_outs, stand_of, uses_of}

pub placed : {x : ℕ} → Place x → (x ≡ absent → ⊥) → x < 8192
placed (inl e) n = absurd (n e)
placed (inr h) n = h

pub looser : {m n : ℕ} {table : List ℕ} → Below m table → m ≤ n → Below n table
looser {m} {n} {table} h l = record { long = h.long; low = low }
  where
    low : (w : ℕ) → w < 8192 → get_or table w 0 ≤ n
    low w b = let s = h.low w b in omega arith

pub one_more_below : {m n : ℕ} {seen s1 : List ℕ} (x : ℕ) → Below m seen → m + 1 ≤ n → s1 ≡ one_more seen x → Below n s1
unfolding tallied
one_more_below {n = n} {seen = seen} x h l e = subst (λ (s : List ℕ). Below n s) (sym e) (tallied_below seen (x ∷ []) h l)

pub tally_below : {m n : ℕ} {s1 : List ℕ} (seen xs : List ℕ) → Below m seen → s1 ≡ tallied seen xs → m + length xs ≤ n → Below n s1
tally_below {n = n} seen xs h e l = subst (λ (s : List ℕ). Below n s) (sym e) (tallied_below seen xs h l)

-- ---- one use

pub used : (seen : List ℕ) {w x : ℕ} → w ≡ x → (x ≡ absent → ⊥) → set seen w (get_or seen w 0 + 1) ≡ one_more seen x
unfolding one_more
used seen {w} {x} e n = rw (ne_eqb x absent n, e)

pub unused : (seen : List ℕ) {x : ℕ} → x ≡ absent → seen ≡ one_more seen x
unfolding one_more
unused seen {x} e = rw (eq-eqb x absent e)

pub three_uses : (s : List ℕ) (x0 x1 x2 : ℕ) {s1 s2 s3 : List ℕ} → s1 ≡ one_more s x0 → s2 ≡ one_more s1 x1 → s3 ≡ one_more s2 x2
    → s3 ≡ tallied s (x0 ∷ x1 ∷ x2 ∷ [])
unfolding tallied
three_uses s x0 x1 x2 a b c = rw (c, b, a)

pub one_use : (s : List ℕ) (x : ℕ) {s1 : List ℕ} → s1 ≡ one_more s x → s1 ≡ tallied s (x ∷ [])
unfolding tallied
one_use s x e = e

-- ---- one leg

module _ (x f k j : ℕ) where
  pub leg_whole : k ≤ 1 → x ≡ leg_at x f k j
  unfolding leg_at
  leg_whole h = rw (le-leb k 1 h)

  pub leg_first : 1 < k → j + 1 < k → f + 2 * j ≡ leg_at x f k j
  unfolding leg_at
  leg_first h l = rw (lt-leb k 1 h, lt-ltb (suc j) k (omega arith))

  pub leg_last : 1 < k → k ≤ j + 1 → f + 2 * (k - 2) + 1 ≡ leg_at x f k j
  unfolding leg_at
  leg_last h l = rw (lt-leb k 1 h, le-ltb (suc j) k (omega arith))

module _ (free uses seen : List ℕ) where
  pub stands_nowhere : {x : ℕ} → x ≡ absent → absent ≡ stand_of free uses seen x
  unfolding stand_of
  stands_nowhere {x} e = rw (eq-eqb x absent e)

  pub stands_here : {w x r : ℕ} → w ≡ x → (x ≡ absent → ⊥) → r ≡ leg_at x (get_or free w 0) (get_or uses w 0) (get_or seen w 0) → r ≡ stand_of free uses seen x
  unfolding stand_of
  stands_here {w} {x} e n h = rw (ne_eqb x absent n, ← e) (h ∙ ap (λ (z : ℕ). leg_at z (get_or free w 0) (get_or uses w 0) (get_or seen w 0)) (sym e))

-- ---- a table filled place by place

pub below_set : {m : ℕ} {t : List ℕ} (j v : ℕ) → Below m t → v ≤ m → Below m (set t j v)
below_set {m} {t} j v h l = record { long = length-set t j v ∙ h.long; low = low }
  where
    low : (w : ℕ) → w < 8192 → get_or (set t j v) w 0 ≤ m
    low w b =
        elim (ℕ_discrete j w) [
          | yes z ↦ subst (λ (x : ℕ). get_or (set t j v) x 0 ≤ m) z (let q = h.long in let e = get_or-set_same t j v 0 (omega arith) in omega arith)
          | no z ↦ let e = get_or-set_other t j w v 0 (λ y. z (sym y)) in let s = h.low w b in omega arith
        ]

-- ---- all uses

pub all_uses : (rows : List ℕ) (nodes : ℕ) (outs : List ℕ) (results : ℕ) (none : List ℕ) {s1 s2 : List ℕ} → s1 ≡ tallied none (joined (row_inputs rows) nodes)
    → s2 ≡ tallied s1 (joined (row_outs outs) results) → s2 ≡ uses_of rows nodes outs results none
unfolding uses_of
all_uses rows nodes outs results none e h = h ∙ ap (λ (s : List ℕ). tallied s (joined (row_outs outs) results)) e
