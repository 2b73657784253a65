-- Runs of stores, and what the writers of a line put.
-- Main names: `sets_append`, `behind`: a writer's work behind another's is the work of both, and
-- `Left`: what a loop of writers keeps.
-- Assumes nothing.
use Prim.Native.Nat.{ℕ, suc, ◌+◌, ◌/◌, ◌%◌, ◌<◌, ◌≤◌}
use mathlib.Core.List.{List, [], ◌∷◌, ◌++◌, append_assoc}
use mathlib.Core.Path.{◌≡◌, sym, ap, ◌∙◌}
use native.Mathlib.Omega.{arith}
use native.Mathlib.Nat.{add-zero, add-suc, suc-add}
use lib.ListN.{length, set, take, drop, length-append}
use lib.Seq.{sets, sets-eq, drop-drop}
use borrow.Rule.Slice.PartMut.{put_mid}
use Rattle.sheet.specs.Sheet.{decimal, line_of, feed}
use Rattle.sheet.specs.Decimal.{one_digit, more_digits}

pub room : (v : ℕ) → 10 ≤ v → v < 4294967296 → length (decimal v) ≡ length (decimal (v / 10)) + 1
room v h q = rw (more_digits v h q, length-append)

-- a run of stores after another
pub sets_append : (l : List ℕ) (i : ℕ) (xs ys : List ℕ) → sets (sets l i xs) (i + length xs) ys ≡ sets l i (xs ++ ys)
sets_append l i [] ys = rw (add-zero i)
sets_append l i (x ∷ xs) ys = rw (add-suc i (length xs), ← suc-add i (length xs)) (sets_append (set l i x) (suc i) xs ys)

module _ (l : List ℕ) (at v : ℕ) where
  pub put_one : v < 10 → (set l at (48 + v) ≡ sets l at (decimal v)) × (at + 1 ≡ at + length (decimal v))
  put_one h = (rw (one_digit v h), rw (one_digit v h))

  pub put_more : {l₁ : List ℕ} {p : ℕ} → 10 ≤ v → v < 4294967296 → l₁ ≡ sets l at (decimal (v / 10)) → p ≡ at + length (decimal (v / 10))
      → (set l₁ p (48 + v % 10) ≡ sets l at (decimal v)) × (p + 1 ≡ at + length (decimal v))
  put_more h q e f =
      (rw (more_digits v h q, e, f) (sets_append l at (decimal (v / 10)) ((48 + v % 10) ∷ [])), rw (more_digits v h q, f, length-append) (omega arith))

-- a part of a list that was overwritten whole
pub part_written : (l xs : List ℕ) (at k : ℕ) {ys : List ℕ} → ys ≡ xs → k ≡ length xs → at + length xs ≤ length l → put_mid at k l ys ≡ sets l at xs
part_written l xs at k e q h = rw (e, q, sets-eq xs l at h, drop-drop (length xs) at l) (sym (append_assoc (take at l) xs (drop (at + length xs) l)))

-- What each writer promises: these bytes stand from here on, the rest stays, and the place behind them is answered.
abbrev pub Put : List ℕ → ℕ → List ℕ → List ℕ → ℕ → Type 0
Put l at xs l₁ p = (l₁ ≡ sets l at xs) × (p ≡ at + length xs)

pub behind : (l : List ℕ) (at : ℕ) (xs ys : List ℕ) {l₁ l₂ : List ℕ} {p q : ℕ} → Put l at xs l₁ p → Put l₁ p ys l₂ q → Put l at (xs ++ ys) l₂ q
behind l at xs ys {l₁} {l₂} {p} {q} (e, f) (g, h) =
    (g ∙ rw (e, f) (sets_append l at xs ys), rw length-append (omega arith))

-- A loop that puts xs from `at` on has come to place p, and has ys left to put there. The rest of the room is the room for ys.
pub record Left (l : List ℕ) (at : ℕ) (xs l₁ : List ℕ) (p : ℕ) (ys : List ℕ) : Type 0 where
  pub bytes : sets l₁ p ys ≡ sets l at xs
  pub place : p + length ys ≡ at + length xs

pub left_all : (l : List ℕ) (at : ℕ) {xs ys : List ℕ} → ys ≡ xs → Left l at xs l at ys
left_all l at {xs} {ys} e = record { bytes = ap (sets l at) e; place = ap (λ (z : List ℕ). at + length z) e }

module _ {l : List ℕ} {at : ℕ} {xs l₁ : List ℕ} {p : ℕ} {ys : List ℕ} (h : Left l at xs l₁ p ys) where
  pub left_room : (y zs : List ℕ) {n : ℕ} → ys ≡ y ++ zs → at + length xs ≤ n → p + length y ≤ n
  left_room y zs e q = let f = h.place in let m = ap length e in let r = length-append y zs in omega arith

  pub left_less : (y zs : List ℕ) {l₂ : List ℕ} {q : ℕ} → ys ≡ y ++ zs → Put l₁ p y l₂ q → Left l at xs l₂ q zs
  left_less y zs {l₂} {q} e (g, d) = record {
    bytes = rw (g, d) (sets_append l₁ p y zs) ∙ ap (sets l₁ p) (sym e) ∙ h.bytes;
    place = let f = h.place in let m = ap length e in let r = length-append y zs in omega arith;
  }

  pub left_none : ys ≡ [] → Put l at xs l₁ p
  left_none e = (ap (sets l₁ p) (sym e) ∙ h.bytes, let f = h.place in let m = ap length e in omega arith)

-- a line: its key, its value and its end
pub line_room : (key value : List ℕ) → length (line_of key value) ≡ length key + length value + 1
unfolding line_of
line_room key value = simp length-append (omega arith)

pub line_put : (l : List ℕ) (at : ℕ) (key value : List ℕ) {l₁ l₂ l₃ : List ℕ} {p q r : ℕ}
    → Put l at key l₁ p → Put l₁ p value l₂ q → Put l₂ q feed l₃ r → Put l at (line_of key value) l₃ r
unfolding line_of
line_put l at key value {l₁} {l₂} {l₃} {p} {q} {r} a b c = behind l at key (value ++ feed) a (behind l₁ p value feed b c)
