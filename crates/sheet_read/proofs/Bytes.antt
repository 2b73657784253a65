-- Fixed bytes and numbers, read at a place p of a text: what stands from there on, a law for each branch.
--   fixed_short, fixed_other, fixed_go, fixed_all
--   digits_end, digits_stop, digits_go
--   number_end, number_none, number_zero, number_go
--   line_no_key, line_number
-- Assumes nothing.
use Prim.Native.Nat.{ℕ, ◌+◌, ◌-◌, ◌*◌, ◌<◌, ◌≤◌}
use mathlib.Core.Bool.{Bool, true, false, ◌&&◌}
use mathlib.Core.List.{List, ◌∷◌}
use mathlib.Core.Path.{◌≡◌, refl, sym, ◌∙◌}
use native.Mathlib.Omega.{arith}
use native.Mathlib.Numerals.{add-one}
use borrow.Author.Tests.{eq-eqb, ne_eqb, le-leb, lt-leb, leb-true, leb-false}
use lib.Dec.{leb}
use lib.ListN.{get_or, length, drop, drop_of_length-le}
use lib.Seq.{drop-cons}
use Rattle.sheet.specs.Sheet.{feed, word_key}
use Rattle.sheet.specs.Reader.{Read, got, bad, and_then, fixed_from, is_digit, digits_from, number_from, most_word}
use Rattle.std.specs.Prelude.{Ok, Err}
use Rattle.sheet_read.specs.Told.{told, place_of, Reads, line_from, Took, Word, Bad}

pub next : (l : List ℕ) (n : ℕ) → n < length l → drop n l ≡ get_or l n 0 ∷ drop (n + 1) l
next l n h = rw (add-one n) (drop-cons l n 0 h)

-- the answer of a part that ends here
module _ {text : List ℕ} {p most : ℕ} {what : Read ℕ} where
  pub stops : p ≤ length text → what ≡ bad (drop p text) → Reads text (Bad p) most what
  stops h e = record { is = sym e; inside = h; small = omega arith }

  pub reads : {v : ℕ} → v ≤ most → p ≤ length text → what ≡ got v (drop p text) → Reads text (Word v p) most what
  reads q h e = record { is = sym e; inside = h; small = q }

-- the answer of a part that goes on as another one
pub same : {text : List ℕ} {w : Took} {less most : ℕ} {other what : Read ℕ} → Reads text w less other → less ≤ most → other ≡ what → Reads text w most what
same r h e = let s = r.small in record { is = r.is ∙ e; inside = r.inside; small = omega arith }

module _ (text key : List ℕ) (v i p : ℕ) where
  pub fixed_short : i < length key → length text ≤ p → fixed_from (drop i key) v (drop p text) ≡ bad (drop p text)
  unfolding fixed_from
  fixed_short h q = rw (next key i h, drop_of_length-le text q)

  pub fixed_other : i < length key → p < length text → (get_or text p 0 ≡ get_or key i 0 → ⊥) → fixed_from (drop i key) v (drop p text) ≡ bad (drop p text)
  unfolding fixed_from
  fixed_other h q n = rw (next key i h, next text p q, ne_eqb _ _ n)

  pub fixed_go : i < length key → p < length text → get_or text p 0 ≡ get_or key i 0
      → fixed_from (drop i key) v (drop p text) ≡ fixed_from (drop (i + 1) key) v (drop (p + 1) text)
  unfolding fixed_from
  fixed_go h q e = rw (next key i h, next text p q, eq-eqb _ _ e)

  pub fixed_all : length key ≤ i → fixed_from (drop i key) v (drop p text) ≡ got v (drop p text)
  unfolding fixed_from
  fixed_all h = rw (drop_of_length-le key h)

-- ---- digits

-- a digit with which more holds
module _ (b : ℕ) (more : Bool) where
  pub below_digits : b < 48 → false ≡ (is_digit b && more)
  below_digits h = rw (lt-leb 48 b h)

  pub above_digits : 48 ≤ b → 57 < b → false ≡ (is_digit b && more)
  above_digits h q = rw (le-leb 48 b h, lt-leb b 57 q)

  pub on_digit : 48 ≤ b → b ≤ 57 → {s : Bool} → s ≡ more → s ≡ (is_digit b && more)
  on_digit h q e = rw (le-leb 48 b h, le-leb b 57 q) e

  pub both : (is_digit b && more) ≡ true → (48 ≤ b) × (more ≡ true)
  both h = by (leb 48 b) (leb b 57) more refl h
    where
      by : (r s t : Bool) → leb 48 b ≡ r → ((r && s) && t) ≡ true → (48 ≤ b) × (t ≡ true)
      by true true true e h = (leb-true 48 b e, refl)
      by true true false e h = let z : ◌≡◌ {A = ℕ} 0 1 = cc in absurd (omega arith)
      by true false t e h = let z : ◌≡◌ {A = ℕ} 0 1 = cc in absurd (omega arith)
      by false s t e h = let z : ◌≡◌ {A = ℕ} 0 1 = cc in absurd (omega arith)

-- b may stand behind the digits of v
abbrev pub further : ℕ → ℕ → ℕ → Bool
further b v most = leb (10 * v + (b - 48)) most

pub alike : (a b c d : ℕ) → (a ≤ b → c ≤ d) → (c ≤ d → a ≤ b) → leb a b ≡ leb c d
alike a b c d to from = by (leb a b) (leb c d) refl refl
  where
    by : (s t : Bool) → leb a b ≡ s → leb c d ≡ t → s ≡ t
    by true true e f = refl
    by true false e f = let y = to (leb-true a b e) in let z = leb-false c d f in absurd (omega arith)
    by false true e f = let y = from (leb-true c d f) in let z = leb-false a b e in absurd (omega arith)
    by false false e f = refl

pub fitting : (b v most : ℕ) → (is_digit b && further b v most) ≡ true → (48 ≤ b) × (10 * v + (b - 48) ≤ most)
fitting b v most h = let r = both b (further b v most) h in (r.0, leb-true (10 * v + (b - 48)) most r.1)

module _ (text : List ℕ) (most v p : ℕ) where
  pub digits_end : length text ≤ p → digits_from most v (drop p text) ≡ bad (drop p text)
  unfolding digits_from
  digits_end h = rw (drop_of_length-le text h)

  pub digits_stop : {b : ℕ} → p < length text → b ≡ get_or text p 0 → (is_digit b && further b v most) ≡ false → fixed_from feed v (drop p text) ≡ digits_from most v (drop p text)
  unfolding digits_from
  digits_stop h e t = rw (next text p h, ← e, t)

  pub digits_go : {b : ℕ} → p < length text → b ≡ get_or text p 0 → (is_digit b && further b v most) ≡ true
      → digits_from most v (drop p text) ≡ digits_from most (10 * v + (b - 48)) (drop (p + 1) text)
  unfolding digits_from
  digits_go h e t = rw (next text p h, ← e, t)

-- ---- numbers

-- a number can begin with b
abbrev pub first : ℕ → ℕ → ℕ → Bool
first b least most = leb least (b - 48) && leb (b - 48) most

pub beginning : (b least most : ℕ) → (is_digit b && first b least most) ≡ true → (48 ≤ b) × (b - 48 ≤ most)
beginning b least most h = let r = both b (first b least most) h in (r.0, by (leb least (b - 48)) (leb (b - 48) most) refl r.1)
  where
    by : (s t : Bool) → leb (b - 48) most ≡ t → (s && t) ≡ true → b - 48 ≤ most
    by true true e h = leb-true (b - 48) most e
    by true false e h = let z : ◌≡◌ {A = ℕ} 0 1 = cc in absurd (omega arith)
    by false t e h = let z : ◌≡◌ {A = ℕ} 0 1 = cc in absurd (omega arith)

module _ (text : List ℕ) (least most p : ℕ) where
  pub number_end : length text ≤ p → number_from least most (drop p text) ≡ bad (drop p text)
  unfolding number_from
  number_end h = rw (drop_of_length-le text h)

  module _ {b : ℕ} (h : p < length text) (e : b ≡ get_or text p 0) where
    pub number_none : (is_digit b && first b least most) ≡ false → number_from least most (drop p text) ≡ bad (drop p text)
    unfolding number_from
    number_none t = rw (next text p h, ← e, t)

    pub number_zero : (is_digit b && first b least most) ≡ true → b ≡ 48 → fixed_from feed 0 (drop (p + 1) text) ≡ number_from least most (drop p text)
    unfolding number_from
    number_zero t z = rw (next text p h, ← e, t, eq-eqb b 48 z)

    pub number_go : (is_digit b && first b least most) ≡ true → (b ≡ 48 → ⊥) → digits_from most (b - 48) (drop (p + 1) text) ≡ number_from least most (drop p text)
    unfolding number_from
    number_go t z = rw (next text p h, ← e, t, ne_eqb b 48 z)

-- ---- one part behind another

-- whether a reader came through
abbrev pub Goes : Took → Type 0
Goes (Ok x) = Unit {0}
Goes (Err s) = ⊥

abbrev pub Stops : Took → Type 0
Stops (Ok x) = ⊥
Stops (Err s) = Unit {0}

-- a part that stops is all there is
pub no_more : {B : Type 0} (text : List ℕ) (w : Took) (k : ℕ → List ℕ → Read B) → Stops w → and_then (told text w) k ≡ bad (drop (place_of w) text)
no_more text (Ok x) k h = absurd h
no_more text (Err s) k h = refl

pub stopped : (text : List ℕ) (w : Took) (most : ℕ) {what : Read ℕ} → Stops w → place_of w ≤ length text → bad (drop (place_of w) text) ≡ what → Reads text w most what
stopped text (Ok x) most h q e = absurd h
stopped text (Err s) most h q e = stops q (sym e)

module _ (text : List ℕ) (at k : ℕ) where
  pub line_no_key : {w : Took} → Reads text w k (fixed_from (word_key k) k (drop at text)) → Stops w → Reads text w most_word (line_from k (drop at text))
  unfolding line_from
  line_no_key {w} r t = stopped text w most_word t r.inside (sym (rw (← r.is) (no_more text w (λ _ rest. number_from 0 most_word rest) t)))

  pub line_number : {w n : Took} {u p : ℕ} → Reads text w k (fixed_from (word_key k) k (drop at text)) → w ≡ Word u p
      → Reads text n most_word (number_from 0 most_word (drop p text)) → Reads text n most_word (line_from k (drop at text))
  unfolding line_from
  line_number r e n = same n (omega arith) (sym (rw (← r.is, e)))
