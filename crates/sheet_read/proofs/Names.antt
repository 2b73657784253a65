-- The kinds' names, one after the other, and how far the text goes on with one of them.
--   farther_of            the farther of two places
--   names_begin, names_on, names_found, names_end
--   name_room, start_room, due   the due bytes in a buffer
-- Assumes nothing.
use Prim.Native.Nat.{ℕ, suc, ◌+◌, ◌-◌, ◌<◌, ◌≤◌}
use mathlib.Core.Bool.{Bool, true, false, cond}
use mathlib.Core.List.{List, [], ◌∷◌, ◌++◌}
use mathlib.Core.Path.{◌≡◌, refl, sym, ap, ◌∙◌}
use mathlib.Core.Logic.{◌⊎◌, inl, inr}
use native.Mathlib.Omega.{arith}
use native.Mathlib.Numerals.{add-one}
use borrow.Author.Tests.{le-leb, lt-leb, leb-true, leb-false}
use lib.Dec.{eqb, leb}
use lib.ListN.{get_or, length, take, drop, length-append, length-drop, drop_of_length-le}
use lib.Seq.{sets, sets-eq, length-sets, drop-cons, take_at}
use Rattle.table.specs.Rows.{RowKind, row_kinds, no_kind, name_of, of_each}
use Rattle.sheet.specs.Sheet.{decimal, line_of, feed, row_key, kind_key}
use Rattle.sheet.specs.Decimal.{ten_digits}
use Rattle.sheet.specs.Reader.{Read, got, bad, farthest, fixed_from, names_from}
use Rattle.sheet_read.specs.Told.{told, Reads, Took, Bad}
use Rattle.std.specs.Prelude.{Ok, Err}
use Rattle.sheet_read.proofs.Bytes.{Goes, stops}

pub farther_of : (text : List ℕ) (p q : ℕ) → p ≤ length text → q ≤ length text
    → farthest {A = ℕ} (bad (drop p text)) (bad (drop q text)) ≡ bad (drop (cond (leb q p) p q) text)
farther_of text p q h i = rw (length-drop p text, length-drop q text) (by (leb q p) refl)
  where
    by : (s : Bool) → leb q p ≡ s → ◌≡◌ {A = Read ℕ} (bad (cond (leb (length text - p) (length text - q)) (drop p text) (drop q text))) (bad (drop (cond s p q) text))
    by true e = let z = leb-true q p e in rw (le-leb (length text - p) (length text - q) (omega arith))
    by false e = let z = leb-false q p e in rw (lt-leb (length text - p) (length text - q) (omega arith))

-- the best of three, from either side
best : (a b : List ℕ) (x : Read ℕ) → farthest (bad a) (farthest (bad b) x) ≡ farthest (farthest (bad a) (bad b)) x
best a b (got v r) = refl
best a b (bad c) = by (leb (length b) (length c)) (leb (length a) (length b)) refl refl
  where
    by : (s t : Bool) → leb (length b) (length c) ≡ s → leb (length a) (length b) ≡ t
        → ◌≡◌ {A = Read ℕ} (bad (cond (leb (length a) (length (cond s b c))) a (cond s b c))) (bad (cond (leb (length (cond t a b)) (length c)) (cond t a b) c))
    by true true e f = let y = leb-true (length b) (length c) e in let z = leb-true (length a) (length b) f in rw (f, le-leb (length a) (length c) (omega arith))
    by true false e f = rw (e, f)
    by false true e f = refl
    by false false e f = let y = leb-false (length b) (length c) e in let z = leb-false (length a) (length b) f in rw (e, lt-leb (length a) (length c) (omega arith))

-- a part stops at its beginning, or behind it
Near : Read ℕ → List ℕ → Type 0
Near (got v rest) text = Unit {0}
Near (bad rest) text = (rest ≡ text) ⊎ (length rest < length text)

later : (b : ℕ) (text : List ℕ) (x : Read ℕ) → Near x text → Near x (b ∷ text)
unfolding Near
later b text (got v rest) n = tt
later b text (bad rest) (inl e) = inr (rw e (omega arith))
later b text (bad rest) (inr h) = inr (omega arith)

near : (ks : List ℕ) (v : ℕ) (text : List ℕ) → Near (fixed_from ks v text) text
unfolding fixed_from Near
near [] v text = tt
near (k ∷ ks) v [] = inl refl
near (k ∷ ks) v (b ∷ text) = by (eqb b k) (near ks v text)
  where
    by : (s : Bool) → Near (fixed_from ks v text) text → Near (cond s (fixed_from ks v text) (bad (b ∷ text))) (b ∷ text)
    by true n = later b text (fixed_from ks v text) n
    by false n = inl refl

beyond : (text : List ℕ) (x : Read ℕ) → Near x text → farthest (bad text) x ≡ x
unfolding Near
beyond text (got v rest) n = refl
beyond text (bad rest) (inl e) = rw e (ap bad (by (leb (length text) (length text))))
  where
    by : (s : Bool) → cond s text text ≡ text
    by true = refl
    by false = refl
beyond text (bad rest) (inr h) = rw (lt-leb (length text) (length rest) h)

pub names_begin : (us : List RowKind) (k : ℕ) (text : List ℕ) → farthest (bad text) (names_from us k text) ≡ names_from us k text
unfolding names_from Near
names_begin [] k text = beyond text (bad text) (inl refl)
names_begin (u ∷ us) k text = by (fixed_from (u.name ++ feed) k text) (near (u.name ++ feed) k text)
  where
    by : (x : Read ℕ) → Near x text → farthest (bad text) (farthest x (names_from us (suc k) text)) ≡ farthest x (names_from us (suc k) text)
    by (got v rest) n = refl
    by (bad rest) n = best text rest (names_from us (suc k) text) ∙ ap (λ (y : Read ℕ). farthest y (names_from us (suc k) text)) (beyond text (bad rest) n)

module _ (us : List RowKind) (d : RowKind) (k : ℕ) (text : List ℕ) where
  one_more_lem : k < length us → names_from (drop k us) k text ≡ farthest (fixed_from ((get_or us k d).name ++ feed) k text) (names_from (drop (k + 1) us) (k + 1) text)
  unfolding names_from
  one_more_lem h = rw (drop-cons us k d h, add-one k)

module _ (us : List RowKind) (d : RowKind) (text : List ℕ) (at far k : ℕ) {what : Read ℕ} where
  pub names_on : {w : Took} {p r : ℕ} → k < length us → far ≤ length text → at ≤ far
      → farthest (bad (drop far text)) (names_from (drop k us) k (drop at text)) ≡ what
      → Reads text w k (fixed_from ((get_or us k d).name ++ feed) k (drop at text)) → w ≡ Bad p → r ≡ cond (leb p far) far p
      → (r ≤ length text) × (at ≤ r) × (farthest (bad (drop r text)) (names_from (drop (k + 1) us) (k + 1) (drop at text)) ≡ what)
  names_on {w} {p} {r} h f a e q i g =
      let n : p ≤ length text = rw i at q.inside in
      let y : bad (drop p text) ≡ fixed_from ((get_or us k d).name ++ feed) k (drop at text) = rw i at q.is in
      let z = by n (leb p far) refl in (
        z.0,
        z.1,
        rw (g, ← farther_of text far p f n) (sym (best (drop far text) (drop p text) (names_from (drop (k + 1) us) (k + 1) (drop at text)))
            ∙ rw y (ap (farthest (bad (drop far text))) (sym (one_more_lem us d k (drop at text) h)) ∙ e)),
      )
    where
      by : p ≤ length text → (s : Bool) → leb p far ≡ s → (r ≤ length text) × (at ≤ r)
      by n true s = let y : r ≡ far = g ∙ rw s in (omega arith, omega arith)
      by n false s = let y : r ≡ p = g ∙ rw s in let z = leb-false p far s in (omega arith, omega arith)

  pub names_found : {w : Took} → k < length us → k ≤ 4294967295
      → farthest (bad (drop far text)) (names_from (drop k us) k (drop at text)) ≡ what
      → Reads text w k (fixed_from ((get_or us k d).name ++ feed) k (drop at text)) → Goes w → Reads text w 4294967295 what
  names_found {w} h m e q t = let s = q.small in record {
    is = by w t (fixed_from ((get_or us k d).name ++ feed) k (drop at text)) (names_from (drop (k + 1) us) (k + 1) (drop at text)) q.is ∙ ap (farthest (bad (drop far text))) (sym (one_more_lem us d k (drop at text) h)) ∙ e;
    inside = q.inside;
    small = omega arith;
  }
    where
      by : (w : Took) → Goes w → (x rest : Read ℕ) → told text w ≡ x → told text w ≡ farthest (bad (drop far text)) (farthest x rest)
      by (Ok w) t x rest e = rw (← e)
      by (Err s) t x rest e = absurd t

  pub names_end : length us ≤ k → far ≤ length text → at ≤ far
      → farthest (bad (drop far text)) (names_from (drop k us) k (drop at text)) ≡ what → Reads text (Bad far) 4294967295 what
  unfolding names_from
  names_end h f a e =
      stops f (sym e ∙ rw (drop_of_length-le us h) (rw (length-drop far text, length-drop at text, le-leb (length text - far) (length text - at) (omega arith))))

-- ---- the due bytes

pub name_room : (k : ℕ) → length (name_of k ++ feed) ≤ 16
name_room k = leb-true (length (name_of k ++ feed)) 16 (of_each (λ u. leb (length (u.name ++ feed)) 16) row_kinds no_kind refl refl k)

pub start_room : (r : ℕ) → length (line_of row_key (decimal r) ++ kind_key) ≤ 20
unfolding line_of
start_room r = let h = ten_digits r in simp length-append (omega arith)

-- what was put first into a buffer stands there
pub due : (l ws : List ℕ) {m : List ℕ} {n : ℕ} → m ≡ sets l 0 ws → n ≡ 0 + length ws → length ws ≤ length l → (n ≤ length m) × (n ≡ length (take n m)) × (take n m ≡ ws)
due l ws {m} {n} e f h =
    let z : n ≡ length ws = omega arith in
    let y : take n m ≡ ws = rw (e, z, sets-eq ws l 0 (omega arith)) (take_at ws (drop (0 + length ws) l) (length ws) refl) in
    (rw (e, length-sets l 0 ws) (omega arith), rw y z, y)
