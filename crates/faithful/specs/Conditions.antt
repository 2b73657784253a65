-- The words on a loop's raw and gated condition, opening by opening.
--
--   turns_of                  the turns of a loop's openings, from a list of openings
--   raw_of, gated_of          for openings of so many turns in turn: N ones and a zero; N - 1 ones and a zero, or nothing for N = 0
--   Told                      what has been put on a loop's conditions where the reading stands at a row, by its openings so far
--   told_opens, told_skips, told_again, told_leaves, told_same
--                             how each step of the reading adds to it
--
-- Assumes nothing.
use Rattle.std.specs.Prelude.{◌≡◌, refl, ◌≢◌, Bool, true, false, cond, ℕ, zero, suc, eqb}
use Rattle.std.proofs.Common.{sym, ap, ◌∙◌, arith, eq-eqb, ne_eqb}
use mathlib.Core.List.{List, [], ◌∷◌, ◌++◌, append_assoc, append-nil, reverse, reverse_aux-eq}
use Rattle.std.proofs.Math.Decide.{ℕ_discrete}
use Rattle.reading.specs.Reading.{Opening, opening, one_turn}
use Rattle.faithful.specs.Table.{Table}
use Rattle.faithful.specs.Gamma.{Inside}

-- N ones
abbrev pub ones : ℕ → List ℕ
ones zero = []
ones (suc n) = 1 ∷ ones n

abbrev pub raw_of : List ℕ → List ℕ
raw_of [] = []
raw_of (n ∷ ns) = ones n ++ (0 ∷ raw_of ns)

abbrev pub gated_of : List ℕ → List ℕ
gated_of [] = []
gated_of (zero ∷ ns) = gated_of ns
gated_of (suc n ∷ ns) = ones n ++ (0 ∷ gated_of ns)

-- the turns of loop M's openings, in the order of the list
unfoldable pub turns_of : ℕ → List Opening → List ℕ
turns_of M [] = []
turns_of M (o ∷ os) = cond (eqb o.loop M) (o.turns ∷ turns_of M os) (turns_of M os)

-- ---- lists

ones_more : (n : ℕ) → ones n ++ (1 ∷ []) ≡ ones (suc n)
ones_more zero = refl
ones_more (suc n) = ap (λ (z : List ℕ). 1 ∷ z) (ones_more n)

raw_more : (ns : List ℕ) (n : ℕ) → raw_of (ns ++ (n ∷ [])) ≡ raw_of ns ++ (ones n ++ (0 ∷ []))
raw_more [] n = refl
raw_more (m ∷ ns) n = ap (λ (z : List ℕ). ones m ++ (0 ∷ z)) (raw_more ns n) ∙ sym (append_assoc (ones m) (0 ∷ raw_of ns) (ones n ++ (0 ∷ [])))

gated_skip : (ns : List ℕ) → gated_of (ns ++ (0 ∷ [])) ≡ gated_of ns
gated_skip [] = refl
gated_skip (zero ∷ ns) = gated_skip ns
gated_skip (suc m ∷ ns) = ap (λ (z : List ℕ). ones m ++ (0 ∷ z)) (gated_skip ns)

gated_more : (ns : List ℕ) (n : ℕ) → gated_of (ns ++ (suc n ∷ [])) ≡ gated_of ns ++ (ones n ++ (0 ∷ []))
gated_more [] n = refl
gated_more (zero ∷ ns) n = gated_more ns n
gated_more (suc m ∷ ns) n = ap (λ (z : List ℕ). ones m ++ (0 ∷ z)) (gated_more ns n) ∙ sym (append_assoc (ones m) (0 ∷ gated_of ns) (ones n ++ (0 ∷ [])))

reverse_more : (n : ℕ) (ns : List ℕ) → reverse (n ∷ ns) ≡ reverse ns ++ (n ∷ [])
reverse_more n ns = reverse_aux-eq ns (n ∷ [])

turns_append : (M : ℕ) (xs ys : List Opening) → turns_of M (xs ++ ys) ≡ turns_of M xs ++ turns_of M ys
unfolding turns_of
turns_append M [] ys = refl
turns_append M (o ∷ xs) ys = go (eqb o.loop M) (turns_append M xs ys)
  where
    go : (b : Bool) → turns_of M (xs ++ ys) ≡ turns_of M xs ++ turns_of M ys
        → cond b (o.turns ∷ turns_of M (xs ++ ys)) (turns_of M (xs ++ ys)) ≡ cond b (o.turns ∷ turns_of M xs) (turns_of M xs) ++ turns_of M ys
    go true e = ap (λ (z : List ℕ). o.turns ∷ z) e
    go false e = e

pub turns_reverse : (M : ℕ) (os : List Opening) → turns_of M (reverse os) ≡ reverse (turns_of M os)
unfolding turns_of
turns_reverse M [] = refl
turns_reverse M (o ∷ os) =
    ap (turns_of M) (reverse_aux-eq os (o ∷ [])) ∙ turns_append M (reverse os) (o ∷ [])
    ∙ ap (λ (z : List ℕ). z ++ turns_of M (o ∷ [])) (turns_reverse M os) ∙ go (eqb o.loop M)
  where
    go : (b : Bool) → reverse (turns_of M os) ++ cond b (o.turns ∷ []) [] ≡ reverse (cond b (o.turns ∷ turns_of M os) (turns_of M os))
    go true = sym (reverse_aux-eq (turns_of M os) (o.turns ∷ []))
    go false = append-nil (reverse (turns_of M os))

-- ---- openings

turns_own : (M n : ℕ) (os : List Opening) → turns_of M (opening M n ∷ os) ≡ n ∷ turns_of M os
unfolding turns_of
turns_own M n os = rw (eq-eqb M M refl)

pub turns_other : (M L n : ℕ) (os : List Opening) → M ≢ L → turns_of M (opening L n ∷ os) ≡ turns_of M os
unfolding turns_of
turns_other M L n os d = rw (ne_eqb L M (λ e. d (sym e)))

by_loop : (o : Opening) (L : ℕ) → (o.loop ≡ L → ⊥) → eqb o.loop L ≡ false
by_loop o L n = ne_eqb o.loop L n

pub one_turn_own : (L n : ℕ) (rest : List ℕ) (os : List Opening) → turns_of L os ≡ n ∷ rest → turns_of L (one_turn L os) ≡ suc n ∷ rest
unfolding turns_of
one_turn_own L n rest [] h = let z : ◌≡◌ {A = ℕ} 0 1 = cc in absurd (omega arith)
one_turn_own L n rest (o ∷ os) h =
    elim (ℕ_discrete o.loop L) [
      | yes e ↦
          let a : eqb o.loop L ≡ true = eq-eqb o.loop L e in
          let k : o.turns ∷ turns_of L os ≡ n ∷ rest = sym (ap (λ (b : Bool). cond b (o.turns ∷ turns_of L os) (turns_of L os)) a) ∙ h in
          let k0 : o.turns ≡ n = cc in let k1 : turns_of L os ≡ rest = cc in
          rw (a, eq-eqb L L refl, k0, k1)
      | no e ↦
          let a : eqb o.loop L ≡ false = ne_eqb o.loop L e in
          let k : turns_of L os ≡ n ∷ rest = sym (ap (λ (b : Bool). cond b (o.turns ∷ turns_of L os) (turns_of L os)) a) ∙ h in
          rw (a, a) (one_turn_own L n rest os k)
    ]

pub one_turn_other : (M L : ℕ) (os : List Opening) → M ≢ L → turns_of M (one_turn L os) ≡ turns_of M os
unfolding turns_of
one_turn_other M L [] d = refl
one_turn_other M L (o ∷ os) d =
    elim (ℕ_discrete o.loop L) [
      | yes e ↦
          let a : eqb o.loop L ≡ true = eq-eqb o.loop L e in
          let c : eqb o.loop M ≡ false = ne_eqb o.loop M (λ z. d (sym z ∙ e)) in
          rw (a, c, ne_eqb L M (λ z. d (sym z)))
      | no e ↦ rw (ne_eqb o.loop L e) (ap (λ (z : List ℕ). cond (eqb o.loop M) (o.turns ∷ z) z) (one_turn_other M L os d))
    ]

-- ---- what has been told

module _ (tb : Table) (M : ℕ) where
  -- while M is open, its newest opening has made a turn or more, and its zero is still to come
  pub record Told (pc : ℕ) (os : List Opening) (raw gated : List ℕ) : Type 0 where
    pub opened : Inside tb M pc → (c : ℕ) × (rest : List ℕ) × (turns_of M os ≡ suc c ∷ rest) × (raw ≡ raw_of (reverse rest) ++ ones (suc c)) × (gated ≡ gated_of (reverse rest) ++ ones c)
    pub shut : (Inside tb M pc → ⊥) → (raw ≡ raw_of (reverse (turns_of M os))) × (gated ≡ gated_of (reverse (turns_of M os)))

  pub told_same : (pc pc' : ℕ) (os os' : List Opening) (raw raw' gated gated' : List ℕ) → (Inside tb M pc → Inside tb M pc') × (Inside tb M pc' → Inside tb M pc)
      → turns_of M os' ≡ turns_of M os → raw' ≡ raw → gated' ≡ gated → Told pc os raw gated → Told pc' os' raw' gated'
  told_same pc pc' os os' raw raw' gated gated' i e r g T =
      record {
        opened = λ h. let x = T.opened (i.1 h) in (x.0, x.1, e ∙ x.2, r ∙ x.3, g ∙ x.4);
        shut = λ n. let x = T.shut (λ h. n (i.0 h)) in (r ∙ x.0 ∙ ap (λ (z : List ℕ). raw_of (reverse z)) (sym e), g ∙ x.1 ∙ ap (λ (z : List ℕ). gated_of (reverse z)) (sym e));
      }

  pub told_opens : (pc pc' : ℕ) (os : List Opening) (raw raw' gated gated' : List ℕ) → (Inside tb M pc → ⊥) → Inside tb M pc' → raw' ≡ raw ++ (1 ∷ []) → gated' ≡ gated
      → Told pc os raw gated → Told pc' (opening M 1 ∷ os) raw' gated'
  told_opens pc pc' os raw raw' gated gated' n i r g T =
      let x = T.shut n in
      record {
        opened = λ _. (0, turns_of M os, turns_own M 1 os, r ∙ ap (λ (z : List ℕ). z ++ (1 ∷ [])) x.0, g ∙ x.1 ∙ sym (append-nil (gated_of (reverse (turns_of M os)))));
        shut = λ k. absurd (k i);
      }

  pub told_skips : (pc pc' : ℕ) (os : List Opening) (raw raw' gated gated' : List ℕ) → (Inside tb M pc → ⊥) → (Inside tb M pc' → ⊥) → raw' ≡ raw ++ (0 ∷ []) → gated' ≡ gated
      → Told pc os raw gated → Told pc' (opening M 0 ∷ os) raw' gated'
  told_skips pc pc' os raw raw' gated gated' n i r g T =
      let x = T.shut n in
      let e : reverse (turns_of M (opening M 0 ∷ os)) ≡ reverse (turns_of M os) ++ (0 ∷ []) = ap reverse (turns_own M 0 os) ∙ reverse_more 0 (turns_of M os) in
      record {
        opened = λ k. absurd (i k);
        shut = λ _. (r ∙ ap (λ (z : List ℕ). z ++ (0 ∷ [])) x.0 ∙ sym (raw_more (reverse (turns_of M os)) 0) ∙ ap raw_of (sym e), g ∙ x.1 ∙ sym (gated_skip (reverse (turns_of M os))) ∙ ap gated_of (sym e));
      }

  pub told_again : (pc pc' : ℕ) (os : List Opening) (raw raw' gated gated' : List ℕ) → Inside tb M pc → Inside tb M pc' → raw' ≡ raw ++ (1 ∷ []) → gated' ≡ gated ++ (1 ∷ [])
      → Told pc os raw gated → Told pc' (one_turn M os) raw' gated'
  told_again pc pc' os raw raw' gated gated' i i' r g T =
      let x = T.opened i in
      record {
        opened = λ _. (
          suc x.0,
          x.1,
          one_turn_own M (suc x.0) x.1 os x.2,
          r ∙ ap (λ (z : List ℕ). z ++ (1 ∷ [])) x.3 ∙ append_assoc (raw_of (reverse x.1)) (ones (suc x.0)) (1 ∷ []) ∙ ap (λ (z : List ℕ). raw_of (reverse x.1) ++ z) (ones_more (suc x.0)),
          g ∙ ap (λ (z : List ℕ). z ++ (1 ∷ [])) x.4 ∙ append_assoc (gated_of (reverse x.1)) (ones x.0) (1 ∷ []) ∙ ap (λ (z : List ℕ). gated_of (reverse x.1) ++ z) (ones_more x.0),
        );
        shut = λ k. absurd (k i');
      }

  pub told_leaves : (pc pc' : ℕ) (os : List Opening) (raw raw' gated gated' : List ℕ) → Inside tb M pc → (Inside tb M pc' → ⊥) → raw' ≡ raw ++ (0 ∷ []) → gated' ≡ gated ++ (0 ∷ [])
      → Told pc os raw gated → Told pc' os raw' gated'
  told_leaves pc pc' os raw raw' gated gated' i n r g T =
      let x = T.opened i in
      let e : reverse (turns_of M os) ≡ reverse x.1 ++ (suc x.0 ∷ []) = ap reverse x.2 ∙ reverse_more (suc x.0) x.1 in
      record {
        opened = λ k. absurd (n k);
        shut = λ _. (
          r ∙ ap (λ (z : List ℕ). z ++ (0 ∷ [])) x.3 ∙ append_assoc (raw_of (reverse x.1)) (ones (suc x.0)) (0 ∷ []) ∙ sym (raw_more (reverse x.1) (suc x.0)) ∙ ap raw_of (sym e),
          g ∙ ap (λ (z : List ℕ). z ++ (0 ∷ [])) x.4 ∙ append_assoc (gated_of (reverse x.1)) (ones x.0) (0 ∷ []) ∙ sym (gated_more (reverse x.1) x.0) ∙ ap gated_of (sym e),
        );
      }
