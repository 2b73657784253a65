-- Words put aside and put back: what has been placed grows by one word. Assumes nothing.
use Prim.Native.Nat.{ℕ, suc, ◌+◌, ◌-◌, ◌≤◌, ◌<◌}
use mathlib.Core.Bool.{Bool, true, false, cond}
use mathlib.Core.List.{List}
use mathlib.Core.Logic.{◌≢◌}
use mathlib.Core.Path.{◌≡◌, refl, sym, ap, ◌∙◌}
use native.Mathlib.Omega.{arith}
use native.Mathlib.Decide.{ℕ_discrete, dec_lt}
use native.Mathlib.Numerals.{add-one}
use borrow.Author.Tests.{ne_eqb, eq-eqb, lt-ltb, le-ltb}
use lib.Dec.{eqb}
use lib.ListN.{length, get_or, set}
use lib.Seq.{get_or-set_same, get_or-set_other}
use Rattle.table.specs.Rows.{word}
use Rattle.reading.specs.Reading.{Env, set_row}
use Rattle.turning.specs.Words.{env_of, Names, Source, placed, copied, Aside}
use Rattle.turning.proofs.Naming.{word_is_set}

module _ (to k : ℕ) (words env : Env) (r : ℕ) where
  placed_low : r < to → placed to k words env r ≡ env r
  unfolding placed
  placed_low l = rw (lt-ltb r to l)

  placed_in : to ≤ r → r < to + k → placed to k words env r ≡ words (r - to)
  unfolding placed
  placed_in l h = rw (le-ltb r to l, lt-ltb r (to + k) h)

  placed_high : to + k ≤ r → placed to k words env r ≡ env r
  unfolding placed
  placed_high l = let q : to ≤ r = omega arith in rw (le-ltb r to q, le-ltb r (to + k) l)

-- where a row stands against k rows from `to` up
data Stands (to k r : ℕ) : Type 0 where
  low : r < to → Stands to k r
  among : to ≤ r → r < to + k → Stands to k r
  high : to + k ≤ r → Stands to k r

stands : (to k r : ℕ) → Stands to k r
stands to k r = elim (dec_lt r to) [ yes l ↦ low l | no n ↦ (elim (dec_lt r (to + k)) [ yes l ↦ among (omega arith) l | no m ↦ high (omega arith) ]) ]

-- a word for each row of a test that holds of just these rows
pub placed_by : (to k : ℕ) (words args env : Env) (test : ℕ → Bool) → ((r : ℕ) → to ≤ r → r < to + k → (test r ≡ true) × (words (r - to) ≡ args r))
    → ((r : ℕ) → test r ≡ true → (to ≤ r) × (r < to + k)) → (r : ℕ) → placed to k words env r ≡ cond (test r) (args r) (env r)
placed_by to k words args env test held found r = go (stands to k r) (test r) refl
  where
    go : Stands to k r → (b : Bool) → test r ≡ b → placed to k words env r ≡ cond b (args r) (env r)
    go (low l) true e = let f = (found r e).0 in absurd (omega arith)
    go (low l) false e = placed_low to k words env r l
    go (among l h) true e = placed_in to k words env r l h ∙ (held r l h).1
    go (among l h) false e = let f = (held r l h).0 in let z : true ≡ false = sym f ∙ e in let z₁ : ◌≡◌ {A = ℕ} 0 1 = cc in absurd (omega arith)
    go (high l) true e = let f = (found r e).1 in absurd (omega arith)
    go (high l) false e = placed_high to k words env r l

-- nothing placed, and one word more
pub placed_none : (to : ℕ) (words env : Env) → env ≡ placed to 0 words env
placed_none to words env = λ i r. at r i
  where
    at : (r : ℕ) → env r ≡ placed to 0 words env r
    at r = elim (dec_lt r to) [ yes l ↦ sym (placed_low to 0 words env r l) | no n ↦ sym (placed_high to 0 words env r (omega arith)) ]

one_more_lem : (to j : ℕ) (words env : Env) (r : ℕ) → cond (eqb r (to + j)) (words j) (placed to j words env r) ≡ placed to (suc j) words env r
one_more_lem to j words env r = go (stands to j r)
  where
    go : Stands to j r → cond (eqb r (to + j)) (words j) (placed to j words env r) ≡ placed to (suc j) words env r
    go (low l) = rw (ne_eqb r (to + j) (λ e. omega arith)) (placed_low to j words env r l ∙ sym (placed_low to (suc j) words env r l))
    go (among l h) = rw (ne_eqb r (to + j) (λ e. omega arith)) (placed_in to j words env r l h ∙ sym (placed_in to (suc j) words env r l (omega arith)))
    go (high l) =
        elim (ℕ_discrete r (to + j)) [
          | yes e ↦ rw (eq-eqb r (to + j) e) (let q : j ≡ r - to = omega arith in ap words q ∙ sym (placed_in to (suc j) words env r (omega arith) (omega arith)))
          | no n ↦ rw (ne_eqb r (to + j) n) (placed_high to j words env r l ∙ sym (placed_high to (suc j) words env r (past r n l)))
        ]
      where
        past : (r : ℕ) → r ≢ to + j → to + j ≤ r → to + suc j ≤ r
        past r n l = omega arith

pub placed_one : (to j : ℕ) (words e : List ℕ) (env : Env) (w : ℕ) → to + j < length e → w ≡ env_of words j → env_of e ≡ placed to j (env_of words) env
    → env_of (set e (to + j) w) ≡ placed to (j + 1) (env_of words) env
placed_one to j words e env w l q h =
    word_is_set e (to + j) w l ∙ ap (set_row (to + j) w) h ∙ ap (λ (x : ℕ). set_row (to + j) x (placed to j (env_of words) env)) q
    ∙ (λ i r. one_more_lem to j (env_of words) env r i) ∙ ap (λ (x : ℕ). placed to x (env_of words) env) (sym (add-one j))

-- only the first k words matter
pub placed_alike : (to k : ℕ) (words others env : Env) → ((j : ℕ) → j < k → words j ≡ others j) → placed to k words env ≡ placed to k others env
placed_alike to k words others env h = λ i r. at r i
  where
    at : (r : ℕ) → placed to k words env r ≡ placed to k others env r
    at r = go (stands to k r)
      where
        go : Stands to k r → placed to k words env r ≡ placed to k others env r
        go (low l) = placed_low to k words env r l ∙ sym (placed_low to k others env r l)
        go (among l m) = placed_in to k words env r l m ∙ h (r - to) (omega arith) ∙ sym (placed_in to k others env r l m)
        go (high l) = placed_high to k words env r l ∙ sym (placed_high to k others env r l)

-- put aside and put back is copied
pub back_is_copied : (t : List ℕ) (from to k : ℕ) (words aside : List ℕ) → Aside t from k words aside → placed to k (env_of aside) (env_of words) ≡ copied t from to k (env_of words)
unfolding copied
back_is_copied t from to k words aside h = placed_alike to k (env_of aside) (λ j. env_of words (word t (from + j) 1)) (env_of words) h.at

-- one word more put aside
pub aside_none : (t : List ℕ) (from : ℕ) (words aside : List ℕ) → Aside t from 0 words aside
aside_none t from words aside = record { at = λ j l. absurd (omega arith) }

pub aside_one : (t : List ℕ) (from j w : ℕ) (words aside : List ℕ) → Aside t from j words aside → j < length aside → w ≡ env_of words (word t (from + j) 1)
    → Aside t from (j + 1) words (set aside j w)
unfolding env_of
aside_one t from j w words aside A l e =
    record {
      at = λ i h.
          elim (ℕ_discrete i j) [
            | yes q ↦ ap (λ (x : ℕ). get_or (set aside j w) x 0) q ∙ get_or-set_same aside j w 0 l ∙ e ∙ ap (λ (x : ℕ). env_of words (word t (from + x) 1)) (sym q)
            | no q ↦ get_or-set_other aside j i w 0 q ∙ A.at i (under i q h)
          ];
    }
  where
    under : (i : ℕ) → i ≢ j → i < j + 1 → i < j
    under i q h = omega arith

pub source_names : (t : List ℕ) (from k j : ℕ) → Source t from k → j < k → Names t (from + j) 1
source_names t from k j s l = record { row = let r = s.rows in omega arith; few = omega arith; named = s.names j l }

-- all of them are put aside, placed
pub aside_all : (t : List ℕ) (from k j : ℕ) (words aside : List ℕ) → k ≤ j → Aside t from j words aside → Aside t from k words aside
aside_all t from k j words aside h A = record { at = λ i l. A.at i (omega arith) }

pub placed_all : (to k j : ℕ) (e : List ℕ) (words env : Env) → j ≤ k → k ≤ j → env_of e ≡ placed to j words env → env_of e ≡ placed to k words env
placed_all to k j e words env h n q = let d : j ≡ k = omega arith in q ∙ ap (λ (x : ℕ). placed to x words env) d
