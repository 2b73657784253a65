-- The first words, row by row, and the results, from the last one back. Assumes nothing.
use Prim.Native.Nat.{ℕ, suc, ◌+◌, ◌-◌, ◌*◌, ◌≤◌, ◌<◌}
use mathlib.Core.Bool.{cond}
use mathlib.Core.List.{List}
use mathlib.Core.Logic.{◌≢◌}
use mathlib.Core.Path.{◌≡◌, refl, sym, ap, ◌∙◌}
use native.Mathlib.Omega.{arith}
use native.Mathlib.Decide.{ℕ_discrete, dec_lt}
use native.Mathlib.Numerals.{add-one}
use borrow.Author.Tests.{ne_eqb, eq-eqb}
use lib.Dec.{eqb}
use lib.ListN.{length, get_or, set, replicate, length-replicate, get_or-replicate, length-set, get_or-eq_default}
use lib.Seq.{sets, get_or-set_same, get_or-set_other}
use Rattle.table.specs.Rows.{kind_at, word, size}
use Rattle.table.specs.Counted.{rows_of, rows_rise, row_below_lem}
use Rattle.table.specs.Right.{TableRight}
use Rattle.structure.specs.Structure.{right_table_has_structure}
use Rattle.reading.specs.Reading.{Env, first_words, results_from}
use Rattle.turning.specs.Words.{env_of, one_more}

-- ---- rows counted
module _ (kind : ℕ) (t : List ℕ) where
  pub none_counted : 0 ≡ rows_of kind t 0
  unfolding rows_of
  none_counted = refl

  pub one_counted : (r n k m : ℕ) → n ≡ rows_of kind t r → k ≡ kind_at t r → m ≡ one_more k kind n → m ≡ rows_of kind t (r + 1)
  unfolding rows_of
  one_counted r n k m a b c = rw (add-one r) (c ∙ ap (λ (x : ℕ). one_more x kind n) b ∙ ap (one_more (kind_at t r) kind) a)

  pub all_counted : (n r k : ℕ) → r ≤ n → n ≤ r → k ≡ rows_of kind t r → k ≡ rows_of kind t n
  all_counted n r k a b e = let q : r ≡ n = omega arith in e ∙ ap (rows_of kind t) q

pub input_inside : (t : List ℕ) (r before len : ℕ) → r < size t → before ≡ rows_of 0 t r → len ≡ rows_of 0 t (size t) → kind_at t r ≡ 0 → before < len
input_inside t r before len l a b k = let q = row_below_lem 0 t r (size t) l k in omega arith

-- ---- one first word
module _ (t inputs : List ℕ) (r : ℕ) where
  pub input_word : kind_at t r ≡ 0 → first_words t inputs r ≡ get_or inputs (rows_of 0 t r) 0
  unfolding first_words
  input_word k = rw k

  pub const_word : kind_at t r ≡ 1 → first_words t inputs r ≡ word t r 1
  unfolding first_words
  const_word k = rw k

  pub other_word : kind_at t r ≢ 0 → kind_at t r ≢ 1 → first_words t inputs r ≡ 0
  unfolding first_words
  other_word a b = rw (ne_eqb (kind_at t r) 0 a, ne_eqb (kind_at t r) 1 b)

-- ---- all of them: set before row r, 0 from there on
pub record Begun (t inputs : List ℕ) (r : ℕ) (words : List ℕ) : Type 0 where
  pub long : length words ≡ 512
  pub set_below : (x : ℕ) → x < r → get_or words x 0 ≡ first_words t inputs x
  pub zero_above : (x : ℕ) → r ≤ x → get_or words x 0 ≡ 0

pub none_begun : (t inputs : List ℕ) → Begun t inputs 0 (replicate {A = ℕ} 512 0)
none_begun t inputs = record { long = length-replicate {A = ℕ} 512 0; set_below = λ x l. absurd (omega arith); zero_above = λ x l. at x }
  where
    at : (x : ℕ) → get_or (replicate {A = ℕ} 512 0) x 0 ≡ 0
    at x = elim (dec_lt x 512) [ yes l ↦ get_or-replicate {A = ℕ} 512 x 0 0 l | no n ↦ get_or-eq_default (replicate {A = ℕ} 512 0) 0 {n = x} (let e = length-replicate {A = ℕ} 512 0 in omega arith) ]

pub one_begun : (t inputs : List ℕ) (r : ℕ) (words : List ℕ) (w : ℕ) → r < 512 → Begun t inputs r words → w ≡ first_words t inputs r → Begun t inputs (r + 1) (set words r w)
one_begun t inputs r words w l B e =
    record { long = length-set words r w ∙ B.long; set_below = below; zero_above = λ x h. get_or-set_other words r x w 0 (λ q. omega arith) ∙ B.zero_above x (omega arith) }
  where
    under : (x : ℕ) → x ≢ r → x < r + 1 → x < r
    under x q h = omega arith

    below : (x : ℕ) → x < r + 1 → get_or (set words r w) x 0 ≡ first_words t inputs x
    below x h =
        elim (ℕ_discrete x r) [
          | yes q ↦ ap (λ (y : ℕ). get_or (set words r w) y 0) q ∙ get_or-set_same words r w 0 (let g = B.long in omega arith) ∙ e ∙ ap (first_words t inputs) (sym q)
          | no q ↦ get_or-set_other words r x w 0 q ∙ B.set_below x (under x q h)
        ]

-- past the table there is no INPUT that has a word
past_kind : (t : List ℕ) (x : ℕ) → length t ≤ 6 * x → kind_at t x ≡ 0
past_kind t x h = get_or-eq_default t 0 {n = 6 * x} h

all_begun : (t inputs words : List ℕ) (r : ℕ) → length t ≤ 6 * r → length inputs ≤ rows_of 0 t r → Begun t inputs r words → env_of words ≡ first_words t inputs
unfolding env_of
all_begun t inputs words r long few B = λ i x. at x i
  where
    at : (x : ℕ) → get_or words x 0 ≡ first_words t inputs x
    at x =
        elim (dec_lt x r) [
          | yes l ↦ B.set_below x l
          | no n ↦
              let g = rows_rise 0 t r x (omega arith) in
              B.zero_above x (omega arith) ∙ sym (input_word t inputs x (past_kind t x (omega arith)) ∙ get_or-eq_default inputs 0 {n = rows_of 0 t x} (omega arith))
        ]

-- ---- the results: those from row r up stand from place k up
module _ (t : List ℕ) (env : Env) where
  pub result_there : (m r k : ℕ) (res : List ℕ) → kind_at t r ≡ 8 → sets (set res k (env (word t r 1))) (k + 1) (results_from m t env (r + 1)) ≡ sets res k (results_from (suc m) t env r)
  unfolding results_from
  result_there m r k res e = rw (e, add-one r, add-one k)

  pub no_result : (m r k : ℕ) (res : List ℕ) → kind_at t r ≢ 8 → sets res k (results_from m t env (r + 1)) ≡ sets res k (results_from (suc m) t env r)
  unfolding results_from
  no_result m r k res n = rw (ne_eqb (kind_at t r) 8 n, add-one r)

  pub one_result : (n r k p : ℕ) (res after : List ℕ) → r < n → p ≡ one_more (kind_at t r) 8 k → after ≡ cond (eqb (kind_at t r) 8) (set res k (env (word t r 1))) res
      → sets after p (results_from (n - (r + 1)) t env (r + 1)) ≡ sets res k (results_from (n - r) t env r)
  one_result n r k p res after l a b =
      let e : n - r ≡ suc (n - (r + 1)) = omega arith in
      elim (ℕ_discrete (kind_at t r) 8) [
        | yes q ↦ (let a₁ : p ≡ suc k = a ∙ ap (λ x. cond x (suc k) k) (eq-eqb (kind_at t r) 8 q) in let b₁ : after ≡ set res k (env (word t r 1)) = b ∙ ap (λ x. cond x (set res k (env (word t r 1))) res) (eq-eqb (kind_at t r) 8 q) in
            rw (e, a₁, b₁, ← add-one k) (result_there (n - (r + 1)) r k res q))
        | no q ↦ (let a₁ : p ≡ k = a ∙ ap (λ x. cond x (suc k) k) (ne_eqb (kind_at t r) 8 q) in let b₁ : after ≡ res = b ∙ ap (λ x. cond x (set res k (env (word t r 1))) res) (ne_eqb (kind_at t r) 8 q) in
            rw (e, a₁, b₁) (no_result (n - (r + 1)) r k res q))
      ]

  pub no_results_left : (n r k : ℕ) (res : List ℕ) → n ≤ r → sets res k (results_from (n - r) t env r) ≡ res
  unfolding results_from
  no_results_left n r k res h = let e : n - r ≡ 0 = omega arith in rw e

-- the place of a result that is still to come
pub result_inside : (t : List ℕ) (n r k len : ℕ) → r < n → k ≡ rows_of 8 t r → rows_of 8 t n ≤ len → kind_at t r ≡ 8 → k < len
result_inside t n r k len l e h q = let b = row_below_lem 8 t r n l q in omega arith

-- the whole table is behind
pub begun_all : (t inputs words : List ℕ) (n r : ℕ) → TableRight t → n ≡ size t → length inputs ≡ rows_of 0 t n → r ≤ n → n ≤ r → Begun t inputs r words → env_of words ≡ first_words t inputs
begun_all t inputs words n r ok e f h l B =
    let q : r ≡ n = omega arith in
    let w = (right_table_has_structure t ok).words in
    all_begun t inputs words r (omega arith) (let g = ap (rows_of 0 t) q in omega arith) B

pub results_start : (t : List ℕ) (env : Env) (n : ℕ) (res : List ℕ) → sets res 0 (results_from (n - 0) t env 0) ≡ sets res 0 (results_from n t env 0)
results_start t env n res = let e : n - 0 ≡ n = omega arith in rw e
