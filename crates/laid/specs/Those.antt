-- How many of the numbers below n pass a test.
--
--   none_yet, those_more      from 0, one by one; one_more, no_more: where the next one passes, where it does not
--   those_few                 no more than there are
--   rows_counted              rows of a kind are those that the table counts
--
-- Assumes nothing.
use Rattle.std.specs.Prelude.{ℕ, zero, suc, ◌+◌, ◌≤◌, ◌≡◌, Bool, cond, List, [], ◌∷◌, eqb}
use Rattle.std.proofs.Math.Path.{refl, ap}
use Rattle.std.proofs.Common.{◌∙◌, arith}
use Rattle.std.proofs.Math.Bool.{true, false}
use Rattle.std.proofs.Math.ListN.{length, length-append}
use Rattle.word.specs.Words.{flag}
use Rattle.table.specs.Rows.{kind_at}
use Rattle.table.specs.Counted.{rows_of}
use Rattle.lowered.specs.Gathered.{those}

flag_small : (b : Bool) → flag b ≤ 1
flag_small true = omega arith
flag_small false = omega arith

module _ (test : ℕ → Bool) where
  pub none_yet : length (those test 0) ≡ 0
  unfolding those
  none_yet = refl

  pub those_more : (r : ℕ) → length (those test (suc r)) ≡ length (those test r) + flag (test r)
  unfolding those
  those_more r = length-append (those test r) (cond (test r) (r ∷ []) []) ∙ ap (λ (x : ℕ). length (those test r) + x) (one (test r))
    where
      one : (b : Bool) → length (cond b (r ∷ []) []) ≡ flag b
      one true = refl
      one false = refl

  pub one_more_lem : (r : ℕ) → test r ≡ true → length (those test (suc r)) ≡ suc (length (those test r))
  one_more_lem r h = let a = those_more r in let b : flag (test r) ≡ 1 = ap flag h in omega arith

  pub no_more : (r : ℕ) → test r ≡ false → length (those test (suc r)) ≡ length (those test r)
  no_more r h = let a = those_more r in let b : flag (test r) ≡ 0 = ap flag h in omega arith

  pub those_few : (n : ℕ) → length (those test n) ≤ n
  those_few zero = let z = none_yet in omega arith
  those_few (suc n) = let a = those_few n in let b = those_more n in let c = flag_small (test n) in omega arith

pub rows_counted : (kind : ℕ) (t : List ℕ) (r : ℕ) → length (those (λ q. eqb (kind_at t q) kind) r) ≡ rows_of kind t r
unfolding those rows_of
rows_counted kind t zero = refl
rows_counted kind t (suc r) =
    length-append (those (λ q. eqb (kind_at t q) kind) r) (cond (eqb (kind_at t r) kind) (r ∷ []) []) ∙ go (eqb (kind_at t r) kind) (rows_counted kind t r)
  where
    go : (b : Bool) → length (those (λ q. eqb (kind_at t q) kind) r) ≡ rows_of kind t r
        → length (those (λ q. eqb (kind_at t q) kind) r) + length (cond b (r ∷ []) []) ≡ cond b (suc (rows_of kind t r)) (rows_of kind t r)
    go true e = omega arith
    go false e = omega arith
