-- The refusals 1 to 3, row by row.
-- Assumes nothing.
use Prim.Native.Nat.{ℕ, suc, ◌+◌, ◌-◌, ◌<◌, ◌≤◌}
use mathlib.Core.List.{List}
use mathlib.Core.Path.{◌≡◌, sym}
use native.Mathlib.Omega.{arith}
use borrow.Author.Tests.{ne_eqb, le-leb, lt-leb}
use mathlib.Core.Bool.{true, false, false≢true}
use Rattle.std.specs.Prelude.{Option, Some, None, Result, Ok, Err, is_err, is_some}
use Rattle.table.specs.Telling.{FirstWord}
use Rattle.table.specs.Kinds.{Decodes}
use Rattle.table.specs.declared.Kind.{Kind}
use Rattle.table.specs.declared.UnknownKind.{UnknownKind}
use Rattle.table.proofs.Different.{kind_few}
use Rattle.table.specs.Rows.{kind_at}
use Rattle.table.specs.Check.{answer, kind_right}
use Rattle.table.specs.Clauses.{spare_word}
use Rattle.table.specs.Broken.{spare_told}
use Rattle.sheet.specs.Sheet.{row_fault, fault_from}

-- what reads a kind, and what looks for a spare word
pub unread : (n : ℕ) (r : Result Kind UnknownKind) → Decodes n r → is_err r ≡ true → 8 < n
unread n (Ok k) d h = absurd (false≢true h)
unread n (Err e) d h = d.1

pub read : (n : ℕ) (r : Result Kind UnknownKind) → Decodes n r → is_err r ≡ false → n ≤ 8
read n (Ok k) d h = let f = kind_few k in omega arith
read n (Err e) d h = absurd (false≢true (sym h))

pub some_spare : (o : Option ℕ) (s : ℕ) → FirstWord o s → is_some o ≡ true → s ≡ 0 → ⊥
some_spare None s d h z = absurd (false≢true h)
some_spare (Some k) s d h z = absurd (omega arith)

pub no_spare : (o : Option ℕ) (s : ℕ) → FirstWord o s → is_some o ≡ false → s ≡ 0
no_spare None s d h = d
no_spare (Some k) s d h = absurd (false≢true (sym h))

-- one row
module _ (t : List ℕ) (r : ℕ) {k : ℕ} (e : k ≡ kind_at t r) where
  pub no_kind_lem : 8 < k → 2 ≡ row_fault t r
  unfolding row_fault kind_right
  no_kind_lem h = rw (lt-leb (kind_at t r) 8 (omega arith))

  pub not_spare : k ≤ 8 → (spare_word t r ≡ 0 → ⊥) → 3 ≡ row_fault t r
  unfolding row_fault kind_right
  not_spare h n = rw (le-leb (kind_at t r) 8 (omega arith), spare_told t r, ne_eqb (spare_word t r) 0 n)

  pub row_passes : k ≤ 8 → spare_word t r ≡ 0 → 0 ≡ row_fault t r
  unfolding row_fault kind_right
  row_passes h z = rw (le-leb (kind_at t r) 8 (omega arith), spare_told t r, z)

-- the rows from r on
module _ (t : List ℕ) (n r : ℕ) {f : ℕ} (h : r < n) (e : f ≡ row_fault t r) where
  one_row : n - r ≡ suc (n - (r + 1))
  one_row = omega arith

  pub next_row : f ≡ 0 → fault_from (n - r) t r ≡ fault_from (n - (r + 1)) t (r + 1)
  unfolding fault_from
  next_row z = rw (one_row, ← e, z)

  pub this_row : (f ≡ 0 → ⊥) → fault_from (n - r) t r ≡ answer f r
  unfolding fault_from
  this_row z = rw (one_row, ← e, ne_eqb f 0 z)

pub no_row_left : (t : List ℕ) (n r : ℕ) → n ≤ r → fault_from (n - r) t r ≡ answer 0 0
unfolding fault_from
no_row_left t n r h = let q : n - r ≡ 0 = omega arith in rw q
