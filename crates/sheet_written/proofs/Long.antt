-- How long a sheet is at most: `sheet_fits`. A number has ten digits at most, a name sixteen letters, a row five words, a table 512 rows.
-- Assumes nothing.
use Prim.Native.Nat.{ℕ, zero, suc, ◌+◌, ◌*◌, ◌≤◌}
use mathlib.Core.List.{List, ◌++◌}
use mathlib.Core.Path.{refl}
use native.Mathlib.Omega.{arith}
use borrow.Author.Tests.{leb-true}
use lib.Dec.{leb}
use lib.ListN.{length, length-append}
use Rattle.table.specs.Rows.{row_kinds, no_kind, kind_at, word, size, name_of, used_words, of_each, at_most_five}
use Rattle.sheet.specs.Sheet.{decimal, line_of, rows_key, row_key, kind_key, word_key, words_text, row_text, rows_text, sheet_of}
use Rattle.sheet.specs.Decimal.{ten_digits}
use Rattle.sheet.proofs.Writing.{line_room}

-- computed over the table of row kinds
pub sixteen_letters : (k : ℕ) → length (name_of k) ≤ 16
sixteen_letters k = leb-true (length (name_of k)) 16 (of_each (λ u. leb (length u.name) 16) row_kinds no_kind refl refl k)

words_fit : (t : List ℕ) (r m k : ℕ) → length (words_text m t r k) ≤ 13 * m
unfolding words_text
words_fit t r zero k = omega arith
words_fit t r (suc m) k =
    let d = ten_digits (word t r k) in let l = line_room (word_key k) (decimal (word t r k)) in let h = words_fit t r m (k + 1) in
    let e = length-append (line_of (word_key k) (decimal (word t r k))) (words_text m t r (k + 1)) in omega arith

row_fits : (t : List ℕ) (r : ℕ) → length (row_text t r) ≤ 102
unfolding row_text
row_fits t r =
    let kind = kind_at t r in let w = words_text (used_words kind) t r 1 in
    let a = ten_digits r in let b = line_room row_key (decimal r) in let c = sixteen_letters kind in let d = line_room kind_key (name_of kind) in
    let f = words_fit t r (used_words kind) 1 in let g = at_most_five kind in
    let h = length-append (line_of kind_key (name_of kind)) w in let e = length-append (line_of row_key (decimal r)) (line_of kind_key (name_of kind) ++ w) in omega arith

rows_fit : (t : List ℕ) (m r : ℕ) → length (rows_text m t r) ≤ 102 * m
unfolding rows_text
rows_fit t zero r = omega arith
rows_fit t (suc m) r =
    let a = row_fits t r in let h = rows_fit t m (r + 1) in let e = length-append (row_text t r) (rows_text m t (r + 1)) in omega arith

pub sheet_fits : (t : List ℕ) → size t ≤ 512 → length (sheet_of t) ≤ 65536
unfolding sheet_of
sheet_fits t q =
    let a = ten_digits (size t) in let b = line_room rows_key (decimal (size t)) in let h = rows_fit t (size t) 0 in
    let e = length-append (line_of rows_key (decimal (size t))) (rows_text (size t) t 0) in omega arith
