-- THE LINES OF A TABLE: the readers of rows and of the whole table are exact (`rows`, `table`), for texts that are written from the table's words
-- front to back (`rows_by`). Assumes nothing.
use Rattle.std.specs.Prelude.{ℕ, zero, suc, ◌≤◌, List, [], ◌++◌, ◌≡◌, refl, drop}
use Rattle.std.proofs.Common.{append_assoc, append-nil, sym, ap, ap₂, ◌∙◌, arith, drop_at}
use Rattle.sheet.specs.Sheet.{decimal, line_of, feed, rows_key}
use Rattle.sheet.specs.Reader.{got, fixed_from, number_from, row_from, rows_from, table_from}
use Rattle.sheet.specs.Exact.{Exact, Goes, Nothing, nothing_more, nothing_some, Both, both, both_some, in_other_words}
use Rattle.sheet.specs.Names.{Fixed, fixed, fixed_some}
use Rattle.sheet.specs.Numbers.{Number, number, number_some}
use Rattle.sheet.specs.RowLines.{IsRow, row_by, RowLines, six_words, row_front, row, row_some}

-- so many rows, one behind the other
abbrev pub AreRows : ℕ → List ℕ → Type 0
AreRows zero t = t ≡ []
AreRows (suc m) t = (row : List ℕ) × (rest : List ℕ) × IsRow row × AreRows m rest × (t ≡ row ++ rest)

-- the lines of so many rows from row r up, whose words stand first in l
abbrev pub rows_by : ℕ → ℕ → List ℕ → List ℕ
rows_by r zero l = []
rows_by r (suc m) l = row_by r l ++ rows_by (suc r) m (drop 6 l)

record RowsLines (r m : ℕ) (t x : List ℕ) : Type 0 where
  right : AreRows m t
  is : x ≡ rows_by r m t

-- in parts, as they are read
abbrev RowsNext : ℕ → ℕ → List ℕ → List ℕ → List ℕ → Type 0
RowsNext r m row = Both (RowsLines (suc r) m) (λ t. Nothing (row ++ t))

abbrev RowsParts : ℕ → ℕ → List ℕ → List ℕ → Type 0
RowsParts r m = Both (RowLines r) (RowsNext r m)

rows_front : (r m : ℕ) (row rest : List ℕ) → IsRow row → rows_by r (suc m) (row ++ rest) ≡ row_by r row ++ rows_by (suc r) m rest
rows_front r m row rest p =
    ap₂ {C = List ℕ} (λ a b. a ++ b) (row_front r row rest p) (ap (λ (l : List ℕ). rows_by (suc r) m l) (drop_at row rest 6 (six_words row p)))

to_rows : (r m : ℕ) (t x : List ℕ) → RowsParts r m t x → RowsLines r (suc m) t x
to_rows r m t x p =
    let q = p.two in let e = q.two.value in
    record {
      right = (p.first, q.first, p.one.right, q.one.right, e);
      is =
          rw (p.is, p.one.is, q.is, q.one.is, q.two.is, append-nil (rows_by (suc r) m q.first), e)
          (sym (rows_front r m p.first q.first p.one.right));
    }

from_rows : (r m : ℕ) (t x : List ℕ) → RowsLines r (suc m) t x → RowsParts r m t x
from_rows r m t x p =
    let k = p.right in
    record {
      first = k.0;
      text = row_by r k.0;
      rest = rows_by (suc r) m k.1;
      one = record { right = k.2; is = refl };
      two =
          record {
            first = k.1;
            text = rows_by (suc r) m k.1;
            rest = [];
            one = record { right = k.3; is = refl };
            two = record { value = k.4; is = refl };
            is = sym (append-nil (rows_by (suc r) m k.1));
          };
      is = p.is ∙ ap (λ (l : List ℕ). rows_by r (suc m) l) k.4 ∙ rows_front r m k.0 k.1 k.2;
    }

rows_some : (m r : ℕ) → Goes (RowsLines r m) []
rows_some zero r = record { value = []; more = []; is = record { right = refl; is = refl } }
rows_some (suc m) r = more (rows_some m (suc r))
  where
    more : Goes (RowsLines (suc r) m) [] → Goes (RowsLines r (suc m)) []
    more s =
        let g = both_some (RowLines r) (RowsNext r m) (row_some r)
        (λ row. both_some (RowsLines (suc r) m) (λ t. Nothing (row ++ t)) s (λ t. nothing_some (row ++ t))) in
        record { value = g.value; more = g.more; is = to_rows r m g.value g.more g.is }

rows : (m r : ℕ) → Exact (RowsLines r m) (rows_from r m)
unfolding rows_from
rows zero r =
    in_other_words (Nothing []) (RowsLines r 0) (λ text. got [] text) (nothing_more [])
    (λ t x n. record { right = n.value; is = n.is }) (λ t x p. record { value = p.right; is = p.is })
rows (suc m) r = in_other_words (RowsParts r m) (RowsLines r (suc m)) (rows_from r (suc m)) (read (rows m (suc r))) (to_rows r m) (from_rows r m)
  where
    read : Exact (RowsLines (suc r) m) (rows_from (suc r) m) → Exact (RowsParts r m) (rows_from r (suc m))
    read e =
        both (RowLines r) (RowsNext r m) (row_from r) _ (row r)
        (λ row. both (RowsLines (suc r) m) (λ t. Nothing (row ++ t)) (rows_from (suc r) m) (λ t text. got (row ++ t) text) e
        (λ t. nothing_more (row ++ t)) (λ t. nothing_some (row ++ t)))
        (λ row. both_some (RowsLines (suc r) m) (λ t. Nothing (row ++ t)) (rows_some m (suc r)) (λ t. nothing_some (row ++ t)))

-- ---- the whole table

pub record TableLines (t x : List ℕ) : Type 0 where
  pub count : ℕ
  pub low : 1 ≤ count
  pub high : count ≤ 512
  pub right : AreRows count t
  pub is : x ≡ line_of rows_key (decimal count) ++ rows_by 0 count t

abbrev Counted : List ℕ → List ℕ → Type 0
Counted = Both (Number 1 512) (RowsLines 0)

abbrev TableParts : List ℕ → List ℕ → Type 0
TableParts = Both (Fixed rows_key 0) (λ _. Counted)

to_table : (t x : List ℕ) → TableParts t x → TableLines t x
unfolding line_of
to_table t x p =
    let q = p.two in
    record {
      count = q.first;
      low = q.one.low;
      high = q.one.high;
      right = q.two.right;
      is =
          rw (p.is, p.one.is, q.is, q.one.is, q.two.is) (sym (append_assoc rows_key (decimal q.first ++ feed) (rows_by 0 q.first t)));
    }

from_table : (t x : List ℕ) → TableLines t x → TableParts t x
unfolding line_of
from_table t x p =
    record {
      first = 0;
      text = rows_key;
      rest = (decimal p.count ++ feed) ++ rows_by 0 p.count t;
      one = record { value = refl; is = refl };
      two =
          record {
            first = p.count;
            text = decimal p.count ++ feed;
            rest = rows_by 0 p.count t;
            one = record { low = p.low; high = p.high; is = refl };
            two = record { right = p.right; is = refl };
            is = refl;
          };
      is = p.is ∙ append_assoc rows_key (decimal p.count ++ feed) (rows_by 0 p.count t);
    }

counted_some : Goes Counted []
counted_some = both_some (Number 1 512) (RowsLines 0) (number_some 1 512 (omega arith) (omega arith) (omega arith)) (λ n. rows_some n 0)

pub table : Exact TableLines table_from
unfolding table_from
table =
    in_other_words TableParts TableLines table_from
    (both (Fixed rows_key 0) (λ _. Counted) (fixed_from rows_key 0) _ (fixed 0 rows_key)
    (λ _. both (Number 1 512) (RowsLines 0) (number_from 1 512) (rows_from 0) (number 1 512 (omega arith) (omega arith) (omega arith)) (λ n. rows n 0) (λ n. rows_some n 0))
    (λ _. counted_some))
    to_table from_table

pub table_some : Goes TableLines []
table_some =
    let g = both_some (Fixed rows_key 0) (λ _. Counted) (fixed_some 0 rows_key) (λ _. counted_some) in
    record { value = g.value; more = g.more; is = to_table g.value g.more g.is }
