-- THE WHOLE TEXT: `table_from` is exact for the sheets of tables (`sheets`), and so `read_sheet` reads a sheet and nothing else: `sheet_read_lem`, `read_is_sheet`,
-- and where it breaks (`break_goes`, `break_stops`). Assumes nothing.
use Rattle.std.specs.Prelude.{ℕ, ◌*◌, true, List, [], ◌∷◌, ◌++◌, ◌⊎◌, ◌≡◌, refl, length}
use Rattle.std.proofs.Common.{append-nil, inl, inr, sym, ap, ◌∙◌}
use Rattle.table.specs.Rows.{size}
use Rattle.sheet.specs.Sheet.{decimal, line_of, rows_key, sheet_of, has_sheet}
use Rattle.sheet.specs.Reader.{Read, got, bad, table_from, whole, read_sheet}
use Rattle.sheet.specs.Exact.{Exact, Goes, in_other_words, never, same_rest, got_rest, got_value, cancel_right}
use Rattle.sheet.specs.WordLines.{Small}
use Rattle.sheet.specs.TableLines.{TableLines, table, table_some, rows_by}
use Rattle.sheet.specs.RowByRow.{sheet_by_rows}
use Rattle.sheet.specs.Passing.{rows_are, passes_are_rows, rows_pass}

-- x is the sheet of t
pub record Written (t x : List ℕ) : Type 0 where
  pub small : Small t
  pub passes : has_sheet t ≡ true
  pub is : x ≡ sheet_of t

to_sheet : (t x : List ℕ) → TableLines t x → Written t x
to_sheet t x p =
    let a = rows_are p.count t p.right in let b = rows_pass t p.count p.low p.high p.right in
    let e : length t ≡ 6 * size t = a.0 ∙ ap (λ n. 6 * n) (sym b.0) in
    record {
      small = a.1;
      passes = b.1;
      is = p.is ∙ ap (λ n. line_of rows_key (decimal n) ++ rows_by 0 n t) (sym b.0) ∙ sym (sheet_by_rows t e);
    }

from_sheet : (t x : List ℕ) → Written t x → TableLines t x
from_sheet t x p =
    let r = passes_are_rows t p.small p.passes in
    record { count = size t; low = r.low; high = r.high; right = r.rows; is = p.is ∙ sheet_by_rows t r.even }

sheets : Exact Written table_from
sheets = in_other_words TableLines Written table_from table to_sheet from_sheet

some_sheet : Goes Written []
some_sheet = record { value = table_some.value; more = table_some.more; is = to_sheet table_some.value table_some.more table_some.is }

-- ---- nothing behind it

pub sheet_read_lem : (t x : List ℕ) → Written t x → read_sheet x ≡ got t []
unfolding read_sheet
sheet_read_lem t x w = let h : table_from x ≡ got t [] = rw (append-nil x) at (sheets.back t x [] w) in rw h

pub read_is_sheet : (text t rest : List ℕ) → read_sheet text ≡ got t rest → Written t text × (rest ≡ [])
unfolding read_sheet
read_is_sheet text t rest h = by (table_from text) refl h
  where
    by : (x : Read (List ℕ)) → table_from text ≡ x → whole x ≡ got t rest → Written t text × (rest ≡ [])
    by (bad o) e h = never (sym h)
    by (got u (b ∷ o)) e h = never (sym h)
    by (got u []) e h =
        let p = sheets.only text [] t (e ∙ ap (λ (l : List ℕ). got l []) (got_value h)) in let l = p.lies in
        (record { small = l.small; passes = l.passes; is = p.is ∙ append-nil p.written ∙ l.is }, sym (got_rest h))

-- where the reading breaks, a sheet goes on
pub break_goes : (text rest : List ℕ) → read_sheet text ≡ bad rest → (p : List ℕ) × (text ≡ p ++ rest) × Goes Written p
unfolding read_sheet
break_goes text rest h = by (table_from text) refl h
  where
    goes : (p : List ℕ) → (p ≡ []) ⊎ Goes Written p → Goes Written p
    goes p (inl z) = rw z some_sheet
    goes p (inr g) = g

    by : (x : Read (List ℕ)) → table_from text ≡ x → whole x ≡ bad rest → (p : List ℕ) × (text ≡ p ++ rest) × Goes Written p
    by (bad o) e h = let k = sheets.live text rest (e ∙ h) in (k.before, k.is, goes k.before k.goes)
    by (got u []) e h = never h
    by (got u (b ∷ o)) e h =
        let k = sheets.only text (b ∷ o) u e in
        (k.written, k.is ∙ ap (λ (l : List ℕ). k.written ++ l) (same_rest h), record { value = u; more = []; is = rw (append-nil k.written) k.lies })

-- and whatever stands behind the byte there, the reading breaks at it
break_local : (p rest other : List ℕ) (b : ℕ) → read_sheet (p ++ (b ∷ rest)) ≡ bad (b ∷ rest) → read_sheet (p ++ (b ∷ other)) ≡ bad (b ∷ other)
unfolding read_sheet
break_local p rest other b h = by (table_from (p ++ (b ∷ rest))) refl h
  where
    by : (x : Read (List ℕ)) → table_from (p ++ (b ∷ rest)) ≡ x → whole x ≡ bad (b ∷ rest) → whole (table_from (p ++ (b ∷ other))) ≡ bad (b ∷ other)
    by (bad o) e h = rw (sheets.local p rest other b (e ∙ h))
    by (got u []) e h = never h
    by (got u (c ∷ o)) e h =
        let k = sheets.only (p ++ (b ∷ rest)) (b ∷ rest) u (e ∙ ap (λ l. got u l) (same_rest h)) in
        let z : p ≡ k.written = cancel_right p k.written (b ∷ rest) k.is in
        rw (z, sheets.back u k.written (b ∷ other) k.lies)

-- so no sheet has that byte there
pub break_stops : (p rest : List ℕ) (b : ℕ) → read_sheet (p ++ (b ∷ rest)) ≡ bad (b ∷ rest) → (t more : List ℕ) → Written t (p ++ (b ∷ more)) → ⊥
break_stops p rest b h t more w = never (sym (sheet_read_lem t (p ++ (b ∷ more)) w) ∙ break_local p rest more b h)
