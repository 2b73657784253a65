-- WHAT IS TRUE OF ALL SHEETS.
--
--   Sheet                        a sheet: the text of a table that passes 1 to 3
--   read_back, one_sheet         a table's sheet is read as the table; and what is read as a table is its sheet
--   read_alike, written_alike    two texts that are read as one table are one text; two tables with one sheet are one table
--   First                        an offset up to which a text can still become a sheet, and not one byte further
--   first_is_longest             no longer beginning of the text can go on
--   first_is_one                 there is no second such offset
--   checked_has_sheet            a table that the check of rows accepts has a sheet
--   ReadMeans, WriteMeans        what `read_sheet` and `write_sheet` come to, in three cases each, with no word of a reader
--   read_means, write_means      that is what the two promise
--   offset_is_first              the offset that comes with 19 is a `First`
--   written_is_read              what `write_sheet` wrote, `read_sheet` reads
--   one_read, one_write          no second outcome fits the promises of the two
--
-- Assumes nothing.
use Rattle.std.specs.Prelude.{ℕ, zero, suc, ◌+◌, ◌-◌, ◌≤◌, ◌<◌, Bool, true, false, cond, List, [], ◌∷◌, ◌++◌, ◌≡◌, refl, eqb, leb, ltb, length, get_or, take, drop}
use Rattle.std.proofs.Common.{append_assoc, sym, ap, ◌∙◌, subst, arith, eq-eqb, eqb-true, ltb-true, ltb-false, leb-true, leb-false, length-append, take-append-drop, take_at, take-take}
use Rattle.std.proofs.lemmas.Bool.{eqb-false}
use Rattle.std.proofs.lemmas.List.Edits.{sets, sets-eq}
use Rattle.std.proofs.Math.Seq.{take-append_seam, take-append-add}
use Rattle.table.specs.Rows.{size}
use Rattle.table.specs.Check.{answer, LENGTH, KIND, SPARE, length_right, kind_right, spare_right, or_else, row_refusal, rows_from, table_refusal}
use Rattle.sheet.specs.Sheet.{sheet_of, row_fault, fault_from, sheet_refusal, has_sheet}
use Rattle.sheet.specs.Reader.{Read, got, bad, read_sheet}
use Rattle.sheet.specs.Answers.{ROOM, TEXT, SheetRead, sheet_read, read_by, read_answer, words_by, words_after, ReadAnswer, SheetWritten, sheet_written, write_refusal, write_answer, bytes_after, WriteAnswer}
use Rattle.sheet.specs.Exact.{Goes, never, got_value}
use Rattle.sheet.specs.WordLines.{Small}
use Rattle.sheet.specs.Whole.{Written, sheet_read_lem, read_is_sheet, break_goes, break_stops}

-- all are words
abbrev pub Words : List ℕ → Type 0
Words t = (k : ℕ) → get_or t k 0 < 4294967296

-- x is the sheet of a table of words that passes 1, 2 and 3
pub record Sheet (x : List ℕ) : Type 0 where
  pub table : List ℕ
  pub words : Words table
  pub passes : has_sheet table ≡ true
  pub is : x ≡ sheet_of table

abbrev pub Begins : List ℕ → List ℕ → Type 0
Begins x p = (q : List ℕ) × (x ≡ p ++ q)

-- some sheet begins with p
abbrev pub CanGoOn : List ℕ → Type 0
CanGoOn p = (x : List ℕ) × Sheet x × Begins x p

-- 'the first byte with which the text leaves every sheet behind': k bytes begin some sheet, one more do not. It is 'the text's length where the text ends early'.
pub record First (text : List ℕ) (k : ℕ) : Type 0 where
  pub within : k ≤ length text
  pub goes : CanGoOn (take k text)
  pub stops : k < length text → CanGoOn (take (k + 1) text) → ⊥
  pub no_sheet : Sheet text → ⊥

-- What `read_sheet` comes to: the number, the offset or row, how many words it wrote, and the lent words after it.
pub data ReadMeans (text lent : List ℕ) : ℕ → ℕ → ℕ → List ℕ → Type 0 where
  is_read : (s : Sheet text) → length s.table ≤ length lent → ReadMeans text lent 0 0 (length s.table) (sets lent 0 s.table)
  too_few_words : (s : Sheet text) → length lent < length s.table → ReadMeans text lent ROOM (size s.table) 0 lent
  breaks : {k : ℕ} → First text k → ReadMeans text lent TEXT k 0 lent

-- What `write_sheet` comes to: the number, the row, how many bytes it wrote, and the lent bytes after it.
pub data WriteMeans (t lent : List ℕ) : ℕ → ℕ → ℕ → List ℕ → Type 0 where
  is_written : has_sheet t ≡ true → length (sheet_of t) ≤ length lent → WriteMeans t lent 0 0 (length (sheet_of t)) (sets lent 0 (sheet_of t))
  too_few_bytes : has_sheet t ≡ true → length lent < length (sheet_of t) → WriteMeans t lent ROOM (size t) 0 lent
  has_none : has_sheet t ≡ false → WriteMeans t lent (sheet_refusal t).number (sheet_refusal t).row 0 lent

-- ---- words, in the two ways to say it

are_small : (t : List ℕ) → Words t → Small t
are_small [] h = tt
are_small (w ∷ t) h = let a = h 0 in (omega arith, are_small t (λ k. h (suc k)))

are_words : (t : List ℕ) → Small t → Words t
are_words [] s k = omega arith
are_words (w ∷ t) s zero = let a = s.0 in omega arith
are_words (w ∷ t) s (suc k) = are_words t s.1 k

of_sheet : (x : List ℕ) (s : Sheet x) → Written s.table x
of_sheet x s = record { small = are_small s.table s.words; passes = s.passes; is = s.is }

abbrev a_sheet : (t x : List ℕ) → Written t x → Sheet x
a_sheet t x w = record { table = t; words = are_words t w.small; passes = w.passes; is = w.is }

-- ---- a sheet is read, and what is read is a sheet

pub read_back : (t : List ℕ) → Words t → has_sheet t ≡ true → read_sheet (sheet_of t) ≡ got t []
read_back t w h = sheet_read_lem t (sheet_of t) (record { small = are_small t w; passes = h; is = refl })

pub one_sheet : (text t rest : List ℕ) → read_sheet text ≡ got t rest → (text ≡ sheet_of t) × (has_sheet t ≡ true) × Words t × (rest ≡ [])
one_sheet text t rest h = let z = read_is_sheet text t rest h in let w = z.0 in (w.is, w.passes, are_words t w.small, z.1)

pub read_alike : (x y t p q : List ℕ) → read_sheet x ≡ got t p → read_sheet y ≡ got t q → x ≡ y
read_alike x y t p q a b = (one_sheet x t p a).0 ∙ sym (one_sheet y t q b).0

pub written_alike : (t u : List ℕ) → Words t → Words u → has_sheet t ≡ true → has_sheet u ≡ true → sheet_of t ≡ sheet_of u → t ≡ u
written_alike t u v w h k e = got_value (sym (read_back t v h) ∙ ap read_sheet e ∙ read_back u w k)

-- ---- where a text breaks

-- the bytes before k, where p is as long
first_at_lem : (text p rest : List ℕ) → text ≡ p ++ rest → read_sheet text ≡ bad rest → Goes Written p → First text (length p)
first_at_lem text p rest e h g =
    record {
      within = omega (arith, long);
      goes = subst CanGoOn (sym before) (p ++ g.more, a_sheet g.value (p ++ g.more) g.is, (g.more, refl));
      stops = stops rest e h;
      no_sheet = λ s. never (sym (sheet_read_lem s.table text (of_sheet text s)) ∙ h);
    }
  where
    long : length text ≡ length p + length rest
    long = ap length e ∙ length-append p rest

    before : take (length p) text ≡ p
    before = ap (λ (l : List ℕ). take (length p) l) e ∙ take-append_seam p rest

    stops : (rest : List ℕ) → text ≡ p ++ rest → read_sheet text ≡ bad rest → length p < length text → CanGoOn (take (length p + 1) text) → ⊥
    stops [] e h n c = let l : length text ≡ length p + 0 = ap length e ∙ length-append p [] in absurd (omega arith)
    stops (b ∷ rest) e h n c =
        let cut : take (length p + 1) text ≡ p ++ (b ∷ []) = ap (λ (l : List ℕ). take (length p + 1) l) e ∙ take-append-add p (b ∷ rest) 1 in
        let q = c.2 in
        let x : c.0 ≡ p ++ (b ∷ q.0) = q.1 ∙ ap (λ (l : List ℕ). l ++ q.0) cut ∙ append_assoc p (b ∷ []) q.0 in
        break_stops p rest b (sym (ap read_sheet e) ∙ h) c.1.table q.0 (subst (λ (l : List ℕ). Written c.1.table l) x (of_sheet c.0 c.1))

breaks_first : (text rest : List ℕ) → read_sheet text ≡ bad rest → First text (length text - length rest)
breaks_first text rest h =
    let z = break_goes text rest h in
    let n : length text ≡ length z.0 + length rest = ap length z.1 ∙ length-append z.0 rest in
    let k : length text - length rest ≡ length z.0 = omega arith in
    subst (λ k. First text k) (sym k) (first_at_lem text z.0 rest z.1 h z.2)

-- if k bytes can go on, so can fewer
fewer : (text : List ℕ) (j k : ℕ) → j ≤ k → CanGoOn (take k text) → CanGoOn (take j text)
fewer text j k h c =
    let q = c.2 in let l = drop j (take k text) in
    let e : take k text ≡ take j text ++ l = sym (take-append-drop j (take k text)) ∙ ap (λ (m : List ℕ). m ++ l) (take-take j k text h) in
    (c.0, c.1, (l ++ q.0, q.1 ∙ ap (λ (m : List ℕ). m ++ q.0) e ∙ append_assoc (take j text) l q.0))

pub first_is_longest : (text : List ℕ) (j k : ℕ) → First text k → j ≤ length text → CanGoOn (take j text) → j ≤ k
first_is_longest text j k f h c = by (ltb k j) refl
  where
    by : (b : Bool) → ltb k j ≡ b → j ≤ k
    by true e = let n = ltb-true k j e in absurd (f.stops (omega arith) (fewer text (k + 1) j (omega arith) c))
    by false e = ltb-false k j e

pub first_is_one : (text : List ℕ) (j k : ℕ) → First text j → First text k → j ≡ k
first_is_one text j k a b =
    let p = first_is_longest text j k b a.within a.goes in let q = first_is_longest text k j a b.within b.goes in omega arith

-- ---- tables that pass 1 to 9

row_passes : (t : List ℕ) (r : ℕ) → row_refusal t r ≡ 0 → row_fault t r ≡ 0
unfolding row_refusal row_fault
row_passes t r h = by (kind_right t r) (spare_right t r) _ h
  where
    by : (a b : Bool) (later : ℕ) → or_else a KIND (or_else b SPARE later) ≡ 0 → or_else a KIND (or_else b SPARE 0) ≡ 0
    by true true later h = refl
    by true false later h = absurd (omega arith)
    by false b later h = absurd (omega arith)

rows_pass : (m : ℕ) (t : List ℕ) (r : ℕ) → (rows_from m t r).number ≡ 0 → (fault_from m t r).number ≡ 0
unfolding rows_from fault_from
rows_pass zero t r h = refl
rows_pass (suc m) t r h = by (rows_pass m t (r + 1)) (eqb (row_refusal t r) 0) refl h
  where
    by : ((rows_from m t (r + 1)).number ≡ 0 → (fault_from m t (r + 1)).number ≡ 0) → (b : Bool) → eqb (row_refusal t r) 0 ≡ b
        → (cond b (rows_from m t (r + 1)) (answer (row_refusal t r) r)).number ≡ 0
        → (cond (eqb (row_fault t r) 0) (fault_from m t (r + 1)) (answer (row_fault t r) r)).number ≡ 0
    by later true e h = rw (row_passes t r (eqb-true (row_refusal t r) 0 e)) (later h)
    by later false e h = absurd (eqb-false (row_refusal t r) 0 e h)

pub checked_has_sheet : (t : List ℕ) → (table_refusal t).number ≡ 0 → has_sheet t ≡ true
unfolding table_refusal sheet_refusal
checked_has_sheet t h = by (length_right t) h
  where
    by : (b : Bool) → (cond b (rows_from (size t) t 0) (answer LENGTH 0)).number ≡ 0 → eqb (cond b (fault_from (size t) t 0) (answer LENGTH 0)).number 0 ≡ true
    by true h = eq-eqb (fault_from (size t) t 0).number 0 (rows_pass (size t) t 0 h)
    by false h = absurd (omega arith)

-- ---- the two entries

pub read_means : (text lent : List ℕ) (n p l : ℕ) (x : List ℕ) → ReadAnswer text lent n p l x → ReadMeans text lent n p l x
unfolding read_answer words_after
read_means text lent n p l x a =
    subst (λ z. Means z x) (sym a.answer) (subst (λ y. Means (read_answer text (length lent)) y) (sym a.lent_words) (by (read_sheet text) refl))
  where
    Means : SheetRead → List ℕ → Type 0
    Means z y = ReadMeans text lent z.number z.place z.written y

    by : (r : Read (List ℕ)) → read_sheet text ≡ r → Means (read_by (length text) (length lent) r) (words_by lent r)
    by (bad rest) e = breaks (breaks_first text rest e)
    by (got t rest) e = room (leb (length t) (length lent)) refl
      where
        s : Sheet text
        s = a_sheet t text (read_is_sheet text t rest e).0

        room : (c : Bool) → leb (length t) (length lent) ≡ c
            → Means (cond c (sheet_read 0 0 (length t)) (sheet_read ROOM (size t) 0)) (cond c (sets lent 0 t) lent)
        room true h = is_read s (leb-true (length t) (length lent) h)
        room false h = too_few_words s (leb-false (length t) (length lent) h)

pub write_means : (t lent : List ℕ) (n r l : ℕ) (x : List ℕ) → WriteAnswer t lent n r l x → WriteMeans t lent n r l x
unfolding write_answer write_refusal bytes_after
write_means t lent n r l x a =
    subst (λ z. Means z x) (sym a.answer) (subst (λ y. Means (write_answer t (length lent)) y) (sym a.lent_bytes)
    (by (has_sheet t) (leb (length (sheet_of t)) (length lent)) refl refl))
  where
    Means : SheetWritten → List ℕ → Type 0
    Means z y = WriteMeans t lent z.number z.row z.written y

    by : (b c : Bool) → has_sheet t ≡ b → leb (length (sheet_of t)) (length lent) ≡ c
        → (let q = cond b (cond c (answer 0 0) (answer ROOM (size t))) (sheet_refusal t) in
        Means (sheet_written q.number q.row (cond (eqb q.number 0) (length (sheet_of t)) 0)) (cond (eqb q.number 0) (sets lent 0 (sheet_of t)) lent))
    by true true p h = is_written p (leb-true (length (sheet_of t)) (length lent) h)
    by true false p h = too_few_bytes p (leb-false (length (sheet_of t)) (length lent) h)
    by false c p h = rw p (has_none p)

pub offset_is_first : (text lent : List ℕ) (p l : ℕ) (x : List ℕ) → ReadAnswer text lent TEXT p l x → First text p
offset_is_first text lent p l x a = by (read_means text lent TEXT p l x a)
  where
    by : {p l : ℕ} {x : List ℕ} → ReadMeans text lent TEXT p l x → First text p
    by (breaks f) = f

pub one_read : (text lent : List ℕ) (n p l m q k : ℕ) (x y : List ℕ) → ReadAnswer text lent n p l x → ReadAnswer text lent m q k y
    → (n ≡ m) × (p ≡ q) × (l ≡ k) × (x ≡ y)
one_read text lent n p l m q k x y a b =
    let e = a.answer ∙ sym b.answer in (ap (λ z. z.number) e, ap (λ z. z.place) e, ap (λ z. z.written) e, a.lent_words ∙ sym b.lent_words)

pub one_write : (t lent : List ℕ) (n r l m q k : ℕ) (x y : List ℕ) → WriteAnswer t lent n r l x → WriteAnswer t lent m q k y
    → (n ≡ m) × (r ≡ q) × (l ≡ k) × (x ≡ y)
one_write t lent n r l m q k x y a b =
    let e = a.answer ∙ sym b.answer in (ap (λ z. z.number) e, ap (λ z. z.row) e, ap (λ z. z.written) e, a.lent_bytes ∙ sym b.lent_bytes)

-- With 0 the table's sheet stands first in the lent bytes, and it is the sheet of no other table.
pub written_is_read : (t bytes : List ℕ) (row n : ℕ) (after : List ℕ) → WriteAnswer t bytes 0 row n after → Words t
    → (lent : List ℕ) (number place written : ℕ) (words : List ℕ) → ReadAnswer (take n after) lent number place written words → length t ≤ length lent
    → (number ≡ 0) × (place ≡ 0) × (written ≡ length t) × (words ≡ sets lent 0 t)
written_is_read t bytes row n after a w lent number place written words b h =
    let z = stands (write_means t bytes 0 row n after a) refl in
    reads (record { table = t; words = w; passes = z.0; is = z.1 }) (read_means (take n after) lent number place written words b) h
  where
    stands : {k r m : ℕ} {x : List ℕ} → WriteMeans t bytes k r m x → k ≡ 0 → (has_sheet t ≡ true) × (take m x ≡ sheet_of t)
    stands (is_written p f) h =
        let s = sheet_of t in
        (p, ap (λ (l : List ℕ). take (length s) l) (sets-eq s bytes 0 (omega arith)) ∙ take_at s (drop (0 + length s) bytes) (length s) refl)
    stands (too_few_bytes p f) h = absurd (omega arith)
    stands (has_none p) h = absurd (eqb-false (sheet_refusal t).number 0 p h)

    -- a text is the sheet of one table
    one : {x : List ℕ} (s u : Sheet x) → s.table ≡ u.table
    one s u = written_alike s.table u.table s.words u.words s.passes u.passes (sym s.is ∙ u.is)

    reads : {text words : List ℕ} {number place written : ℕ} (s : Sheet text) → ReadMeans text lent number place written words → length s.table ≤ length lent
        → (number ≡ 0) × (place ≡ 0) × (written ≡ length s.table) × (words ≡ sets lent 0 s.table)
    reads s (is_read u f) h = (refl, refl, ap length (one u s), ap (λ (l : List ℕ). sets lent 0 l) (one u s))
    reads s (too_few_words u f) h = let e = ap length (one u s) in absurd (omega arith)
    reads s (breaks f) h = absurd (f.no_sheet s)
