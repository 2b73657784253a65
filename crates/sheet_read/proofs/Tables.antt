-- Rows, the table and the whole text: each part stops at one of its parts, or is read.
--   row_no_start, row_no_kind, row_no_words, row_read
--   rows_begin, rows_on, rows_stop, rows_end
--   table_no_key, table_no_number, table_read
--   whole_stop, whole_more, whole_all
-- Assumes nothing.
use Prim.Native.Nat.{ℕ, suc, ◌+◌, ◌-◌, ◌*◌, ◌<◌, ◌≤◌}
use mathlib.Core.List.{List, [], ◌∷◌, ◌++◌}
use mathlib.Core.Path.{◌≡◌, refl, sym, ap, ◌∙◌}
use native.Mathlib.Omega.{arith}
use native.Mathlib.Numerals.{add-one}
use lib.ListN.{length, set, drop, replicate, length-append, length-replicate, drop_of_length-le}
use lib.Seq.{sets}
use Rattle.table.specs.Rows.{used_words, at_most_five}
use Rattle.sheet.specs.Sheet.{decimal, line_of, rows_key, row_key, kind_key}
use Rattle.sheet.specs.Reader.{Read, got, bad, and_then, fixed_from, number_from, kind_from, words_from, row_from, rows_from, table_from, whole, read_sheet}
use Rattle.sheet.proofs.Writing.{sets_append}
use Rattle.sheet_read.specs.Told.{worth, Reads, Filled, Stores, Took, Word, Bad}
use Rattle.std.specs.Prelude.{Ok, Err}
use Rattle.sheet_read.proofs.Bytes.{Goes, Stops, next, no_more}
use Rattle.sheet_read.proofs.Storing.{behind, then_behind, Going, going_begin, going_on, going_stops, going_ends, unfilled, where_stopped}

-- ---- a row

abbrev start_of : ℕ → List ℕ
start_of r = line_of row_key (decimal r) ++ kind_key

-- the row of these words: the others are 0
abbrev row_of : ℕ → List ℕ → List ℕ
row_of kind ws = kind ∷ (ws ++ replicate (5 - used_words kind) 0)

-- A part that stops, and where the words are not told yet.
module _ (text : List ℕ) (at r : ℕ) (l : List ℕ) (to : ℕ) (after : List ℕ) where
  pub row_no_start : {s : Took} {m : ℕ} → Reads text s m (fixed_from (start_of r) r (drop at text)) → Stops s
      → Stores text l to 6 after (row_from r (drop at text)) s
  unfolding row_from
  row_no_start {s} a t = unfilled text l to 6 after s t a.inside (sym (rw (← a.is) (no_more text s _ t)))

  module _ {s : Took} {u p m : ℕ} (a : Reads text s m (fixed_from (start_of r) r (drop at text))) (e : s ≡ Word u p) where
    pub row_no_kind : {k : Took} {n : ℕ} → Reads text k n (kind_from (drop p text)) → Stops k → Stores text l to 6 after (row_from r (drop at text)) k
    unfolding row_from
    row_no_kind {k} b t = unfilled text l to 6 after k t b.inside (sym (rw (← a.is, e, ← b.is) (no_more text k _ t)))

    module _ {k : Took} {kind q n used : ℕ} (b : Reads text k n (kind_from (drop p text))) (f : k ≡ Word kind q) (g : used ≡ used_words kind) where
      row_words_lem : row_from r (drop at text) ≡ and_then (words_from 1 used (drop q text)) (λ ws rest. got (row_of kind ws) rest)
      unfolding row_from
      row_words_lem = rw (← a.is, e, ← b.is, f, g)

      pub row_no_words : {w : Took} {l₁ l₂ : List ℕ} {i : ℕ} → Stores text l₁ i used l₂ (words_from 1 used (drop q text)) w → Stops w
          → Stores text l to 6 after (row_from r (drop at text)) w
      row_no_words {w} d t =
          unfilled text l to 6 after w t d.inside (sym (row_words_lem ∙ rw (← (where_stopped w t d))))

      pub row_read : (w : Took) {l₂ : List ℕ} → Stores text (set l to kind) (to + 1) used l₂ (words_from 1 used (drop q text)) w → Goes w
          → after ≡ sets l₂ (to + 1 + used) (replicate (to + 6 - (to + 1 + used)) 0) → Stores text l to 6 after (row_from r (drop at text)) w
      row_read (Err x) d t h = absurd t
      row_read (Ok x) {l₂} d t h =
          let ws = d.is.words in let c = d.is.count in let five = at_most_five kind in
          let zeros : List ℕ = replicate (5 - used_words kind) 0 in
          let n : to + 6 - (to + 1 + used) ≡ 5 - used_words kind = omega arith in
          record {
            is = record {
              words = row_of kind ws;
              is = sym (row_words_lem ∙ rw (← d.is.is));
              count = let y : length (ws ++ zeros) ≡ used + (5 - used_words kind) = rw (length-append ws zeros, length-replicate, c) in omega arith;
              stored = h ∙ rw (n, d.is.stored, ← c, add-one to) (sets_append (set l to kind) (suc to) ws zeros);
            };
            inside = d.inside;
          }

-- ---- rows

pub rows_begin : (l : List ℕ) (count : ℕ) (text : List ℕ) → Going l 0 (6 * 0) l (rows_from 0 (count - 0) text) (rows_from 0 count text)
rows_begin l count text = going_begin l 0 (ap (λ (m : ℕ). rows_from 0 m text) (omega arith))

rows_by_row : (r m : ℕ) (text row rest : List ℕ) → got row rest ≡ row_from r text → rows_from r (suc m) text ≡ behind row (rows_from (suc r) m rest)
unfolding rows_from
rows_by_row r m text row rest e = rw (← e) (then_behind row (rows_from (suc r) m rest))

rows_by_none : (r m : ℕ) (text : List ℕ) {rest : List ℕ} → bad rest ≡ row_from r text → rows_from r (suc m) text ≡ bad rest
unfolding rows_from
rows_by_none r m text e = rw (← e)

no_rows : (r : ℕ) (rest : List ℕ) → rows_from r 0 rest ≡ got [] rest
unfolding rows_from
no_rows r rest = refl

module _ (text : List ℕ) (p : ℕ) {l : List ℕ} {count r : ℕ} {after : List ℕ} {what : Read (List ℕ)} (g : Going l 0 (6 * r) after (rows_from r (count - r) (drop p text)) what) where
  pub rows_on : {w : Took} {v q : ℕ} {later : List ℕ} → r < count → Stores text after (6 * r) 6 later (row_from r (drop p text)) w → w ≡ Word v q
      → Going l 0 (6 * (r + 1)) later (rows_from (r + 1) (count - (r + 1)) (drop q text)) what
  rows_on {w} {v} {q} {later} h d e =
      let f : Filled text after (6 * r) 6 later (row_from r (drop p text)) q = rw e at d.is in
      let z : count - r ≡ suc (count - (r + 1)) = omega arith in let y : 6 * (r + 1) ≡ 6 * r + 6 = omega arith in let x : 0 + 6 * r ≡ 6 * r = omega arith in
      rw y (going_on g f.words (rows_from (r + 1) (count - (r + 1)) (drop q text))
      (rw (z, add-one r) (rows_by_row r (count - suc r) (drop p text) f.words (drop q text) f.is)) (rw x f.stored) f.count)

  pub rows_stop : {w : Took} {later : List ℕ} {many : ℕ} → r < count → Stores text after (6 * r) 6 later (row_from r (drop p text)) w → Stops w
      → Stores text l 0 many later what w
  rows_stop {w} {later} {many} h d t = let z : count - r ≡ suc (count - (r + 1)) = omega arith in
      unfilled text l 0 many later w t d.inside (going_stops g (rw z (rows_by_none r (count - (r + 1)) (drop p text) (where_stopped w t d))))

  pub rows_end : count ≤ r → r ≤ count → p ≤ length text → Stores text l 0 (6 * count) after what (Word count p)
  rows_end h b q = let z : count - r ≡ 0 = omega arith in going_ends g (rw z (no_rows r (drop p text))) (omega arith) q

-- a part that stops stands for no number
pub nothing : (w : Took) → Stops w → worth w ≤ 512
nothing (Ok x) t = absurd t
nothing (Err s) t = omega arith

pub bounded : {w : Took} {n p : ℕ} → worth w ≤ 512 → w ≡ Word n p → n ≤ 512
bounded h e = rw e at h

-- ---- the table

module _ (text l after : List ℕ) where
  pub table_no_key : {k : Took} {m n : ℕ} → Reads text k m (fixed_from rows_key 0 text) → Stops k → Stores text l 0 n after (table_from text) k × (worth k ≤ 512)
  unfolding table_from
  table_no_key {k} {m} {n} a t = (unfilled text l 0 n after k t a.inside (sym (rw (← a.is) (no_more text k _ t))), nothing k t)

  module _ {k : Took} {u p m : ℕ} (a : Reads text k m (fixed_from rows_key 0 text)) (e : k ≡ Word u p) where
    pub table_no_number : {n : Took} {most many : ℕ} → Reads text n most (number_from 1 512 (drop p text)) → Stops n
        → Stores text l 0 many after (table_from text) n × (worth n ≤ 512)
    unfolding table_from
    table_no_number {n} {most} {many} b t = (unfilled text l 0 many after n t b.inside (sym (rw (← a.is, e, ← b.is) (no_more text n _ t))), nothing n t)

    pub table_read : {n w : Took} {count q most many : ℕ} → Reads text n most (number_from 1 512 (drop p text)) → n ≡ Word count q
        → Stores text l 0 many after (rows_from 0 count (drop q text)) w → Stores text l 0 many after (table_from text) w
    unfolding table_from
    table_read {n} {w} b f d = rw (← a.is, e, ← b.is, f) d

  -- ---- the whole text

  pub whole_stop : {w : Took} {many : ℕ} → Stores text l 0 many after (table_from text) w → Stops w → Stores text l 0 many after (read_sheet text) w
  unfolding read_sheet
  whole_stop {w} {many} d t = unfilled text l 0 many after w t d.inside (rw (← (where_stopped w t d)))

  pub whole_more : {w : Took} {n p many : ℕ} → Stores text l 0 many after (table_from text) w → w ≡ Word n p → p < length text
      → Stores text l 0 (6 * 0) after (read_sheet text) (Bad p) × (0 ≤ 512)
  unfolding read_sheet
  whole_more {w} {n} {p} {many} d e h =
      let f : Filled text l 0 many after (table_from text) p = rw e at d.is in
      (record { is = rw (← f.is, next text p h); inside = omega arith }, omega arith)

  ending : (ws rest : List ℕ) {x : Read (List ℕ)} → got ws rest ≡ x → rest ≡ [] → got ws rest ≡ whole x
  ending ws rest e z = rw (← e, z)

  pub whole_all : {w : Took} {n p : ℕ} → Stores text l 0 (6 * worth w) after (table_from text) w → w ≡ Word n p → length text ≤ p
      → Stores text l 0 (6 * n) after (read_sheet text) (Word n p)
  unfolding read_sheet
  whole_all {w} {n} {p} d e h =
      let f : Stores text l 0 (6 * n) after (table_from text) (Word n p) = rw e at d in
      record {
        is = record { words = f.is.words; is = ending f.is.words (drop p text) f.is.is (drop_of_length-le text h); count = f.is.count; stored = f.is.stored };
        inside = f.inside;
      }
