-- What read_sheet answers, from what the whole text was read as.
--   refused     the text is no sheet
--   too_few     the lent words are too few
--   answered    the words were copied
-- Assumes nothing.
use Prim.Native.Nat.{ℕ, ◌+◌, ◌-◌, ◌*◌, ◌/◌, ◌<◌, ◌≤◌}
use mathlib.Core.List.{List, ◌++◌}
use mathlib.Core.Path.{◌≡◌, ◌∙◌}
use native.Mathlib.Omega.{arith}
use borrow.Author.Tests.{le-leb, lt-leb}
use lib.ListN.{length, take, drop, replicate, length-drop, length-replicate}
use lib.Seq.{sets, sets-eq}
use Rattle.sheet.specs.Reader.{bad, read_sheet}
use Rattle.sheet.specs.Answers.{ReadAnswer, read_answer, words_after}
use Rattle.sheet_read.specs.Told.{worth, Filled, Stores, Took, Word, Bad}
use Rattle.sheet_read.proofs.Names.{due}

-- the scratch words are enough for 512 rows
pub enough : {n : ℕ} → n ≤ 512 → 6 * n ≤ length (replicate {A = ℕ} 3072 0)
enough h = rw (length-replicate {A = ℕ} 3072 0) (omega arith)

-- 'the offset': the place is in the text, and what stands from there on says which it is
pub refused : (text lent : List ℕ) {l after : List ℕ} {w : Took} {p many : ℕ} → Stores text l 0 many after (read_sheet text) w → w ≡ Bad p
    → ReadAnswer text lent 19 p 0 lent
unfolding read_answer words_after
refused text lent {l} {after} {w} {p} {many} d e =
    let f : bad (drop p text) ≡ read_sheet text = rw e at d.is in
    let h : p ≤ length text = rw e at d.inside in
    let z : length text - (length text - p) ≡ p = omega arith in
    record { answer = rw (← f, length-drop p text, z); lent_words = rw (← f) }

-- the front of a list that was overwritten
pub front_written : (l xs : List ℕ) (k : ℕ) {ys : List ℕ} → ys ≡ xs → k ≡ length xs → length xs ≤ length l → ys ++ drop k l ≡ sets l 0 xs
front_written l xs k e q h = let z : 0 + length xs ≡ length xs = omega arith in rw (e, q, sets-eq xs l 0 (omega arith), z)

module _ (text lent : List ℕ) {l after : List ℕ} {w : Took} {n p : ℕ} (d : Stores text l 0 (6 * worth w) after (read_sheet text) w) (e : w ≡ Word n p) where
  pub filled : Filled text l 0 (6 * n) after (read_sheet text) p
  filled = (rw e at d).is

  pub too_few : length lent < 6 * n → ReadAnswer text lent 10 n 0 lent
  unfolding read_answer words_after
  too_few h = let f = filled in let z : 6 * n / 6 ≡ n = omega arith in
      record { answer = rw (← f.is, f.count, lt-leb (6 * n) (length lent) h, z); lent_words = rw (← f.is, f.count, lt-leb (6 * n) (length lent) h) }

  -- the words stand in the scratch words, and are copied
  pub copied : 6 * n ≤ length l → (6 * n ≤ length after) × (6 * n ≡ length (take (6 * n) after)) × (take (6 * n) after ≡ filled.words)
  copied h = let f = filled in due l f.words f.stored (let c = f.count in omega arith) (let c = f.count in omega arith)

  pub answered : {last : List ℕ} → 6 * n ≤ length l → 6 * n ≤ length lent → last ≡ sets lent 0 (take (6 * n) after) → ReadAnswer text lent 0 0 (6 * n) last
  unfolding read_answer words_after
  answered h q s = let f = filled in
      record {
        answer = rw (← f.is, f.count, le-leb (6 * n) (length lent) q);
        lent_words = s ∙ rw ((copied h).2, ← f.is, f.count, le-leb (6 * n) (length lent) q);
      }
