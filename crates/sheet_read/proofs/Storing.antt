-- Words that are read and stored one behind the other, and the lines of a row's words.
--   Going, going_begin, going_on, going_stops, going_ends    a loop that reads piece by piece
--   unfilled, where_stopped                                  a part that stops
--   words_begin, words_on, words_stop, words_end
-- Assumes nothing.
use Prim.Native.Nat.{ℕ, suc, ◌+◌, ◌-◌, ◌<◌, ◌≤◌}
use mathlib.Core.List.{List, [], ◌∷◌, ◌++◌, append-nil, append_assoc}
use mathlib.Core.Path.{◌≡◌, refl, sym, ap, ◌∙◌}
use native.Mathlib.Omega.{arith}
use borrow.Rule.Slice.PartMut.{put_mid}
use lib.ListN.{length, set, take, drop, replicate, length-append, length-replicate, length-take, length-drop}
use lib.Seq.{sets}
use Rattle.sheet.specs.Sheet.{word_key}
use Rattle.sheet.specs.Reader.{Read, got, bad, and_then, fixed_from, number_from, most_word, words_from}
use Rattle.sheet.proofs.Writing.{sets_append, part_written}
use Rattle.sheet_read.specs.Told.{place_of, Reads, Stores, line_from, Took, Word}
use Rattle.std.specs.Prelude.{Ok, Err}
use Rattle.sheet_read.proofs.Bytes.{Stops, no_more}

-- a part of a list that was filled with zeros
pub cleared : (l : List ℕ) (from k : ℕ) {ys : List ℕ} → ys ≡ replicate (length (take k (drop from l))) 0 → from + k ≤ length l → put_mid from k l ys ≡ sets l from (replicate k 0)
cleared l from k e h =
    let n : length (take k (drop from l)) ≡ k = simp (length-take, length-drop) (omega arith) in
    part_written l (replicate k 0) from k (e ∙ ap (λ (m : ℕ). replicate m 0) n) (sym (length-replicate {A = ℕ} k 0)) (rw (length-replicate {A = ℕ} k 0) h)

-- ---- a part that is read piece by piece

-- words that were read before, and those of what is left
abbrev pub behind : List ℕ → Read (List ℕ) → Read (List ℕ)
behind done (got ws rest) = got (done ++ ws) rest
behind done (bad rest) = bad rest

pub behind_none : (x : Read (List ℕ)) → behind [] x ≡ x
behind_none (got ws rest) = refl
behind_none (bad rest) = refl

behind_both : (us vs : List ℕ) (x : Read (List ℕ)) → behind (us ++ vs) x ≡ behind us (behind vs x)
behind_both us vs (got ws rest) = rw (append_assoc us vs ws)
behind_both us vs (bad rest) = refl

pub then_behind : (vs : List ℕ) (x : Read (List ℕ)) → and_then x (λ ws rest. got (vs ++ ws) rest) ≡ behind vs x
then_behind vs (got ws rest) = refl
then_behind vs (bad rest) = refl

-- so many words stand from i on, and `rest` is what is left of `what`
pub record Going (before : List ℕ) (i many : ℕ) (after : List ℕ) (rest what : Read (List ℕ)) : Type 0 where
  pub words : List ℕ
  pub is : behind words rest ≡ what
  pub count : length words ≡ many
  pub stored : after ≡ sets before i words

pub going_begin : (l : List ℕ) (i : ℕ) {what : Read (List ℕ)} {rest : Read (List ℕ)} → rest ≡ what → Going l i 0 l rest what
going_begin l i {what} {rest} e = record { words = []; is = behind_none rest ∙ e; count = refl; stored = refl }

module _ {l : List ℕ} {i many : ℕ} {after : List ℕ} {rest what : Read (List ℕ)} (g : Going l i many after rest what) where
  pub going_on : (ws : List ℕ) {k : ℕ} {later : List ℕ} (rest₁ : Read (List ℕ)) → rest ≡ behind ws rest₁ → later ≡ sets after (i + many) ws → length ws ≡ k
      → Going l i (many + k) later rest₁ what
  going_on ws {k} {later} rest₁ e f h = record {
    words = g.words ++ ws;
    is = behind_both g.words ws rest₁ ∙ ap (behind g.words) (sym e) ∙ g.is;
    count = let n = g.count in rw (length-append g.words ws) (omega arith);
    stored = f ∙ rw (g.stored, ← g.count) (sets_append l i g.words ws);
  }

  pub going_stops : {r : List ℕ} → rest ≡ bad r → bad r ≡ what
  going_stops e = sym (ap (behind g.words) e) ∙ g.is

  pub going_ends : {text : List ℕ} {v p total : ℕ} → rest ≡ got [] (drop p text) → many ≡ total → p ≤ length text → Stores text l i total after what (Word v p)
  going_ends {text} {v} {p} e n h = record {
    is = record {
      words = g.words;
      is = ap (λ (ws : List ℕ). got ws (drop p text)) (sym (append-nil g.words)) ∙ (sym (ap (behind g.words) e) ∙ g.is);
      count = g.count ∙ n;
      stored = g.stored;
    };
    inside = h;
  }

-- a part that stops
pub unfilled : (text l : List ℕ) (i many : ℕ) (after : List ℕ) (w : Took) {what : Read (List ℕ)} → Stops w → place_of w ≤ length text
    → bad (drop (place_of w) text) ≡ what → Stores text l i many after what w
unfilled text l i many after (Ok x) t h e = absurd t
unfilled text l i many after (Err s) t h e = record { is = e; inside = h }

pub where_stopped : {text l : List ℕ} {i many : ℕ} {after : List ℕ} {what : Read (List ℕ)} (w : Took) → Stops w → Stores text l i many after what w
    → bad (drop (place_of w) text) ≡ what
where_stopped (Ok x) t f = absurd t
where_stopped (Err s) t f = f.is

-- ---- word lines

words_by_line : (k m : ℕ) (text : List ℕ) → words_from k (suc m) text ≡ and_then (line_from k text) (λ w rest. behind (w ∷ []) (words_from (suc k) m rest))
unfolding words_from line_from
words_by_line k m text = by (fixed_from (word_key k) k text)
  where
    value : (y : Read ℕ) → and_then y (λ w rest. and_then (words_from (suc k) m rest) (λ ws rest. got (w ∷ ws) rest))
        ≡ and_then y (λ w rest. behind (w ∷ []) (words_from (suc k) m rest))
    value (got w rest) = then_behind (w ∷ []) (words_from (suc k) m rest)
    value (bad rest) = refl

    by : (x : Read ℕ) → and_then x (λ _ rest. and_then (number_from 0 most_word rest) (λ w rest. and_then (words_from (suc k) m rest) (λ ws rest. got (w ∷ ws) rest)))
        ≡ and_then (and_then x (λ _ rest. number_from 0 most_word rest)) (λ w rest. behind (w ∷ []) (words_from (suc k) m rest))
    by (got v rest) = value (number_from 0 most_word rest)
    by (bad rest) = refl

no_words : (k : ℕ) (rest : List ℕ) → words_from k 0 rest ≡ got [] rest
unfolding words_from
no_words k rest = refl

pub words_begin : (l : List ℕ) (to count : ℕ) (text : List ℕ) → Going l to 0 l (words_from (0 + 1) (count - 0) text) (words_from 1 count text)
words_begin l to count text = going_begin l to (ap (λ (m : ℕ). words_from 1 m text) (omega arith))

module _ (text : List ℕ) (p : ℕ) {l : List ℕ} {to count i : ℕ} {after : List ℕ} {what : Read (List ℕ)} (g : Going l to i after (words_from (i + 1) (count - i) (drop p text)) what) where
  line_next : i < count → words_from (i + 1) (count - i) (drop p text)
      ≡ and_then (line_from (i + 1) (drop p text)) (λ w rest. behind (w ∷ []) (words_from (i + 1 + 1) (count - (i + 1)) rest))
  line_next h = let z : count - i ≡ suc (count - (i + 1)) = omega arith in let y : i + 1 + 1 ≡ suc (i + 1) = omega arith in
      rw (z, y) (words_by_line (i + 1) (count - (i + 1)) (drop p text))

  pub words_on : {w : Took} {v q most : ℕ} → i < count → Reads text w most (line_from (i + 1) (drop p text)) → w ≡ Word v q
      → Going l to (i + 1) (set after (to + i) v) (words_from (i + 1 + 1) (count - (i + 1)) (drop q text)) what
  words_on {w} {v} {q} h r e = going_on g (v ∷ []) (words_from (i + 1 + 1) (count - (i + 1)) (drop q text)) (line_next h ∙ rw (← r.is, e)) refl refl

  pub words_stop : {w : Took} {most : ℕ} → i < count → Reads text w most (line_from (i + 1) (drop p text)) → Stops w → Stores text l to count after what w
  words_stop {w} h r t = unfilled text l to count after w t r.inside (going_stops g (line_next h ∙ rw (← r.is) (no_more text w _ t)))

  pub words_end : {v : ℕ} → count ≤ i → i ≤ count → p ≤ length text → Stores text l to count after what (Word v p)
  words_end {v} h b q = let z : count - i ≡ 0 = omega arith in going_ends g (rw z (no_words (i + 1) (drop p text))) (omega arith) q
