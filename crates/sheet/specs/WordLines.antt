-- WORD LINES: the reader `words_from` is exact for a line for each word of a list (`words`). Assumes nothing.
use Rattle.std.specs.Prelude.{ℕ, zero, suc, ◌≤◌, List, [], ◌∷◌, ◌++◌, ◌≡◌, refl, length, take, drop, replicate}
use Rattle.std.proofs.Common.{append_assoc, append-nil, sym, ◌∙◌, arith}
use Rattle.std.proofs.lemmas.List.{length-replicate}
use Rattle.sheet.specs.Sheet.{decimal, line_of, feed, word_key}
use Rattle.sheet.specs.Reader.{got, fixed_from, number_from, most_word, words_from}
use Rattle.sheet.specs.Exact.{Exact, Goes, Nothing, nothing_more, nothing_some, Both, both, both_some, in_other_words}
use Rattle.sheet.specs.Names.{Fixed, fixed}
use Rattle.sheet.specs.Numbers.{Number, number, number_some}

-- a line for each word, from word k on
abbrev pub lines_of : ℕ → List ℕ → List ℕ
lines_of k [] = []
lines_of k (w ∷ ws) = line_of (word_key k) (decimal w) ++ lines_of (suc k) ws

-- each fits a word
abbrev pub Small : List ℕ → Type 0
Small [] = Unit
Small (w ∷ ws) = (w ≤ most_word) × Small ws

pub small_drop : (n : ℕ) (l : List ℕ) → Small l → Small (drop n l)
small_drop zero l s = s
small_drop (suc n) [] s = tt
small_drop (suc n) (w ∷ l) s = small_drop n l s.1

pub small_take : (n : ℕ) (l : List ℕ) → Small l → Small (take n l)
small_take zero l s = tt
small_take (suc n) [] s = tt
small_take (suc n) (w ∷ l) s = (s.0, small_take n l s.1)

pub small_append : (a b : List ℕ) → Small a → Small b → Small (a ++ b)
small_append [] b s u = u
small_append (w ∷ a) b s u = (s.0, small_append a b s.1 u)

pub small_zeros : (n : ℕ) → Small (replicate n 0)
small_zeros zero = tt
small_zeros (suc n) = (omega arith, small_zeros n)

-- x has the lines of m words, ws, from word k on
pub record WordLines (k m : ℕ) (ws x : List ℕ) : Type 0 where
  pub count : length ws ≡ m
  pub small : Small ws
  pub is : x ≡ lines_of k ws

-- in parts, as they are read
abbrev WordNext : ℕ → ℕ → ℕ → List ℕ → List ℕ → Type 0
WordNext k m w = Both (WordLines (suc k) m) (λ ws. Nothing (w ∷ ws))

abbrev WordNumber : ℕ → ℕ → List ℕ → List ℕ → Type 0
WordNumber k m = Both (Number 0 most_word) (WordNext k m)

abbrev WordParts : ℕ → ℕ → List ℕ → List ℕ → Type 0
WordParts k m = Both (Fixed (word_key k) k) (λ _. WordNumber k m)

to_words : (k m : ℕ) (ws x : List ℕ) → WordParts k m ws x → WordLines k (suc m) ws x
unfolding line_of
to_words k m ws x p =
    let q = p.two in let r = q.two in let w = q.first in let e = r.two.value in let c = r.one.count in
    record {
      count = rw (e, c);
      small = rw e (q.one.high, r.one.small);
      is = rw (e, p.is, p.one.is, q.is, q.one.is, r.is, r.one.is, r.two.is, append-nil (lines_of (suc k) r.first))
          (sym (append_assoc (word_key k) (decimal w ++ feed) (lines_of (suc k) r.first)));
    }

from_words : (k m : ℕ) (ws x : List ℕ) → WordLines k (suc m) ws x → WordParts k m ws x
unfolding line_of
from_words k m [] x p = let e = p.count in absurd (omega arith)
from_words k m (w ∷ ws) x p =
    let e = p.count in
    record {
      first = k;
      text = word_key k;
      rest = (decimal w ++ feed) ++ lines_of (suc k) ws;
      one = record { value = refl; is = refl };
      two =
          record {
            first = w;
            text = decimal w ++ feed;
            rest = lines_of (suc k) ws;
            one = record { low = omega arith; high = p.small.0; is = refl };
            two =
                record {
                  first = ws;
                  text = lines_of (suc k) ws;
                  rest = [];
                  one = record { count = omega arith; small = p.small.1; is = refl };
                  two = record { value = refl; is = refl };
                  is = sym (append-nil (lines_of (suc k) ws));
                };
            is = refl;
          };
      is = p.is ∙ append_assoc (word_key k) (decimal w ++ feed) (lines_of (suc k) ws);
    }

pub words_some : (k m : ℕ) → Goes (WordLines k m) []
words_some k m = record { value = replicate m 0; more = lines_of k (replicate m 0); is = record { count = length-replicate m 0; small = small_zeros m; is = refl } }

word : Exact (Number 0 most_word) (number_from 0 most_word)
word = number 0 most_word (omega arith) (omega arith) (omega arith)

pub words : (m k : ℕ) → Exact (WordLines k m) (words_from k m)
unfolding words_from
words zero k = in_other_words (Nothing []) (WordLines k 0) (λ text. got [] text) (nothing_more []) to from
  where
    to : (ws x : List ℕ) → Nothing [] ws x → WordLines k 0 ws x
    to ws x n = record { count = rw n.value; small = rw n.value tt; is = rw (n.value, n.is) }

    from : (ws x : List ℕ) → WordLines k 0 ws x → Nothing [] ws x
    from [] x p = record { value = refl; is = p.is }
    from (w ∷ ws) x p = let e = p.count in absurd (omega arith)
words (suc m) k = in_other_words (WordParts k m) (WordLines k (suc m)) (words_from k (suc m)) (read (words m (suc k))) (to_words k m) (from_words k m)
  where
    next_some : (w : ℕ) → Goes (WordNext k m w) []
    next_some w = both_some (WordLines (suc k) m) (λ ws. Nothing (w ∷ ws)) (words_some (suc k) m) (λ ws. nothing_some (w ∷ ws))

    read : Exact (WordLines (suc k) m) (words_from (suc k) m) → Exact (WordParts k m) (words_from k (suc m))
    read e =
        both (Fixed (word_key k) k) (λ _. WordNumber k m) (fixed_from (word_key k) k) _ (fixed k (word_key k))
        (λ _. both (Number 0 most_word) (WordNext k m) (number_from 0 most_word) _ word
        (λ w. both (WordLines (suc k) m) (λ ws. Nothing (w ∷ ws)) (words_from (suc k) m) (λ ws text. got (w ∷ ws) text)
        e (λ ws. nothing_more (w ∷ ws)) (λ ws. nothing_some (w ∷ ws)))
        next_some)
        (λ _. both_some (Number 0 most_word) (WordNext k m) (number_some 0 most_word (omega arith) (omega arith) (omega arith)) next_some)
