-- THE LINES OF A ROW: the reader `row_from` is exact (`row`) for the text that is written from six words (`row_by`). Assumes nothing.
use Rattle.std.specs.Prelude.{ℕ, suc, ◌-◌, ◌<◌, List, [], ◌∷◌, ◌++◌, ◌≡◌, refl, length, get_or, take, drop, replicate}
use Rattle.std.proofs.Common.{append_assoc, append-nil, sym, ap, ◌∙◌, arith, length-append, take_at}
use Rattle.std.proofs.lemmas.List.{length-replicate}
use Rattle.table.specs.Rows.{row_kinds, name_of, used_words, at_most_five}
use Rattle.sheet.specs.Sheet.{decimal, line_of, feed, row_key, kind_key}
use Rattle.sheet.specs.Reader.{got, fixed_from, kind_from, words_from, row_from}
use Rattle.sheet.specs.Exact.{Exact, Goes, Nothing, nothing_more, nothing_some, Both, both, both_some, in_other_words}
use Rattle.sheet.specs.Names.{Fixed, fixed, fixed_some, KindLine, kind_line, kind_some}
use Rattle.sheet.specs.WordLines.{Small, lines_of, WordLines, words, words_some}

-- ---- a row

-- the words that a kind does not use
abbrev pub zeros : ℕ → List ℕ
zeros kind = replicate (5 - used_words kind) 0

-- six words: a kind, the words that it uses, and zeros
pub record IsRow (row : List ℕ) : Type 0 where
  pub kind : ℕ
  pub ws : List ℕ
  pub known : kind < length row_kinds
  pub count : length ws ≡ used_words kind
  pub small : Small ws
  pub is : row ≡ kind ∷ (ws ++ zeros kind)

-- the lines of row r, whose words stand first in l
abbrev pub row_by : ℕ → List ℕ → List ℕ
row_by r l = line_of row_key (decimal r) ++ (line_of kind_key (name_of (get_or l 0 0)) ++ lines_of 1 (take (used_words (get_or l 0 0)) (drop 1 l)))

pub record RowLines (r : ℕ) (row x : List ℕ) : Type 0 where
  pub right : IsRow row
  pub is : x ≡ row_by r row

pub six_words : (row : List ℕ) → IsRow row → length row ≡ 6
six_words row p =
    let u = at_most_five p.kind in let c = p.count in
    ap length p.is ∙ ap (λ n. suc n) (length-append p.ws (zeros p.kind) ∙ rw (length-replicate {A = ℕ} (5 - used_words p.kind) 0) (omega arith))

-- a row's lines are those of its six words, whatever stands behind them
row_lines : (r : ℕ) (row rest : List ℕ) (p : IsRow row)
    → row_by r (row ++ rest) ≡ line_of row_key (decimal r) ++ (line_of kind_key (name_of p.kind) ++ lines_of 1 p.ws)
row_lines r row rest p =
    rw (p.is, append_assoc p.ws (zeros p.kind) rest, take_at p.ws (zeros p.kind ++ rest) (used_words p.kind) p.count)

pub row_front : (r : ℕ) (row rest : List ℕ) → IsRow row → row_by r (row ++ rest) ≡ row_by r row
row_front r row rest p = row_lines r row rest p ∙ sym (ap (λ (l : List ℕ). row_by r l) (sym (append-nil row)) ∙ row_lines r row [] p)

abbrev row_head : ℕ → List ℕ
row_head r = line_of row_key (decimal r) ++ kind_key

abbrev row_of : ℕ → List ℕ → List ℕ
row_of kind ws = kind ∷ (ws ++ zeros kind)

abbrev RowWords : ℕ → List ℕ → List ℕ → Type 0
RowWords kind = Both (WordLines 1 (used_words kind)) (λ ws. Nothing (row_of kind ws))

abbrev RowNamed : List ℕ → List ℕ → Type 0
RowNamed = Both KindLine RowWords

abbrev RowParts : ℕ → List ℕ → List ℕ → Type 0
RowParts r = Both (Fixed (row_head r) r) (λ _. RowNamed)

-- the key of the kind's line, with what stands before it or with the name
kind_key_lem : (a n l : List ℕ) → (a ++ kind_key) ++ ((n ++ feed) ++ l) ≡ a ++ (line_of kind_key n ++ l)
unfolding line_of
kind_key_lem a n l = append_assoc a kind_key ((n ++ feed) ++ l)

to_row : (r : ℕ) (row x : List ℕ) → RowParts r row x → RowLines r row x
to_row r row x p =
    let q = p.two in let s = q.two in
    let i : IsRow row = record { kind = q.first; ws = s.first; known = q.one.kind; count = s.one.count; small = s.one.small; is = s.two.value } in
    record {
      right = i;
      is =
          rw (p.is, p.one.is, q.is, q.one.is, s.is, s.one.is, s.two.is, append-nil (lines_of 1 s.first))
          (kind_key_lem (line_of row_key (decimal r)) (name_of q.first) (lines_of 1 s.first))
          ∙ sym (row_lines r row [] i) ∙ ap (λ (l : List ℕ). row_by r l) (append-nil row);
    }

from_row_lem : (r : ℕ) (row x : List ℕ) → RowLines r row x → RowParts r row x
from_row_lem r row x p =
    let i = p.right in
    record {
      first = r;
      text = row_head r;
      rest = (name_of i.kind ++ feed) ++ lines_of 1 i.ws;
      one = record { value = refl; is = refl };
      two =
          record {
            first = i.kind;
            text = name_of i.kind ++ feed;
            rest = lines_of 1 i.ws;
            one = record { kind = i.known; is = refl };
            two =
                record {
                  first = i.ws;
                  text = lines_of 1 i.ws;
                  rest = [];
                  one = record { count = i.count; small = i.small; is = refl };
                  two = record { value = i.is; is = refl };
                  is = sym (append-nil (lines_of 1 i.ws));
                };
            is = refl;
          };
      is = p.is ∙ sym (row_front r row [] i) ∙ row_lines r row [] i ∙ sym (kind_key_lem (line_of row_key (decimal r)) (name_of i.kind) (lines_of 1 i.ws));
    }

row_words_some : (kind : ℕ) → Goes (RowWords kind) []
row_words_some kind = both_some (WordLines 1 (used_words kind)) (λ ws. Nothing (row_of kind ws)) (words_some 1 (used_words kind)) (λ ws. nothing_some (row_of kind ws))

row_kind_some : Goes RowNamed []
row_kind_some = both_some KindLine RowWords kind_some row_words_some

pub row : (r : ℕ) → Exact (RowLines r) (row_from r)
unfolding row_from
row r =
    in_other_words (RowParts r) (RowLines r) (row_from r)
    (both (Fixed (row_head r) r) (λ _. RowNamed) (fixed_from (row_head r) r) _ (fixed r (row_head r))
    (λ _. both KindLine RowWords kind_from _ kind_line
    (λ kind. both (WordLines 1 (used_words kind)) (λ ws. Nothing (row_of kind ws)) (words_from 1 (used_words kind)) (λ ws text. got (row_of kind ws) text)
    (words (used_words kind) 1) (λ ws. nothing_more (row_of kind ws)) (λ ws. nothing_some (row_of kind ws)))
    row_words_some)
    (λ _. row_kind_some))
    (to_row r) (from_row_lem r)

pub row_some : (r : ℕ) → Goes (RowLines r) []
row_some r =
    let g = both_some (Fixed (row_head r) r) (λ _. RowNamed) (fixed_some r (row_head r)) (λ _. row_kind_some) in
    record { value = g.value; more = g.more; is = to_row r g.value g.more g.is }
