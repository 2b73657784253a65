-- A state as words: docs/RULES.md, section 'Firing'. `s` is the whole list of words, `W` the number of wires.
--
--   token_at, has_room          what stands on a wire, and whether it may be filled
--   record_at                  a node's phase and three registers
--   Stores, stored            words stored at places, one after the other
--   emptied, filled, kept     the stores that take a token, give one, and leave a record
--   stored_append, length_stored
--
-- Assumes nothing.
use Rattle.std.specs.Prelude.{ℕ, zero, suc, ◌+◌, ◌*◌, Bool, true, false, ◌≡◌, refl, List, [], ◌∷◌, ◌++◌, get_or, set, length}
use Rattle.std.proofs.Common.{◌∙◌, length-set}
use Rattle.std.proofs.Math.Option.{Option, none, some}
use Rattle.step.specs.declared.Record.{Record}

-- 'first, for each wire, whether it is full and its word'
abbrev pub full_place : ℕ → ℕ
full_place w = 2 * w

abbrev pub word_place : ℕ → ℕ
word_place w = 2 * w + 1

-- 'then, for each node, its phase and its registers r0, r1, r2'
abbrev pub record_place : ℕ → ℕ → ℕ
record_place W i = 2 * W + 4 * i

abbrev pub token : ℕ → ℕ → Option ℕ
token zero x = none
token (suc f) x = some x

abbrev pub is_empty : ℕ → Bool
is_empty zero = true
is_empty (suc f) = false

abbrev pub token_at : List ℕ → ℕ → Option ℕ
token_at s w = token (get_or s (full_place w) 0) (get_or s (word_place w) 0)

-- 'A place that its kind does not have holds no word and has no room.'
abbrev pub token_on : List ℕ → Option ℕ → Option ℕ
token_on s none = none
token_on s (some w) = token_at s w

abbrev pub has_room : List ℕ → Option ℕ → Bool
has_room s none = false
has_room s (some w) = is_empty (get_or s (full_place w) 0)

abbrev pub record_at : ℕ → List ℕ → ℕ → Record
record_at W s i =
    record {
      phase = get_or s (record_place W i) 0;
      r0 = get_or s (record_place W i + 1) 0;
      r1 = get_or s (record_place W i + 2) 0;
      r2 = get_or s (record_place W i + 3) 0;
    }

-- Stores are made in order, each a place and a word.
abbrev pub Stores : Type 0
Stores = List (ℕ × ℕ)

abbrev pub stored : Stores → List ℕ → List ℕ
stored [] s = s
stored (x ∷ xs) s = stored xs (set s x.0 x.1)

-- a wire whose token is taken holds 0 0
abbrev pub emptied : Option ℕ → Bool → Stores
emptied none b = []
emptied (some w) false = []
emptied (some w) true = (full_place w, 0) ∷ (word_place w, 0) ∷ []

-- a wire that is given a word holds 1 and the word
abbrev pub filled : Option ℕ → Option ℕ → Stores
filled none g = []
filled (some w) none = []
filled (some w) (some x) = (full_place w, 1) ∷ (word_place w, x) ∷ []

abbrev pub kept : ℕ → ℕ → Record → Stores
kept W i r =
    (record_place W i, r.phase) ∷ (record_place W i + 1, r.r0) ∷ (record_place W i + 2, r.r1) ∷ (record_place W i + 3, r.r2) ∷ []

-- ---- laws of stores

pub stored_append : (xs ys : Stores) (s : List ℕ) → stored (xs ++ ys) s ≡ stored ys (stored xs s)
stored_append [] ys s = refl
stored_append (x ∷ xs) ys s = stored_append xs ys (set s x.0 x.1)

pub length_stored : (xs : Stores) (s : List ℕ) → length (stored xs s) ≡ length s
length_stored [] s = refl
length_stored (x ∷ xs) s = length_stored xs (set s x.0 x.1) ∙ length-set s x.0 x.1
