-- The nine kinds of node: docs/RULES.md, section 'The graph', its table of kinds, with the sorts of what stands on each place.
--
--   Kind, kind_of                  a kind and its number
--   columns                       the table of kinds
--   inputs, outputs               how many places of each a kind has
--   input_sort, output_sort         the sort of each place
--   codes, own_sorts               which codes and sorts a row of this kind may have
--   limit                         a word of a sort is below its limit
--
-- Assumes nothing.
use Rattle.std.specs.Prelude.{Bool, true, false, List, [], ◌∷◌, ◌≡◌, refl, ℕ, zero, suc, ◌≤◌, ◌<◌, ltb, length}
use Rattle.std.proofs.Math.Option.{Option, none, some}
use Rattle.std.proofs.Common.{arith}
use Rattle.std.proofs.Math.ListN.{get_elem?}
use Rattle.word.specs.Words.{pick, word_limit}

pub data Kind : Type 0 where
  STREAM GATE CARRY INVARIANT SPLIT FORK DRAIN OP PICK : Kind

-- The kinds stand in the order of their numbers, 0 to 8. A number over 8 is no kind.
abbrev pub kinds : List Kind
kinds = STREAM ∷ GATE ∷ CARRY ∷ INVARIANT ∷ SPLIT ∷ FORK ∷ DRAIN ∷ OP ∷ PICK ∷ []

unfoldable pub kind_of : ℕ → Option Kind
kind_of k = get_elem? kinds k

-- A node has up to three input places and up to two output places.
pub data Input : Type 0 where
  in0 in1 in2 : Input

pub data Output : Type 0 where
  out0 out1 : Output

-- What stands on a place: a word of the row's own sort, a flag, or what the row's operator gives.
pub data Place : Type 0 where
  own flag given : Place

-- A row of the table of kinds: how many inputs and outputs a kind has, how many codes and sorts a row of it may name, and what stands on its
-- first two inputs and its outputs. A third input has the row's sort. What is said of a place that the kind does not have, nothing reads.
pub record Columns : Type 0 where
  pub inputs : ℕ
  pub outputs : ℕ
  pub codes : ℕ
  pub own_sorts : ℕ
  pub in0 : Place
  pub in1 : Place
  pub out0 : Place
  pub out1 : Place

abbrev pub row : ℕ → ℕ → ℕ → ℕ → Place → Place → Place → Place → Columns
row i o c s p q r t = record { inputs = i; outputs = o; codes = c; own_sorts = s; in0 = p; in1 = q; out0 = r; out1 = t }

-- THE TABLE OF NODE KINDS. Inputs and outputs: STREAM start, step, bound, and index, condition. GATE value, condition, and the same. CARRY d, a, b,
-- and o. INVARIANT d, a, and o. SPLIT flag, value, and true leg, false leg. FORK value, and two copies. DRAIN value, and none. OP x, y, and value.
-- PICK flag, x, y, and value. A STREAM's codes are six updates by five conditions, an OP's eight operators. Conditions, `d` and the flags of SPLIT
-- and PICK are flags.
abbrev pub columns : Kind → Columns
columns STREAM = row 3 2 30 1 own own own flag
columns GATE = row 2 2 1 2 own flag own flag
columns CARRY = row 3 1 1 2 flag own own own
columns INVARIANT = row 2 1 1 2 flag own own own
columns SPLIT = row 2 2 1 2 flag own own own
columns FORK = row 1 2 1 2 own own own own
columns DRAIN = row 1 0 1 2 own own own own
columns OP = row 2 1 8 1 own own given given
columns PICK = row 3 1 1 1 flag own own own

-- A number that is no kind has none of each.
abbrev pub columns_of : Option Kind → Columns
columns_of none = row 0 0 0 0 own own own own
columns_of (some κ) = columns κ

-- ---- what is read from it

abbrev pub inputs : Kind → ℕ
inputs κ = (columns κ).inputs

abbrev pub outputs : Kind → ℕ
outputs κ = (columns κ).outputs

abbrev pub codes : Kind → ℕ
codes κ = (columns κ).codes

-- how many sorts a row of this kind may name
abbrev pub own_sorts : Kind → ℕ
own_sorts κ = (columns κ).own_sorts

-- '0 for words, 1 for flags': a word is below 2^32, a flag below 2.
abbrev pub limit : ℕ → ℕ
limit zero = word_limit
limit (suc s) = 2

-- Operators 3 to 7 give a flag.
abbrev pub operator_sort : ℕ → ℕ
operator_sort c = pick (ltb c 3) 0 1

-- the sort of what stands on a place of a row with this code and sort
abbrev pub place_sort : Place → ℕ → ℕ → ℕ
place_sort own c s = s
place_sort flag c s = 1
place_sort given c s = operator_sort c

-- No input has its operator's sort, so the code is left out.
abbrev pub input_sort : Kind → ℕ → Input → ℕ
input_sort κ s in0 = place_sort (columns κ).in0 0 s
input_sort κ s in1 = place_sort (columns κ).in1 0 s
input_sort κ s in2 = s

abbrev pub output_sort : Kind → ℕ → ℕ → Output → ℕ
output_sort κ c s out0 = place_sort (columns κ).out0 c s
output_sort κ c s out1 = place_sort (columns κ).out1 c s

-- ---- laws

past_end {ℓ} : {A : Type ℓ} (xs : List A) (i : ℕ) → length xs ≤ i → get_elem? xs i ≡ none
past_end [] i h = refl
past_end (x ∷ xs) zero h = absurd (omega arith)
past_end (x ∷ xs) (suc i) h = past_end xs i (omega arith)

pub no_kind_past_8 : (k : ℕ) → 8 < k → kind_of k ≡ none
unfolding kind_of
no_kind_past_8 k h = past_end kinds k h

-- The sort of an output is word or flag where the row's is.
operator_small : (b : Bool) → pick b 0 1 < 2
operator_small true = omega arith
operator_small false = omega arith

place_sort_small : (p : Place) (c s : ℕ) → s < 2 → place_sort p c s < 2
place_sort_small own c s h = h
place_sort_small flag c s h = omega arith
place_sort_small given c s h = operator_small (ltb c 3)

pub output_sort_small : (κ : Kind) (c s : ℕ) (o : Output) → s < 2 → output_sort κ c s o < 2
output_sort_small κ c s out0 h = place_sort_small (columns κ).out0 c s h
output_sort_small κ c s out1 h = place_sort_small (columns κ).out1 c s h
