-- A token graph as words: docs/RULES.md, section 'The graph'. `g` is the whole list of words.
--
--   node_count, wire_count, start_count, result_count    the header
--   start_kind_at, start_word_at, result_at, row_place     where starts, results and rows stand
--   Node, node_at                                     a node, read from its seven words
--   input_at, output_at                                the wire on each place of a node
--   first_at                                          the number that the first output of a node must have
--   reads                                            every wire read, by node and input position, then the results
--   wire_sorts, sort_at                                the sort of every wire, by wire number
--
-- Assumes nothing.
use Rattle.std.specs.Prelude.{ℕ, ◌+◌, ◌*◌, ◌≡◌, refl, Bool, List, [], ◌∷◌, ◌++◌, eqb, ltb, length, get_or, take, replicate}
use Rattle.std.proofs.Math.Option.{Option, none, some}
use Rattle.word.specs.Words.{pick, flag}
use Rattle.step.specs.Kinds.{Kind, kind_of, inputs, outputs, input_sort, output_sort, Input, in0, in1, in2, Output, out0, out1, STREAM, GATE, CARRY, INVARIANT, SPLIT, FORK, DRAIN, OP, PICK}
use Rattle.graph.specs.Below.{total, joined, length_joined}

-- 'X, which is 4,294,967,295, stands where the kind has no such place.'
abbrev pub absent : ℕ
absent = 4294967295

-- 'Header: four counts, of nodes n, of wires W, of starts S and of results R.'
abbrev pub node_count : List ℕ → ℕ
node_count g = get_or g 0 0

abbrev pub wire_count : List ℕ → ℕ
wire_count g = get_or g 1 0

abbrev pub start_count : List ℕ → ℕ
start_count g = get_or g 2 0

abbrev pub result_count : List ℕ → ℕ
result_count g = get_or g 3 0

-- 'Starts, two words each: 0 and an input number, or 1 and a constant.'
abbrev pub start_kind_at : List ℕ → ℕ → ℕ
start_kind_at g k = get_or g (4 + 2 * k) 0

abbrev pub start_word_at : List ℕ → ℕ → ℕ
start_word_at g k = get_or g (5 + 2 * k) 0

-- 'Inputs are numbered 0, 1, .. as they come; constants do not count': the next number before start k.
abbrev pub inputs_before : List ℕ → ℕ → ℕ
inputs_before g k = total (λ j. flag (eqb (start_kind_at g j) 0)) k

-- 'Results, one word each: a wire.'
abbrev pub result_at : List ℕ → ℕ → ℕ
result_at g k = get_or g (4 + 2 * start_count g + k) 0

-- 'Nodes, seven words each: kind, code, sort, three input wires, first output wire.'
abbrev pub row_place : List ℕ → ℕ → ℕ
row_place g i = 4 + 2 * start_count g + result_count g + 7 * i

pub record Node : Type 0 where
  pub kind : Kind
  pub code : ℕ
  pub sort : ℕ
  pub wire0 : ℕ
  pub wire1 : ℕ
  pub wire2 : ℕ
  pub first : ℕ

abbrev pub node_of : Option Kind → ℕ → ℕ → ℕ → ℕ → ℕ → ℕ → Option Node
node_of none c s w0 w1 w2 f = none
node_of (some κ) c s w0 w1 w2 f =
    some (record { kind = κ; code = c; sort = s; wire0 = w0; wire1 = w1; wire2 = w2; first = f })

-- The row that stands at a place of the list; none where its first word is no kind.
unfoldable pub row_at : List ℕ → ℕ → Option Node
row_at g p =
    node_of (kind_of (get_or g p 0)) (get_or g (p + 1) 0) (get_or g (p + 2) 0)
    (get_or g (p + 3) 0) (get_or g (p + 4) 0) (get_or g (p + 5) 0) (get_or g (p + 6) 0)

-- Node i; none where i is not below n, or the row is of no kind.
unfoldable pub node_at : List ℕ → ℕ → Option Node
node_at g i = pick (ltb i (node_count g)) (row_at g (row_place g i)) none

-- The table's columns 'inputs' and 'outputs': a kind has its first so many places.
abbrev pub input_place : Input → ℕ
input_place in0 = 0
input_place in1 = 1
input_place in2 = 2

abbrev pub output_place : Output → ℕ
output_place out0 = 0
output_place out1 = 1

abbrev pub has_input : Kind → Input → Bool
has_input κ k = ltb (input_place k) (inputs κ)

abbrev pub has_output : Kind → Output → Bool
has_output κ k = ltb (output_place k) (outputs κ)

abbrev pub wire_on : Node → Input → ℕ
wire_on nd in0 = nd.wire0
wire_on nd in1 = nd.wire1
wire_on nd in2 = nd.wire2

abbrev pub input_of : Option Node → Input → Option ℕ
input_of none k = none
input_of (some nd) k = pick (has_input nd.kind k) (some (wire_on nd k)) none

abbrev pub output_of : Option Node → Output → Option ℕ
output_of none k = none
output_of (some nd) k = pick (has_output nd.kind k) (some (nd.first + output_place k)) none

-- The wire on a place of node i; none where the kind has no such place.
abbrev pub input_at : List ℕ → ℕ → Input → Option ℕ
input_at g i k = input_of (node_at g i) k

abbrev pub output_at : List ℕ → ℕ → Output → Option ℕ
output_at g i k = output_of (node_at g i) k

-- A column of the table of kinds, for a number that may be no kind: 0 there.
abbrev pub column : (Kind → ℕ) → Option Kind → ℕ
column f none = 0
column f (some κ) = f κ

-- The sort of a place, likewise: the row's own sort where there is no kind.
abbrev pub input_sort_of : Option Kind → ℕ → Input → ℕ
input_sort_of none s k = s
input_sort_of (some κ) s k = input_sort κ s k

abbrev pub output_sort_of : Option Kind → ℕ → ℕ → Output → ℕ
output_sort_of none c s k = s
output_sort_of (some κ) c s k = output_sort κ c s k

-- 'So node i's first output is S plus the outputs of all nodes before it'.
abbrev pub output_count : Option Node → ℕ
output_count none = 0
output_count (some nd) = outputs nd.kind

abbrev pub outputs_before : List ℕ → ℕ → ℕ
outputs_before g i = total (λ j. output_count (node_at g j)) i

abbrev pub first_at : List ℕ → ℕ → ℕ
first_at g i = start_count g + outputs_before g i

-- 'Reads are the inputs by node and position, then the results.'
abbrev pub listed : Option ℕ → List ℕ
listed none = []
listed (some w) = w ∷ []

abbrev pub node_reads : Option Node → List ℕ
node_reads o = listed (input_of o in0) ++ (listed (input_of o in1) ++ listed (input_of o in2))

abbrev pub results : List ℕ → ℕ → List ℕ
results g r = joined (λ k. result_at g k ∷ []) r

unfoldable pub reads : List ℕ → List ℕ
reads g = joined (λ i. node_reads (node_at g i)) (node_count g) ++ results g (result_count g)

-- The sort of each wire, at its number: 'Starts are words'; then the outputs by node and position.
abbrev pub output_sorts : Option Node → List ℕ
output_sorts none = []
output_sorts (some nd) =
    take (outputs nd.kind)
    (output_sort nd.kind nd.code nd.sort out0 ∷ output_sort nd.kind nd.code nd.sort out1 ∷ [])

unfoldable pub wire_sorts : List ℕ → List ℕ
wire_sorts g = replicate (start_count g) 0 ++ joined (λ i. output_sorts (node_at g i)) (node_count g)

abbrev pub sort_at : List ℕ → ℕ → ℕ
sort_at g w = get_or (wire_sorts g) w 0

-- ---- laws

-- A node has a sort for each of its outputs.
kind_sorts : (κ : Kind) (a b : ℕ) → length (take (outputs κ) (a ∷ b ∷ [])) ≡ outputs κ
kind_sorts STREAM a b = refl
kind_sorts GATE a b = refl
kind_sorts CARRY a b = refl
kind_sorts INVARIANT a b = refl
kind_sorts SPLIT a b = refl
kind_sorts FORK a b = refl
kind_sorts DRAIN a b = refl
kind_sorts OP a b = refl
kind_sorts PICK a b = refl

pub node_sorts : (o : Option Node) → length (output_sorts o) ≡ output_count o
node_sorts none = refl
node_sorts (some nd) = kind_sorts nd.kind _ _

pub as_many_sorts_as_outputs : (g : List ℕ) (i : ℕ) → length (joined (λ j. output_sorts (node_at g j)) i) ≡ outputs_before g i
as_many_sorts_as_outputs g i =
    length_joined (λ j. output_sorts (node_at g j)) (λ j. output_count (node_at g j)) (λ j. node_sorts (node_at g j)) i
