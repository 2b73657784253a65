-- The refusals of a graph, 11 to 15: docs/RULES.md, section 'Refusal numbers'. 'Each test is made over the whole graph before the next'.
--
--   has_shape       11 SHAPE       the counts are in their limits and the length is theirs
--   rows_right      12 NODE        starts and rows are right, and W is S plus all outputs
--   wires_below     13 WIRE        every input and result is below W
--   read_once       14 READERS     every wire is read once
--   sorts_agree     15 SORT        every input and result has the sort of its wire
--   graph_refusal                  the first of them that fails, else 0
--
-- Assumes nothing.
use Rattle.std.specs.Prelude.{ℕ, ◌+◌, ◌*◌, ◌≤◌, ◌<◌, ◌≡◌, Bool, true, false, ◌&&◌, List, eqb, ltb, leb, get_or, length}
use Rattle.std.proofs.Math.Option.{Option, none, some}
use Rattle.std.proofs.Common.{ltb-true, leb-true, eqb-true}
use Rattle.word.specs.Words.{pick}
use Rattle.step.specs.Kinds.{Kind, outputs, codes, own_sorts, input_sort, Input, in0, in1, in2}
use Rattle.graph.specs.Below.{every, times, every_each}
use Rattle.step.specs.Kept.{and_true}
use Rattle.graph.specs.Graph.{absent, node_count, wire_count, start_count, result_count, start_kind_at, start_word_at, inputs_before, result_at, Node, node_at, has_input, wire_on, first_at, reads, wire_sorts, sort_at}

-- 11 SHAPE: 'there are at least 4 words; n, W, S, R are at most 4,096, 8,192, 512, 512; the length is 4 + 2S + R + 7n'
unfoldable pub has_shape : List ℕ → Bool
has_shape g =
    leb 4 (length g)
    && (leb (node_count g) 4096
    && (leb (wire_count g) 8192
    && (leb (start_count g) 512
    && (leb (result_count g) 512
    && eqb (length g) (4 + 2 * start_count g + result_count g + 7 * node_count g)))))

-- The same as facts, which the readers of the rows rely on.
pub record Shaped (g : List ℕ) : Type 0 where
  pub long : 4 ≤ length g
  pub nodes : node_count g ≤ 4096
  pub wires : wire_count g ≤ 8192
  pub starts : start_count g ≤ 512
  pub results : result_count g ≤ 512
  pub whole : length g ≡ 4 + 2 * start_count g + result_count g + 7 * node_count g

-- 12 NODE: 'every start is 0 and its input number, or 1 and any word; every row has a kind from 0 to 8, a code and a sort that the kind may
-- name, X in each absent input, and as first output the next number, or X for a DRAIN; and W is S plus all outputs'
unfoldable pub start_right : List ℕ → ℕ → Bool
start_right g k = pick (eqb (start_kind_at g k) 0) (eqb (start_word_at g k) (inputs_before g k)) (eqb (start_kind_at g k) 1)

abbrev pub every_input : (Input → Bool) → Bool
every_input test = test in0 && (test in1 && test in2)

-- An absent input is X. A present one may be any number here: X there is 13.
abbrev pub spare_input : Kind → Input → ℕ → Bool
spare_input κ k w = pick (has_input κ k) true (eqb w absent)

-- The first output is the next number; X where the kind has none.
abbrev pub first_output : Kind → ℕ → ℕ
first_output κ next = pick (eqb (outputs κ) 0) absent next

unfoldable pub row_right : Option Node → ℕ → Bool
row_right none next = false
row_right (some nd) next =
    ltb nd.code (codes nd.kind)
    && (ltb nd.sort (own_sorts nd.kind)
    && (every_input (λ k. spare_input nd.kind k (wire_on nd k))
    && eqb nd.first (first_output nd.kind next)))

abbrev pub node_right : List ℕ → ℕ → Bool
node_right g i = row_right (node_at g i) (first_at g i)

unfoldable pub rows_right : List ℕ → Bool
rows_right g =
    every (start_count g) (start_right g)
    && (every (node_count g) (node_right g)
    && eqb (wire_count g) (first_at g (node_count g)))

-- 13 WIRE: 'every present input and every result is below W'
abbrev pub input_below : Kind → Input → ℕ → ℕ → Bool
input_below κ k w wires = pick (has_input κ k) (ltb w wires) true

unfoldable pub row_below : Option Node → ℕ → Bool
row_below none wires = true
row_below (some nd) wires = every_input (λ k. input_below nd.kind k (wire_on nd k) wires)

abbrev pub node_below : List ℕ → ℕ → Bool
node_below g i = row_below (node_at g i) (wire_count g)

abbrev pub result_below : List ℕ → ℕ → Bool
result_below g k = ltb (result_at g k) (wire_count g)

unfoldable pub wires_below : List ℕ → Bool
wires_below g = every (node_count g) (node_below g) && every (result_count g) (result_below g)

-- 14 READERS: 'every wire below W stands exactly once among the reads'
abbrev pub once_read : List ℕ → ℕ → Bool
once_read g w = eqb (times w (reads g)) 1

unfoldable pub read_once : List ℕ → Bool
read_once g = every (wire_count g) (once_read g)

-- 15 SORT: 'every present input has the sort of its wire, and every result's wire is a word'
abbrev pub input_sorted : List ℕ → Kind → ℕ → Input → ℕ → Bool
input_sorted sorts κ s k w = pick (has_input κ k) (eqb (get_or sorts w 0) (input_sort κ s k)) true

unfoldable pub row_sorted : List ℕ → Option Node → Bool
row_sorted sorts none = true
row_sorted sorts (some nd) = every_input (λ k. input_sorted sorts nd.kind nd.sort k (wire_on nd k))

abbrev pub node_sorted : List ℕ → ℕ → Bool
node_sorted g i = row_sorted (wire_sorts g) (node_at g i)

abbrev pub result_sorted : List ℕ → ℕ → Bool
result_sorted g k = eqb (sort_at g (result_at g k)) 0

unfoldable pub sorts_agree : List ℕ → Bool
sorts_agree g = every (node_count g) (node_sorted g) && every (result_count g) (result_sorted g)

-- 'the first that fails gives the number'; 'The counts are looked at before any row', since a `let` waits.
unfoldable pub graph_refusal : List ℕ → ℕ
graph_refusal g =
    let sort : ℕ = pick (sorts_agree g) 0 15 in
    let readers : ℕ = pick (read_once g) sort 14 in
    let wire : ℕ = pick (wires_below g) readers 13 in
    let node : ℕ = pick (rows_right g) wire 12 in
    pick (has_shape g) node 11

-- ---- what each test says

pub shaped : (g : List ℕ) → has_shape g ≡ true → Shaped g
unfolding has_shape
shaped g e =
    let p0 = and_true (leb 4 (length g)) _ e in
    let p1 = and_true (leb (node_count g) 4096) _ p0.1 in
    let p2 = and_true (leb (wire_count g) 8192) _ p1.1 in
    let p3 = and_true (leb (start_count g) 512) _ p2.1 in
    let p4 = and_true (leb (result_count g) 512) _ p3.1 in
    record {
      long = leb-true 4 (length g) p0.0;
      nodes = leb-true (node_count g) 4096 p1.0;
      wires = leb-true (wire_count g) 8192 p2.0;
      starts = leb-true (start_count g) 512 p3.0;
      results = leb-true (result_count g) 512 p4.0;
      whole = eqb-true (length g) _ p4.1;
    }

pub start_is_right : (g : List ℕ) → rows_right g ≡ true → (k : ℕ) → k < start_count g → start_right g k ≡ true
unfolding rows_right
start_is_right g e k h = every_each (start_right g) (start_count g) (and_true (every (start_count g) (start_right g)) _ e).0 k h

pub node_is_right : (g : List ℕ) → rows_right g ≡ true → (i : ℕ) → i < node_count g → node_right g i ≡ true
unfolding rows_right
node_is_right g e i h =
    let p = (and_true (every (start_count g) (start_right g)) _ e).1 in
    every_each (node_right g) (node_count g) (and_true (every (node_count g) (node_right g)) _ p).0 i h

pub wires_are_all_outputs : (g : List ℕ) → rows_right g ≡ true → wire_count g ≡ first_at g (node_count g)
unfolding rows_right
wires_are_all_outputs g e =
    let p = (and_true (every (start_count g) (start_right g)) _ e).1 in
    eqb-true (wire_count g) (first_at g (node_count g)) (and_true (every (node_count g) (node_right g)) _ p).1

pub node_is_below : (g : List ℕ) → wires_below g ≡ true → (i : ℕ) → i < node_count g → node_below g i ≡ true
unfolding wires_below
node_is_below g e i h =
    every_each (node_below g) (node_count g) (and_true (every (node_count g) (node_below g)) (every (result_count g) (result_below g)) e).0 i h

pub result_is_below : (g : List ℕ) → wires_below g ≡ true → (k : ℕ) → k < result_count g → result_at g k < wire_count g
unfolding wires_below
result_is_below g e k h =
    let all = (and_true (every (node_count g) (node_below g)) (every (result_count g) (result_below g)) e).1 in
    ltb-true (result_at g k) (wire_count g) (every_each (result_below g) (result_count g) all k h)
