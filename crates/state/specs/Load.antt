-- Loading: 'Loading fills the wires of the starts: with the input of that number, or with the constant. Everything else becomes 0.'
--
--   input_count                how many inputs a graph has
--   start_word                 the word of a start: an input's, or the constant
--   loaded                    the loaded state
--
-- Assumes nothing.
use Rattle.std.specs.Prelude.{ℕ, ◌+◌, ◌*◌, ◌-◌, List, [], ◌∷◌, ◌++◌, eqb, get_or, replicate}
use Rattle.word.specs.Words.{pick}
use Rattle.graph.specs.Below.{joined}
use Rattle.graph.specs.Graph.{node_count, wire_count, start_count, start_kind_at, start_word_at, inputs_before}

abbrev pub input_count : List ℕ → ℕ
input_count g = inputs_before g (start_count g)

unfoldable pub start_word : List ℕ → List ℕ → ℕ → ℕ
start_word g inputs k = pick (eqb (start_kind_at g k) 0) (get_or inputs (start_word_at g k) 0) (start_word_at g k)

unfoldable pub loaded : List ℕ → List ℕ → List ℕ
loaded g inputs =
    joined (λ k. 1 ∷ start_word g inputs k ∷ []) (start_count g) ++ replicate (2 * (wire_count g - start_count g) + 4 * node_count g) 0
