-- A TABLE OF WORDS LOWERS TO WORDS. A list of words has all its numbers below 2^32, as a lent slice has.
--
--   lowered_words_lem     where the numbers of a checked table are below 2^32, so are those of its graph
--
-- The idea. The graph is accepted, so its counts, wires and first outputs are small or X, which is the largest word; codes, sorts and kinds are
-- small by their columns; an input's number is at most the rows; a CONST's word is the table's.
-- Assumes nothing.
use Rattle.std.specs.Prelude.{ℕ, zero, suc, ◌+◌, ◌*◌, ◌≤◌, ◌<◌, ◌≡◌, refl, Bool, cond, List, [], ◌∷◌, ◌++◌, length, get_or}
use Rattle.std.proofs.Common.{sym, ap, ◌∙◌, subst}
use Rattle.std.proofs.Math.Bool.{true, false}
use Rattle.std.proofs.Math.Option.{Option, some}
use native.Mathlib.Omega.{arith}
use Rattle.std.proofs.Math.Decide.{ℕ_discrete}
use Rattle.std.proofs.Math.Dec.{eqb}
use Rattle.std.proofs.Math.ListN.{get_elem?}
use Rattle.word.specs.Words.{word_limit}
use Rattle.step.specs.Kinds.{Kind, STREAM, GATE, CARRY, INVARIANT, SPLIT, FORK, DRAIN, OP, PICK, outputs, codes, own_sorts, Input, in0, in1, in2}
use Rattle.graph.specs.Below.{total_within}
use Rattle.graph.specs.Graph.{node_count, Node, node_at, has_input, wire_on, input_of, output_count}
use Rattle.graph.specs.Accepted.{Row, Accepted, accepted, node_in_range}
use Rattle.table.specs.Rows.{kind_at, word, size, INPUT}
use Rattle.structure.specs.Structure.{passing_table_has_structure}
use Rattle.lowered.specs.Gathered.{those, each}
use Rattle.lowered.specs.Roles.{result}
use Rattle.lowered.specs.Lower.{is_start, start_rows, out_rows, stands_on, lowered_nodes, start_words, kind_number, node_words, result_total, lowered_words}
use Rattle.lowered.specs.Room.{check_answer}
use Rattle.laid.specs.Lists.{there, in_range, those_from}
use Rattle.laid.specs.Those.{those_few}
use Rattle.laid.specs.Words.{node_count_lem, wire_count_lem, start_count_lem, result_count_lem, result_at_lem, node_at_lem}
use Rattle.laid.specs.Answers.{passed_check, number_0_is_no_refusal, checked_table_lowers}

-- ---- lists of words

abbrev Limited : List ℕ → Type 0
Limited [] = Unit {0}
Limited (x ∷ xs) = (x < word_limit) × Limited xs

limited_at : (xs : List ℕ) → Limited xs → (k : ℕ) → get_or xs k 0 < word_limit
limited_at [] h k = omega arith
limited_at (x ∷ xs) h zero = h.0
limited_at (x ∷ xs) h (suc k) = limited_at xs h.1 k

both_limited : (xs ys : List ℕ) → Limited xs → Limited ys → Limited (xs ++ ys)
both_limited [] ys h m = m
both_limited (x ∷ xs) ys h m = (h.0, both_limited xs ys h.1 m)

each_limited : {A : Type 0} (f : A → List ℕ) (xs : List A) → ((i : ℕ) (x : A) → get_elem? xs i ≡ some x → Limited (f x)) → Limited (each f xs)
unfolding each
each_limited f [] h = tt
each_limited f (x ∷ xs) h = both_limited (f x) (each f xs) (h 0 x refl) (each_limited f xs (λ i y e. h (suc i) y e))

-- ---- the columns of a kind

columns_small : (κ : Kind) → (kind_number κ < 64) × (codes κ ≤ 64) × (own_sorts κ ≤ 64)
columns_small STREAM = (omega arith, omega arith, omega arith)
columns_small GATE = (omega arith, omega arith, omega arith)
columns_small CARRY = (omega arith, omega arith, omega arith)
columns_small INVARIANT = (omega arith, omega arith, omega arith)
columns_small SPLIT = (omega arith, omega arith, omega arith)
columns_small FORK = (omega arith, omega arith, omega arith)
columns_small DRAIN = (omega arith, omega arith, omega arith)
columns_small OP = (omega arith, omega arith, omega arith)
columns_small PICK = (omega arith, omega arith, omega arith)

-- ---- a row of an accepted graph

module _ (g : List ℕ) (A : Accepted g) (i : ℕ) (nd : Node) (here : node_at g i ≡ some nd) where
  row_here : (R : Row g i) × (R.node ≡ nd)
  row_here = let R = A.rows i (node_in_range g i nd here) in let a = R.here in let b = here in (R, cc)

  node_wire : (k : Input) → wire_on nd k < word_limit
  node_wire k = go (has_input nd.kind k) refl
    where
      go : (b : Bool) → has_input nd.kind k ≡ b → wire_on nd k < word_limit
      go true e =
          let w = A.inputs_below i k (wire_on nd k) (ap (λ (o : Option Node). input_of o k) here ∙ rw e) in
          let c = A.shape.wires in
          omega arith
      go false e =
          let R = row_here in
          let s = sym (ap (λ (n : Node). wire_on n k) R.1) ∙ R.0.spare k (ap (λ (n : Node). has_input n.kind k) R.1 ∙ e) in
          omega arith

  node_first : nd.first < word_limit
  node_first =
      let R = row_here in
      let m : outputs R.0.node.kind ≡ outputs nd.kind = ap (λ (n : Node). outputs n.kind) R.1 in
      let f : R.0.node.first ≡ nd.first = ap (λ (n : Node). n.first) R.1 in
      elim (ℕ_discrete (outputs nd.kind) 0) [
        | yes z ↦ (let x = R.0.unnumbered (m ∙ z) in omega arith)
        | no z ↦
            let x = R.0.numbered (omega arith) in
            let w = A.wires in
            let t = total_within (λ j. output_count (node_at g j)) i (node_count g) (node_in_range g i nd here) in
            let c = A.shape.wires in
            omega arith
      ]

  node_limited : Limited (node_words nd)
  node_limited =
      let R = row_here in
      let c = columns_small nd.kind in
      let c0 = c.0 in let c1 = c.1 in let c2 = c.2 in
      let code = subst (λ (n : Node). n.code < codes n.kind) R.1 R.0.code_below in
      let sort = subst (λ (n : Node). n.sort < own_sorts n.kind) R.1 R.0.sort_below in
      (omega arith, (omega arith, (omega arith, (node_wire in0, (node_wire in1, (node_wire in2, (node_first, tt)))))))

-- ---- the graph's words

module _ (t : List ℕ) (checked : (check_answer t).number ≡ 0) (words : (k : ℕ) → get_or t k 0 < word_limit) where
  abbrev g : List ℕ
  g = lowered_words t

  abbrev A : Accepted g
  A = accepted g (checked_table_lowers t checked)

  start_limited : (i r : ℕ) → get_elem? (start_rows t) i ≡ some r → Limited (start_words t r)
  unfolding start_rows
  start_limited i r h =
      let S = passing_table_has_structure t (number_0_is_no_refusal t (passed_check t checked)) in
      let m = (those_from (is_start t) (size t) r (there (those (is_start t) (size t)) i r h)).0 in
      let f = those_few (λ q. eqb (kind_at t q) INPUT) r in
      let s = S.few in
      go (eqb (kind_at t r) INPUT) (length (those (λ q. eqb (kind_at t q) INPUT) r)) (omega arith)
    where
      go : (b : Bool) (n : ℕ) → n < word_limit → Limited (cond b (0 ∷ n ∷ []) (1 ∷ word t r 1 ∷ []))
      go true n l = (omega arith, (l, tt))
      go false n l = (omega arith, (words (6 * r + 1), tt))

  result_limited : (k q : ℕ) → get_elem? (out_rows t) k ≡ some q → Limited (stands_on t (result q) ∷ [])
  unfolding result_total
  result_limited k q h =
      let l = in_range (out_rows t) k q h in
      let c = result_count_lem t in
      let b = A.results_below k (omega arith) in
      let e = result_at_lem t k q h in
      let w = A.shape.wires in
      (omega arith, tt)

  pub lowered_words_lem : (k : ℕ) → get_or (lowered_words t) k 0 < word_limit
  unfolding lowered_words
  lowered_words_lem =
      let s = A.shape in
      let n = node_count_lem t in let w = wire_count_lem t in let a = start_count_lem t in let r = result_count_lem t in
      let sn = s.nodes in let sw = s.wires in let ss = s.starts in let sr = s.results in
      limited_at (lowered_words t) (
        omega arith,
        (
          omega arith,
          (
            omega arith,
            (
              omega arith,
              both_limited (each (start_words t) (start_rows t)) (each (λ q. stands_on t (result q) ∷ []) (out_rows t) ++ each node_words (lowered_nodes t)) (each_limited (start_words t) (start_rows t) start_limited)
                  (both_limited (each (λ q. stands_on t (result q) ∷ []) (out_rows t)) (each node_words (lowered_nodes t)) (each_limited (λ q. stands_on t (result q) ∷ []) (out_rows t) result_limited)
                  (each_limited node_words (lowered_nodes t) (λ i nd h. node_limited g A i nd (node_at_lem t i nd h)))),
            ),
          ),
        ),
      )
