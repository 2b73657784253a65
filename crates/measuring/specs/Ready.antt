-- Scratch rows that are right for a table: what is tallied, noted and written from them is what the table's graph has.
--
--   scratch_of            every source has a place
--   Counted               the counts are known
--   Ready                 the scratch is right, the tables are filled
--   Measured              what measuring a table answers
--   uses_of_lem               the table of uses holds the uses of every wire
--   node_total_of, wire_total_of      the counts with forks
--   ready_results, ready_rows, ready_forks        each part written is the graph's
--
-- Assumes nothing.
use Prim.Native.Nat.{ℕ, ◌+◌, ◌-◌, ◌*◌, ◌<◌, ◌≤◌}
use Rattle.std.specs.Prelude.{◌≡◌, ◌⊎◌, Bool, true}
use Rattle.std.proofs.Math.Path.{sym, ap, ap₂}
use Rattle.std.proofs.Common.{◌∙◌, inl, inr, eq-eqb, ne_eqb}
use mathlib.Core.List.{List, [], ◌∷◌, ◌++◌}
use Rattle.std.proofs.Math.Option.{some}
use native.Mathlib.Omega.{arith}
use Rattle.std.proofs.Math.ListN.{get_or, get_elem?}
use Rattle.step.specs.Kinds.{in0, in1, in2}
use Rattle.graph.specs.Below.{joined, total, times, times_append}
use Rattle.graph.specs.Graph.{absent}
use Rattle.table.specs.Rows.{size}
use Rattle.structure.specs.Structure.{Structure}
use Rattle.lowered.specs.Roles.{result}
use Rattle.lowered.specs.Lower.{roles, is_start, start_rows, is_out, out_rows, plain_nodes, plain_wires, node_total, wire_total, start_total, result_total}
use Rattle.lowered.specs.Room.{in_limits}
use Rattle.laid.specs.Lists.{has_elem}
use Rattle.laid.specs.Those.{those_few}
use Rattle.laid.specs.Indexed.{joined_same, total_same}
use Rattle.laid.specs.Counts.{source_number, fork_sum, fork_count, wire_total_by_numbers, node_total_by_numbers}
use Rattle.written.specs.Plain.{input_number, Laid, Outs}
use Rattle.written.specs.Numbers.{inputs_of, inputs_at, out_of, out_at, use_count, free_from, stands_at, uses_counted, input0_stands, input1_stands, input2_stands, input_below_lem, out_below, result_stands}
use Rattle.written.specs.Words.{wire_sort_at, fork_words_at, result_words}
use Rattle.written.specs.Words as words
use Rattle.forking.specs.Tallied.{Place, Below, one_more, tallied, tallied_append, tallied_at}
use Rattle.forking.specs.Sorted.{node_there}
use Rattle.forking.specs.Forked.{nodes_by, wires_by, added_nodes, fork_words, fork_words_by}
use Rattle.forking.specs.Written.{row_inputs, row_outs, Sourced, stand_of, row_words, out_words, Scratch, uses_of}

three_same : {a b c x y z : ℕ} → a ≡ x → b ≡ y → c ≡ z → a ∷ b ∷ c ∷ [] ≡ x ∷ y ∷ z ∷ []
three_same p q r = rw (p, q, r)

seven_same : {a b c d e f g p q r s t u v : ℕ} → a ≡ p → b ≡ q → c ≡ r → d ≡ s → e ≡ t → f ≡ u → g ≡ v
    → a ∷ b ∷ c ∷ d ∷ e ∷ f ∷ g ∷ [] ≡ p ∷ q ∷ r ∷ s ∷ t ∷ u ∷ v ∷ []
seven_same h i j k l m n = rw (h, i, j, k, l, m, n)

module _ (t : List ℕ) (S : Structure t) where
  pub starts_few : start_total t ≤ 512
  unfolding start_total start_rows
  starts_few = let a = those_few (is_start t) (size t) in let b = S.few in omega arith

  pub starts_are_rows : start_total t ≤ size t
  unfolding start_total start_rows
  starts_are_rows = those_few (is_start t) (size t)

  pub results_few : result_total t ≤ 512
  unfolding result_total out_rows
  results_few = let a = those_few (is_out t) (size t) in let b = S.few in omega arith

module _ (t rows : List ℕ) (L : Laid t rows) where
  inputs_same : (i : ℕ) → i < plain_nodes t → row_inputs rows i ≡ inputs_at t i
  inputs_same i h =
      let m = node_there t rows L i h in
      let r = L.row i m.0 m.1 in
      three_same r.in0 r.in1 r.in2 ∙ sym (ap (inputs_of t) m.1)

  inputs_before_lem : (i : ℕ) → i ≤ plain_nodes t → joined (row_inputs rows) i ≡ joined (inputs_at t) i
  inputs_before_lem i l = joined_same (row_inputs rows) (inputs_at t) i (λ j h. inputs_same j (omega arith))

module _ (t outs : List ℕ) (O : Outs t outs) where
  result_there : (i : ℕ) → i < result_total t → (q : ℕ) × (get_elem? (out_rows t) i ≡ some q)
  unfolding result_total
  result_there i h = has_elem (out_rows t) i h

  outs_same : (i : ℕ) → i < result_total t → row_outs outs i ≡ out_at t i
  outs_same i h =
      let m = result_there i h in
      ap (λ (x : ℕ). x ∷ []) (O.out i m.0 m.1) ∙ sym (ap (out_of t) m.1)

  outs_before : (i : ℕ) → i ≤ result_total t → joined (row_outs outs) i ≡ joined (out_at t) i
  outs_before i l = joined_same (row_outs outs) (out_at t) i (λ j h. outs_same j (omega arith))

placed : {x y w : ℕ} → x ≡ y → (y ≡ absent) ⊎ (y < w) → w ≤ 8192 → Place x
placed e (inl h) l = inl (e ∙ h)
placed e (inr h) l = inr (omega arith)

-- EVERY SOURCE HAS A PLACE
pub scratch_of : (t : List ℕ) (S : Structure t) (rows outs : List ℕ) → Laid t rows → Outs t outs → plain_nodes t ≤ 4096 → plain_wires t ≤ 8192
    → Scratch rows (plain_nodes t) outs (result_total t) (plain_wires t)
scratch_of t S rows outs L O few wide =
    record { nodes_few = few; results_few = results_few t S; wires_few = wide; sourced = sourced; result = found }
  where
    sourced : (i : ℕ) → i < plain_nodes t → Sourced rows i
    sourced i h =
        let m = node_there t rows L i h in
        let r = L.row i m.0 m.1 in
        let low = input_below_lem t S i m.0 m.1 in
        record { in0 = placed r.in0 (low in0) wide; in1 = placed r.in1 (low in1) wide; in2 = placed r.in2 (low in2) wide }

    found : (i : ℕ) → i < result_total t → Place (get_or outs i 0)
    found i h =
        let m = result_there t outs O i h in
        placed (O.out i m.0 m.1) (inr (out_below t S i m.0 m.1)) wide

-- ---- the tables

tallied_new : (zeros xs : List ℕ) → Below 0 zeros → (w : ℕ) → w < 8192 → get_or (tallied zeros xs) w 0 ≡ times w xs
tallied_new zeros xs Z w h =
    let l = Z.long in
    let a = tallied_at zeros xs w (omega arith) (omega arith) in
    let z = Z.low w h in
    omega arith

-- THE USES OF EVERY WIRE ARE TALLIED
pub uses_of_lem : (t : List ℕ) (S : Structure t) (rows outs zeros : List ℕ) → Laid t rows → Outs t outs → Below 0 zeros → (w : ℕ) → w < 8192
    → get_or (uses_of rows (plain_nodes t) outs (result_total t) zeros) w 0 ≡ use_count t w
unfolding uses_of
uses_of_lem t S rows outs zeros L O Z w h =
    let a = ap (times w) (inputs_before_lem t rows L (plain_nodes t) (omega arith)) in
    let b = ap (times w) (outs_before t outs O (result_total t) (omega arith)) in
    let c = uses_counted t S w (λ e. omega arith) in
    let d = times_append w (joined (row_inputs rows) (plain_nodes t)) (joined (row_outs outs) (result_total t)) in
    ap (λ (s : List ℕ). get_or s w 0) (sym (tallied_append zeros (joined (row_inputs rows) (plain_nodes t)) (joined (row_outs outs) (result_total t))))
    ∙ tallied_new zeros (joined (row_inputs rows) (plain_nodes t) ++ joined (row_outs outs) (result_total t)) Z w h
    ∙ (let e : times w (joined (row_inputs rows) (plain_nodes t) ++ joined (row_outs outs) (result_total t)) ≡ use_count t w = omega arith in e)

module _ (t : List ℕ) (uses : List ℕ) (right : (w : ℕ) → w < 8192 → get_or uses w 0 ≡ use_count t w) where
  pub wires_added : (n : ℕ) → n ≤ 8192 → total (wires_by uses) n ≡ total (fork_sum t) n
  wires_added n l = total_same (wires_by uses) (fork_sum t) n (λ i h. ap (λ (k : ℕ). 2 * (k - 1)) (right i (omega arith)))

  pub wire_total_of : (S : Structure t) → plain_wires t ≤ 8192 → wire_total t ≡ plain_wires t + total (wires_by uses) (plain_wires t)
  wire_total_of S l = wire_total_by_numbers t S ∙ ap (λ (n : ℕ). plain_wires t + n) (sym (wires_added (plain_wires t) l))

  pub node_total_of : (S : Structure t) → plain_wires t ≤ 8192 → node_total t ≡ plain_nodes t + total (nodes_by uses) (plain_wires t)
  node_total_of S l =
      node_total_by_numbers t S
      ∙ ap (λ (n : ℕ). plain_nodes t + n) (sym (total_same (nodes_by uses) (fork_count t S) (plain_wires t) (λ i h. ap added_nodes (right i (omega arith)))))

-- the counts before forks and with them
pub record Counted (t : List ℕ) (P W N A S R : ℕ) : Type 0 where
  pub plain : P ≡ plain_nodes t
  pub plain_wires_lem : W ≡ plain_wires t
  pub nodes : N ≡ node_total t
  pub wires : A ≡ wire_total t
  pub starts : S ≡ start_total t
  pub results : R ≡ result_total t

-- ---- what is written

pub record Ready (t rows outs uses free : List ℕ) : Type 0 where
  pub structure : Structure t
  pub laid : Laid t rows
  pub results : Outs t outs
  pub nodes_few : plain_nodes t ≤ 4096
  pub wires_few : plain_wires t ≤ 8192
  pub uses_small : Below 40000 uses
  pub free_small : Below 700000000 free
  pub uses_right : (w : ℕ) → w < 8192 → get_or uses w 0 ≡ use_count t w
  pub free_right : (w : ℕ) → w < plain_wires t → get_or free w 0 ≡ free_from t w

-- what measuring a table answers
pub record Measured (t rows outs uses free : List ℕ) (P W N A S R : ℕ) (fits : Bool) : Type 0 where
  pub room : fits ≡ in_limits t
  pub ready : fits ≡ true → Ready t rows outs uses free × Counted t P W N A S R

module _ (t rows outs uses free : List ℕ) (Y : Ready t rows outs uses free) where
  abbrev S : Structure t
  S = Y.structure

  abbrev L : Laid t rows
  L = Y.laid

  stand_right : (seen : List ℕ) (x y j : ℕ) → x ≡ y → (y ≡ absent) ⊎ (y < plain_wires t) → (y < 8192 → get_or seen y 0 ≡ j) → stand_of free uses seen x ≡ stands_at t y j
  unfolding stand_of
  stand_right seen x y j e p h = ap (stand_of free uses seen) e ∙ go p
    where
      go : (y ≡ absent) ⊎ (y < plain_wires t) → stand_of free uses seen y ≡ stands_at t y j
      go (inl q) = rw (eq-eqb y absent q)
      go (inr q) =
          let few = Y.wires_few in
          rw (ne_eqb y absent (λ z. omega arith), Y.free_right y q, Y.uses_right y (omega arith), h (omega arith))

  module _ (zeros : List ℕ) (Z : Below 0 zeros) where
    -- a result, when all inputs and the results before it are tallied
    pub ready_results : (seen : List ℕ) → seen ≡ tallied zeros (joined (row_inputs rows) (plain_nodes t)) → (i : ℕ) → i < result_total t
        → out_words free uses outs seen i ≡ result_words t (get_elem? (out_rows t) i)
    ready_results seen e i h =
        let m = result_there t outs Y.results i h in
        let x = source_number t (result m.0) in
        let a = inputs_before_lem t rows L (plain_nodes t) (omega arith) in
        let b = outs_before t outs Y.results i (omega arith) in
        ap (λ (x : ℕ). x ∷ [])
        (stand_right (tallied seen (joined (row_outs outs) i)) (get_or outs i 0) (source_number t (result m.0)) _ (Y.results.out i m.0 m.1) (inr (out_below t S i m.0 m.1))
        (λ l. ap (λ (s : List ℕ). get_or s (source_number t (result m.0)) 0)
        (ap₂ (λ (s xs : List ℕ). tallied s xs) (e ∙ ap (tallied zeros) a) b ∙ sym (tallied_append zeros (joined (inputs_at t) (plain_nodes t)) (joined (out_at t) i)))
        ∙ tallied_new zeros (joined (inputs_at t) (plain_nodes t) ++ joined (out_at t) i) Z (source_number t (result m.0)) l
        ∙ times_append (source_number t (result m.0)) (joined (inputs_at t) (plain_nodes t)) (joined (out_at t) i))
        ∙ sym (result_stands t S i m.0 m.1 Y.wires_few))
        ∙ sym (ap (result_words t) m.1)

    -- a row, when the inputs of the rows before it are tallied
    pub ready_rows : (i : ℕ) → i < plain_nodes t → row_words free uses rows zeros i ≡ words.row_words t (get_elem? (roles t) i)
    unfolding tallied
    ready_rows i h =
        let m = node_there t rows L i h in
        let n = m.0 in
        let r = L.row i m.0 m.1 in
        let a = inputs_before_lem t rows L i (omega arith) in
        let before : List ℕ = joined (inputs_at t) i in
        let low = input_below_lem t S i m.0 m.1 in
        seven_same r.kind r.code r.sort
        (stand_right (tallied zeros (joined (row_inputs rows) i)) (get_or rows (7 * i + 3) 0) (input_number t m.0 in0) _ r.in0 (low in0)
        (λ l. ap (λ (xs : List ℕ). get_or (tallied zeros xs) (input_number t m.0 in0) 0) a ∙ tallied_new zeros before Z (input_number t m.0 in0) l)
        ∙ sym (input0_stands t S i m.0 m.1 Y.wires_few))
        (stand_right (one_more (tallied zeros (joined (row_inputs rows) i)) (get_or rows (7 * i + 3) 0)) (get_or rows (7 * i + 4) 0) (input_number t m.0 in1) _ r.in1 (low in1)
        (λ l. ap₂ (λ (xs : List ℕ) (x : ℕ). get_or (one_more (tallied zeros xs) x) (input_number t m.0 in1) 0) a r.in0
        ∙ ap (λ (s : List ℕ). get_or s (input_number t m.0 in1) 0) (sym (tallied_append zeros before (input_number t m.0 in0 ∷ [])))
        ∙ tallied_new zeros (before ++ (input_number t m.0 in0 ∷ [])) Z (input_number t m.0 in1) l
        ∙ times_append (input_number t m.0 in1) before (input_number t m.0 in0 ∷ []))
        ∙ sym (input1_stands t S i m.0 m.1 Y.wires_few))
        (stand_right (one_more (one_more (tallied zeros (joined (row_inputs rows) i)) (get_or rows (7 * i + 3) 0)) (get_or rows (7 * i + 4) 0)) (get_or rows (7 * i + 5) 0) (input_number t m.0 in2) _ r.in2 (low in2)
        (λ l. ap (λ (s : List ℕ). get_or s (input_number t m.0 in2) 0) (two a r.in0 r.in1)
        ∙ ap (λ (s : List ℕ). get_or s (input_number t m.0 in2) 0) (sym (tallied_append zeros before (input_number t m.0 in0 ∷ input_number t m.0 in1 ∷ [])))
        ∙ tallied_new zeros (before ++ (input_number t m.0 in0 ∷ input_number t m.0 in1 ∷ [])) Z (input_number t m.0 in2) l
        ∙ times_append (input_number t m.0 in2) before (input_number t m.0 in0 ∷ input_number t m.0 in1 ∷ []))
        ∙ sym (input2_stands t S i m.0 m.1 Y.wires_few))
        r.first
        ∙ sym (ap (words.row_words t) m.1)
      where
        two : {xs ys : List ℕ} {a b x y : ℕ} → xs ≡ ys → a ≡ x → b ≡ y → one_more (one_more (tallied zeros xs) a) b ≡ one_more (one_more (tallied zeros ys) x) y
        two p q r = rw (p, q, r)

  -- the forks of a wire, when its sort is known
  pub ready_forks : (sorts : List ℕ) (w : ℕ) → w < plain_wires t → get_or sorts w 0 ≡ wire_sort_at t w → fork_words_by sorts uses free w ≡ fork_words_at t w
  unfolding fork_words
  ready_forks sorts w h e =
      let few = Y.wires_few in
      rw (e, Y.uses_right w (omega arith), Y.free_right w h)
