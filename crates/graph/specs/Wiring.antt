-- The wires of an accepted graph: each has one reader and one writer, and a sort that both agree on. Crates above cite these laws.
--
--   one_reader            two inputs on one wire are one input
--   one_writer            two outputs on one wire are one output
--   input_below_lem, output_below, start_unwritten           where wires of inputs and outputs lie
--   result_unread, results_differ                        a result's wire is no input's, and no other result's
--   input_sorted_lem, output_sorted, result_sorted_lem, start_sorted     the sort of a wire is that of its places
--   a_sort_for_each_wire  the list of sorts is as long as there are wires
--   every_wire_read       every wire is on an input or is a result
--   every_wire_written    every wire is a start or on an output
--
-- Idea. Every read adds one to how often its wire stands in `reads`, which is once, so two reads are one. The outputs of node i are the
-- numbers from `first_at g i` up to `first_at g (i + 1)`, so the outputs of different nodes lie apart.
-- Assumes nothing.
use Prim.Native.Nat.{ℕ, zero, suc, ◌+◌, ◌-◌, ◌<◌, ◌≤◌}
use Rattle.std.specs.Prelude.{◌≡◌, refl, ◌⊎◌, Bool, true, false, eqb}
use Rattle.std.proofs.Common.{sym, ◌∙◌, inl, inr, ⊎_elim, lt-ltb, ltb-true, eqb-true, get_or-take}
use Rattle.std.proofs.Math.Path.{ap}
use mathlib.Core.List.{List, [], ◌∷◌, ◌++◌}
use Rattle.std.proofs.Math.Option.{Option, none, some}
use native.Mathlib.Omega.{arith}
use Rattle.std.proofs.Math.ListN.{length, get_or, replicate, length-replicate, get_or-replicate, length-append, get_or-append}
use Rattle.std.proofs.Math.Seq.{get_or-append-add}
use Rattle.word.specs.Words.{flag}
use Rattle.step.specs.Kinds.{Kind, outputs, input_sort, output_sort, Input, in0, in1, in2, Output, out0, out1, STREAM, GATE, CARRY, INVARIANT, SPLIT, FORK, DRAIN, OP, PICK}
use Rattle.graph.specs.Below.{total_within, total_somewhere, joined, joined_at, times, times_append, times_one, times_within, times_of_two, times_somewhere, order}
use Rattle.graph.specs.Graph.{node_count, wire_count, start_count, result_count, result_at, Node, node_at, has_output, output_place, input_of, output_of, input_at, output_at, output_count, outputs_before, first_at, listed, node_reads, results, reads, output_sorts, wire_sorts, sort_at, as_many_sorts_as_outputs, node_sorts}
use Rattle.graph.specs.Accepted.{Accepted, picked, node_in_range, input_of_node}

-- ---- reads of one node

times_listed : (o : Option ℕ) (w : ℕ) → o ≡ some w → times w (listed o) ≡ 1
times_listed none w e = let z : ◌≡◌ {A = ℕ} 0 1 = cc in absurd (omega arith)
times_listed (some x) w e = let same : x ≡ w = cc in rw same (times_one w)

reads_of : (w : ℕ) (a b c : List ℕ) → times w (a ++ (b ++ c)) ≡ times w a + (times w b + times w c)
reads_of w a b c = rw (times_append w a (b ++ c), times_append w b c)

-- An input counts, and two different inputs count twice.
input_counts : (o : Option Node) (k : Input) (w : ℕ) → input_of o k ≡ some w → 1 ≤ times w (node_reads o)
input_counts o k w e =
    let all = reads_of w (listed (input_of o in0)) (listed (input_of o in1)) (listed (input_of o in2)) in
    let one = times_listed (input_of o k) w e in
    go k all one
  where
    go : (k : Input)
        → times w (node_reads o) ≡ times w (listed (input_of o in0)) + (times w (listed (input_of o in1)) + times w (listed (input_of o in2)))
        → times w (listed (input_of o k)) ≡ 1 → 1 ≤ times w (node_reads o)
    go in0 all one = omega arith
    go in1 all one = omega arith
    go in2 all one = omega arith

same_input_lem : (o : Option Node) (k l : Input) (w : ℕ) → input_of o k ≡ some w → input_of o l ≡ some w → times w (node_reads o) ≤ 1 → k ≡ l
same_input_lem o k l w e f h =
    go k l (times_listed (input_of o k) w e) (times_listed (input_of o l) w f)
    (reads_of w (listed (input_of o in0)) (listed (input_of o in1)) (listed (input_of o in2)))
  where
    go : (k l : Input) → times w (listed (input_of o k)) ≡ 1 → times w (listed (input_of o l)) ≡ 1
        → times w (node_reads o) ≡ times w (listed (input_of o in0)) + (times w (listed (input_of o in1)) + times w (listed (input_of o in2)))
        → k ≡ l
    go in0 in0 x y all = refl
    go in0 in1 x y all = absurd (omega arith)
    go in0 in2 x y all = absurd (omega arith)
    go in1 in0 x y all = absurd (omega arith)
    go in1 in1 x y all = refl
    go in1 in2 x y all = absurd (omega arith)
    go in2 in0 x y all = absurd (omega arith)
    go in2 in1 x y all = absurd (omega arith)
    go in2 in2 x y all = refl

listed_has : (o : Option ℕ) (w : ℕ) → 1 ≤ times w (listed o) → o ≡ some w
unfolding times
listed_has none w h = absurd (omega arith)
listed_has (some x) w h = go (eqb w x) refl h
  where
    go : (b : Bool) → eqb w x ≡ b → 1 ≤ flag b + 0 → some x ≡ some w
    go true q h = ap some (sym (eqb-true w x q))
    go false q h = absurd (omega arith)

-- A wire that a node reads is on one of its inputs.
input_found : (o : Option Node) (w : ℕ) → 1 ≤ times w (node_reads o) → (k : Input) × (input_of o k ≡ some w)
input_found o w h =
    let all = reads_of w (listed (input_of o in0)) (listed (input_of o in1)) (listed (input_of o in2)) in
    go (times w (listed (input_of o in0))) (times w (listed (input_of o in1))) refl refl (omega arith)
  where
    go : (a b : ℕ) → times w (listed (input_of o in0)) ≡ a → times w (listed (input_of o in1)) ≡ b
        → 1 ≤ a + (b + times w (listed (input_of o in2))) → (k : Input) × (input_of o k ≡ some w)
    go (suc a) b p q h = (in0, listed_has (input_of o in0) w (omega arith))
    go zero (suc b) p q h = (in1, listed_has (input_of o in1) w (omega arith))
    go zero zero p q h = (in2, listed_has (input_of o in2) w (omega arith))

-- ---- outputs of one node

output_of_node : (o : Option Node) (k : Output) (w : ℕ) → output_of o k ≡ some w
    → (nd : Node) × (o ≡ some nd) × (output_place k < outputs nd.kind) × (nd.first + output_place k ≡ w)
output_of_node none k w e = let z : ◌≡◌ {A = ℕ} 0 1 = cc in absurd (omega arith)
output_of_node (some nd) k w e =
    let p = picked (has_output nd.kind k) (nd.first + output_place k) w e in
    (nd, refl, ltb-true (output_place k) (outputs nd.kind) p.0, p.1)

same_place : (k l : Output) → output_place k ≡ output_place l → k ≡ l
same_place out0 out0 e = refl
same_place out0 out1 e = absurd (omega arith)
same_place out1 out0 e = absurd (omega arith)
same_place out1 out1 e = refl

few_outputs : (κ : Kind) → outputs κ ≤ 2
few_outputs STREAM = omega arith
few_outputs GATE = omega arith
few_outputs CARRY = omega arith
few_outputs INVARIANT = omega arith
few_outputs SPLIT = omega arith
few_outputs FORK = omega arith
few_outputs DRAIN = omega arith
few_outputs OP = omega arith
few_outputs PICK = omega arith

-- The place of an output from its number.
place_found : (p : ℕ) → p < 2 → (k : Output) × (output_place k ≡ p)
place_found zero h = (out0, refl)
place_found (suc zero) h = (out1, refl)
place_found (suc (suc p)) h = absurd (omega arith)

output_there : (g : List ℕ) (i : ℕ) (nd : Node) (k : Output) (w : ℕ) → node_at g i ≡ some nd → output_place k < outputs nd.kind
    → nd.first + output_place k ≡ w → output_at g i k ≡ some w
output_there g i nd k w here has number = rw (here, lt-ltb (output_place k) (outputs nd.kind) has, number)

module _ (g : List ℕ) (a : Accepted g) where
  -- ---- readers

  reads_split : (w : ℕ) → times w (reads g) ≡ times w (joined (λ i. node_reads (node_at g i)) (node_count g)) + times w (results g (result_count g))
  unfolding reads
  reads_split w = times_append w (joined (λ i. node_reads (node_at g i)) (node_count g)) (results g (result_count g))

  input_in_range : (i : ℕ) (k : Input) (w : ℕ) → input_at g i k ≡ some w → i < node_count g
  input_in_range i k w e = let nd = input_of_node (node_at g i) k w e in node_in_range g i nd.0 nd.1

  pub input_below_lem : (i : ℕ) (k : Input) (w : ℕ) → input_at g i k ≡ some w → w < wire_count g
  input_below_lem i k w e = a.inputs_below i k w e

  pub one_reader : (i j : ℕ) (k l : Input) (w : ℕ) → input_at g i k ≡ some w → input_at g j l ≡ some w → (i ≡ j) × (k ≡ l)
  one_reader i j k l w p q = ⊎_elim (λ h. absurd (apart i j h k l p q)) (⊎_elim same (λ h. absurd (apart j i h l k q p))) (order i j)
    where
      f : ℕ → List ℕ
      f = λ i. node_reads (node_at g i)

      apart : (i j : ℕ) → i < j → (k l : Input) → input_at g i k ≡ some w → input_at g j l ≡ some w → ⊥
      apart i j h k l p q =
          let two = times_of_two w f i j (node_count g) h (input_in_range j l w q) in
          let x = input_counts (node_at g i) k w p in
          let y = input_counts (node_at g j) l w q in
          let split = reads_split w in
          let once = a.once w (a.inputs_below i k w p) in
          omega arith

      same : i ≡ j → (i ≡ j) × (k ≡ l)
      same h =
          let one = times_within w f i (node_count g) (input_in_range i k w p) in
          let split = reads_split w in
          let once = a.once w (a.inputs_below i k w p) in
          (h, same_input_lem (node_at g i) k l w p (rw h q) (omega arith))

  result_counts : (k : ℕ) → k < result_count g → 1 ≤ times (result_at g k) (results g (result_count g))
  result_counts k h =
      let within = times_within (result_at g k) (λ k. result_at g k ∷ []) k (result_count g) h in
      let one = times_one (result_at g k) in
      omega arith

  -- A result's wire is no node's input.
  pub result_unread : (i : ℕ) (l : Input) (k : ℕ) → k < result_count g → input_at g i l ≡ some (result_at g k) → ⊥
  result_unread i l k h e =
      let w = result_at g k in
      let x = result_counts k h in
      let y = input_counts (node_at g i) l w e in
      let z = times_within w (λ i. node_reads (node_at g i)) i (node_count g) (input_in_range i l w e) in
      let split = reads_split w in
      let once = a.once w (a.results_below k h) in
      omega arith

  pub results_differ : (k l : ℕ) → k < result_count g → l < result_count g → result_at g k ≡ result_at g l → k ≡ l
  results_differ k l hk hl e = ⊎_elim (λ h. absurd (apart k l h hl e)) (⊎_elim (λ h. h) (λ h. absurd (apart l k h hk (sym e)))) (order k l)
    where
      apart : (k l : ℕ) → k < l → l < result_count g → result_at g k ≡ result_at g l → ⊥
      apart k l h hl e =
          let two = times_of_two (result_at g l) (λ k. result_at g k ∷ []) k l (result_count g) h hl in
          let x : times (result_at g l) (result_at g k ∷ []) ≡ 1 = rw e (times_one (result_at g l)) in
          let y = times_one (result_at g l) in
          let split = reads_split (result_at g l) in
          let once = a.once (result_at g l) (a.results_below l hl) in
          omega arith

  -- Every wire is on an input, or is a result.
  pub every_wire_read : (w : ℕ) → w < wire_count g
      → ((i : ℕ) × (k : Input) × (input_at g i k ≡ some w)) ⊎ ((k : ℕ) × (k < result_count g) × (result_at g k ≡ w))
  every_wire_read w h = go (times w (joined (λ i. node_reads (node_at g i)) (node_count g))) refl
    where
      go : (t : ℕ) → times w (joined (λ i. node_reads (node_at g i)) (node_count g)) ≡ t
          → ((i : ℕ) × (k : Input) × (input_at g i k ≡ some w)) ⊎ ((k : ℕ) × (k < result_count g) × (result_at g k ≡ w))
      go (suc t) e =
          let node = times_somewhere w (λ i. node_reads (node_at g i)) (node_count g) (omega arith) in
          let input = input_found (node_at g node.0) w node.2 in
          inl (node.0, input.0, input.1)
      go zero e =
          let split = reads_split w in
          let once = a.once w h in
          let result = times_somewhere w (λ k. result_at g k ∷ []) (result_count g) (omega arith) in
          let there : some (result_at g result.0) ≡ some w = listed_has (some (result_at g result.0)) w result.2 in
          inr (result.0, result.1, cc)

  -- ---- writers

  -- An output is a place among the outputs of its node, and they are numbered on from `first_at`.
  output_number_lem : (i : ℕ) (k : Output) (w : ℕ) → output_at g i k ≡ some w
      → (i < node_count g) × (w ≡ first_at g i + output_place k) × (output_place k < output_count (node_at g i))
  output_number_lem i k w e =
      let p = output_of_node (node_at g i) k w e in
      let range = node_in_range g i p.0 p.1 in
      let row = a.rows i range in
      let same : row.node ≡ p.0 = cc row.here in
      let first : p.0.first ≡ first_at g i = rw same at (row.numbered (rw same (positive p.2))) in
      (range, sym p.3 ∙ ap (λ x. x + output_place k) first, rw p.1 p.2)
    where
      positive : {m n : ℕ} → m < n → 0 < n
      positive h = omega arith

  pub output_below : (i : ℕ) (k : Output) (w : ℕ) → output_at g i k ≡ some w → w < wire_count g
  output_below i k w e =
      let p = output_number_lem i k w e in
      let within = total_within (λ j. output_count (node_at g j)) i (node_count g) p.0 in
      let all = a.wires in
      omega arith

  -- An output's wire is not a start.
  pub start_unwritten : (i : ℕ) (k : Output) (w : ℕ) → output_at g i k ≡ some w → start_count g ≤ w
  start_unwritten i k w e = let p = output_number_lem i k w e in omega arith

  pub one_writer : (i j : ℕ) (k l : Output) (w : ℕ) → output_at g i k ≡ some w → output_at g j l ≡ some w → (i ≡ j) × (k ≡ l)
  one_writer i j k l w p q = ⊎_elim (λ h. absurd (apart i j h k l p q)) (⊎_elim same (λ h. absurd (apart j i h l k q p))) (order i j)
    where
      apart : (i j : ℕ) → i < j → (k l : Output) → output_at g i k ≡ some w → output_at g j l ≡ some w → ⊥
      apart i j h k l p q =
          let x = output_number_lem i k w p in
          let y = output_number_lem j l w q in
          let within = total_within (λ j. output_count (node_at g j)) i j h in
          omega arith

      same : i ≡ j → (i ≡ j) × (k ≡ l)
      same h =
          let x = output_number_lem i k w p in
          let y = output_number_lem j l w q in
          let first : first_at g i ≡ first_at g j = ap (first_at g) h in
          (h, same_place k l (omega arith))

  -- Every wire is a start, or on an output.
  pub every_wire_written : (w : ℕ) → w < wire_count g → (w < start_count g) ⊎ ((i : ℕ) × (k : Output) × (output_at g i k ≡ some w))
  every_wire_written w h = ⊎_elim (λ q. inl q) (⊎_elim (λ q. inr (found (omega arith))) (λ q. inr (found (omega arith)))) (order w (start_count g))
    where
      found : start_count g ≤ w → (i : ℕ) × (k : Output) × (output_at g i k ≡ some w)
      found s =
          let all = a.wires in
          let at = total_somewhere (λ j. output_count (node_at g j)) (node_count g) (w - start_count g) (omega arith) in
          let i = at.0 in
          let row = a.rows i at.1 in
          let count : output_count (node_at g i) ≡ outputs row.node.kind = rw row.here in
          let few = few_outputs row.node.kind in
          let place = place_found (w - start_count g - outputs_before g i) (omega arith) in
          let first : row.node.first ≡ first_at g i = row.numbered (omega arith) in
          let number : row.node.first + output_place place.0 ≡ w = omega arith in
          (i, place.0, output_there g i row.node place.0 w row.here (omega arith) number)

  -- ---- sorts

  -- The list of sorts has one for each wire.
  pub a_sort_for_each_wire : length (wire_sorts g) ≡ wire_count g
  unfolding wire_sorts
  a_sort_for_each_wire =
      let starts : List ℕ = replicate (start_count g) 0 in
      let long = length-append starts (joined (λ i. output_sorts (node_at g i)) (node_count g)) in
      let front : length starts ≡ start_count g = length-replicate {A = ℕ} (start_count g) 0 in
      let outs = as_many_sorts_as_outputs g (node_count g) in
      let all = a.wires in
      omega arith

  pub input_sorted_lem : (i : ℕ) (nd : Node) (k : Input) (w : ℕ) → node_at g i ≡ some nd → input_at g i k ≡ some w
      → sort_at g w ≡ input_sort nd.kind nd.sort k
  input_sorted_lem i nd k w here e = a.inputs_sorted i nd here k w e

  pub result_sorted_lem : (k : ℕ) → k < result_count g → sort_at g (result_at g k) ≡ 0
  result_sorted_lem k h = a.results_sorted k h

  pub start_sorted : (w : ℕ) → w < start_count g → sort_at g w ≡ 0
  unfolding wire_sorts
  start_sorted w h =
      let starts : List ℕ = replicate (start_count g) 0 in
      let there : w < length starts = rw (length-replicate {A = ℕ} (start_count g) 0) h in
      get_or-append starts (joined (λ i. output_sorts (node_at g i)) (node_count g)) 0 w there ∙ get_or-replicate (start_count g) w 0 0 h

  -- The sort of wire S + outputs before i + p is that of output p of node i.
  sort_of_output : (i p : ℕ) → i < node_count g → p < output_count (node_at g i) → sort_at g (first_at g i + p) ≡ get_or (output_sorts (node_at g i)) p 0
  unfolding wire_sorts
  sort_of_output i p h l =
      let f : ℕ → List ℕ = λ j. output_sorts (node_at g j) in
      let starts : List ℕ = replicate (start_count g) 0 in
      let before = as_many_sorts_as_outputs g i in
      let long : length starts ≡ start_count g = length-replicate {A = ℕ} (start_count g) 0 in
      let place : first_at g i + p ≡ length starts + (length (joined f i) + p) = omega arith in
      let inside : p < length (f i) = rw (node_sorts (node_at g i)) l in
      ap (λ x. get_or (starts ++ joined f (node_count g)) x 0) place
      ∙ get_or-append-add starts (joined f (node_count g)) (length (joined f i) + p) 0
      ∙ joined_at f (node_count g) i p h inside

  pub output_sorted : (i : ℕ) (nd : Node) (k : Output) (w : ℕ) → node_at g i ≡ some nd → output_at g i k ≡ some w
      → sort_at g w ≡ output_sort nd.kind nd.code nd.sort k
  output_sorted i nd k w here e =
      let p = output_number_lem i k w e in
      let sort = sort_of_output i (output_place k) p.0 p.2 in
      ap (sort_at g) p.1 ∙ sort ∙ ap (λ o. get_or (output_sorts o) (output_place k) 0) here ∙ own nd k (rw here at p.2)
    where
      at_place : (x y : ℕ) (k : Output) (f : Output → ℕ) → f out0 ≡ x → f out1 ≡ y → get_or (x ∷ y ∷ []) (output_place k) 0 ≡ f k
      at_place x y out0 f p q = sym p
      at_place x y out1 f p q = sym q

      own : (nd : Node) (k : Output) → output_place k < outputs nd.kind
          → get_or (output_sorts (some nd)) (output_place k) 0 ≡ output_sort nd.kind nd.code nd.sort k
      own nd k h = get_or-take (outputs nd.kind) _ (output_place k) 0 h ∙ at_place _ _ k (output_sort nd.kind nd.code nd.sort) refl refl
