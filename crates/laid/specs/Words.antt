-- The words of a lowered table, read back as a graph's words are read: counts, starts, results, nodes.
--
--   node_at           node i is the i-th lowered node
--   start_kind_at_lem, start_word_at_lem  start k is the k-th INPUT or CONST row's
--   result_at_lem     result k stands where the k-th OUT row's use stands
--   words_long        the length is 4 + 2S + R + 7n
--
-- Assumes nothing.
use Rattle.std.specs.Prelude.{ℕ, suc, ◌+◌, ◌*◌, ◌<◌, ◌≡◌, Bool, true, false, cond, List, [], ◌∷◌, ◌++◌, eqb}
use Rattle.std.proofs.Math.Path.{refl, ap, ap₂}
use Rattle.std.proofs.Common.{sym, ◌∙◌, lt-ltb}
use Rattle.std.proofs.Math.Option.{some}
use native.Mathlib.Omega.{arith}
use Rattle.std.proofs.Math.ListN.{length, get_or, get_elem?, length-append, get_or-append}
use Rattle.std.proofs.Math.Seq.{get_or-append-add}
use Rattle.step.specs.Kinds.{Kind, STREAM, GATE, CARRY, INVARIANT, SPLIT, FORK, DRAIN, OP, PICK, outputs}
use Rattle.step.specs.Kinds
use Rattle.graph.specs.Graph.{node_count, wire_count, start_count, result_count, start_kind_at, start_word_at, result_at, row_place, Node, row_at, node_at}
use Rattle.table.specs.Rows.{kind_at}
use Rattle.lowered.specs.Gathered.{each}
use Rattle.lowered.specs.Roles.{Role, Wire, Use, result}
use Rattle.lowered.specs.Lower.{roles, role_kind, wires, wire_sort, users, start_rows, out_rows, fork_rows, fork_nodes, all_fork_nodes, users_each, plain_nodes, plain_wires, all_users, stands_on, nodes_from, forks_from, starts, lowered_nodes, start_words, kind_number, node_words, node_total, wire_total, start_total, result_total, lowered_words}
use Rattle.laid.specs.Lists.{in_range, has_elem}
use Rattle.laid.specs.Indexed.{each_long, each_at}

-- ---- how many nodes
fork_rows_long : (s x : ℕ) (us : List Use) (f : ℕ) → length (fork_rows s x us f) ≡ fork_nodes us
fork_rows_long s x [] f = refl
fork_rows_long s x (u ∷ []) f = refl
fork_rows_long s x (u ∷ v ∷ us) f = ap suc (fork_rows_long s (suc f) (v ∷ us) (suc (suc f)))

module _ (t : List ℕ) where
  nodes_long : (f : ℕ) (ns : List Role) → length (nodes_from t f ns) ≡ length ns
  nodes_long f [] = refl
  nodes_long f (n ∷ ns) = ap suc (nodes_long (f + outputs (role_kind t n)) ns)

  forks_long : (x : ℕ) (ws : List Wire) (f : ℕ) → length (forks_from t x ws f) ≡ all_fork_nodes (users_each t ws)
  forks_long x [] f = refl
  forks_long x (w ∷ ws) f =
      length-append (fork_rows (wire_sort t w) x (users t w) f) _
      ∙ ap₂ (λ (a b : ℕ). a + b) (fork_rows_long (wire_sort t w) x (users t w) f) (forks_long (suc x) ws _)

  pub nodes_are_counted : length (lowered_nodes t) ≡ node_total t
  unfolding lowered_nodes node_total plain_nodes all_users
  nodes_are_counted =
      length-append (nodes_from t (length (starts t)) (roles t)) (forks_from t 0 (wires t) (plain_wires t))
      ∙ ap₂ (λ (a b : ℕ). a + b) (nodes_long (length (starts t)) (roles t)) (forks_long 0 (wires t) (plain_wires t))

  -- ---- the parts of the words
  abbrev start_part : List ℕ
  start_part = each (start_words t) (start_rows t)

  abbrev result_part : List ℕ
  result_part = each (λ q. stands_on t (result q) ∷ []) (out_rows t)

  abbrev node_part : List ℕ
  node_part = each node_words (lowered_nodes t)

  start_words_long : (r : ℕ) → length (start_words t r) ≡ 2
  start_words_long r = go (eqb (kind_at t r) 0) _ _
    where
      go : (b : Bool) (x y : ℕ) → length {A = ℕ} (cond b (0 ∷ x ∷ []) (1 ∷ y ∷ [])) ≡ 2
      go true x y = refl
      go false x y = refl

  starts_long : length start_part ≡ 2 * start_total t
  unfolding start_total
  starts_long = each_long (start_words t) 2 start_words_long (start_rows t)

  results_long : length result_part ≡ result_total t
  unfolding result_total
  results_long = each_long (λ q. stands_on t (result q) ∷ []) 1 (λ q. refl) (out_rows t) ∙ (let e : 1 * length (out_rows t) ≡ length (out_rows t) = omega arith in e)

  node_part_long : length node_part ≡ 7 * node_total t
  node_part_long = each_long node_words 7 (λ nd. refl) (lowered_nodes t) ∙ ap (λ (n : ℕ). 7 * n) nodes_are_counted

  body_at : (m : ℕ) → get_or (lowered_words t) (4 + m) 0 ≡ get_or (start_part ++ (result_part ++ node_part)) m 0
  unfolding lowered_words
  body_at m = get_or-append-add (node_total t ∷ wire_total t ∷ start_total t ∷ result_total t ∷ []) (start_part ++ (result_part ++ node_part)) m 0

  -- ---- counts
  pub node_count_lem : node_count (lowered_words t) ≡ node_total t
  unfolding lowered_words
  node_count_lem = refl

  pub wire_count_lem : wire_count (lowered_words t) ≡ wire_total t
  unfolding lowered_words
  wire_count_lem = refl

  pub start_count_lem : start_count (lowered_words t) ≡ start_total t
  unfolding lowered_words
  start_count_lem = refl

  pub result_count_lem : result_count (lowered_words t) ≡ result_total t
  unfolding lowered_words
  result_count_lem = refl

  pub words_long : length (lowered_words t) ≡ 4 + 2 * start_total t + result_total t + 7 * node_total t
  unfolding lowered_words
  words_long =
      let a = length-append start_part (result_part ++ node_part) in
      let b = length-append result_part node_part in
      let s = starts_long in
      let r = results_long in
      let n = node_part_long in
      omega arith

  -- ---- starts and results
  start_word_lem : (k j r : ℕ) → get_elem? (start_rows t) k ≡ some r → j < 2 → get_or (lowered_words t) (4 + (2 * k + j)) 0 ≡ get_or (start_words t r) j 0
  unfolding start_total
  start_word_lem k j r h l =
      let b = in_range (start_rows t) k r h in
      let s = starts_long in
      body_at (2 * k + j)
      ∙ get_or-append start_part (result_part ++ node_part) 0 (2 * k + j) (let e : 2 * k + j < length start_part = omega arith in e)
      ∙ each_at (start_words t) 2 start_words_long (start_rows t) k j r h l

  pub start_kind_at_lem : (k r : ℕ) → get_elem? (start_rows t) k ≡ some r → start_kind_at (lowered_words t) k ≡ get_or (start_words t r) 0 0
  start_kind_at_lem k r h = ap (λ (n : ℕ). get_or (lowered_words t) n 0) (let e : 4 + 2 * k ≡ 4 + (2 * k + 0) = omega arith in e) ∙ start_word_lem k 0 r h (omega arith)

  pub start_word_at_lem : (k r : ℕ) → get_elem? (start_rows t) k ≡ some r → start_word_at (lowered_words t) k ≡ get_or (start_words t r) 1 0
  start_word_at_lem k r h = ap (λ (n : ℕ). get_or (lowered_words t) n 0) (let e : 5 + 2 * k ≡ 4 + (2 * k + 1) = omega arith in e) ∙ start_word_lem k 1 r h (omega arith)

  pub result_at_lem : (k q : ℕ) → get_elem? (out_rows t) k ≡ some q → result_at (lowered_words t) k ≡ stands_on t (result q)
  unfolding result_total
  result_at_lem k q h =
      let b = in_range (out_rows t) k q h in
      let s = starts_long in
      let r = results_long in
      let c = start_count_lem in
      ap (λ (n : ℕ). get_or (lowered_words t) n 0) (let e : 4 + 2 * start_count (lowered_words t) + k ≡ 4 + (length start_part + k) = omega arith in e)
      ∙ body_at (length start_part + k)
      ∙ get_or-append-add start_part (result_part ++ node_part) k 0
      ∙ get_or-append result_part node_part 0 k (omega arith)
      ∙ ap (λ (n : ℕ). get_or result_part n 0) (let e : k ≡ 1 * k + 0 = omega arith in e)
      ∙ each_at (λ q. stands_on t (result q) ∷ []) 1 (λ q. refl) (out_rows t) k 0 q h (omega arith)

  -- ---- nodes
  node_word : (i j : ℕ) (nd : Node) → get_elem? (lowered_nodes t) i ≡ some nd → j < 7 → get_or (lowered_words t) (row_place (lowered_words t) i + j) 0 ≡ get_or (node_words nd) j 0
  node_word i j nd h l =
      let s = starts_long in
      let r = results_long in
      let c = start_count_lem in
      let d = result_count_lem in
      ap (λ (n : ℕ). get_or (lowered_words t) n 0)
      (let e : 4 + 2 * start_count (lowered_words t) + result_count (lowered_words t) + 7 * i + j ≡ 4 + (length start_part + (length result_part + (7 * i + j))) = omega arith in e)
      ∙ body_at (length start_part + (length result_part + (7 * i + j)))
      ∙ get_or-append-add start_part (result_part ++ node_part) (length result_part + (7 * i + j)) 0
      ∙ get_or-append-add result_part node_part (7 * i + j) 0
      ∙ each_at node_words 7 (λ nd. refl) (lowered_nodes t) i j nd h l

  kind_of_number : (κ : Kind) → Kinds.kind_of (kind_number κ) ≡ some κ
  unfolding Kinds.kind_of
  kind_of_number STREAM = refl
  kind_of_number GATE = refl
  kind_of_number CARRY = refl
  kind_of_number INVARIANT = refl
  kind_of_number SPLIT = refl
  kind_of_number FORK = refl
  kind_of_number DRAIN = refl
  kind_of_number OP = refl
  kind_of_number PICK = refl

  row_of : (g : List ℕ) (p : ℕ) (nd : Node) → get_or g (p + 0) 0 ≡ kind_number nd.kind → get_or g (p + 1) 0 ≡ nd.code → get_or g (p + 2) 0 ≡ nd.sort
      → get_or g (p + 3) 0 ≡ nd.wire0 → get_or g (p + 4) 0 ≡ nd.wire1 → get_or g (p + 5) 0 ≡ nd.wire2 → get_or g (p + 6) 0 ≡ nd.first → row_at g p ≡ some nd
  unfolding row_at
  row_of g p nd a b c d e f h =
      let z : p + 0 ≡ p = omega arith in
      let a' : get_or g p 0 ≡ kind_number nd.kind = ap (λ (n : ℕ). get_or g n 0) (sym z) ∙ a in
      rw (a', b, c, d, e, f, h, kind_of_number nd.kind)

  pub node_at_lem : (i : ℕ) (nd : Node) → get_elem? (lowered_nodes t) i ≡ some nd → node_at (lowered_words t) i ≡ some nd
  unfolding node_at
  node_at_lem i nd h =
      let b = in_range (lowered_nodes t) i nd h in
      let n = nodes_are_counted in
      let c = node_count_lem in
      let less : i < node_count (lowered_words t) = omega arith in
      rw (lt-ltb i (node_count (lowered_words t)) less)
      (row_of (lowered_words t) (row_place (lowered_words t) i) nd (node_word i 0 nd h (omega arith)) (node_word i 1 nd h (omega arith)) (node_word i 2 nd h (omega arith))
      (node_word i 3 nd h (omega arith)) (node_word i 4 nd h (omega arith)) (node_word i 5 nd h (omega arith)) (node_word i 6 nd h (omega arith)))

  -- so node i is read from the list of nodes
  pub node_in_list : (i : ℕ) → i < node_total t → node_at (lowered_words t) i ≡ get_elem? (lowered_nodes t) i
  node_in_list i l =
      let n = nodes_are_counted in
      let h = has_elem (lowered_nodes t) i (omega arith) in
      node_at_lem i h.0 h.1 ∙ sym h.1
