-- The freshly loaded state of a lowered table: the words of INPUTs and CONSTs on their wires, 0 everywhere else; and that is the reading's beginning.
--
--   start_of                  the number of a start's wire is its place among the INPUT and CONST rows
--   start_word_is             the word loaded there is the reading's first word of that row
--   loaded_is                 so the loaded state is the reading's beginning
--
-- Assumes nothing.
use Rattle.std.specs.Prelude.{◌≡◌, Bool, ltb}
use Rattle.std.proofs.Math.Path.{refl, sym, ap, ap₂}
use Rattle.std.proofs.Common.{◌∙◌}
use Rattle.std.proofs.Math.Bool.{true, false, cond}
use Rattle.std.proofs.Math.Option.{Option, none, some}
use mathlib.Core.List.{List, [], ◌∷◌}
use Prim.Native.Nat.{ℕ, zero, suc, ◌+◌, ◌*◌, ◌/◌, ◌%◌, ◌≤◌, ◌<◌}
use native.Mathlib.Omega.{arith}
use Rattle.std.proofs.Math.Decide.{ℕ_discrete, dec_lt}
use borrow.Author.Tests.{eq-eqb, ne_eqb, lt-ltb, le-ltb, leb-true}
use Rattle.std.proofs.Math.Dec.{eqb}
use Rattle.std.proofs.Math.ListN.{length, get_or, get_elem?, length-append}
use Rattle.word.specs.Words
use Rattle.graph.specs.Graph.{node_count, wire_count, start_count}
use Rattle.graph.specs.Refusal.{graph_refusal}
use Rattle.state.specs.Net.{net_of}
use Rattle.state.specs.Legal.{state_length}
use Rattle.state.specs.Load.{start_word, loaded}
use Rattle.state.specs.Loaded.{loaded_at, loaded_length, loaded_at_lem}
use Rattle.table.specs.Rows.{kind_at, word, size, INPUT, CONST}
use Rattle.table.specs.Counted.{rows_of}
use Rattle.structure.specs.Structure.{Structure}
use Rattle.reading.specs.Reading.{first_words}
use Rattle.lowered.specs.Gathered.{those, each, position}
use Rattle.lowered.specs.Roles.{start}
use Rattle.lowered.specs.Lower.{is_start, start_rows, starts, wires, wire_number, roles, role_outputs, start_words, plain_wires, wire_total, start_total, lowered_words}
use Rattle.laid.specs.Lists.{has_elem, there, in_range, elem_left, at_position, those_from, those_has, none_some}
use Rattle.laid.specs.Those.{rows_counted}
use Rattle.laid.specs.Words.{wire_count_lem, start_count_lem, start_kind_at_lem, start_word_at_lem}
use Rattle.uses.specs.Layout.{Made}
use Rattle.uses.specs.Flat.{Holds, flag, word as word_of}
use Rattle.faithful.specs.Table.{Table, plan}
use Rattle.faithful.proofs.Sources.{to_made, from_made}
use Rattle.faithful.proofs.Places.{layout, laid, number_is}
use Rattle.faithful.specs.Finish.{Loaded}
use Rattle.faithful.specs.Tables

-- ---- starts in order

starts_at : (xs : List ℕ) (k v : ℕ) → get_elem? xs k ≡ some v → get_elem? (each (λ r. start r ∷ []) xs) k ≡ some (start v)
unfolding each
starts_at [] k v h = none_some v h
starts_at (x ∷ xs) zero v h = let e : x ≡ v = cc in ap (λ (z : ℕ). some (start z)) e
starts_at (x ∷ xs) (suc k) v h = starts_at xs k v h

-- the word at a place of a loaded state, by whether the place is even
pair_even : (x a b : ℕ) → (p : ℕ) → p ≡ 2 * x → Words.pick (eqb (p % 2) 0) a b ≡ a
pair_even x a b p e = ap (λ (c : Bool). Words.pick c a b) (eq-eqb (p % 2) 0 (omega arith))

pair_odd : (x a b : ℕ) → (p : ℕ) → p ≡ 2 * x + 1 → Words.pick (eqb (p % 2) 0) a b ≡ b
pair_odd x a b p e = ap (λ (c : Bool). Words.pick c a b) (ne_eqb (p % 2) 0 (λ z. omega arith))

module _ (t : List ℕ) (S : Structure t) (inputs : List ℕ) where
  abbrev tb : Table
  tb = Tables.table_of t

  abbrev g : List ℕ
  g = lowered_words t

  start_at : (k v : ℕ) → get_elem? (start_rows t) k ≡ some v → wire_number t (start v) ≡ k
  unfolding wires starts
  start_at k v h = number_is t S (start v) k (elem_left (each (λ r. start r ∷ []) (start_rows t)) (each (role_outputs t) (roles t)) k (start v) (starts_at (start_rows t) k v h))

  -- a start's place among the INPUT and CONST rows
  pub start_of : (v : ℕ) → Made (plan tb) (start v) → (get_elem? (start_rows t) (wire_number t (start v)) ≡ some v) × (wire_number t (start v) < start_total t)
  unfolding start_rows start_total
  start_of v m =
      let l = to_made t S (start v) m in
      let a = those_has (is_start t) (size t) v l.0 l.1 in
      let p = at_position ℕ_discrete v (those (is_start t) (size t)) a in
      let e = start_at (position ℕ_discrete v (those (is_start t) (size t))) v p in
      (ap (get_elem? (those (is_start t) (size t))) e ∙ p, (let b = in_range (those (is_start t) (size t)) (position ℕ_discrete v (those (is_start t) (size t))) v p in omega arith))

  -- the loaded word is the reading's first word
  start_word_is : (k v : ℕ) → get_elem? (start_rows t) k ≡ some v → kind_at t v ≤ 1 → start_word g inputs k ≡ first_words t inputs v
  unfolding start_word first_words
  start_word_is k v h l =
      ap₂ (λ (a b : ℕ). Words.pick (eqb a 0) (get_or inputs b 0) b) (start_kind_at_lem t k v h) (start_word_at_lem t k v h) ∙ go (ℕ_discrete (kind_at t v) 0)
    where
      go : Dec (kind_at t v ≡ 0) → Words.pick (eqb (get_or (start_words t v) 0 0) 0) (get_or inputs (get_or (start_words t v) 1 0) 0) (get_or (start_words t v) 1 0)
          ≡ cond (eqb (kind_at t v) INPUT) (get_or inputs (rows_of INPUT t v) 0) (cond (eqb (kind_at t v) CONST) (word t v 1) 0)
      go (yes e) =
          let b : eqb (kind_at t v) 0 ≡ true = eq-eqb (kind_at t v) 0 e in
          ap (λ (c : Bool). Words.pick (eqb (get_or (cond c (0 ∷ length (those (λ q. eqb (kind_at t q) INPUT) v) ∷ []) (1 ∷ word t v 1 ∷ [])) 0 0) 0)
          (get_or inputs (get_or (cond c (0 ∷ length (those (λ q. eqb (kind_at t q) INPUT) v) ∷ []) (1 ∷ word t v 1 ∷ [])) 1 0) 0)
          (get_or (cond c (0 ∷ length (those (λ q. eqb (kind_at t q) INPUT) v) ∷ []) (1 ∷ word t v 1 ∷ [])) 1 0)) b
          ∙ ap (λ (z : ℕ). get_or inputs z 0) (rows_counted INPUT t v)
          ∙ sym (ap (λ (c : Bool). cond c (get_or inputs (rows_of INPUT t v) 0) (cond (eqb (kind_at t v) CONST) (word t v 1) 0)) b)
      go (no n) =
          let b : eqb (kind_at t v) 0 ≡ false = ne_eqb (kind_at t v) 0 n in
          let d : eqb (kind_at t v) 1 ≡ true = eq-eqb (kind_at t v) 1 (omega arith) in
          ap (λ (c : Bool). Words.pick (eqb (get_or (cond c (0 ∷ length (those (λ q. eqb (kind_at t q) INPUT) v) ∷ []) (1 ∷ word t v 1 ∷ [])) 0 0) 0)
          (get_or inputs (get_or (cond c (0 ∷ length (those (λ q. eqb (kind_at t q) INPUT) v) ∷ []) (1 ∷ word t v 1 ∷ [])) 1 0) 0)
          (get_or (cond c (0 ∷ length (those (λ q. eqb (kind_at t q) INPUT) v) ∷ []) (1 ∷ word t v 1 ∷ [])) 1 0)) b
          ∙ sym (ap₂ (λ (c e : Bool). cond c (get_or inputs (rows_of INPUT t v) 0) (cond e (word t v 1) 0)) b d)

  -- the token on each wire
  cell_by : Bool → ℕ → Option ℕ
  cell_by true x = some (start_word g inputs x)
  cell_by false x = none

  abbrev cell : ℕ → Option ℕ
  cell x = cell_by (ltb x (start_count g)) x

  starts_first : start_count g ≤ wire_count g
  unfolding wire_total plain_wires wires starts start_total each
  starts_first =
      let a = wire_count_lem t in let b = start_count_lem t in
      let c = length-append (each (λ r. start r ∷ []) (start_rows t)) (each (role_outputs t) (roles t)) in
      let d = long (start_rows t) in
      omega arith
    where
      long : (xs : List ℕ) → length (each (λ r. start r ∷ []) xs) ≡ length xs
      long [] = refl
      long (x ∷ xs) = ap suc (long xs)

  place : (j : ℕ) → j < state_length g → get_or (loaded g inputs) j 0 ≡ Words.pick (ltb j (2 * start_count g)) (Words.pick (eqb (j % 2) 0) 1 (start_word g inputs (j / 2))) 0
  unfolding loaded_at
  place j l = loaded_at_lem g inputs starts_first j l

  cells : (x : ℕ) → x < wire_count g → Holds (loaded g inputs) x (cell x)
  unfolding cell_by
  cells x l =
      elim (dec_lt x (start_count g)) [
        | yes m ↦
            let c : cell x ≡ some (start_word g inputs x) = ap (λ (b : Bool). cell_by b x) (lt-ltb x (start_count g) m) in (
              place (2 * x) (omega arith) ∙ ap (λ (b : Bool). Words.pick b (Words.pick (eqb ((2 * x) % 2) 0) 1 (start_word g inputs ((2 * x) / 2))) 0) (lt-ltb (2 * x) (2 * start_count g) (omega arith))
                  ∙ pair_even x 1 (start_word g inputs ((2 * x) / 2)) (2 * x) refl ∙ ap flag (sym c),
              place (2 * x + 1) (omega arith) ∙ ap (λ (b : Bool). Words.pick b (Words.pick (eqb ((2 * x + 1) % 2) 0) 1 (start_word g inputs ((2 * x + 1) / 2))) 0) (lt-ltb (2 * x + 1) (2 * start_count g) (omega arith))
                  ∙ pair_odd x 1 (start_word g inputs ((2 * x + 1) / 2)) (2 * x + 1) refl ∙ ap (start_word g inputs) (let e : (2 * x + 1) / 2 ≡ x = omega arith in e) ∙ ap word_of (sym c),
            )
        | no m ↦
            let c : cell x ≡ none = ap (λ (b : Bool). cell_by b x) (le-ltb x (start_count g) (omega arith)) in (
              place (2 * x) (omega arith) ∙ ap (λ (b : Bool). Words.pick b (Words.pick (eqb ((2 * x) % 2) 0) 1 (start_word g inputs ((2 * x) / 2))) 0) (le-ltb (2 * x) (2 * start_count g) (omega arith)) ∙ ap flag (sym c),
              place (2 * x + 1) (omega arith) ∙ ap (λ (b : Bool). Words.pick b (Words.pick (eqb ((2 * x + 1) % 2) 0) 1 (start_word g inputs ((2 * x + 1) / 2))) 0) (le-ltb (2 * x + 1) (2 * start_count g) (omega arith)) ∙ ap word_of (sym c),
            )
      ]

  zero_at : (j : ℕ) → 2 * wire_count g ≤ j → j < state_length g → get_or (loaded g inputs) j 0 ≡ 0
  zero_at j a b =
      let s = starts_first in
      place j b ∙ ap (λ (c : Bool). Words.pick c (Words.pick (eqb (j % 2) 0) 1 (start_word g inputs (j / 2))) 0) (le-ltb j (2 * start_count g) (omega arith))

  start_kind : (v : ℕ) → Made (plan tb) (start v) → kind_at t v ≤ 1
  start_kind v m = leb-true (kind_at t v) 1 (to_made t S (start v) m).1

  row_made : (x v : ℕ) → get_elem? (start_rows t) x ≡ some v → Made (plan tb) (start v)
  unfolding start_rows
  row_made x v h = from_made t S (start v) (those_from (is_start t) (size t) v (there (those (is_start t) (size t)) x v h))

  -- THE LOADED STATE IS THE READING'S BEGINNING
  pub loaded_is : (ok : graph_refusal g ≡ 0) → Loaded tb (net_of g) (node_count g) (laid t S ok) (first_words t inputs) (loaded g inputs)
  unfolding laid layout cell_by start_total
  loaded_is ok =
      record {
        long = loaded_length g inputs starts_first;
        cell = cell;
        cells = cells;
        start_cell = λ v m.
            let s = start_of v m in
            let c = start_count_lem t in
            ap (λ (b : Bool). cell_by b (wire_number t (start v))) (lt-ltb (wire_number t (start v)) (start_count g) (let s1 : wire_number t (start v) < length (start_rows t) = s.1 in omega arith))
            ∙ ap some (start_word_is (wire_number t (start v)) v s.0 (start_kind v m));
        else_cell = λ x h.
            elim (dec_lt x (start_count g)) [
              | yes l ↦
                  let c = start_count_lem t in
                  let e = has_elem (start_rows t) x (omega arith) in
                  absurd (h e.0 (row_made x e.0 e.1) (sym (start_at x e.0 e.1)))
              | no l ↦ ap (λ (b : Bool). cell_by b x) (le-ltb x (start_count g) (omega arith))
            ];
        recs = λ j l. λ i. record {
          phase = zero_at (2 * wire_count g + 4 * j) (omega arith) (omega arith) i;
          r0 = zero_at (2 * wire_count g + 4 * j + 1) (omega arith) (omega arith) i;
          r1 = zero_at (2 * wire_count g + 4 * j + 2) (omega arith) (omega arith) i;
          r2 = zero_at (2 * wire_count g + 4 * j + 3) (omega arith) (omega arith) i;
        };
      }
