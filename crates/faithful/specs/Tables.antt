-- A table of words as an abstract table: each row as the table of kinds prints it, each body with its first and last row.
--
--   table_of                   the table that the words say
--   row_at_lem, row_past      a row of it is the words' row; past the last row there is none
--   kind_of_row               a row's form tells its kind, and that it is in the table
--
-- Assumes nothing.
use Rattle.std.specs.Prelude.{◌≡◌, ◌≢◌, cond, ◌&&◌, List, ℕ, zero, suc, ◌≤◌, ◌<◌, eqb, leb, ltb}
use Rattle.std.proofs.Math.Path.{refl, sym, ap}
use Rattle.std.proofs.Common.{◌∙◌, arith, lt-ltb, le-ltb, eq-eqb, ne_eqb, le-leb}
use Rattle.std.proofs.Math.Decide.{dec_lt}
use Rattle.std.proofs.lemmas.Bool.{lt-leb}
use Rattle.std.proofs.Math.ListN.{get_or-eq_default}
use Rattle.table.specs.Rows.{kind_at, word, size, first_operand}
use Rattle.table.specs.Scan.{body_of, reads, home}
use Rattle.table.specs.Bodies.{Row, input, const, op, pick, for, arg, next, end, out, unknown, row_by, row_at, operand, end_of, first_of, arg_of, next_of}
use Rattle.structure.specs.Structure.{Structure}
use Rattle.lowered.specs.Sources.{is_for, carried}
use Rattle.faithful.specs.Table.{Table, IsFor, is_arg}

-- no END and no OUT has a value; they are put in the outermost body
abbrev pub home_in : List ℕ → ℕ → ℕ
home_in t v = cond (ltb v (size t)) (cond (leb (kind_at t v) 6) (home t v) (size t)) (size t)

abbrev pub table_of : List ℕ → Table
table_of t =
    record {
      size = size t;
      row = λ r. cond (ltb r (size t)) (row_at t r) unknown;
      reads = reads t;
      home = home_in t;
      first = λ B. cond (eqb B (size t)) 0 (first_of t B);
      last = λ B. cond (eqb B (size t)) (suc (size t)) (end_of t B);
      loop = body_of t;
      next_of = next_of t;
      arg_of = arg_of t;
      carried = λ L v. is_for t L && carried t L v;
    }

abbrev pub row_kind : Row → ℕ
row_kind input = 0
row_kind (const w) = 1
row_kind (op c x y) = 2
row_kind (pick f x y) = 3
row_kind (for s st b u c) = 4
row_kind (arg i) = 5
row_kind (next v) = 6
row_kind end = 7
row_kind (out x) = 8
row_kind unknown = 9

kind_by : (k a b c d e : ℕ) → k ≤ 8 → row_kind (row_by k a b c d e) ≡ k
unfolding row_by
kind_by zero a b c d e l = refl
kind_by (suc zero) a b c d e l = refl
kind_by (suc (suc zero)) a b c d e l = refl
kind_by (suc (suc (suc zero))) a b c d e l = refl
kind_by (suc (suc (suc (suc zero)))) a b c d e l = refl
kind_by (suc (suc (suc (suc (suc zero))))) a b c d e l = refl
kind_by (suc (suc (suc (suc (suc (suc zero)))))) a b c d e l = refl
kind_by (suc (suc (suc (suc (suc (suc (suc zero))))))) a b c d e l = refl
kind_by (suc (suc (suc (suc (suc (suc (suc (suc zero)))))))) a b c d e l = refl
kind_by (suc (suc (suc (suc (suc (suc (suc (suc (suc k))))))))) a b c d e l = absurd (omega arith)

module _ (t : List ℕ) where
  pub row_at_lem : (r : ℕ) → r < size t → (table_of t).row r ≡ row_at t r
  row_at_lem r l = rw (lt-ltb r (size t) l)

  pub row_past : (r : ℕ) → size t ≤ r → (table_of t).row r ≡ unknown
  row_past r l = rw (le-ltb r (size t) l)

  -- rows of the words by their kind
  pub is_input_lem : (r : ℕ) → kind_at t r ≡ 0 → row_at t r ≡ input
  unfolding row_at row_by
  is_input_lem r k = rw k

  pub is_const : (r : ℕ) → kind_at t r ≡ 1 → row_at t r ≡ const (word t r 1)
  unfolding row_at row_by
  is_const r k = rw k

  pub is_op_lem : (r : ℕ) → kind_at t r ≡ 2 → row_at t r ≡ op (word t r 1) (word t r 2) (word t r 3)
  unfolding row_at row_by
  is_op_lem r k = rw k

  pub is_pick : (r : ℕ) → kind_at t r ≡ 3 → row_at t r ≡ pick (word t r 1) (word t r 2) (word t r 3)
  unfolding row_at row_by
  is_pick r k = rw k

  pub is_for_lem : (r : ℕ) → kind_at t r ≡ 4 → row_at t r ≡ for (word t r 1) (word t r 2) (word t r 3) (word t r 4) (word t r 5)
  unfolding row_at row_by
  is_for_lem r k = rw k

  pub is_arg_lem : (r : ℕ) → kind_at t r ≡ 5 → row_at t r ≡ arg (word t r 1)
  unfolding row_at row_by
  is_arg_lem r k = rw k

  pub is_next_lem : (r : ℕ) → kind_at t r ≡ 6 → row_at t r ≡ next (word t r 1)
  unfolding row_at row_by
  is_next_lem r k = rw k

  pub is_end : (r : ℕ) → kind_at t r ≡ 7 → row_at t r ≡ end
  unfolding row_at row_by
  is_end r k = rw k

  pub is_out_lem : (r : ℕ) → kind_at t r ≡ 8 → row_at t r ≡ out (word t r 1)
  unfolding row_at row_by
  is_out_lem r k = rw k

  module _ (S : Structure t) where
    -- words past the end read as 0, which is INPUT; so a row of another kind is in the table
    pub kind_past : (r : ℕ) → size t ≤ r → kind_at t r ≡ 0
    kind_past r l = get_or-eq_default t 0 (let w = S.words in omega arith)

    pub below_by_kind : (r k : ℕ) → kind_at t r ≡ suc k → r < size t
    below_by_kind r k h = elim (dec_lt r (size t)) [ yes l ↦ l | no n ↦ absurd (let z = kind_past r (omega arith) in omega arith) ]

    -- the form of a row tells its kind
    pub kind_of_row : (r : ℕ) (d : Row) (k : ℕ) → (table_of t).row r ≡ d → row_kind d ≡ k → k ≤ 8 → (r < size t) × (kind_at t r ≡ k) × (row_at t r ≡ d)
    unfolding row_at
    kind_of_row r d k h e l =
        elim (dec_lt r (size t)) [
          | yes m ↦
              let q : row_at t r ≡ d = sym (row_at_lem r m) ∙ h in
              (m, sym (kind_by (kind_at t r) (word t r 1) (word t r 2) (word t r 3) (word t r 4) (word t r 5) (S.kinds r m)) ∙ ap row_kind q ∙ e, q)
          | no m ↦ let q = row_past r (omega arith) in let z : row_kind unknown ≡ k = ap row_kind (sym q ∙ h) ∙ e in absurd (omega arith)
        ]

    pub row_kind_lem : (r : ℕ) → r < size t → row_kind ((table_of t).row r) ≡ kind_at t r
    unfolding row_at
    row_kind_lem r l = ap row_kind (row_at_lem r l) ∙ kind_by (kind_at t r) (word t r 1) (word t r 2) (word t r 3) (word t r 4) (word t r 5) (S.kinds r l)

    -- an ARG by its kind, by its form
    pub kind_arg : (v : ℕ) → eqb (kind_at t v) 5 ≡ is_arg ((table_of t).row v)
    kind_arg v = elim (dec_lt v (size t)) [ yes l ↦ go ((table_of t).row v) (row_kind_lem v l) | no n ↦ rw (kind_past v (omega arith), row_past v (omega arith)) ]
      where
        go : (d : Row) → row_kind d ≡ kind_at t v → eqb (kind_at t v) 5 ≡ is_arg d
        go input e = rw (sym e)
        go (const w) e = rw (sym e)
        go (op c x y) e = rw (sym e)
        go (pick f x y) e = rw (sym e)
        go (for s st b u c) e = rw (sym e)
        go (arg i) e = rw (sym e)
        go (next x) e = rw (sym e)
        go end e = rw (sym e)
        go (out x) e = rw (sym e)
        go unknown e = rw (sym e)

    -- the operands of each form of row
    pub op_words : (r c x y : ℕ) → (table_of t).row r ≡ op c x y → (r < size t) × (kind_at t r ≡ 2) × (word t r 1 ≡ c) × (operand t r 0 ≡ x) × (operand t r 1 ≡ y)
    unfolding first_operand
    op_words r c x y h =
        let k = kind_of_row r (op c x y) 2 h refl (omega arith) in
        let e : op (word t r 1) (word t r 2) (word t r 3) ≡ op c x y = sym (is_op_lem r k.1) ∙ k.2 in
        (k.0, k.1, cc, rw k.1 (let d : word t r 2 ≡ x = cc in d), rw k.1 (let d : word t r 3 ≡ y = cc in d))

    pub pick_words : (r f x y : ℕ) → (table_of t).row r ≡ pick f x y → (r < size t) × (kind_at t r ≡ 3) × (operand t r 0 ≡ f) × (operand t r 1 ≡ x) × (operand t r 2 ≡ y)
    unfolding first_operand
    pick_words r f x y h =
        let k = kind_of_row r (pick f x y) 3 h refl (omega arith) in
        let e : pick (word t r 1) (word t r 2) (word t r 3) ≡ pick f x y = sym (is_pick r k.1) ∙ k.2 in
        (k.0, k.1, rw k.1 (let d : word t r 1 ≡ f = cc in d), rw k.1 (let d : word t r 2 ≡ x = cc in d), rw k.1 (let d : word t r 3 ≡ y = cc in d))

    pub for_words : (r s st b u c : ℕ) → (table_of t).row r ≡ for s st b u c
        → (r < size t) × (kind_at t r ≡ 4) × (operand t r 0 ≡ s) × (operand t r 1 ≡ st) × (operand t r 2 ≡ b) × (word t r 4 ≡ u) × (word t r 5 ≡ c)
    unfolding first_operand
    for_words r s st b u c h =
        let k = kind_of_row r (for s st b u c) 4 h refl (omega arith) in
        let e : for (word t r 1) (word t r 2) (word t r 3) (word t r 4) (word t r 5) ≡ for s st b u c = sym (is_for_lem r k.1) ∙ k.2 in
        (k.0, k.1, rw k.1 (let d : word t r 1 ≡ s = cc in d), rw k.1 (let d : word t r 2 ≡ st = cc in d), rw k.1 (let d : word t r 3 ≡ b = cc in d), cc, cc)

    pub arg_words : (r i : ℕ) → (table_of t).row r ≡ arg i → (r < size t) × (kind_at t r ≡ 5) × (operand t r 0 ≡ i) × (word t r 1 ≡ i)
    unfolding first_operand
    arg_words r i h =
        let k = kind_of_row r (arg i) 5 h refl (omega arith) in
        let e : arg (word t r 1) ≡ arg i = sym (is_arg_lem r k.1) ∙ k.2 in
        (k.0, k.1, rw k.1 (let d : word t r 1 ≡ i = cc in d), cc)

    pub next_words : (r v : ℕ) → (table_of t).row r ≡ next v → (r < size t) × (kind_at t r ≡ 6) × (operand t r 0 ≡ v) × (word t r 1 ≡ v)
    unfolding first_operand
    next_words r v h =
        let k = kind_of_row r (next v) 6 h refl (omega arith) in
        let e : next (word t r 1) ≡ next v = sym (is_next_lem r k.1) ∙ k.2 in
        (k.0, k.1, rw k.1 (let d : word t r 1 ≡ v = cc in d), cc)

    pub out_words_lem : (r x : ℕ) → (table_of t).row r ≡ out x → (r < size t) × (kind_at t r ≡ 8) × (operand t r 0 ≡ x) × (word t r 1 ≡ x)
    unfolding first_operand
    out_words_lem r x h =
        let k = kind_of_row r (out x) 8 h refl (omega arith) in
        let e : out (word t r 1) ≡ out x = sym (is_out_lem r k.1) ∙ k.2 in
        (k.0, k.1, rw k.1 (let d : word t r 1 ≡ x = cc in d), cc)

    pub for_row : (L : ℕ) → kind_at t L ≡ 4 → IsFor (table_of t) L
    for_row L k =
        let l = below_by_kind L 3 k in
        (word t L 1, word t L 2, word t L 3, word t L 4, word t L 5, row_at_lem L l ∙ is_for_lem L k)

    pub for_kind : (L : ℕ) → IsFor (table_of t) L → (L < size t) × (kind_at t L ≡ 4)
    for_kind L f = let k = kind_of_row L (for f.0 f.1 f.2 f.3 f.4) 4 f.5 refl (omega arith) in (k.0, k.1)

  -- bodies: the outermost one is the row count
  pub outer_first : (table_of t).first (size t) ≡ 0
  outer_first = rw (eq-eqb (size t) (size t) refl)

  pub outer_last : (table_of t).last (size t) ≡ suc (size t)
  outer_last = rw (eq-eqb (size t) (size t) refl)

  pub first_of_lem : (L : ℕ) → L ≢ size t → (table_of t).first L ≡ first_of t L
  first_of_lem L n = rw (ne_eqb L (size t) n)

  pub last_of : (L : ℕ) → L ≢ size t → (table_of t).last L ≡ end_of t L
  last_of L n = rw (ne_eqb L (size t) n)

  pub home_of : (v : ℕ) → v < size t → kind_at t v ≤ 6 → home_in t v ≡ home t v
  home_of v l k = rw (lt-ltb v (size t) l, le-leb (kind_at t v) 6 k)

  pub home_past : (v : ℕ) → size t ≤ v → home_in t v ≡ size t
  home_past v l = rw (le-ltb v (size t) l)

  pub home_none : (v : ℕ) → 6 < kind_at t v → home_in t v ≡ size t
  home_none v l = elim (dec_lt v (size t)) [ yes m ↦ rw (lt-ltb v (size t) m, lt-leb (kind_at t v) 6 l) | no m ↦ home_past v (omega arith) ]
