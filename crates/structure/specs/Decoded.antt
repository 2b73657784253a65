-- A row as the table of kinds prints it, and its words: one view for both. Case analysis on it gives the kind, the row and its words at once.
-- Main names: `Decoded`, `decoded`; the other way, `for_words`, `op_words`, `pick_words`, `arg_word`, `next_word`, `out_word`, `end_kind`.
-- Assumes nothing.
use Rattle.std.specs.Prelude.{ℕ, zero, suc, ◌<◌, List, ◌≡◌, refl}
use Rattle.std.proofs.Common.{sym, ap, ◌∙◌, arith}
use borrow.Author.Tests.{ne_eqb}
use Rattle.table.specs.Rows.{kind_at, word}
use Rattle.table.specs.Bodies.{Row, input, const, op, pick, for, arg, next, end, out, unknown, row_by, row_at}

pub data Decoded (t : List ℕ) (r : ℕ) : Type 0 where
  is_input_lem : kind_at t r ≡ 0 → row_at t r ≡ input → Decoded t r
  is_const : kind_at t r ≡ 1 → row_at t r ≡ const (word t r 1) → Decoded t r
  is_op_lem : kind_at t r ≡ 2 → row_at t r ≡ op (word t r 1) (word t r 2) (word t r 3) → Decoded t r
  is_pick : kind_at t r ≡ 3 → row_at t r ≡ pick (word t r 1) (word t r 2) (word t r 3) → Decoded t r
  is_for_lem : kind_at t r ≡ 4 → row_at t r ≡ for (word t r 1) (word t r 2) (word t r 3) (word t r 4) (word t r 5) → Decoded t r
  is_arg_lem : kind_at t r ≡ 5 → row_at t r ≡ arg (word t r 1) → Decoded t r
  is_next_lem : kind_at t r ≡ 6 → row_at t r ≡ next (word t r 1) → Decoded t r
  is_end : kind_at t r ≡ 7 → row_at t r ≡ end → Decoded t r
  is_out_lem : kind_at t r ≡ 8 → row_at t r ≡ out (word t r 1) → Decoded t r
  is_unknown : 8 < kind_at t r → row_at t r ≡ unknown → Decoded t r

module _ (t : List ℕ) (r : ℕ) where
  input_row : kind_at t r ≡ 0 → row_at t r ≡ input
  unfolding row_at row_by
  input_row k = rw k

  const_row : kind_at t r ≡ 1 → row_at t r ≡ const (word t r 1)
  unfolding row_at row_by
  const_row k = rw k

  pub op_row_lem : kind_at t r ≡ 2 → row_at t r ≡ op (word t r 1) (word t r 2) (word t r 3)
  unfolding row_at row_by
  op_row_lem k = rw k

  pub pick_row_lem : kind_at t r ≡ 3 → row_at t r ≡ pick (word t r 1) (word t r 2) (word t r 3)
  unfolding row_at row_by
  pick_row_lem k = rw k

  pub for_row : kind_at t r ≡ 4 → row_at t r ≡ for (word t r 1) (word t r 2) (word t r 3) (word t r 4) (word t r 5)
  unfolding row_at row_by
  for_row k = rw k

  pub arg_row : kind_at t r ≡ 5 → row_at t r ≡ arg (word t r 1)
  unfolding row_at row_by
  arg_row k = rw k

  pub next_row : kind_at t r ≡ 6 → row_at t r ≡ next (word t r 1)
  unfolding row_at row_by
  next_row k = rw k

  pub end_row : kind_at t r ≡ 7 → row_at t r ≡ end
  unfolding row_at row_by
  end_row k = rw k

  pub out_row : kind_at t r ≡ 8 → row_at t r ≡ out (word t r 1)
  unfolding row_at row_by
  out_row k = rw k

  unknown_row : 8 < kind_at t r → row_at t r ≡ unknown
  unfolding row_at row_by
  unknown_row l =
      rw (ne_eqb (kind_at t r) 0 (λ e. omega arith), ne_eqb (kind_at t r) 1 (λ e. omega arith), ne_eqb (kind_at t r) 2 (λ e. omega arith), ne_eqb (kind_at t r) 3 (λ e. omega arith), ne_eqb (kind_at t r) 4 (λ e. omega arith), ne_eqb (kind_at t r) 5 (λ e. omega arith), ne_eqb (kind_at t r) 6 (λ e. omega arith), ne_eqb (kind_at t r) 7 (λ e. omega arith), ne_eqb (kind_at t r) 8 (λ e. omega arith))

  pub decoded : Decoded t r
  decoded = low (kind_at t r) refl
    where
      high : (k : ℕ) → kind_at t r ≡ suc (suc (suc (suc (suc k)))) → Decoded t r
      high zero e = is_arg_lem e (arg_row e)
      high (suc zero) e = is_next_lem e (next_row e)
      high (suc (suc zero)) e = is_end e (end_row e)
      high (suc (suc (suc zero))) e = is_out_lem e (out_row e)
      high (suc (suc (suc (suc k)))) e = is_unknown (omega arith) (unknown_row (omega arith))

      low : (k : ℕ) → kind_at t r ≡ k → Decoded t r
      low zero e = is_input_lem e (input_row e)
      low (suc zero) e = is_const e (const_row e)
      low (suc (suc zero)) e = is_op_lem e (op_row_lem e)
      low (suc (suc (suc zero))) e = is_pick e (pick_row_lem e)
      low (suc (suc (suc (suc zero)))) e = is_for_lem e (for_row e)
      low (suc (suc (suc (suc (suc k))))) e = high k e

-- ---- the other way: from the row to its kind and words
abbrev pub kind_number : Row → ℕ
kind_number input = 0
kind_number (const w) = 1
kind_number (op c x y) = 2
kind_number (pick f x y) = 3
kind_number (for s st b u c) = 4
kind_number (arg i) = 5
kind_number (next v) = 6
kind_number end = 7
kind_number (out x) = 8
kind_number unknown = 9

module _ (t : List ℕ) (r : ℕ) where
  pub kind_told : (x : Row) → row_at t r ≡ x → kind_number x < 9 → kind_at t r ≡ kind_number x
  kind_told x q l = go (decoded t r)
    where
      by : {y : Row} → row_at t r ≡ y → kind_number y ≡ kind_number x
      by e = ap kind_number (sym e ∙ q)

      go : Decoded t r → kind_at t r ≡ kind_number x
      go (is_input_lem k e) = k ∙ by e
      go (is_const k e) = k ∙ by e
      go (is_op_lem k e) = k ∙ by e
      go (is_pick k e) = k ∙ by e
      go (is_for_lem k e) = k ∙ by e
      go (is_arg_lem k e) = k ∙ by e
      go (is_next_lem k e) = k ∙ by e
      go (is_end k e) = k ∙ by e
      go (is_out_lem k e) = k ∙ by e
      go (is_unknown k e) = absurd (omega (arith, by e))

  pub op_words : (c x y : ℕ) → row_at t r ≡ op c x y → (kind_at t r ≡ 2) × (c ≡ word t r 1) × (x ≡ word t r 2) × (y ≡ word t r 3)
  op_words c x y q = let k = kind_told (op c x y) q (omega arith) in let e = op_row_lem t r k in (k, cc, cc, cc)

  pub pick_words : (f x y : ℕ) → row_at t r ≡ pick f x y → (kind_at t r ≡ 3) × (f ≡ word t r 1) × (x ≡ word t r 2) × (y ≡ word t r 3)
  pick_words f x y q = let k = kind_told (pick f x y) q (omega arith) in let e = pick_row_lem t r k in (k, cc, cc, cc)

  pub for_words : (s st b u c : ℕ) → row_at t r ≡ for s st b u c
      → (kind_at t r ≡ 4) × (s ≡ word t r 1) × (st ≡ word t r 2) × (b ≡ word t r 3) × (u ≡ word t r 4) × (c ≡ word t r 5)
  for_words s st b u c q = let k = kind_told (for s st b u c) q (omega arith) in let e = for_row t r k in (k, cc, cc, cc, cc, cc)

  pub arg_word : (i : ℕ) → row_at t r ≡ arg i → (kind_at t r ≡ 5) × (i ≡ word t r 1)
  arg_word i q = let k = kind_told (arg i) q (omega arith) in let e = arg_row t r k in (k, cc)

  pub next_word : (v : ℕ) → row_at t r ≡ next v → (kind_at t r ≡ 6) × (v ≡ word t r 1)
  next_word v q = let k = kind_told (next v) q (omega arith) in let e = next_row t r k in (k, cc)

  pub out_word : (x : ℕ) → row_at t r ≡ out x → (kind_at t r ≡ 8) × (x ≡ word t r 1)
  out_word x q = let k = kind_told (out x) q (omega arith) in let e = out_row t r k in (k, cc)

  pub end_kind : row_at t r ≡ end → kind_at t r ≡ 7
  end_kind q = kind_told end q (omega arith)
