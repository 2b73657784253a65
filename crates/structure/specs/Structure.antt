-- THE STRUCTURE OF A TABLE THAT PASSES, in one record: what lowering and the proof of the plain reading rest on.
-- Main results: `Structure`, `passing_table_has_structure`, `in_table`.
-- A body is a loop's FOR row, the outermost one the row count. Of loop L: `first_of t L` is the row behind its ARGs, `end_of t L` its END.
-- Assumes nothing.
use Rattle.std.specs.Prelude.{ℕ, suc, ◌*◌, ◌<◌, ◌≤◌, true, List, [], ◌∷◌, ◌≢◌, ◌⊎◌, ◌≡◌, refl, length}
use Rattle.std.proofs.Common.{inl, inr, ◌∙◌, subst}
use Rattle.std.proofs.Math.Path.{sym, ap}
use native.Mathlib.Omega.{arith}
use Rattle.std.proofs.Math.Decide.{dec_le}
use Rattle.std.proofs.Math.ListN.{get_or-eq_default}
use Rattle.table.specs.Rows.{kind_at, word, size, operand_count}
use Rattle.table.specs.Scan.{Loop, stack_at, body_of, reads, read_stack, home, holds, outward}
use Rattle.table.specs.Check.{table_refusal, answer}
use Rattle.table.specs.Bodies.{end_of, args_of, first_of}
use Rattle.table.specs.Right.{TableRight, passing_table_is_right}
use Rattle.structure.specs.Loops.{innermost}
use Rattle.structure.specs.Spans.{member_here, nonempty, body_is, open_is_for, open_below, Span, span, end_stands, end_is_end_of, Encloses, open_encloses, loops_nest}
use Rattle.structure.specs.Serving.{header_rows, header_bodies, ArgRow, arg_of_lem, NextRow, next_of_lem, args_known}
use Rattle.structure.specs.Operands.{Operand, operand_of, ArgOperand, arg_operand_of, home_start, home_for, home_here, home_next, reads_here, reads_around}
use Rattle.structure.specs.Order.{words_of_rows, some_rows, at_most_512_rows, known_kind, starts_first, outs_last, ends_with_out, start_outside, out_outside, nothing_left_open, at_most_eight_deep, op_code, for_codes}

-- a row in a loop: behind the FOR, not behind the END
pub record InLoop (t : List ℕ) (L r : ℕ) : Type 0 where
  pub is_for_lem : kind_at t L ≡ 4
  pub low : L < r
  pub high : r ≤ end_of t L

pub record Structure (t : List ℕ) : Type 0 where
  -- the words
  pub words : length t ≡ 6 * size t
  pub any : 1 ≤ size t
  pub few : size t ≤ 512
  pub kinds : (r : ℕ) → r < size t → kind_at t r ≤ 8
  pub op_codes : (r : ℕ) → r < size t → kind_at t r ≡ 2 → word t r 1 ≤ 7
  pub loop_codes : (L : ℕ) → L < size t → kind_at t L ≡ 4 → (word t L 4 ≤ 5) × (word t L 5 ≤ 4)
  -- INPUT and CONST first, OUT last, both outside every loop
  pub starts : (r s : ℕ) → r < s → s < size t → kind_at t s ≤ 1 → kind_at t r ≤ 1
  pub outs : (r s : ℕ) → r < s → s < size t → kind_at t r ≡ 8 → kind_at t s ≡ 8
  pub last_out : (r : ℕ) → suc r ≡ size t → kind_at t r ≡ 8
  pub start_body : (r : ℕ) → r < size t → kind_at t r ≤ 1 → body_of t r ≡ size t
  pub out_body : (r : ℕ) → r < size t → kind_at t r ≡ 8 → body_of t r ≡ size t
  -- at most eight loops are open, and none at the end
  pub deep : (r : ℕ) → r ≤ size t → length (stack_at t r) ≤ 8
  pub all_shut : stack_at t (size t) ≡ []
  -- each loop has its END, and is open from the row behind its FOR up to it
  pub loop_span : (L : ℕ) → L < size t → kind_at t L ≡ 4 → Span t L
  pub loop_first : (L : ℕ) → L < size t → kind_at t L ≡ 4 → (L < first_of t L) × (first_of t L ≤ end_of t L)
  -- a row of another kind than ARG stands behind the ARGs of every loop that starts above it
  pub past_args : (L r : ℕ) → kind_at t r ≢ 5 → L < r → first_of t L ≤ r
  pub loop_args : (L a : ℕ) → L < size t → kind_at t L ≡ 4 → L < a → a < first_of t L → (kind_at t a ≡ 5) × (body_of t a ≡ L)
  pub end_of_lem : (r : ℕ) → r < size t → kind_at t r ≡ 7 → (kind_at t (body_of t r) ≡ 4) × (body_of t r < r) × (end_of t (body_of t r) ≡ r)
  -- loops nest
  pub nest : (L M : ℕ) → M < size t → kind_at t L ≡ 4 → kind_at t M ≡ 4 → L < M → M ≤ end_of t L → (first_of t L ≤ M) × (end_of t M < end_of t L)
  -- the body of a row is the innermost loop around it
  pub body_loop : (r : ℕ) → r ≤ size t → body_of t r ≢ size t → InLoop t (body_of t r) r
  pub body_inmost : (r L : ℕ) → r ≤ size t → L < size t → InLoop t L r → Encloses t L (body_of t r)
  pub body_first : (r : ℕ) → r < size t → kind_at t r ≢ 5 → body_of t r ≢ size t → first_of t (body_of t r) ≤ r
  -- ARGs and NEXTs pair off
  pub arg_row : (a : ℕ) → a < size t → kind_at t a ≡ 5 → ArgRow t a
  pub next_row : (x : ℕ) → x < size t → kind_at t x ≡ 6 → NextRow t x
  -- homes, and where operands are read
  pub start_home : (v : ℕ) → kind_at t v ≤ 1 → home t v ≡ size t
  pub op_home : (v : ℕ) → (kind_at t v ≡ 2) ⊎ (kind_at t v ≡ 3) → home t v ≡ body_of t v
  pub for_home : (L : ℕ) → kind_at t L ≡ 4 → home t L ≡ L
  pub arg_home : (a : ℕ) → kind_at t a ≡ 5 → home t a ≡ body_of t a
  pub next_home : (x : ℕ) → x < size t → kind_at t x ≡ 6 → home t x ≡ body_of t (body_of t x)
  pub reads_body : (r : ℕ) → kind_at t r ≢ 5 → reads t r ≡ body_of t r
  pub arg_reads : (a : ℕ) → a < size t → kind_at t a ≡ 5 → reads t a ≡ body_of t (body_of t a)
  -- each operand: an earlier value, at home where it is read or around, of the sort that is wanted
  pub operands : (r j : ℕ) → r < size t → j < operand_count (kind_at t r) → Operand t r j
  pub arg_operand : (a : ℕ) → a < size t → kind_at t a ≡ 5 → ArgOperand t a

module _ (t : List ℕ) where
  outer_body : (r : ℕ) → stack_at t r ≡ [] → body_of t r ≡ size t
  unfolding body_of
  outer_body r e = rw e

  same_body : (r q : ℕ) → read_stack t r ≡ stack_at t q → reads t r ≡ body_of t q
  unfolding reads body_of
  same_body r q e = rw e

  first_above : (L : ℕ) → L < first_of t L
  unfolding first_of
  first_above L = omega arith

module _ (t : List ℕ) (ok : TableRight t) where
  first_below : (L : ℕ) → L < size t → kind_at t L ≡ 4 → first_of t L ≤ end_of t L
  unfolding first_of
  first_below L less k =
      let S = span t ok L less k in
      let e = end_of t L in
      let z = nonempty L (stack_at t e) (S.open_in e S.below (omega arith)) in
      let h = innermost t ok e (omega (arith, S.inside)) z.0 z.1 z.2 in
      let row : z.0.row ≡ L = sym (body_is t e z.0 z.1 z.2) ∙ S.end_body in
      let n : args_of t L ≡ z.0.args = ap (args_of t) (sym row) ∙ args_known t ok e z.0 z.1 S.inside z.2 (λ q. omega (arith, S.end_kind)) in
      omega (arith, h.nexts_in_lem)

  loop_of_lem : (r : ℕ) → r ≤ size t → body_of t r ≢ size t → InLoop t (body_of t r) r
  loop_of_lem r less n = go (stack_at t r) refl
    where
      go : (z : List Loop) → stack_at t r ≡ z → InLoop t (body_of t r) r
      go [] q = absurd (n (outer_body t r q))
      go (l ∷ s) q =
          let o : holds (body_of t r) (stack_at t r) ≡ true = rw q (subst (λ (b : ℕ). holds b (l ∷ s) ≡ true) (sym (body_is t r l s q)) (member_here l.row l s refl)) in
          let f = open_is_for t r (body_of t r) o in
          let S = span t ok (body_of t r) (open_below t ok r (body_of t r) less o) f.1 in
          record { is_for_lem = f.1; low = f.0; high = (S.open_only r o).1 }

  inmost : (r L : ℕ) → r ≤ size t → L < size t → InLoop t L r → Encloses t L (body_of t r)
  inmost r L less lt i =
      let o = (span t ok L lt i.is_for_lem).open_in r i.low i.high in
      let z = nonempty L (stack_at t r) o in
      subst (Encloses t L) (sym (body_is t r z.0 z.1 z.2)) (open_encloses t ok r L z.0 z.1 less z.2 o)

  -- a row of another kind is not in the header
  past_header : (L r : ℕ) → kind_at t r ≢ 5 → L < r → first_of t L ≤ r
  past_header L r n low = elim (dec_le (first_of t L) r) [ yes p ↦ p | no p ↦ absurd (n (header_rows t L r low (over (first_of t L) r p))) ]
    where
      over : (a b : ℕ) → (a ≤ b → ⊥) → b < a
      over a b p = omega arith

  end_row : (r : ℕ) → r < size t → kind_at t r ≡ 7 → (kind_at t (body_of t r) ≡ 4) × (body_of t r < r) × (end_of t (body_of t r) ≡ r)
  end_row r less k =
      let o = open_is_for t r (body_of t r) (end_stands t ok r less k) in
      (o.1, o.0, sym (end_is_end_of t ok r less k))

  two_three : (v : ℕ) → (kind_at t v ≡ 2) ⊎ (kind_at t v ≡ 3) → home t v ≡ body_of t v
  two_three v (inl k) = home_here t v (omega arith) (λ e. omega arith) (λ e. omega arith)
  two_three v (inr k) = home_here t v (omega arith) (λ e. omega arith) (λ e. omega arith)

  pub right_table_has_structure : Structure t
  right_table_has_structure =
      record {
        words = words_of_rows t ok;
        any = some_rows t ok;
        few = at_most_512_rows t ok;
        kinds = known_kind t ok;
        op_codes = op_code t ok;
        loop_codes = for_codes t ok;
        starts = starts_first t ok;
        outs = outs_last t ok;
        last_out = ends_with_out t ok;
        start_body = λ r less k. outer_body t r (start_outside t ok r less k);
        out_body = λ r less k. outer_body t r (out_outside t ok r less k);
        deep = at_most_eight_deep t ok;
        all_shut = nothing_left_open t ok;
        loop_span = span t ok;
        loop_first = λ L less k. (first_above t L, first_below L less k);
        past_args = past_header;
        loop_args = λ L a less k p q. (header_rows t L a p q, header_bodies t L a k p q);
        end_of_lem = end_row;
        nest = λ L M less kL kM p q. (past_header L M (λ e. omega arith) p, loops_nest t ok L M less kL kM p q);
        body_loop = loop_of_lem;
        body_inmost = inmost;
        body_first = λ r less k n. past_header (body_of t r) r k (loop_of_lem r (omega arith) n).low;
        arg_row = arg_of_lem t ok;
        next_row = next_of_lem t ok;
        start_home = home_start t;
        op_home = two_three;
        for_home = home_for t;
        arg_home = λ a k. home_here t a (omega arith) (λ e. omega arith) (λ e. omega arith);
        next_home = λ x less k. home_next t x k (next_of_lem t ok x less k).around;
        reads_body = λ r n. same_body t r r (reads_here t r n);
        arg_reads = λ a less k. same_body t a (body_of t a) (reads_around t a k ∙ ap outward (arg_of_lem t ok a less k).loops);
        operands = operand_of t ok;
        arg_operand = arg_operand_of t ok;
      }

-- EVERY TABLE THAT PASSES 1 TO 9 HAS THE STRUCTURE
pub passing_table_has_structure : (t : List ℕ) → table_refusal t ≡ answer 0 0 → Structure t
passing_table_has_structure t e = right_table_has_structure t (passing_table_is_right t e)

-- words past the end read as 0
pub in_table : (t : List ℕ) → Structure t → (r : ℕ) → kind_at t r ≢ 0 → r < size t
in_table t S r n =
    elim (dec_le (size t) r) [
      | yes p ↦ absurd (n (get_or-eq_default t 0 {n = 6 * r} (omega (arith, S.words))))
      | no p ↦ omega arith
    ]
