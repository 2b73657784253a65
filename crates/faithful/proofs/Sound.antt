-- EVERY TABLE OF WORDS THAT PASSES IS GOOD: the facts on which the following of the reading rests, from the structure of a passing table.
--
--   operand_used              an operand is a use of its value in the body where it is read, until its row
--   every_use                 so are all uses: of OP and PICK, of FOR, of ARG and NEXT, of copies, of results
--   passing_is_good           the facts, all together
--
-- Assumes nothing.
use Rattle.std.proofs.Math.Path.{◌≡◌, refl, sym, subst}
use Rattle.std.proofs.Common.{ap, ◌∙◌, inl, inr, arith}
use Rattle.std.specs.Prelude.{◌≢◌, ◌⊎◌, Bool, true, false, List, ℕ, suc, ◌≤◌, ◌<◌}
use Rattle.std.proofs.Math.Decide.{dec_lt, dec_le, ℕ_discrete}
use Rattle.step.specs.Kinds.{Input, in0, in1, in2}
use Rattle.table.specs.Rows.{kind_at, word, size, operand_count}
use Rattle.table.specs.Scan.{body_of, reads, home}
use Rattle.table.specs.Bodies.{Row, input, const, op, pick, for, arg, next, end, out, unknown, operand, end_of, first_of, arg_of, next_of}
use Rattle.structure.specs.Spans.{Encloses, same, inside, outermost}
use Rattle.structure.specs.Operands.{Operand}
use Rattle.structure.specs.Serving.{ArgRow, NextRow}
use Rattle.structure.specs.Structure.{Structure}
use Rattle.lowered.specs.Roles.{op_node, stream, gate, guard, copy_split, copy_invariant, carry, arg_split, Use, into, result}
use Rattle.faithful.specs.Table.{Table, val, named, IsFor, born_by, born, slot, op_slot, stream_slot, guard_slot, gate_slot, copy_split_slot, copy_invariant_slot, carry_slot, arg_split_slot, result_slot, is_op, is_start, is_in, is_arg, is_for_row}
use Rattle.faithful.specs.Good.{Inner, Used, Good}
use Rattle.faithful.specs.Turn.{since_born}
use Rattle.faithful.specs.Carried.{body_cases, first_is, last_is, inner_at, means_inside, outside_of, CarriedBy, carried_by, by_carried, carried_before, carried_home, carried_passed, carried_around}
use Rattle.faithful.specs.Tables

module _ (t : List ℕ) (S : Structure t) where
  abbrev tb : Table
  tb = Tables.table_of t

  -- ---- a value that is named

  -- no END and no OUT is named
  no_end : (v : ℕ) → v < size t → kind_at t v ≤ 6 → is_start tb (tb.row v) ≡ true → is_in (tb.row v) ≡ true
  no_end v l k h = go (tb.row v) refl (Tables.row_kind_lem t S v l) h
    where
      go : (d : Row) → tb.row v ≡ d → Tables.row_kind d ≡ kind_at t v → is_start tb d ≡ true → is_in d ≡ true
      go input q e s = refl
      go (const w) q e s = refl
      go (op c x y) q e s = s
      go (pick f x y) q e s = s
      go (for s' st b u c) q e s = s
      go (arg i) q e s = s
      go (next x) q e s = s
      go end q e s = absurd (omega arith)
      go (out x) q e s = absurd (omega arith)
      go unknown q e s = absurd (omega arith)

  -- it is born before c
  born_by_lem : (v c : ℕ) → v < size t → v < c → (kind_at t v ≡ 6 → end_of t (body_of t v) < c) → born tb v ≤ c
  born_by_lem v c l b p = go (tb.row v) refl
    where
      go : (d : Row) → tb.row v ≡ d → born_by d v (tb.last (body_of t v)) ≤ c
      go input q = omega arith
      go (const w) q = omega arith
      go (op k x y) q = omega arith
      go (pick f x y) q = omega arith
      go (for s st b u k) q = omega arith
      go (arg i) q = omega arith
      go (next x) q =
          let w = Tables.next_words t S v x q in
          let e = last_is t S (body_of t v) (S.next_row v w.0 w.1).loop_for in
          let h = p w.1 in
          omega arith
      go end q = omega arith
      go (out x) q = omega arith
      go unknown q = omega arith

  -- where a row's operands are read
  reads_cases : (r : ℕ) → r < size t → (reads t r ≡ size t) ⊎ ((reads t r < size t) × (kind_at t (reads t r) ≡ 4))
  reads_cases r l =
      elim (ℕ_discrete (kind_at t r) 5) [
        | yes k ↦
            let A = S.arg_row r l k in
            let lM = Tables.below_by_kind t S (body_of t r) 3 A.loop_for in
            subst (λ (z : ℕ). (z ≡ size t) ⊎ ((z < size t) × (kind_at t z ≡ 4))) (sym (S.arg_reads r l k)) (body_cases t S (body_of t r) (omega arith))
        | no n ↦ subst (λ (z : ℕ). (z ≡ size t) ⊎ ((z < size t) × (kind_at t z ≡ 4))) (sym (S.reads_body r n)) (body_cases t S r (omega arith))
      ]

  reads_for : (r : ℕ) → r < size t → (reads t r ≡ size t) ⊎ IsFor tb (reads t r)
  reads_for r l = elim (reads_cases r l) [ inl e ↦ inl e | inr k ↦ inr (Tables.for_row t S (reads t r) k.1) ]

  -- an operand that is not at home where it is read is carried in
  away : (r j : ℕ) → r < size t → j < operand_count (kind_at t r) → tb.home (operand t r j) ≢ reads t r → tb.carried (reads t r) (operand t r j) ≡ true
  away r j l lj n = go O.at_home (reads_cases r l)
    where
      O : Operand t r j
      O = S.operands r j l lj

      v : ℕ
      v = operand t r j

      lv : v < size t
      lv = let b = O.before in omega arith

      h : tb.home v ≡ home t v
      h = Tables.home_of t v lv O.is_value

      make : reads t r < size t → kind_at t (reads t r) ≡ 4 → (home t v < reads t r) ⊎ (home t v ≡ size t) → tb.carried (reads t r) v ≡ true
      make lB k d = by_carried t S (reads t r) v r j k l lj refl (means_inside t S (reads t r) (reads t r) lB k (inl refl)) (outside_of t S (reads t r) (home t v) k lB d)

      go : Encloses t (home t v) (reads t r) → (reads t r ≡ size t) ⊎ ((reads t r < size t) × (kind_at t (reads t r) ≡ 4)) → tb.carried (reads t r) v ≡ true
      go (same e) c = absurd (n (h ∙ e))
      go (outermost e) (inl c) = absurd (n (h ∙ e ∙ sym c))
      go (outermost e) (inr c) = make c.0 c.1 (inr e)
      go (inside k lo hi) (inl c) = let lH = Tables.below_by_kind t S (home t v) 3 k in let s = (S.loop_span (home t v) lH k).inside in absurd (omega arith)
      go (inside k lo hi) (inr c) = make c.0 c.1 (inl lo)

  -- rows of a loop's head are its ARGs
  heads_at : (c : ℕ) → kind_at t c ≢ 5 → (L : ℕ) → IsFor tb L → L < c → tb.first L ≤ c
  heads_at c n L f l =
      let k = Tables.for_kind t S L f in
      let e = first_is t S L k.1 in
      elim (dec_le (first_of t L) c) [
        | yes m ↦ omega arith
        | no m ↦ absurd (n (S.loop_args L c k.0 k.1 l (omega arith)).0)
      ]

  -- ---- uses

  -- v read in B until row c, by operand j of row r
  module _ (r j c B : ℕ) (lr : r < size t) (lj : j < operand_count (kind_at t r)) (e : reads t r ≡ B) where
    operand_used : Inner tb B c → ((L : ℕ) → IsFor tb L → L < c → tb.first L ≤ c) → operand t r j < c → (kind_at t (operand t r j) ≡ 6 → end_of t (body_of t (operand t r j)) < c)
        → (v : ℕ) → operand t r j ≡ v → Used tb v B c
    operand_used place heads before passed v d =
        subst (λ (z : ℕ). Used tb z B c) d
        (record {
          body = subst (λ (z : ℕ). (z ≡ size t) ⊎ IsFor tb z) e (reads_for r lr);
          place = place;
          heads = heads;
          before = before;
          named_before = let a = since_born tb (operand t r j) B in let b = born_by_lem (operand t r j) c lv before passed in omega arith;
          away = subst (λ (z : ℕ). tb.home (operand t r j) ≢ z → tb.carried z (operand t r j) ≡ true) e (away r j lr lj);
          value = no_end (operand t r j) lv (S.operands r j lr lj).is_value;
        })
      where
        lv : operand t r j < size t
        lv = let b = (S.operands r j lr lj).before in omega arith

  -- by a row that reads in its own body
  row_used : (r j v B c : ℕ) → r < size t → kind_at t r ≢ 5 → j < operand_count (kind_at t r) → operand t r j ≡ v → reads t r ≡ B → r ≡ c → Used tb v B c
  row_used r j v B c l n lj d e h =
      subst (λ (z : ℕ). Used tb v B z) h
      (operand_used r j r B l lj e (subst (λ (z : ℕ). Inner tb z r) (sym (S.reads_body r n) ∙ e) (inner_at t S r l n)) (heads_at r n)
      (S.operands r j l lj).before (S.operands r j l lj).passed v d)

  counts : (r k n : ℕ) → kind_at t r ≡ k → operand_count k ≡ n → (j : ℕ) → j < n → j < operand_count (kind_at t r)
  counts r k n e h j l = let q : operand_count (kind_at t r) ≡ n = ap operand_count e ∙ h in omega arith

  use_op : (r : ℕ) (d : Row) (k : Input) (v B c : ℕ) → tb.row r ≡ d → op_slot d (reads t r) r k ≡ val v B c → Used tb v B c
  unfolding operand_count
  use_op r input k v B c q h = let z : ◌≡◌ {A = ℕ} 0 1 = cc in absurd (omega arith)
  use_op r (const x) k v B c q h = let z : ◌≡◌ {A = ℕ} 0 1 = cc in absurd (omega arith)
  use_op r (op o x y) in0 v B c q h =
      let w = Tables.op_words t S r o x y q in row_used r 0 v B c w.0 (let k = w.1 in omega arith) (counts r 2 2 w.1 refl 0 (omega arith)) (w.3 ∙ cc) (cc) (cc)
  use_op r (op o x y) in1 v B c q h =
      let w = Tables.op_words t S r o x y q in row_used r 1 v B c w.0 (let k = w.1 in omega arith) (counts r 2 2 w.1 refl 1 (omega arith)) (w.4 ∙ cc) (cc) (cc)
  use_op r (op o x y) in2 v B c q h = let z : ◌≡◌ {A = ℕ} 0 1 = cc in absurd (omega arith)
  use_op r (pick f x y) in0 v B c q h =
      let w = Tables.pick_words t S r f x y q in row_used r 0 v B c w.0 (let k = w.1 in omega arith) (counts r 3 3 w.1 refl 0 (omega arith)) (w.2 ∙ cc) (cc) (cc)
  use_op r (pick f x y) in1 v B c q h =
      let w = Tables.pick_words t S r f x y q in row_used r 1 v B c w.0 (let k = w.1 in omega arith) (counts r 3 3 w.1 refl 1 (omega arith)) (w.3 ∙ cc) (cc) (cc)
  use_op r (pick f x y) in2 v B c q h =
      let w = Tables.pick_words t S r f x y q in row_used r 2 v B c w.0 (let k = w.1 in omega arith) (counts r 3 3 w.1 refl 2 (omega arith)) (w.4 ∙ cc) (cc) (cc)
  use_op r (for s st b u o) k v B c q h = let z : ◌≡◌ {A = ℕ} 0 1 = cc in absurd (omega arith)
  use_op r (arg i) k v B c q h = let z : ◌≡◌ {A = ℕ} 0 1 = cc in absurd (omega arith)
  use_op r (next x) k v B c q h = let z : ◌≡◌ {A = ℕ} 0 1 = cc in absurd (omega arith)
  use_op r end k v B c q h = let z : ◌≡◌ {A = ℕ} 0 1 = cc in absurd (omega arith)
  use_op r (out x) k v B c q h = let z : ◌≡◌ {A = ℕ} 0 1 = cc in absurd (omega arith)
  use_op r unknown k v B c q h = let z : ◌≡◌ {A = ℕ} 0 1 = cc in absurd (omega arith)

  use_for : (r s st b u o : ℕ) → tb.row r ≡ for s st b u o → (v B c : ℕ) → ((s ≡ v) ⊎ (st ≡ v)) ⊎ (b ≡ v) → reads t r ≡ B → r ≡ c → Used tb v B c
  unfolding operand_count
  use_for r s st b u o q v B c (inl (inl d)) e h =
      let w = Tables.for_words t S r s st b u o q in row_used r 0 v B c w.0 (let k = w.1 in omega arith) (counts r 4 3 w.1 refl 0 (omega arith)) (w.2 ∙ d) e h
  use_for r s st b u o q v B c (inl (inr d)) e h =
      let w = Tables.for_words t S r s st b u o q in row_used r 1 v B c w.0 (let k = w.1 in omega arith) (counts r 4 3 w.1 refl 1 (omega arith)) (w.3 ∙ d) e h
  use_for r s st b u o q v B c (inr d) e h =
      let w = Tables.for_words t S r s st b u o q in row_used r 2 v B c w.0 (let k = w.1 in omega arith) (counts r 4 3 w.1 refl 2 (omega arith)) (w.4 ∙ d) e h

  use_stream : (r : ℕ) (d : Row) (k : Input) (v B c : ℕ) → tb.row r ≡ d → stream_slot d (reads t r) r k ≡ val v B c → Used tb v B c
  use_stream r input k v B c q h = let z : ◌≡◌ {A = ℕ} 0 1 = cc in absurd (omega arith)
  use_stream r (const x) k v B c q h = let z : ◌≡◌ {A = ℕ} 0 1 = cc in absurd (omega arith)
  use_stream r (op o x y) k v B c q h = let z : ◌≡◌ {A = ℕ} 0 1 = cc in absurd (omega arith)
  use_stream r (pick f x y) k v B c q h = let z : ◌≡◌ {A = ℕ} 0 1 = cc in absurd (omega arith)
  use_stream r (for s st b u o) in0 v B c q h = use_for r s st b u o q v B c (inl (inl (cc))) (cc) (cc)
  use_stream r (for s st b u o) in1 v B c q h = use_for r s st b u o q v B c (inl (inr (cc))) (cc) (cc)
  use_stream r (for s st b u o) in2 v B c q h = use_for r s st b u o q v B c (inr (cc)) (cc) (cc)
  use_stream r (arg i) k v B c q h = let z : ◌≡◌ {A = ℕ} 0 1 = cc in absurd (omega arith)
  use_stream r (next x) k v B c q h = let z : ◌≡◌ {A = ℕ} 0 1 = cc in absurd (omega arith)
  use_stream r end k v B c q h = let z : ◌≡◌ {A = ℕ} 0 1 = cc in absurd (omega arith)
  use_stream r (out x) k v B c q h = let z : ◌≡◌ {A = ℕ} 0 1 = cc in absurd (omega arith)
  use_stream r unknown k v B c q h = let z : ◌≡◌ {A = ℕ} 0 1 = cc in absurd (omega arith)

  use_guard : (r : ℕ) (d : Row) (k : Input) (v B c : ℕ) → tb.row r ≡ d → guard_slot d (reads t r) r k ≡ val v B c → Used tb v B c
  use_guard r input k v B c q h = let z : ◌≡◌ {A = ℕ} 0 1 = cc in absurd (omega arith)
  use_guard r (const x) k v B c q h = let z : ◌≡◌ {A = ℕ} 0 1 = cc in absurd (omega arith)
  use_guard r (op o x y) k v B c q h = let z : ◌≡◌ {A = ℕ} 0 1 = cc in absurd (omega arith)
  use_guard r (pick f x y) k v B c q h = let z : ◌≡◌ {A = ℕ} 0 1 = cc in absurd (omega arith)
  use_guard r (for s st b u o) in0 v B c q h = use_for r s st b u o q v B c (inl (inl (cc))) (cc) (cc)
  use_guard r (for s st b u o) in1 v B c q h = use_for r s st b u o q v B c (inr (cc)) (cc) (cc)
  use_guard r (for s st b u o) in2 v B c q h = let z : ◌≡◌ {A = ℕ} 0 1 = cc in absurd (omega arith)
  use_guard r (arg i) k v B c q h = let z : ◌≡◌ {A = ℕ} 0 1 = cc in absurd (omega arith)
  use_guard r (next x) k v B c q h = let z : ◌≡◌ {A = ℕ} 0 1 = cc in absurd (omega arith)
  use_guard r end k v B c q h = let z : ◌≡◌ {A = ℕ} 0 1 = cc in absurd (omega arith)
  use_guard r (out x) k v B c q h = let z : ◌≡◌ {A = ℕ} 0 1 = cc in absurd (omega arith)
  use_guard r unknown k v B c q h = let z : ◌≡◌ {A = ℕ} 0 1 = cc in absurd (omega arith)

  -- the place of a FOR, and of an END
  for_place : (L : ℕ) → kind_at t L ≡ 4 → Inner tb (reads t L) L
  for_place L k =
      let l = Tables.below_by_kind t S L 3 k in
      subst (λ (z : ℕ). Inner tb z L) (sym (S.reads_body L (λ z. omega arith))) (inner_at t S L l (λ z. omega arith))

  end_place : (L : ℕ) → kind_at t L ≡ 4 → Inner tb L (end_of t L)
  end_place L k =
      let l = Tables.below_by_kind t S L 3 k in
      let s = S.loop_span L l k in
      let ke = s.end_kind in
      subst (λ (z : ℕ). Inner tb z (end_of t L)) s.end_body (inner_at t S (end_of t L) s.inside (λ z. omega arith))

  -- a copy's SPLIT in the body around L, until L opens
  copy_used : (L u v B c : ℕ) → tb.carried L u ≡ true → u ≡ v → reads t L ≡ B → L ≡ c → Used tb v B c
  copy_used L u v B c q d e h =
      subst (λ (z : ℕ). Used tb z B c) d (subst (λ (z : ℕ). Used tb u z c) e (subst (λ (z : ℕ). Used tb u (reads t L) z) h
      (record {
        body = reads_for L C.below;
        place = for_place L C.is_loop;
        heads = heads_at L (λ z. let k = C.is_loop in omega arith);
        before = carried_before t S L u C;
        named_before = let a = since_born tb u (reads t L) in let b = born_by_lem u L lu (carried_before t S L u C) (carried_passed t S L u C) in omega arith;
        away = λ n. subst (λ (z : ℕ). tb.carried z u ≡ true) (sym rb) (carried_around t S L u C (λ z. n (Tables.home_of t u lu ku ∙ z ∙ sym rb)));
        value = no_end u lu ku;
      })))
    where
      C : CarriedBy t S L u
      C = carried_by t S L u q

      lu : u < size t
      lu = let a = carried_before t S L u C in let b = C.below in omega arith

      ku : kind_at t u ≤ 6
      ku = subst (λ (z : ℕ). kind_at t z ≤ 6) C.is_operand (S.operands C.row C.place C.row_below_lem C.place_below).is_value

      rb : reads t L ≡ body_of t L
      rb = S.reads_body L (λ z. let k = C.is_loop in omega arith)

  use_copy : (L u : ℕ) (b : Bool) (k : Input) (v B c : ℕ) → tb.carried L u ≡ b → copy_split_slot b (reads t L) L u k ≡ val v B c → Used tb v B c
  use_copy L u false k v B c q h = let z : ◌≡◌ {A = ℕ} 0 1 = cc in absurd (omega arith)
  use_copy L u true in0 v B c q h = let z : ◌≡◌ {A = ℕ} 0 1 = cc in absurd (omega arith)
  use_copy L u true in1 v B c q h = copy_used L u v B c q (cc) (cc) (cc)
  use_copy L u true in2 v B c q h = let z : ◌≡◌ {A = ℕ} 0 1 = cc in absurd (omega arith)

  -- the initial of an ARG, read in the body around its loop until the loop opens
  initial_used : (a i v B c : ℕ) → tb.row a ≡ arg i → i ≡ v → reads t (body_of t a) ≡ B → body_of t a ≡ c → Used tb v B c
  unfolding operand_count
  initial_used a i v B c q d e h =
      let w = Tables.arg_words t S a i q in
      let A = S.arg_row a w.0 w.1 in
      let P = S.arg_operand a w.0 w.1 in
      let L = body_of t a in
      let k = A.loop_for in
      let ra : reads t a ≡ reads t L = S.arg_reads a w.0 w.1 ∙ sym (S.reads_body L (λ z. omega arith)) in
      subst (λ (z : ℕ). Used tb v z c) e (subst (λ (z : ℕ). Used tb v (reads t L) z) h
      (operand_used a 0 L (reads t L) w.0 (counts a 5 1 w.1 refl 0 (omega arith)) ra (for_place L k) (heads_at L (λ z. omega arith)) P.before_loop P.passed_loop v (w.2 ∙ d)))

  -- what a NEXT names, read in its loop until the END
  next_used : (a i v B c : ℕ) → tb.row a ≡ arg i → named (tb.row (next_of t a)) ≡ v → body_of t a ≡ B → tb.last (body_of t a) ≡ c → Used tb v B c
  unfolding operand_count
  next_used a i v B c q d e h =
      let w = Tables.arg_words t S a i q in
      let A = S.arg_row a w.0 w.1 in
      let L = body_of t a in
      let x = next_of t a in
      let lx : x < size t = Tables.below_by_kind t S x 5 A.next_kind in
      let N = S.next_row x lx A.next_kind in
      let n = Tables.next_words t S x (word t x 1) (Tables.row_at_lem t x lx ∙ Tables.is_next_lem t x A.next_kind) in
      let hi : x < end_of t L = subst (λ (z : ℕ). x < end_of t z) A.next_body N.high in
      let O = S.operands x 0 lx (counts x 6 1 A.next_kind refl 0 (omega arith)) in
      let lb : operand t x 0 < x = O.before in
      let rx : reads t x ≡ L = S.reads_body x (λ z. let k = A.next_kind in omega arith) ∙ A.next_body in
      let le : tb.last L ≡ end_of t L = last_is t S L A.loop_for in
      let nm : operand t x 0 ≡ named (tb.row x) = n.2 ∙ sym (ap named (Tables.row_at_lem t x lx ∙ Tables.is_next_lem t x A.next_kind)) in
      let ke = (S.loop_span L (Tables.below_by_kind t S L 3 A.loop_for) A.loop_for).end_kind in
      subst (λ (z : ℕ). Used tb v z c) e (subst (λ (z : ℕ). Used tb v L z) (sym le ∙ h)
      (operand_used x 0 (end_of t L) L lx (counts x 6 1 A.next_kind refl 0 (omega arith)) rx (end_place L A.loop_for) (heads_at (end_of t L) (λ z. omega arith)) (omega arith)
      (λ k6. let p = O.passed k6 in omega arith) v (nm ∙ d)))

  use_carry : (a : ℕ) (r : Row) (k : Input) (v B c : ℕ) → tb.row a ≡ r
      → carry_slot r (reads t (body_of t a)) (body_of t a) (named (tb.row (next_of t a))) (tb.last (body_of t a)) k ≡ val v B c → Used tb v B c
  use_carry a input k v B c q h = let z : ◌≡◌ {A = ℕ} 0 1 = cc in absurd (omega arith)
  use_carry a (const x) k v B c q h = let z : ◌≡◌ {A = ℕ} 0 1 = cc in absurd (omega arith)
  use_carry a (op o x y) k v B c q h = let z : ◌≡◌ {A = ℕ} 0 1 = cc in absurd (omega arith)
  use_carry a (pick f x y) k v B c q h = let z : ◌≡◌ {A = ℕ} 0 1 = cc in absurd (omega arith)
  use_carry a (for s st b u o) k v B c q h = let z : ◌≡◌ {A = ℕ} 0 1 = cc in absurd (omega arith)
  use_carry a (arg i) in0 v B c q h = let z : ◌≡◌ {A = ℕ} 0 1 = cc in absurd (omega arith)
  use_carry a (arg i) in1 v B c q h = initial_used a i v B c q (cc) (cc) (cc)
  use_carry a (arg i) in2 v B c q h = next_used a i v B c q (cc) (cc) (cc)
  use_carry a (next x) k v B c q h = let z : ◌≡◌ {A = ℕ} 0 1 = cc in absurd (omega arith)
  use_carry a end k v B c q h = let z : ◌≡◌ {A = ℕ} 0 1 = cc in absurd (omega arith)
  use_carry a (out x) k v B c q h = let z : ◌≡◌ {A = ℕ} 0 1 = cc in absurd (omega arith)
  use_carry a unknown k v B c q h = let z : ◌≡◌ {A = ℕ} 0 1 = cc in absurd (omega arith)

  -- a result, in the outermost body, for ever
  outer_place : Inner tb (size t) (suc (size t))
  outer_place =
      let a = Tables.outer_first t in let b = Tables.outer_last t in
      record {
        low = omega arith;
        high = omega arith;
        within = λ L f l h. absurd (let k = Tables.for_kind t S L f in let e = last_is t S L k.1 in let s = (S.loop_span L k.0 k.1).inside in omega arith);
      }

  result_used : (q x v B c : ℕ) → tb.row q ≡ out x → x ≡ v → size t ≡ B → suc (size t) ≡ c → Used tb v B c
  unfolding operand_count
  result_used q x v B c r d e h =
      let w = Tables.out_words_lem t S q x r in
      let l : q < size t = w.0 in
      let k : kind_at t q ≡ 8 = w.1 in
      let O = S.operands q 0 l (counts q 8 1 k refl 0 (omega arith)) in
      let b : operand t q 0 < q = O.before in
      let rq : reads t q ≡ size t = S.reads_body q (λ z. omega arith) ∙ S.out_body q l k in
      subst (λ (z : ℕ). Used tb v z c) e (subst (λ (z : ℕ). Used tb v (size t) z) h
      (operand_used q 0 (suc (size t)) (size t) l (counts q 8 1 k refl 0 (omega arith)) rq outer_place
      (λ L f m. let fk = Tables.for_kind t S L f in let e1 = first_is t S L fk.1 in let s = (S.loop_span L fk.0 fk.1).inside in let f1 = (S.loop_first L fk.0 fk.1).1 in omega arith)
      (omega arith) (λ k6. let p = O.passed k6 in omega arith) v (w.2 ∙ d)))

  use_result : (q : ℕ) (r : Row) (v B c : ℕ) → tb.row q ≡ r → result_slot r (size t) (suc (size t)) ≡ val v B c → Used tb v B c
  use_result q input v B c e h = let z : ◌≡◌ {A = ℕ} 0 1 = cc in absurd (omega arith)
  use_result q (const x) v B c e h = let z : ◌≡◌ {A = ℕ} 0 1 = cc in absurd (omega arith)
  use_result q (op o x y) v B c e h = let z : ◌≡◌ {A = ℕ} 0 1 = cc in absurd (omega arith)
  use_result q (pick f x y) v B c e h = let z : ◌≡◌ {A = ℕ} 0 1 = cc in absurd (omega arith)
  use_result q (for s st b u o) v B c e h = let z : ◌≡◌ {A = ℕ} 0 1 = cc in absurd (omega arith)
  use_result q (arg i) v B c e h = let z : ◌≡◌ {A = ℕ} 0 1 = cc in absurd (omega arith)
  use_result q (next x) v B c e h = let z : ◌≡◌ {A = ℕ} 0 1 = cc in absurd (omega arith)
  use_result q end v B c e h = let z : ◌≡◌ {A = ℕ} 0 1 = cc in absurd (omega arith)
  use_result q (out x) v B c e h = result_used q x v B c e (cc) (cc) (cc)
  use_result q unknown v B c e h = let z : ◌≡◌ {A = ℕ} 0 1 = cc in absurd (omega arith)

  not_gate : (b : Bool) (L : ℕ) (k : Input) (v B c : ℕ) → gate_slot b L k ≡ val v B c → ⊥
  not_gate false L k v B c h = let z : ◌≡◌ {A = ℕ} 0 1 = cc in omega arith
  not_gate true L in0 v B c h = let z : ◌≡◌ {A = ℕ} 0 1 = cc in omega arith
  not_gate true L in1 v B c h = let z : ◌≡◌ {A = ℕ} 0 1 = cc in omega arith
  not_gate true L in2 v B c h = let z : ◌≡◌ {A = ℕ} 0 1 = cc in omega arith

  not_copy : (b : Bool) (R L u : ℕ) (k : Input) (v B c : ℕ) → copy_invariant_slot b R L u k ≡ val v B c → ⊥
  not_copy false R L u k v B c h = let z : ◌≡◌ {A = ℕ} 0 1 = cc in omega arith
  not_copy true R L u in0 v B c h = let z : ◌≡◌ {A = ℕ} 0 1 = cc in omega arith
  not_copy true R L u in1 v B c h = let z : ◌≡◌ {A = ℕ} 0 1 = cc in omega arith
  not_copy true R L u in2 v B c h = let z : ◌≡◌ {A = ℕ} 0 1 = cc in omega arith

  not_arg : (b : Bool) (L a : ℕ) (k : Input) (v B c : ℕ) → arg_split_slot b L a k ≡ val v B c → ⊥
  not_arg false L a k v B c h = let z : ◌≡◌ {A = ℕ} 0 1 = cc in omega arith
  not_arg true L a in0 v B c h = let z : ◌≡◌ {A = ℕ} 0 1 = cc in omega arith
  not_arg true L a in1 v B c h = let z : ◌≡◌ {A = ℕ} 0 1 = cc in omega arith
  not_arg true L a in2 v B c h = let z : ◌≡◌ {A = ℕ} 0 1 = cc in omega arith

  pub every_use : (p : Use) (v B c : ℕ) → slot tb p ≡ val v B c → Used tb v B c
  every_use (into (op_node r) k) v B c h = use_op r (tb.row r) k v B c refl h
  every_use (into (stream L) k) v B c h = use_stream L (tb.row L) k v B c refl h
  every_use (into (gate L) k) v B c h = absurd (not_gate (is_for_row (tb.row L)) L k v B c h)
  every_use (into (guard L) k) v B c h = use_guard L (tb.row L) k v B c refl h
  every_use (into (copy_split L u) k) v B c h = use_copy L u (tb.carried L u) k v B c refl h
  every_use (into (copy_invariant L u) k) v B c h = absurd (not_copy (tb.carried L u) (tb.reads L) L u k v B c h)
  every_use (into (carry a) k) v B c h = use_carry a (tb.row a) k v B c refl h
  every_use (into (arg_split a) k) v B c h = absurd (not_arg (is_arg (tb.row a)) (body_of t a) a k v B c h)
  every_use (result q) v B c h = use_result q (tb.row q) v B c refl h

  -- ---- rows by their form

  op_kind : (r : ℕ) → is_op tb (tb.row r) ≡ true → (r < size t) × ((kind_at t r ≡ 2) ⊎ (kind_at t r ≡ 3))
  op_kind r h = go (tb.row r) refl h
    where
      go : (d : Row) → tb.row r ≡ d → is_op tb d ≡ true → (r < size t) × ((kind_at t r ≡ 2) ⊎ (kind_at t r ≡ 3))
      go input q k = let z : ◌≡◌ {A = ℕ} 0 1 = cc in absurd (omega arith)
      go (const x) q k = let z : ◌≡◌ {A = ℕ} 0 1 = cc in absurd (omega arith)
      go (op o x y) q k = let w = Tables.op_words t S r o x y q in (w.0, inl w.1)
      go (pick f x y) q k = let w = Tables.pick_words t S r f x y q in (w.0, inr w.1)
      go (for s st b u o) q k = let z : ◌≡◌ {A = ℕ} 0 1 = cc in absurd (omega arith)
      go (arg i) q k = let z : ◌≡◌ {A = ℕ} 0 1 = cc in absurd (omega arith)
      go (next x) q k = let z : ◌≡◌ {A = ℕ} 0 1 = cc in absurd (omega arith)
      go end q k = let z : ◌≡◌ {A = ℕ} 0 1 = cc in absurd (omega arith)
      go (out x) q k = let z : ◌≡◌ {A = ℕ} 0 1 = cc in absurd (omega arith)
      go unknown q k = let z : ◌≡◌ {A = ℕ} 0 1 = cc in absurd (omega arith)

  not_five : (r : ℕ) → (kind_at t r ≡ 2) ⊎ (kind_at t r ≡ 3) → kind_at t r ≢ 5
  not_five r (inl k) z = omega arith
  not_five r (inr k) z = omega arith

  at_most_three : (r : ℕ) → (kind_at t r ≡ 2) ⊎ (kind_at t r ≡ 3) → kind_at t r ≤ 6
  at_most_three r (inl k) = omega arith
  at_most_three r (inr k) = omega arith

  start_rows_lem : (v : ℕ) → is_start tb (tb.row v) ≡ true → tb.home v ≡ size t
  start_rows_lem v h = elim (dec_lt v (size t)) [ yes l ↦ go (tb.row v) refl (Tables.row_kind_lem t S v l) h l | no n ↦ Tables.home_past t v (omega arith) ]
    where
      go : (d : Row) → tb.row v ≡ d → Tables.row_kind d ≡ kind_at t v → is_start tb d ≡ true → v < size t → tb.home v ≡ size t
      go input q e s l = Tables.home_of t v l (omega arith) ∙ S.start_home v (omega arith)
      go (const w) q e s l = Tables.home_of t v l (omega arith) ∙ S.start_home v (omega arith)
      go (op c x y) q e s l = let z : ◌≡◌ {A = ℕ} 0 1 = cc in absurd (omega arith)
      go (pick f x y) q e s l = let z : ◌≡◌ {A = ℕ} 0 1 = cc in absurd (omega arith)
      go (for s' st b u c) q e s l = let z : ◌≡◌ {A = ℕ} 0 1 = cc in absurd (omega arith)
      go (arg i) q e s l = let z : ◌≡◌ {A = ℕ} 0 1 = cc in absurd (omega arith)
      go (next x) q e s l = let z : ◌≡◌ {A = ℕ} 0 1 = cc in absurd (omega arith)
      go end q e s l = Tables.home_none t v (omega arith)
      go (out x) q e s l = Tables.home_none t v (omega arith)
      go unknown q e s l = Tables.home_none t v (omega arith)

  in_rows : (v : ℕ) → is_in (tb.row v) ≡ true → v < size t
  in_rows v h = elim (dec_lt v (size t)) [ yes l ↦ l | no n ↦ absurd (let e : is_in (tb.row v) ≡ false = ap is_in (Tables.row_past t v (omega arith)) in let z : ◌≡◌ {A = ℕ} 0 1 = cc in omega arith) ]

  -- a NEXT's words and its loop
  module _ (x v : ℕ) (q : tb.row x ≡ next v) where
    nw : (x < size t) × (kind_at t x ≡ 6) × (operand t x 0 ≡ v) × (word t x 1 ≡ v)
    nw = Tables.next_words t S x v q

    nx : NextRow t x
    nx = S.next_row x nw.0 nw.1

  module _ (a i : ℕ) (q : tb.row a ≡ arg i) where
    aw : (a < size t) × (kind_at t a ≡ 5) × (operand t a 0 ≡ i) × (word t a 1 ≡ i)
    aw = Tables.arg_words t S a i q

    ax : ArgRow t a
    ax = S.arg_row a aw.0 aw.1

    -- its NEXT is a NEXT
    next_form : tb.row (next_of t a) ≡ next (named (tb.row (next_of t a)))
    next_form =
        let l = Tables.below_by_kind t S (next_of t a) 5 ax.next_kind in
        let e : tb.row (next_of t a) ≡ next (word t (next_of t a) 1) = Tables.row_at_lem t (next_of t a) l ∙ Tables.is_next_lem t (next_of t a) ax.next_kind in
        e ∙ ap next (sym (ap named e))

  -- an ARG by its kind
  arg_form : (a : ℕ) → kind_at t a ≡ 5 → (i : ℕ) × (tb.row a ≡ arg i)
  arg_form a k = (word t a 1, Tables.row_at_lem t a (Tables.below_by_kind t S a 4 k) ∙ Tables.is_arg_lem t a k)

  end_kind : (r : ℕ) → tb.row r ≡ end → (r < size t) × (kind_at t r ≡ 7)
  end_kind r q = let k = Tables.kind_of_row t S r end 7 q refl (omega arith) in (k.0, k.1)

  -- THE FACTS, all together
  pub passing_is_good : Good tb
  passing_is_good =
      record {
        outer_first = Tables.outer_first t;
        outer_last = Tables.outer_last t;
        start_home = start_rows_lem;
        in_size = in_rows;
        out_size = λ q x h. (Tables.out_words_lem t S q x h).0;
        for_size = λ L f. let k = Tables.for_kind t S L f in let e = last_is t S L k.1 in let s = (S.loop_span L k.0 k.1).inside in omega arith;
        for_first = λ L f. let k = Tables.for_kind t S L f in let e = first_is t S L k.1 in let s = (S.loop_first L k.0 k.1).0 in omega arith;
        for_last = λ L f. let k = Tables.for_kind t S L f in let e = first_is t S L k.1 in let d = last_is t S L k.1 in let s = (S.loop_first L k.0 k.1).1 in omega arith;
        for_end = λ L f. let k = Tables.for_kind t S L f in let s = S.loop_span L k.0 k.1 in ap tb.row (last_is t S L k.1) ∙ Tables.row_at_lem t (end_of t L) s.inside ∙ Tables.is_end t (end_of t L) s.end_kind;
        end_loop = λ L f. let k = Tables.for_kind t S L f in ap (body_of t) (last_is t S L k.1) ∙ (S.loop_span L k.0 k.1).end_body;
        for_home = λ L f. let k = Tables.for_kind t S L f in Tables.home_of t L k.0 (let k1 = k.1 in omega arith) ∙ S.for_home L k.1;
        for_code = λ L s st b u c h. let w = Tables.for_words t S L s st b u c h in let k = (S.loop_codes L w.0 w.1).1 in let e : word t L 5 ≡ c = w.6 in omega arith;
        for_reads = λ L f. for_place L (Tables.for_kind t S L f).1;
        for_args = λ L a f l h. let k = Tables.for_kind t S L f in let e = first_is t S L k.1 in let A = S.loop_args L a k.0 k.1 l (omega arith) in let r = arg_form a A.0 in (r.0, r.1, A.1);
        nest = λ L M f m l h.
            let k = Tables.for_kind t S L f in let j = Tables.for_kind t S M m in let e = last_is t S L k.1 in let d = first_is t S L k.1 in let c = last_is t S M j.1 in
            let n = S.nest L M j.0 k.1 j.1 l (omega arith) in let n0 : first_of t L ≤ M = n.0 in let n1 : end_of t M < end_of t L = n.1 in (omega arith, omega arith);
        arg_for = λ a i h. Tables.for_row t S (body_of t a) (ax a i h).loop_for;
        arg_low = λ a i h. (ax a i h).low;
        arg_high = λ a i h. let e = first_is t S (body_of t a) (ax a i h).loop_for in let l = (ax a i h).high in omega arith;
        arg_home = λ a i h. Tables.home_of t a (aw a i h).0 (let k = (aw a i h).1 in omega arith) ∙ S.arg_home a (aw a i h).1;
        arg_next = next_form;
        arg_next_loop = λ a i h. (ax a i h).next_body;
        arg_next_arg = λ a i h. (ax a i h).next_arg;
        next_for = λ x v h. Tables.for_row t S (body_of t x) (nx x v h).loop_for;
        next_low = λ x v h. let e = first_is t S (body_of t x) (nx x v h).loop_for in let l = (nx x v h).low in omega arith;
        next_high = λ x v h. let e = last_is t S (body_of t x) (nx x v h).loop_for in let l = (nx x v h).high in omega arith;
        next_home = λ x v h. Tables.home_of t x (nw x v h).0 (let k = (nw x v h).1 in omega arith) ∙ S.next_home x (nw x v h).0 (nw x v h).1 ∙ sym (S.reads_body (body_of t x) (λ z. let k = (nx x v h).loop_for in omega arith));
        next_arg = λ x v h. arg_form (arg_of t x) (nx x v h).arg_kind;
        next_arg_loop = λ x v h. (nx x v h).arg_body;
        next_arg_next = λ x v h. (nx x v h).arg_next;
        end_for = λ r h l. Tables.for_row t S (body_of t r) (S.end_of_lem r l (end_kind r h).1).0;
        end_last = λ r h l. let k = S.end_of_lem r l (end_kind r h).1 in last_is t S (body_of t r) k.0 ∙ k.2;
        op_size = λ r h. (op_kind r h).0;
        op_home = λ r h. let k = op_kind r h in Tables.home_of t r k.0 (at_most_three r k.1) ∙ S.op_home r k.1 ∙ sym (S.reads_body r (not_five r k.1));
        op_place = λ r h. let k = op_kind r h in subst (λ (z : ℕ). Inner tb z r) (sym (S.reads_body r (not_five r k.1))) (inner_at t S r k.0 (not_five r k.1));
        uses = every_use;
        in_for = λ L v h. Tables.for_row t S L (carried_by t S L v h).is_loop;
        in_before = λ L v h. carried_before t S L v (carried_by t S L v h);
        in_born = λ L v h. let C = carried_by t S L v h in let b = carried_before t S L v C in born_by_lem v L (let l = C.below in omega arith) b (carried_passed t S L v C);
        in_home = λ L v h. let C = carried_by t S L v h in λ e. carried_home t S L v C (sym (home_is L v C) ∙ e);
      }
    where
      home_is : (L v : ℕ) → CarriedBy t S L v → tb.home v ≡ home t v
      home_is L v C = Tables.home_of t v (let a = carried_before t S L v C in let l = C.below in omega arith)
          (subst (λ (z : ℕ). kind_at t z ≤ 6) C.is_operand (S.operands C.row C.place C.row_below_lem C.place_below).is_value)
