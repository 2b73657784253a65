-- The nodes of one row laid down, kind by kind, and of all rows. Assumes nothing.
use Prim.Native.Nat.{ℕ, zero, suc, ◌+◌, ◌*◌, ◌≤◌, ◌<◌}
use mathlib.Core.Path.{◌≡◌, refl, sym, ap, ◌∙◌, subst}
use mathlib.Core.Logic.{◌≢◌, ◌⊎◌, inl, inr}
use mathlib.Core.Bool.{true}
use mathlib.Core.List.{List, [], ◌∷◌, ◌++◌}
use native.Mathlib.Omega.{arith}
use native.Mathlib.Decide.{ℕ_discrete}
use lib.ListN.{length, get_or, length-append}
use lib.Seq.{sets}
use Rattle.step.specs.Kinds.{STREAM, GATE, CARRY, SPLIT, OP, PICK}
use Rattle.graph.specs.Graph.{absent}
use Rattle.table.specs.Rows.{kind_at, word, size, operand_count}
use Rattle.table.specs.Scan.{body_of}
use Rattle.table.specs.Bodies.{next_of}
use Rattle.structure.specs.Structure.{Structure, right_table_has_structure, in_table}
use Rattle.lowered.specs.Gathered.{gathered}
use Rattle.lowered.specs.Roles.{op_node, stream, gate, guard, carry, arg_split}
use Rattle.lowered.specs.Sources.{is_op}
use Rattle.lowered.specs.Lower.{row_roles, roles, plain_nodes}
use Rattle.laid.specs.Lists.{below_or_last}
use Rattle.laid.specs.Made.{op_kind}
use Rattle.laid.specs.Bases.{node_base, wire_base, node_base_op, node_base_for, node_base_arg}
use Rattle.laid.specs.Sourced.{operand_number}
use Rattle.written.specs.Plain.{RightRow}
use Rattle.written.specs.Places.{op_place, stream_place, gate_place, guard_place, carry_place, arg_split_place, op_node_lem, pick_node, stream_node_lem, gate_node, guard_node, carry_node, arg_split_node}
use Rattle.laying.specs.Rows.{op_row, pick_row, loop_rows, arg_rows, Known, RowRight, RowLaid, RowsLaid}
use Rattle.laying.proofs.Putting.{Put, laid}

-- ---- the bases fit
no_longer : {A : Type 0} (f : ℕ → List A) (n r : ℕ) → r ≤ n → length (gathered f r) ≤ length (gathered f n)
unfolding gathered
no_longer f zero r l = subst (λ (x : ℕ). length (gathered f x) ≤ 0) (let z : 0 ≡ r = omega arith in z) (omega arith)
no_longer f (suc n) r l =
    elim (below_or_last r (suc n) (omega arith)) [
      | inl q ↦ (let h = no_longer f n r (omega arith) in let a = length-append (gathered f n) (f n) in omega arith)
      | inr q ↦ subst (λ (x : ℕ). length (gathered f x) ≤ length (gathered f n ++ f n)) (sym q) (omega arith)
    ]

pub base_below : (t : List ℕ) (r : ℕ) → r < size t → node_base t (suc r) ≤ plain_nodes t
unfolding node_base plain_nodes roles
base_below t r l = no_longer (row_roles t) (size t) (suc r) (omega arith)

two_operands : (t : List ℕ) (r : ℕ) → kind_at t r ≡ 2 → operand_count (kind_at t r) ≡ 2
unfolding operand_count
two_operands t r k = rw k

three_operands : (t : List ℕ) (r : ℕ) → (kind_at t r ≡ 3) ⊎ (kind_at t r ≡ 4) → operand_count (kind_at t r) ≡ 3
unfolding operand_count
three_operands t r (inl k) = rw k
three_operands t r (inr k) = rw k

pub one_operand : (t : List ℕ) (r : ℕ) → (kind_at t r ≡ 5) ⊎ ((kind_at t r ≡ 6) ⊎ (kind_at t r ≡ 8)) → operand_count (kind_at t r) ≡ 1
unfolding operand_count
one_operand t r (inl k) = rw k
one_operand t r (inr (inl k)) = rw k
one_operand t r (inr (inr k)) = rw k

module _ (t bodies pairs nodes wires at : List ℕ) (K : Known t bodies pairs nodes wires at) where
  abbrev S : Structure t
  S = right_table_has_structure t K.passing.right

  operand_is : (r j p : ℕ) → r < size t → j < operand_count (kind_at t r) → p ≡ 3 * r + j → get_or at p 0 ≡ operand_number t r j
  operand_is r j p l u e = ap (λ (x : ℕ). get_or at x 0) e ∙ K.operands r j (l, u)

  module _ (r : ℕ) (l : r < size t) where
    abbrev i : ℕ
    i = get_or nodes r 0

    abbrev w : ℕ
    w = get_or wires r 0

    base : i ≡ node_base t r
    base = K.bases.node r l

    first : w ≡ wire_base t r
    first = K.bases.wire r l

    under : node_base t (suc r) ≤ 4096
    under = let a = base_below t r l in let b = K.fit in omega arith

    pub row_few : r < 512
    row_few = let f = K.passing.few in omega arith

    -- ---- OP and PICK
    is_op_lem : (kind_at t r ≡ 2) ⊎ (kind_at t r ≡ 3) → is_op t r ≡ true
    is_op_lem (inl k) = rw k
    is_op_lem (inr k) = rw k

    pub op_fits : (kind_at t r ≡ 2) ⊎ (kind_at t r ≡ 3) → i < 4096
    op_fits k = let a = node_base_op t r (is_op_lem k) in let b = under in let c = base in omega arith

    op_right : (rows new : List ℕ) → (kind_at t r ≡ 2) ⊎ (kind_at t r ≡ 3) → Put t rows new (node_base t r) → RowLaid t r rows new
    op_right rows new (inl k) Q =
        record { row = record { op = λ h. Q.row; loop = λ h. absurd (omega arith); arg = λ h. absurd (omega arith) }; stays = Q.stays; long = Q.long }
    op_right rows new (inr k) Q =
        record { row = record { op = λ h. Q.row; loop = λ h. absurd (omega arith); arg = λ h. absurd (omega arith) }; stays = Q.stays; long = Q.long }

    pub op_laid : (rows new : List ℕ) → kind_at t r ≡ 2 → length rows ≡ 28672 → new ≡ op_row rows i w (word t r 1) (get_or at (3 * r) 0) (get_or at (3 * r + 1) 0) → RowLaid t r rows new
    op_laid rows new k long e =
        let m = two_operands t r k in
        op_right rows new (inl k)
        (laid t rows new i (node_base t r) (op_node r) OP (word t r 1) (word t r 1) 0 0 (get_or at (3 * r) 0) (operand_number t r 0) (get_or at (3 * r + 1) 0) (operand_number t r 1) absent absent w (wire_base t r)
        long (op_fits (inl k)) e base (op_place t r l (is_op_lem (inl k))) (op_node_lem t S r l k)
        refl refl (operand_is r 0 (3 * r) l (omega arith) (omega arith)) (operand_is r 1 (3 * r + 1) l (omega arith) (omega arith)) refl first)

    pub pick_laid : (rows new : List ℕ) → kind_at t r ≡ 3 → length rows ≡ 28672 → new ≡ pick_row rows i w (get_or at (3 * r) 0) (get_or at (3 * r + 1) 0) (get_or at (3 * r + 2) 0) → RowLaid t r rows new
    pick_laid rows new k long e =
        let m = three_operands t r (inl k) in
        op_right rows new (inr k)
        (laid t rows new i (node_base t r) (op_node r) PICK 0 0 0 0 (get_or at (3 * r) 0) (operand_number t r 0) (get_or at (3 * r + 1) 0) (operand_number t r 1) (get_or at (3 * r + 2) 0) (operand_number t r 2) w (wire_base t r)
        long (op_fits (inr k)) e base (op_place t r l (is_op_lem (inr k))) (pick_node t S r l k)
        refl refl (operand_is r 0 (3 * r) l (omega arith) (omega arith)) (operand_is r 1 (3 * r + 1) l (omega arith) (omega arith)) (operand_is r 2 (3 * r + 2) l (omega arith) (omega arith)) first)

    -- ---- FOR
    pub loop_fits : kind_at t r ≡ 4 → i + 2 < 4096
    loop_fits k = let a = node_base_for t r k in let b = under in let c = base in omega arith

    pub loop_words : kind_at t r ≡ 4 → (word t r 4 ≤ 5) × (word t r 5 ≤ 4)
    loop_words k = let c = S.loop_codes r l k in let c0 = c.0 in let c1 = c.1 in (omega arith, omega arith)

    loop_put : (rows one two new : List ℕ) (a b d : ℕ) → kind_at t r ≡ 4 → length rows ≡ 28672
        → a ≡ operand_number t r 0 → b ≡ operand_number t r 1 → d ≡ operand_number t r 2
        → one ≡ sets rows (7 * i) (0 ∷ (5 * word t r 4 + word t r 5) ∷ 0 ∷ a ∷ b ∷ d ∷ w ∷ [])
        → two ≡ sets one (7 * (i + 1)) (1 ∷ 0 ∷ 0 ∷ w ∷ (w + 1) ∷ absent ∷ (w + 2) ∷ [])
        → new ≡ sets two (7 * (i + 2)) (7 ∷ (3 + word t r 5) ∷ 0 ∷ a ∷ d ∷ absent ∷ (w + 4) ∷ [])
        → RowLaid t r rows new
    loop_put rows one two new a b d k long oa ob od e₁ e₂ e₃ =
        let f = loop_fits k in
        let p = base in
        let q = first in
        let A = laid t rows one i (node_base t r) (stream r) STREAM (5 * word t r 4 + word t r 5) (5 * word t r 4 + word t r 5) 0 0 a (operand_number t r 0) b (operand_number t r 1) d (operand_number t r 2) w (wire_base t r)
        long (omega arith) e₁ p (stream_place t r l k) (stream_node_lem t S r l k) refl refl oa ob od q in
        let B = laid t one two (i + 1) (node_base t r + 1) (gate r) GATE 0 0 0 0 w (wire_base t r) (w + 1) (wire_base t r + 1) absent absent (w + 2) (wire_base t r + 2)
        A.long (omega arith) e₂ (omega arith) (gate_place t r l k) (gate_node t S r l k) refl refl q (omega arith) refl (omega arith) in
        let C = laid t two new (i + 2) (node_base t r + 2) (guard r) OP (3 + word t r 5) (3 + word t r 5) 0 0 a (operand_number t r 0) d (operand_number t r 2) absent absent (w + 4) (wire_base t r + 4)
        B.long (omega arith) e₃ (omega arith) (guard_place t r l k) (guard_node t S r l k) refl refl oa od refl (omega arith) in
        record {
          row = record {
            op = λ h. not_op h k;
            loop = λ h. (C.stays _ (B.stays _ A.row), C.stays _ B.row, C.row);
            arg = λ h. absurd (omega arith);
          };
          stays = λ j z. C.stays j (B.stays j (A.stays j z));
          long = C.long;
        }
      where
        not_op : is_op t r ≡ true → kind_at t r ≡ 4 → RightRow t new (node_base t r)
        not_op h k = elim (op_kind t r h) [ inl z ↦ absurd (omega arith) | inr z ↦ absurd (omega arith) ]

    pub loop_laid : (rows new : List ℕ) → kind_at t r ≡ 4 → length rows ≡ 28672
        → new ≡ loop_rows rows i w (word t r 4) (word t r 5) (get_or at (3 * r) 0) (get_or at (3 * r + 1) 0) (get_or at (3 * r + 2) 0)
        → RowLaid t r rows new
    loop_laid rows new k long e =
        let m = three_operands t r (inr k) in
        loop_put rows _ _ new _ _ _ k long
        (operand_is r 0 (3 * r) l (omega arith) (omega arith))
        (operand_is r 1 (3 * r + 1) l (omega arith) (omega arith))
        (operand_is r 2 (3 * r + 2) l (omega arith) (omega arith))
        refl refl e

    -- ---- ARG
    pub arg_fits : kind_at t r ≡ 5 → i + 1 < 4096
    arg_fits k = let a = node_base_arg t r k in let b = under in let c = base in omega arith

    pub arg_body : kind_at t r ≡ 5 → get_or bodies r 0 < 512
    arg_body k =
        let z = K.bodies_noted.body r l in
        let o = (S.arg_row r l k).low in
        let f = S.few in
        omega arith

    next_in : kind_at t r ≡ 5 → next_of t r < size t
    next_in k = let o = (S.arg_row r l k).next_kind in in_table t S (next_of t r) (λ y. omega arith)

    pub arg_next : kind_at t r ≡ 5 → get_or pairs r 0 < 512
    arg_next k =
        let z = K.pairs_noted.next r l k in
        let s = next_in k in
        let f = S.few in
        omega arith

    -- the raw condition of the loop around
    arg_raw : kind_at t r ≡ 5 → get_or wires (get_or bodies r 0) 0 + 1 ≡ wire_base t (body_of t r) + 1
    arg_raw k =
        let o = (S.arg_row r l k).low in
        ap (λ (x : ℕ). get_or wires x 0 + 1) (K.bodies_noted.body r l) ∙ ap (λ (x : ℕ). x + 1) (K.bases.wire (body_of t r) (omega arith))

    -- the operand of the NEXT that serves it
    arg_operand : kind_at t r ≡ 5 → get_or at (3 * get_or pairs r 0) 0 ≡ operand_number t (next_of t r) 0
    arg_operand k =
        let c = one_operand t (next_of t r) (inr (inl (S.arg_row r l k).next_kind)) in
        let z = K.pairs_noted.next r l k in
        operand_is (next_of t r) 0 (3 * get_or pairs r 0) (next_in k) (omega arith) (omega arith)

    arg_put : (rows one new : List ℕ) (raw a b : ℕ) → kind_at t r ≡ 5 → length rows ≡ 28672
        → raw ≡ wire_base t (body_of t r) + 1 → a ≡ operand_number t r 0 → b ≡ operand_number t (next_of t r) 0
        → one ≡ sets rows (7 * i) (2 ∷ 0 ∷ 0 ∷ raw ∷ a ∷ b ∷ w ∷ [])
        → new ≡ sets one (7 * (i + 1)) (4 ∷ 0 ∷ 0 ∷ raw ∷ w ∷ absent ∷ (w + 1) ∷ [])
        → RowLaid t r rows new
    arg_put rows one new raw a b k long er oa ob e₁ e₂ =
        let f = arg_fits k in
        let p = base in
        let q = first in
        let A = laid t rows one i (node_base t r) (carry r) CARRY 0 0 0 0 raw (wire_base t (body_of t r) + 1) a (operand_number t r 0) b (operand_number t (next_of t r) 0) w (wire_base t r)
        long (omega arith) e₁ p (carry_place t r l k) (carry_node t S r l k) refl refl er oa ob q in
        let C = laid t one new (i + 1) (node_base t r + 1) (arg_split r) SPLIT 0 0 0 0 raw (wire_base t (body_of t r) + 1) w (wire_base t r) absent absent (w + 1) (wire_base t r + 1)
        A.long (omega arith) e₂ (omega arith) (arg_split_place t r l k) (arg_split_node t S r l k) refl refl er q refl (omega arith) in
        record {
          row = record {
            op = λ h. not_op h k;
            loop = λ h. absurd (omega arith);
            arg = λ h. (C.stays _ A.row, C.row);
          };
          stays = λ j z. C.stays j (A.stays j z);
          long = C.long;
        }
      where
        not_op : is_op t r ≡ true → kind_at t r ≡ 5 → RightRow t new (node_base t r)
        not_op h k = elim (op_kind t r h) [ inl z ↦ absurd (omega arith) | inr z ↦ absurd (omega arith) ]

    pub arg_laid : (rows new : List ℕ) → kind_at t r ≡ 5 → length rows ≡ 28672
        → new ≡ arg_rows rows i w (get_or wires (get_or bodies r 0) 0 + 1) (get_or at (3 * r) 0) (get_or at (3 * get_or pairs r 0) 0)
        → RowLaid t r rows new
    arg_laid rows new k long e =
        let m = one_operand t r (inl k) in
        arg_put rows _ new _ _ _ k long (arg_raw k) (operand_is r 0 (3 * r) l (omega arith) (omega arith)) (arg_operand k) refl e

  -- ---- any other row has no nodes of its own
  pub none_laid : (rows : List ℕ) (r k : ℕ) → length rows ≡ 28672 → k ≡ kind_at t r → k ≢ 2 → k ≢ 3 → k ≢ 4 → k ≢ 5 → RowLaid t r rows rows
  none_laid rows r k long e a b c d =
      record {
        row = record {
          op = λ h. elim (op_kind t r h) [ inl z ↦ absurd (a (e ∙ z)) | inr z ↦ absurd (b (e ∙ z)) ];
          loop = λ h. absurd (c (e ∙ h));
          arg = λ h. absurd (d (e ∙ h));
        };
        stays = λ i z. z;
        long = long;
      }

-- ---- all rows
pub no_rows : (t rows : List ℕ) → length rows ≡ 28672 → RowsLaid t 0 rows rows
no_rows t rows long = record { each = λ q z. absurd (omega arith); stays = λ i z. z; long = long }

right_stays : (t : List ℕ) (q : ℕ) (rows new : List ℕ) → ((i : ℕ) → RightRow t rows i → RightRow t new i) → RowRight t q rows → RowRight t q new
right_stays t q rows new f R =
    record {
      op = λ h. f _ (R.op h);
      loop = λ h. (let z = R.loop h in (f _ z.0, f _ z.1, f _ z.2));
      arg = λ h. (let z = R.arg h in (f _ z.0, f _ z.1));
    }

pub one_row : (t : List ℕ) (r : ℕ) (rows mid new : List ℕ) → RowsLaid t r rows mid → RowLaid t r mid new → RowsLaid t (r + 1) rows new
one_row t r rows mid new A B =
    record {
      each = λ q z. elim (ℕ_discrete q r) [ yes y ↦ subst (λ (x : ℕ). RowRight t x new) (sym y) B.row | no y ↦ right_stays t q mid new B.stays (A.each q (omega arith)) ];
      stays = λ i z. B.stays i (A.stays i z);
      long = B.long;
    }

pub all_rows : (t : List ℕ) (r n : ℕ) (rows new : List ℕ) → r ≤ n → n ≤ r → RowsLaid t r rows new → RowsLaid t n rows new
all_rows t r n rows new a b R = subst (λ (x : ℕ). RowsLaid t x rows new) (let z : r ≡ n = omega arith in z) R
