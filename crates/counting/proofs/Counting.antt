-- What the functions count, from the rows that they have seen.
--
--   all_carried, one_noted        the values carried into a loop are counted; one more loop is noted
--   unnamed_is, named_is          a value leads to no operand exactly if no row names it
--   plain_few                     there are not so many nodes and wires that a sum would leave a word
--   counted_all, count_refused    the answer
--
-- Assumes nothing.
use Rattle.std.proofs.Common.{eqb-true}
use Rattle.std.proofs.lemmas.Bool.{eqb-false}
use Prim.Native.Nat.{ℕ, zero, suc, ◌+◌, ◌-◌, ◌*◌, ◌<◌, ◌≤◌}
use mathlib.Core.Path.{◌≡◌, refl, sym, ap, ◌∙◌, subst}
use mathlib.Core.Logic.{◌≢◌, ◌⊎◌, inl, inr}
use mathlib.Core.Bool.{Bool, true, false, cond, not}
use mathlib.Core.List.{List, [], ◌∷◌}
use native.Mathlib.Omega.{arith}
use native.Mathlib.Nat.{mul-suc}
use native.Mathlib.Decide.{ℕ_discrete}
use borrow.Author.Tests.{ne_eqb}
use lib.Dec.{eqb}
use lib.ListN.{length, get_or, set, length-set, length-append}
use lib.Seq.{get_or-set_same, get_or-set_other}
use Rattle.word.specs.Words.{flag}
use Rattle.step.specs.Kinds.{outputs}
use Rattle.graph.specs.Below.{total, total_more}
use Rattle.table.specs.Rows.{kind_at, size, operand_count, at_most_three}
use Rattle.table.specs.Bodies.{operand, next_of}
use Rattle.table.specs.Check.{answer, table_refusal}
use Rattle.structure.specs.Structure.{Structure, in_table}
use Rattle.lowered.specs.Gathered.{gathered, each}
use Rattle.lowered.specs.Roles.{Role, op_node, stream, gate, guard, carry, arg_split}
use Rattle.lowered.specs.Sources.{carried, is_op, is_for, is_arg_row}
use Rattle.lowered.specs.Lower.{carried_into, copy, row_roles, roles, starts, outputs_by, role_outputs, role_kind, wires, plain_nodes, plain_wires, node_total, wire_total, start_total, result_total}
use Rattle.laid.specs.Those.{those_few}
use Rattle.laid.specs.Bases.{length_pieces, starts_long}
use Rattle.carrying.specs.Kept.{Passing, Pairs, Uses, Counted}
use Rattle.carrying.specs.Checked.{structure_of, number_is}
use Rattle.measuring.specs.Ready.{starts_few}
use Rattle.counting.specs.Idle.{length_those, named_any, named_from, named_by, row_uses, row_idle, totals_by_rows, uses_of_for, uses_of_other, idle_of_start, idle_of_op, idle_of_for, idle_of_arg, idle_of_other}
use Rattle.counting.specs.Answers.{counts, count_answer}

-- ---- values carried into a loop

module _ (t : List ℕ) (L : ℕ) where
  pub all_carried : (n v : ℕ) → n ≡ size t → v ≡ n → total (λ x. flag (carried t L x)) v ≡ length (carried_into t L)
  unfolding carried_into
  all_carried n v e d = ap (total (λ x. flag (carried t L x))) (d ∙ e) ∙ sym (length_those (carried t L) (size t))

  pub few_carried : size t ≤ 512 → length (carried_into t L) ≤ 512
  unfolding carried_into
  few_carried h = let f = those_few (carried t L) (size t) in omega arith

-- loops before row r are noted
pub record CountedBefore (t : List ℕ) (r : ℕ) (noted : List ℕ) : Type 0 where
  pub long : length noted ≡ 512
  pub count : (L : ℕ) → L < r → kind_at t L ≡ 4 → get_or noted L 0 ≡ length (carried_into t L)

pub one_noted : (t : List ℕ) (r c : ℕ) (noted : List ℕ) → CountedBefore t r noted → r < 512 → (kind_at t r ≡ 4 → c ≡ length (carried_into t r)) → CountedBefore t (r + 1) (set noted r c)
one_noted t r c noted C l h = record { long = length-set noted r c ∙ C.long; count = at }
  where
    at : (L : ℕ) → L < r + 1 → kind_at t L ≡ 4 → get_or (set noted r c) L 0 ≡ length (carried_into t L)
    at L q k =
        elim (ℕ_discrete r L) [
          | yes e ↦ (let n = C.long in subst (λ (x : ℕ). get_or (set noted r c) x 0 ≡ length (carried_into t x)) e (get_or-set_same noted r c 0 (omega arith) ∙ h (subst (λ (x : ℕ). kind_at t x ≡ 4) (sym e) k)))
          | no e ↦ get_or-set_other noted r L c 0 (λ z. e (sym z)) ∙ C.count L (omega arith) k
        ]

pub all_noted : (t : List ℕ) (n r : ℕ) (noted : List ℕ) → n ≡ size t → r ≡ n → CountedBefore t r noted → Counted t noted
all_noted t n r noted e d C = record { long = C.long; count = λ L l k. C.count L (omega arith) k }

-- ---- named values

module _ (t : List ℕ) (n : ℕ) (P : Passing t n) (heads links : List ℕ) (U : Uses t (3 * n) heads links) (v : ℕ) where
  pub unnamed_is : v < n → get_or heads v 0 ≡ 0 → 1 ≡ flag (not (named_any t v))
  unnamed_is l e = go (named_any t v) refl
    where
      go : (b : Bool) → named_any t v ≡ b → 1 ≡ flag (not b)
      go false q = refl
      go true q = absurd (no (named_from t v q))
        where
          no : (r : ℕ) × (j : ℕ) × (r < size t) × (j < operand_count (kind_at t r)) × (operand t r j ≡ v) → ⊥
          no m =
              let p = P.rows in
              let c = at_most_three (kind_at t m.0) in
              let lr = m.2 in
              let lj = m.3 in
              let h = U.head_last m.0 m.1 (m.2, m.3) (omega arith) in
              let d = ap (λ (x : ℕ). get_or heads x 0) m.4 in
              omega arith

  pub named_is : v < n → get_or heads v 0 ≢ 0 → 0 ≡ flag (not (named_any t v))
  named_is l e = go (U.head v (let p = P.rows in omega arith))
    where
      go : (get_or heads v 0 ≡ 0) ⊎ ((r : ℕ) × (j : ℕ) × (get_or heads v 0 ≡ suc (3 * r + j)) × ((r < size t) × (j < operand_count (kind_at t r))) × (operand t r j ≡ v)) → 0 ≡ flag (not (named_any t v))
      go (inl z) = absurd (e z)
      go (inr m) = rw (named_by t m.0 m.1 v m.3.0 m.3.1 m.4)

  pub unnamed_iff : v < n → flag (eqb (get_or heads v 0) 0) ≡ flag (not (named_any t v))
  unnamed_iff l = go (eqb (get_or heads v 0) 0) refl
    where
      go : (b : Bool) → eqb (get_or heads v 0) 0 ≡ b → flag b ≡ flag (not (named_any t v))
      go true q = unnamed_is l (eqb-true (get_or heads v 0) 0 q)
      go false q = named_is l (eqb-false (get_or heads v 0) 0 q)

-- ---- so many that no sum leaves a word

gathered_few : {A : Type 0} (f : ℕ → List A) (c n : ℕ) → ((r : ℕ) → length (f r) ≤ c) → length (gathered f n) ≤ c * n
unfolding gathered
gathered_few f c zero h = omega arith
gathered_few f c (suc n) h =
    let r = gathered_few f c n h in
    let a = length-append (gathered f n) (f n) in
    let b = h n in
    let m = mul-suc c n in
    omega arith

module _ (t : List ℕ) where
  roles_few : size t ≤ 512 → (r : ℕ) → length (row_roles t r) ≤ 1027
  unfolding row_roles
  roles_few h r = go (is_op t r) (is_for t r) (is_arg_row t r)
    where
      go : (a b c : Bool) → length (cond a (op_node r ∷ []) (cond b (stream r ∷ gate r ∷ guard r ∷ each (copy r) (carried_into t r)) (cond c (carry r ∷ arg_split r ∷ []) []))) ≤ 1027
      go true b c = omega arith
      go false true c = let p = length_pieces (copy r) 2 (λ v. refl) (carried_into t r) in let f = few_carried t r h in omega arith
      go false false true = omega arith
      go false false false = omega arith

  outputs_few : (ns : List Role) → length (each (role_outputs t) ns) ≤ 2 * length ns
  unfolding each
  outputs_few [] = omega arith
  outputs_few (n ∷ ns) =
      let r = outputs_few ns in
      let a = length-append (role_outputs t n) (each (role_outputs t) ns) in
      let o = two n (outputs (role_kind t n)) in
      omega arith
    where
      two : (n : Role) (k : ℕ) → length (outputs_by n k) ≤ 2
      two n zero = omega arith
      two n (suc zero) = omega arith
      two n (suc (suc k)) = omega arith

  pub plain_few : (S : Structure t) → (plain_nodes t ≤ 525824) × (plain_wires t ≤ 1052160)
  unfolding plain_nodes plain_wires roles wires
  plain_few S =
      let f = S.few in
      let g = gathered_few (row_roles t) 1027 (size t) (roles_few f) in
      let o = outputs_few (gathered (row_roles t) (size t)) in
      let a = length-append (starts t) (each (role_outputs t) (gathered (row_roles t) (size t))) in
      let s = starts_long t in
      let q = starts_few t S in
      (omega arith, omega arith)

-- ---- the answer

module _ (t : List ℕ) {k r : ℕ} (e : answer k r ≡ table_refusal t) where
  pub count_refused : (k ≡ 0 → ⊥) → counts 0 0 0 0 ≡ count_answer t
  unfolding count_answer
  count_refused n = rw (ne_eqb (table_refusal t).number 0 (λ q. n (sym (number_is t e) ∙ q)))

  pub counted_all : {N W S R : ℕ} → k ≡ 0 → N ≡ node_total t → W ≡ wire_total t → S ≡ start_total t → R ≡ result_total t → counts N W S R ≡ count_answer t
  unfolding count_answer
  counted_all z a b c d = rw (number_is t e, z, a, b, c, d)

-- the sums of the code
module _ (t : List ℕ) (n : ℕ) (P : Passing t n) {p w u i : ℕ} (ep : p ≡ plain_nodes t) (ew : w ≡ plain_wires t) (eu : u ≡ total (row_uses t) n) (ei : i ≡ total (row_idle t) n) where
  sums : (node_total t + w ≡ p + u + 2 * i) × (wire_total t + w ≡ 2 * u + 2 * i)
  sums =
      let T = totals_by_rows t (structure_of t n P) in
      let T0 = T.0 in
      let T1 = T.1 in
      let a = eu ∙ ap (total (row_uses t)) P.rows in
      let b = ei ∙ ap (total (row_idle t)) P.rows in
      (omega arith, omega arith)

  pub nodes_are : p + u + 2 * i - w ≡ node_total t
  nodes_are = let s = sums.0 in omega arith

  pub wires_are : 2 * u + 2 * i - w ≡ wire_total t
  wires_are = let s = sums.1 in omega arith

  pub wires_within : (w ≤ p + u + 2 * i) × (w ≤ 2 * u + 2 * i)
  wires_within = let a = sums.0 in let b = sums.1 in (omega arith, omega arith)

  pub plain_low : (p ≤ 525824) × (w ≤ 1052160)
  plain_low = let f = plain_few t (structure_of t n P) in let f0 = f.0 in let f1 = f.1 in (omega arith, omega arith)

-- ---- one row

module _ (t : List ℕ) (n : ℕ) (P : Passing t n) (r : ℕ) {k : ℕ} (ek : k ≡ kind_at t r) where
  S : Structure t
  S = structure_of t n P

  loop_count : (noted : List ℕ) → Counted t noted → r < n → k ≡ 4 → {c : ℕ} → c ≡ get_or noted r 0 → (c ≡ length (carried_into t r)) × (c ≤ 512)
  loop_count noted C l h e =
      let f = few_carried t r S.few in
      let q = P.rows in
      let d = e ∙ C.count r (omega arith) (sym ek ∙ h) in
      (d, omega arith)

  pub loop_low : (noted : List ℕ) → Counted t noted → r < n → k ≡ 4 → {c : ℕ} → c ≡ get_or noted r 0 → c ≤ 512
  loop_low noted C l h e = (loop_count noted C l h e).1

  pub uses_of_loop : (noted : List ℕ) → Counted t noted → r < n → k ≡ 4 → {c : ℕ} → c ≡ get_or noted r 0 → (7 + 4 * c ≡ row_uses t r) × (7 + 4 * c ≤ 3000)
  uses_of_loop noted C l h e =
      let d = loop_count noted C l h e in
      let d0 = d.0 in
      let d1 = d.1 in
      let u = uses_of_for t r (sym ek ∙ h) in
      (omega arith, omega arith)

  pub uses_of_none : k ≢ 2 → k ≢ 3 → k ≢ 4 → k ≢ 5 → k ≢ 8 → 0 ≡ row_uses t r
  uses_of_none a b c d e = sym (uses_of_other t r (λ q. a (ek ∙ q)) (λ q. b (ek ∙ q)) (λ q. c (ek ∙ q)) (λ q. d (ek ∙ q)) (λ q. e (ek ∙ q)))

  -- wires without a use

  pub idle_none : 5 < k → (0 ≡ row_idle t r) × (0 ≤ 3000)
  idle_none h = (sym (idle_of_other t S r (omega arith)), omega arith)

  pub idle_loop : (noted : List ℕ) → Counted t noted → r < n → k ≡ 4 → {o c f : ℕ} → o ≡ flag (not (named_any t r)) → o ≤ 1 → c ≡ get_or noted r 0 → f ≡ flag (eqb c 0) → f ≤ 1
      → (o + c + 2 * f ≡ row_idle t r) × (o + c + 2 * f ≤ 3000)
  idle_loop noted C l h eo lo ec ef lf =
      let q = P.rows in
      let d = loop_count noted C l h ec in
      let d0 = d.0 in
      let d1 = d.1 in
      let g = ef ∙ ap (λ (x : ℕ). flag (eqb x 0)) d0 in
      let i = idle_of_for t S r (omega arith) (sym ek ∙ h) in
      (omega arith, omega arith)

  pub next_there : (pairs : List ℕ) → Pairs t pairs → r < n → k ≡ 5 → {x : ℕ} → x ≡ get_or pairs r 0 → x < n
  next_there pairs Q l h e =
      let p = P.rows in
      let d = e ∙ Q.next r (omega arith) (sym ek ∙ h) in
      let m = (S.arg_row r (omega arith) (sym ek ∙ h)).next_kind in
      let b = in_table t S (next_of t r) (λ z. omega arith) in
      omega arith

  pub idle_arg : (pairs : List ℕ) → Pairs t pairs → r < n → k ≡ 5 → {o x y : ℕ} → o ≡ flag (not (named_any t r)) → o ≤ 1 → x ≡ get_or pairs r 0 → y ≡ flag (not (named_any t x)) → y ≤ 1
      → (o + y ≡ row_idle t r) × (o + y ≤ 3000)
  idle_arg pairs Q l h eo lo ex ey ly =
      let p = P.rows in
      let d = ex ∙ Q.next r (omega arith) (sym ek ∙ h) in
      let g = ey ∙ ap (λ (x : ℕ). flag (not (named_any t x))) d in
      let i = idle_of_arg t S r (omega arith) (sym ek ∙ h) in
      (omega arith, omega arith)

  pub idle_value : r < n → k ≤ 5 → k ≢ 4 → k ≢ 5 → {o : ℕ} → o ≡ flag (not (named_any t r)) → o ≤ 1 → (o ≡ row_idle t r) × (o ≤ 3000)
  idle_value l h a b {o} eo lo = (go k ek h a b, omega arith)
    where
      low : r < size t
      low = let p = P.rows in omega arith

      go : (k : ℕ) → k ≡ kind_at t r → k ≤ 5 → k ≢ 4 → k ≢ 5 → o ≡ row_idle t r
      go zero e h a b = eo ∙ sym (idle_of_start t S r low (omega arith))
      go (suc zero) e h a b = eo ∙ sym (idle_of_start t S r low (omega arith))
      go (suc (suc zero)) e h a b = eo ∙ sym (idle_of_op t S r low (inl (sym e)))
      go (suc (suc (suc zero))) e h a b = eo ∙ sym (idle_of_op t S r low (inr (sym e)))
      go (suc (suc (suc (suc zero)))) e h a b = absurd (a refl)
      go (suc (suc (suc (suc (suc zero))))) e h a b = absurd (b refl)
      go (suc (suc (suc (suc (suc (suc k)))))) e h a b = absurd (omega arith)

-- ---- sums

pub sum_more : (f : ℕ → ℕ) (r : ℕ) {s x : ℕ} → s ≡ total f r → x ≡ f r → s + x ≡ total f (r + 1)
sum_more f r e d = let m = total_more f r in omega arith

pub no_sum : (f : ℕ → ℕ) → 0 ≡ total f 0
unfolding total
no_sum f = refl
