-- How the NEXTs are paired with their ARGs, row by row. Assumes nothing.
use Prim.Native.Nat.{ℕ, suc, ◌+◌, ◌-◌, ◌≤◌, ◌<◌}
use mathlib.Core.Path.{◌≡◌, sym, ap, ◌∙◌, subst}
use mathlib.Core.Logic.{◌≢◌}
use mathlib.Core.List.{List}
use native.Mathlib.Omega.{arith}
use native.Mathlib.Decide.{ℕ_discrete}
use lib.ListN.{length, get_or, set, length-set}
use lib.Seq.{get_or-set_same, get_or-set_other}
use Rattle.table.specs.Rows.{kind_at, size}
use Rattle.table.specs.Scan.{body_of}
use Rattle.table.specs.Bodies.{arg_of, next_of, first_of}
use Rattle.structure.specs.Structure.{Structure, right_table_has_structure, in_table}
use Rattle.carrying.specs.Kept.{Passing, Bodies, Pairs, PairsBefore}
use Rattle.carrying.specs.Served.{behind_next_serves, first_next_serves}

module _ (t : List ℕ) (n : ℕ) (p : Passing t n) where
  abbrev S : Structure t
  S = right_table_has_structure t p.right

  in_rows : (r : ℕ) → r < n → r < size t
  in_rows r l = let q = p.rows in omega arith

  -- ---- the ARG of a NEXT
  pub not_first : (r : ℕ) → r < n → kind_at t r ≡ 6 → 1 ≤ r
  not_first r l k = let z = (S.next_row r (in_rows r l) k).below in omega arith

  pub arg_before : (r : ℕ) → r < n → kind_at t r ≡ 6 → arg_of t r < r
  arg_before r l k =
      let N = S.next_row r (in_rows r l) k in
      let a = N.arg_kind in
      let A = S.arg_row (arg_of t r) (in_table t S (arg_of t r) (λ z. omega arith)) N.arg_kind in
      let h = A.high in
      let b : first_of t (body_of t (arg_of t r)) ≡ first_of t (body_of t r) = ap (first_of t) N.arg_body in
      let c = N.low in
      omega arith

  pub served_on : (r k : ℕ) (pairs : List ℕ) → PairsBefore t r pairs → r < n → kind_at t r ≡ 6 → k ≡ kind_at t (r - 1) → k ≡ 6 → get_or pairs (r - 1) 0 + 1 ≡ arg_of t r
  served_on r k pairs P l h e d =
      let z = not_first r l h in
      let one : r ≡ suc (r - 1) = omega arith in
      let a = P.arg (r - 1) (omega arith) (sym e ∙ d) in
      let q = in_rows r l in
      let b = behind_next_serves t p.right (r - 1) (omega arith) (sym e ∙ d) in
      let c : arg_of t r ≡ arg_of t (suc (r - 1)) = ap (arg_of t) one in
      omega arith

  pub served_first : (r k : ℕ) (bodies : List ℕ) → Bodies t n bodies → r < n → kind_at t r ≡ 6 → k ≡ kind_at t (r - 1) → k ≢ 6 → get_or bodies r 0 + 1 ≡ arg_of t r
  served_first r k bodies B l h e d =
      let z = not_first r l h in
      let one : r ≡ suc (r - 1) = omega arith in
      let q = in_rows r l in
      let b = first_next_serves t p.right (r - 1) (omega arith) (subst (λ (x : ℕ). kind_at t x ≡ 6) one h) (λ y. d (e ∙ y)) in
      let c : arg_of t r ≡ arg_of t (suc (r - 1)) = ap (arg_of t) one in
      let g : body_of t r ≡ body_of t (suc (r - 1)) = ap (body_of t) one in
      let a = B.body r l in
      omega arith

  -- ---- one row more
  pub none_paired : (pairs : List ℕ) → length pairs ≡ 512 → PairsBefore t 0 pairs
  none_paired pairs l = record { long = l; arg = λ x h k. absurd (omega arith); next = λ a h k b. absurd (omega arith) }

  pub other_passed : (r k : ℕ) (pairs : List ℕ) → k ≡ kind_at t r → k ≢ 6 → PairsBefore t r pairs → PairsBefore t (r + 1) pairs
  other_passed r k pairs e d P =
      record {
        long = P.long;
        arg = λ x h q. P.arg x (under x (λ z. d (e ∙ ap (kind_at t) (sym z) ∙ q)) h) q;
        next = λ a h q l. P.next a h q (under (next_of t a) (λ z. d (e ∙ ap (kind_at t) (sym z) ∙ (S.arg_row a h q).next_kind)) l);
      }
    where
      under : (x : ℕ) → x ≢ r → x < r + 1 → x < r
      under x z h = omega arith

  pub next_paired : (r k a : ℕ) (pairs : List ℕ) → r < n → k ≡ kind_at t r → k ≡ 6 → a ≡ arg_of t r → PairsBefore t r pairs → PairsBefore t (r + 1) (set (set pairs r a) a r)
  next_paired r k a pairs l e d is P =
      record {
        long = length-set (set pairs r a) a r ∙ length-set pairs r a ∙ P.long;
        arg = λ x h q. elim (ℕ_discrete x r) [ yes z ↦ ap (λ (i : ℕ). get_or pairs' i 0) z ∙ at_next ∙ is ∙ ap (arg_of t) (sym z) | no z ↦ other x z (not_arg x q) ∙ P.arg x (under x z h) q ];
        next = λ b h q w. elim (ℕ_discrete b a) [
          | yes z ↦ ap (λ (i : ℕ). get_or pairs' i 0) z ∙ at_arg ∙ sym (ap (next_of t) (z ∙ is) ∙ N-next)
          | no z ↦ other b (not_next b q) z ∙ P.next b h q (under (next_of t b) (λ y. z (sym (S.arg_row b h q).next_arg ∙ ap (arg_of t) y ∙ sym is)) w)
        ];
      }
    where
      pairs' : List ℕ
      pairs' = set (set pairs r a) a r

      is_next_lem : kind_at t r ≡ 6
      is_next_lem = sym e ∙ d

      N-next : next_of t (arg_of t r) ≡ r
      N-next = (S.next_row r (in_rows r l) is_next_lem).arg_next

      arg_kind : kind_at t a ≡ 5
      arg_kind = ap (kind_at t) is ∙ (S.next_row r (in_rows r l) is_next_lem).arg_kind

      before : a < r
      before = let z = arg_before r l is_next_lem in omega arith

      under : (x : ℕ) → x ≢ r → x < r + 1 → x < r
      under x z h = omega arith

      not_arg : (x : ℕ) → kind_at t x ≡ 6 → x ≢ a
      not_arg x q z = let y : kind_at t x ≡ 5 = ap (kind_at t) z ∙ arg_kind in omega arith

      not_next : (x : ℕ) → kind_at t x ≡ 5 → x ≢ r
      not_next x q z = let y : kind_at t x ≡ 6 = ap (kind_at t) z ∙ is_next_lem in omega arith

      at_next : get_or pairs' r 0 ≡ a
      at_next = get_or-set_other (set pairs r a) a r r 0 (λ z. let b = before in omega arith) ∙ get_or-set_same pairs r a 0 (let f = p.few in let g = P.long in omega arith)

      at_arg : get_or pairs' a 0 ≡ r
      at_arg = get_or-set_same (set pairs r a) a r 0 (let f = p.few in let g = P.long in let b = before in let s = length-set pairs r a in omega arith)

      other : (x : ℕ) → x ≢ r → x ≢ a → get_or pairs' x 0 ≡ get_or pairs x 0
      other x y z = get_or-set_other (set pairs r a) a x r 0 z ∙ get_or-set_other pairs r x a 0 y

  pub all_paired : (r : ℕ) (pairs : List ℕ) → r ≤ n → n ≤ r → PairsBefore t r pairs → Pairs t pairs
  all_paired r pairs a b P =
      let q : r ≡ size t = let z = p.rows in omega arith in
      record {
        long = P.long;
        arg = λ x h k. P.arg x (omega arith) k;
        next = λ x h k. P.next x h k (let z = (S.arg_row x h k).next_kind in let y = in_table t S (next_of t x) (λ w. omega arith) in omega arith);
      }
