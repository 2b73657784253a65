-- How the operands of the rows are linked, one after the other. Assumes nothing.
use Prim.Native.Nat.{ℕ, suc, ◌+◌, ◌*◌, ◌≤◌, ◌<◌}
use mathlib.Core.Path.{◌≡◌, sym, ap, ◌∙◌, subst}
use mathlib.Core.Logic.{◌≢◌, inl, inr}
use mathlib.Core.List.{List}
use native.Mathlib.Omega.{arith}
use native.Mathlib.Decide.{ℕ_discrete}
use lib.ListN.{length, get_or, set, length-set}
use lib.Seq.{get_or-set_same, get_or-set_other}
use Rattle.table.specs.Rows.{kind_at, size, operand_count, at_most_three}
use Rattle.table.specs.Bodies.{operand}
use Rattle.structure.specs.Structure.{Structure, right_table_has_structure}
use Rattle.carrying.specs.Kept.{Passing, IsUse, UseOrNone, Uses}

module _ (t : List ℕ) (n : ℕ) (p : Passing t n) where
  abbrev S : Structure t
  S = right_table_has_structure t p.right

  pub no_uses : (heads links : List ℕ) → length heads ≡ 512 → length links ≡ 1536 → ((v : ℕ) → v < 512 → get_or heads v 0 ≡ 0) → Uses t 0 heads links
  no_uses heads links a b z =
      record {
        heads_long = a;
        links_long = b;
        head = λ v l. inl (nothing v l);
        head_below = λ v l. let y = nothing v l in omega arith;
        head_last = λ r j u l. absurd (omega arith);
        link = λ r j u l. absurd (omega arith);
        link_below = λ r j u l. absurd (omega arith);
        link_last = λ r j q i u w l e o. absurd (omega arith);
      }
    where
      nothing : (v : ℕ) → v < size t → get_or heads v 0 ≡ 0
      nothing v l = z v (let f = S.few in omega arith)

  same_place : (r j q i : ℕ) → j < 3 → i < 3 → 3 * q + i ≡ 3 * r + j → (q ≡ r) × (i ≡ j)
  same_place r j q i a b e = (omega arith, omega arith)

  same_use_lem : (r j q i : ℕ) → IsUse t r j → IsUse t q i → 3 * q + i ≡ 3 * r + j → operand t q i ≡ operand t r j
  same_use_lem r j q i u w e =
      let a = at_most_three (kind_at t r) in
      let b = at_most_three (kind_at t q) in
      let x = u.1 in
      let y = w.1 in
      let z = same_place r j q i (omega arith) (omega arith) e in
      ap (λ (k : ℕ). operand t k i) z.0 ∙ ap (operand t r) z.1

  -- ---- one operand more
  module _ (r j v : ℕ) (heads links : List ℕ) (u : IsUse t r j) (is : v ≡ operand t r j) (U : Uses t (3 * r + j) heads links) where
    value_in : v < size t
    value_in = let z = (S.operands r j u.0 u.1).before in let l = u.0 in omega arith

    link_in : 3 * r + j < 1536
    link_in = let a = at_most_three (kind_at t r) in let l = u.0 in let x = u.1 in let f = S.few in omega arith

    pub head_in : v < 512
    head_in = let l = value_in in let f = S.few in omega arith

    abbrev heads' : List ℕ
    heads' = set heads v (3 * r + j + 1)

    abbrev links' : List ℕ
    links' = set links (3 * r + j) (get_or heads v 0)

    head_here : get_or heads' v 0 ≡ 3 * r + j + 1
    head_here = get_or-set_same heads v (3 * r + j + 1) 0 (let a = U.heads_long in let b = head_in in omega arith)

    head_at : (w : ℕ) → w ≡ v → get_or heads' w 0 ≡ 3 * r + j + 1
    head_at w e = ap (λ (x : ℕ). get_or heads' x 0) e ∙ head_here

    head_other : (w : ℕ) → w ≢ v → get_or heads' w 0 ≡ get_or heads w 0
    head_other w e = get_or-set_other heads v w (3 * r + j + 1) 0 e

    link_at : (x : ℕ) → x ≡ 3 * r + j → get_or links' x 0 ≡ get_or heads v 0
    link_at x e =
        ap (λ (y : ℕ). get_or links' y 0) e
        ∙ get_or-set_same links (3 * r + j) (get_or heads v 0) 0 (let a = U.links_long in let b = link_in in omega arith)

    link_other : (x : ℕ) → x ≢ 3 * r + j → get_or links' x 0 ≡ get_or links x 0
    link_other x e = get_or-set_other links (3 * r + j) x (get_or heads v 0) 0 e

    under : (x : ℕ) → x ≢ 3 * r + j → x < 3 * r + j + 1 → x < 3 * r + j
    under x e l = omega arith

    pub one_use : Uses t (3 * r + j + 1) heads' links'
    one_use =
        record {
          heads_long = length-set heads v (3 * r + j + 1) ∙ U.heads_long;
          links_long = length-set links (3 * r + j) (get_or heads v 0) ∙ U.links_long;
          head = λ w l. elim (ℕ_discrete w v) [
            | yes e ↦ inr (r, j, head_at w e ∙ (let z : 3 * r + j + 1 ≡ suc (3 * r + j) = omega arith in z), u, sym (e ∙ is))
            | no e ↦ subst (UseOrNone t w) (sym (head_other w e)) (U.head w l)
          ];
          head_below = λ w l. elim (ℕ_discrete w v) [ yes e ↦ let z = head_at w e in omega arith | no e ↦ let z = head_other w e in let y = U.head_below w l in omega arith ];
          head_last = last;
          link = λ q i w l. elim (ℕ_discrete (3 * q + i) (3 * r + j)) [
            | yes e ↦ subst (UseOrNone t (operand t q i)) (sym (link_at (3 * q + i) e)) (subst (λ (x : ℕ). UseOrNone t x (get_or heads v 0)) (is ∙ sym (same_use_lem r j q i u w e)) (U.head v value_in))
            | no e ↦ subst (UseOrNone t (operand t q i)) (sym (link_other (3 * q + i) e)) (U.link q i w (under (3 * q + i) e l))
          ];
          link_below = λ q i w l. elim (ℕ_discrete (3 * q + i) (3 * r + j)) [
            | yes e ↦ let z = link_at (3 * q + i) e in let y = U.head_below v value_in in omega arith
            | no e ↦ let z = link_other (3 * q + i) e in let y = U.link_below q i w (under (3 * q + i) e l) in omega arith
          ];
          link_last = behind;
        }
      where
        last : (q i : ℕ) → IsUse t q i → 3 * q + i < 3 * r + j + 1 → 3 * q + i < get_or heads' (operand t q i) 0
        last q i w l =
            elim (ℕ_discrete (operand t q i) v) [
              | yes e ↦ let z = head_at (operand t q i) e in omega arith
              | no e ↦ let z = head_other (operand t q i) e in let y = U.head_last q i w (under (3 * q + i) (λ x. e (same_use_lem r j q i u w x ∙ sym is)) l) in omega arith
            ]

        behind : (q i s k : ℕ) → IsUse t q i → IsUse t s k → 3 * q + i < 3 * r + j + 1 → operand t s k ≡ operand t q i → 3 * s + k < 3 * q + i → 3 * s + k < get_or links' (3 * q + i) 0
        behind q i s k w x l e o =
            elim (ℕ_discrete (3 * q + i) (3 * r + j)) [
              | yes d ↦ let z = link_at (3 * q + i) d in
                  let y : 3 * s + k < get_or heads v 0 = subst (λ (a : ℕ). 3 * s + k < get_or heads a 0) (e ∙ same_use_lem r j q i u w d ∙ sym is) (U.head_last s k x (omega arith)) in
                  omega arith
              | no d ↦ let z = link_other (3 * q + i) d in let y = U.link_last q i s k w x (under (3 * q + i) d l) e o in omega arith
            ]

  -- ---- in the code's terms
  pub use_here : (r m k j : ℕ) → r < n → k ≡ kind_at t r → m ≡ operand_count k → j < m → IsUse t r j
  use_here r m k j l e d h = let rows = p.rows in let c : m ≡ operand_count (kind_at t r) = d ∙ ap operand_count e in (omega arith, omega arith)

  -- behind a row's last operand nothing is left of the row
  pub row_linked : (r m k j : ℕ) (heads links : List ℕ) → k ≡ kind_at t r → m ≡ operand_count k → j ≤ m → m ≤ j → Uses t (3 * r + j) heads links → Uses t (3 * (r + 1)) heads links
  row_linked r m k j heads links e d a b U =
      record {
        heads_long = U.heads_long;
        links_long = U.links_long;
        head = U.head;
        head_below = λ v l. let z = U.head_below v l in let y = at_most_three (kind_at t r) in let c = count in omega arith;
        head_last = λ q i u l. U.head_last q i u (early q i u l);
        link = λ q i u l. U.link q i u (early q i u l);
        link_below = λ q i u l. U.link_below q i u (early q i u l);
        link_last = λ q i s x u w l. U.link_last q i s x u w (early q i u l);
      }
    where
      count : j ≡ operand_count (kind_at t r)
      count = let c : m ≡ operand_count (kind_at t r) = d ∙ ap operand_count e in omega arith

      early : (q i : ℕ) → IsUse t q i → 3 * q + i < 3 * (r + 1) → 3 * q + i < 3 * r + j
      early q i u l = elim (ℕ_discrete q r) [ yes z ↦ here z (subst (λ (x : ℕ). i < operand_count (kind_at t x)) z u.1) | no z ↦ above z (at_most_three (kind_at t q)) u.1 ]
        where
          here : q ≡ r → i < operand_count (kind_at t r) → 3 * q + i < 3 * r + j
          here z h = let c = count in omega arith

          above : q ≢ r → operand_count (kind_at t q) ≤ 3 → i < operand_count (kind_at t q) → 3 * q + i < 3 * r + j
          above z x y = omega arith

  pub all_linked : (r : ℕ) (heads links : List ℕ) → r ≤ n → n ≤ r → Uses t (3 * r) heads links → Uses t (3 * n) heads links
  all_linked r heads links a b U = subst (λ (x : ℕ). Uses t (3 * x) heads links) (let z : r ≡ n = omega arith in z) U

  pub from_first : (r : ℕ) (heads links : List ℕ) → Uses t (3 * r) heads links → Uses t (3 * r + 0) heads links
  from_first r heads links U = subst (λ (x : ℕ). Uses t x heads links) (let z : 3 * r ≡ 3 * r + 0 = omega arith in z) U

  pub to_next : (r j : ℕ) (heads links : List ℕ) → Uses t (3 * r + j + 1) heads links → Uses t (3 * r + (j + 1)) heads links
  to_next r j heads links U = subst (λ (x : ℕ). Uses t x heads links) (let z : 3 * r + j + 1 ≡ 3 * r + (j + 1) = omega arith in z) U
