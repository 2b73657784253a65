-- How the code goes down the rows: the laws of the scan in the code's terms. Assumes nothing.
use Prim.Native.Nat.{ℕ, ◌+◌, ◌≤◌, ◌<◌}
use mathlib.Core.Path.{◌≡◌, sym, ap, ◌∙◌}
use mathlib.Core.Logic.{◌≢◌}
use mathlib.Core.List.{List}
use native.Mathlib.Omega.{arith}
use native.Mathlib.Numerals.{add-one}
use native.Mathlib.Decide.{ℕ_discrete}
use lib.ListN.{length, get_or, set, length-set}
use lib.Seq.{get_or-set_same, get_or-set_other}
use Rattle.table.specs.Rows.{kind_at}
use Rattle.table.specs.Scan.{body_of, home, reads}
use Rattle.structure.specs.Operands.{home_here}
use Rattle.structure.specs.Structure.{Structure, right_table_has_structure}
use Rattle.structure.specs.Behind.{body_after_for, body_after_end, body_after_other}
use Rattle.carrying.specs.Kept.{Passing, Bodies}

module _ (t : List ℕ) (n : ℕ) (p : Passing t n) where
  abbrev S : Structure t
  S = right_table_has_structure t p.right

  -- ---- the body behind a row
  pub for_opens : (r k : ℕ) → k ≡ kind_at t r → k ≡ 4 → r ≡ body_of t (r + 1)
  for_opens r k e h = sym (ap (body_of t) (add-one r) ∙ body_after_for t r (sym e ∙ h))

  pub end_body_below : (r k b : ℕ) → r < n → k ≡ kind_at t r → k ≡ 7 → b ≡ body_of t r → b < r
  end_body_below r k b l e h d = let q = p.rows in let z = (S.end_of_lem r (omega arith) (sym e ∙ h)).1 in omega arith

  pub end_leads_back : (r k b x : ℕ) (bodies : List ℕ) → Bodies t r bodies → r < n → k ≡ kind_at t r → k ≡ 7 → b ≡ body_of t r → x ≡ get_or bodies b 0 → x ≡ body_of t (r + 1)
  end_leads_back r k b x bodies B l e h d g =
      let q = p.rows in
      g ∙ B.body b (end_body_below r k b l e h d) ∙ ap (body_of t) d ∙ sym (ap (body_of t) (add-one r) ∙ body_after_end t p.right r (omega arith) (sym e ∙ h))

  pub other_stays : (r k b : ℕ) → k ≡ kind_at t r → k ≢ 4 → k ≢ 7 → b ≡ body_of t r → b ≡ body_of t (r + 1)
  other_stays r k b e a c d = d ∙ sym (ap (body_of t) (add-one r) ∙ body_after_other t r (λ z. a (e ∙ z)) (λ z. c (e ∙ z)))

  -- ---- all rows
  pub none_noted : (bodies : List ℕ) → length bodies ≡ 512 → Bodies t 0 bodies
  none_noted bodies l = record { long = l; body = λ k h. absurd (omega arith) }

  pub one_noted : (r b : ℕ) (bodies : List ℕ) → Bodies t r bodies → r < n → b ≡ body_of t r → Bodies t (r + 1) (set bodies r b)
  one_noted r b bodies B l e = record { long = length-set bodies r b ∙ B.long; body = at }
    where
      at : (k : ℕ) → k < r + 1 → get_or (set bodies r b) k 0 ≡ body_of t k
      at k h =
          elim (ℕ_discrete k r) [
            | yes q ↦ ap (λ (x : ℕ). get_or (set bodies r b) x 0) q ∙ get_or-set_same bodies r b 0 (let f = p.few in let g = B.long in omega arith) ∙ e ∙ ap (body_of t) (sym q)
            | no q ↦ get_or-set_other bodies r k b 0 q ∙ B.body k (under q h)
          ]
        where
          under : k ≢ r → k < r + 1 → k < r
          under q h = omega arith

  pub fewer_noted : (r m : ℕ) (bodies : List ℕ) → r ≤ m → Bodies t m bodies → Bodies t r bodies
  fewer_noted r m bodies l B = record { long = B.long; body = λ k h. B.body k (omega arith) }

  -- ---- homes, and where operands are read
  pub start_home : (v k : ℕ) → k ≡ kind_at t v → k ≤ 1 → n ≡ home t v
  start_home v k e h = p.rows ∙ sym (S.start_home v (omega arith))

  pub for_home : (v k : ℕ) → k ≡ kind_at t v → k ≡ 4 → v ≡ home t v
  for_home v k e h = sym (S.for_home v (sym e ∙ h))

  pub next_body_below : (v k b : ℕ) (bodies : List ℕ) → Bodies t n bodies → v < n → k ≡ kind_at t v → k ≡ 6 → b ≡ get_or bodies v 0 → b < n
  next_body_below v k b bodies B l e h d = let q = p.rows in let z = (S.next_row v (omega arith) (sym e ∙ h)).below in let w = B.body v l in omega arith

  pub next_home : (v k b x : ℕ) (bodies : List ℕ) → Bodies t n bodies → v < n → k ≡ kind_at t v → k ≡ 6 → b ≡ get_or bodies v 0 → x ≡ get_or bodies b 0 → x ≡ home t v
  next_home v k b x bodies B l e h d g =
      let q = p.rows in
      g ∙ B.body b (next_body_below v k b bodies B l e h d) ∙ ap (body_of t) (d ∙ B.body v l) ∙ sym (S.next_home v (omega arith) (sym e ∙ h))

  pub other_home : (v k x : ℕ) (bodies : List ℕ) → Bodies t n bodies → v < n → k ≡ kind_at t v → 1 < k → k ≢ 4 → k ≢ 6 → x ≡ get_or bodies v 0 → x ≡ home t v
  other_home v k x bodies B l e a b c g = g ∙ B.body v l ∙ sym (home_here t v (omega arith) (λ z. b (e ∙ z)) (λ z. c (e ∙ z)))

  pub arg_body_below : (v k b : ℕ) (bodies : List ℕ) → Bodies t n bodies → v < n → k ≡ kind_at t v → k ≡ 5 → b ≡ get_or bodies v 0 → b < n
  arg_body_below v k b bodies B l e h d = let q = p.rows in let z = (S.arg_row v (omega arith) (sym e ∙ h)).low in let w = B.body v l in omega arith

  pub arg_reads : (v k b x : ℕ) (bodies : List ℕ) → Bodies t n bodies → v < n → k ≡ kind_at t v → k ≡ 5 → b ≡ get_or bodies v 0 → x ≡ get_or bodies b 0 → x ≡ reads t v
  arg_reads v k b x bodies B l e h d g =
      let q = p.rows in
      g ∙ B.body b (arg_body_below v k b bodies B l e h d) ∙ ap (body_of t) (d ∙ B.body v l) ∙ sym (S.arg_reads v (omega arith) (sym e ∙ h))

  pub other_reads : (v k x : ℕ) (bodies : List ℕ) → Bodies t n bodies → v < n → k ≡ kind_at t v → k ≢ 5 → x ≡ get_or bodies v 0 → x ≡ reads t v
  other_reads v k x bodies B l e a g = g ∙ B.body v l ∙ sym (S.reads_body v (λ z. a (e ∙ z)))
