-- The way of a value out of the bodies that use it: loop by loop going outward, up to its home.
--
--   is_loop, below            a body on the way that is not home is a loop
--   way_on, less_deep         the body around it is on the way, and lies less deep
--   nine_at_most              no body on the way lies deeper than 8
--
-- Assumes nothing.
use Rattle.std.specs.Prelude.{ℕ, ◌<◌, ◌≡◌, ◌≢◌, ◌⊎◌, List, get_or}
use Rattle.std.proofs.Common.{sym, ap, ◌∙◌, subst, inl, inr, arith}
use Rattle.table.specs.Rows.{kind_at, size}
use Rattle.table.specs.Scan.{body_of, home}
use Rattle.structure.specs.Depth.{depth, depth_falls, eight_at_most}
use Rattle.structure.specs.Spans.{Encloses}
use Rattle.structure.specs.Structure.{Structure, right_table_has_structure}
use Rattle.laid.specs.Scanned.{out_of, at_the_rim, around_body}
use Rattle.carrying.specs.Kept.{Passing, Bodies, OnTheWay}

module _ (t : List ℕ) (n : ℕ) (p : Passing t n) where
  abbrev S : Structure t
  S = right_table_has_structure t p.right

  -- a body on the way that is not home is a loop
  pub is_loop : (v h b : ℕ) → h ≡ home t v → b ≢ h → OnTheWay t v b → (b < size t) × (kind_at t b ≡ 4)
  is_loop v h b e d w = go w.body
    where
      go : (b ≡ size t) ⊎ ((b < size t) × (kind_at t b ≡ 4)) → (b < size t) × (kind_at t b ≡ 4)
      go (inl q) = absurd (d (q ∙ sym (at_the_rim t S (home t v) (subst (Encloses t (home t v)) q w.around)) ∙ sym e))
      go (inr q) = q

  pub way_on : (v h b x : ℕ) → h ≡ home t v → b ≢ h → OnTheWay t v b → x ≡ body_of t b → OnTheWay t v x
  way_on v h b x e d w q =
      let l = is_loop v h b e d w in
      subst (OnTheWay t v) (sym q)
      (record { around = out_of t S (home t v) b l.0 l.1 (λ z. d (sym z ∙ sym e)) w.around; body = around_body t S b l.0 })

  pub below : (v h b : ℕ) → h ≡ home t v → b ≢ h → OnTheWay t v b → b < n
  below v h b e d w = let l = (is_loop v h b e d w).0 in let q = p.rows in omega arith

  -- The body around lies less deep, and none deeper than 8: a call for each body on the way is at most nine calls deep.
  pub less_deep : (m v h b x : ℕ) → depth t b ≡ m → h ≡ home t v → b ≢ h → OnTheWay t v b → x ≡ body_of t b → depth t x < m
  less_deep m v h b x r e d w q = let f = depth_falls t p.right b (is_loop v h b e d w).0 in let y : depth t x ≡ depth t (body_of t b) = ap (depth t) q in omega arith

  pub nine_at_most : (v b : ℕ) → OnTheWay t v b → depth t b < 9
  nine_at_most v b w = let z = eight_at_most t p.right b w.body in omega arith

  -- the body around, as noted
  pub noted : (b x : ℕ) (bodies : List ℕ) → Bodies t n bodies → b < n → x ≡ get_or bodies b 0 → x ≡ body_of t b
  noted b x bodies B l e = e ∙ B.body b l
