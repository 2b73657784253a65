-- The roles of a loop: its STREAM, GATE and guard, the SPLIT and the INVARIANT of each copy into it, the CARRY and the SPLIT of each of its ARGs.
--
--   in_loop                    a role is one of loop L
--   in_two, in_arg, two_in, arg_in
--                             of a copy's role and of an ARG's, there and back
--   in_one                    no role is one of two loops
--
-- Assumes nothing.
use Rattle.std.specs.Prelude.{◌≡◌, refl, ◌≢◌, Bool, true, false, ◌&&◌, ℕ, T, eqb}
use Rattle.std.proofs.Common.{sym, ◌∙◌, subst, arith, eqb→eq}
use Rattle.std.proofs.Math.Dec.{eqb_refl}
use Rattle.table.specs.Bodies.{Row, input, const, op, pick, for, arg, next, end, out, unknown}
use Rattle.lowered.specs.Roles.{Role, op_node, stream, gate, guard, copy_split, copy_invariant, carry, arg_split}
use Rattle.faithful.specs.Table.{Table, is_arg}

pub eqb_yes : (u : ℕ) → eqb u u ≡ true
eqb_yes u = go (eqb u u) refl
  where
    go : (b : Bool) → eqb u u ≡ b → eqb u u ≡ true
    go true e = e
    go false e = absurd (subst T e (eqb_refl u))

pub eqb_no : (u w : ℕ) → u ≢ w → eqb u w ≡ false
eqb_no u w n = go (eqb u w) refl
  where
    go : (b : Bool) → eqb u w ≡ b → eqb u w ≡ false
    go true e = absurd (n (eqb→eq u w (subst T (sym e) tt)))
    go false e = e

pub is_eqb : (u w : ℕ) → eqb u w ≡ true → u ≡ w
is_eqb u w h = eqb→eq u w (subst T (sym h) tt)

and_l : (a b : Bool) → (a && b) ≡ true → a ≡ true
and_l true b h = refl
and_l false b h = h

and_r : (a b : Bool) → (a && b) ≡ true → b ≡ true
and_r true b h = h
and_r false b h = let z : ◌≡◌ {A = ℕ} 0 1 = cc in absurd (omega arith)

and_no : (a b : Bool) → a ≡ false → (a && b) ≡ false
and_no true b h = let z : ◌≡◌ {A = ℕ} 0 1 = cc in absurd (omega arith)
and_no false b h = refl

module _ (tb : Table) where
  -- the roles of loop L
  abbrev pub in_loop : ℕ → Role → Bool
  in_loop L (op_node r) = false
  in_loop L (stream M) = eqb M L
  in_loop L (gate M) = eqb M L
  in_loop L (guard M) = eqb M L
  in_loop L (copy_split M v) = eqb M L && tb.carried M v
  in_loop L (copy_invariant M v) = eqb M L && tb.carried M v
  in_loop L (carry a) = eqb (tb.loop a) L && is_arg (tb.row a)
  in_loop L (arg_split a) = eqb (tb.loop a) L && is_arg (tb.row a)

  pub arg_row : (a : ℕ) → is_arg (tb.row a) ≡ true → (i : ℕ) × (tb.row a ≡ arg i)
  arg_row a h = go (tb.row a) refl h
    where
      go : (d : Row) → tb.row a ≡ d → is_arg d ≡ true → (i : ℕ) × (tb.row a ≡ arg i)
      go input q k = let z : ◌≡◌ {A = ℕ} 0 1 = cc in absurd (omega arith)
      go (const x) q k = let z : ◌≡◌ {A = ℕ} 0 1 = cc in absurd (omega arith)
      go (op c x y) q k = let z : ◌≡◌ {A = ℕ} 0 1 = cc in absurd (omega arith)
      go (pick c x y) q k = let z : ◌≡◌ {A = ℕ} 0 1 = cc in absurd (omega arith)
      go (for s t b u c) q k = let z : ◌≡◌ {A = ℕ} 0 1 = cc in absurd (omega arith)
      go (arg i) q k = (i, q)
      go (next x) q k = let z : ◌≡◌ {A = ℕ} 0 1 = cc in absurd (omega arith)
      go end q k = let z : ◌≡◌ {A = ℕ} 0 1 = cc in absurd (omega arith)
      go unknown q k = let z : ◌≡◌ {A = ℕ} 0 1 = cc in absurd (omega arith)
      go (out x) q k = let z : ◌≡◌ {A = ℕ} 0 1 = cc in absurd (omega arith)

  pub in_two : (L M v : ℕ) → (eqb M L && tb.carried M v) ≡ true → (M ≡ L) × (tb.carried M v ≡ true)
  in_two L M v h = (is_eqb M L (and_l (eqb M L) (tb.carried M v) h), and_r (eqb M L) (tb.carried M v) h)

  pub in_arg : (L a : ℕ) → (eqb (tb.loop a) L && is_arg (tb.row a)) ≡ true → (tb.loop a ≡ L) × (is_arg (tb.row a) ≡ true)
  in_arg L a h = (is_eqb (tb.loop a) L (and_l (eqb (tb.loop a) L) (is_arg (tb.row a)) h), and_r (eqb (tb.loop a) L) (is_arg (tb.row a)) h)

  pub two_in : (L v : ℕ) → tb.carried L v ≡ true → (eqb L L && tb.carried L v) ≡ true
  two_in L v h = rw (eqb_yes L, h)

  pub arg_in : (L a : ℕ) → tb.loop a ≡ L → is_arg (tb.row a) ≡ true → (eqb (tb.loop a) L && is_arg (tb.row a)) ≡ true
  arg_in L a e h = rw (e, eqb_yes L, h)

  pub two_out : (L M : ℕ) (b : Bool) → M ≢ L → (eqb M L && b) ≡ false
  two_out L M b n = and_no (eqb M L) b (eqb_no M L n)

  one_in : (L M N : ℕ) → eqb N M ≡ true → M ≢ L → eqb N L ≡ false
  one_in L M N h n = eqb_no N L (λ e. n (sym (is_eqb N M h) ∙ e))

  pub in_one : (L M : ℕ) (n : Role) → in_loop M n ≡ true → M ≢ L → in_loop L n ≡ false
  in_one L M (op_node r) h n = refl
  in_one L M (stream N) h n = one_in L M N h n
  in_one L M (gate N) h n = one_in L M N h n
  in_one L M (guard N) h n = one_in L M N h n
  in_one L M (copy_split N v) h n = and_no (eqb N L) (tb.carried N v) (one_in L M N (and_l (eqb N M) (tb.carried N v) h) n)
  in_one L M (copy_invariant N v) h n = and_no (eqb N L) (tb.carried N v) (one_in L M N (and_l (eqb N M) (tb.carried N v) h) n)
  in_one L M (carry a) h n = and_no (eqb (tb.loop a) L) (is_arg (tb.row a)) (one_in L M (tb.loop a) (and_l (eqb (tb.loop a) M) (is_arg (tb.row a)) h) n)
  in_one L M (arg_split a) h n = and_no (eqb (tb.loop a) L) (is_arg (tb.row a)) (one_in L M (tb.loop a) (and_l (eqb (tb.loop a) M) (is_arg (tb.row a)) h) n)

  -- a node of a loop is no OP or PICK
  pub no_op : (L r : ℕ) (n : Role) → in_loop L n ≡ true → n ≢ op_node r
  no_op L r n h e = let z : false ≡ true = subst (λ (m : Role). in_loop L m ≡ true) e h in let z : ◌≡◌ {A = ℕ} 0 1 = cc in omega arith
