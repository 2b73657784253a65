-- ARGs and NEXTs: the ARGs of a loop stand directly behind its FOR, its NEXTs directly before its END, and they pair off in order.
-- Main names: `args_counted`, `header_stack`, `arg_of_lem`, `next_of_lem`.
-- Assumes nothing.
use Prim.Native.Nat.{ℕ, zero, suc, ◌+◌, ◌-◌, ◌<◌, ◌≤◌}
use Rattle.std.specs.Prelude.{Bool, List, [], ◌∷◌, ◌≢◌, ◌⊎◌, ◌≡◌}
use Rattle.std.proofs.Math.Bool.{true, false, cond}
use Rattle.std.proofs.lemmas.Bool.{false≢true}
use Rattle.std.proofs.Common.{inl, inr, ◌∙◌, subst, eqb-true, ne_eqb, ltb-true}
use Rattle.std.proofs.Math.Path.{refl, sym, ap}
use native.Mathlib.Omega.{arith}
use Rattle.std.proofs.Math.Decide.{ℕ_discrete}
use Rattle.std.proofs.Math.Dec.{eqb}
use Rattle.table.specs.Rows.{kind_at, size}
use Rattle.table.specs.Scan.{Loop, opened, one_arg, one_next, at_head, outward, stack_at, body_of, holds}
use Rattle.table.specs.Check.{kind_before, arg_left, all_served}
use Rattle.table.specs.Kept.{entry_of}
use Rattle.table.specs.Bodies.{end_of, args_from, args_of, first_of, nexts_in, arg_of, next_of}
use Rattle.table.specs.Right.{TableRight}
use Rattle.structure.specs.Place.{behind_next, arg_behind, next_has_arg, end_is_served, stack_opens, stack_arg, stack_next}
use Rattle.structure.specs.Loops.{Head, innermost}
use Rattle.structure.specs.Spans.{member_here, nonempty, body_is, span, end_is_end_of}

module _ (t : List ℕ) where
  -- so many ARGs and then another kind are counted as so many
  pub args_counted : (m r k : ℕ) → k < m → ((a : ℕ) → r ≤ a → a < r + k → kind_at t a ≡ 5) → kind_at t (r + k) ≢ 5 → args_from m t r ≡ k
  unfolding args_from
  args_counted zero r k less all other = absurd (omega arith)
  args_counted (suc m) r zero less all other =
      let e : r + 0 ≡ r = omega arith in rw (ne_eqb (kind_at t r) 5 (λ q. other (subst (λ (x : ℕ). kind_at t x ≡ 5) (sym e) q)))
  args_counted (suc m) r (suc k) less all other =
      let e : r + suc k ≡ suc r + k = omega arith in
      rw (all r (omega arith) (omega arith)) (ap suc (args_counted m (suc r) k (omega arith) (λ a p q. all a (omega arith) (omega arith)) (λ q. other (subst (λ (x : ℕ). kind_at t x ≡ 5) (sym e) q))))

  -- so many ARGs are counted as so many at least
  pub args_least : (m r k : ℕ) → k ≤ m → ((a : ℕ) → r ≤ a → a < r + k → kind_at t a ≡ 5) → k ≤ args_from m t r
  unfolding args_from
  args_least m r zero less all = omega arith
  args_least zero r (suc k) less all = absurd (omega arith)
  args_least (suc m) r (suc k) less all =
      let IH = args_least m (suc r) k (omega arith) (λ a p q. all a (omega arith) (omega arith)) in
      rw (all r (omega arith) (omega arith)) (omega arith)

  -- what is counted is an ARG
  pub args_are : (m r a : ℕ) → r ≤ a → a < r + args_from m t r → kind_at t a ≡ 5
  unfolding args_from
  args_are zero r a p q = absurd (omega arith)
  args_are (suc m) r a p q = go (eqb (kind_at t r) 5) refl q (args_are m (suc r) a)
    where
      go : (b : Bool) → eqb (kind_at t r) 5 ≡ b → a < r + cond b (suc (args_from m t (suc r))) 0
          → (suc r ≤ a → a < suc r + args_from m t (suc r) → kind_at t a ≡ 5) → kind_at t a ≡ 5
      go true e q IH = elim (ℕ_discrete a r) [ yes y ↦ rw y (eqb-true (kind_at t r) 5 e) | no y ↦ IH (up y p) (omega arith) ]
        where
          up : a ≢ r → r ≤ a → suc r ≤ a
          up y p = omega arith
      go false e q IH = absurd (omega arith)

  -- the loops inside the header of L: L with the ARGs so far
  pub header_stack : (L j : ℕ) → kind_at t L ≡ 4 → ((a : ℕ) → L < a → a < suc L + j → kind_at t a ≡ 5) → stack_at t (suc L + j) ≡ entry_of L j 0 ∷ stack_at t L
  header_stack L zero k all = let e : suc L + 0 ≡ suc L = omega arith in rw e (stack_opens t L k)
  header_stack L (suc j) k all =
      let e : suc L + suc j ≡ suc (suc L + j) = omega arith in
      let one : j + 1 ≡ suc j = omega arith in
      let IH = header_stack L j k (λ a p q. all a p (omega arith)) in
      rw e (stack_arg t (suc L + j) (all (suc L + j) (omega arith) (omega arith)) ∙ ap (at_head one_arg) IH ∙ ap (λ (n : ℕ). entry_of L n 0 ∷ stack_at t L) one)

  -- the rows between a FOR and the first row of its body are ARGs of that loop
  pub header_rows : (L x : ℕ) → L < x → x < first_of t L → kind_at t x ≡ 5
  unfolding first_of args_of
  header_rows L x p q = args_are (size t - suc L) (suc L) x p q

  pub header_bodies : (L x : ℕ) → kind_at t L ≡ 4 → L < x → x < first_of t L → body_of t x ≡ L
  header_bodies L x k p q =
      let e : suc L + (x - suc L) ≡ x = omega arith in
      let st = header_stack L (x - suc L) k (λ a g h. header_rows L a g (omega arith)) in
      body_is t x (entry_of L (x - suc L) 0) (stack_at t L) (subst (λ (y : ℕ). stack_at t y ≡ entry_of L (x - suc L) 0 ∷ stack_at t L) e st)

-- an ARG row, in its loop
pub record ArgRow (t : List ℕ) (a : ℕ) : Type 0 where
  pub loop_for : kind_at t (body_of t a) ≡ 4
  pub low : body_of t a < a
  pub high : a < first_of t (body_of t a)
  pub loops : stack_at t a ≡ entry_of (body_of t a) (a - suc (body_of t a)) 0 ∷ stack_at t (body_of t a)
  pub next_kind : kind_at t (next_of t a) ≡ 6
  pub next_body : body_of t (next_of t a) ≡ body_of t a
  pub next_arg : arg_of t (next_of t a) ≡ a

-- a NEXT row, in its loop
pub record NextRow (t : List ℕ) (x : ℕ) : Type 0 where
  pub loop_for : kind_at t (body_of t x) ≡ 4
  pub below : body_of t x < x
  pub low : first_of t (body_of t x) ≤ x
  pub high : x < end_of t (body_of t x)
  pub arg_kind : kind_at t (arg_of t x) ≡ 5
  pub arg_body : body_of t (arg_of t x) ≡ body_of t x
  pub arg_next : next_of t (arg_of t x) ≡ x
  pub around : outward (stack_at t x) ≡ stack_at t (body_of t x)

module _ (t : List ℕ) (ok : TableRight t) where
  -- an ARG has an open loop before it
  header_open : (a : ℕ) → a < size t → kind_at t a ≡ 5 → (l : Loop) × (s : List Loop) × (stack_at t a ≡ l ∷ s)
  header_open zero less k = go (arg_behind t 0 (ok.row 0 less) k)
    where
      go : (kind_before t 0 ≡ 4) ⊎ (kind_before t 0 ≡ 5) → (l : Loop) × (s : List Loop) × (stack_at t 0 ≡ l ∷ s)
      go (inl e) = absurd (omega arith)
      go (inr e) = absurd (omega arith)
  header_open (suc b) less k = go (arg_behind t (suc b) (ok.row (suc b) less) k) (header_open b (omega arith))
    where
      go : (kind_at t b ≡ 4) ⊎ (kind_at t b ≡ 5) → (kind_at t b ≡ 5 → (l : Loop) × (s : List Loop) × (stack_at t b ≡ l ∷ s))
          → (l : Loop) × (s : List Loop) × (stack_at t (suc b) ≡ l ∷ s)
      go (inl e) IH = (opened b, stack_at t b, stack_opens t b e)
      go (inr e) IH = let q = IH e in (one_arg q.0, q.1, stack_arg t b e ∙ ap (at_head one_arg) q.2)

  -- once the header is behind, the ARGs counted are the ARGs
  pub args_known : (r : ℕ) (l : Loop) (s : List Loop) → r < size t → stack_at t r ≡ l ∷ s → kind_at t r ≢ 5 → args_of t l.row ≡ l.args
  unfolding args_of
  args_known r l s less q n =
      let h = innermost t ok r (omega arith) l s q in
      args_counted t (size t - suc l.row) (suc l.row) l.args (omega (arith, h.nexts_in_lem)) (λ a p w. h.arg_rows_lem a p (omega arith)) (λ k. past h (subst (λ (y : ℕ). kind_at t y ≡ 5) shift k))
    where
      shift : suc l.row + l.args ≡ suc (l.row + l.args)
      shift = omega arith

      under : (m : ℕ) → l.row + l.args + m < r → suc (l.row + l.args) ≢ r → suc (l.row + l.args) < r
      under m p y = omega arith

      past : Head t r l s → kind_at t (suc (l.row + l.args)) ≡ 5 → ⊥
      past h k = elim (ℕ_discrete (suc (l.row + l.args)) r) [ yes y ↦ n (subst (λ (z : ℕ). kind_at t z ≡ 5) y k) | no y ↦ h.shut (under l.nexts h.nexts_in_lem y) k ]

  -- one NEXT more of an open loop, and what follows it
  record Served (x i L m k : ℕ) (s : List Loop) : Type 0 where
    in_table : x + i < size t
    loops : stack_at t (x + i) ≡ entry_of L m (k + i) ∷ s
    more : k + i < m → kind_at t (x + i) ≡ 6
    all : k + i ≡ m → kind_at t (x + i) ≡ 7

  -- from a NEXT on NEXTs follow one another until all ARGs are served, and then comes END
  serve_on : (x L m k : ℕ) (s : List Loop) → x < size t → kind_at t x ≡ 6 → stack_at t x ≡ entry_of L m k ∷ s → k < m → (i : ℕ) → k + i ≤ m → Served x i L m k s
  serve_on x L m k s less kx q left zero p =
      let e : x + 0 ≡ x = omega arith in
      let f : k + 0 ≡ k = omega arith in
      record { in_table = omega arith; loops = rw (e, f) q; more = λ h. rw e kx; all = λ h. absurd (omega arith) }
  serve_on x L m k s less kx q left (suc i) p =
      let IH = serve_on x L m k s less kx q left i (omega arith) in
      let e : x + suc i ≡ suc (x + i) = omega arith in
      let f : k + i + 1 ≡ k + suc i = omega arith in
      let six : kind_at t (x + i) ≡ 6 = IH.more (omega arith) in
      let st : stack_at t (suc (x + i)) ≡ entry_of L m (k + suc i) ∷ s = stack_next t (x + i) six ∙ ap (at_head one_next) IH.loops ∙ ap (λ (n : ℕ). entry_of L m n ∷ s) f in
      let h = innermost t ok x (omega arith) (entry_of L m k) s q in
      let S = span t ok L (omega (arith, h.nexts_in_lem)) h.is_for_lem in
      let room = S.open_only (suc (x + i)) (rw st (member_here L (entry_of L m (k + suc i)) s refl)) in
      let lt : suc (x + i) < size t = omega (arith, S.inside) in
      let right = ok.row (suc (x + i)) lt in
      let nx = behind_next t (suc (x + i)) right six in
      record {
        in_table = omega arith;
        loops = rw e st;
        more = λ w. rw e (by_more (suc (x + i)) nx (λ z. end_is_served t (suc (x + i)) right z) st w);
        all = λ w. rw e (by_all (suc (x + i)) nx (λ z. next_has_arg t (suc (x + i)) right z) st w);
      }
    where
      by_more : (y : ℕ) → (kind_at t y ≡ 6) ⊎ (kind_at t y ≡ 7) → (kind_at t y ≡ 7 → all_served (stack_at t y) ≡ true) → stack_at t y ≡ entry_of L m (k + suc i) ∷ s
          → k + suc i < m → kind_at t y ≡ 6
      by_more y (inl z) g st w = z
      by_more y (inr z) g st w = let u : k + suc i ≡ m = eqb-true (k + suc i) m (rw st at (g z)) in absurd (omega arith)

      by_all : (y : ℕ) → (kind_at t y ≡ 6) ⊎ (kind_at t y ≡ 7) → (kind_at t y ≡ 6 → arg_left (stack_at t y) ≡ true) → stack_at t y ≡ entry_of L m (k + suc i) ∷ s
          → k + suc i ≡ m → kind_at t y ≡ 7
      by_all y (inl z) g st w = let u : k + suc i < m = ltb-true (k + suc i) m (rw st at (g z)) in absurd (omega arith)
      by_all y (inr z) g st w = z

  served_all : (l : Loop) (s z : List Loop) → z ≡ l ∷ s → all_served z ≡ true → l.nexts ≡ l.args
  served_all l s z q h = eqb-true l.nexts l.args (rw q at h)

  left_for : (z : List Loop) → arg_left z ≡ true → (l : Loop) × (s : List Loop) × (z ≡ l ∷ s) × (l.nexts < l.args)
  left_for [] h = absurd (false≢true h)
  left_for (l ∷ s) h = (l, s, refl, ltb-true l.nexts l.args h)

  arg_pos : (a L m : ℕ) → a ≡ suc (L + m) → a - suc L ≡ m
  arg_pos a L m e = omega arith

  -- EACH ARG HAS ITS NEXT
  pub arg_of_lem : (a : ℕ) → a < size t → kind_at t a ≡ 5 → ArgRow t a
  unfolding first_of args_of arg_of next_of
  arg_of_lem a less k =
      let z = header_open a less k in
      let l = z.0 in
      let h = innermost t ok a (omega arith) l z.1 z.2 in
      let B : body_of t a ≡ l.row = body_is t a l z.1 z.2 in
      let L = body_of t a in
      let at : a ≡ suc (l.row + l.args) = h.header (arg_behind t a (ok.row a less) k) in
      let kL : kind_at t L ≡ 4 = rw B h.is_for_lem in
      let low : L < a = omega arith in
      let rows : (b : ℕ) → suc L ≤ b → b < suc L + suc l.args → kind_at t b ≡ 5 = λ b p q. each b l at (subst (λ (y : ℕ). suc y ≤ b) B p) (subst (λ (y : ℕ). b < suc y + suc l.args) B q) h.arg_rows_lem in
      let least = args_least t (size t - suc L) (suc L) (suc l.args) (omega arith) rows in
      let S = span t ok L (omega arith) kL in
      let e = end_of t L in
      let w = nonempty L (stack_at t e) (S.open_in e S.below (omega arith)) in
      let lE = w.0 in
      let hE = innermost t ok e (omega (arith, S.inside)) lE w.1 w.2 in
      let rowE : lE.row ≡ L = sym (body_is t e lE w.1 w.2) ∙ S.end_body in
      let cnt : args_from (size t - suc L) t (suc L) ≡ lE.args = ap (λ (y : ℕ). args_from (size t - suc y) t (suc y)) (sym rowE) ∙ args_known e lE w.1 S.inside w.2 (λ q. omega (arith, S.end_kind)) in
      let full : lE.nexts ≡ lE.args = served_all lE w.1 (stack_at t e) w.2 (end_is_served t e (ok.row e S.inside) S.end_kind) in
      let x = e - args_from (size t - suc L) t (suc L) + (a - suc L) in
      let j = a - suc L in
      let nr = hE.next_rows x j (omega (arith, hE.nexts_in_lem, cnt, full)) (omega (arith, cnt, full)) in
      let bx : body_of t x ≡ L = body_is t x (entry_of lE.row lE.args j) w.1 nr.1 ∙ rowE in
      record {
        loop_for = kL;
        low = low;
        high = omega arith;
        loops = hdr L a j kL (omega arith) (λ b p q. rows b p (omega arith));
        next_kind = nr.0;
        next_body = bx;
        next_arg = rw (bx, nr.1) (omega arith);
      }
    where
      each : (b : ℕ) (l : Loop) → a ≡ suc (l.row + l.args) → suc l.row ≤ b → b < suc l.row + suc l.args
          → ((y : ℕ) → l.row < y → y ≤ l.row + l.args → kind_at t y ≡ 5) → kind_at t b ≡ 5
      each b l at p q all = elim (ℕ_discrete b a) [ yes y ↦ rw y k | no y ↦ all b p (under y) ]
        where
          under : b ≢ a → b ≤ l.row + l.args
          under y = omega arith

      hdr : (L a j : ℕ) → kind_at t L ≡ 4 → suc L + j ≡ a → ((b : ℕ) → suc L ≤ b → b < a → kind_at t b ≡ 5) → stack_at t a ≡ entry_of L j 0 ∷ stack_at t L
      hdr L a j kL e all = subst (λ (y : ℕ). stack_at t y ≡ entry_of L j 0 ∷ stack_at t L) e (header_stack t L j kL (λ b p q. all b p (omega arith)))

  -- EACH NEXT HAS ITS ARG
  pub next_of_lem : (x : ℕ) → x < size t → kind_at t x ≡ 6 → NextRow t x
  unfolding first_of arg_of next_of
  next_of_lem x less kx =
      let z = left_for (stack_at t x) (next_has_arg t x (ok.row x less) kx) in
      let l = z.0 in
      let s = z.1 in
      let q = z.2 in
      let h = innermost t ok x (omega arith) l s q in
      let B : body_of t x ≡ l.row = body_is t x l s q in
      let L = body_of t x in
      let k = l.nexts in
      let m = l.args in
      let kL : kind_at t L ≡ 4 = rw B h.is_for_lem in
      let S = span t ok L (omega (arith, h.nexts_in_lem)) kL in
      let cnt : args_of t L ≡ m = ap (args_of t) B ∙ args_known x l s less q (λ w. omega arith) in
      let nx : nexts_in (stack_at t x) ≡ k = ap nexts_in q in
      let on = S.open_only x (rw q (subst (λ (b : ℕ). holds b (l ∷ s) ≡ true) (sym B) (member_here l.row l s refl))) in
      let v = serve_on x l.row m k s less kx q z.3 (m - k) (omega arith) in
      let kE : kind_at t (x + (m - k)) ≡ 7 = v.all (omega arith) in
      let bE : body_of t (x + (m - k)) ≡ l.row = body_is t (x + (m - k)) (entry_of l.row m (k + (m - k))) s v.loops in
      let E : x + (m - k) ≡ end_of t L = end_is_end_of t ok (x + (m - k)) v.in_table kE ∙ ap (end_of t) (bE ∙ sym B) in
      let kA : kind_at t (suc L + k) ≡ 5 = h.arg_rows_lem (suc L + k) (omega arith) (omega arith) in
      let sA : stack_at t (suc L + k) ≡ entry_of L k 0 ∷ stack_at t L = header_stack t L k kL (λ a p w. h.arg_rows_lem a (omega arith) (omega arith)) in
      let bA : body_of t (suc L + k) ≡ L = body_is t (suc L + k) (entry_of L k 0) (stack_at t L) sA in
      record {
        loop_for = kL;
        below = omega (arith, h.nexts_in_lem);
        low = omega (arith, h.nexts_in_lem, cnt);
        high = omega (arith, E);
        arg_kind = rw nx kA;
        arg_body = rw nx bA;
        arg_next = rw (nx, bA, cnt) (omega (arith, E));
        around = ap outward q ∙ sym h.around ∙ ap (stack_at t) (sym B);
      }
