-- What the steps of FOR and END share: the words that a turn sets, and the uses and records that it leaves alone.
--
--   turn_env, nexts_to        the index and the ARGs at a turn's beginning; the NEXTs when the loop is left
--   From, To                  where a step begins: at FOR, at END; where it leads: into a turn, out of the loop
--   live_same, word_same      a use that the step does not touch is live after it exactly if before, with the same word
--   inside_same, outer_same   likewise for the bodies that pc is inside, and the words of the loops among them
--   gone, body_live, exit_live
--                             what the step takes is not live after it, and what it gives is
--
-- Assumes nothing.
use Rattle.std.specs.Prelude.{◌≡◌, refl, ◌≢◌, ◌⊎◌, Bool, true, false, ◌&&◌, ℕ, suc, ◌≤◌, ◌<◌, eqb}
use Rattle.std.proofs.Common.{sym, ap, ap₂, ◌∙◌, subst, inl, inr, arith}
use Rattle.std.proofs.Math.Option.{Option, some}
use Rattle.std.proofs.Math.Decide.{ℕ_discrete, dec_le}
use Rattle.step.specs.Firing.{Effect}
use Rattle.step.specs.declared.Record.{Record}
use Rattle.table.specs.Bodies.{Row, input, const, op, pick, for, arg, next, end, out, unknown}
use Rattle.lowered.specs.Roles.{Role, op_node, stream, gate, guard, copy_split, copy_invariant, carry, arg_split}
use Rattle.faithful.specs.Table.{Table, since_by, IsFor, born, since, is_arg, Real}
use Rattle.faithful.specs.Good.{Inner, Used, Good}
use Rattle.faithful.specs.Gamma.{Env, Live, Inside, scope, Rel, before, behind, inside, around, rel, since_head, since_in, since_own}
use Rattle.faithful.specs.Rows.{set_to, set_same, set_other, set_by}
use Rattle.faithful.specs.Members.{in_loop, arg_row, arg_in, eqb_yes, is_eqb}
use Rattle.faithful.specs.Loop.{for_below, reads_not}

-- the row where a step begins
pub data From : Type 0 where
  at_a_for at_an_end : From

-- where it leads: to a turn, with the index and the ARGs' words, or out, with the NEXTs' words
pub data To : Type 0 where
  turn : ℕ → Env → To
  exit : Env → To

abbrev pub eff : Bool → Bool → Bool → Option ℕ → Option ℕ → Record → Option Effect
eff a b c x y r = some (record { takes0 = a; takes1 = b; takes2 = c; gives0 = x; gives1 = y; next = r })

abbrev pub is_next : Row → Bool
is_next input = false
is_next (const w) = false
is_next (op c x y) = false
is_next (pick f x y) = false
is_next (for s t b u c) = false
is_next (arg i) = false
is_next (next v) = true
is_next end = false
is_next unknown = false
is_next (out x) = false

set_by_no : (b : Bool) (w x : ℕ) → (b ≡ true → ⊥) → set_by b w x ≡ x
set_by_no true w x h = absurd (h refl)
set_by_no false w x h = refl

pub and_both : (a b : Bool) → (a && b) ≡ true → (a ≡ true) × (b ≡ true)
and_both true b h = (refl, h)
and_both false b h = let z : ◌≡◌ {A = ℕ} 0 1 = cc in absurd (omega arith)

module _ (tb : Table) where
  -- the ARGs, the NEXTs of loop L, all together
  unfoldable pub args_to : ℕ → Env → Env → Env
  args_to L h env v = set_by (eqb (tb.loop v) L && is_arg (tb.row v)) (h v) (env v)

  unfoldable pub nexts_to : ℕ → Env → Env → Env
  nexts_to L h env v = set_by (eqb (tb.loop v) L && is_next (tb.row v)) (h v) (env v)

  pub args_same : (L : ℕ) (h env : Env) (v : ℕ) → tb.loop v ≡ L → is_arg (tb.row v) ≡ true → args_to L h env v ≡ h v
  unfolding args_to
  args_same L h env v a b = rw (a, eqb_yes L, b)

  pub args_other : (L : ℕ) (h env : Env) (v : ℕ) → (tb.loop v ≡ L → is_arg (tb.row v) ≡ true → ⊥) → args_to L h env v ≡ env v
  unfolding args_to
  args_other L h env v n =
      set_by_no (eqb (tb.loop v) L && is_arg (tb.row v)) (h v) (env v) (λ k. let z = and_both (eqb (tb.loop v) L) (is_arg (tb.row v)) k in n (is_eqb (tb.loop v) L z.0) z.1)

  pub nexts_same : (L : ℕ) (h env : Env) (v : ℕ) → tb.loop v ≡ L → is_next (tb.row v) ≡ true → nexts_to L h env v ≡ h v
  unfolding nexts_to
  nexts_same L h env v a b = rw (a, eqb_yes L, b)

  pub nexts_other : (L : ℕ) (h env : Env) (v : ℕ) → (tb.loop v ≡ L → is_next (tb.row v) ≡ true → ⊥) → nexts_to L h env v ≡ env v
  unfolding nexts_to
  nexts_other L h env v n =
      set_by_no (eqb (tb.loop v) L && is_next (tb.row v)) (h v) (env v) (λ k. let z = and_both (eqb (tb.loop v) L) (is_next (tb.row v)) k in n (is_eqb (tb.loop v) L z.0) z.1)

  pub next_row : (a : ℕ) → is_next (tb.row a) ≡ true → (x : ℕ) × (tb.row a ≡ next x)
  next_row a h = go (tb.row a) refl h
    where
      go : (d : Row) → tb.row a ≡ d → is_next d ≡ true → (i : ℕ) × (tb.row a ≡ next i)
      go input q k = let z : ◌≡◌ {A = ℕ} 0 1 = cc in absurd (omega arith)
      go (const x) q k = let z : ◌≡◌ {A = ℕ} 0 1 = cc in absurd (omega arith)
      go (op c x y) q k = let z : ◌≡◌ {A = ℕ} 0 1 = cc in absurd (omega arith)
      go (pick c x y) q k = let z : ◌≡◌ {A = ℕ} 0 1 = cc in absurd (omega arith)
      go (for s t b u c) q k = let z : ◌≡◌ {A = ℕ} 0 1 = cc in absurd (omega arith)
      go (arg i) q k = let z : ◌≡◌ {A = ℕ} 0 1 = cc in absurd (omega arith)
      go (next x) q k = (x, q)
      go end q k = let z : ◌≡◌ {A = ℕ} 0 1 = cc in absurd (omega arith)
      go unknown q k = let z : ◌≡◌ {A = ℕ} 0 1 = cc in absurd (omega arith)
      go (out x) q k = let z : ◌≡◌ {A = ℕ} 0 1 = cc in absurd (omega arith)

  -- a turn begins: the index and the ARGs
  abbrev pub turn_env : ℕ → ℕ → Env → Env → Env
  turn_env L x h env = set_to L x (args_to L h env)

  abbrev pub row_of : ℕ → From → ℕ
  row_of L at_a_for = L
  row_of L at_an_end = tb.last L

  -- the body in which its uses are read
  abbrev pub body_of : ℕ → From → ℕ
  body_of L at_a_for = tb.reads L
  body_of L at_an_end = L

  abbrev pub row_to : ℕ → To → ℕ
  row_to L (turn x h) = tb.first L
  row_to L (exit h) = suc (tb.last L)

  abbrev pub words_to : ℕ → Env → To → Env
  words_to L env (turn x h) = turn_env L x h env
  words_to L env (exit h) = nexts_to L h env

  since_by_le : (b : Bool) (x : ℕ) → since_by b x ≤ x
  since_by_le true x = omega arith
  since_by_le false x = omega arith

  pub since_born : (v B : ℕ) → since tb v B ≤ born tb v
  unfolding since
  since_born v B = since_by_le (eqb (tb.home v) B) (born tb v)

  module _ (g : Good tb) (L : ℕ) (f : IsFor tb L) where
    -- the words that a new turn changes are of rows from L on, at home in L, and there from the start
    turned : (v : ℕ) → (v ≡ L) ⊎ ((tb.loop v ≡ L) × (is_arg (tb.row v) ≡ true)) → (L ≤ v) × (v < tb.first L) × (tb.home v ≡ L) × (born tb v ≡ 0)
    turned v (inl e) =
        let a = g.for_first L f in
        (omega arith, omega arith, ap tb.home e ∙ g.for_home L f, ap (born tb) e ∙ rw f.5)
    turned v (inr h) =
        let r = arg_row tb v h.1 in
        let q = r.1 in
        let a = g.arg_low v r.0 q in
        let b : v < tb.first L = subst (λ (z : ℕ). v < tb.first z) h.0 (g.arg_high v r.0 q) in
        let c : tb.loop v ≡ L = h.0 in
        (omega arith, b, g.arg_home v r.0 q ∙ c, rw q)

    turn_or : (v : ℕ) (x : ℕ) (h env : Env) → (((v ≡ L) ⊎ ((tb.loop v ≡ L) × (is_arg (tb.row v) ≡ true))) → ⊥) → turn_env L x h env v ≡ env v
    turn_or v x h env n = set_other L x (args_to L h env) v (λ e. n (inl e)) ∙ args_other L h env v (λ a b. n (inr (a, b)))

    -- before L nothing changes
    pub turn_low : (v : ℕ) (x : ℕ) (h env : Env) → v < L → turn_env L x h env v ≡ env v
    turn_low v x h env l = turn_or v x h env (λ k. let z = turned v k in let z0 = z.0 in omega arith)

    pub turn_idx : (x : ℕ) (h env : Env) → turn_env L x h env L ≡ x
    turn_idx x h env = set_same L x (args_to L h env)

    pub turn_arg : (a i : ℕ) (x : ℕ) (h env : Env) → tb.row a ≡ arg i → tb.loop a ≡ L → turn_env L x h env a ≡ h a
    turn_arg a i x h env q l =
        let z = g.arg_low a i q in
        set_other L x (args_to L h env) a (λ e. let z' : tb.loop a < a = z in omega arith) ∙ args_same L h env a l (ap is_arg q)

    -- what stands at the start of a turn, and is not the loop's own, has not changed
    turn_same : (v B c : ℕ) (x : ℕ) (h env : Env) → Used tb v B c → tb.first B ≤ tb.first L → (B ≡ L → since tb v B ≢ 0) → turn_env L x h env v ≡ env v
    turn_same v B c x h env u lo n =
        turn_or v x h env
        (λ k.
        let z = turned v k in
        let z0 : L ≤ v = z.0 in
        let zb : born tb v ≡ 0 = z.3 in
        let sb = since_born v B in
        elim (ℕ_discrete B L) [
          | yes e ↦ n e (let y : since tb v B ≡ 0 = omega arith in y)
          | no e ↦
              let cr = u.away (λ d. e (sym d ∙ z.2)) in
              let bf = g.in_for B v cr in
              let lt : v < B = g.in_before B v cr in
              let ff = g.for_first B bf in
              let fl = g.for_last L f in
              let ne = g.nest L B f bf (omega arith) (omega arith) in
              let ne0 : tb.first L ≤ B = ne.0 in
              omega arith
        ])

    -- the NEXTs at the end
    pub leave_low : (v : ℕ) (h env : Env) → v < tb.first L → nexts_to L h env v ≡ env v
    leave_low v h env l =
        nexts_other L h env v
        (λ a b. let r = next_row v b in let z : tb.first (tb.loop v) ≤ v = g.next_low v r.0 r.1 in let y : tb.first L ≤ v = subst (λ (w : ℕ). tb.first w ≤ v) a z in omega arith)

    leave_same : (v B c : ℕ) (h env : Env) → Used tb v B c → tb.first B ≤ suc (tb.last L) → ((x : ℕ) → tb.row v ≡ next x → tb.loop v ≡ L → tb.home v ≡ B → ⊥) → nexts_to L h env v ≡ env v
    leave_same v B c h env u lo n =
        nexts_other L h env v
        (λ a b.
        let r = next_row v b in
        elim (ℕ_discrete (tb.home v) B) [
          | yes e ↦ n r.0 r.1 a e
          | no e ↦
              let cr = u.away e in
              let bf = g.in_for B v cr in
              let bo : born tb v ≤ B = g.in_born B v cr in
              let bn : born tb v ≡ suc (tb.last L) = rw (r.1, a) in
              let ff = g.for_first B bf in
              omega arith
        ])

    -- records of the nodes outside L
    pub scope_not : (n : Role) → Real tb n → in_loop tb L n ≡ false → scope tb n ≢ L
    scope_not (op_node r) rl h e = let a = for_below tb g L f in omega arith
    scope_not (stream M) rl h e = let z : eqb M L ≡ true = ap (λ (y : ℕ). eqb y L) e ∙ eqb_yes L in let z : ◌≡◌ {A = ℕ} 0 1 = cc in omega arith
    scope_not (gate M) rl h e = let z : eqb M L ≡ true = ap (λ (y : ℕ). eqb y L) e ∙ eqb_yes L in let z : ◌≡◌ {A = ℕ} 0 1 = cc in omega arith
    scope_not (guard M) rl h e = let a = for_below tb g L f in omega arith
    scope_not (copy_split M v) rl h e = let a = for_below tb g L f in omega arith
    scope_not (copy_invariant M v) rl h e =
        let z : (eqb M L && tb.carried M v) ≡ true = ap₂ (λ (x : ℕ) (y : Bool). eqb x L && y) e rl.1 ∙ ap (λ (x : Bool). x && true) (eqb_yes L) in
        let z : ◌≡◌ {A = ℕ} 0 1 = cc in omega arith
    scope_not (carry a) rl h e =
        let z : (eqb (tb.loop a) L && is_arg (tb.row a)) ≡ true = arg_in tb L a e (ap is_arg rl.1) in
        let z : ◌≡◌ {A = ℕ} 0 1 = cc in omega arith
    scope_not (arg_split a) rl h e = let a = for_below tb g L f in omega arith

    -- ---- bodies around L. The row where a step begins and the one where it leads are edges of L: in its head, at its END or just behind it. Another
    -- body holds an edge exactly if it holds all of L, so what does not touch L is the same at all edges.

    abbrev pub Edge : ℕ → Type 0
    Edge pc = (L ≤ pc) × (pc ≤ suc (tb.last L)) × ((pc ≤ tb.first L) ⊎ (tb.last L ≤ pc))

    pub for_edge : Edge L
    for_edge = let ff = g.for_first L f in let fl = g.for_last L f in (omega arith, omega arith, inl (omega arith))

    pub turn_edge : Edge (tb.first L)
    turn_edge = let ff = g.for_first L f in let fl = g.for_last L f in (omega arith, omega arith, inl (omega arith))

    pub end_edge : Edge (tb.last L)
    end_edge = let ff = g.for_first L f in let fl = g.for_last L f in (omega arith, omega arith, inr (omega arith))

    pub exit_edge : Edge (suc (tb.last L))
    exit_edge = let ff = g.for_first L f in let fl = g.for_last L f in (omega arith, omega arith, inr (omega arith))

    pub begins_edge : (from : From) → Edge (row_of L from)
    begins_edge at_a_for = for_edge
    begins_edge at_an_end = end_edge

    pub leads_edge : (to : To) → Edge (row_to L to)
    leads_edge (turn x h) = turn_edge
    leads_edge (exit h) = exit_edge

    wide : (B pc : ℕ) → (B ≡ tb.size) ⊎ IsFor tb B → B ≢ L → Edge pc → Inside tb B pc → (tb.first B ≤ L) × (tb.last L < tb.last B)
    wide B pc bd n (lo, hi, at) (l0, l1) = go (rel tb g B L bd f n) at
      where
        go : Rel tb g B L → (pc ≤ tb.first L) ⊎ (tb.last L ≤ pc) → (tb.first B ≤ L) × (tb.last L < tb.last B)
        go (before x) at = absurd (omega arith)
        go (behind x y) at = absurd (omega arith)
        go (inside x y z) (inl at) = absurd (omega arith)
        go (inside x y z) (inr at) = absurd (omega arith)
        go (around x y) at = (x, y)

    pub inside_same : (B pc pc' : ℕ) → (B ≡ tb.size) ⊎ IsFor tb B → B ≢ L → Edge pc → Edge pc' → (Inside tb B pc → Inside tb B pc') × (Inside tb B pc' → Inside tb B pc)
    inside_same B pc pc' bd n (a0, a1, a2) (b0, b1, b2) = (
      λ l. let w = wide B pc bd n (a0, a1, a2) l in (omega arith, omega arith),
      λ l. let w = wide B pc' bd n (b0, b1, b2) l in (omega arith, omega arith),
    )

    -- a loop around L stands before L, and its words and those before it stay
    pub outer_same : (env : Env) (to : To) (B v : ℕ) → IsFor tb B → B ≢ L → Inside tb B (row_to L to) → v ≤ B → words_to L env to v ≡ env v
    outer_same env to B v h n l le =
        let w = wide B (row_to L to) (inr h) n (leads_edge to) l in
        let w0 = w.0 in
        let fb = g.for_first B h in
        go to (omega arith)
      where
        go : (to : To) → v < L → words_to L env to v ≡ env v
        go (turn x h) lt = turn_low v x h env lt
        go (exit h) lt = let ff = g.for_first L f in leave_low v h env (omega arith)

    -- ---- uses that the step leaves alone

    -- a value's word on whose wire nothing is due
    abbrev pub Stays : To → ℕ → ℕ → Type 0
    Stays (turn x h) v B = B ≡ L → since tb v B ≢ 0
    Stays (exit h) v B = (x : ℕ) → tb.row v ≡ next x → tb.loop v ≡ L → tb.home v ≡ B → ⊥

    since_home : (v B : ℕ) → tb.home v ≡ B → since tb v B ≡ born tb v
    unfolding since
    since_home v B h = rw (h, eqb_yes B)

    -- born by the END of L, in a body around L: a NEXT of L
    late : (v B : ℕ) → tb.first B ≤ L → L < since tb v B → since tb v B ≤ suc (tb.last L)
        → (x : ℕ) × (tb.row v ≡ next x) × (tb.loop v ≡ L) × (tb.home v ≡ B) × (since tb v B ≡ suc (tb.last L))
    late v B lo a b =
        let ff = g.for_first L f in
        elim (since_in tb g v B L f a b) [
          | inl w ↦ let w0 = w.0 in absurd (omega arith)
          | inr w ↦ (w.0, w.1, w.2, w.3, since_home v B w.3 ∙ rw (w.1, w.2))
        ]

    -- what a body around L waits for in L's rows, it waits for behind L
    beyond : (v B c : ℕ) → Used tb v B c → tb.first B ≤ L → L < c → tb.last L < c
    beyond v B c us lo lt =
        let ff = g.for_first L f in
        elim (dec_le c (tb.last L)) [
          | yes k ↦ let w = us.place.within L f lt k in let w0 = w.0 in absurd (omega arith)
          | no k ↦ omega arith
        ]

    -- a use across L: born before it, in a body around it, and waited for behind it
    abbrev Across : (v B c : ℕ) → Type 0
    Across v B c = (tb.first B ≤ L) × (tb.last L < tb.last B) × (since tb v B ≤ L) × (tb.last L < c)

    across_live : (v B c pc : ℕ) → Edge pc → Across v B c → Live tb v B c pc
    across_live v B c pc e (w0, w1, w2, w3) = let e0 = e.0 in let e1 = e.1 in (omega arith, omega arith, omega arith, omega arith)

    begins_across : (from : From) (v B c : ℕ) → Used tb v B c → c ≢ row_of L from → Live tb v B c (row_of L from) → Across v B c
    begins_across from v B c us n l =
        elim (ℕ_discrete B L) [
          | yes e ↦ absurd (own from n e l)
          | no e ↦ let w = wide B (row_of L from) us.body e (begins_edge from) (l.0, l.1) in (w.0, w.1, early from l w.0, beyond v B c us w.0 (past from n l))
        ]
      where
        own : (from : From) → c ≢ row_of L from → B ≡ L → Live tb v B c (row_of L from) → ⊥
        own at_a_for n e l = let fe : tb.first B ≡ tb.first L = ap tb.first e in let ff = g.for_first L f in let l0 = l.0 in omega arith
        own at_an_end n e l = let le : tb.last B ≡ tb.last L = ap tb.last e in let hi : c ≤ tb.last B = us.place.high in let l3 = l.3 in omega arith

        early : (from : From) → Live tb v B c (row_of L from) → tb.first B ≤ L → since tb v B ≤ L
        early at_a_for l lo = l.2
        early at_an_end l lo =
            elim (dec_le (since tb v B) L) [
              | yes k ↦ k
              | no k ↦ let l2 : since tb v B ≤ tb.last L = l.2 in let w = late v B lo (omega arith) (omega arith) in let w4 = w.4 in absurd (omega arith)
            ]

        past : (from : From) → c ≢ row_of L from → Live tb v B c (row_of L from) → L < c
        past at_a_for n l = let l3 = l.3 in omega arith
        past at_an_end n l = let ff = g.for_first L f in let fl = g.for_last L f in let l3 = l.3 in omega arith

    leads_across : (to : To) (v B c : ℕ) → Used tb v B c → Stays to v B → Live tb v B c (row_to L to) → Across v B c
    leads_across to v B c us n l =
        elim (ℕ_discrete B L) [
          | yes e ↦ absurd (own to n e l)
          | no e ↦
              let w = wide B (row_to L to) us.body e (leads_edge to) (l.0, l.1) in
              let e0 : L ≤ row_to L to = (leads_edge to).0 in
              (w.0, w.1, early to n l w.0, beyond v B c us w.0 (past to l))
        ]
      where
        own : (to : To) → Stays to v B → B ≡ L → Live tb v B c (row_to L to) → ⊥
        own (turn x h) n e l =
            let l2 : since tb v B ≤ tb.first L = l.2 in
            elim (since_own tb g v L f) [
              | inl z ↦ n e (ap (since tb v) e ∙ z)
              | inr z ↦ let z' : since tb v B ≡ since tb v L = ap (since tb v) e in omega arith
            ]
        own (exit h) n e l = let le : tb.last B ≡ tb.last L = ap tb.last e in let l1 = l.1 in omega arith

        early : (to : To) → Stays to v B → Live tb v B c (row_to L to) → tb.first B ≤ L → since tb v B ≤ L
        early (turn x h) n l lo =
            elim (dec_le (since tb v B) L) [
              | yes k ↦ k
              | no k ↦ let l2 : since tb v B ≤ tb.first L = l.2 in let h = since_head tb g v B L f (omega arith) in absurd (omega arith)
            ]
        early (exit h) n l lo =
            elim (dec_le (since tb v B) L) [
              | yes k ↦ k
              | no k ↦ let w = late v B lo (omega arith) l.2 in absurd (n w.0 w.1 w.2 w.3)
            ]

        past : (to : To) → Live tb v B c (row_to L to) → L < c
        past (turn x h) l = let ff = g.for_first L f in let l3 = l.3 in omega arith
        past (exit h) l = let ff = g.for_first L f in let fl = g.for_last L f in let l3 = l.3 in omega arith

    -- so it is live after the step exactly if before, with the same word
    pub live_same : (from : From) (to : To) (v B c : ℕ) → Used tb v B c → c ≢ row_of L from → Stays to v B
        → (Live tb v B c (row_of L from) → Live tb v B c (row_to L to)) × (Live tb v B c (row_to L to) → Live tb v B c (row_of L from))
    live_same from to v B c us n w = (
      λ l. across_live v B c (row_to L to) (leads_edge to) (begins_across from v B c us n l),
      λ l. across_live v B c (row_of L from) (begins_edge from) (leads_across to v B c us w l),
    )

    pub word_same : (env : Env) (to : To) (v B c : ℕ) → Used tb v B c → Stays to v B → Live tb v B c (row_to L to) → words_to L env to v ≡ env v
    word_same env (turn x h) v B c us w l = turn_same v B c x h env us l.0 w
    word_same env (exit h) v B c us w l = leave_same v B c h env us l.0 w

    -- a use that waits until the row where the step begins is not live where it leads
    pub gone : (at : From) (to : To) (v B c : ℕ) → Used tb v B c → c ≡ row_of L at → Stays to v B → Live tb v B c (row_to L to) → ⊥
    gone at to v B c us e w l = go at (leads_across to v B c us w l).3 e
      where
        go : (at : From) → tb.last L < c → c ≡ row_of L at → ⊥
        go at_a_for k e = let ff = g.for_first L f in let fl = g.for_last L f in omega arith
        go at_an_end k e = omega arith

    -- ---- uses of what is fresh where the step leads

    pub body_live : (v B d : ℕ) → Used tb v B d → B ≡ L → since tb v B ≡ 0 → Live tb v B d (tb.first L)
    body_live v B d us e z =
        let fe : tb.first B ≡ tb.first L = ap tb.first e in
        let le : tb.last B ≡ tb.last L = ap tb.last e in
        let fl = g.for_last L f in
        let lo : tb.first B ≤ d = us.place.low in
        (omega arith, omega arith, omega arith, omega arith)

    pub exit_live : (v B d : ℕ) → Used tb v B d → B ≡ tb.reads L → since tb v B ≡ suc (tb.last L) → Live tb v B d (suc (tb.last L))
    exit_live v B d us e z =
        let nb : since tb v B ≤ d = us.named_before in
        let i = subst (λ (z : ℕ). Inner tb z L) (sym e) (g.for_reads L f) in
        let w = wide B L us.body (λ z. reads_not tb g L f (sym e ∙ z)) (begins_edge at_a_for) (i.low, i.high) in
        let w0 = w.0 in
        let w1 = w.1 in
        let fl = g.for_last L f in
        let ff = g.for_first L f in
        (omega arith, omega arith, omega arith, omega arith)
