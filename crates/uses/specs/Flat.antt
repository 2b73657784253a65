-- A flat list of words shows a state of tokens and records, and fires as it does.
--
--   Holds                     a wire of the flat state shows a token
--   Rep                       a flat state shows tokens and records
--   flat_run                  so firings there are firings on the words, with the same words on each wire
--
-- Assumes nothing.
use Rattle.std.specs.Prelude.{◌≡◌, refl, ◌≢◌, Bool, true, false, get_or, set, length, eqb}
use Rattle.std.proofs.Common.{sym, ap₂, ◌∙◌, subst, arith, eq-eqb, ne_eqb, length-set, get_or-set_same, get_or-set_other}
use Rattle.std.proofs.Math.Path.{ap}
use Rattle.std.proofs.Math.Option.{Option, none, some}
use mathlib.Core.List.{List, [], ◌∷◌, ◌++◌}
use Prim.Native.Nat.{ℕ, ◌+◌, ◌*◌, ◌≤◌, ◌<◌}
use Rattle.std.proofs.Math.Decide.{ℕ_discrete}
use Rattle.step.specs.Kinds.{in0, in1, in2, out0, out1}
use Rattle.step.specs.Firing.{View, Effect}
use Rattle.step.specs.declared.Record.{Record}
use Rattle.state.specs.State.{token, is_empty, token_on, has_room, record_at, stored, emptied, filled, kept, stored_append, length_stored}
use Rattle.state.specs.Net.{Net, view, effect_at, stores, fire}
use Rattle.confluence.specs.Orders.{fires, fires_none, fires_on, history_none, history_on}
use Rattle.confluence.specs.Places.{stored_other}
use Rattle.confluence.specs.Wired.{Wired, fired}
use Rattle.confluence.specs.Histories.{put_at, put_by, history_of}
use Rattle.uses.specs.Wires.{Tokens, vacant, in_tok, has_space, clear_tok, fill_tok, rec_by, view2, fire2, Steps2, puts2}

abbrev pub flag : Option ℕ → ℕ
flag none = 0
flag (some x) = 1

abbrev pub word : Option ℕ → ℕ
word none = 0
word (some x) = x

abbrev pub Holds : List ℕ → ℕ → Option ℕ → Type 0
Holds st w t = (get_or st (2 * w) 0 ≡ flag t) × (get_or st (2 * w + 1) 0 ≡ word t)

set_here : (st : List ℕ) (u f x : ℕ) → 2 * u + 1 < length st → (get_or (set (set st (2 * u) f) (2 * u + 1) x) (2 * u) 0 ≡ f) × (get_or (set (set st (2 * u) f) (2 * u + 1) x) (2 * u + 1) 0 ≡ x)
set_here st u f x l = (
  get_or-set_other (set st (2 * u) f) (2 * u + 1) (2 * u) x 0 (omega arith) ∙ get_or-set_same st (2 * u) f 0 (omega arith),
  get_or-set_same (set st (2 * u) f) (2 * u + 1) x 0 (rw length-set l),
)

set_there : (st : List ℕ) (u f x p : ℕ) → p ≢ 2 * u → p ≢ 2 * u + 1 → get_or (set (set st (2 * u) f) (2 * u + 1) x) p 0 ≡ get_or st p 0
set_there st u f x p a b = get_or-set_other (set st (2 * u) f) (2 * u + 1) p x 0 b ∙ get_or-set_other st (2 * u) p f 0 a

clear_holds : (o : Option ℕ) (b : Bool) (st : List ℕ) (w : ℕ) (t : Option ℕ) → 2 * w + 1 < length st → Holds st w t → Holds (stored (emptied o b) st) w (clear_tok o b w t)
clear_holds none b st w t l h = h
clear_holds (some u) false st w t l h = h
clear_holds (some u) true st w t l h =
    elim (ℕ_discrete u w) [
      | yes e ↦ subst (λ (v : ℕ). Holds (stored (emptied (some v) true) st) w (clear_tok (some v) true w t)) (sym e) (rw (eq-eqb w w refl) (set_here st w 0 0 l))
      | no n ↦ rw (ne_eqb u w n) (set_there st u 0 0 (2 * w) (omega arith) (omega arith) ∙ h.0, set_there st u 0 0 (2 * w + 1) (omega arith) (omega arith) ∙ h.1)
    ]

fill_holds : (o y : Option ℕ) (st : List ℕ) (w : ℕ) (t : Option ℕ) → 2 * w + 1 < length st → Holds st w t → Holds (stored (filled o y) st) w (fill_tok o y w t)
fill_holds none y st w t l h = h
fill_holds (some u) none st w t l h = h
fill_holds (some u) (some x) st w t l h =
    elim (ℕ_discrete u w) [
      | yes e ↦ subst (λ (v : ℕ). Holds (stored (filled (some v) (some x)) st) w (fill_tok (some v) (some x) w t)) (sym e) (rw (eq-eqb w w refl) (set_here st w 1 x l))
      | no n ↦ rw (ne_eqb u w n) (set_there st u 1 x (2 * w) (omega arith) (omega arith) ∙ h.0, set_there st u 1 x (2 * w + 1) (omega arith) (omega arith) ∙ h.1)
    ]

keep_holds : (W i : ℕ) (r : Record) (st : List ℕ) (w : ℕ) (t : Option ℕ) → w < W → Holds st w t → Holds (stored (kept W i r) st) w t
keep_holds W i r st w t l h = (
  stored_other (kept W i r) st (2 * w) ((λ e. omega arith), ((λ e. omega arith), ((λ e. omega arith), ((λ e. omega arith), tt)))) ∙ h.0,
  stored_other (kept W i r) st (2 * w + 1) ((λ e. omega arith), ((λ e. omega arith), ((λ e. omega arith), ((λ e. omega arith), tt)))) ∙ h.1,
)

rec_path : (a b : Record) → a.phase ≡ b.phase → a.r0 ≡ b.r0 → a.r1 ≡ b.r1 → a.r2 ≡ b.r2 → a ≡ b
rec_path a b p q s t = λ d. record { phase = p d; r0 = q d; r1 = s d; r2 = t d }

rec_set : (W : ℕ) (st : List ℕ) (u f x j : ℕ) → u < W → record_at W (set (set st (2 * u) f) (2 * u + 1) x) j ≡ record_at W st j
rec_set W st u f x j l =
    rec_path (record_at W (set (set st (2 * u) f) (2 * u + 1) x) j) (record_at W st j) (set_there st u f x (2 * W + 4 * j) (omega arith) (omega arith))
    (set_there st u f x (2 * W + 4 * j + 1) (omega arith) (omega arith)) (set_there st u f x (2 * W + 4 * j + 2) (omega arith) (omega arith))
    (set_there st u f x (2 * W + 4 * j + 3) (omega arith) (omega arith))

clear_rec : (W : ℕ) (o : Option ℕ) (b : Bool) (st : List ℕ) (j : ℕ) → ((u : ℕ) → o ≡ some u → u < W) → record_at W (stored (emptied o b) st) j ≡ record_at W st j
clear_rec W none b st j h = refl
clear_rec W (some u) false st j h = refl
clear_rec W (some u) true st j h = rec_set W st u 0 0 j (h u refl)

fill_rec : (W : ℕ) (o y : Option ℕ) (st : List ℕ) (j : ℕ) → ((u : ℕ) → o ≡ some u → u < W) → record_at W (stored (filled o y) st) j ≡ record_at W st j
fill_rec W none y st j h = refl
fill_rec W (some u) none st j h = refl
fill_rec W (some u) (some x) st j h = rec_set W st u 1 x j (h u refl)

keep_same : (W i : ℕ) (r : Record) (st : List ℕ) → 2 * W + 4 * i + 3 < length st → record_at W (stored (kept W i r) st) i ≡ r
keep_same W i r st l =
    rec_path (record_at W (stored (kept W i r) st) i) r
    (get_or-set_other s2 (a + 3) a r.r2 0 (omega arith) ∙ get_or-set_other s1 (a + 2) a r.r1 0 (omega arith) ∙ get_or-set_other s0 (a + 1) a r.r0 0 (omega arith) ∙ get_or-set_same st a r.phase 0 (omega arith))
    (get_or-set_other s2 (a + 3) (a + 1) r.r2 0 (omega arith) ∙ get_or-set_other s1 (a + 2) (a + 1) r.r1 0 (omega arith) ∙ get_or-set_same s0 (a + 1) r.r0 0 (let l0 = length-set st a r.phase in omega arith))
    (get_or-set_other s2 (a + 3) (a + 2) r.r2 0 (omega arith) ∙ get_or-set_same s1 (a + 2) r.r1 0 (let l0 = length-set st a r.phase in let l1 = length-set s0 (a + 1) r.r0 in omega arith))
    (get_or-set_same s2 (a + 3) r.r2 0 (let l0 = length-set st a r.phase in let l1 = length-set s0 (a + 1) r.r0 in let l2 = length-set s1 (a + 2) r.r1 in omega arith))
  where
    a : ℕ
    a = 2 * W + 4 * i

    s0 : List ℕ
    s0 = set st a r.phase

    s1 : List ℕ
    s1 = set s0 (a + 1) r.r0

    s2 : List ℕ
    s2 = set s1 (a + 2) r.r1

keep_other : (W i j : ℕ) (r : Record) (st : List ℕ) → j ≢ i → record_at W (stored (kept W i r) st) j ≡ record_at W st j
keep_other W i j r st n =
    rec_path (record_at W (stored (kept W i r) st) j) (record_at W st j) (off (2 * W + 4 * j) (omega arith) (omega arith)) (off (2 * W + 4 * j + 1) (omega arith) (omega arith))
    (off (2 * W + 4 * j + 2) (omega arith) (omega arith)) (off (2 * W + 4 * j + 3) (omega arith) (omega arith))
  where
    miss : (p q : ℕ) → 2 * W + 4 * j ≤ p → p < 2 * W + 4 * j + 4 → 2 * W + 4 * i ≤ q → q < 2 * W + 4 * i + 4 → p ≢ q
    miss p q a b c d e = n (let z : j ≡ i = omega arith in z)

    off : (p : ℕ) → 2 * W + 4 * j ≤ p → p < 2 * W + 4 * j + 4 → get_or (stored (kept W i r) st) p 0 ≡ get_or st p 0
    off p a b = stored_other (kept W i r) st p (
      miss p (2 * W + 4 * i) a b (omega arith) (omega arith),
      (
        miss p (2 * W + 4 * i + 1) a b (omega arith) (omega arith),
        (miss p (2 * W + 4 * i + 2) a b (omega arith) (omega arith), (miss p (2 * W + 4 * i + 3) a b (omega arith) (omega arith), tt)),
      ),
    )

token_is : (t : Option ℕ) → token (flag t) (word t) ≡ t
token_is none = refl
token_is (some x) = refl

full_is : (t : Option ℕ) → is_empty (flag t) ≡ vacant t
full_is none = refl
full_is (some x) = refl

module _ (n : ℕ) (net : Net) where
  -- the flat state st shows Z
  pub record Rep (st : List ℕ) (Z : Tokens) : Type 0 where
    pub long : length st ≡ 2 * net.wires + 4 * n
    pub wire : (w : ℕ) → w < net.wires → Holds st w (Z.wt w)
    pub record_of : (j : ℕ) → j < n → record_at net.wires st j ≡ Z.wr j

  module _ (wired : Wired net) where
    seen_is : (st : List ℕ) (Z : Tokens) → Rep st Z → (o : Option ℕ) → ((u : ℕ) → o ≡ some u → u < net.wires) → token_on st o ≡ in_tok Z o
    seen_is st Z R none h = refl
    seen_is st Z R (some w) h = let k = R.wire w (h w refl) in ap₂ token k.0 k.1 ∙ token_is (Z.wt w)

    room_is : (st : List ℕ) (Z : Tokens) → Rep st Z → (o : Option ℕ) → ((u : ℕ) → o ≡ some u → u < net.wires) → has_room st o ≡ has_space Z o
    room_is st Z R none h = refl
    room_is st Z R (some w) h = let k = R.wire w (h w refl) in ap is_empty k.0 ∙ full_is (Z.wt w)

    pub view_is : (st : List ℕ) (Z : Tokens) → Rep st Z → (i : ℕ) → i < n → view net i st ≡ view2 net Z i
    view_is st Z R i l =
        let a0 = seen_is st Z R (net.input i in0) (wired.input_below_lem i in0) in
        let a1 = seen_is st Z R (net.input i in1) (wired.input_below_lem i in1) in
        let a2 = seen_is st Z R (net.input i in2) (wired.input_below_lem i in2) in
        let b0 = room_is st Z R (net.output i out0) (wired.output_below i out0) in
        let b1 = room_is st Z R (net.output i out1) (wired.output_below i out1) in
        let c = R.record_of i l in
        λ d. record { word0 = a0 d; word1 = a1 d; word2 = a2 d; room0 = b0 d; room1 = b1 d; own = c d }

    pub flat_fire : (st : List ℕ) (Z : Tokens) → Rep st Z → (i : ℕ) → i < n → (e : Effect) → net.node i (view2 net Z i) ≡ some e
        → (st' : List ℕ) × (fire net i st ≡ some st') × Rep st' (fire2 net i e Z) × (effect_at net i st ≡ some e)
    unfolding fire2
    flat_fire st Z R i l e q =
        let s = ap (net.node i) (view_is st Z R i l) ∙ q in
        (stored (stores net i e) st, fired net i st e s, record { long = long'; wire = wire'; record_of = rec' }, s)
      where
        t1 : List ℕ
        t1 = stored (emptied (net.input i in0) e.takes0) st

        t2 : List ℕ
        t2 = stored (emptied (net.input i in1) e.takes1) t1

        t3 : List ℕ
        t3 = stored (emptied (net.input i in2) e.takes2) t2

        t4 : List ℕ
        t4 = stored (filled (net.output i out0) e.gives0) t3

        t5 : List ℕ
        t5 = stored (filled (net.output i out1) e.gives1) t4

        parts : stored (stores net i e) st ≡ stored (kept net.wires i e.next) t5
        parts = simp stored_append

        long' : length (stored (stores net i e) st) ≡ 2 * net.wires + 4 * n
        long' = length_stored (stores net i e) st ∙ R.long

        l1 : length t1 ≡ length st
        l1 = length_stored (emptied (net.input i in0) e.takes0) st

        l2 : length t2 ≡ length t1
        l2 = length_stored (emptied (net.input i in1) e.takes1) t1

        l3 : length t3 ≡ length t2
        l3 = length_stored (emptied (net.input i in2) e.takes2) t2

        l4 : length t4 ≡ length t3
        l4 = length_stored (filled (net.output i out0) e.gives0) t3

        l5 : length t5 ≡ length t4
        l5 = length_stored (filled (net.output i out1) e.gives1) t4

        wire' : (w : ℕ) → w < net.wires → Holds (stored (stores net i e) st) w
            (fill_tok (net.output i out1) e.gives1 w (fill_tok (net.output i out0) e.gives0 w (clear_tok (net.input i in2) e.takes2 w (clear_tok (net.input i in1) e.takes1 w (clear_tok (net.input i in0) e.takes0 w (Z.wt w))))))
        wire' w lw =
            let r = R.long in
            let m1 = l1 in let m2 = l2 in let m3 = l3 in let m4 = l4 in
            let h1 = clear_holds (net.input i in0) e.takes0 st w (Z.wt w) (omega arith) (R.wire w lw) in
            let h2 = clear_holds (net.input i in1) e.takes1 t1 w (clear_tok (net.input i in0) e.takes0 w (Z.wt w)) (omega arith) h1 in
            let h3 = clear_holds (net.input i in2) e.takes2 t2 w (clear_tok (net.input i in1) e.takes1 w (clear_tok (net.input i in0) e.takes0 w (Z.wt w))) (omega arith) h2 in
            let h4 = fill_holds (net.output i out0) e.gives0 t3 w (clear_tok (net.input i in2) e.takes2 w (clear_tok (net.input i in1) e.takes1 w (clear_tok (net.input i in0) e.takes0 w (Z.wt w)))) (omega arith) h3 in
            let h5 = fill_holds (net.output i out1) e.gives1 t4 w (fill_tok (net.output i out0) e.gives0 w (clear_tok (net.input i in2) e.takes2 w (clear_tok (net.input i in1) e.takes1 w (clear_tok (net.input i in0) e.takes0 w (Z.wt w))))) (omega arith) h4 in
            subst
            (λ (x : List ℕ). Holds x w (fill_tok (net.output i out1) e.gives1 w (fill_tok (net.output i out0) e.gives0 w (clear_tok (net.input i in2) e.takes2 w (clear_tok (net.input i in1) e.takes1 w (clear_tok (net.input i in0) e.takes0 w (Z.wt w)))))))
            (sym parts)
            (keep_holds net.wires i e.next t5 w (fill_tok (net.output i out1) e.gives1 w (fill_tok (net.output i out0) e.gives0 w (clear_tok (net.input i in2) e.takes2 w (clear_tok (net.input i in1) e.takes1 w (clear_tok (net.input i in0) e.takes0 w (Z.wt w)))))) lw h5)

        still : (j : ℕ) → record_at net.wires t5 j ≡ record_at net.wires st j
        still j =
            fill_rec net.wires (net.output i out1) e.gives1 t4 j (wired.output_below i out1) ∙ fill_rec net.wires (net.output i out0) e.gives0 t3 j (wired.output_below i out0) ∙ clear_rec net.wires (net.input i in2) e.takes2 t2 j (wired.input_below_lem i in2)
            ∙ clear_rec net.wires (net.input i in1) e.takes1 t1 j (wired.input_below_lem i in1) ∙ clear_rec net.wires (net.input i in0) e.takes0 st j (wired.input_below_lem i in0)

        rec' : (j : ℕ) → j < n → record_at net.wires (stored (stores net i e) st) j ≡ rec_by (eqb j i) e.next (Z.wr j)
        rec' j lj =
            let r = R.long in
            let m1 = l1 in let m2 = l2 in let m3 = l3 in let m4 = l4 in let m5 = l5 in
            ap (λ (x : List ℕ). record_at net.wires x j) parts
            ∙ elim (ℕ_discrete j i) [
              | yes c ↦ subst (λ (z : ℕ). record_at net.wires (stored (kept net.wires i e.next) t5) z ≡ rec_by (eqb z i) e.next (Z.wr z)) (sym c)
                  (keep_same net.wires i e.next t5 (omega arith) ∙ sym (ap (λ (b : Bool). rec_by b e.next (Z.wr i)) (eq-eqb i i refl)))
              | no c ↦ keep_other net.wires i j e.next t5 c ∙ still j ∙ R.record_of j lj ∙ sym (ap (λ (b : Bool). rec_by b e.next (Z.wr j)) (ne_eqb j i c))
            ]

    pub flat_run : (is : List ℕ) (st : List ℕ) (Z U : Tokens) → ((i : ℕ) (v : View) (e : Effect) → net.node i v ≡ some e → i < n) → Rep st Z → (q : Steps2 net is Z U)
        → (st' : List ℕ) × (fires (fire net) is st ≡ some st') × Rep st' U × ((w : ℕ) → history_of net is st w ≡ puts2 net is Z U q w)
    flat_run [] st Z U b R q = (st, fires_none (fire net) st, subst (λ (z : Tokens). Rep st z) q R, λ w. history_none (fire net) (put_at net) st w)
    flat_run (i ∷ is) st Z U b R q =
        let f = flat_fire st Z R i (b i (view2 net Z i) q.0 q.1) q.0 q.1 in
        let r = flat_run is f.0 (fire2 net i q.0 Z) U b f.2 q.2 in (
          r.0,
          fires_on (fire net) i is st f.0 f.1 ∙ r.1,
          r.2,
          λ w. history_on (fire net) (put_at net) i is st f.0 w f.1 ∙ ap₂ {C = List ℕ} (λ a b. a ++ b) (ap (λ (o : Option Effect). put_by net i o w) f.3) (r.3 w),
        )
