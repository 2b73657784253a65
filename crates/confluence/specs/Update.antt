-- What one firing leaves, place by place: taken wires empty, given wires with their words, its own record, and all else as it stood.
--
--   wire_at                   a wire's two words
--   Untouched, Touch, touch   a firing takes from a wire, gives on it, or leaves it alone
--   taken_after               a wire taken from holds 0 0
--   given_after               a wire given x holds 1 x
--   still_after               another wire stands
--   left_after, own_after     the node's record is what it left; another's stands
--
-- Assumes nothing.
use Rattle.std.specs.Prelude.{◌≡◌, refl, ◌≢◌, ◌⊎◌, Bool, true, false, List, ℕ, ◌+◌, ◌*◌, ◌≤◌, ◌<◌, get_or, length}
use Rattle.std.proofs.Common.{sym, ap, ap₂, ◌∙◌, subst₂, inl, inr, arith}
use Rattle.std.proofs.Math.Option.{Option, none, some}
use Rattle.std.proofs.Math.Decide.{ℕ_discrete}
use Rattle.step.specs.Kinds.{Input, in0, in1, in2, Output, out0, out1}
use Rattle.step.specs.Firing.{Effect, takes, gives}
use Rattle.step.specs.Locality.{Local}
use Rattle.state.specs.State.{full_place, word_place, record_place, record_at, stored, emptied, filled, kept}
use Rattle.state.specs.Net.{Net, effect_at, stores}
use Rattle.confluence.specs.Places.{Each, each_map, Off, stored_other, stored_value}
use Rattle.confluence.specs.Wired.{Wired, Store, taken, given, left, each_store, part_taken, part_given, part_left, same_wire_lem, taken_not_given}

-- whether it is full, and its word
abbrev pub wire_at : List ℕ → ℕ → ℕ × ℕ
wire_at s w = (get_or s (full_place w) 0, get_or s (word_place w) 0)

pub record Untouched (N : Net) (i : ℕ) (e : Effect) (w : ℕ) : Type 0 where
  pub not_taken : (k : Input) → N.input i k ≡ some w → takes e k ≡ true → ⊥
  pub not_given : (k : Output) (x : ℕ) → N.output i k ≡ some w → gives e k ≡ some x → ⊥

pub data Touch (N : Net) (i : ℕ) (e : Effect) (w : ℕ) : Type 0 where
  takes_it : (k : Input) → N.input i k ≡ some w → takes e k ≡ true → Touch N i e w
  gives_it : (k : Output) (x : ℕ) → N.output i k ≡ some w → gives e k ≡ some x → Touch N i e w
  leaves_it : Untouched N i e w → Touch N i e w

module _ (w : ℕ) where
  some_same : (u : ℕ) → some u ≡ some w → u ≡ w
  some_same u h = cc

  takes_or_not : (o : Option ℕ) (b : Bool) → ((o ≡ some w) × (b ≡ true)) ⊎ (o ≡ some w → b ≡ true → ⊥)
  takes_or_not none b = inr (λ h t. let z : ◌≡◌ {A = ℕ} 0 1 = cc in omega arith)
  takes_or_not (some u) false = inr (λ h t. let z : ◌≡◌ {A = ℕ} 0 1 = cc in omega arith)
  takes_or_not (some u) true = elim (ℕ_discrete u w) [ yes e ↦ inl (ap some e, refl) | no n ↦ inr (λ h t. n (some_same u h)) ]

  gives_or_not : (o g : Option ℕ) → ((x : ℕ) × (o ≡ some w) × (g ≡ some x)) ⊎ ((x : ℕ) → o ≡ some w → g ≡ some x → ⊥)
  gives_or_not none g = inr (λ x h t. let z : ◌≡◌ {A = ℕ} 0 1 = cc in omega arith)
  gives_or_not (some u) none = inr (λ x h t. let z : ◌≡◌ {A = ℕ} 0 1 = cc in omega arith)
  gives_or_not (some u) (some y) = elim (ℕ_discrete u w) [ yes e ↦ inl (y, ap some e, refl) | no n ↦ inr (λ x h t. n (some_same u h)) ]

by_input : (P : Input → Type 0) → P in0 → P in1 → P in2 → (k : Input) → P k
by_input P a b c in0 = a
by_input P a b c in1 = b
by_input P a b c in2 = c

by_output : (P : Output → Type 0) → P out0 → P out1 → (k : Output) → P k
by_output P a b out0 = a
by_output P a b out1 = b

pub touch : (N : Net) (i : ℕ) (e : Effect) (w : ℕ) → Touch N i e w
touch N i e w =
    elim (takes_or_not w (N.input i in0) e.takes0) [
      | inl a ↦ takes_it in0 a.0 a.1
      | inr a ↦ elim (takes_or_not w (N.input i in1) e.takes1) [
        | inl b ↦ takes_it in1 b.0 b.1
        | inr b ↦ elim (takes_or_not w (N.input i in2) e.takes2) [
          | inl c ↦ takes_it in2 c.0 c.1
          | inr c ↦ elim (gives_or_not w (N.output i out0) e.gives0) [
            | inl f ↦ gives_it out0 f.0 f.1 f.2
            | inr f ↦ elim (gives_or_not w (N.output i out1) e.gives1) [
              | inl g ↦ gives_it out1 g.0 g.1 g.2
              | inr g ↦ leaves_it (record {
                not_taken = by_input (λ k. N.input i k ≡ some w → takes e k ≡ true → ⊥) a b c;
                not_given = by_output (λ k. (x : ℕ) → N.output i k ≡ some w → gives e k ≡ some x → ⊥) f g;
              })
            ]
          ]
        ]
      ]
    ]

module _ (N : Net) (local : (i : ℕ) → Local (N.node i)) (wired : Wired N) (i : ℕ) (s : List ℕ) (e : Effect) (ready : effect_at N i s ≡ some e) where
  abbrev end : List ℕ
  end = stored (stores N i e) s

  -- a taken wire, and a given one, are among the stores
  store_taken : (P : ℕ → ℕ → Type 0) → Each P (stores N i e) → (k : Input) (w : ℕ) → N.input i k ≡ some w → takes e k ≡ true
      → P (full_place w) 0 × P (word_place w) 0
  store_taken P h k w a t =
      let c = subst₂ (λ (o : Option ℕ) (b : Bool). Each P (emptied o b)) a t (part_taken N i e P h k) in
      (c.0, c.1.0)

  store_given : (P : ℕ → ℕ → Type 0) → Each P (stores N i e) → (k : Output) (w x : ℕ) → N.output i k ≡ some w → gives e k ≡ some x
      → P (full_place w) 1 × P (word_place w) x
  store_given P h k w x a g =
      let c = subst₂ (λ (o y : Option ℕ). Each P (filled o y)) a g (part_given N i e P h k) in
      (c.0, c.1.0)

  -- a place holds v if every store at it is of v, and there is one
  holds : (p v : ℕ) → p < length s → ((q y : ℕ) → Store N i e q y → q ≡ p → y ≡ v) → (Off p (stores N i e) → ⊥) → get_or end p 0 ≡ v
  holds p v l one hit =
      stored_value (stores N i e) s p v l (each_map (Store N i e) (λ q y. q ≡ p → y ≡ v) (stores N i e) one (each_store N i e)) (λ off. absurd (hit off))

  stands : (p : ℕ) → ((q y : ℕ) → Store N i e q y → p ≢ q) → get_or end p 0 ≡ get_or s p 0
  stands p other = stored_other (stores N i e) s p (each_map (Store N i e) (λ q y. p ≢ q) (stores N i e) other (each_store N i e))

  pub taken_after : 2 * N.wires ≤ length s → (k : Input) (w : ℕ) → N.input i k ≡ some w → takes e k ≡ true → wire_at end w ≡ (0, 0)
  taken_after long k w a t =
      let below = wired.input_below_lem i k w a in
      ap₂ {C = ℕ × ℕ} (λ x y. (x, y))
      (holds (full_place w) 0 (omega arith) (λ q y. zero_at (full_place w) (omega arith) (omega arith) q y) (λ off. (store_taken (λ q y. full_place w ≢ q) off k w a t).0 refl))
      (holds (word_place w) 0 (omega arith) (λ q y. zero_at (word_place w) (omega arith) (omega arith) q y) (λ off. (store_taken (λ q y. word_place w ≢ q) off k w a t).1 refl))
    where
      zero_at : (p : ℕ) → full_place w ≤ p → p ≤ word_place w → (q y : ℕ) → Store N i e q y → q ≡ p → y ≡ 0
      zero_at p lo hi q y (taken l z b u c d v) h = v
      zero_at p lo hi q y (given l z x b g c d v v') h =
          absurd (taken_not_given N local wired i i s e e ready ready k l w x a t (b ∙ ap some (same_wire_lem w z p q lo hi c d (sym h))) g)
      zero_at p lo hi q y (left c d v0 v1 v2 v3) h = let below = wired.input_below_lem i k w a in absurd (omega arith)

  pub given_after : 2 * N.wires ≤ length s → (k : Output) (w x : ℕ) → N.output i k ≡ some w → gives e k ≡ some x → wire_at end w ≡ (1, x)
  given_after long k w x a g =
      let below = wired.output_below i k w a in
      ap₂ {C = ℕ × ℕ} (λ x y. (x, y))
      (holds (full_place w) 1 (omega arith) full_at (λ off. (store_given (λ q y. full_place w ≢ q) off k w x a g).0 refl))
      (holds (word_place w) x (omega arith) word_at_lem (λ off. (store_given (λ q y. word_place w ≢ q) off k w x a g).1 refl))
    where
      full_at : (q y : ℕ) → Store N i e q y → q ≡ full_place w → y ≡ 1
      full_at q y (taken l z b u c d v) h =
          absurd (taken_not_given N local wired i i s e e ready ready l k z x b u (a ∙ ap some (same_wire_lem z w q (full_place w) c d (omega arith) (omega arith) h)) g)
      full_at q y (given l z r b f c d v v') h = v (omega arith)
      full_at q y (left c d v0 v1 v2 v3) h = let below = wired.output_below i k w a in absurd (omega arith)

      -- one writer: the output is k itself
      same_word : (l : Output) (z r : ℕ) → N.output i l ≡ some z → gives e l ≡ some r → z ≡ w → r ≡ x
      same_word l z r b f h =
          let same = (wired.one_writer i i l k w (b ∙ ap some h) a).1 in
          let f' : gives e k ≡ some r = ap (gives e) (sym same) ∙ f in
          cc

      word_at_lem : (q y : ℕ) → Store N i e q y → q ≡ word_place w → y ≡ x
      word_at_lem q y (taken l z b u c d v) h =
          absurd (taken_not_given N local wired i i s e e ready ready l k z x b u (a ∙ ap some (same_wire_lem z w q (word_place w) c d (omega arith) (omega arith) h)) g)
      word_at_lem q y (given l z r b f c d v v') h = v' (omega arith) ∙ same_word l z r b f (omega arith)
      word_at_lem q y (left c d v0 v1 v2 v3) h = let below = wired.output_below i k w a in absurd (omega arith)

  pub still_after : (w : ℕ) → w < N.wires → Untouched N i e w → wire_at end w ≡ wire_at s w
  still_after w below un =
      ap₂ {C = ℕ × ℕ} (λ x y. (x, y)) (stands (full_place w) (off (full_place w) (omega arith) (omega arith))) (stands (word_place w) (off (word_place w) (omega arith) (omega arith)))
    where
      off : (p : ℕ) → full_place w ≤ p → p ≤ word_place w → (q y : ℕ) → Store N i e q y → p ≢ q
      off p lo hi q y (taken l z b u c d v) h = un.not_taken l (b ∙ ap some (same_wire_lem w z p q lo hi c d h)) u
      off p lo hi q y (given l z r b f c d v v') h = un.not_given l r (b ∙ ap some (same_wire_lem w z p q lo hi c d h)) f
      off p lo hi q y (left c d v0 v1 v2 v3) h = omega arith

  abbrev own : ℕ
  own = record_place N.wires i

  -- a store at the node's record is one of its four words
  only_left : (p v : ℕ) → own ≤ p
      → ((y : ℕ) → (p ≡ own → y ≡ e.next.phase) → (p ≡ own + 1 → y ≡ e.next.r0) → (p ≡ own + 2 → y ≡ e.next.r1) → (p ≡ own + 3 → y ≡ e.next.r2) → y ≡ v)
      → (q y : ℕ) → Store N i e q y → q ≡ p → y ≡ v
  only_left p v lo last q y (taken l z b u c d v') h = let below = wired.input_below_lem i l z b in absurd (omega arith)
  only_left p v lo last q y (given l z r b f c d v' v'') h = let below = wired.output_below i l z b in absurd (omega arith)
  only_left p v lo last q y (left c d v0 v1 v2 v3) h = last y (λ g. v0 (h ∙ g)) (λ g. v1 (h ∙ g)) (λ g. v2 (h ∙ g)) (λ g. v3 (h ∙ g))

  -- the record's word at p, which is stored there
  left_word : (p v : ℕ) → own ≤ p → p < length s
      → ((y : ℕ) → (p ≡ own → y ≡ e.next.phase) → (p ≡ own + 1 → y ≡ e.next.r0) → (p ≡ own + 2 → y ≡ e.next.r1) → (p ≡ own + 3 → y ≡ e.next.r2) → y ≡ v)
      → (Off p (kept N.wires i e.next) → ⊥) → get_or end p 0 ≡ v
  left_word p v lo inside last hit = holds p v inside (only_left p v lo last) (λ off. hit (part_left N i e (λ q y. p ≢ q) off))

  pub left_after : own + 4 ≤ length s → record_at N.wires end i ≡ e.next
  left_after long =
      let p0 = left_word own e.next.phase (omega arith) (omega arith) (λ y a b c d. a refl) (λ off. off.0 refl) in
      let p1 = left_word (own + 1) e.next.r0 (omega arith) (omega arith) (λ y a b c d. b refl) (λ off. off.1.0 refl) in
      let p2 = left_word (own + 2) e.next.r1 (omega arith) (omega arith) (λ y a b c d. c refl) (λ off. off.1.1.0 refl) in
      let p3 = left_word (own + 3) e.next.r2 (omega arith) (omega arith) (λ y a b c d. d refl) (λ off. off.1.1.1.0 refl) in
      λ d. record { phase = p0 d; r0 = p1 d; r1 = p2 d; r2 = p3 d }

  pub own_after : (j : ℕ) → j ≢ i → record_at N.wires end j ≡ record_at N.wires s j
  own_after j n =
      let p0 = stands (record_place N.wires j) (off (record_place N.wires j) (omega arith) (omega arith)) in
      let p1 = stands (record_place N.wires j + 1) (off (record_place N.wires j + 1) (omega arith) (omega arith)) in
      let p2 = stands (record_place N.wires j + 2) (off (record_place N.wires j + 2) (omega arith) (omega arith)) in
      let p3 = stands (record_place N.wires j + 3) (off (record_place N.wires j + 3) (omega arith) (omega arith)) in
      λ d. record { phase = p0 d; r0 = p1 d; r1 = p2 d; r2 = p3 d }
    where
      off : (p : ℕ) → record_place N.wires j ≤ p → p < record_place N.wires j + 4 → (q y : ℕ) → Store N i e q y → p ≢ q
      off p lo hi q y (taken l z b u c d v) h = let below = wired.input_below_lem i l z b in omega arith
      off p lo hi q y (given l z r b f c d v v') h = let below = wired.output_below i l z b in omega arith
      off p lo hi q y (left c d v0 v1 v2 v3) h = n (omega arith)
