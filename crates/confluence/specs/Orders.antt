-- Any order, one end, for any machine whose moves are named by numbers and do not disturb one another.
--
--   fires, Rests              a list of moves made in its order, each ready in its turn; no move is ready
--   history                   the words that a list of moves puts on a wire, first to last
--   Diamond                   two different moves that are both ready may be made in either order
--   Alike                     what every list of moves has to do with one that comes to rest
--   orders_rest_alike         a diamond is enough for that
--   as_many_is_all            a list with as many moves as one that rests has rested
--
-- `fire i s` is the state after the move i in s, none where i is not ready. `put i s w` is what that move puts on wire w.
-- Idea: a move that is ready where a resting list starts is one of its moves, and may be made first. So the moves of any other list are taken
-- out of the resting one, one by one; what is left of it leads from the other list's end to the same rest.
-- Assumes nothing.
use Rattle.std.proofs.Math.Path.{◌≡◌, refl}
use Rattle.std.proofs.Common.{sym, ap, ◌∙◌, subst, append_assoc, append-nil, arith}
use Rattle.std.specs.Prelude.{◌≢◌, List, [], ◌∷◌, ◌++◌, ℕ, suc, ◌+◌, ◌≤◌, length}
use Rattle.std.proofs.Math.Option.{Option, none, some}
use Rattle.std.proofs.Math.Decide.{ℕ_discrete}

module _ {S : Type 0} (fire : ℕ → S → Option S) where
  -- the state after all moves of the list; none where one of them is not ready in its turn
  unfoldable pub fires : List ℕ → S → Option S
  fires [] s = some s
  fires (i ∷ order) s = elim (fire i s) [ none ↦ none | some a ↦ fires order a ]

  -- no move is ready
  abbrev pub Rests : S → Type 0
  Rests s = (i : ℕ) → fire i s ≡ none

  pub fires_none : (s : S) → fires [] s ≡ some s
  unfolding fires
  fires_none s = refl

  pub fires_end : (s t : S) → fires [] s ≡ some t → s ≡ t
  unfolding fires
  fires_end s t h = cc

  pub fires_on : (i : ℕ) (order : List ℕ) (s a : S) → fire i s ≡ some a → fires (i ∷ order) s ≡ fires order a
  unfolding fires
  fires_on i order s a e = rw (e, fires)

  pub fires_first : (i : ℕ) (order : List ℕ) (s t : S) → fires (i ∷ order) s ≡ some t → (a : S) × (fire i s ≡ some a) × (fires order a ≡ some t)
  unfolding fires
  fires_first i order s t h = go (fire i s) refl h
    where
      go : (o : Option S) → fire i s ≡ o → (elim o [ none ↦ none | some a ↦ fires order a ]) ≡ some t → (a : S) × (fire i s ≡ some a) × (fires order a ≡ some t)
      go none e k = let z : ◌≡◌ {A = ℕ} 0 1 = cc in absurd (omega arith)
      go (some a) e k = (a, e, k)

  pub fires_append : (order more : List ℕ) (s t u : S) → fires order s ≡ some t → fires more t ≡ some u → fires (order ++ more) s ≡ some u
  fires_append [] more s t u h k = subst (λ (x : S). fires more x ≡ some u) (sym (fires_end s t h)) k
  fires_append (i ∷ order) more s t u h k =
      let x = fires_first i order s t h in
      fires_on i (order ++ more) s x.0 x.1 ∙ fires_append order more x.0 t u x.2 k

  never_at_rest : (i : ℕ) (s t b : S) → s ≡ t → fire i t ≡ none → fire i s ≡ some b → ⊥
  never_at_rest i s t b e n f = let z : ◌≡◌ {A = ℕ} 0 1 = cc in omega arith

  -- what goes on from rest is nothing
  pub rest_ends : (more : List ℕ) (u t : S) → Rests u → fires more u ≡ some t → more ≡ []
  rest_ends [] u t h r = refl
  rest_ends (i ∷ more) u t h r = let x = fires_first i more u t r in absurd (never_at_rest i u u x.0 refl (h i) x.1)

module _ {S : Type 0} (fire : ℕ → S → Option S) (put : ℕ → S → ℕ → List ℕ) where
  unfoldable pub history : List ℕ → S → ℕ → List ℕ
  history [] s w = []
  history (i ∷ order) s w = elim (fire i s) [ none ↦ [] | some a ↦ put i s w ++ history order a w ]

  pub history_none : (s : S) (w : ℕ) → history [] s w ≡ []
  unfolding history
  history_none s w = refl

  pub history_on : (i : ℕ) (order : List ℕ) (s a : S) (w : ℕ) → fire i s ≡ some a → history (i ∷ order) s w ≡ put i s w ++ history order a w
  unfolding history
  history_on i order s a w e = rw (e, history)

  -- A list of moves `order` leads from s to t. What a list `other` from s to u has to do with it.
  pub record Alike (order : List ℕ) (s t : S) (other : List ℕ) (u : S) : Type 0 where
    -- it has no more moves
    pub no_longer : length other ≤ length order
    -- it can be extended to the same end, with as many moves in all and the same words on each wire in all
    pub goes_on : (more : List ℕ) × (fires fire more u ≡ some t) × (length other + length more ≡ length order)
        × ((w : ℕ) → history other s w ++ history more u w ≡ history order s w)
    -- and if it rests, it has as many moves, the same end, and the same words on each wire
    pub firings : Rests fire u → length other ≡ length order
    pub end : Rests fire u → u ≡ t
    pub histories : Rests fire u → (w : ℕ) → history other s w ≡ history order s w

-- `Good` is whatever is known of the states that are reached.
module _ {S : Type 0} (fire : ℕ → S → Option S) (put : ℕ → S → ℕ → List ℕ) (Good : S → Type 0) where
  pub record Diamond : Type 0 where
    pub stays_good : (i : ℕ) (s a : S) → Good s → fire i s ≡ some a → Good a
    -- two different moves that are both ready in a good state lead to one corner, with the same words on each wire
    pub corner : (i j : ℕ) (s a b : S) → Good s → i ≢ j → fire i s ≡ some a → fire j s ≡ some b
        → (c : S) × (fire j a ≡ some c) × (fire i b ≡ some c) × ((w : ℕ) → put i s w ++ put j a w ≡ put j s w ++ put i b w)

  -- a list from s to t with the move i, which leads from s to b, taken out of it
  abbrev Without : (order : List ℕ) (s t : S) (i : ℕ) (b : S) → Type 0
  Without order s t i b =
      (rest : List ℕ) × (fires fire rest b ≡ some t) × (length order ≡ suc (length rest))
      × ((w : ℕ) → history fire put order s w ≡ put i s w ++ history fire put rest b w)

  -- the list's first move is that move
  without_first : (j : ℕ) (order : List ℕ) (s t a b : S) → fire j s ≡ some a → fires fire order a ≡ some t → fire j s ≡ some b → Without (j ∷ order) s t j b
  without_first j order s t a b e r f =
      let same : a ≡ b = cc in
      subst (λ (x : S). Without (j ∷ order) s t j x) same (order, r, refl, λ w. history_on fire put j order s a w e)

  -- four lists: the middle two change places with the outer
  exchanged : (pj pi pa pb rest all : List ℕ) → all ≡ pa ++ rest → pi ++ pb ≡ pj ++ pa → pj ++ all ≡ pi ++ (pb ++ rest)
  exchanged pj pi pa pb rest all e h =
      ap (λ (l : List ℕ). pj ++ l) e ∙ sym (append_assoc pj pa rest) ∙ ap (λ (l : List ℕ). l ++ rest) (sym h) ∙ append_assoc pi pb rest

  -- it is another: the far corner, and the rest of the list from there
  without_later : Diamond → (j : ℕ) (order : List ℕ) (s t a : S) → Good s → fire j s ≡ some a → (i : ℕ) (b : S) → i ≢ j → fire i s ≡ some b
      → ((c : S) → fire i a ≡ some c → Without order a t i c) → Without (j ∷ order) s t i b
  without_later d j order s t a good e i b n f later =
      let m = d.corner i j s b a good n f e in
      let z = later m.0 m.2 in (
        j ∷ z.0,
        fires_on fire j z.0 b m.0 m.1 ∙ z.1,
        ap suc z.2,
        λ w. history_on fire put j order s a w e
            ∙ exchanged (put j s w) (put i s w) (put i a w) (put j b w) (history fire put z.0 m.0 w) (history fire put order a w) (z.3 w) (m.3 w)
            ∙ ap (λ (l : List ℕ). put i s w ++ l) (sym (history_on fire put j z.0 b m.0 w m.1)),
      )

  -- a move that is ready where a resting list starts is one of its moves
  without : Diamond → (order : List ℕ) (s t : S) → Good s → fires fire order s ≡ some t → Rests fire t → (i : ℕ) (b : S) → fire i s ≡ some b → Without order s t i b
  without d [] s t good r h i b f = absurd (never_at_rest fire i s t b (fires_end fire s t r) (h i) f)
  without d (j ∷ order) s t good r h i b f =
      let x = fires_first fire j order s t r in
      elim (ℕ_discrete i j) [
        | yes e ↦ subst (λ (k : ℕ). Without (j ∷ order) s t k b) (sym e)
            (without_first j order s t x.0 b x.1 x.2 (subst (λ (k : ℕ). fire k s ≡ some b) e f))
        | no n ↦ without_later d j order s t x.0 good x.1 i b n f
            (λ c g. without d order x.0 t (d.stays_good j s x.0 good x.1) x.2 h i c g)
      ]

  abbrev GoesOn : (order : List ℕ) (s t : S) (other : List ℕ) (u : S) → Type 0
  GoesOn order s t other u =
      (more : List ℕ) × (fires fire more u ≡ some t) × (length other + length more ≡ length order)
      × ((w : ℕ) → history fire put other s w ++ history fire put more u w ≡ history fire put order s w)

  extended : (p q z x y : List ℕ) → q ++ z ≡ x → y ≡ p ++ x → (p ++ q) ++ z ≡ y
  extended p q z x y e h = append_assoc p q z ∙ ap (λ (l : List ℕ). p ++ l) e ∙ sym h

  goes_on : Diamond → (other order : List ℕ) (s t u : S) → Good s → fires fire order s ≡ some t → Rests fire t → fires fire other s ≡ some u
      → GoesOn order s t other u
  goes_on d [] order s t u good r h q =
      subst (λ (x : S). GoesOn order s t [] x) (fires_end fire s u q)
      (order, r, omega arith, λ w. ap (λ (l : List ℕ). l ++ history fire put order s w) (history_none fire put s w))
  goes_on d (i ∷ other) order s t u good r h q =
      let x = fires_first fire i other s u q in
      let a = without d order s t good r h i x.0 x.1 in
      let g = goes_on d other a.0 x.0 t u (d.stays_good i s x.0 good x.1) a.1 h x.2 in
      let l1 : length order ≡ suc (length a.0) = a.2 in
      let l2 : length other + length g.0 ≡ length a.0 = g.2 in (
        g.0,
        g.1,
        omega arith,
        λ w. ap (λ (l : List ℕ). l ++ history fire put g.0 u w) (history_on fire put i other s x.0 w x.1)
            ∙ extended (put i s w) (history fire put other x.0 w) (history fire put g.0 u w) (history fire put a.0 x.0 w)
            (history fire put order s w) (g.3 w) (a.3 w),
      )

  pub orders_rest_alike : Diamond → (order : List ℕ) (s t : S) → Good s → fires fire order s ≡ some t → Rests fire t
      → (other : List ℕ) (u : S) → fires fire other s ≡ some u → Alike fire put order s t other u
  orders_rest_alike d order s t good r h other u q =
      let g = goes_on d other order s t u good r h q in
      let l : length other + length g.0 ≡ length order = g.2 in
      record {
        no_longer = omega arith;
        goes_on = g;
        firings = λ k. (rested g k).0;
        end = λ k. (rested g k).1;
        histories = λ k. (rested g k).2;
      }
    where
      rested : GoesOn order s t other u → Rests fire u
          → (length other ≡ length order) × (u ≡ t) × ((w : ℕ) → history fire put other s w ≡ history fire put order s w)
      rested g k = go g.0 (rest_ends fire g.0 u t k g.1) g.1 g.2 g.3
        where
          go : (more : List ℕ) → more ≡ [] → fires fire more u ≡ some t → length other + length more ≡ length order
              → ((w : ℕ) → history fire put other s w ++ history fire put more u w ≡ history fire put order s w)
              → (length other ≡ length order) × (u ≡ t) × ((w : ℕ) → history fire put other s w ≡ history fire put order s w)
          go [] e f m p = (omega arith, fires_end fire u t f, λ w. sym (append-nil _) ∙ ap (λ (l : List ℕ). history fire put other s w ++ l) (sym (history_none fire put u w)) ∙ p w)
          go (i ∷ more) e f m p = let z : ◌≡◌ {A = ℕ} 0 1 = cc in absurd (omega arith)

-- a list with as many moves as the resting one has come to its end
module _ {S : Type 0} (fire : ℕ → S → Option S) (put : ℕ → S → ℕ → List ℕ) where
  pub as_many_is_all : (order : List ℕ) (s t : S) (other : List ℕ) (u : S) → Alike fire put order s t other u → length order ≤ length other
      → (length other ≡ length order) × (u ≡ t)
  as_many_is_all order s t other u a h =
      let g = a.goes_on in
      go g.0 g.1 g.2
    where
      go : (more : List ℕ) → fires fire more u ≡ some t → length other + length more ≡ length order → (length other ≡ length order) × (u ≡ t)
      go [] f m = (omega arith, fires_end fire u t f)
      go (i ∷ more) f m = absurd (omega arith)
