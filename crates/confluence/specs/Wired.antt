-- Wired nets: each wire has at most one reader and one writer. There two different nodes that are ready do not disturb one another.
--
--   Wired                     one reader, one writer, and wire numbers below the number of wires
--   Store                     what one store of a firing is: of a taken wire, of a given wire, of the record
--   effect_stays              a firing depends only on the places at which it stores
--   stores_apart              two ready nodes store at different places
--   Commute                   what it is for two nodes to commute in a state
--   ready_nodes_commute       two different ready nodes commute
--
-- Idea: a firing reads only places that it writes. A taken wire is full and a given one empty, readers and writers are single and records are
-- the nodes' own: so the places of two ready nodes differ, and their stores may be made in either order.
-- Assumes nothing.
use Rattle.std.specs.Prelude.{◌≡◌, refl, ◌≢◌, Bool, true, false, List, ◌++◌, ℕ, zero, suc, ◌+◌, ◌≤◌, ◌<◌, get_or}
use Rattle.std.proofs.Common.{sym, ap, ap₂, ◌∙◌, subst₂, arith}
use Rattle.std.proofs.Math.Option.{Option, none, some}
use Rattle.step.specs.Kinds.{Input, in0, in1, in2, Output, out0, out1}
use Rattle.step.specs.Firing.{Effect, waits, room, takes, gives}
use Rattle.step.specs.Locality.{Local}
use Rattle.step.specs.declared.Record.{Record}
use Rattle.state.specs.State.{full_place, word_place, record_place, token, is_empty, token_at, token_on, has_room, record_at, Stores, stored, emptied, filled, kept}
use Rattle.state.specs.Net.{Net, view, effect_at, stores, after, fire}
use Rattle.confluence.specs.Places.{Each, each_append, each_left, each_right, each_map, Off, Apart, stored_other, stored_commute}

pub record Wired (N : Net) : Type 0 where
  pub one_reader : (i j : ℕ) (k l : Input) (w : ℕ) → N.input i k ≡ some w → N.input j l ≡ some w → (i ≡ j) × (k ≡ l)
  pub one_writer : (i j : ℕ) (k l : Output) (w : ℕ) → N.output i k ≡ some w → N.output j l ≡ some w → (i ≡ j) × (k ≡ l)
  pub input_below_lem : (i : ℕ) (k : Input) (w : ℕ) → N.input i k ≡ some w → w < N.wires
  pub output_below : (i : ℕ) (k : Output) (w : ℕ) → N.output i k ≡ some w → w < N.wires

-- what a node sees, place by place
pub waits_on_lem : (N : Net) (i : ℕ) (s : List ℕ) (k : Input) → waits (view N i s) k ≡ token_on s (N.input i k)
waits_on_lem N i s in0 = refl
waits_on_lem N i s in1 = refl
waits_on_lem N i s in2 = refl

pub room_on : (N : Net) (i : ℕ) (s : List ℕ) (k : Output) → room (view N i s) k ≡ has_room s (N.output i k)
room_on N i s out0 = refl
room_on N i s out1 = refl

-- a firing's state, from its effect and back
pub fired : (N : Net) (i : ℕ) (s : List ℕ) (e : Effect) → effect_at N i s ≡ some e → fire N i s ≡ some (stored (stores N i e) s)
unfolding fire
fired N i s e h = ap (after N i s) h

pub effect_of : (N : Net) (i : ℕ) (s a : List ℕ) → fire N i s ≡ some a → (e : Effect) × (effect_at N i s ≡ some e) × (stored (stores N i e) s ≡ a)
unfolding fire
effect_of N i s a h = go (effect_at N i s) refl h
  where
    go : (o : Option Effect) → effect_at N i s ≡ o → after N i s o ≡ some a → (e : Effect) × (effect_at N i s ≡ some e) × (stored (stores N i e) s ≡ a)
    go none e k = let z : ◌≡◌ {A = ℕ} 0 1 = cc in absurd (omega arith)
    go (some e) p k = (e, p, cc)

-- ---- the stores of one firing

-- The word v is stored at p: p is one of a wire's two places, or one of the record's four.
pub data Store (N : Net) (i : ℕ) (e : Effect) (p v : ℕ) : Type 0 where
  taken : (k : Input) (w : ℕ) → N.input i k ≡ some w → takes e k ≡ true → full_place w ≤ p → p ≤ word_place w → v ≡ 0 → Store N i e p v
  given : (k : Output) (w x : ℕ) → N.output i k ≡ some w → gives e k ≡ some x → full_place w ≤ p → p ≤ word_place w
      → (p ≡ full_place w → v ≡ 1) → (p ≡ word_place w → v ≡ x) → Store N i e p v
  left : record_place N.wires i ≤ p → p < record_place N.wires i + 4
      → (p ≡ record_place N.wires i → v ≡ e.next.phase) → (p ≡ record_place N.wires i + 1 → v ≡ e.next.r0)
      → (p ≡ record_place N.wires i + 2 → v ≡ e.next.r1) → (p ≡ record_place N.wires i + 3 → v ≡ e.next.r2) → Store N i e p v

module _ (N : Net) (i : ℕ) (e : Effect) where
  each_taken : (k : Input) (o : Option ℕ) (b : Bool) → N.input i k ≡ o → takes e k ≡ b → Each (Store N i e) (emptied o b)
  each_taken k none b p q = tt
  each_taken k (some w) false p q = tt
  each_taken k (some w) true p q = (taken k w p q (omega arith) (omega arith) refl, (taken k w p q (omega arith) (omega arith) refl, tt))

  each_given : (k : Output) (o g : Option ℕ) → N.output i k ≡ o → gives e k ≡ g → Each (Store N i e) (filled o g)
  each_given k none g p q = tt
  each_given k (some w) none p q = tt
  each_given k (some w) (some x) p q = (
    given k w x p q (omega arith) (omega arith) (λ h. refl) (λ h. absurd (omega arith)),
    (given k w x p q (omega arith) (omega arith) (λ h. absurd (omega arith)) (λ h. refl), tt),
  )

  each_left_word : Each (Store N i e) (kept N.wires i e.next)
  each_left_word = (
    left (omega arith) (omega arith) (λ h. refl) (λ h. absurd (omega arith)) (λ h. absurd (omega arith)) (λ h. absurd (omega arith)),
    (
      left (omega arith) (omega arith) (λ h. absurd (omega arith)) (λ h. refl) (λ h. absurd (omega arith)) (λ h. absurd (omega arith)),
      (
        left (omega arith) (omega arith) (λ h. absurd (omega arith)) (λ h. absurd (omega arith)) (λ h. refl) (λ h. absurd (omega arith)),
        (left (omega arith) (omega arith) (λ h. absurd (omega arith)) (λ h. absurd (omega arith)) (λ h. absurd (omega arith)) (λ h. refl), tt),
      ),
    ),
  )

  -- the six parts
  abbrev from5 : Stores
  from5 = kept N.wires i e.next

  abbrev from4 : Stores
  from4 = filled (N.output i out1) e.gives1 ++ from5

  abbrev from3 : Stores
  from3 = filled (N.output i out0) e.gives0 ++ from4

  abbrev from2 : Stores
  from2 = emptied (N.input i in2) e.takes2 ++ from3

  abbrev from1 : Stores
  from1 = emptied (N.input i in1) e.takes1 ++ from2

  pub each_store : Each (Store N i e) (stores N i e)
  each_store =
      each_append (Store N i e) (emptied (N.input i in0) e.takes0) from1 (each_taken in0 (N.input i in0) e.takes0 refl refl)
      (each_append (Store N i e) (emptied (N.input i in1) e.takes1) from2 (each_taken in1 (N.input i in1) e.takes1 refl refl)
      (each_append (Store N i e) (emptied (N.input i in2) e.takes2) from3 (each_taken in2 (N.input i in2) e.takes2 refl refl)
      (each_append (Store N i e) (filled (N.output i out0) e.gives0) from4 (each_given out0 (N.output i out0) e.gives0 refl refl)
      (each_append (Store N i e) (filled (N.output i out1) e.gives1) from5 (each_given out1 (N.output i out1) e.gives1 refl refl)
      each_left_word))))

  -- what is true of each store is true of each part
  pub part_taken : (P : ℕ → ℕ → Type 0) → Each P (stores N i e) → (k : Input) → Each P (emptied (N.input i k) (takes e k))
  part_taken P h in0 = each_left P (emptied (N.input i in0) e.takes0) from1 h
  part_taken P h in1 = each_left P (emptied (N.input i in1) e.takes1) from2 (each_right P (emptied (N.input i in0) e.takes0) from1 h)
  part_taken P h in2 =
      each_left P (emptied (N.input i in2) e.takes2) from3
      (each_right P (emptied (N.input i in1) e.takes1) from2 (each_right P (emptied (N.input i in0) e.takes0) from1 h))

  past_taken : (P : ℕ → ℕ → Type 0) → Each P (stores N i e) → Each P from3
  past_taken P h =
      each_right P (emptied (N.input i in2) e.takes2) from3
      (each_right P (emptied (N.input i in1) e.takes1) from2 (each_right P (emptied (N.input i in0) e.takes0) from1 h))

  pub part_given : (P : ℕ → ℕ → Type 0) → Each P (stores N i e) → (k : Output) → Each P (filled (N.output i k) (gives e k))
  part_given P h out0 = each_left P (filled (N.output i out0) e.gives0) from4 (past_taken P h)
  part_given P h out1 =
      each_left P (filled (N.output i out1) e.gives1) from5 (each_right P (filled (N.output i out0) e.gives0) from4 (past_taken P h))

  pub part_left : (P : ℕ → ℕ → Type 0) → Each P (stores N i e) → Each P (kept N.wires i e.next)
  part_left P h =
      each_right P (filled (N.output i out1) e.gives1) from5 (each_right P (filled (N.output i out0) e.gives0) from4 (past_taken P h))

-- ---- a firing depends only on the places at which it stores

module _ (s s' : List ℕ) where
  -- s' has the words of s at the places of some stores
  abbrev pub Agrees : Stores → Type 0
  Agrees xs = Each (λ p v. get_or s' p 0 ≡ get_or s p 0) xs

  taken_same : (o : Option ℕ) (b : Bool) → b ≡ true → Agrees (emptied o b) → token_on s' o ≡ token_on s o
  taken_same none b t h = refl
  taken_same (some w) false t h = let z : ◌≡◌ {A = ℕ} 0 1 = cc in absurd (omega arith)
  taken_same (some w) true t h = ap₂ token h.0 h.1.0

  given_same : (o g : Option ℕ) (x : ℕ) → g ≡ some x → Agrees (filled o g) → has_room s' o ≡ has_room s o
  given_same none g x t h = refl
  given_same (some w) none x t h = let z : ◌≡◌ {A = ℕ} 0 1 = cc in absurd (omega arith)
  given_same (some w) (some y) x t h = ap is_empty h.0

  left_same : (W i : ℕ) (r : Record) → Agrees (kept W i r) → record_at W s' i ≡ record_at W s i
  left_same W i r h = λ d. record { phase = h.0 d; r0 = h.1.0 d; r1 = h.1.1.0 d; r2 = h.1.1.1.0 d }

pub effect_stays : (N : Net) (i : ℕ) → Local (N.node i) → (s s' : List ℕ) (e : Effect) → effect_at N i s ≡ some e
    → Agrees s s' (stores N i e) → effect_at N i s' ≡ some e
effect_stays N i local s s' e f h =
    local.same (view N i s) (view N i s') e f
    (left_same s s' N.wires i e.next (part_left N i e Same h))
    (λ k t. waits_on_lem N i s' k ∙ taken_same s s' (N.input i k) (takes e k) t (part_taken N i e Same h k) ∙ sym (waits_on_lem N i s k))
    (λ k x g. room_on N i s' k ∙ given_same s s' (N.output i k) (gives e k) x g (part_given N i e Same h k) ∙ sym (room_on N i s k) ∙ local.free (view N i s) e f k x g)
  where
    Same : ℕ → ℕ → Type 0
    Same p v = get_or s' p 0 ≡ get_or s p 0

-- ---- two ready nodes store at different places

-- a wire is not both full and empty
full_not_empty : (s : List ℕ) (w : ℕ) → token_at s w ≢ none → is_empty (get_or s (full_place w) 0) ≡ true → ⊥
full_not_empty s w = go (get_or s (full_place w) 0)
  where
    go : (f : ℕ) → token f (get_or s (word_place w) 0) ≢ none → is_empty f ≡ true → ⊥
    go zero a b = a refl
    go (suc f) a b = let z : ◌≡◌ {A = ℕ} 0 1 = cc in omega arith

pub same_wire_lem : (w u p q : ℕ) → full_place w ≤ p → p ≤ word_place w → full_place u ≤ q → q ≤ word_place u → p ≡ q → u ≡ w
same_wire_lem w u p q a b c d e = omega arith

-- What stands between two nodes: how two nodes commute in s, the one leading to a, the other to b.
pub record Commute (N : Net) (i j : ℕ) (s a b : List ℕ) : Type 0 where
  -- both lead on to one state
  pub corner : List ℕ
  pub second : fire N j a ≡ some corner
  pub first : fire N i b ≡ some corner
  -- and each has the effect that it had
  pub same_second : effect_at N j a ≡ effect_at N j s
  pub same_first : effect_at N i b ≡ effect_at N i s

module _ (N : Net) (local : (i : ℕ) → Local (N.node i)) (wired : Wired N) where
  -- a wire that a ready node takes from is full; one that it gives on is empty
  pub taken_full : (i : ℕ) (s : List ℕ) (e : Effect) → effect_at N i s ≡ some e → (k : Input) (w : ℕ) → N.input i k ≡ some w → takes e k ≡ true
      → token_at s w ≢ none
  taken_full i s e h k w a t z = (local i).full (view N i s) e h k t (waits_on_lem N i s k ∙ ap (token_on s) a ∙ z)

  pub given_empty : (i : ℕ) (s : List ℕ) (e : Effect) → effect_at N i s ≡ some e → (k : Output) (w x : ℕ) → N.output i k ≡ some w → gives e k ≡ some x
      → is_empty (get_or s (full_place w) 0) ≡ true
  given_empty i s e h k w x a g = ap (has_room s) (sym a) ∙ sym (room_on N i s k) ∙ (local i).free (view N i s) e h k x g

  -- so what one ready node takes, no ready node gives
  pub taken_not_given : (i j : ℕ) (s : List ℕ) (e f : Effect) → effect_at N i s ≡ some e → effect_at N j s ≡ some f
      → (k : Input) (l : Output) (w x : ℕ) → N.input i k ≡ some w → takes e k ≡ true → N.output j l ≡ some w → gives f l ≡ some x → ⊥
  taken_not_given i j s e f p q k l w x a t b g = full_not_empty s w (taken_full i s e p k w a t) (given_empty j s f q l w x b g)

  module _ (i j : ℕ) (s : List ℕ) (e f : Effect) (n : i ≢ j) (p : effect_at N i s ≡ some e) (q : effect_at N j s ≡ some f) where
    differ : (x v y u : ℕ) → Store N i e x v → Store N j f y u → x ≢ y
    differ x v y u (taken k w a b c d g) (taken l z a' b' c' d' g') h = n (wired.one_reader i j k l w a (a' ∙ ap some (same_wire_lem w z x y c d c' d' h))).0
    differ x v y u (taken k w a b c d g) (given l z r a' b' c' d' g' h') h = taken_not_given i j s e f p q k l w r a b (a' ∙ ap some (same_wire_lem w z x y c d c' d' h)) b'
    differ x v y u (taken k w a b c d g) (left c' d' g0 g1 g2 g3) h = let m = wired.input_below_lem i k w a in omega arith
    differ x v y u (given k w r a b c d g g') (taken l z a' b' c' d' h') h = taken_not_given j i s f e q p l k z r a' b' (a ∙ ap some (same_wire_lem z w y x c' d' c d (sym h))) b
    differ x v y u (given k w r a b c d g g') (given l z r' a' b' c' d' h0 h1) h = n (wired.one_writer i j k l w a (a' ∙ ap some (same_wire_lem w z x y c d c' d' h))).0
    differ x v y u (given k w r a b c d g g') (left c' d' g0 g1 g2 g3) h = let m = wired.output_below i k w a in omega arith
    differ x v y u (left c d g0 g1 g2 g3) (taken l z a' b' c' d' h') h = let m = wired.input_below_lem j l z a' in omega arith
    differ x v y u (left c d g0 g1 g2 g3) (given l z r' a' b' c' d' h0 h1) h = let m = wired.output_below j l z a' in omega arith
    differ x v y u (left c d g0 g1 g2 g3) (left c' d' h0 h1 h2 h3) h = n (omega arith)

    pub stores_apart : Apart (stores N i e) (stores N j f)
    stores_apart =
        each_map (Store N i e) (λ x v. Off x (stores N j f)) (stores N i e)
        (λ x v a. each_map (Store N j f) (λ y u. x ≢ y) (stores N j f) (λ y u b. differ x v y u a b) (each_store N j f)) (each_store N i e)

    -- a ready node stays ready, with its effect, while another fires
    pub other_stays : effect_at N j (stored (stores N i e) s) ≡ some f
    other_stays =
        effect_stays N j (local j) s (stored (stores N i e) s) f q
        (each_map (Store N j f) (λ y u. get_or (stored (stores N i e) s) y 0 ≡ get_or s y 0) (stores N j f)
        (λ y u b. stored_other (stores N i e) s y (each_map (Store N i e) (λ x v. y ≢ x) (stores N i e) (λ x v a h. differ x v y u a b (sym h)) (each_store N i e)))
        (each_store N j f))

  pub ready_nodes_commute : (i j : ℕ) (s a b : List ℕ) → i ≢ j → fire N i s ≡ some a → fire N j s ≡ some b → Commute N i j s a b
  ready_nodes_commute i j s a b n f g =
      let x = effect_of N i s a f in
      let y = effect_of N j s b g in
      subst₂ (λ (u v : List ℕ). Commute N i j s u v) x.2 y.2 (both x.0 y.0 x.1 y.1)
    where
      both : (e d : Effect) → effect_at N i s ≡ some e → effect_at N j s ≡ some d → Commute N i j s (stored (stores N i e) s) (stored (stores N j d) s)
      both e d p q =
          let stays = other_stays i j s e d n p q in
          let back = other_stays j i s d e (λ h. n (sym h)) q p in
          record {
            corner = stored (stores N j d) (stored (stores N i e) s);
            second = fired N j (stored (stores N i e) s) d stays;
            first = fired N i (stored (stores N j d) s) e back ∙ ap some (sym (stored_commute (stores N i e) (stores N j d) s (stores_apart i j s e d n p q)));
            same_second = stays ∙ sym q;
            same_first = back ∙ sym p;
          }
