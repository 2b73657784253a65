-- The machine whose state is one slot a USE: a token that is put on a wire stands at once at every use of that wire. It is the graph before forks
-- and drains, over any plan.
--
--   Plan                      which roles there are, what each does, and which wire each use reads
--   State, after              a token a use, a record a role, the words put so far; the state after some effects at once
--   Ready, Steps              a role that may fire; firings one after the other
--   stage, stage_cover        different roles that are all ready fire one after the other, and the end is `after` of all their effects
--
-- Idea of the stage: what one ready role gives, no other ready one takes, so the effects may be peeled off one by one.
-- Assumes nothing.
use Rattle.std.proofs.Math.Path.{◌≡◌, refl, ap, subst}
use Rattle.std.proofs.Common.{sym, ◌∙◌, arith}
use Rattle.std.specs.Prelude.{◌≢◌, ◌⊎◌, Bool, true, false, ℕ}
use Rattle.std.proofs.Math.Logic.{inl, inr}
use Rattle.std.proofs.Math.Option.{Option, none, some}
use mathlib.Core.List.{List, [], ◌∷◌, ◌++◌, append-nil}
use Rattle.step.specs.Kinds.{Input, in0, in1, in2, Output, out0, out1}
use Rattle.step.specs.Firing.{View, Effect, Program, perform, waits, room, takes, gives}
use Rattle.step.specs.Locality.{every_program_is_local}
use Rattle.step.specs.declared.Record.{Record}
use Rattle.lowered.specs.Lists.{Among, Once}
use Rattle.lowered.specs.Roles.{Role, same_role, Wire, start, output, Use, into, result}

-- which roles there are, what each does by its record, the outputs it has, the starts that there are, and the wire that each use reads
pub record Plan : Type 1 where
  pub source : Use → Option Wire
  pub does : Role → Record → Program
  pub Real : Role → Type 0
  pub HasOut : Role → Output → Type 0
  pub Begins : ℕ → Type 0
  -- it gives on the outputs that it has
  pub gives_there : (n : Role) (r : Record) (v : View) (e : Effect) → perform (does n r) v ≡ some e → (k : Output) (x : ℕ) → gives e k ≡ some x → HasOut n k

-- a state: the token at each use, each role's record, and the words put so far on each output
pub record State : Type 0 where
  pub tok : Use → Option ℕ
  pub own : Role → Record
  pub hist : Role → Output → List ℕ

abbrev pub give_by : Option Effect → Output → Option ℕ
give_by none o = none
give_by (some e) o = gives e o

abbrev pub take_by : Option Effect → Input → Bool
take_by none k = false
take_by (some e) k = takes e k

abbrev pub next_by : Option Effect → Record → Record
next_by none r = r
next_by (some e) r = e.next

abbrev pub put : Option ℕ → Option ℕ → Option ℕ
put none t = t
put (some x) t = some x

abbrev pub unless_taken : Bool → Option ℕ → Option ℕ
unless_taken true t = none
unless_taken false t = t

abbrev pub listed : Option ℕ → List ℕ
listed none = []
listed (some x) = x ∷ []

module _ where
  abbrev pub given : (Role → Option Effect) → Option Wire → Option ℕ
  given E none = none
  given E (some (start v)) = none
  given E (some (output n o)) = give_by (E n) o

  abbrev pub taken : (Role → Option Effect) → Use → Bool
  taken E (into n k) = take_by (E n) k
  taken E (result q) = false

  abbrev pub view_of : State → Role → View
  view_of s n =
      record {
        word0 = s.tok (into n in0);
        word1 = s.tok (into n in1);
        word2 = s.tok (into n in2);
        room0 = true;
        room1 = true;
        own = s.own n;
      }

  pub state_eq : (s t : State) → ((p : Use) → s.tok p ≡ t.tok p) → ((n : Role) → s.own n ≡ t.own n) → ((n : Role) (o : Output) → s.hist n o ≡ t.hist n o) → s ≡ t
  state_eq s t a b c = λ i. record { tok = λ p. a p i; own = λ n. b n i; hist = λ n o. c n o i }

module _ (plan : Plan) where
  -- the effects E, all at once
  abbrev pub after : (Role → Option Effect) → State → State
  after E s =
      record {
        tok = λ p. put (given E (plan.source p)) (unless_taken (taken E p) (s.tok p));
        own = λ n. next_by (E n) (s.own n);
        hist = λ n o. s.hist n o ++ listed (give_by (E n) o);
      }

module _ where
  abbrev pub one_by : Effect → (m n : Role) → Dec (m ≡ n) → Option Effect
  one_by e m n (yes p) = some e
  one_by e m n (no p) = none

  -- only n fires
  abbrev pub one : Role → Effect → Role → Option Effect
  one n e m = one_by e m n (same_role m n)

  abbrev pub less_by : (E : Role → Option Effect) (m n : Role) → Dec (m ≡ n) → Option Effect
  less_by E m n (yes p) = none
  less_by E m n (no p) = E m

  -- all but n
  abbrev pub less : Role → (Role → Option Effect) → Role → Option Effect
  less n E m = less_by E m n (same_role m n)

  pub one_same : (n : Role) (e : Effect) → one n e n ≡ some e
  one_same n e = go (same_role n n)
    where
      go : (d : Dec (n ≡ n)) → one_by e n n d ≡ some e
      go (yes p) = refl
      go (no p) = absurd (p refl)

  pub one_other : (n m : Role) (e : Effect) → m ≢ n → one n e m ≡ none
  one_other n m e h = go (same_role m n)
    where
      go : (d : Dec (m ≡ n)) → one_by e m n d ≡ none
      go (yes p) = absurd (h p)
      go (no p) = refl

  pub less_same : (n : Role) (E : Role → Option Effect) → less n E n ≡ none
  less_same n E = go (same_role n n)
    where
      go : (d : Dec (n ≡ n)) → less_by E n n d ≡ none
      go (yes p) = refl
      go (no p) = absurd (p refl)

  pub less_other : (n m : Role) (E : Role → Option Effect) → m ≢ n → less n E m ≡ E m
  less_other n m E h = go (same_role m n)
    where
      go : (d : Dec (m ≡ n)) → less_by E m n d ≡ E m
      go (yes p) = absurd (h p)
      go (no p) = refl

module _ (plan : Plan) where
  -- n is ready, with the effect e
  pub record Ready (n : Role) (e : Effect) (s : State) : Type 0 where
    pub real : plan.Real n
    pub runs : perform (plan.does n (s.own n)) (view_of s n) ≡ some e
    pub room : (p : Use) (o : Output) (x : ℕ) → plan.source p ≡ some (output n o) → gives e o ≡ some x → s.tok p ≡ none

  -- a sequence of firings
  abbrev pub Steps : List Role → State → State → Type 0
  Steps [] s t = s ≡ t
  Steps (n ∷ ns) s t = (e : Effect) × Ready n e s × Steps ns (after plan (one n e) s) t

  pub steps_append : (xs ys : List Role) (s t u : State) → Steps xs s t → Steps ys t u → Steps (xs ++ ys) s u
  steps_append [] ys s t u r q = subst (λ (z : State). Steps ys z u) (sym r) q
  steps_append (n ∷ xs) ys s t u r q = (r.0, r.1, steps_append xs ys (after plan (one n r.0) s) t u r.2 q)

  -- ---- the stage lemma

  module _ (n : Role) (e : Effect) (E : Role → Option Effect) (at_n : E n ≡ some e) where
    given_cases : (w : Option Wire)
        → ((given (less n E) w ≡ none) × (given (one n e) w ≡ given E w)) ⊎ ((given (one n e) w ≡ none) × (given (less n E) w ≡ given E w))
    given_cases none = inl (refl, refl)
    given_cases (some (start v)) = inl (refl, refl)
    given_cases (some (output m o)) =
        elim (same_role m n) [
          | yes p ↦ inl (
            subst (λ (z : Role). give_by (less n E z) o ≡ none) (sym p) (ap (λ (z : Option Effect). give_by z o) (less_same n E)),
            subst (λ (z : Role). give_by (one n e z) o ≡ give_by (E z) o) (sym p) (ap (λ (z : Option Effect). give_by z o) (one_same n e ∙ sym at_n)),
          )
          | no p ↦ inr (ap (λ (z : Option Effect). give_by z o) (one_other n m e p), ap (λ (z : Option Effect). give_by z o) (less_other n m E p))
        ]

    taken_cases : (p : Use)
        → ((taken (less n E) p ≡ false) × (taken (one n e) p ≡ taken E p)) ⊎ ((taken (one n e) p ≡ false) × (taken (less n E) p ≡ taken E p))
    taken_cases (result q) = inl (refl, refl)
    taken_cases (into m k) =
        elim (same_role m n) [
          | yes p ↦ inl (
            subst (λ (z : Role). take_by (less n E z) k ≡ false) (sym p) (ap (λ (z : Option Effect). take_by z k) (less_same n E)),
            subst (λ (z : Role). take_by (one n e z) k ≡ take_by (E z) k) (sym p) (ap (λ (z : Option Effect). take_by z k) (one_same n e ∙ sym at_n)),
          )
          | no p ↦ inr (ap (λ (z : Option Effect). take_by z k) (one_other n m e p), ap (λ (z : Option Effect). take_by z k) (less_other n m E p))
        ]

  -- the words of one use
  combine : (gl g1 g : Option ℕ) (tl t1 t : Bool) (x : Option ℕ)
      → ((gl ≡ none) × (g1 ≡ g)) ⊎ ((g1 ≡ none) × (gl ≡ g)) → ((tl ≡ false) × (t1 ≡ t)) ⊎ ((t1 ≡ false) × (tl ≡ t))
      → ((y : ℕ) → g1 ≡ some y → t ≡ true → ⊥) → put gl (unless_taken tl (put g1 (unless_taken t1 x))) ≡ put g (unless_taken t x)
  combine gl g1 g tl t1 t x (inl a) (inl b) h = rw (a.0, a.1, b.0, b.1)
  combine gl g1 none tl t1 t x (inl a) (inr b) h = rw (a.0, a.1, b.0, b.1)
  combine gl g1 (some y) tl t1 true x (inl a) (inr b) h = absurd (h y a.1 refl)
  combine gl g1 (some y) tl t1 false x (inl a) (inr b) h = rw (a.0, a.1, b.1)
  combine gl g1 g tl t1 t x (inr a) (inl b) h = rw (a.0, a.1, b.0, b.1)
  combine gl g1 g tl t1 t x (inr a) (inr b) h = rw (a.0, a.1, b.0, b.1)

  -- what one node gives, another that is ready does not take
  no_clash : (n : Role) (e : Effect) (E : Role → Option Effect) (s : State) → Ready n e s → ((m : Role) (f : Effect) → E m ≡ some f → Ready m f s)
      → (p : Use) (y : ℕ) → given (one n e) (plan.source p) ≡ some y → taken E p ≡ true → ⊥
  no_clash n e E s r rs p y g t = empty (plan.source p) refl g
    where
      full : (p : Use) → taken E p ≡ true → s.tok p ≢ none
      full (result q) t = let z : ◌≡◌ {A = ℕ} 0 1 = cc in absurd (omega arith)
      full (into m k) t = go (E m) refl t
        where
          look : (k : Input) → waits (view_of s m) k ≡ none → s.tok (into m k) ≡ none
          look in0 h = h
          look in1 h = h
          look in2 h = h

          back : (k : Input) → s.tok (into m k) ≡ none → waits (view_of s m) k ≡ none
          back in0 h = h
          back in1 h = h
          back in2 h = h

          go : (o : Option Effect) → E m ≡ o → take_by o k ≡ true → s.tok (into m k) ≢ none
          go none q u = let z : ◌≡◌ {A = ℕ} 0 1 = cc in absurd (omega arith)
          go (some f) q u = λ z. (every_program_is_local (plan.does m)).full (view_of s m) f (rs m f q).runs k u (back k z)

      empty : (w : Option Wire) → plan.source p ≡ w → given (one n e) w ≡ some y → ⊥
      empty none q u = let z : ◌≡◌ {A = ℕ} 0 1 = cc in absurd (omega arith)
      empty (some (start v)) q u = let z : ◌≡◌ {A = ℕ} 0 1 = cc in absurd (omega arith)
      empty (some (output m o)) q u = go (same_role m n) u
        where
          go : (d : Dec (m ≡ n)) → give_by (one_by e m n d) o ≡ some y → ⊥
          go (yes c) v = full p t (r.room p o y (q ∙ ap (λ (z : Role). some (output z o)) c) v)
          go (no c) v = let z : ◌≡◌ {A = ℕ} 0 1 = cc in absurd (omega arith)

  listed_cases : (gl g1 g : Option ℕ) (h : List ℕ) → ((gl ≡ none) × (g1 ≡ g)) ⊎ ((g1 ≡ none) × (gl ≡ g)) → (h ++ listed g1) ++ listed gl ≡ h ++ listed g
  listed_cases gl g1 g h (inl a) = rw (a.0, a.1) (append-nil (h ++ listed g))
  listed_cases gl g1 g h (inr a) = rw (a.0, a.1) (ap (λ (z : List ℕ). z ++ listed g) (append-nil h))

  next_cases : (n : Role) (e : Effect) (E : Role → Option Effect) → E n ≡ some e → (m : Role) (r : Record) → next_by (less n E m) (next_by (one n e m) r) ≡ next_by (E m) r
  next_cases n e E q m r =
      elim (same_role m n) [
        | yes p ↦ subst (λ (z : Role). next_by (less n E z) (next_by (one n e z) r) ≡ next_by (E z) r) (sym p)
            (rw (less_same n E, one_same n e, q))
        | no p ↦ rw (less_other n m E p, one_other n m e p)
      ]

  peel : (n : Role) (e : Effect) (E : Role → Option Effect) (s : State) → E n ≡ some e → ((m : Role) (f : Effect) → E m ≡ some f → Ready m f s)
      → after plan (less n E) (after plan (one n e) s) ≡ after plan E s
  peel n e E s q rs =
      state_eq (after plan (less n E) (after plan (one n e) s)) (after plan E s)
      (λ p. combine (given (less n E) (plan.source p)) (given (one n e) (plan.source p)) (given E (plan.source p)) (taken (less n E) p) (taken (one n e) p) (taken E p) (s.tok p)
      (given_cases n e E q (plan.source p)) (taken_cases n e E q p) (no_clash n e E s (rs n e q) rs p))
      (λ m. next_cases n e E q m (s.own m))
      (λ m o. listed_cases (give_by (less n E m) o) (give_by (one n e m) o) (give_by (E m) o) (s.hist m o) (given_cases n e E q (some (output m o))))

  put_none : (g t : Option ℕ) → ((y : ℕ) → g ≡ some y → ⊥) → put g t ≡ t
  put_none none t h = refl
  put_none (some y) t h = absurd (h y refl)

  drop_none : (b : Bool) → unless_taken b none ≡ none
  drop_none true = refl
  drop_none false = refl

  still_ready : (n : Role) (e : Effect) (E : Role → Option Effect) (s : State) → E n ≡ some e → ((m : Role) (f : Effect) → E m ≡ some f → Ready m f s)
      → (m : Role) (f : Effect) → m ≢ n → E m ≡ some f → Ready m f (after plan (one n e) s)
  still_ready n e E s q rs m f d h =
      record {
        real = (rs m f h).real;
        runs = (every_program_is_local (plan.does m)).same (view_of s m) (view_of (after plan (one n e) s) m) f (rs m f h).runs
            (ap (λ (z : Option Effect). next_by z (s.own m)) (one_other n m e d)) (λ k t. look k (kept k t)) (λ k x g. free k);
        room = λ p o x a b. emptied p o x a b;
      }
    where
      kept : (k : Input) → takes f k ≡ true → (after plan (one n e) s).tok (into m k) ≡ s.tok (into m k)
      kept k t =
          ap (λ (z : Option Effect). put (given (one n e) (plan.source (into m k))) (unless_taken (take_by z k) (s.tok (into m k)))) (one_other n m e d)
          ∙ put_none (given (one n e) (plan.source (into m k))) (s.tok (into m k))
          (λ y u. no_clash n e E s (rs n e q) rs (into m k) y u (ap (λ (z : Option Effect). take_by z k) h ∙ t))

      look : (k : Input) → (after plan (one n e) s).tok (into m k) ≡ s.tok (into m k) → waits (view_of (after plan (one n e) s) m) k ≡ waits (view_of s m) k
      look in0 h = h
      look in1 h = h
      look in2 h = h

      free : (k : Output) → room (view_of (after plan (one n e) s) m) k ≡ true
      free out0 = refl
      free out1 = refl

      emptied : (p : Use) (o : Output) (x : ℕ) → plan.source p ≡ some (output m o) → gives f o ≡ some x → (after plan (one n e) s).tok p ≡ none
      emptied p o x a b =
          ap (λ (z : Option Wire). put (given (one n e) z) (unless_taken (taken (one n e) p) (s.tok p))) a
          ∙ ap (λ (z : Option Effect). put (give_by z o) (unless_taken (taken (one n e) p) (s.tok p))) (one_other n m e d)
          ∙ ap (unless_taken (taken (one n e) p)) ((rs m f h).room p o x a b) ∙ drop_none (taken (one n e) p)

  nothing : (E : Role → Option Effect) (s : State) → ((n : Role) → E n ≡ none) → s ≡ after plan E s
  nothing E s h = sym (state_eq (after plan E s) s (λ p. toks p (plan.source p)) (λ n. ap (λ (z : Option Effect). next_by z (s.own n)) (h n))
      (λ n o. ap (λ (z : Option Effect). s.hist n o ++ listed (give_by z o)) (h n) ∙ append-nil (s.hist n o)))
    where
      took : (p : Use) → taken E p ≡ false
      took (result q) = refl
      took (into n k) = ap (λ (z : Option Effect). take_by z k) (h n)

      gave : (w : Option Wire) → given E w ≡ none
      gave none = refl
      gave (some (start v)) = refl
      gave (some (output n o)) = ap (λ (z : Option Effect). give_by z o) (h n)

      toks : (p : Use) (w : Option Wire) → put (given E w) (unless_taken (taken E p) (s.tok p)) ≡ s.tok p
      toks p w = rw (gave w, took p)

  -- THE STAGE LEMMA
  pub stage : (xs : List Role) → Once xs → (E : Role → Option Effect) (s : State) → ((n : Role) → Among n xs → (e : Effect) × (E n ≡ some e))
      → ((n : Role) → (Among n xs → ⊥) → E n ≡ none) → ((n : Role) (e : Effect) → E n ≡ some e → Ready n e s) → Steps xs s (after plan E s)
  stage [] o E s a b r = nothing E s (λ n. b n (λ h. h))
  stage (n ∷ xs) o E s a b r =
      let e = (a n (inl refl)).0 in
      let q = (a n (inl refl)).1 in (
        e,
        r n e q,
        subst (λ (z : State). Steps xs (after plan (one n e) s) z) (peel n e E s q r)
            (stage xs o.1 (less n E) (after plan (one n e) s) (λ m h. ((a m (inr h)).0, less_other n m E (λ c. o.0 (subst (λ (z : Role). Among z xs) c h)) ∙ (a m (inr h)).1))
            (λ m h. other m h) (λ m f h. fires m f h)),
      )
    where
      other : (m : Role) → (Among m xs → ⊥) → less n E m ≡ none
      other m h = go (same_role m n)
        where
          either : m ≢ n → (m ≡ n) ⊎ Among m xs → ⊥
          either c (inl x) = c x
          either c (inr x) = h x

          go : (d : Dec (m ≡ n)) → less_by E m n d ≡ none
          go (yes c) = refl
          go (no c) = b m (either c)

      fires : (m : Role) (f : Effect) → less n E m ≡ some f → Ready m f (after plan (one n (a n (inl refl)).0) s)
      fires m f h = go (same_role m n) h
        where
          go : (d : Dec (m ≡ n)) → less_by E m n d ≡ some f → Ready m f (after plan (one n (a n (inl refl)).0) s)
          go (yes c) k = let z : ◌≡◌ {A = ℕ} 0 1 = cc in absurd (omega arith)
          go (no c) k = still_ready n (a n (inl refl)).0 E s (a n (inl refl)).1 r m f c k

  -- ---- a stage from any list that covers it

  dec_among : (n : Role) (xs : List Role) → Dec (Among n xs)
  dec_among n [] = no (λ h. h)
  dec_among n (x ∷ xs) = either (same_role n x) (dec_among n xs)
    where
      either : Dec (n ≡ x) → Dec (Among n xs) → Dec ((n ≡ x) ⊎ Among n xs)
      either (yes p) d = yes (inl p)
      either (no p) (yes q) = yes (inr q)
      either (no p) (no q) = no (λ h. neither p q h)
        where
          neither : n ≢ x → (Among n xs → ⊥) → (n ≡ x) ⊎ Among n xs → ⊥
          neither p q (inl a) = p a
          neither p q (inr a) = q a

  abbrev add_to : (x : Role) → Option Effect → (l : List Role) → Dec (Among x l) → List Role
  add_to x none l d = l
  add_to x (some e) l (yes p) = l
  add_to x (some e) l (no p) = x ∷ l

  -- those of a list that have an effect, each once
  pub those : (Role → Option Effect) → List Role → List Role
  those E [] = []
  those E (x ∷ xs) = add_to x (E x) (those E xs) (dec_among x (those E xs))

  those_once : (E : Role → Option Effect) (xs : List Role) → Once (those E xs)
  unfolding those
  those_once E [] = tt
  those_once E (x ∷ xs) = go (E x) (those E xs) (dec_among x (those E xs)) (those_once E xs)
    where
      go : (o : Option Effect) (l : List Role) (d : Dec (Among x l)) → Once l → Once (add_to x o l d)
      go none l d h = h
      go (some e) l (yes p) h = h
      go (some e) l (no p) h = (p, h)

  those_sound : (E : Role → Option Effect) (xs : List Role) (n : Role) → Among n (those E xs) → (e : Effect) × (E n ≡ some e)
  unfolding those
  those_sound E [] n h = absurd h
  those_sound E (x ∷ xs) n h = go (E x) refl (those E xs) (dec_among x (those E xs)) (those_sound E xs n) h
    where
      go : (o : Option Effect) → E x ≡ o → (l : List Role) (d : Dec (Among x l)) → (Among n l → (e : Effect) × (E n ≡ some e)) → Among n (add_to x o l d) → (e : Effect) × (E n ≡ some e)
      go none q l d ih k = ih k
      go (some e) q l (yes p) ih k = ih k
      go (some e) q l (no p) ih (inl k) = (e, ap E k ∙ q)
      go (some e) q l (no p) ih (inr k) = ih k

  those_full : (E : Role → Option Effect) (xs : List Role) (n : Role) (e : Effect) → Among n xs → E n ≡ some e → Among n (those E xs)
  unfolding those
  those_full E [] n e h q = absurd h
  those_full E (x ∷ xs) n e h q = go (E x) refl (those E xs) (dec_among x (those E xs)) (λ k. those_full E xs n e k q) h
    where
      go : (o : Option Effect) → E x ≡ o → (l : List Role) (d : Dec (Among x l)) → (Among n xs → Among n l) → (n ≡ x) ⊎ Among n xs → Among n (add_to x o l d)
      go none p l d ih (inl k) = let q' : E x ≡ some e = ap E (sym k) ∙ q in let z : ◌≡◌ {A = ℕ} 0 1 = cc in absurd (omega arith)
      go none p l d ih (inr k) = ih k
      go (some a) p l (yes c) ih (inl k) = subst (λ (z : Role). Among z l) (sym k) c
      go (some a) p l (yes c) ih (inr k) = ih k
      go (some a) p l (no c) ih (inl k) = inl k
      go (some a) p l (no c) ih (inr k) = inr (ih k)

  pub stage_cover : (xs : List Role) (E : Role → Option Effect) (s : State) → ((n : Role) (e : Effect) → E n ≡ some e → Among n xs)
      → ((n : Role) (e : Effect) → E n ≡ some e → Ready n e s) → Steps (those E xs) s (after plan E s)
  stage_cover xs E s c r =
      stage (those E xs) (those_once E xs) E s (those_sound E xs) (λ n h. go n (E n) refl h) r
    where
      go : (n : Role) (o : Option Effect) → E n ≡ o → (Among n (those E xs) → ⊥) → E n ≡ none
      go n none q h = q
      go n (some e) q h = absurd (h (those_full E xs n e (c n e q) q))
