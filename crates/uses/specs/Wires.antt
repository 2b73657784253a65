-- A net's states as functions, a token a wire and a record a node; and how a token that is put on a wire runs through the wire's forks, or into
-- its drain.
--
--   Tokens                    a token a wire, a record a node
--   view2, fire2, Steps2      what a node sees, the state after a firing, firings one after the other
--   puts2                     the words that firings put on a wire
--   Spread                    how the uses of a wire come by its word: by a drain, alone, or by forks in order
--   spread                    from a token at the root, the forks or the drain bring it to every use, and leave all else as it was
--
-- Assumes nothing.
use Rattle.std.specs.Prelude.{◌≡◌, ◌≢◌, ◌⊎◌, Bool, true, false, ℕ, eqb}
use Rattle.std.proofs.Math.Path.{refl, sym, ap, path_j, subst_refl}
use Rattle.std.proofs.Common.{ap₂, ◌∙◌, subst, inl, inr, arith, eq-eqb, ne_eqb}
use Rattle.std.proofs.Math.Option.{Option, none, some}
use mathlib.Core.List.{List, [], ◌∷◌, ◌++◌, append_assoc}
use Rattle.std.proofs.Math.Decide.{ℕ_discrete}
use Rattle.step.specs.Kinds.{in0, in1, in2, out0, out1, FORK, DRAIN}
use Rattle.step.specs.Firing.{View, Effect, perform}
use Rattle.step.specs.Machines.{program, rest}
use Rattle.step.specs.declared.Record.{Record}
use Rattle.state.specs.Net.{Net}
use Rattle.confluence.specs.Histories.{put_on, puts}
use Rattle.lowered.specs.Lists.{Among, Once}

pub record Tokens : Type 0 where
  pub wt : ℕ → Option ℕ
  pub wr : ℕ → Record

abbrev pub vacant : Option ℕ → Bool
vacant none = true
vacant (some x) = false

abbrev pub in_tok : Tokens → Option ℕ → Option ℕ
in_tok Z none = none
in_tok Z (some w) = Z.wt w

abbrev pub has_space : Tokens → Option ℕ → Bool
has_space Z none = false
has_space Z (some w) = vacant (Z.wt w)

abbrev pub cut : Bool → Option ℕ → Option ℕ → Option ℕ
cut true x t = x
cut false x t = t

abbrev pub clear_tok : Option ℕ → Bool → ℕ → Option ℕ → Option ℕ
clear_tok none b w t = t
clear_tok (some u) false w t = t
clear_tok (some u) true w t = cut (eqb u w) none t

abbrev pub fill_tok : Option ℕ → Option ℕ → ℕ → Option ℕ → Option ℕ
fill_tok none y w t = t
fill_tok (some u) none w t = t
fill_tok (some u) (some x) w t = cut (eqb u w) (some x) t

abbrev pub rec_by : Bool → Record → Record → Record
rec_by true x t = x
rec_by false x t = t

-- with its lists written out, so that no call has to find them
joined : (a b l m : List ℕ) → a ≡ l → b ≡ m → a ++ b ≡ l ++ m
joined a b l m p q = ap₂ {C = List ℕ} (λ x y. x ++ y) p q

module _ (net : Net) where
  abbrev pub view2 : Tokens → ℕ → View
  view2 Z i =
      record {
        word0 = in_tok Z (net.input i in0);
        word1 = in_tok Z (net.input i in1);
        word2 = in_tok Z (net.input i in2);
        room0 = has_space Z (net.output i out0);
        room1 = has_space Z (net.output i out1);
        own = Z.wr i;
      }

  unfoldable pub fire2 : ℕ → Effect → Tokens → Tokens
  fire2 i e Z =
      record {
        wt = λ w. fill_tok (net.output i out1) e.gives1 w (fill_tok (net.output i out0) e.gives0 w (clear_tok (net.input i in2) e.takes2 w (clear_tok (net.input i in1) e.takes1 w (clear_tok (net.input i in0) e.takes0 w (Z.wt w)))));
        wr = λ j. rec_by (eqb j i) e.next (Z.wr j);
      }

  module _ where
    abbrev pub Steps2 : List ℕ → Tokens → Tokens → Type 0
    Steps2 [] Z U = Z ≡ U
    Steps2 (i ∷ is) Z U = (e : Effect) × (net.node i (view2 Z i) ≡ some e) × Steps2 is (fire2 i e Z) U

    pub steps2_append : (xs ys : List ℕ) (Z U X : Tokens) → Steps2 xs Z U → Steps2 ys U X → Steps2 (xs ++ ys) Z X
    steps2_append [] ys Z U X r q = subst (λ (z : Tokens). Steps2 ys z X) (sym r) q
    steps2_append (i ∷ xs) ys Z U X r q = (r.0, r.1, steps2_append xs ys (fire2 i r.0 Z) U X r.2 q)

    -- the words that it puts on wire w
    abbrev pub puts2 : (is : List ℕ) (Z U : Tokens) → Steps2 is Z U → ℕ → List ℕ
    puts2 [] Z U q w = []
    puts2 (i ∷ is) Z U q w = puts net i q.0 w ++ puts2 is (fire2 i q.0 Z) U q.2 w

    puts2_moved : (ys : List ℕ) (Z U X : Tokens) (r : U ≡ Z) (q : Steps2 ys U X) (w : ℕ) → puts2 ys Z X (subst (λ (z : Tokens). Steps2 ys z X) r q) w ≡ puts2 ys U X q w
    puts2_moved ys Z U X r q w = path_j (λ (z : Tokens) (e : U ≡ z). puts2 ys z X (subst (λ (v : Tokens). Steps2 ys v X) e q) w ≡ puts2 ys U X q w) (ap (λ (z : Steps2 ys U X). puts2 ys U X z w) (subst_refl (λ (v : Tokens). Steps2 ys v X) q)) r

    pub puts2_append : (xs ys : List ℕ) (Z U X : Tokens) (r : Steps2 xs Z U) (q : Steps2 ys U X) (w : ℕ)
        → puts2 (xs ++ ys) Z X (steps2_append xs ys Z U X r q) w ≡ puts2 xs Z U r w ++ puts2 ys U X q w
    unfolding steps2_append
    puts2_append [] ys Z U X r q w = puts2_moved ys Z U X (sym r) q w
    puts2_append (i ∷ xs) ys Z U X r q w =
        ap (λ (l : List ℕ). puts net i r.0 w ++ l) (puts2_append xs ys (fire2 i r.0 Z) U X r.2 q w)
        ∙ sym (append_assoc (puts net i r.0 w) (puts2 xs (fire2 i r.0 Z) U r.2 w) (puts2 ys U X q w))

    -- so, where both are known
    pub puts2_both : (xs ys : List ℕ) (Z U X : Tokens) (r : Steps2 xs Z U) (q : Steps2 ys U X) (w : ℕ) (l m : List ℕ) → puts2 xs Z U r w ≡ l → puts2 ys U X q w ≡ m
        → puts2 (xs ++ ys) Z X (steps2_append xs ys Z U X r q) w ≡ l ++ m
    puts2_both xs ys Z U X r q w l m a b = puts2_append xs ys Z U X r q w ∙ joined (puts2 xs Z U r w) (puts2 ys U X q w) l m a b

module _ (net : Net) where
  pub record IsFork (f x y1 y2 : ℕ) : Type 0 where
    pub wire0 : net.input f in0 ≡ some x
    pub none1 : net.input f in1 ≡ none
    pub none2 : net.input f in2 ≡ none
    pub leg0 : net.output f out0 ≡ some y1
    pub leg1 : net.output f out1 ≡ some y2
    pub does : (v : View) → net.node f v ≡ perform (program FORK 0 v.own) v

  pub record IsDrain (d x : ℕ) : Type 0 where
    pub wire0 : net.input d in0 ≡ some x
    pub none1 : net.input d in1 ≡ none
    pub none2 : net.input d in2 ≡ none
    pub leg0 : net.output d out0 ≡ none
    pub leg1 : net.output d out1 ≡ none
    pub does : (v : View) → net.node d v ≡ perform (program DRAIN 0 v.own) v

  module _ {P : Type 0} (pw : P → ℕ) where
    -- how the uses of wire x come by its word
    pub data Spread : ℕ → List P → Type 0 where
      drained : {x : ℕ} (d : ℕ) → IsDrain d x → Spread x []
      alone : {x : ℕ} (p : P) → pw p ≡ x → Spread x (p ∷ [])
      forked : {x : ℕ} {q : P} {ps : List P} (p : P) (f y1 y2 : ℕ) → IsFork f x y1 y2 → pw p ≡ y1 → Spread y2 (q ∷ ps) → Spread x (p ∷ q ∷ ps)

    -- the wires below, and the nodes
    abbrev pub below : {x : ℕ} {ps : List P} → Spread x ps → List ℕ
    below (drained d h) = []
    below (alone p e) = []
    below (forked p f y1 y2 h e s) = y1 ∷ y2 ∷ below s

    abbrev pub nodes : {x : ℕ} {ps : List P} → Spread x ps → List ℕ
    nodes (drained d h) = d ∷ []
    nodes (alone p e) = []
    nodes (forked p f y1 y2 h e s) = f ∷ nodes s

    abbrev pub OneOf : ℕ → List P → Type 0
    OneOf z [] = ⊥
    OneOf z (p ∷ ps) = (z ≡ pw p) ⊎ OneOf z ps

    -- what a spread does
    pub record Spreads (x y : ℕ) (ps : List P) (Z U : Tokens) : Type 0 where
      pub reached : (z : ℕ) → OneOf z ps → U.wt z ≡ some y
      pub root : (OneOf x ps → ⊥) → U.wt x ≡ none
      pub others : (z : ℕ) → z ≢ x → (OneOf z ps → ⊥) → U.wt z ≡ Z.wt z
      pub recs : (i : ℕ) → U.wr i ≡ Z.wr i

    -- DRAIN, FORK
    drain_fires : (d x y : ℕ) (Z : Tokens) → IsDrain d x → Z.wt x ≡ some y → Z.wr d ≡ rest → net.node d (view2 net Z d) ≡ some (record { takes0 = true; takes1 = false; takes2 = false; gives0 = none; gives1 = none; next = rest })
    drain_fires d x y Z h e r = h.does (view2 net Z d) ∙ rw (h.wire0, e, r)

    fork_fires : (f x y1 y2 y : ℕ) (Z : Tokens) → IsFork f x y1 y2 → Z.wt x ≡ some y → Z.wt y1 ≡ none → Z.wt y2 ≡ none → Z.wr f ≡ rest
        → net.node f (view2 net Z f) ≡ some (record { takes0 = true; takes1 = false; takes2 = false; gives0 = some y; gives1 = some y; next = rest })
    fork_fires f x y1 y2 y Z h e a b r = h.does (view2 net Z f) ∙ rw (h.wire0, e, h.leg0, a, h.leg1, b, r)

    cut_yes : (u : ℕ) (x t : Option ℕ) → cut (eqb u u) x t ≡ x
    cut_yes u x t = rw (eq-eqb u u refl)

    cut_no : (u w : ℕ) (x t : Option ℕ) → u ≢ w → cut (eqb u w) x t ≡ t
    cut_no u w x t n = rw (ne_eqb u w n)

    rec_kept : (i j : ℕ) (r t : Record) → (j ≡ i → t ≡ r) → rec_by (eqb j i) r t ≡ t
    rec_kept i j r t h =
        elim (ℕ_discrete j i) [
          | yes e ↦ subst (λ (z : ℕ). rec_by (eqb z i) r t ≡ t) (sym e) (rw (eq-eqb i i refl) (sym (h e)))
          | no e ↦ rw (ne_eqb j i e)
        ]

    none_some : (u : ℕ) → ◌≡◌ {A = Option ℕ} none (some u) → ⊥
    none_some u h = let z : ◌≡◌ {A = ℕ} 0 1 = cc in omega arith

    is_some : (u v w : ℕ) → ◌≡◌ {A = Option ℕ} (some u) (some v) → u ≡ w → w ≡ v
    is_some u v w a b = let c : u ≡ v = cc in sym b ∙ c

    on_none : (o g : Option ℕ) (w : ℕ) → ((u : ℕ) → o ≡ some u → u ≡ w → ⊥) → put_on o g w ≡ []
    on_none none g w h = refl
    on_none (some u) none w h = refl
    on_none (some u) (some x) w h = rw (ne_eqb u w (h u refl), put_on)

    on_two : (a b g h : Option ℕ) (w : ℕ) → ((u : ℕ) → a ≡ some u → u ≡ w → ⊥) → ((u : ℕ) → b ≡ some u → u ≡ w → ⊥) → put_on a g w ++ put_on b h w ≡ []
    on_two a b g h w p q = ap₂ {C = List ℕ} (λ l m. l ++ m) (on_none a g w p) (on_none b h w q)

    abbrev drain_eff : Effect
    drain_eff = record { takes0 = true; takes1 = false; takes2 = false; gives0 = none; gives1 = none; next = rest }

    abbrev fork_eff : ℕ → Effect
    fork_eff y = record { takes0 = true; takes1 = false; takes2 = false; gives0 = some y; gives1 = some y; next = rest }

    drain_wt : (d x z : ℕ) (Z : Tokens) → IsDrain d x → (fire2 net d drain_eff Z).wt z ≡ cut (eqb x z) none (Z.wt z)
    unfolding fire2
    drain_wt d x z Z h = rw (h.wire0, h.none1, h.none2, h.leg0, h.leg1)

    fork_wt : (f x y1 y2 y z : ℕ) (Z : Tokens) → IsFork f x y1 y2 → (fire2 net f (fork_eff y) Z).wt z ≡ cut (eqb y2 z) (some y) (cut (eqb y1 z) (some y) (cut (eqb x z) none (Z.wt z)))
    unfolding fire2
    fork_wt f x y1 y2 y z Z h = rw (h.wire0, h.none1, h.none2, h.leg0, h.leg1)

    kept_wr : (i : ℕ) (e : Effect) (Z : Tokens) → Z.wr i ≡ e.next → (j : ℕ) → (fire2 net i e Z).wr j ≡ Z.wr j
    unfolding fire2
    kept_wr i e Z h j = rec_kept i j e.next (Z.wr j) (λ c. ap Z.wr c ∙ h)

    pub uses_in : {x : ℕ} {ps : List P} (s : Spread x ps) (z : ℕ) → OneOf z ps → Among z (x ∷ below s)
    uses_in (drained d h) z k = absurd k
    uses_in (alone p h) z (inl k) = inl (k ∙ h)
    uses_in (alone p h) z (inr k) = absurd k
    uses_in (forked p f y1 y2 h e s) z (inl k) = inr (inl (k ∙ e))
    uses_in (forked p f y1 y2 h e s) z (inr k) = inr (inr (uses_in s z k))

    drain_spreads : (d x y : ℕ) (Z : Tokens) → IsDrain d x → Z.wr d ≡ rest → Spreads x y [] Z (fire2 net d drain_eff Z)
    drain_spreads d x y Z h r =
        record {
          reached = λ z k. absurd k;
          root = λ _. drain_wt d x x Z h ∙ cut_yes x none (Z.wt x);
          others = λ z n _. drain_wt d x z Z h ∙ cut_no x z none (Z.wt z) (λ c. n (sym c));
          recs = λ i. kept_wr d drain_eff Z r i;
        }

    module _ (f x y1 y2 y : ℕ) (Z : Tokens) (h : IsFork f x y1 y2) where
      abbrev Z1 : Tokens
      Z1 = fire2 net f (fork_eff y) Z

      at_y2 : Z1.wt y2 ≡ some y
      at_y2 = fork_wt f x y1 y2 y y2 Z h ∙ cut_yes y2 (some y) (cut (eqb y1 y2) (some y) (cut (eqb x y2) none (Z.wt y2)))

      at_y1 : y2 ≢ y1 → Z1.wt y1 ≡ some y
      at_y1 n = fork_wt f x y1 y2 y y1 Z h ∙ cut_no y2 y1 (some y) (cut (eqb y1 y1) (some y) (cut (eqb x y1) none (Z.wt y1))) n ∙ cut_yes y1 (some y) (cut (eqb x y1) none (Z.wt y1))

      at_x : y2 ≢ x → y1 ≢ x → Z1.wt x ≡ none
      at_x n m =
          fork_wt f x y1 y2 y x Z h ∙ cut_no y2 x (some y) (cut (eqb y1 x) (some y) (cut (eqb x x) none (Z.wt x))) n ∙ cut_no y1 x (some y) (cut (eqb x x) none (Z.wt x)) m
          ∙ cut_yes x none (Z.wt x)

      at_z : (z : ℕ) → y2 ≢ z → y1 ≢ z → x ≢ z → Z1.wt z ≡ Z.wt z
      at_z z n m l =
          fork_wt f x y1 y2 y z Z h ∙ cut_no y2 z (some y) (cut (eqb y1 z) (some y) (cut (eqb x z) none (Z.wt z))) n ∙ cut_no y1 z (some y) (cut (eqb x z) none (Z.wt z)) m
          ∙ cut_no x z none (Z.wt z) l

    fork_spreads : {q : P} {ps : List P} (p : P) (f x y1 y2 y : ℕ) (Z U : Tokens) (h : IsFork f x y1 y2) → pw p ≡ y1 → (s : Spread y2 (q ∷ ps)) → Once (x ∷ y1 ∷ y2 ∷ below s)
        → Z.wt y2 ≡ none → Z.wr f ≡ rest → Spreads y2 y (q ∷ ps) (fire2 net f (fork_eff y) Z) U → Spreads x y (p ∷ q ∷ ps) Z U
    fork_spreads {q} {ps} p f x y1 y2 y Z U h k s o b r u =
        record {
          reached = reached';
          root = λ n. u.others x (λ c. o.0 (inr (inl c))) (λ m. n (inr m)) ∙ at_x f x y1 y2 y Z h (λ c. o.0 (inr (inl (sym c)))) (λ c. o.0 (inl (sym c)));
          others = others';
          recs = λ i. u.recs i ∙ kept_wr f (fork_eff y) Z r i;
        }
      where
        reached' : (z : ℕ) → (z ≡ pw p) ⊎ OneOf z (q ∷ ps) → U.wt z ≡ some y
        reached' z (inl c) =
            let zy : z ≡ y1 = c ∙ k in
            ap U.wt zy ∙ u.others y1 (λ d. o.1.0 (inl d)) (λ m. o.1.0 (uses_in s y1 m)) ∙ at_y1 f x y1 y2 y Z h (λ d. o.1.0 (inl (sym d)))
        reached' z (inr c) = u.reached z c

        others' : (z : ℕ) → z ≢ x → ((z ≡ pw p) ⊎ OneOf z (q ∷ ps) → ⊥) → U.wt z ≡ Z.wt z
        others' z n m =
            elim (ℕ_discrete z y2) [
              | yes c ↦ ap U.wt c ∙ u.root (λ d. m (inr (subst (λ (w : ℕ). OneOf w (q ∷ ps)) (sym c) d))) ∙ sym b ∙ ap Z.wt (sym c)
              | no c ↦ u.others z c (λ d. m (inr d)) ∙ at_z f x y1 y2 y Z h z (λ d. c (sym d)) (λ d. m (inl (sym d ∙ sym k))) (λ d. n (sym d))
            ]

    pub spread : {x : ℕ} {ps : List P} (s : Spread x ps) (y : ℕ) (Z : Tokens) → Z.wt x ≡ some y → Once (x ∷ below s) → ((z : ℕ) → Among z (below s) → Z.wt z ≡ none)
        → ((i : ℕ) → Among i (nodes s) → Z.wr i ≡ rest) → (is : List ℕ) × (U : Tokens) × (q : Steps2 net is Z U) × Spreads x y ps Z U × ((w : ℕ) → (Among w (below s) → ⊥) → puts2 net is Z U q w ≡ [])
    unfolding puts
    spread {x = x} (drained d h) y Z e o b r = (
      d ∷ [],
      fire2 net d drain_eff Z,
      (drain_eff, drain_fires d x y Z h e (r d (inl refl)), refl),
      drain_spreads d x y Z h (r d (inl refl)),
      λ w n. ap (λ (l : List ℕ). l ++ []) (on_two (net.output d out0) (net.output d out1) none none w (λ u a b. none_some u (sym h.leg0 ∙ a)) (λ u a b. none_some u (sym h.leg1 ∙ a))),
    )
    spread {x = x} (alone p h) y Z e o b r = ([], Z, refl, record { reached = λ z k. one z k; root = λ n. absurd (n (inl (sym h))); others = λ z n k. refl; recs = λ i. refl }, λ w n. refl)
      where
        one : (z : ℕ) → (z ≡ pw p) ⊎ ⊥ → Z.wt z ≡ some y
        one z (inl k) = ap Z.wt (k ∙ h) ∙ e
        one z (inr k) = absurd k
    spread {x = x} (forked p f y1 y2 h k s) y Z e o b r =
        let ih = spread s y (fire2 net f (fork_eff y) Z) (at_y2 f x y1 y2 y Z h) o.1.1
        (λ z m. at_z f x y1 y2 y Z h z (λ c. o.1.1.0 (subst (λ (w : ℕ). Among w (below s)) (sym c) m)) (λ c. o.1.0 (inr (subst (λ (w : ℕ). Among w (below s)) (sym c) m)))
        (λ c. o.0 (inr (inr (subst (λ (w : ℕ). Among w (below s)) (sym c) m)))) ∙ b z (inr (inr m)))
        (λ i m. kept_wr f (fork_eff y) Z (r f (inl refl)) i ∙ r i (inr m)) in (
          f ∷ ih.0,
          ih.1,
          (fork_eff y, fork_fires f x y1 y2 y Z h e (b y1 (inl refl)) (b y2 (inr (inl refl))) (r f (inl refl)), ih.2),
          fork_spreads p f x y1 y2 y Z ih.1 h k s o (b y2 (inr (inl refl))) (r f (inl refl)) ih.3,
          λ w n. joined (puts net f (fork_eff y) w) (puts2 net ih.0 (fire2 net f (fork_eff y) Z) ih.1 ih.2 w) [] [] (on_two (net.output f out0) (net.output f out1) (some y) (some y) w (λ u c d. n (inl (is_some u y1 w (sym c ∙ h.leg0) d))) (λ u c d. n (inr (inl (is_some u y2 w (sym c ∙ h.leg1) d)))))
              (ih.4 w (λ m. n (inr (inr m)))),
        )
