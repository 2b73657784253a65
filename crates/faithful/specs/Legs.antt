-- The FORKs and DRAINs that lowering adds, wire by wire: where each use of a wire stands, the wires behind it, and that they spread what is put on
-- it.
--
--   tails, up_from             the wires behind a wire; its nodes
--   Placed, placed_is         a use of a wire stands on a leg, and no two on the same
--   spread_built              the FORKs or the DRAIN of a wire are a spread of it
--   free_apart, free_all      the wires behind different wires are different, and every number is taken; likewise the nodes
--
-- Assumes nothing.
use Rattle.std.specs.Prelude.{◌≡◌, refl, ◌⊎◌, List, [], ◌∷◌, length}
use Rattle.std.proofs.Common.{sym, ◌∙◌, subst, inl, inr}
use Rattle.std.proofs.Math.Path.{ap}
use Rattle.std.proofs.Math.Option.{Option, none, some}
use Prim.Native.Nat.{ℕ, zero, suc, ◌+◌, ◌≤◌, ◌<◌}
use native.Mathlib.Omega.{arith}
use Rattle.std.proofs.Math.Decide.{ℕ_discrete, dec_lt}
use Rattle.std.proofs.Math.ListN.{get_elem?}
use Rattle.step.specs.Kinds.{in0, in1, in2, out0, out1}
use Rattle.step.specs.Machines.{step}
use Rattle.graph.specs.Graph.{Node, node_at, input_of, output_of}
use Rattle.state.specs.Net.{step_at, net_of}
use Rattle.lowered.specs.Lists.{Among, Once}
use Rattle.lowered.specs.Roles.{Use, same_use}
use Rattle.lowered.specs.Lower.{drain_node, fork_node, fork_rows, fork_wires, fork_nodes, free_at, all_fork_wires, all_fork_nodes, leg_by, leg_of}
use Rattle.uses.specs.Wires.{IsFork, IsDrain, Spread, drained, alone, forked, below, nodes}

abbrev pub up_from : ℕ → ℕ → List ℕ
up_from j zero = []
up_from j (suc k) = j ∷ up_from (suc j) k

none_some : {A B : Type 0} (a : A) → ◌≡◌ {A = Option A} none (some a) → B
none_some a h = let z : ◌≡◌ {A = ℕ} 0 1 = cc in absurd (omega arith)

pub up_from_all : (k j z : ℕ) → j ≤ z → z < j + k → Among z (up_from j k)
up_from_all zero j z a b = absurd (omega arith)
up_from_all (suc k) j z a b = elim (ℕ_discrete z j) [ yes e ↦ inl e | no e ↦ inr (up_from_all k (suc j) z (omega arith) (omega arith)) ]

pub up_from_range : (k j z : ℕ) → Among z (up_from j k) → (j ≤ z) × (z < j + k)
up_from_range zero j z h = absurd h
up_from_range (suc k) j z (inl e) = (omega arith, omega arith)
up_from_range (suc k) j z (inr h) = let r = up_from_range k (suc j) z h in let r0 = r.0 in let r1 = r.1 in (omega arith, omega arith)

-- of one wire x with these uses, from wire number w on: its nodes, where each use stands, the wires behind it, how many of each
abbrev pub Placed : Use → ℕ → ℕ → List Use → ℕ → Type 0
Placed p y x [] w = ⊥
Placed p y x (q ∷ []) w = (p ≡ q) × (y ≡ x)
Placed p y x (q ∷ r ∷ ps) w = ((p ≡ q) × (y ≡ w)) ⊎ Placed p y (suc w) (r ∷ ps) (suc (suc w))

abbrev pub tails : List Use → ℕ → List ℕ
tails [] w = []
tails (p ∷ []) w = []
tails (p ∷ q ∷ ps) w = w ∷ suc w ∷ tails (q ∷ ps) (suc (suc w))

pub fork_rows_long : (s x : ℕ) (us : List Use) (w : ℕ) → length (fork_rows s x us w) ≡ fork_nodes us
fork_rows_long s x [] w = refl
fork_rows_long s x (p ∷ []) w = refl
fork_rows_long s x (p ∷ q ∷ ps) w = ap suc (fork_rows_long s (suc w) (q ∷ ps) (suc (suc w)))

pub tails_range : (us : List Use) (w z : ℕ) → Among z (tails us w) → (w ≤ z) × (z < w + fork_wires us)
tails_range [] w z h = absurd h
tails_range (p ∷ []) w z h = absurd h
tails_range (p ∷ q ∷ ps) w z (inl h) = (omega arith, omega arith)
tails_range (p ∷ q ∷ ps) w z (inr (inl h)) = (omega arith, omega arith)
tails_range (p ∷ q ∷ ps) w z (inr (inr h)) = let r = tails_range (q ∷ ps) (suc (suc w)) z h in let r0 = r.0 in let r1 = r.1 in (omega arith, omega arith)

pub tails_once : (us : List Use) (w : ℕ) → Once (tails us w)
tails_once [] w = tt
tails_once (p ∷ []) w = tt
tails_once (p ∷ q ∷ ps) w = (λ h. first h, (λ h. let r = tails_range (q ∷ ps) (suc (suc w)) (suc w) h in let r0 = r.0 in omega arith, tails_once (q ∷ ps) (suc (suc w))))
  where
    first : (w ≡ suc w) ⊎ Among w (tails (q ∷ ps) (suc (suc w))) → ⊥
    first (inl e) = omega arith
    first (inr h) = let r = tails_range (q ∷ ps) (suc (suc w)) w h in let r0 = r.0 in omega arith

pub tails_all : (us : List Use) (w z : ℕ) → w ≤ z → z < w + fork_wires us → Among z (tails us w)
tails_all [] w z a b = absurd (omega arith)
tails_all (p ∷ []) w z a b = absurd (omega arith)
tails_all (p ∷ q ∷ ps) w z a b =
    elim (ℕ_discrete z w) [
      | yes e ↦ inl e
      | no e ↦ elim (ℕ_discrete z (suc w)) [ yes d ↦ inr (inl d) | no d ↦ inr (inr (tails_all (q ∷ ps) (suc (suc w)) z (omega arith) (omega arith))) ]
    ]

module _ (g : List ℕ) (pw : Use → ℕ) where
  fork_is : (f s x w : ℕ) → node_at g f ≡ some (fork_node s x w) → IsFork (net_of g) f x w (suc w)
  unfolding step
  fork_is f s x w h =
      record {
        wire0 = ap (λ (o : Option Node). input_of o in0) h;
        none1 = ap (λ (o : Option Node). input_of o in1) h;
        none2 = ap (λ (o : Option Node). input_of o in2) h;
        leg0 = ap (λ (o : Option Node). output_of o out0) h ∙ ap some (let e : w + 0 ≡ w = omega arith in e);
        leg1 = ap (λ (o : Option Node). output_of o out1) h ∙ ap some (let e : w + 1 ≡ suc w = omega arith in e);
        does = λ v. ap (λ (o : Option Node). step_at o v) h;
      }

  drain_is : (d s x : ℕ) → node_at g d ≡ some (drain_node s x) → IsDrain (net_of g) d x
  unfolding step
  drain_is d s x h =
      record {
        wire0 = ap (λ (o : Option Node). input_of o in0) h;
        none1 = ap (λ (o : Option Node). input_of o in1) h;
        none2 = ap (λ (o : Option Node). input_of o in2) h;
        leg0 = ap (λ (o : Option Node). output_of o out0) h;
        leg1 = ap (λ (o : Option Node). output_of o out1) h;
        does = λ v. ap (λ (o : Option Node). step_at o v) h;
      }

  -- they spread
  pub spread_built : (s x : ℕ) (us : List Use) (w j : ℕ) → ((i : ℕ) (nd : Node) → get_elem? (fork_rows s x us w) i ≡ some nd → node_at g (j + i) ≡ some nd)
      → ((p : Use) (y : ℕ) → Placed p y x us w → pw p ≡ y)
      → (sp : Spread (net_of g) pw x us) × (below (net_of g) pw sp ≡ tails us w) × (nodes (net_of g) pw sp ≡ up_from j (fork_nodes us))
  spread_built s x [] w j h k = (drained j (drain_is j s x (subst (λ (z : ℕ). node_at g z ≡ some (drain_node s x)) (let e : j + 0 ≡ j = omega arith in e) (h 0 (drain_node s x) refl))), refl, refl)
  spread_built s x (p ∷ []) w j h k = (alone p (k p x (refl, refl)), refl, refl)
  spread_built s x (p ∷ q ∷ ps) w j h k =
      let r = spread_built s (suc w) (q ∷ ps) (suc (suc w)) (suc j) (λ i nd e. subst (λ (z : ℕ). node_at g z ≡ some nd) (let e : j + suc i ≡ suc j + i = omega arith in e) (h (suc i) nd e)) (λ r y e. k r y (inr e)) in (
        forked p j w (suc w) (fork_is j s x w (subst (λ (z : ℕ). node_at g z ≡ some (fork_node s x w)) (let e : j + 0 ≡ j = omega arith in e) (h 0 (fork_node s x w) refl))) (k p w (inl (refl, refl))) r.0,
        ap (λ (l : List ℕ). w ∷ suc w ∷ l) r.1,
        ap (λ (l : List ℕ). j ∷ l) r.2,
      )

-- ---- all wires in order
-- of wire i, of a list from wire number w on: its first wire behind; of nodes from j on: its first node
abbrev pub fork_at : List (List Use) → ℕ → ℕ → ℕ
fork_at [] j i = j
fork_at (us ∷ uss) j zero = j
fork_at (us ∷ uss) j (suc i) = fork_at uss (j + fork_nodes us) i

pub free_low : (uss : List (List Use)) (w i : ℕ) → w ≤ free_at uss w i
free_low [] w i = omega arith
free_low (us ∷ uss) w zero = omega arith
free_low (us ∷ uss) w (suc i) = let r = free_low uss (w + fork_wires us) i in omega arith

pub free_high : (uss : List (List Use)) (w i : ℕ) (us : List Use) → get_elem? uss i ≡ some us → free_at uss w i + fork_wires us ≤ w + all_fork_wires uss
free_high [] w i us h = none_some us h
free_high (vs ∷ uss) w zero us h = let e : vs ≡ us = cc in let e' : fork_wires vs ≡ fork_wires us = ap fork_wires e in omega arith
free_high (vs ∷ uss) w (suc i) us h = let r = free_high uss (w + fork_wires vs) i us h in omega arith

-- wires behind different wires are different
pub free_apart : (uss : List (List Use)) (w i j : ℕ) (us : List Use) → get_elem? uss i ≡ some us → i < j → free_at uss w i + fork_wires us ≤ free_at uss w j
free_apart [] w i j us h l = none_some us h
free_apart (vs ∷ uss) w zero zero us h l = absurd (omega arith)
free_apart (vs ∷ uss) w zero (suc j) us h l = let e : vs ≡ us = cc in let e' : fork_wires vs ≡ fork_wires us = ap fork_wires e in let r = free_low uss (w + fork_wires vs) j in omega arith
free_apart (vs ∷ uss) w (suc i) zero us h l = absurd (omega arith)
free_apart (vs ∷ uss) w (suc i) (suc j) us h l = free_apart uss (w + fork_wires vs) i j us h (omega arith)

-- and every number is taken
pub free_all : (uss : List (List Use)) (w z : ℕ) → w ≤ z → z < w + all_fork_wires uss → (i : ℕ) × (us : List Use) × (get_elem? uss i ≡ some us) × Among z (tails us (free_at uss w i))
free_all [] w z a b = absurd (omega arith)
free_all (us ∷ uss) w z a b =
    elim (dec_lt z (w + fork_wires us)) [
      | yes l ↦ (0, us, refl, tails_all us w z a l)
      | no l ↦ let r = free_all uss (w + fork_wires us) z (omega arith) (omega arith) in (suc r.0, r.1, r.2, r.3)
    ]

pub fork_low : (uss : List (List Use)) (j i : ℕ) → j ≤ fork_at uss j i
fork_low [] j i = omega arith
fork_low (us ∷ uss) j zero = omega arith
fork_low (us ∷ uss) j (suc i) = let r = fork_low uss (j + fork_nodes us) i in omega arith

pub fork_all : (uss : List (List Use)) (j z : ℕ) → j ≤ z → z < j + all_fork_nodes uss → (i : ℕ) × (us : List Use) × (get_elem? uss i ≡ some us) × Among z (up_from (fork_at uss j i) (fork_nodes us))
fork_all [] j z a b = absurd (omega arith)
fork_all (us ∷ uss) j z a b =
    elim (dec_lt z (j + fork_nodes us)) [
      | yes l ↦ (0, us, refl, up_from_all (fork_nodes us) j z a l)
      | no l ↦ let r = fork_all uss (j + fork_nodes us) z (omega arith) (omega arith) in (suc r.0, r.1, r.2, r.3)
    ]

-- ---- where a use stands

pub placed_among : (p : Use) (y x : ℕ) (us : List Use) (w : ℕ) → Placed p y x us w → Among p us
placed_among p y x [] w h = absurd h
placed_among p y x (q ∷ []) w h = inl h.0
placed_among p y x (q ∷ r ∷ ps) w (inl h) = inl h.0
placed_among p y x (q ∷ r ∷ ps) w (inr h) = inr (placed_among p y (suc w) (r ∷ ps) (suc (suc w)) h)

pub place_there : (p : Use) (x : ℕ) (us : List Use) (w : ℕ) → Among p us → Placed p (leg_of p x us w) x us w
unfolding leg_of
place_there p x [] w h = absurd h
place_there p x (q ∷ []) w (inl e) = (e, refl)
place_there p x (q ∷ []) w (inr h) = absurd h
place_there p x (q ∷ r ∷ ps) w h = go (same_use p q) h (place_there p (suc w) (r ∷ ps) (suc (suc w)))
  where
    go : (d : Dec (p ≡ q)) → (p ≡ q) ⊎ Among p (r ∷ ps) → (Among p (r ∷ ps) → Placed p (leg_of p (suc w) (r ∷ ps) (suc (suc w))) (suc w) (r ∷ ps) (suc (suc w)))
        → Placed p (leg_by d w (leg_of p (suc w) (r ∷ ps) (suc (suc w)))) x (q ∷ r ∷ ps) w
    go (yes e) k ih = inl (e, refl)
    go (no e) (inl k) ih = absurd (e k)
    go (no e) (inr k) ih = inr (ih k)

pub placed_is : (p : Use) (y x : ℕ) (us : List Use) (w : ℕ) → Once us → Placed p y x us w → leg_of p x us w ≡ y
unfolding leg_of
placed_is p y x [] w o h = absurd h
placed_is p y x (q ∷ []) w o h = sym h.1
placed_is p y x (q ∷ r ∷ ps) w o h = go (same_use p q) h (placed_is p y (suc w) (r ∷ ps) (suc (suc w)) o.1)
  where
    go : (d : Dec (p ≡ q)) → ((p ≡ q) × (y ≡ w)) ⊎ Placed p y (suc w) (r ∷ ps) (suc (suc w)) → (Placed p y (suc w) (r ∷ ps) (suc (suc w)) → leg_of p (suc w) (r ∷ ps) (suc (suc w)) ≡ y)
        → leg_by d w (leg_of p (suc w) (r ∷ ps) (suc (suc w))) ≡ y
    go (yes e) (inl k) ih = sym k.1
    go (yes e) (inr k) ih = absurd (o.0 (subst (λ (z : Use). Among z (r ∷ ps)) e (placed_among p y (suc w) (r ∷ ps) (suc (suc w)) k)))
    go (no e) (inl k) ih = absurd (e k.0)
    go (no e) (inr k) ih = ih k

pub placed_tree : (p : Use) (y x : ℕ) (us : List Use) (w : ℕ) → Placed p y x us w → Among y (x ∷ tails us w)
placed_tree p y x [] w h = absurd h
placed_tree p y x (q ∷ []) w h = inl h.1
placed_tree p y x (q ∷ r ∷ ps) w (inl h) = inr (inl h.1)
placed_tree p y x (q ∷ r ∷ ps) w (inr h) = inr (inr (placed_tree p y (suc w) (r ∷ ps) (suc (suc w)) h))

pub placed_high : (p : Use) (y x : ℕ) (us : List Use) (w : ℕ) → Placed p y x us w → (y ≡ x) ⊎ (w ≤ y)
placed_high p y x us w h =
    elim (placed_tree p y x us w h) [ inl e ↦ inl e | inr k ↦ inr (tails_range us w y k).0 ]

pub placed_inj : (p r : Use) (y x : ℕ) (us : List Use) (w : ℕ) → Placed p y x us w → Placed r y x us w → p ≡ r
placed_inj p r y x [] w h k = absurd h
placed_inj p r y x (q ∷ []) w h k = h.0 ∙ sym k.0
placed_inj p r y x (q ∷ s ∷ ps) w (inl h) (inl k) = h.0 ∙ sym k.0
placed_inj p r y x (q ∷ s ∷ ps) w (inl h) (inr k) =
    let h1 = h.1 in elim (placed_high r y (suc w) (s ∷ ps) (suc (suc w)) k) [ inl e ↦ absurd (omega arith) | inr l ↦ absurd (omega arith) ]
placed_inj p r y x (q ∷ s ∷ ps) w (inr h) (inl k) =
    let k1 = k.1 in elim (placed_high p y (suc w) (s ∷ ps) (suc (suc w)) h) [ inl e ↦ absurd (omega arith) | inr l ↦ absurd (omega arith) ]
placed_inj p r y x (q ∷ s ∷ ps) w (inr h) (inr k) = placed_inj p r y (suc w) (s ∷ ps) (suc (suc w)) h k

pub fork_shift : (uss : List (List Use)) (j c i : ℕ) → fork_at uss (c + j) i ≡ c + fork_at uss j i
fork_shift [] j c i = refl
fork_shift (us ∷ uss) j c zero = refl
fork_shift (us ∷ uss) j c (suc i) = ap (λ (z : ℕ). fork_at uss z i) (let e : c + j + fork_nodes us ≡ c + (j + fork_nodes us) = omega arith in e) ∙ fork_shift uss (j + fork_nodes us) c i
