-- A graph that lays out a plan: forks and drains apart. A firing of the use machine is, in the graph, the firing of the role's node and then the
-- forks of what it gave, in order, or its drain.
--
--   Layout                    where the roles, wires and uses of a plan stand in a net, and which forks or drain spread each wire
--   Shown                     the net's tokens and records show a state of the use machine; the wires between forks are empty
--   fire_shown                one firing
--   run_shown                 so every run of the use machine is one of the net, no shorter and with the same words on each wire
--
-- Idea: a wire and the wires behind it form a tree; trees of different wires are apart; a role that gives on a wire finds its tree empty.
-- Assumes nothing.
use Rattle.std.proofs.Math.Path.{◌≡◌, sym, ap, ap₂}
use Rattle.std.specs.Prelude.{refl, ◌≢◌, ◌⊎◌, Bool, false, ℕ, ◌≤◌, ◌<◌, eqb, length}
use Rattle.std.proofs.Common.{◌∙◌, subst, inl, inr, arith, eq-eqb, ne_eqb, length-append}
use Rattle.std.proofs.Math.Bool.{true}
use Rattle.std.proofs.Math.Option.{Option, none, some}
use mathlib.Core.List.{List, [], ◌∷◌, ◌++◌, append-nil, append_assoc}
use Rattle.std.proofs.Math.Decide.{ℕ_discrete}
use Rattle.step.specs.Kinds.{Input, in0, in1, in2, Output, out0, out1}
use Rattle.step.specs.Firing.{View, Effect, perform, waits, room, takes, gives}
use Rattle.step.specs.Machines.{rest}
use Rattle.step.specs.Locality.{every_program_is_local}
use Rattle.state.specs.Net.{Net}
use Rattle.confluence.specs.Histories.{put_on, puts}
use Rattle.lowered.specs.Lists.{Among, Once}
use Rattle.lowered.specs.Roles.{Role, same_role, Wire, start, output, Use, into, result}
use Rattle.uses.specs.Machine.{Plan, State, give_by, take_by, next_by, put, unless_taken, listed, given, taken, view_of, after, one, one_same, one_other, Ready, Steps}
use Rattle.uses.specs.Wires.{Tokens, vacant, in_tok, has_space, clear_tok, fill_tok, rec_by, view2, fire2, Steps2, steps2_append, puts2, puts2_append, puts2_both, Spread, below, nodes, OneOf, Spreads, uses_in, spread}

not_both : {A : Type 0} (o : Option ℕ) (y : ℕ) → o ≡ none → o ≡ some y → A
not_both o y a b = let z : ◌≡◌ {A = ℕ} 0 1 = cc in absurd (omega arith)

abbrev pub wire_if : Option Wire → ℕ → Option ℕ
wire_if none x = none
wire_if (some w) x = some x

module _ (plan : Plan) where
  -- the wires that the plan has
  abbrev pub Made : Wire → Type 0
  Made (start v) = plan.Begins v
  Made (output n o) = plan.Real n × plan.HasOut n o

-- how a net lays out a plan
pub record Layout (plan : Plan) (net : Net) : Type 0 where
  -- node of a role, wire of a use, wire of an output before forks
  pub num : Role → ℕ
  pub pw : Use → ℕ
  pub ww : Wire → ℕ
  -- the uses of a wire in order, the wires behind it, its forks or its drain
  pub users : Wire → List Use
  pub tail : Wire → List ℕ
  pub forks : Wire → List ℕ
  pub sp : (w : Wire) → Made plan w → (s : Spread net pw (ww w) (users w)) × (below net pw s ≡ tail w) × (nodes net pw s ≡ forks w)
  pub tree_once : (w : Wire) → Made plan w → Once (ww w ∷ tail w)
  pub tree_apart : (w u : Wire) → Made plan w → Made plan u → (x : ℕ) → Among x (ww w ∷ tail w) → Among x (ww u ∷ tail u) → w ≡ u
  pub users_full : (p : Use) (w : Wire) → plan.source p ≡ some w → Among p (users w) × Made plan w
  pub users_sound : (p : Use) (w : Wire) → Made plan w → Among p (users w) → plan.source p ≡ some w
  pub pw_inj : (p r : Use) (w u : Wire) → plan.source p ≡ some w → plan.source r ≡ some u → pw p ≡ pw r → p ≡ r
  pub num_inj : (n m : Role) → plan.Real n → plan.Real m → num n ≡ num m → n ≡ m
  pub aside : (n : Role) → plan.Real n → (w : Wire) → Made plan w → Among (num n) (forks w) → ⊥
  pub ins : (n : Role) → plan.Real n → (k : Input) → net.input (num n) k ≡ wire_if (plan.source (into n k)) (pw (into n k))
  pub outs : (n : Role) → plan.Real n → (o : Output) → plan.HasOut n o → net.output (num n) o ≡ some (ww (output n o))
  pub does : (n : Role) → plan.Real n → (v : View) → net.node (num n) v ≡ perform (plan.does n v.own) v

module _ (plan : Plan) (net : Net) (y : Layout plan net) where
  abbrev pub Tree : ℕ → Wire → Type 0
  Tree x w = Among x (y.ww w ∷ y.tail w)

  -- x is the wire of one of w's uses
  abbrev pub UseOf : ℕ → Wire → Type 0
  UseOf x w = OneOf net y.pw x (y.users w)

  -- the real state Z shows the state s of the use machine
  pub record Shown (Z : Tokens) (s : State) : Type 0 where
    pub at_use : (p : Use) (w : Wire) → plan.source p ≡ some w → Z.wt (y.pw p) ≡ s.tok p
    pub between : (w : Wire) → Made plan w → (x : ℕ) → Tree x w → (UseOf x w → ⊥) → Z.wt x ≡ none
    pub at_node : (n : Role) → plan.Real n → Z.wr (y.num n) ≡ s.own n
    pub at_fork : (w : Wire) → Made plan w → (i : ℕ) → Among i (y.forks w) → Z.wr i ≡ rest
    pub nowhere : (p : Use) → plan.source p ≡ none → s.tok p ≡ none

  -- ---- wires and trees
  pub dec_use : (x : ℕ) (ps : List Use) → Dec (OneOf net y.pw x ps)
  dec_use x [] = no (λ h. h)
  dec_use x (p ∷ ps) = either (ℕ_discrete x (y.pw p)) (dec_use x ps)
    where
      either : Dec (x ≡ y.pw p) → Dec (OneOf net y.pw x ps) → Dec ((x ≡ y.pw p) ⊎ OneOf net y.pw x ps)
      either (yes a) b = yes (inl a)
      either (no a) (yes b) = yes (inr b)
      either (no a) (no b) = no (λ h. neither a b h)
        where
          neither : x ≢ y.pw p → (OneOf net y.pw x ps → ⊥) → (x ≡ y.pw p) ⊎ OneOf net y.pw x ps → ⊥
          neither a b (inl h) = a h
          neither a b (inr h) = b h

  pub use_found : (x : ℕ) (ps : List Use) → OneOf net y.pw x ps → (p : Use) × Among p ps × (x ≡ y.pw p)
  use_found x [] h = absurd h
  use_found x (p ∷ ps) (inl h) = (p, inl refl, h)
  use_found x (p ∷ ps) (inr h) = let r = use_found x ps h in (r.0, inr r.1, r.2)

  pub among_use : (p : Use) (ps : List Use) → Among p ps → OneOf net y.pw (y.pw p) ps
  among_use p [] h = absurd h
  among_use p (x ∷ ps) (inl h) = inl (ap y.pw h)
  among_use p (x ∷ ps) (inr h) = inr (among_use p ps h)

  pub use_tree : (x : ℕ) (w : Wire) → Made plan w → UseOf x w → Tree x w
  use_tree x w m h = subst (λ (l : List ℕ). Among x (y.ww w ∷ l)) (y.sp w m).1 (uses_in net y.pw (y.sp w m).0 x h)

  pub use_in_tree : (p : Use) (w : Wire) → plan.source p ≡ some w → Tree (y.pw p) w
  use_in_tree p w h = let u = y.users_full p w h in use_tree (y.pw p) w u.1 (among_use p (y.users w) u.0)

  tree_empty : (Z : Tokens) (s : State) → Shown Z s → (w : Wire) → Made plan w → ((p : Use) → plan.source p ≡ some w → s.tok p ≡ none) → (x : ℕ) → Tree x w → Z.wt x ≡ none
  tree_empty Z s R w m h x t =
      elim (dec_use x (y.users w)) [
        | yes u ↦
            let r = use_found x (y.users w) u in
            let q = y.users_sound r.0 w m r.1 in
            ap Z.wt r.2 ∙ R.at_use r.0 w q ∙ h r.0 q
        | no u ↦ R.between w m x t u
      ]

  -- ---- one firing
  fill_none : (o g : Option ℕ) (x : ℕ) (t : Option ℕ) → g ≡ none → fill_tok o g x t ≡ t
  fill_none none g x t h = refl
  fill_none (some u) none x t h = refl
  fill_none (some u) (some z) x t h = not_both (some z) z h refl

  fill_yes : (o g : Option ℕ) (x z : ℕ) (t : Option ℕ) → o ≡ some x → g ≡ some z → fill_tok o g x t ≡ some z
  fill_yes o g x z t a b = rw (a, b, eq-eqb x x refl)

  fill_no : (o g : Option ℕ) (x : ℕ) (t : Option ℕ) → ((u z : ℕ) → o ≡ some u → g ≡ some z → u ≢ x) → fill_tok o g x t ≡ t
  fill_no none g x t h = refl
  fill_no (some u) none x t h = refl
  fill_no (some u) (some z) x t h = rw (ne_eqb u x (h u z refl refl))

  clear_no : (o : Option ℕ) (b : Bool) (x : ℕ) (t : Option ℕ) → ((u : ℕ) → o ≡ some u → b ≡ true → u ≢ x) → clear_tok o b x t ≡ t
  clear_no none b x t h = refl
  clear_no (some u) false x t h = refl
  clear_no (some u) true x t h = rw (ne_eqb u x (h u refl refl))

  clear_yes : (o : Option ℕ) (b : Bool) (x : ℕ) (t : Option ℕ) → o ≡ some x → clear_tok o b x t ≡ unless_taken b t
  clear_yes o true x t a = rw (a, eq-eqb x x refl)
  clear_yes o false x t a = rw a

  wire_some : (w : Option Wire) (x u : ℕ) → wire_if w x ≡ some u → (v : Wire) × (w ≡ some v) × (x ≡ u)
  wire_some none x u h = let z : ◌≡◌ {A = ℕ} 0 1 = cc in absurd (omega arith)
  wire_some (some v) x u h = (v, refl, cc)

  module _ (Z : Tokens) (s : State) (R : Shown Z s) (n : Role) (e : Effect) (rd : Ready plan n e s) where
    rl : plan.Real n
    rl = rd.real

    i : ℕ
    i = y.num n

    made : (o : Output) (z : ℕ) → gives e o ≡ some z → Made plan (output n o)
    made o z h = (rl, plan.gives_there n (s.own n) (view_of s n) e rd.runs o z h)

    -- the outputs that it gives on have empty trees
    free_tree : (o : Output) (z : ℕ) → gives e o ≡ some z → (x : ℕ) → Tree x (output n o) → Z.wt x ≡ none
    free_tree o z h x t = tree_empty Z s R (output n o) (made o z h) (λ p q. rd.room p o z q h) x t

    out_wire : (o : Output) (z : ℕ) → gives e o ≡ some z → net.output i o ≡ some (y.ww (output n o))
    unfolding i
    out_wire o z h = y.outs n rl o (made o z h).1

    in_tok_lem : (k : Input) → in_tok Z (net.input (y.num n) k) ≡ s.tok (into n k)
    in_tok_lem k = go (plan.source (into n k)) refl
      where
        go : (w : Option Wire) → plan.source (into n k) ≡ w → in_tok Z (net.input (y.num n) k) ≡ s.tok (into n k)
        go none h = ap (in_tok Z) (y.ins n rl k ∙ ap (λ (z : Option Wire). wire_if z (y.pw (into n k))) h) ∙ sym (R.nowhere (into n k) h)
        go (some w) h = ap (in_tok Z) (y.ins n rl k ∙ ap (λ (z : Option Wire). wire_if z (y.pw (into n k))) h) ∙ R.at_use (into n k) w h

    fires : net.node i (view2 net Z i) ≡ some e
    unfolding i rl
    fires =
        y.does n rl (view2 net Z (y.num n))
        ∙ (every_program_is_local (plan.does n)).same (view_of s n) (view2 net Z (y.num n)) e rd.runs (R.at_node n rl) (λ k t. look k) (λ k x q. space k x q)
      where
        look : (k : Input) → waits (view2 net Z (y.num n)) k ≡ waits (view_of s n) k
        look in0 = in_tok_lem in0
        look in1 = in_tok_lem in1
        look in2 = in_tok_lem in2

        spacious : (o : Output) (x : ℕ) → gives e o ≡ some x → has_space Z (net.output (y.num n) o) ≡ true
        spacious o x q = ap (has_space Z) (y.outs n rl o (made o x q).1) ∙ ap vacant (free_tree o x q (y.ww (output n o)) (inl refl))

        space : (k : Output) (x : ℕ) → gives e k ≡ some x → room (view2 net Z (y.num n)) k ≡ true
        space out0 x q = spacious out0 x q
        space out1 x q = spacious out1 x q

    abbrev Z1 : Tokens
    Z1 = fire2 net i e Z

    o_apart : (x : ℕ) → gives e out0 ≢ none → gives e out1 ≢ none → Tree x (output n out0) → Tree x (output n out1) → ⊥
    o_apart x a b t u = go (gives e out0) refl (gives e out1) refl
      where
        go : (g : Option ℕ) → gives e out0 ≡ g → (h : Option ℕ) → gives e out1 ≡ h → ⊥
        go none p h q = a p
        go (some z) p none q = b q
        go (some z) p (some z') q =
            let c : output n out0 ≡ output n out1 = y.tree_apart (output n out0) (output n out1) (made out0 z p) (made out1 z' q) x t u in
            let d : out0 ≡ out1 = cc in let z : ◌≡◌ {A = ℕ} 0 1 = cc in omega arith

    some_not : (o : Option ℕ) (z : ℕ) → o ≡ some z → o ≢ none
    some_not o z h k = not_both o z k h

    -- a root that is given holds the word
    root1 : (o : Output) (z : ℕ) → gives e o ≡ some z → Z1.wt (y.ww (output n o)) ≡ some z
    unfolding fire2 i
    root1 out1 z h = fill_yes (net.output i out1) e.gives1 (y.ww (output n out1)) z (fill_tok (net.output i out0) e.gives0 (y.ww (output n out1)) (clear_tok (net.input i in2) e.takes2 (y.ww (output n out1)) (clear_tok (net.input i in1) e.takes1 (y.ww (output n out1)) (clear_tok (net.input i in0) e.takes0 (y.ww (output n out1)) (Z.wt (y.ww (output n out1))))))) (out_wire out1 z h) h
    root1 out0 z h =
        fill_no (net.output i out1) e.gives1 (y.ww (output n out0)) (fill_tok (net.output i out0) e.gives0 (y.ww (output n out0)) (clear_tok (net.input i in2) e.takes2 (y.ww (output n out0)) (clear_tok (net.input i in1) e.takes1 (y.ww (output n out0)) (clear_tok (net.input i in0) e.takes0 (y.ww (output n out0)) (Z.wt (y.ww (output n out0)))))))
        (λ u x p q c. o_apart (y.ww (output n out0)) (some_not (gives e out0) z h) (some_not (gives e out1) x q) (inl refl)
        (inl (let d : some u ≡ some (y.ww (output n out1)) = sym p ∙ out_wire out1 x q in let d' : u ≡ y.ww (output n out1) = cc in sym c ∙ d')))
        ∙ fill_yes (net.output i out0) e.gives0 (y.ww (output n out0)) z (clear_tok (net.input i in2) e.takes2 (y.ww (output n out0)) (clear_tok (net.input i in1) e.takes1 (y.ww (output n out0)) (clear_tok (net.input i in0) e.takes0 (y.ww (output n out0)) (Z.wt (y.ww (output n out0)))))) (out_wire out0 z h) h

    abbrev cleared : ℕ → Option ℕ
    cleared x = clear_tok (net.input i in2) e.takes2 x (clear_tok (net.input i in1) e.takes1 x (clear_tok (net.input i in0) e.takes0 x (Z.wt x)))

    -- elsewhere only what is taken goes
    else1 : (x : ℕ) → ((o : Output) (z : ℕ) → gives e o ≡ some z → x ≢ y.ww (output n o)) → Z1.wt x ≡ cleared x
    unfolding fire2
    else1 x h =
        fill_no (net.output i out1) e.gives1 x (fill_tok (net.output i out0) e.gives0 x (cleared x)) (λ u z p q c. not out1 u z p q c)
        ∙ fill_no (net.output i out0) e.gives0 x (cleared x) (λ u z p q c. not out0 u z p q c)
      where
        not : (o : Output) (u z : ℕ) → net.output i o ≡ some u → gives e o ≡ some z → u ≢ x
        not o u z p q c = h o z q (let d : some u ≡ some (y.ww (output n o)) = sym p ∙ out_wire o z q in let d' : u ≡ y.ww (output n o) = cc in sym c ∙ d')

    -- a wire that is no use of n
    clear_else : (x : ℕ) → ((k : Input) (w : Wire) → plan.source (into n k) ≡ some w → takes e k ≡ true → y.pw (into n k) ≢ x) → cleared x ≡ Z.wt x
    unfolding i
    clear_else x h =
        clear_no (net.input i in2) e.takes2 x (clear_tok (net.input i in1) e.takes1 x (clear_tok (net.input i in0) e.takes0 x (Z.wt x))) (not in2)
        ∙ clear_no (net.input i in1) e.takes1 x (clear_tok (net.input i in0) e.takes0 x (Z.wt x)) (not in1) ∙ clear_no (net.input i in0) e.takes0 x (Z.wt x) (not in0)
      where
        not : (k : Input) (u : ℕ) → net.input (y.num n) k ≡ some u → takes e k ≡ true → u ≢ x
        not k u p q c = let r = wire_some (plan.source (into n k)) (y.pw (into n k)) u (sym (y.ins n rl k) ∙ p) in h k r.0 r.1 q (r.2 ∙ c)

    -- a use of n
    clear_other : (j k : Input) (b : Bool) (w : Wire) (t : Option ℕ) → plan.source (into n k) ≡ some w → (j ≡ k → ⊥) → clear_tok (net.input i j) b (y.pw (into n k)) t ≡ t
    unfolding i
    clear_other j k b w t h ne =
        clear_no (net.input i j) b (y.pw (into n k)) t
        (λ u p q c.
        let r = wire_some (plan.source (into n j)) (y.pw (into n j)) u (sym (y.ins n rl j) ∙ p) in
        let d : into n j ≡ into n k = y.pw_inj (into n j) (into n k) r.0 w r.1 h (r.2 ∙ c) in
        ne (cc))

    clear_own : (k : Input) (b : Bool) (w : Wire) (t : Option ℕ) → plan.source (into n k) ≡ some w → clear_tok (net.input i k) b (y.pw (into n k)) t ≡ unless_taken b t
    unfolding i
    clear_own k b w t h = clear_yes (net.input i k) b (y.pw (into n k)) t (y.ins n rl k ∙ ap (λ (z : Option Wire). wire_if z (y.pw (into n k))) h)

    clear_use : (k : Input) (w : Wire) → plan.source (into n k) ≡ some w → cleared (y.pw (into n k)) ≡ unless_taken (takes e k) (Z.wt (y.pw (into n k)))
    clear_use in0 w h =
        clear_other in2 in0 e.takes2 w (clear_tok (net.input i in1) e.takes1 (y.pw (into n in0)) (clear_tok (net.input i in0) e.takes0 (y.pw (into n in0)) (Z.wt (y.pw (into n in0))))) h (λ c. let z : ◌≡◌ {A = ℕ} 0 1 = cc in omega arith)
        ∙ clear_other in1 in0 e.takes1 w (clear_tok (net.input i in0) e.takes0 (y.pw (into n in0)) (Z.wt (y.pw (into n in0)))) h (λ c. let z : ◌≡◌ {A = ℕ} 0 1 = cc in omega arith)
        ∙ clear_own in0 e.takes0 w (Z.wt (y.pw (into n in0))) h
    clear_use in1 w h =
        clear_other in2 in1 e.takes2 w (clear_tok (net.input i in1) e.takes1 (y.pw (into n in1)) (clear_tok (net.input i in0) e.takes0 (y.pw (into n in1)) (Z.wt (y.pw (into n in1))))) h (λ c. let z : ◌≡◌ {A = ℕ} 0 1 = cc in omega arith)
        ∙ clear_own in1 e.takes1 w (clear_tok (net.input i in0) e.takes0 (y.pw (into n in1)) (Z.wt (y.pw (into n in1)))) h
        ∙ ap (unless_taken e.takes1) (clear_other in0 in1 e.takes0 w (Z.wt (y.pw (into n in1))) h (λ c. let z : ◌≡◌ {A = ℕ} 0 1 = cc in omega arith))
    clear_use in2 w h =
        clear_own in2 e.takes2 w (clear_tok (net.input i in1) e.takes1 (y.pw (into n in2)) (clear_tok (net.input i in0) e.takes0 (y.pw (into n in2)) (Z.wt (y.pw (into n in2))))) h
        ∙ ap (unless_taken e.takes2) (clear_other in1 in2 e.takes1 w (clear_tok (net.input i in0) e.takes0 (y.pw (into n in2)) (Z.wt (y.pw (into n in2)))) h (λ c. let z : ◌≡◌ {A = ℕ} 0 1 = cc in omega arith)
        ∙ clear_other in0 in2 e.takes0 w (Z.wt (y.pw (into n in2))) h (λ c. let z : ◌≡◌ {A = ℕ} 0 1 = cc in omega arith))

    -- a taken use is full, so it stands in no tree that is given
    taken_not : (o : Output) (z : ℕ) → gives e o ≡ some z → (x : ℕ) → Tree x (output n o) → (k : Input) (w : Wire) → plan.source (into n k) ≡ some w → takes e k ≡ true → y.pw (into n k) ≢ x
    taken_not o z h x t k w q tk c =
        (every_program_is_local (plan.does n)).full (view_of s n) e rd.runs k tk
        (back k (sym (R.at_use (into n k) w q) ∙ ap Z.wt c ∙ free_tree o z h x t))
      where
        back : (k : Input) → s.tok (into n k) ≡ none → waits (view_of s n) k ≡ none
        back in0 h = h
        back in1 h = h
        back in2 h = h

    -- below the root a given tree is still empty
    below1 : (o : Output) (z : ℕ) → gives e o ≡ some z → (x : ℕ) → Among x (y.tail (output n o)) → Z1.wt x ≡ none
    below1 o z h x t =
        else1 x (λ o' z' h' c. roots o o' z z' h h' t c)
        ∙ clear_else x (taken_not o z h x (inr t)) ∙ free_tree o z h x (inr t)
      where
        roots : (o o' : Output) (z z' : ℕ) → gives e o ≡ some z → gives e o' ≡ some z' → Among x (y.tail (output n o)) → x ≡ y.ww (output n o') → ⊥
        roots out0 out0 z z' h h' t c = (y.tree_once (output n out0) (made out0 z h)).0 (subst (λ (w : ℕ). Among w (y.tail (output n out0))) c t)
        roots out1 out1 z z' h h' t c = (y.tree_once (output n out1) (made out1 z h)).0 (subst (λ (w : ℕ). Among w (y.tail (output n out1))) c t)
        roots out0 out1 z z' h h' t c = o_apart x (some_not (gives e out0) z h) (some_not (gives e out1) z' h') (inr t) (inl c)
        roots out1 out0 z z' h h' t c = o_apart x (some_not (gives e out0) z' h') (some_not (gives e out1) z h) (inl c) (inr t)

    -- records after the firing
    rec1 : (m : Role) → plan.Real m → Z1.wr (y.num m) ≡ (after plan (one n e) s).own m
    unfolding fire2 i
    rec1 m rm =
        elim (same_role m n) [
          | yes d ↦ ap (λ (z : Role). rec_by (eqb (y.num z) (y.num n)) e.next (Z.wr (y.num m))) d ∙ ap (λ (b : Bool). rec_by b e.next (Z.wr (y.num m))) (eq-eqb (y.num n) (y.num n) refl)
              ∙ sym (ap (λ (z : Role). next_by (one n e z) (s.own m)) d ∙ ap (λ (z : Option Effect). next_by z (s.own m)) (one_same n e))
          | no d ↦ ap (λ (b : Bool). rec_by b e.next (Z.wr (y.num m))) (ne_eqb (y.num m) (y.num n) (λ c. d (y.num_inj m n rm rl c)))
              ∙ R.at_node m rm ∙ sym (ap (λ (z : Option Effect). next_by z (s.own m)) (one_other n m e d))
        ]

    fork1 : (w : Wire) → Made plan w → (j : ℕ) → Among j (y.forks w) → Z1.wr j ≡ rest
    unfolding fire2 i
    fork1 w m j h =
        ap (λ (b : Bool). rec_by b e.next (Z.wr j)) (ne_eqb j (y.num n) (λ c. y.aside n rl w m (subst (λ (z : ℕ). Among z (y.forks w)) c h))) ∙ R.at_fork w m j h

    -- ---- the spread of one output
    record Gone (o : Output) (A B : Tokens) : Type 0 where
      hit : (z : ℕ) → gives e o ≡ some z → (x : ℕ) → UseOf x (output n o) → B.wt x ≡ some z
      miss : (z : ℕ) → gives e o ≡ some z → (x : ℕ) → Tree x (output n o) → (UseOf x (output n o) → ⊥) → B.wt x ≡ none
      same : (x : ℕ) → ((z : ℕ) → gives e o ≡ some z → Tree x (output n o) → ⊥) → B.wt x ≡ A.wt x
      recs : (j : ℕ) → B.wr j ≡ A.wr j

    go_out : (o : Output) (A : Tokens) → ((z : ℕ) → gives e o ≡ some z → A.wt (y.ww (output n o)) ≡ some z) → ((z : ℕ) → gives e o ≡ some z → (x : ℕ) → Among x (y.tail (output n o)) → A.wt x ≡ none)
        → ((z : ℕ) → gives e o ≡ some z → (j : ℕ) → Among j (y.forks (output n o)) → A.wr j ≡ rest) → (is : List ℕ) × (B : Tokens) × (q : Steps2 net is A B) × Gone o A B
        × ((w : ℕ) → ((z : ℕ) → gives e o ≡ some z → Among w (y.tail (output n o)) → ⊥) → puts2 net is A B q w ≡ [])
    go_out o A h1 h2 h3 = go (gives e o) refl
      where
        go : (g : Option ℕ) → gives e o ≡ g → (is : List ℕ) × (B : Tokens) × (q : Steps2 net is A B) × Gone o A B
            × ((w : ℕ) → ((z : ℕ) → gives e o ≡ some z → Among w (y.tail (output n o)) → ⊥) → puts2 net is A B q w ≡ [])
        go none q =
            ([], A, refl, record { hit = λ z h. not_both (gives e o) z q h; miss = λ z h. not_both (gives e o) z q h; same = λ x h. refl; recs = λ j. refl }, λ w h. refl)
        go (some z) q =
            let m = made o z q in
            let p = y.sp (output n o) m in
            let r = spread net y.pw p.0 z A (h1 z q) (subst (λ (l : List ℕ). Once (y.ww (output n o) ∷ l)) (sym p.1) (y.tree_once (output n o) m))
            (λ x h. h2 z q x (subst (λ (l : List ℕ). Among x l) p.1 h)) (λ j h. h3 z q j (subst (λ (l : List ℕ). Among j l) p.2 h)) in
            let u = r.3 in (
              r.0,
              r.1,
              r.2,
              record {
                hit = λ z' h x t. u.reached x t ∙ (let d : z ≡ z' = cc in ap some d);
                miss = λ z' h x t k. missing r.1 u x t k;
                same = λ x h. u.others x (λ c. h z q (inl c)) (λ k. h z q (use_tree x (output n o) m k));
                recs = u.recs;
              },
              λ w h. r.4 w (λ k. h z q (subst (λ (l : List ℕ). Among w l) p.1 k)),
            )
          where
            missing : (B : Tokens) → Spreads net y.pw (y.ww (output n o)) z (y.users (output n o)) A B → (x : ℕ) → Tree x (output n o) → (UseOf x (output n o) → ⊥) → B.wt x ≡ none
            missing B u x (inl c) k = ap B.wt c ∙ u.root (λ t. k (subst (λ (w : ℕ). UseOf w (output n o)) (sym c) t))
            missing B u x (inr t) k =
                u.others x (λ c. (y.tree_once (output n o) (made o z q)).0 (subst (λ (w : ℕ). Among w (y.tail (output n o))) c t)) k ∙ h2 z q x t

    -- ---- both outputs
    given_cases : (w : Wire) (z : ℕ) → given (one n e) (some w) ≡ some z → (o : Output) × (w ≡ output n o) × (gives e o ≡ some z)
    given_cases (start v) z h = let z : ◌≡◌ {A = ℕ} 0 1 = cc in absurd (omega arith)
    given_cases (output m o) z h =
        elim (same_role m n) [
          | yes d ↦ (o, ap (λ (r : Role). output r o) d, sym (ap (λ (r : Role). give_by (one n e r) o) d ∙ ap (λ (r : Option Effect). give_by r o) (one_same n e)) ∙ h)
          | no d ↦ not_both (give_by (one n e m) o) z (ap (λ (r : Option Effect). give_by r o) (one_other n m e d)) h
        ]

    given_at : (w : Wire) (o : Output) → w ≡ output n o → given (one n e) (some w) ≡ gives e o
    given_at w o h = ap (λ (u : Wire). given (one n e) (some u)) h ∙ ap (λ (r : Option Effect). give_by r o) (one_same n e)

    drop_none : (b : Bool) → unless_taken b none ≡ none
    drop_none true = refl
    drop_none false = refl

    module _ (A B : Tokens) (a : Gone out0 Z1 A) (b : Gone out1 A B) where
      hit2 : (o : Output) (z : ℕ) → gives e o ≡ some z → (x : ℕ) → UseOf x (output n o) → B.wt x ≡ some z
      hit2 out1 z h x t = b.hit z h x t
      hit2 out0 z h x t =
          b.same x (λ z' h' t'. o_apart x (some_not (gives e out0) z h) (some_not (gives e out1) z' h') (use_tree x (output n out0) (made out0 z h) t) t') ∙ a.hit z h x t

      miss2 : (o : Output) (z : ℕ) → gives e o ≡ some z → (x : ℕ) → Tree x (output n o) → (UseOf x (output n o) → ⊥) → B.wt x ≡ none
      miss2 out1 z h x t k = b.miss z h x t k
      miss2 out0 z h x t k = b.same x (λ z' h' t'. o_apart x (some_not (gives e out0) z h) (some_not (gives e out1) z' h') t t') ∙ a.miss z h x t k

      same2 : (x : ℕ) → ((o : Output) (z : ℕ) → gives e o ≡ some z → Tree x (output n o) → ⊥) → B.wt x ≡ cleared x
      same2 x h = b.same x (h out1) ∙ a.same x (h out0) ∙ else1 x (λ o z q c. h o z q (inl c))

      not_given : (w : Wire) → Made plan w → (x : ℕ) → Tree x w → given (one n e) (some w) ≡ none → (o : Output) (z : ℕ) → gives e o ≡ some z → Tree x (output n o) → ⊥
      not_given w m x t q o z h u =
          let d : w ≡ output n o = y.tree_apart w (output n o) m (made o z h) x t u in
          not_both (given (one n e) (some w)) z q (given_at w o d ∙ h)

      toks : (p : Use) (w : Wire) → plan.source p ≡ some w → given (one n e) (some w) ≡ none → cleared (y.pw p) ≡ unless_taken (taken (one n e) p) (s.tok p)
      toks (result q) w h k =
          clear_else (y.pw (result q)) (λ j u r t c. let d : into n j ≡ result q = y.pw_inj (into n j) (result q) u w r h c in let z : ◌≡◌ {A = ℕ} 0 1 = cc in omega arith)
          ∙ R.at_use (result q) w h
      toks (into m k) w h g =
          elim (same_role m n) [
            | yes d ↦
                let h' : plan.source (into n k) ≡ some w = ap (λ (r : Role). plan.source (into r k)) (sym d) ∙ h in
                ap (λ (r : Role). cleared (y.pw (into r k))) d ∙ clear_use k w h' ∙ ap (unless_taken (takes e k)) (R.at_use (into n k) w h')
                ∙ sym (ap (λ (r : Role). unless_taken (take_by (one n e r) k) (s.tok (into r k))) d ∙ ap (λ (r : Option Effect). unless_taken (take_by r k) (s.tok (into n k))) (one_same n e))
            | no d ↦
                clear_else (y.pw (into m k)) (λ j u r t c. let x : into n j ≡ into m k = y.pw_inj (into n j) (into m k) u w r h c in let x' : n ≡ m = cc in d (sym x'))
                ∙ R.at_use (into m k) w h ∙ sym (ap (λ (r : Option Effect). unless_taken (take_by r k) (s.tok (into m k))) (one_other n m e d))
          ]

      uses3 : (p : Use) (w : Wire) → plan.source p ≡ some w → B.wt (y.pw p) ≡ (after plan (one n e) s).tok p
      uses3 p w h =
          go (given (one n e) (some w)) refl
          ∙ sym (ap (λ (u : Option Wire). put (given (one n e) u) (unless_taken (taken (one n e) p) (s.tok p))) h)
        where
          uf : Among p (y.users w) × Made plan w
          uf = y.users_full p w h

          go : (r : Option ℕ) → given (one n e) (some w) ≡ r → B.wt (y.pw p) ≡ put (given (one n e) (some w)) (unless_taken (taken (one n e) p) (s.tok p))
          go none q =
              same2 (y.pw p) (not_given w uf.1 (y.pw p) (use_in_tree p w h) q) ∙ toks p w h q
              ∙ sym (ap (λ (u : Option ℕ). put u (unless_taken (taken (one n e) p) (s.tok p))) q)
          go (some z) q =
              let c = given_cases w z q in
              hit2 c.0 z c.2 (y.pw p) (subst (λ (u : Wire). UseOf (y.pw p) u) c.1 (among_use p (y.users w) uf.0))
              ∙ sym (ap (λ (u : Option ℕ). put u (unless_taken (taken (one n e) p) (s.tok p))) q)

      between3 : (w : Wire) → Made plan w → (x : ℕ) → Tree x w → (UseOf x w → ⊥) → B.wt x ≡ none
      between3 w m x t k = go (given (one n e) (some w)) refl
        where
          go : (r : Option ℕ) → given (one n e) (some w) ≡ r → B.wt x ≡ none
          go none q =
              same2 x (not_given w m x t q)
              ∙ clear_else x
              (λ j u r tk c.
              let d : u ≡ w = y.tree_apart u w (y.users_full (into n j) u r).1 m x (subst (λ (v : ℕ). Tree v u) c (use_in_tree (into n j) u r)) t in
              k (subst (λ (v : ℕ). UseOf v w) c (among_use (into n j) (y.users w) (subst (λ (v : Wire). Among (into n j) (y.users v)) d (y.users_full (into n j) u r).0))))
              ∙ R.between w m x t k
          go (some z) q =
              let c = given_cases w z q in
              miss2 c.0 z c.2 x (subst (λ (u : Wire). Tree x u) c.1 t) (λ v. k (subst (λ (u : Wire). UseOf x u) (sym c.1) v))

      shown3 : Shown B (after plan (one n e) s)
      shown3 =
          record {
            at_use = uses3;
            between = between3;
            at_node = λ m rm. b.recs (y.num m) ∙ a.recs (y.num m) ∙ rec1 m rm;
            at_fork = λ w m j h. b.recs j ∙ a.recs j ∙ fork1 w m j h;
            nowhere = λ p h. ap (λ (u : Option Wire). put (given (one n e) u) (unless_taken (taken (one n e) p) (s.tok p))) h
                ∙ ap (unless_taken (taken (one n e) p)) (R.nowhere p h) ∙ drop_none (taken (one n e) p);
          }

    -- the words that the node puts on a root
    on_none : (o g : Option ℕ) (w : ℕ) → ((u z : ℕ) → o ≡ some u → g ≡ some z → u ≢ w) → put_on o g w ≡ []
    on_none none g w h = refl
    on_none (some u) none w h = refl
    on_none (some u) (some z) w h = rw (ne_eqb u w (h u z refl refl), put_on)

    on_own : (o g : Option ℕ) (w : ℕ) → ((z : ℕ) → g ≡ some z → o ≡ some w) → put_on o g w ≡ listed g
    on_own none none w h = refl
    on_own none (some z) w h = let k = h z refl in let z : ◌≡◌ {A = ℕ} 0 1 = cc in absurd (omega arith)
    on_own (some u) none w h = refl
    on_own (some u) (some z) w h = let k : some u ≡ some w = h z refl in let k' : u ≡ w = cc in rw (k', eq-eqb w w refl, put_on)

    away_from : (o : Output) (m : Role) (o' : Output) → Made plan (output m o') → output n o ≢ output m o' → (u z : ℕ) → net.output i o ≡ some u → gives e o ≡ some z → u ≢ y.ww (output m o')
    away_from o m o' mm ne u z p h c =
        let d : some u ≡ some (y.ww (output n o)) = sym p ∙ out_wire o z h in
        let d' : u ≡ y.ww (output n o) = cc in
        ne (y.tree_apart (output n o) (output m o') (made o z h) mm u (inl d') (inl c))

    node_puts : (m : Role) (o : Output) → Made plan (output m o) → puts net i e (y.ww (output m o)) ≡ listed (give_by (one n e m) o)
    unfolding puts
    node_puts m o mm =
        elim (same_role m n) [
          | yes d ↦
              own o (subst (λ (r : Role). Made plan (output r o)) d mm) d
              ∙ sym (ap (λ (r : Role). listed (give_by (one n e r) o)) d ∙ ap (λ (r : Option Effect). listed (give_by r o)) (one_same n e))
          | no d ↦
              ap₂ {C = List ℕ} (λ a b. a ++ b) (on_none (net.output i out0) e.gives0 (y.ww (output m o)) (away_from out0 m o mm (λ c. let c' : n ≡ m = cc in d (sym c'))))
              (on_none (net.output i out1) e.gives1 (y.ww (output m o)) (away_from out1 m o mm (λ c. let c' : n ≡ m = cc in d (sym c'))))
              ∙ sym (ap (λ (r : Option Effect). listed (give_by r o)) (one_other n m e d))
        ]
      where
        own : (o : Output) → Made plan (output n o) → m ≡ n → puts net i e (y.ww (output m o)) ≡ listed (gives e o)
        own out0 mo d =
            ap (λ (r : Role). puts net i e (y.ww (output r out0))) d
            ∙ ap₂ {C = List ℕ} (λ a b. a ++ b) (on_own (net.output i out0) e.gives0 (y.ww (output n out0)) (λ z h. out_wire out0 z h))
            (on_none (net.output i out1) e.gives1 (y.ww (output n out0)) (away_from out1 n out0 mo (λ c. let c' : out1 ≡ out0 = cc in let z : ◌≡◌ {A = ℕ} 0 1 = cc in omega arith)))
            ∙ append-nil (listed e.gives0)
        own out1 mo d =
            ap (λ (r : Role). puts net i e (y.ww (output r out1))) d
            ∙ ap₂ {C = List ℕ} (λ a b. a ++ b) (on_none (net.output i out0) e.gives0 (y.ww (output n out1)) (away_from out0 n out1 mo (λ c. let c' : out0 ≡ out1 = cc in let z : ◌≡◌ {A = ℕ} 0 1 = cc in omega arith)))
            (on_own (net.output i out1) e.gives1 (y.ww (output n out1)) (λ z h. out_wire out1 z h))

    root_not_tail : (m : Role) (o : Output) → Made plan (output m o) → (o' : Output) (z : ℕ) → gives e o' ≡ some z → Among (y.ww (output m o)) (y.tail (output n o')) → ⊥
    root_not_tail m o mm o' z h t =
        let d : output n o' ≡ output m o = y.tree_apart (output n o') (output m o) (made o' z h) mm (y.ww (output m o)) (inr t) (inl refl) in
        (y.tree_once (output m o) mm).0 (subst (λ (w : Wire). Among (y.ww (output m o)) (y.tail w)) d t)

    -- the node's words; what follows it puts none on an output
    fire_words : (m : Role) (o : Output) → Made plan (output m o) → (xs ys : List ℕ) (A B : Tokens) (p : Steps2 net xs Z1 A) (r : Steps2 net ys A B)
        → puts2 net xs Z1 A p (y.ww (output m o)) ≡ [] → puts2 net ys A B r (y.ww (output m o)) ≡ []
        → s.hist m o ++ (puts net i e (y.ww (output m o)) ++ puts2 net (xs ++ ys) Z1 B (steps2_append net xs ys Z1 A B p r) (y.ww (output m o))) ≡ (after plan (one n e) s).hist m o
    fire_words m o mm xs ys A B p r a b =
        ap (λ (l : List ℕ). s.hist m o ++ l)
        (ap₂ {C = List ℕ} (λ x z. x ++ z) (node_puts m o mm) (puts2_both net xs ys Z1 A B p r (y.ww (output m o)) [] [] a b) ∙ append-nil (listed (give_by (one n e m) o)))

    -- ONE FIRING: the node, then the forks or the drain of what it gave
    pub fire_shown : (is : List ℕ) × (B : Tokens) × (q : Steps2 net is Z B) × Shown B (after plan (one n e) s)
        × ((m : Role) (o : Output) → Made plan (output m o) → s.hist m o ++ puts2 net is Z B q (y.ww (output m o)) ≡ (after plan (one n e) s).hist m o)
        × (0 < length is)
    fire_shown =
        let r0 = go_out out0 Z1 (λ z h. root1 out0 z h) (λ z h x t. below1 out0 z h x t) (λ z h j t. fork1 (output n out0) (made out0 z h) j t) in
        let A = r0.1 in
        let a = r0.3 in
        let r1 = go_out out1 A
        (λ z h. a.same (y.ww (output n out1)) (λ z' h' t. o_apart (y.ww (output n out1)) (some_not (gives e out0) z' h') (some_not (gives e out1) z h) t (inl refl)) ∙ root1 out1 z h)
        (λ z h x t. a.same x (λ z' h' t'. o_apart x (some_not (gives e out0) z' h') (some_not (gives e out1) z h) t' (inr t)) ∙ below1 out1 z h x t)
        (λ z h j t. a.recs j ∙ fork1 (output n out1) (made out1 z h) j t) in (
          i ∷ (r0.0 ++ r1.0),
          r1.1,
          (e, fires, steps2_append net r0.0 r1.0 Z1 A r1.1 r0.2 r1.2),
          shown3 A r1.1 a r1.3,
          λ m o mm. fire_words m o mm r0.0 r1.0 A r1.1 r0.2 r1.2 (r0.4 (y.ww (output m o)) (root_not_tail m o mm out0)) (r1.4 (y.ww (output m o)) (root_not_tail m o mm out1)),
          omega arith,
        )

  -- A RUN of the use machine is one of the real graph
  pub run_shown : (ns : List Role) (Z : Tokens) (s t : State) → Shown Z s → Steps plan ns s t
      → (is : List ℕ) × (B : Tokens) × (q : Steps2 net is Z B) × Shown B t
      × ((m : Role) (o : Output) → Made plan (output m o) → s.hist m o ++ puts2 net is Z B q (y.ww (output m o)) ≡ t.hist m o)
      × (length ns ≤ length is)
  run_shown [] Z s t R q = ([], Z, refl, subst (λ (u : State). Shown Z u) q R, λ m o mm. append-nil (s.hist m o) ∙ ap (λ (u : State). u.hist m o) q, omega arith)
  run_shown (n ∷ ns) Z s t R q =
      let f = fire_shown Z s R n q.0 q.1 in
      let r = run_shown ns f.1 (after plan (one n q.0) s) t f.3 q.2 in (
        f.0 ++ r.0,
        r.1,
        steps2_append net f.0 r.0 Z f.1 r.1 f.2 r.2,
        r.3,
        λ m o mm. ap (λ (l : List ℕ). s.hist m o ++ l) (puts2_append net f.0 r.0 Z f.1 r.1 f.2 r.2 (y.ww (output m o)))
            ∙ sym (append_assoc (s.hist m o) (puts2 net f.0 Z f.1 f.2 (y.ww (output m o))) (puts2 net r.0 f.1 r.1 r.2 (y.ww (output m o))))
            ∙ ap (λ (l : List ℕ). l ++ puts2 net r.0 f.1 r.1 r.2 (y.ww (output m o))) (f.4 m o mm) ∙ r.4 m o mm,
        let a = f.5 in let b = r.5 in let c = length-append f.0 r.0 in omega arith,
      )
