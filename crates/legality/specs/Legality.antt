-- Legal states stay legal: so a stopped run can always be resumed.
--
--   loaded_is_legal           a freshly loaded state is legal
--   firing_keeps_legal        a firing of a legal state leaves a legal state
--   order_keeps_legal         so does any list of ready firings
--   run_keeps_legal           and so does a run
--
-- Idea: a wire that is taken holds 0 0; a wire that is given a word holds 1 and a word of its sort, by the law of the node's step; a record that
-- is left is legal, by the same law; all else stands.
-- Assumes nothing.
use Rattle.std.specs.Prelude.{ℕ, zero, suc, ◌+◌, ◌*◌, ◌/◌, ◌%◌, ◌≤◌, ◌<◌, ◌≡◌, refl, Bool, ◌&&◌, List, [], ◌∷◌, eqb, get_or, length}
use Rattle.std.proofs.Common.{sym, ◌∙◌, subst, subst₂, arith, eq-eqb, ne_eqb, eqb-true, lt-ltb, le-ltb}
use Rattle.std.proofs.Math.Path.{ap}
use Rattle.std.proofs.Math.Bool.{true, false}
use Rattle.std.proofs.Math.Option.{Option, none, some}
use Rattle.std.proofs.Math.Decide.{ℕ_discrete, dec_lt}
use Rattle.std.proofs.Math.Dec.{eqb-suc-zero}
use Rattle.word.specs.Words.{pick, word_limit}
use Rattle.step.specs.Kinds.{Kind, STREAM, GATE, CARRY, INVARIANT, SPLIT, FORK, DRAIN, OP, PICK, Input, in0, in1, in2, own_sorts}
use Rattle.step.specs.Firing.{View, Effect, waits}
use Rattle.step.specs.Machines.{step, rest}
use Rattle.step.specs.Kept.{fits, legal_record, and_true, both_true, FitsIn, step_keeps_legal, step_gives_fitting}
use Rattle.step.specs.declared.Record.{Record}
use Rattle.graph.specs.Below.{every, every_each}
use Rattle.graph.specs.Enough.{every_one}
use Rattle.graph.specs.Graph.{Node, node_at, node_count, wire_count, start_count, start_kind_at, start_word_at, input_at, sort_at}
use Rattle.graph.specs.Refusal.{graph_refusal}
use Rattle.graph.specs.Accepted.{Accepted, accepted, node_in_range}
use Rattle.graph.specs.Wiring.{input_below_lem, input_sorted_lem, output_sorted, start_sorted}
use Rattle.state.specs.State.{full_place, word_place, record_place, token, token_on, record_at, stored, length_stored}
use Rattle.state.specs.Net.{Net, view, effect_at, after, stores, fire, step_at, net_of}
use Rattle.state.specs.Legal.{state_length, right_length, legal_token, legal_wire, legal_for, legal_node, legal}
use Rattle.state.specs.Load.{start_word, loaded}
use Rattle.state.specs.Loaded.{loaded_at, loaded_length, loaded_at_lem}
use Rattle.confluence.specs.Orders.{fires_end, fires_first}
use Rattle.confluence.specs.Statements.{Fires, run_of, made_by}
use Rattle.confluence.proofs.Statements.{run_counts_firings}
use Rattle.confluence.specs.Update.{wire_at, Touch, takes_it, gives_it, leaves_it, touch, taken_after, given_after, still_after, left_after, own_after}
use Rattle.confluence.specs.Graphs.{nodes_are_local, accepted_is_wired}

-- ---- legal as facts

pub record Keeps (g s : List ℕ) : Type 0 where
  pub size : length s ≡ state_length g
  pub wires : (w : ℕ) → w < wire_count g → legal_token (sort_at g w) (get_or s (full_place w) 0) (get_or s (word_place w) 0) ≡ true
  pub nodes : (i : ℕ) → i < node_count g → legal_for (node_at g i) (record_at (wire_count g) s i) ≡ true

pub legal_keeps : (g s : List ℕ) → legal g s ≡ true → Keeps g s
unfolding legal legal_wire legal_node
legal_keeps g s e =
    let p = and_true (right_length g s) (every (wire_count g) (legal_wire g s) && every (node_count g) (legal_node g s)) e in
    let q = and_true (every (wire_count g) (legal_wire g s)) (every (node_count g) (legal_node g s)) p.1 in
    record {
      size = eqb-true (length s) (state_length g) p.0;
      wires = every_each (legal_wire g s) (wire_count g) q.0;
      nodes = every_each (legal_node g s) (node_count g) q.1;
    }

pub keeps_legal : (g s : List ℕ) → Keeps g s → legal g s ≡ true
unfolding legal legal_wire legal_node
keeps_legal g s k =
    both_true (eq-eqb (length s) (state_length g) k.size)
    (both_true (every_one (legal_wire g s) (wire_count g) k.wires) (every_one (legal_node g s) (node_count g) k.nodes))

-- a wire that holds a token holds a word of its sort
held : (sort f x y : ℕ) → legal_token sort f x ≡ true → token f x ≡ some y → fits sort y ≡ true
held sort zero x y l e = let z : ◌≡◌ {A = ℕ} 0 1 = cc in absurd (omega arith)
held sort (suc f) x y l e =
    let z : x ≡ y = cc in
    let m : (eqb (suc f) 1 && fits sort x) ≡ true = subst (λ (b : Bool). pick b (eqb x 0) (eqb (suc f) 1 && fits sort x) ≡ true) (eqb-suc-zero f) l in
    subst (λ (v : ℕ). fits sort v ≡ true) z (and_true (eqb (suc f) 1) (fits sort x) m).1

-- ---- one firing

-- a node that has an effect is a node
node_of : (o : Option Node) (v : View) (e : Effect) → step_at o v ≡ some e → (nd : Node) × (o ≡ some nd) × (step nd.kind nd.code v ≡ some e)
node_of none v e h = let z : ◌≡◌ {A = ℕ} 0 1 = cc in absurd (omega arith)
node_of (some nd) v e h = (nd, refl, h)

fired_by : (N : Net) (i : ℕ) (s t : List ℕ) → fire N i s ≡ some t → (e : Effect) × (effect_at N i s ≡ some e) × (stored (stores N i e) s ≡ t)
unfolding fire
fired_by N i s t h = go (effect_at N i s) refl h
  where
    go : (o : Option Effect) → effect_at N i s ≡ o → after N i s o ≡ some t → (e : Effect) × (effect_at N i s ≡ some e) × (stored (stores N i e) s ≡ t)
    go none p q = let z : ◌≡◌ {A = ℕ} 0 1 = cc in absurd (omega arith)
    go (some e) p q = (e, p, cc)

module _ (g : List ℕ) (ok : graph_refusal g ≡ 0) (s : List ℕ) (k : Keeps g s) (i : ℕ) (e : Effect) (ready : effect_at (net_of g) i s ≡ some e) where
  abbrev a : Accepted g
  a = accepted g ok

  abbrev here : (nd : Node) × (node_at g i ≡ some nd) × (step nd.kind nd.code (view (net_of g) i s) ≡ some e)
  here = node_of (node_at g i) (view (net_of g) i s) e ready

  abbrev nd : Node
  nd = here.0

  there : node_at g i ≡ some nd
  there = here.1

  below : i < node_count g
  below = node_in_range g i nd there

  sort_below : nd.sort < own_sorts nd.kind
  sort_below =
      let r = a.rows i below in
      let z : r.node ≡ nd = same (sym r.here ∙ there) in
      subst (λ (n : Node). n.sort < own_sorts n.kind) z r.sort_below
    where
      same : {x y : Node} → ◌≡◌ {A = Option Node} (some x) (some y) → x ≡ y
      same h = cc

  own_legal : legal_record nd.kind nd.sort (record_at (wire_count g) s i) ≡ true
  own_legal = subst (λ (o : Option Node). legal_for o (record_at (wire_count g) s i) ≡ true) there (k.nodes i below)

  waiting : (l : Input) (x : ℕ) → waits (view (net_of g) i s) l ≡ some x → FitsIn nd.kind nd.sort l x
  waiting l x h = go (input_at g i l) refl (seen l h)
    where
      seen : (l : Input) → waits (view (net_of g) i s) l ≡ some x → token_on s (input_at g i l) ≡ some x
      seen in0 h = h
      seen in1 h = h
      seen in2 h = h

      go : (o : Option ℕ) → input_at g i l ≡ o → token_on s o ≡ some x → FitsIn nd.kind nd.sort l x
      go none p q = let z : ◌≡◌ {A = ℕ} 0 1 = cc in absurd (omega arith)
      go (some w) p q =
          let f = held (sort_at g w) (get_or s (full_place w) 0) (get_or s (word_place w) 0) x (k.wires w (input_below_lem g a i l w p)) q in
          subst (λ (n : ℕ). fits n x ≡ true) (input_sorted_lem g a i nd l w there p) f

  abbrev end : List ℕ
  end = stored (stores (net_of g) i e) s

  long : 2 * wire_count g ≤ length s
  long = let z = k.size in omega arith

  on_wire : (w f x : ℕ) → wire_at end w ≡ (f, x) → legal_token (sort_at g w) f x ≡ true → legal_token (sort_at g w) (get_or end (full_place w) 0) (get_or end (word_place w) 0) ≡ true
  on_wire w f x h l =
      subst₂ (λ (p q : ℕ). legal_token (sort_at g w) p q ≡ true) (sym (ap (λ (y : ℕ × ℕ). y.0) h)) (sym (ap (λ (y : ℕ × ℕ). y.1) h)) l

  wire_kept : (w : ℕ) → w < wire_count g → Touch (net_of g) i e w → legal_token (sort_at g w) (get_or end (full_place w) 0) (get_or end (word_place w) 0) ≡ true
  wire_kept w h (takes_it l p t) = on_wire w 0 0 (taken_after (net_of g) (nodes_are_local g) (accepted_is_wired g ok) i s e ready long l w p t) refl
  wire_kept w h (gives_it l x p q) =
      on_wire w 1 x (given_after (net_of g) (nodes_are_local g) (accepted_is_wired g ok) i s e ready long l w x p q)
      (subst (λ (n : ℕ). fits n x ≡ true) (sym (output_sorted g a i nd l w there p))
      (step_gives_fitting nd.kind nd.code nd.sort (view (net_of g) i s) e sort_below own_legal waiting here.2 l x q))
  wire_kept w h (leaves_it u) =
      on_wire w (get_or s (full_place w) 0) (get_or s (word_place w) 0) (still_after (net_of g) (nodes_are_local g) (accepted_is_wired g ok) i s e ready w h u) (k.wires w h)

  record_kept : (j : ℕ) → j < node_count g → legal_for (node_at g j) (record_at (wire_count g) end j) ≡ true
  record_kept j h =
      elim (ℕ_discrete i j) [
        | yes q ↦
            subst (λ (m : ℕ). legal_for (node_at g m) (record_at (wire_count g) end m) ≡ true) q
            (subst₂ (λ (o : Option Node) (r : Record). legal_for o r ≡ true) (sym there)
            (sym (left_after (net_of g) (nodes_are_local g) (accepted_is_wired g ok) i s e ready (let z = k.size in let b = below in omega arith)))
            (step_keeps_legal nd.kind nd.code nd.sort (view (net_of g) i s) e sort_below own_legal waiting here.2))
        | no q ↦
            subst (λ (r : Record). legal_for (node_at g j) r ≡ true)
            (sym (own_after (net_of g) (nodes_are_local g) (accepted_is_wired g ok) i s e ready j (λ z. q (sym z)))) (k.nodes j h)
      ]

  effect_keeps : Keeps g end
  effect_keeps =
      record {
        size = length_stored (stores (net_of g) i e) s ∙ k.size;
        wires = λ w h. wire_kept w h (touch (net_of g) i e w);
        nodes = record_kept;
      }

pub firing_keeps_legal : (g : List ℕ) → graph_refusal g ≡ 0 → (i : ℕ) (s t : List ℕ) → legal g s ≡ true → fire (net_of g) i s ≡ some t → legal g t ≡ true
firing_keeps_legal g ok i s t l f =
    let x = fired_by (net_of g) i s t f in
    keeps_legal g t (subst (Keeps g) x.2 (effect_keeps g ok s (legal_keeps g s l) i x.0 x.1))

-- ---- any order, and a run

pub order_keeps_legal : (g : List ℕ) → graph_refusal g ≡ 0 → (order s t : List ℕ) → legal g s ≡ true → Fires g order s t → legal g t ≡ true
order_keeps_legal g ok [] s t l f = subst (λ (x : List ℕ). legal g x ≡ true) (fires_end (fire (net_of g)) s t f) l
order_keeps_legal g ok (i ∷ order) s t l f =
    let x = fires_first (fire (net_of g)) i order s t f in
    order_keeps_legal g ok order x.0 t (firing_keeps_legal g ok i s x.0 l x.1) x.2

pub run_keeps_legal : (g : List ℕ) → graph_refusal g ≡ 0 → (list s : List ℕ) (allowance : ℕ) → legal g s ≡ true → legal g (run_of g list s allowance).state ≡ true
run_keeps_legal g ok list s allowance l =
    order_keeps_legal g ok (made_by g list s allowance) s (run_of g list s allowance).state l (run_counts_firings g list s allowance).0

-- ---- loading

-- words are below 2^32, as every word of a lent slice is
abbrev pub Words : List ℕ → Type 0
Words xs = (k : ℕ) → get_or xs k 0 < word_limit

rest_is_legal : (κ : Kind) (sort : ℕ) → legal_record κ sort rest ≡ true
rest_is_legal STREAM sort = refl
rest_is_legal GATE sort = refl
rest_is_legal CARRY sort = refl
rest_is_legal INVARIANT sort = refl
rest_is_legal SPLIT sort = refl
rest_is_legal FORK sort = refl
rest_is_legal DRAIN sort = refl
rest_is_legal OP sort = refl
rest_is_legal PICK sort = refl

rest_for : (o : Option Node) → legal_for o rest ≡ true
rest_for none = refl
rest_for (some nd) = rest_is_legal nd.kind nd.sort

module _ (g : List ℕ) (ok : graph_refusal g ≡ 0) (inputs : List ℕ) (words : Words g) (given : Words inputs) where
  starts_within : start_count g ≤ wire_count g
  starts_within = let e = (accepted g ok).wires in omega arith

  start_word_lem : (k : ℕ) → start_word g inputs k < word_limit
  unfolding start_word
  start_word_lem k = go (eqb (start_kind_at g k) 0)
    where
      go : (b : Bool) → pick b (get_or inputs (start_word_at g k) 0) (start_word_at g k) < word_limit
      go true = given (start_word_at g k)
      go false = words (5 + 2 * k)

  at : (j : ℕ) → j < state_length g → get_or (loaded g inputs) j 0 ≡ loaded_at g inputs j
  at = loaded_at_lem g inputs starts_within

  zero_past : (j : ℕ) → 2 * start_count g ≤ j → j < state_length g → get_or (loaded g inputs) j 0 ≡ 0
  unfolding loaded_at
  zero_past j l h = at j h ∙ ap (λ (b : Bool). pick b (pick (eqb (j % 2) 0) 1 (start_word g inputs (j / 2))) 0) (le-ltb j (2 * start_count g) l)

  picked : (j : ℕ) → j < 2 * start_count g → loaded_at g inputs j ≡ pick (eqb (j % 2) 0) 1 (start_word g inputs (j / 2))
  unfolding loaded_at
  picked j l = ap (λ (b : Bool). pick b (pick (eqb (j % 2) 0) 1 (start_word g inputs (j / 2))) 0) (lt-ltb j (2 * start_count g) l)

  wire_loaded : (w : ℕ) → w < wire_count g → legal_token (sort_at g w) (get_or (loaded g inputs) (full_place w) 0) (get_or (loaded g inputs) (word_place w) 0) ≡ true
  wire_loaded w h =
      elim (dec_lt w (start_count g)) [
        | yes l ↦
            subst₂ (λ (p q : ℕ). legal_token (sort_at g w) p q ≡ true) (sym (full w l)) (sym (word w l))
            (subst (λ (n : ℕ). fits n (start_word g inputs w) ≡ true) (sym (start_sorted g (accepted g ok) w l)) (lt-ltb (start_word g inputs w) word_limit (start_word_lem w)))
        | no l ↦
            subst₂ (λ (p q : ℕ). legal_token (sort_at g w) p q ≡ true) (sym (zero_past (full_place w) (omega arith) (omega arith)))
            (sym (zero_past (word_place w) (omega arith) (omega arith))) refl
      ]
    where
      full : (w : ℕ) → w < start_count g → get_or (loaded g inputs) (full_place w) 0 ≡ 1
      full w l =
          let b = starts_within in
          at (full_place w) (omega arith) ∙ picked (full_place w) (omega arith)
          ∙ ap (λ (t : Bool). pick t 1 (start_word g inputs (full_place w / 2))) (eq-eqb (full_place w % 2) 0 (omega arith))

      word : (w : ℕ) → w < start_count g → get_or (loaded g inputs) (word_place w) 0 ≡ start_word g inputs w
      word w l =
          let b = starts_within in
          let half : word_place w / 2 ≡ w = omega arith in
          at (word_place w) (omega arith) ∙ picked (word_place w) (omega arith)
          ∙ ap (λ (t : Bool). pick t 1 (start_word g inputs (word_place w / 2))) (ne_eqb (word_place w % 2) 0 (λ z. omega arith)) ∙ ap (start_word g inputs) half

  record_loaded : (i : ℕ) → i < node_count g → record_at (wire_count g) (loaded g inputs) i ≡ rest
  record_loaded i h =
      let b = starts_within in
      λ d. record {
        phase = zero_past (record_place (wire_count g) i) (omega arith) (omega arith) d;
        r0 = zero_past (record_place (wire_count g) i + 1) (omega arith) (omega arith) d;
        r1 = zero_past (record_place (wire_count g) i + 2) (omega arith) (omega arith) d;
        r2 = zero_past (record_place (wire_count g) i + 3) (omega arith) (omega arith) d;
      }

  pub loaded_is_legal : legal g (loaded g inputs) ≡ true
  loaded_is_legal =
      keeps_legal g (loaded g inputs)
      (record {
        size = loaded_length g inputs starts_within;
        wires = wire_loaded;
        nodes = λ i h. subst (λ (r : Record). legal_for (node_at g i) r ≡ true) (sym (record_loaded i h)) (rest_for (node_at g i));
      })
