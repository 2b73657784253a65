-- The nodes before a loop of the outermost body are silent once the reading has come there: they never fire again, and no token comes to them, in
-- any order.
--
--   Silent, Dead              a wire of an early wire's tree that is no later row's; a node before the loop, or a fork or drain of an early wire
--   Hushed                    silent wires are empty, dead nodes at rest
--   first_hushed              so it is where the reading has come to the loop, or behind it
--   hushed_run                and it stays so
--   waits_late                so no node with a lower number than that loop's STREAM is found waiting with a zero step
--   AtFault, at_fault         where the reading meets a zero step
--
-- The idea. A dead node takes only from dead nodes and from starts, so none is the first to fire again.
-- Assumes nothing.
use Rattle.std.proofs.Math.Path.{◌≡◌, ap, subst}
use Rattle.std.specs.Prelude.{refl, ◌≢◌, ◌⊎◌, Bool, false, ℕ, ◌+◌, ◌≤◌, ◌<◌, eqb, length, get_or}
use Rattle.std.proofs.Common.{sym, ◌∙◌, ne_eqb}
use Rattle.std.proofs.Math.Logic.{inl, inr}
use Rattle.std.proofs.Math.Bool.{true}
use Rattle.std.proofs.Math.Option.{Option, none, some}
use mathlib.Core.List.{List, [], ◌∷◌}
use native.Mathlib.Omega.{arith}
use Rattle.std.proofs.Math.Decide.{dec_lt}
use Rattle.step.specs.Kinds.{Input, in0, in1, in2, Output, out0, out1}
use Rattle.step.specs.Firing.{Effect}
use Rattle.step.specs.Machines.{rest}
use Rattle.step.specs.Kept.{and_true}
use Rattle.graph.specs.Graph.{node_count, input_at, node_at, wire_count}
use Rattle.graph.specs.Refusal.{graph_refusal}
use Rattle.graph.specs.Accepted.{accepted, node_in_range}
use Rattle.graph.specs.Wiring.{start_unwritten}
use Rattle.state.specs.State.{word_place, token, token_on, record_at}
use Rattle.state.specs.Net.{Net, net_of, fire}
use Rattle.state.specs.Load.{loaded}
use Rattle.state.specs.Run.{is_stream, holds_token, zero_step_at}
use Rattle.confluence.specs.Orders.{fires_first, fires_end}
use Rattle.confluence.specs.Wired.{effect_of}
use Rattle.confluence.specs.Statements.{Fires}
use Rattle.structure.specs.Structure.{Structure}
use Rattle.reading.specs.Reading.{Outcome}
use Rattle.lowered.specs.Lists.{Among, Once}
use Rattle.lowered.specs.Roles.{Role, op_node, stream, gate, guard, copy_split, copy_invariant, carry, arg_split, same_role, Wire, start, output, Use, into, result}
use Rattle.lowered.specs.Lower.{roles, wire_number, users, fork_nodes, plain_nodes, all_users, start_total, lowered_words}
use Rattle.laid.specs.Lists.{in_range, at_position}
use Rattle.laid.specs.Listed.{role_row}
use Rattle.laid.specs.Rowwise.{nodes_before}
use Rattle.laid.specs.Words.{start_count_lem}
use Rattle.uses.specs.Machine.{State}
use Rattle.uses.specs.Wires
use Rattle.uses.specs.Wires.{Tokens, in_tok, clear_tok, fill_tok, rec_by, view2, fire2, Spread, drained, alone, forked, below, nodes, OneOf}
use Rattle.uses.specs.Layout.{Layout, Made, Tree, wire_if, use_in_tree, dec_use, use_found, among_use}
use Rattle.uses.specs.Flat
use Rattle.uses.specs.Flat.{Rep, view_is, flat_fire}
use Rattle.faithful.specs.Table.{Table, IsFor, src, Real, plan}
use Rattle.faithful.specs.Good.{Good}
use Rattle.faithful.specs.Gamma.{Env, Gamma}
use Rattle.faithful.specs.Tables.{table_of, for_kind}
use Rattle.faithful.proofs.Sound.{passing_is_good}
use Rattle.faithful.specs.Passed.{role_at, EarlyWire, source_early, tok_none, own_rest}
use Rattle.faithful.specs.Finish.{Laid, quiet_run, fork_quiet}
use Rattle.faithful.specs.Legs.{up_from_range, fork_at}
use Rattle.faithful.proofs.Places.{num, forks, role_listed, role_node_lem, nodes_of, layout, laid}
use Rattle.faithful.proofs.Loading.{start_of}
use Rattle.faithful.proofs.Following.{Faulted}
use Rattle.faithful.proofs.Order.{first_state, Shows, order_shows}
use Rattle.faithful.specs.Faults.{ZeroStepped}
use Rattle.faithful.proofs.Waiting.{waiting}

-- ---- tokens

clear_none : (o : Option ℕ) (b : Bool) (x : ℕ) (t : Option ℕ) → t ≡ none → clear_tok o b x t ≡ none
clear_none none b x t h = h
clear_none (some u) false x t h = h
clear_none (some u) true x t h = go (eqb u x)
  where
    go : (c : Bool) → Wires.cut c none t ≡ none
    go true = refl
    go false = h

fill_none : (o y : Option ℕ) (x : ℕ) (t : Option ℕ) → o ≢ some x → t ≡ none → fill_tok o y x t ≡ none
fill_none none y x t n h = h
fill_none (some u) none x t n h = h
fill_none (some u) (some z) x t n h = rw (ne_eqb u x (λ e. n (ap some e))) h

-- a wire below a wire that is spread is a leg of one of its forks
fork_writes : (N : Net) {A : Type 0} (pw : A → ℕ) {x : ℕ} {ps : List A} (s : Spread N pw x ps) (z : ℕ) → Among z (below N pw s) → (f : ℕ) × Among f (nodes N pw s) × (o : Output) × (N.output f o ≡ some z)
fork_writes N pw (drained d h) z a = absurd a
fork_writes N pw (alone p h) z a = absurd a
fork_writes N pw (forked p f y1 y2 h k s) z (inl e) = (f, inl refl, out0, h.leg0 ∙ ap some (sym e))
fork_writes N pw (forked p f y1 y2 h k s) z (inr (inl e)) = (f, inl refl, out1, h.leg1 ∙ ap some (sym e))
fork_writes N pw (forked p f y1 y2 h k s) z (inr (inr a)) = let r = fork_writes N pw s z a in (r.0, inr r.1, r.2, r.3)

module _ (t : List ℕ) (S : Structure t) (ok : graph_refusal (lowered_words t) ≡ 0) where
  abbrev tb : Table
  tb = table_of t

  abbrev g : List ℕ
  g = lowered_words t

  abbrev N : Net
  N = net_of g

  abbrev good : Good tb
  good = passing_is_good t S

  abbrev y : Laid tb N (node_count g)
  y = laid t S ok

  abbrev K : Layout (plan tb) N
  K = y.layout

  module _ (P : ℕ) (here : IsFor tb P) (outside : tb.reads P ≡ tb.size) where
    abbrev Early : Wire → Type 0
    Early = EarlyWire tb good P here outside

    abbrev EarlyUse : Use → Type 0
    EarlyUse (into n k) = role_at tb n < P
    EarlyUse (result r) = ⊥

    abbrev Silent : ℕ → Type 0
    Silent x = (w : Wire) × Made (plan tb) w × Early w × Tree (plan tb) N K x w × ((p : Use) → Among p (K.users w) → x ≡ K.pw p → EarlyUse p)

    abbrev Dead : ℕ → Type 0
    Dead i = ((n : Role) × Real tb n × (i ≡ K.num n) × (role_at tb n < P)) ⊎ ((w : Wire) × Made (plan tb) w × Early w × Among i (K.forks w))

    pub record Hushed (Z : Tokens) : Type 0 where
      pub wires : (x : ℕ) → Silent x → Z.wt x ≡ none
      pub records : (i : ℕ) → Dead i → Z.wr i ≡ rest

    -- ---- a dead node is not ready
    input_silent : (n : Role) → role_at tb n < P → (k : Input) (w : Wire) → src tb (into n k) ≡ some w → Silent (K.pw (into n k))
    input_silent n l k w h = (
      w,
      (K.users_full (into n k) w h).1,
      source_early tb good P here outside n k w h l,
      use_in_tree (plan tb) N K (into n k) w h,
      λ p a e. subst EarlyUse (K.pw_inj (into n k) p w w h (K.users_sound p w (K.users_full (into n k) w h).1 a) e) l,
    )

    input_none : (Z : Tokens) → Hushed Z → (n : Role) → Real tb n → role_at tb n < P → (k : Input) → in_tok Z (N.input (K.num n) k) ≡ none
    input_none Z H n rl l k = ap (in_tok Z) (K.ins n rl k) ∙ go (src tb (into n k)) refl
      where
        go : (w : Option Wire) → src tb (into n k) ≡ w → in_tok Z (wire_if w (K.pw (into n k))) ≡ none
        go none h = refl
        go (some w) h = H.wires (K.pw (into n k)) (input_silent n l k w h)

    dead_quiet : (Z : Tokens) → Hushed Z → (i : ℕ) → Dead i → N.node i (view2 N Z i) ≡ none
    dead_quiet Z H i (inl d) =
        let n = d.0 in
        let rl = d.1 in
        ap (λ (j : ℕ). N.node j (view2 N Z j)) d.2 ∙ K.does n rl (view2 N Z (K.num n))
        ∙ quiet_run tb n (view2 N Z (K.num n)) (H.records (K.num n) (inl (n, rl, refl, d.3))) (input_none Z H n rl d.3 in0) (input_none Z H n rl d.3 in1) (input_none Z H n rl d.3 in2)
    dead_quiet Z H i (inr d) =
        let w = d.0 in
        let m = d.1 in
        let s = K.sp w m in
        fork_quiet N K.pw s.0 Z (subst (λ (l : List ℕ). Once (K.ww w ∷ l)) (sym s.1) (K.tree_once w m))
        (λ z h k. H.wires z (w, m, d.2, subst (λ (l : List ℕ). Among z (K.ww w ∷ l)) s.1 h, λ p a e. absurd (k (subst (λ (x : ℕ). OneOf N K.pw x (K.users w)) (sym e) (among_use (plan tb) N K p (K.users w) a)))))
        i (subst (λ (l : List ℕ). Among i l) (sym s.2) d.3)

    -- ---- who writes a silent wire is dead
    writer_dead : (j : ℕ) (o : Output) (x : ℕ) → N.output j o ≡ some x → Silent x → Dead j
    unfolding laid layout start_total
    writer_dead j o x h (w, m, e, tr, u) = go w m e tr
      where
        go : (w : Wire) → Made (plan tb) w → Early w → Tree (plan tb) N K x w → Dead j
        go (start v) m e (inl d) =
            let a = start_unwritten g (accepted g ok) j o x h in
            let b = (start_of t S [] v m).1 in
            let c = start_count_lem t in
            absurd (omega arith)
        go (output n l) m e (inl d) =
            inl (n, m.0, (y.wired.one_writer j (K.num n) o l x h (K.outs n m.0 l m.1 ∙ ap some (sym d))).0, e)
        go w m e (inr a) =
            let s = K.sp w m in
            let f = fork_writes N K.pw s.0 x (subst (λ (z : List ℕ). Among x z) (sym s.1) a) in
            inr (w, m, e, subst (λ (i : ℕ). Among i (K.forks w)) (sym (y.wired.one_writer j f.0 o f.2 x h f.3).0) (subst (λ (z : List ℕ). Among f.0 z) s.2 f.1))

    -- ---- and so it stays
    hushed_after : (Z : Tokens) → Hushed Z → (j : ℕ) (e : Effect) → N.node j (view2 N Z j) ≡ some e → Hushed (fire2 N j e Z)
    unfolding fire2
    hushed_after Z H j e q =
        record {
          wires = λ x s.
              fill_none (N.output j out1) e.gives1 x _ (λ h. live (writer_dead j out1 x h s))
              (fill_none (N.output j out0) e.gives0 x _ (λ h. live (writer_dead j out0 x h s))
              (clear_none (N.input j in2) e.takes2 x _ (clear_none (N.input j in1) e.takes1 x _ (clear_none (N.input j in0) e.takes0 x _ (H.wires x s)))));
          records = λ i d. ap (λ (b : Bool). rec_by b e.next (Z.wr i)) (ne_eqb i j (λ c. live (subst Dead c d))) ∙ H.records i d;
        }
      where
        live : Dead j → ⊥
        live d = let n = dead_quiet Z H j d in let z : ◌≡◌ {A = ℕ} 0 1 = cc in omega arith

    pub hushed_run : (order s u : List ℕ) (Z : Tokens) → Rep (node_count g) N s Z → Hushed Z → Fires g order s u → (U : Tokens) × Rep (node_count g) N u U × Hushed U
    hushed_run [] s u Z R H f = (Z, subst (λ (z : List ℕ). Rep (node_count g) N z Z) (fires_end (fire N) s u f) R, H)
    hushed_run (j ∷ order) s u Z R H f =
        let x = fires_first (fire N) j order s u f in
        let e = effect_of N j s x.0 x.1 in
        let l = y.node_below_lem j _ e.0 e.1 in
        let q : N.node j (view2 N Z j) ≡ some e.0 = sym (ap (N.node j) (view_is (node_count g) N y.wired s Z R j l)) ∙ e.1 in
        let a = flat_fire (node_count g) N y.wired s Z R j l e.0 q in
        let b = a.1 in let c = x.1 in
        let d : a.0 ≡ x.0 = cc in
        hushed_run order x.0 u (fire2 N j e.0 Z) (subst (λ (z : List ℕ). Rep (node_count g) N z (fire2 N j e.0 Z)) d a.2) (hushed_after Z H j e.0 q) x.2

    -- where the reading has come to P, or behind it
    first_hushed : (inputs : List ℕ) (there : State) (x : Shows t S ok inputs there) (pc : ℕ) (env : Env) → Gamma tb pc env there → P ≤ pc → Hushed x.tokens
    first_hushed inputs there x pc env G come =
        record {
          wires = λ z s. elim (dec_use (plan tb) N K z (K.users s.0)) [
            | yes u ↦ (let p = use_found (plan tb) N K z (K.users s.0) u in
                ap x.tokens.wt p.2 ∙ by p.0 (K.users_sound p.0 s.0 s.1 p.1) (s.4 p.0 p.1 p.2))
            | no u ↦ x.shown.between s.0 s.1 z s.3 u
          ];
          records = λ i d. elim d [
            | inl c ↦ ap x.tokens.wr c.2 ∙ x.shown.at_node c.0 c.1 ∙ own_rest tb good P here outside pc env there G come c.0 c.1 c.3
            | inr c ↦ x.shown.at_fork c.0 c.1 i c.3
          ];
        }
      where
        by : (p : Use) {w : Wire} → src tb p ≡ some w → EarlyUse p → x.tokens.wt (K.pw p) ≡ none
        by (into n k) {w} h l = x.shown.at_use (into n k) w h ∙ tok_none tb good P here outside pc env there G come n k w h l
        by (result r) h l = absurd l

    -- ---- a STREAM with a lower number than P's has no token
    at_row : (n : Role) → Real tb n → role_at tb n ≤ role_row n
    at_row (op_node r) rl = omega arith
    at_row (stream L) rl = omega arith
    at_row (gate L) rl = omega arith
    at_row (guard L) rl = omega arith
    at_row (copy_split L v) rl = omega arith
    at_row (copy_invariant L v) rl = omega arith
    at_row (carry a) rl = let b = good.arg_low a rl.0 rl.1 in omega arith
    at_row (arg_split a) rl = let b = good.arg_low a rl.0 rl.1 in omega arith

    module _ (u : List ℕ) (U : Tokens) (R : Rep (node_count g) N u U) (H : Hushed U) where
      no_token : (n : Role) → Real tb n → role_at tb n < P → (k : Input) → token_on u (N.input (K.num n) k) ≡ none
      no_token n rl l k = go (N.input (K.num n) k) refl (input_none U H n rl l k)
        where
          go : (o : Option ℕ) → N.input (K.num n) k ≡ o → in_tok U o ≡ none → token_on u o ≡ none
          go none e h = refl
          go (some x) e h = let c = (R.wire x (y.wired.input_below_lem (K.num n) k x e)).0 ∙ ap Flat.flag h in ap (λ (f : ℕ). token f (get_or u (word_place x) 0)) c

      pub waits_late : (j : ℕ) → zero_step_at g u j ≡ true → num t S (stream P) ≤ j
      unfolding zero_step_at laid layout plain_nodes
      waits_late j z =
          elim (dec_lt j (num t S (stream P))) [
            | yes l ↦ absurd (go l (nodes_of t S j (let b = node_in_range g (num t S (stream P)) _ (role_node_lem t S (stream P) here) in omega arith)))
            | no l ↦ omega arith
          ]
        where
          full : holds_token (token_on u (input_at g j in0)) ≡ true
          full =
              let a = (and_true (is_stream (node_at g j)) _ z).1 in
              let b = (and_true (eqb (record_at (wire_count g) u j).phase 0) _ a).1 in
              (and_true (holds_token (token_on u (input_at g j in0))) _ b).0

          go : j < num t S (stream P) → ((n : Role) × Real tb n × (j ≡ num t S n)) ⊎ ((w : Wire) × Made (plan tb) w × Among j (forks t S w)) → ⊥
          go l (inl c) =
              let f = for_kind t S P here in
              let e = c.2 in
              let r = nodes_before t P f.0 f.1 c.0 (role_listed t S c.0 c.1) (omega arith) in
              let b = at_row c.0 c.1 in
              let m : token_on u (input_at g j in0) ≡ none = ap (λ (i : ℕ). token_on u (input_at g i in0)) e ∙ no_token c.0 c.1 (omega arith) in0 in
              let q : false ≡ true = sym (ap holds_token m) ∙ full in
              let z : ◌≡◌ {A = ℕ} 0 1 = cc in omega arith
          go l (inr c) =
              let r = (up_from_range (fork_nodes (users t c.0)) (length (roles t) + fork_at (all_users t) 0 (wire_number t c.0)) j c.2).0 in
              let b = in_range (roles t) (num t S (stream P)) (stream P) (at_position same_role (stream P) (roles t) (role_listed t S (stream P) here)) in
              omega arith

  -- ---- where the reading meets a zero step
  -- an order that follows the reading to FOR row L leaves its STREAM waiting with a zero step, and all before an outermost loop at L or above silent
  pub record AtFault (inputs : List ℕ) (L : ℕ) : Type 0 where
    pub order : List ℕ
    pub state : List ℕ
    pub fires : Fires g order (loaded g inputs) state
    pub is_for_lem : IsFor tb L
    pub waits : ZeroStepped g state (num t S (stream L))
    pub tokens : Tokens
    pub flat : Rep (node_count g) N state tokens
    pub hushed : (P : ℕ) (here : IsFor tb P) (outside : tb.reads P ≡ tb.size) → P ≤ L → Hushed P here outside tokens

  pub at_fault : (inputs : List ℕ) (o : Outcome) (e : Faulted t S (first_state t S ok inputs) o) → AtFault inputs e.loop
  at_fault inputs o e =
      let x = (order_shows t S ok inputs e.path e.there e.steps).0 in
      record {
        order = x.order;
        state = x.state;
        fires = x.fires;
        is_for_lem = (e.start, e.step, e.bound, e.change, e.compare, e.row);
        waits = waiting t S ok inputs e.loop e.start e.step e.bound e.change e.compare e.row e.env e.there e.follows.gamma e.zero_step_lem x;
        tokens = x.tokens;
        flat = x.flat;
        hushed = λ P here outside come. first_hushed P here outside inputs e.there x e.loop e.env e.follows.gamma come;
      }
