-- The end: where the reading has ended, the results hold its words, every other wire is empty, every record is zero, and no node is ready.
--
--   Laid                      a net is the table's graph, and holds nothing else
--   Loaded, begun             the starts' words on their wires and nothing else: the starts may be spread
--   Finished                  the results hold the reading's words, all else is empty
--   finished, rests           so it is where the reading has ended, and nothing is ready there
--
-- Assumes nothing.
use Rattle.std.specs.Prelude.{◌≡◌, ◌≢◌, ◌⊎◌, List, ◌∷◌, ℕ, zero, suc, ◌+◌, ◌*◌, ◌≤◌, ◌<◌, length}
use Rattle.std.proofs.Math.Path.{refl, ap}
use Rattle.std.proofs.Common.{sym, ◌∙◌, subst, inl, inr, arith}
use Rattle.std.proofs.Math.Option.{Option, none, some}
use Rattle.std.proofs.Math.Decide.{dec_lt}
use Rattle.step.specs.Kinds.{Input, in0, in1, in2}
use Rattle.step.specs.Firing.{View, Effect, perform}
use Rattle.step.specs.Machines.{rest}
use Rattle.step.specs.declared.Record.{Record}
use Rattle.step.specs.Machines
use Rattle.state.specs.State.{record_at}
use Rattle.state.specs.Net.{Net, view, effect_at, fire}
use Rattle.state.specs.Net
use Rattle.confluence.specs.Orders.{Rests}
use Rattle.confluence.specs.Wired.{Wired}
use Rattle.table.specs.Bodies.{Row, input, const, op, pick, for, arg, next, end, out, unknown}
use Rattle.lowered.specs.Lists.{Among, Once}
use Rattle.lowered.specs.Roles.{Role, op_node, stream, gate, guard, copy_split, copy_invariant, carry, arg_split, Wire, start, output, Use, into, result}
use Rattle.uses.specs.Machine.{State}
use Rattle.uses.specs.Wires.{Tokens, in_tok, view2, Spread, drained, alone, forked, below, nodes, OneOf, uses_in}
use Rattle.uses.specs.Layout.{Layout, Made, Tree, Shown, wire_if, use_in_tree, dec_use, use_found}
use Rattle.uses.specs.Flat.{Holds, Rep, view_is}
use Rattle.faithful.specs.Table.{Table, val, IsFor, wire_of, since, slot, slot_wire, src, Real, program_of, op_program, stream_program, guard_program, result_slot, plan}
use Rattle.faithful.specs.Good.{Good, Source, from_start, from_op, from_for, from_arg, from_next, from_copy, source, When, by_op, by_for, by_end, by_out, when}
use Rattle.faithful.specs.Gamma.{Env, Gamma}
use Rattle.faithful.specs.Rows.{src_cases}
use Rattle.faithful.specs.Begin.{Begun}
use Rattle.faithful.specs.Passed.{rest_outside}

-- ---- where the reading has ended
module _ (tb : Table) (g : Good tb) (env : Env) (t : State) (G : Gamma tb tb.size env t) where
  -- a use of a node is empty
  end_node : (n : Role) (k : Input) (w : Wire) → src tb (into n k) ≡ some w → t.tok (into n k) ≡ none
  end_node n k w h =
      elim (src_cases tb g (into n k) w h) [
        | inl q ↦ go q.0 q.1 q.2 q.3 (when tb g (into n k) q.0 q.1 q.2 q.3)
        | inr q ↦ G.inners (into n k) w q
      ]
    where
      off : (v B c : ℕ) → slot tb (into n k) ≡ val v B c → c < tb.size → t.tok (into n k) ≡ none
      off v B c q l = (G.values (into n k) v B c q).off (λ x. let x3 = x.3 in omega arith)

      below_size : (L : ℕ) → IsFor tb L → L < tb.size
      below_size L f = let a = g.for_size L f in let b = g.for_first L f in let c = g.for_last L f in omega arith

      go : (v B c : ℕ) → slot tb (into n k) ≡ val v B c → When tb (into n k) v B c → t.tok (into n k) ≡ none
      go v B c q (by_op i e x) = off v B c q (g.op_size c x)
      go v B c q (by_for f _ _ _ _ _) = off v B c q (below_size c f)
      go v B c q (by_end L f _ _ _ _ l _) = off v B c q (let z = g.for_size L f in omega arith)
      go v B c q (by_out r e l _) = let z : ◌≡◌ {A = ℕ} 0 1 = cc in absurd (omega arith)

  -- a result holds its word
  end_result : (r x : ℕ) → tb.row r ≡ out x → t.tok (result r) ≡ some (env x)
  end_result r x h =
      let q : slot tb (result r) ≡ val x tb.size (suc tb.size) = rw h in
      let f0 = g.outer_first in let l0 = g.outer_last in
      (G.values (result r) x tb.size (suc tb.size) q).on (omega arith, omega arith, born_by_lem (source tb x tb.size), omega arith)
    where
      born_by_lem : Source tb x tb.size → since tb x tb.size ≤ tb.size
      born_by_lem (from_start w a b z) = omega arith
      born_by_lem (from_op w a b z) = let l = g.op_size x b in omega arith
      born_by_lem (from_for w a b z) = omega arith
      born_by_lem (from_arg i w a b z) = omega arith
      born_by_lem (from_next y w a b z) = let l = g.for_size (tb.loop x) (g.next_for x y b) in omega arith
      born_by_lem (from_copy w a z) = omega arith

  end_use : (p : Use) (w : Wire) → src tb p ≡ some w → ((r : ℕ) × (x : ℕ) × (p ≡ result r) × (tb.row r ≡ out x)) ⊎ (t.tok p ≡ none)
  end_use (into n k) w h = inr (end_node n k w h)
  end_use (result r) w h = go (tb.row r) refl h
    where
      go : (d : Row) → tb.row r ≡ d → slot_wire tb (result_slot d tb.size (suc tb.size)) ≡ some w → ((r' : ℕ) × (x : ℕ) × (◌≡◌ {A = Use} (result r) (result r')) × (tb.row r' ≡ out x)) ⊎ (t.tok (result r) ≡ none)
      go input q k = let z : ◌≡◌ {A = ℕ} 0 1 = cc in absurd (omega arith)
      go (const x) q k = let z : ◌≡◌ {A = ℕ} 0 1 = cc in absurd (omega arith)
      go (op c x y) q k = let z : ◌≡◌ {A = ℕ} 0 1 = cc in absurd (omega arith)
      go (pick c x y) q k = let z : ◌≡◌ {A = ℕ} 0 1 = cc in absurd (omega arith)
      go (for s t b u c) q k = let z : ◌≡◌ {A = ℕ} 0 1 = cc in absurd (omega arith)
      go (arg i) q k = let z : ◌≡◌ {A = ℕ} 0 1 = cc in absurd (omega arith)
      go (next x) q k = let z : ◌≡◌ {A = ℕ} 0 1 = cc in absurd (omega arith)
      go end q k = let z : ◌≡◌ {A = ℕ} 0 1 = cc in absurd (omega arith)
      go unknown q k = let z : ◌≡◌ {A = ℕ} 0 1 = cc in absurd (omega arith)
      go (out x) q k = inl (r, x, refl, q)

  end_rec : (n : Role) → Real tb n → t.own n ≡ rest
  end_rec n rl = rest_outside tb g tb.size env t G n rl (λ L f _ i. let a = g.for_size L f in let b = i.1 in omega arith)

-- a node at rest with nothing on its inputs is not ready
pub quiet_run : (tb : Table) (n : Role) (v : View) → v.own ≡ rest → v.word0 ≡ none → v.word1 ≡ none → v.word2 ≡ none → perform (program_of tb n v.own) v ≡ none
quiet_run tb n v r a b c = ap (λ (z : Record). perform (program_of tb n z) v) r ∙ go n
  where
    ops : (d : Row) → perform (op_program d rest) v ≡ none
    ops input = refl
    ops (const w) = refl
    ops (op k x y) = rw a
    ops (pick f x y) = rw a
    ops (for s t b u k) = refl
    ops (arg i) = refl
    ops (next x) = refl
    ops end = refl
    ops unknown = refl
    ops (out x) = refl

    streams : (d : Row) → perform (stream_program d rest) v ≡ none
    streams input = refl
    streams (const w) = refl
    streams (op k x y) = refl
    streams (pick f x y) = refl
    streams (for s t b u k) = rw a
    streams (arg i) = refl
    streams (next x) = refl
    streams end = refl
    streams unknown = refl
    streams (out x) = refl

    guards : (d : Row) → perform (guard_program d rest) v ≡ none
    guards input = refl
    guards (const w) = refl
    guards (op k x y) = refl
    guards (pick f x y) = refl
    guards (for s t b u k) = rw a
    guards (arg i) = refl
    guards (next x) = refl
    guards end = refl
    guards unknown = refl
    guards (out x) = refl

    go : (n : Role) → perform (program_of tb n rest) v ≡ none
    go (op_node x) = ops (tb.row x)
    go (stream L) = streams (tb.row L)
    go (gate L) = rw a
    go (guard L) = guards (tb.row L)
    go (copy_split L x) = rw a
    go (copy_invariant L x) = rw b
    go (carry x) = rw b
    go (arg_split x) = rw a

-- forks and drains whose wires are empty are not ready
fork_waits : (p : ℕ) (v : View) → v.word0 ≡ none → perform (Machines.fork p) v ≡ none
fork_waits zero v h = rw h
fork_waits (suc p) v h = refl

drain_waits : (p : ℕ) (v : View) → v.word0 ≡ none → perform (Machines.drain p) v ≡ none
drain_waits zero v h = rw h
drain_waits (suc p) v h = refl

module _ (net : Net) {P : Type 0} (pw : P → ℕ) where
  pub fork_quiet : {x : ℕ} {ps : List P} (s : Spread net pw x ps) (B : Tokens) → Once (x ∷ below net pw s)
      → ((z : ℕ) → Among z (x ∷ below net pw s) → (OneOf net pw z ps → ⊥) → B.wt z ≡ none) → (i : ℕ) → Among i (nodes net pw s) → net.node i (view2 net B i) ≡ none
  fork_quiet {x = x} (drained d h) B o e i (inl c) =
      let z : in_tok B (net.input d in0) ≡ none = ap (in_tok B) h.wire0 ∙ e x (inl refl) (λ k. k) in
      ap (λ (j : ℕ). net.node j (view2 net B j)) c ∙ h.does (view2 net B d) ∙ drain_waits (B.wr d).phase (view2 net B d) z
  fork_quiet {x = x} (drained d h) B o e i (inr c) = absurd c
  fork_quiet (alone p h) B o e i c = absurd c
  fork_quiet {x = x} (forked {q = q} {ps = ps} p f y1 y2 h k s) B o e i (inl c) =
      let z : in_tok B (net.input f in0) ≡ none = ap (in_tok B) h.wire0 ∙ e x (inl refl) (λ m. o.0 (used m)) in
      ap (λ (j : ℕ). net.node j (view2 net B j)) c ∙ h.does (view2 net B f) ∙ fork_waits (B.wr f).phase (view2 net B f) z
    where
      used : (x ≡ pw p) ⊎ OneOf net pw x (q ∷ ps) → Among x (y1 ∷ y2 ∷ below net pw s)
      used (inl m) = inl (m ∙ k)
      used (inr m) = inr (uses_in net pw s x m)
  fork_quiet {x = x} (forked {q = q} {ps = ps} p f y1 y2 h k s) B o e i (inr c) =
      fork_quiet s B o.1.1 (λ z m n. e z (inr (inr m)) (λ u. not z m n u)) i c
    where
      not : (z : ℕ) → Among z (y2 ∷ below net pw s) → (OneOf net pw z (q ∷ ps) → ⊥) → (z ≡ pw p) ⊎ OneOf net pw z (q ∷ ps) → ⊥
      not z m n (inl u) = o.1.0 (subst (λ (w : ℕ). Among w (y2 ∷ below net pw s)) (u ∙ k) m)
      not z m n (inr u) = n u

-- ---- the graph

module _ (tb : Table) (net : Net) (nodes' : ℕ) where
  -- a net of so many nodes is the table's graph: its layout, and there is nothing else in it
  pub record Laid : Type 0 where
    pub wired : Wired net
    pub node_below_lem : (i : ℕ) (v : View) (e : Effect) → net.node i v ≡ some e → i < nodes'
    pub layout : Layout (plan tb) net
    pub all_wires : (x : ℕ) → x < net.wires → (w : Wire) × Made (plan tb) w × Tree (plan tb) net layout x w
    pub wires_in : (w : Wire) → Made (plan tb) w → (x : ℕ) → Tree (plan tb) net layout x w → x < net.wires
    pub all_nodes : (i : ℕ) → i < nodes' → ((n : Role) × Real tb n × (i ≡ layout.num n)) ⊎ ((w : Wire) × Made (plan tb) w × Among i (layout.forks w))

  module _ (y : Laid) where
    -- the loaded state: the starts' words on their wires, and nothing else
    pub record Loaded (env : Env) (st : List ℕ) : Type 0 where
      pub long : length st ≡ 2 * net.wires + 4 * nodes'
      pub cell : ℕ → Option ℕ
      pub cells : (x : ℕ) → x < net.wires → Holds st x (cell x)
      pub start_cell : (v : ℕ) → Made (plan tb) (start v) → cell (y.layout.ww (start v)) ≡ some (env v)
      pub else_cell : (x : ℕ) → ((v : ℕ) → Made (plan tb) (start v) → x ≢ y.layout.ww (start v)) → cell x ≡ none
      pub recs : (j : ℕ) → j < nodes' → record_at net.wires st j ≡ rest

    -- the results hold the reading's words, every other wire is empty, every record is zero
    pub record Finished (env : Env) (st : List ℕ) : Type 0 where
      pub results : (r x : ℕ) → tb.row r ≡ out x → Holds st (y.layout.pw (result r)) (some (env x))
      pub others : (w : ℕ) → w < net.wires → ((r x : ℕ) → tb.row r ≡ out x → w ≢ y.layout.pw (result r)) → Holds st w none
      pub recs : (j : ℕ) → j < nodes' → record_at net.wires st j ≡ rest

    pub begun : (env : Env) (st : List ℕ) → (l : Loaded env st) → Begun tb net y.layout env 0 (record { wt = l.cell; wr = λ j. rest })
    begun env st l =
        record {
          done_hit = λ v k. absurd (omega arith);
          done_miss = λ v k. absurd (omega arith);
          todo_root = λ v k m. l.start_cell v m;
          todo_tail = λ v k m x t. l.else_cell x (λ u mu c. off v u m mu x t c);
          inner_wires = λ n o m x t. l.else_cell x (λ u mu c. let d : start u ≡ output n o = y.layout.tree_apart (start u) (output n o) mu m x (inl c) t in let z : ◌≡◌ {A = ℕ} 0 1 = cc in omega arith);
          idle = λ j. refl;
        }
      where
        off : (v u : ℕ) → Made (plan tb) (start v) → Made (plan tb) (start u) → (x : ℕ) → Among x (y.layout.tail (start v)) → x ≡ y.layout.ww (start u) → ⊥
        off v u m mu x t c =
            let d : start v ≡ start u = y.layout.tree_apart (start v) (start u) m mu x (inr t) (inl c) in
            (y.layout.tree_once (start v) m).0
            (subst (λ (z : ℕ). Among z (y.layout.tail (start v))) (c ∙ ap y.layout.ww (sym d)) t)

    pub first_rep : (env : Env) (st : List ℕ) → (l : Loaded env st) → Rep nodes' net st (record { wt = l.cell; wr = λ j. rest })
    first_rep env st l = record { long = l.long; wire = l.cells; record_of = l.recs }

    module _ (g : Good tb) (env : Env) (B : Tokens) (t : State) (sh : Shown (plan tb) net y.layout B t) (Γ : Gamma tb tb.size env t) where
      abbrev L : Layout (plan tb) net
      L = y.layout

      end_wire : (x : ℕ) → x < net.wires → ((r : ℕ) × (z : ℕ) × (tb.row r ≡ out z) × (x ≡ L.pw (result r))) ⊎ (B.wt x ≡ none)
      end_wire x l =
          let c = y.all_wires x l in
          elim (dec_use (plan tb) net L x (L.users c.0)) [
            | yes u ↦
                let p = use_found (plan tb) net L x (L.users c.0) u in
                let h = L.users_sound p.0 c.0 c.1 p.1 in
                elim (end_use tb g env t Γ p.0 c.0 h) [
                  | inl e ↦ inl (e.0, e.1, e.3, p.2 ∙ ap L.pw e.2)
                  | inr e ↦ inr (ap B.wt p.2 ∙ sh.at_use p.0 c.0 h ∙ e)
                ]
            | no u ↦ inr (sh.between c.0 c.1 x c.2 u)
          ]

      end_res : (r x : ℕ) → tb.row r ≡ out x → (B.wt (L.pw (result r)) ≡ some (env x)) × (w : Wire) × (src tb (result r) ≡ some w)
      end_res r x h =
          let q : src tb (result r) ≡ some (wire_of tb x tb.size) = rw h in
          (sh.at_use (result r) (wire_of tb x tb.size) q ∙ end_result tb g env t Γ r x h, wire_of tb x tb.size, q)

      -- no node is ready
      pub node_quiet : (i : ℕ) → i < nodes' → net.node i (view2 net B i) ≡ none
      node_quiet i l = go (y.all_nodes i l)
        where
          in_none : (n : Role) → Real tb n → (k : Input) → in_tok B (net.input (L.num n) k) ≡ none
          in_none n rl k = go (src tb (into n k)) refl
            where
              go : (w : Option Wire) → src tb (into n k) ≡ w → in_tok B (net.input (L.num n) k) ≡ none
              go none h = ap (in_tok B) (L.ins n rl k ∙ ap (λ (z : Option Wire). wire_if z (L.pw (into n k))) h)
              go (some w) h = ap (in_tok B) (L.ins n rl k ∙ ap (λ (z : Option Wire). wire_if z (L.pw (into n k))) h) ∙ sh.at_use (into n k) w h ∙ end_node tb g env t Γ n k w h

          go : ((n : Role) × Real tb n × (i ≡ L.num n)) ⊎ ((w : Wire) × Made (plan tb) w × Among i (L.forks w)) → net.node i (view2 net B i) ≡ none
          go (inl c) =
              let n = c.0 in
              let rl = c.1 in
              ap (λ (j : ℕ). net.node j (view2 net B j)) c.2 ∙ L.does n rl (view2 net B (L.num n))
              ∙ quiet_run tb n (view2 net B (L.num n)) (sh.at_node n rl ∙ end_rec tb g env t Γ n rl) (in_none n rl in0) (in_none n rl in1) (in_none n rl in2)
          go (inr c) =
              let w = c.0 in
              let m = c.1 in
              let p = L.sp w m in
              fork_quiet net L.pw p.0 B (subst (λ (l : List ℕ). Once (L.ww w ∷ l)) (sym p.1) (L.tree_once w m))
              (λ z h k. sh.between w m z (subst (λ (l : List ℕ). Among z (L.ww w ∷ l)) p.1 h) k) i (subst (λ (l : List ℕ). Among i l) (sym p.2) c.2)

      pub rests : (st : List ℕ) → Rep nodes' net st B → Rests (fire net) st
      unfolding fire
      rests st R i =
          elim (dec_lt i nodes') [
            | yes l ↦
                let q : effect_at net i st ≡ none = ap (net.node i) (view_is nodes' net y.wired st B R i l) ∙ node_quiet i l in
                ap (Net.after net i st) q
            | no l ↦ ap (Net.after net i st) (none_there (net.node i (view net i st)) refl l)
          ]
        where
          none_there : (o : Option Effect) → net.node i (view net i st) ≡ o → (i < nodes' → ⊥) → net.node i (view net i st) ≡ none
          none_there none q n = q
          none_there (some e) q n = absurd (n (y.node_below_lem i (view net i st) e q))

      pub finished : (st : List ℕ) → Rep nodes' net st B → Finished env st
      finished st R =
          record {
            results = λ r x h. let e = end_res r x h in subst (λ (z : Option ℕ). Holds st (L.pw (result r)) z) e.0 (R.wire (L.pw (result r)) (in_W r x h));
            others = λ w l n. elim (end_wire w l) [ inl e ↦ absurd (n e.0 e.1 e.2 e.3) | inr e ↦ subst (λ (z : Option ℕ). Holds st w z) e (R.wire w l) ];
            recs = λ j l. R.record_of j l ∙ rec_rest j l;
          }
        where
          in_W : (r x : ℕ) → tb.row r ≡ out x → L.pw (result r) < net.wires
          in_W r x h =
              let e = end_res r x h in
              let u = L.users_full (result r) e.1 e.2 in
              y.wires_in e.1 u.1 (L.pw (result r)) (use_in_tree (plan tb) net L (result r) e.1 e.2)

          rec_rest : (j : ℕ) → j < nodes' → B.wr j ≡ rest
          rec_rest j l =
              elim (y.all_nodes j l) [
                | inl c ↦ ap B.wr c.2 ∙ sh.at_node c.0 c.1 ∙ end_rec tb g env t Γ c.0 c.1
                | inr c ↦ sh.at_fork c.0 c.1 j c.2
              ]
