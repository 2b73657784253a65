-- Where the reading meets a zero step, the lowered graph's STREAM of that loop waits with it, and the graph is not complete.
--
--   waiting                   an order that shows the reading at a FOR row with a zero step leaves the STREAM waiting
--   not_complete              a graph in which it waits is not complete: the wire of its step is full, and no result
--
-- Assumes nothing.
use Rattle.std.proofs.Math.Path.{◌≡◌, refl, ap}
use Rattle.std.proofs.Common.{sym, ◌∙◌, subst}
use Rattle.std.specs.Prelude.{Bool, not, ◌&&◌, ◌||◌, List, [], ◌∷◌, get_or}
use Rattle.std.proofs.Math.Bool.{true, false}
use Rattle.std.proofs.Math.Option.{Option, some}
use Prim.Native.Nat.{ℕ, zero, suc, ◌+◌, ◌≤◌, ◌<◌}
use native.Mathlib.Omega.{arith}
use borrow.Author.Tests.{ltb-true, eqb-true}
use Rattle.std.proofs.Math.Dec.{eqb}
use Rattle.word.specs.Words.{flag}
use Rattle.step.specs.Kinds.{Input, in0, in1, in2}
use Rattle.graph.specs.Below.{every_each, times, times_somewhere}
use Rattle.step.specs.Kept.{and_true}
use Rattle.graph.specs.Graph.{node_count, wire_count, input_at, result_count, result_at, results}
use Rattle.graph.specs.Refusal.{graph_refusal}
use Rattle.graph.specs.Accepted.{node_in_range}
use Rattle.state.specs.State.{full_place, word_place, token, token_at, is_empty}
use Rattle.state.specs.Run.{is_full, is_result, results_full, others_empty, phases_zero, complete}
use Rattle.confluence.specs.Graphs.{accepted_is_wired}
use Rattle.table.specs.Rows.{word, size}
use Rattle.table.specs.Scan.{reads}
use Rattle.table.specs.Bodies.{for}
use Rattle.structure.specs.Structure.{Structure}
use Rattle.lowered.specs.Roles.{stream, Wire, into, result}
use Rattle.lowered.specs.Lower.{stands_on, role_node, lowered_words}
use Rattle.laid.specs.Words.{result_at_lem}
use Rattle.uses.specs.Machine.{State}
use Rattle.uses.specs.Layout.{wire_if}
use Rattle.uses.specs.Flat.{Holds}
use Rattle.faithful.specs.Table.{Table, IsFor, wire_of, src}
use Rattle.faithful.specs.Good.{Good}
use Rattle.faithful.specs.Gamma.{Env, Gamma}
use Rattle.faithful.specs.Rows.{token_at_lem}
use Rattle.faithful.specs.Tables.{table_of}
use Rattle.faithful.proofs.Sound.{passing_is_good}
use Rattle.faithful.proofs.Places.{num, layout, laid, role_node_lem, first_of}
use Rattle.faithful.proofs.Order.{Shows}
use Rattle.faithful.specs.Endings.{result_row, holds_token_lem}
use Rattle.faithful.specs.Faults.{ZeroStepped}

module _ (t : List ℕ) (S : Structure t) (ok : graph_refusal (lowered_words t) ≡ 0) where
  abbrev tb : Table
  tb = table_of t

  abbrev g : List ℕ
  g = lowered_words t

  -- the wire on an input of a loop's STREAM
  stream_source : (L a st b u c : ℕ) → tb.row L ≡ for a st b u c → (k : Input) → (w : Wire) × (src tb (into (stream L) k) ≡ some w)
  stream_source L a st b u c q in0 = (wire_of tb a (reads t L), rw q)
  stream_source L a st b u c q in1 = (wire_of tb st (reads t L), rw q)
  stream_source L a st b u c q in2 = (wire_of tb b (reads t L), rw q)

  stream_input : (L a st b u c : ℕ) → tb.row L ≡ for a st b u c → (k : Input) → input_at g (num t S (stream L)) k ≡ some (stands_on t (into (stream L) k))
  unfolding layout
  stream_input L a st b u c q k =
      let s = stream_source L a st b u c q k in
      (layout t S).ins (stream L) (a, st, b, u, c, q) k ∙ ap (λ (z : Option Wire). wire_if z (stands_on t (into (stream L) k))) s.1

  pub waiting : (inputs : List ℕ) (L a st b u c : ℕ) → tb.row L ≡ for a st b u c → (env : Env) (there : State) → Gamma tb L env there → env st ≡ 0 → (x : Shows t S ok inputs there)
      → ZeroStepped g x.state (num t S (stream L))
  unfolding laid layout
  waiting inputs L a st b u c q env there G e x =
      record {
        node = role_node t (first_of t S (stream L)) (stream L);
        here = role_node_lem t S (stream L) isfor;
        is_stream_lem = refl;
        idle = x.flat.record_of (num t S (stream L)) below ∙ x.shown.at_node (stream L) isfor ∙ G.records_out (stream L) isfor (λ i. let k = good.for_first L isfor in let i0 = i.0 in omega arith);
        wire = λ k. stands_on t (into (stream L) k);
        wires = stream_input L a st b u c q;
        start = env a;
        bound = env b;
        has_start = stands in0 (env a) (token_at_lem tb good L env there G (into (stream L) in0) a (reads t L) (rw q));
        has_zero = stands in1 0 (token_at_lem tb good L env there G (into (stream L) in1) st (reads t L) (rw q) ∙ ap some e);
        has_bound = stands in2 (env b) (token_at_lem tb good L env there G (into (stream L) in2) b (reads t L) (rw q));
      }
    where
      isfor : IsFor tb L
      isfor = (a, st, b, u, c, q)

      good : Good tb
      good = passing_is_good t S

      below : num t S (stream L) < node_count g
      below = node_in_range g (num t S (stream L)) (role_node t (first_of t S (stream L)) (stream L)) (role_node_lem t S (stream L) isfor)

      stands : (k : Input) (v : ℕ) → there.tok (into (stream L) k) ≡ some v → token_at x.state (stands_on t (into (stream L) k)) ≡ some v
      stands k v h =
          let s = stream_source L a st b u c q k in
          let l = (accepted_is_wired g ok).input_below_lem (num t S (stream L)) k (stands_on t (into (stream L) k)) (stream_input L a st b u c q k) in
          holds_token_lem x.state (stands_on t (into (stream L) k)) v
          (subst (λ (z : Option ℕ). Holds x.state (stands_on t (into (stream L) k)) z) (x.shown.at_use (into (stream L) k) s.0 s.1 ∙ h) (x.flat.wire (stands_on t (into (stream L) k)) l))

  -- ---- not complete

  not_both : (b : Bool) → not b ≡ true → b ≡ true → ⊥
  not_both true h k = let z : ◌≡◌ {A = ℕ} 0 1 = cc in omega arith
  not_both false h k = let z : ◌≡◌ {A = ℕ} 0 1 = cc in omega arith

  full_wire : (s : List ℕ) (w x : ℕ) → token_at s w ≡ some x → is_full s w ≡ true
  full_wire s w x h = go (get_or s (full_place w) 0) h
    where
      go : (f : ℕ) → token f (get_or s (word_place w) 0) ≡ some x → not (is_empty f) ≡ true
      go zero k = let z : ◌≡◌ {A = ℕ} 0 1 = cc in absurd (omega arith)
      go (suc f) k = refl

  -- the wire of a STREAM's input is no result
  no_result : (L : ℕ) → IsFor tb L → (k : Input) → is_result g (stands_on t (into (stream L) k)) ≡ true → ⊥
  unfolding layout times
  no_result L f k h =
      let w = stands_on t (into (stream L) k) in
      let m = times_somewhere w (λ j. result_at g j ∷ []) (result_count g) (let z = ltb-true 0 (times w (results g (result_count g))) h in omega arith) in
      let e : w ≡ result_at g m.0 = one w (result_at g m.0) m.2 in
      let r = result_row t S ok m.0 m.1 in
      let s = stream_source L f.0 f.1 f.2 f.3 f.4 f.5 k in
      let q : src tb (result r.0) ≡ some (wire_of tb (word t r.0 1) (size t)) = rw r.2 in
      let d : into (stream L) k ≡ result r.0 = (layout t S).pw_inj (into (stream L) k) (result r.0) s.0 (wire_of tb (word t r.0 1) (size t)) s.1 q (e ∙ result_at_lem t m.0 r.0 r.1) in
      let z : ◌≡◌ {A = ℕ} 0 1 = cc in omega arith
    where
      one : (w x : ℕ) → 1 ≤ flag (eqb w x) + 0 → w ≡ x
      one w x l = go (eqb w x) refl l
        where
          go : (b : Bool) → eqb w x ≡ b → 1 ≤ flag b + 0 → w ≡ x
          go true e l = eqb-true w x e
          go false e l = absurd (omega arith)

  pub not_complete : (s : List ℕ) (L : ℕ) → IsFor tb L → ZeroStepped g s (num t S (stream L)) → complete g s ≡ false
  unfolding complete others_empty
  not_complete s L f Z = go (complete g s) refl
    where
      w : ℕ
      w = stands_on t (into (stream L) in1)

      same : Z.wire in1 ≡ w
      same = let a = Z.wires in1 in let b = stream_input L f.0 f.1 f.2 f.3 f.4 f.5 in1 in let c : some (Z.wire in1) ≡ some w = sym a ∙ b in cc

      go : (b : Bool) → complete g s ≡ b → b ≡ false
      go false e = refl
      go true e =
          let p = and_true (results_full g s) (others_empty g s && phases_zero g s) e in
          let o = and_true (others_empty g s) (phases_zero g s) p.1 in
          let l = (accepted_is_wired g ok).input_below_lem (num t S (stream L)) in1 w (stream_input L f.0 f.1 f.2 f.3 f.4 f.5 in1) in
          absurd (by (is_result g w) refl (every_each (λ x. is_result g x || not (is_full s x)) (wire_count g) o.0 w l))
        where
          by : (b : Bool) → is_result g w ≡ b → (b || not (is_full s w)) ≡ true → ⊥
          by true e k = no_result L f in1 e
          by false e k = not_both (is_full s w) k (full_wire s w 0 (ap (token_at s) (sym same) ∙ Z.has_zero))
