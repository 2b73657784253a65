-- A step on what the row and the state show is the net's firing. Main results: `placed_within`, `stepped_is`, `ready_is`, `node_waits`, `node_fires`.
-- Idea: a row struct holds the wire on each place that the kind has, as the net does; so what is seen is the net's view, and the stores on the row's
-- wires are the net's stores.
-- Assumes nothing.
use Prim.Native.Nat.{ℕ, ◌+◌, ◌*◌, ◌<◌}
use mathlib.Core.Path.{◌≡◌, refl, sym, ap, ap₂, ◌∙◌}
use mathlib.Core.Bool.{Bool, true, false}
use mathlib.Core.List.{List, ◌++◌}
use mathlib.Core.Option.{Option, none, some}
use native.Mathlib.Omega.{arith}
use lib.Dec.{ltb}
use lib.ListN.{get_or}
use Rattle.std.specs.Prelude.{Option as Maybe, None, Some, is_some}
use Rattle.std.specs.Bool.{then_some}
use Rattle.word.specs.Words.{pick}
use Rattle.step.specs.Kinds.{Kind, kind_of, inputs, outputs, Input, in0, in1, in2, Output, out0, out1}
use Rattle.step.specs.Firing.{View, Effect}
use Rattle.step.specs.Machines.{step_by, step_of}
use Rattle.step.specs.Shown.{shown, view_of, effect_of, token_of, given}
use Rattle.step.specs.declared.Record.{Record}
use Rattle.step.specs.declared.Act.{Act}
use Rattle.step.specs.declared.Seen.{Seen}
use Rattle.lent.specs.Left.{left_by}
use Rattle.graph.specs.Graph.{Node, node_of, node_at, row_at, node_count, wire_count, row_place, column, input_of, output_of, input_at, output_at}
use Rattle.graph.proofs.Rows.{node_is_row}
use Rattle.state.specs.State.{Stores, stored, emptied, filled, kept, token_on, has_room, record_at}
use Rattle.state.specs.Net.{Net, view, effect_at, stores, after, fire, is_ready, or_else, step_at, net_of}
use Rattle.firing.specs.Acted.{InState, act_stores, Reads, Within, Sees, Placed}
use Rattle.firing.specs.declared.Row.{Row}

-- ---- ready or not, from what was worked out

shown_ready : (N : Net) (i : ℕ) (s : List ℕ) (f : Maybe Act) → is_some f ≡ is_ready (after N i s (shown f))
shown_ready N i s None = refl
shown_ready N i s (Some a) = refl

module _ (g : List ℕ) (i : ℕ) (s : List ℕ) (f : Maybe Act) (F : shown f ≡ effect_at (net_of g) i s) where
  pub ready_is : is_some f ≡ is_ready (fire (net_of g) i s)
  unfolding fire
  ready_is = shown_ready (net_of g) i s f ∙ ap (λ (o : Option Effect). is_ready (after (net_of g) i s o)) F

  pub node_waits : f ≡ None → (false ≡ is_ready (fire (net_of g) i s)) × (s ≡ or_else (fire (net_of g) i s) s)
  unfolding fire
  node_waits e =
      let q : effect_at (net_of g) i s ≡ none = sym F ∙ rw e in
      (sym (ap (λ (o : Option Effect). is_ready (after (net_of g) i s o)) q), sym (ap (λ (o : Option Effect). or_else (after (net_of g) i s o) s) q))

-- ---- a node, read from its words

told : (b : Bool) (w : ℕ) {t : Maybe ℕ} → t ≡ then_some b w → token_of t ≡ pick b (some w) none
told true w q = ap token_of q
told false w q = ap token_of q

module _ (o : Option Kind) (c s w0 w1 w2 f : ℕ) where
  read_in0 : input_of (node_of o c s w0 w1 w2 f) in0 ≡ pick (ltb 0 (column inputs o)) (some w0) none
  read_in0 = elim o as (λ k. input_of (node_of k c s w0 w1 w2 f) in0 ≡ pick (ltb 0 (column inputs k)) (some w0) none) [ none ↦ refl | some κ ↦ refl ]

  read_in1 : input_of (node_of o c s w0 w1 w2 f) in1 ≡ pick (ltb 1 (column inputs o)) (some w1) none
  read_in1 = elim o as (λ k. input_of (node_of k c s w0 w1 w2 f) in1 ≡ pick (ltb 1 (column inputs k)) (some w1) none) [ none ↦ refl | some κ ↦ refl ]

  read_in2 : input_of (node_of o c s w0 w1 w2 f) in2 ≡ pick (ltb 2 (column inputs o)) (some w2) none
  read_in2 = elim o as (λ k. input_of (node_of k c s w0 w1 w2 f) in2 ≡ pick (ltb 2 (column inputs k)) (some w2) none) [ none ↦ refl | some κ ↦ refl ]

  read_out0 : output_of (node_of o c s w0 w1 w2 f) out0 ≡ pick (ltb 0 (column outputs o)) (some f) none
  read_out0 = elim o as (λ k. output_of (node_of k c s w0 w1 w2 f) out0 ≡ pick (ltb 0 (column outputs k)) (some f) none) [ none ↦ refl | some κ ↦ ap (λ (w : ℕ). pick (ltb 0 (outputs κ)) (some w) none) (omega arith) ]

  read_out1 : output_of (node_of o c s w0 w1 w2 f) out1 ≡ pick (ltb 1 (column outputs o)) (some (f + 1)) none
  read_out1 = elim o as (λ k. output_of (node_of k c s w0 w1 w2 f) out1 ≡ pick (ltb 1 (column outputs k)) (some (f + 1)) none) [ none ↦ refl | some κ ↦ refl ]

  read_step : (v : View) → step_at (node_of o c s w0 w1 w2 f) v ≡ step_by o c v
  read_step v = elim o as (λ k. step_at (node_of k c s w0 w1 w2 f) v ≡ step_by k c v) [ none ↦ refl | some κ ↦ refl ]

-- the wire on a place, where the kind has the place
placed : (j : ℕ) {m n : ℕ} (w : ℕ) → m ≡ n → pick (ltb j m) (some w) none ≡ pick (ltb j n) (some w) none
placed j w e = rw e

wire_within : (w W n len : ℕ) → w < W → len ≡ 2 * W + 4 * n → 2 * w + 1 < len
wire_within w W n len h e = omega arith

in_state : (t : Maybe ℕ) (len : ℕ) → ((w : ℕ) → token_of t ≡ some w → 2 * w + 1 < len) → InState t len
in_state None len h = tt
in_state (Some w) len h = h w refl

module _ (g : List ℕ) (i : ℕ) (h : i < node_count g) {p : ℕ} (e : p ≡ row_place g i) where
  pub node_read : node_at g i ≡ node_of (kind_of (get_or g p 0)) (get_or g (p + 1) 0) (get_or g (p + 2) 0) (get_or g (p + 3) 0) (get_or g (p + 4) 0) (get_or g (p + 5) 0) (get_or g (p + 6) 0)
  unfolding row_at
  node_read = node_is_row g i h e

  pub reads_input0 : {m w : ℕ} {t : Maybe ℕ} → t ≡ then_some (ltb 0 m) w → m ≡ column inputs (kind_of (get_or g p 0)) → w ≡ get_or g (p + 3) 0 → token_of t ≡ input_at g i in0
  reads_input0 q em ew =
      told (ltb 0 _) _ q ∙ placed 0 _ em ∙ ap (λ (x : ℕ). pick (ltb 0 (column inputs (kind_of (get_or g p 0)))) (some x) none) ew
      ∙ sym (ap (λ (o : Option Node). input_of o in0) node_read ∙ read_in0 (kind_of (get_or g p 0)) _ _ (get_or g (p + 3) 0) _ _ _)

  pub reads_input1 : {m w : ℕ} {t : Maybe ℕ} → t ≡ then_some (ltb 1 m) w → m ≡ column inputs (kind_of (get_or g p 0)) → w ≡ get_or g (p + 4) 0 → token_of t ≡ input_at g i in1
  reads_input1 q em ew =
      told (ltb 1 _) _ q ∙ placed 1 _ em ∙ ap (λ (x : ℕ). pick (ltb 1 (column inputs (kind_of (get_or g p 0)))) (some x) none) ew
      ∙ sym (ap (λ (o : Option Node). input_of o in1) node_read ∙ read_in1 (kind_of (get_or g p 0)) _ _ _ (get_or g (p + 4) 0) _ _)

  pub reads_input2 : {m w : ℕ} {t : Maybe ℕ} → t ≡ then_some (ltb 2 m) w → m ≡ column inputs (kind_of (get_or g p 0)) → w ≡ get_or g (p + 5) 0 → token_of t ≡ input_at g i in2
  reads_input2 q em ew =
      told (ltb 2 _) _ q ∙ placed 2 _ em ∙ ap (λ (x : ℕ). pick (ltb 2 (column inputs (kind_of (get_or g p 0)))) (some x) none) ew
      ∙ sym (ap (λ (o : Option Node). input_of o in2) node_read ∙ read_in2 (kind_of (get_or g p 0)) _ _ _ _ (get_or g (p + 5) 0) _)

  pub reads_output0 : {m w : ℕ} {t : Maybe ℕ} → t ≡ then_some (ltb 0 m) w → m ≡ column outputs (kind_of (get_or g p 0)) → w ≡ get_or g (p + 6) 0 → token_of t ≡ output_at g i out0
  reads_output0 q em ew =
      told (ltb 0 _) _ q ∙ placed 0 _ em ∙ ap (λ (x : ℕ). pick (ltb 0 (column outputs (kind_of (get_or g p 0)))) (some x) none) ew
      ∙ sym (ap (λ (o : Option Node). output_of o out0) node_read ∙ read_out0 (kind_of (get_or g p 0)) _ _ _ _ _ (get_or g (p + 6) 0))

  pub reads_output1 : {m w : ℕ} {t : Maybe ℕ} → t ≡ then_some (ltb 1 m) (w + 1) → m ≡ column outputs (kind_of (get_or g p 0)) → w ≡ get_or g (p + 6) 0 → token_of t ≡ output_at g i out1
  reads_output1 q em ew =
      told (ltb 1 _) _ q ∙ placed 1 _ em ∙ ap (λ (x : ℕ). pick (ltb 1 (column outputs (kind_of (get_or g p 0)))) (some (x + 1)) none) ew
      ∙ sym (ap (λ (o : Option Node). output_of o out1) node_read ∙ read_out1 (kind_of (get_or g p 0)) _ _ _ _ _ (get_or g (p + 6) 0))

  step_read : (v : View) → step_at (node_at g i) v ≡ step_of (get_or g p 0) (get_or g (p + 1) 0) v
  step_read v = ap (λ (o : Option Node). step_at o v) node_read ∙ read_step (kind_of (get_or g p 0)) (get_or g (p + 1) 0) _ _ _ _ _ v

-- ---- what was seen is the net's view, what was stepped is its effect, and what was stored is the net's

module _ (g : List ℕ) (i : ℕ) (r : Row) (R : Reads g i r) (len : ℕ) (P : Placed g i len) where
  in_there : (k : Input) (t : Maybe ℕ) → token_of t ≡ input_at g i k → InState t len
  in_there k t e = in_state t len (λ w q. wire_within w (wire_count g) (node_count g) len (P.ins k w (sym e ∙ q)) P.size)

  out_there : (k : Output) (t : Maybe ℕ) → token_of t ≡ output_at g i k → InState t len
  out_there k t e = in_state t len (λ w q. wire_within w (wire_count g) (node_count g) len (P.outs k w (sym e ∙ q)) P.size)

  pub placed_within : Within r len
  placed_within =
      record {
        input0 = in_there in0 (get_or r.inputs 0 None) R.input0;
        input1 = in_there in1 (get_or r.inputs 1 None) R.input1;
        input2 = in_there in2 (get_or r.inputs 2 None) R.input2;
        output0 = out_there out0 (get_or r.outputs 0 None) R.output0;
        output1 = out_there out1 (get_or r.outputs 1 None) R.output1;
      }

  module _ (s : List ℕ) (W : ℕ) (eW : W ≡ wire_count g) (v : Seen) (own : Record) (S : Sees s r v) (O : own ≡ record_at W s i) where
    view_is : view_of v own ≡ view (net_of g) i s
    view_is =
        λ d. record {
          word0 = (S.input0 ∙ ap (token_on s) R.input0) d;
          word1 = (S.input1 ∙ ap (token_on s) R.input1) d;
          word2 = (S.input2 ∙ ap (token_on s) R.input2) d;
          room0 = (S.output0 ∙ ap (has_room s) R.output0) d;
          room1 = (S.output1 ∙ ap (has_room s) R.output1) d;
          own = (O ∙ ap (λ (n : ℕ). record_at n s i) eW) d;
        }

    pub stepped_is : step_of r.kind r.code (view_of v own) ≡ effect_at (net_of g) i s
    stepped_is =
        ap₂ (λ (k c : ℕ). step_of k c (view_of v own)) R.kind R.code
        ∙ ap (step_of (get_or g (row_place g i) 0) (get_or g (row_place g i + 1) 0)) view_is
        ∙ sym (step_read g i P.node refl (view (net_of g) i s))

  module _ (s : List ℕ) (f : Maybe Act) (F : shown f ≡ effect_at (net_of g) i s) (a : Act) (e : f ≡ Some a) where
    fires : effect_at (net_of g) i s ≡ some (effect_of a)
    fires = sym F ∙ rw e

    -- the record left is the effect's
    left_next : (q own : Record) → q ≡ left_by (effect_at (net_of g) i s) own → q ≡ a.next
    left_next q own e = e ∙ ap (λ (o : Option Effect). left_by o own) fires

    same_stores : (W : ℕ) → W ≡ wire_count g → (q : Record) → q ≡ a.next → act_stores r a q W i ≡ stores (net_of g) i (effect_of a)
    same_stores W eW q eq =
        six (ap₂ (λ (n : ℕ) (p : Record). kept n i p) eW eq)
        (ap (λ (o : Option ℕ). emptied o (get_or a.takes 0 false)) R.input0)
        (ap (λ (o : Option ℕ). emptied o (get_or a.takes 1 false)) R.input1)
        (ap (λ (o : Option ℕ). emptied o (get_or a.takes 2 false)) R.input2)
        (ap (λ (o : Option ℕ). filled o (given a.gives 0)) R.output0)
        (ap (λ (o : Option ℕ). filled o (given a.gives 1)) R.output1)
      where
        six : {x0 y0 x1 y1 x2 y2 x3 y3 x4 y4 x5 y5 : Stores} → x5 ≡ y5 → x0 ≡ y0 → x1 ≡ y1 → x2 ≡ y2 → x3 ≡ y3 → x4 ≡ y4
            → x0 ++ (x1 ++ (x2 ++ (x3 ++ (x4 ++ x5)))) ≡ y0 ++ (y1 ++ (y2 ++ (y3 ++ (y4 ++ y5))))
        six z a b c d e = rw (a, b, c, d, e, z)

    pub node_fires : (W : ℕ) → W ≡ wire_count g → (q own : Record) → q ≡ left_by (effect_at (net_of g) i s) own → (t : List ℕ) → t ≡ stored (act_stores r a q W i) s
        → (true ≡ is_ready (fire (net_of g) i s)) × (t ≡ or_else (fire (net_of g) i s) s)
    unfolding fire
    node_fires W eW q own eq t e = (
      sym (ap (λ (o : Option Effect). is_ready (after (net_of g) i s o)) fires),
      e ∙ ap (λ (x : Stores). stored x s) (same_stores W eW q (left_next q own eq)) ∙ sym (ap (λ (o : Option Effect). or_else (after (net_of g) i s o) s) fires),
    )
