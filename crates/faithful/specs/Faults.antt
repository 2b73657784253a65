-- A STREAM that waits with a zero step waits for ever: on any accepted graph.
--
--   ZeroStepped               node i is a STREAM at rest with its three tokens, and its step is 0
--   zero_step_stays           no firing changes that
--   zero_step_lasts           so no list of firings does
--   ZeroStepNamed             a node waits so, and the answer is ZERO STEP and names the lowest STREAM that does
--   answers_zero_step         so it is at rest, if the graph is not complete
--
-- Assumes nothing.
use Rattle.std.specs.Prelude.{◌≡◌, refl, ◌≢◌, Bool, true, false, ℕ, zero, suc, ◌+◌, ◌≤◌, ◌<◌, get_or}
use Rattle.std.proofs.Common.{sym, ◌∙◌, subst, arith, lt-ltb}
use Rattle.std.proofs.Math.Path.{ap, ap₂}
use Rattle.std.proofs.Math.Option.{Option, none, some}
use mathlib.Core.List.{List, [], ◌∷◌}
use Rattle.std.proofs.Math.Decide.{ℕ_discrete}
use Rattle.step.specs.Kinds.{STREAM, Input, in0, in1, in2}
use Rattle.step.specs.Firing.{Effect, View}
use Rattle.step.specs.Machines.{rest, step}
use Rattle.step.specs.Locality.{Local}
use Rattle.step.specs.declared.Record.{Record}
use Rattle.graph.specs.Graph.{Node, node_at, node_count, wire_count, input_at}
use Rattle.graph.specs.Refusal.{graph_refusal}
use Rattle.state.specs.State.{full_place, word_place, token, token_at, token_on, is_empty, record_at, stored}
use Rattle.state.specs.Net.{Net, net_of, view, effect_at, step_at, stores, fire}
use Rattle.state.specs.Run.{is_stream, complete, zero_step_at, first_from, zero_step, ZERO-STEP, Outcome, outcome}
use Rattle.confluence.specs.Orders.{Rests, fires_first, fires_end}
use Rattle.confluence.specs.Wired.{Wired, effect_of, given_empty}
use Rattle.confluence.specs.Update.{Touch, takes_it, gives_it, leaves_it, touch, still_after, own_after}
use Rattle.confluence.specs.Graphs.{nodes_are_local, accepted_is_wired, none_ready_if_rests}
use Rattle.confluence.specs.Statements.{Fires}

pub record ZeroStepped (g s : List ℕ) (i : ℕ) : Type 0 where
  pub node : Node
  pub here : node_at g i ≡ some node
  pub is_stream_lem : node.kind ≡ STREAM
  pub idle : record_at (wire_count g) s i ≡ rest
  -- the wires and the words of start and bound, and the wire of the step
  pub wire : Input → ℕ
  pub wires : (k : Input) → input_at g i k ≡ some (wire k)
  pub start : ℕ
  pub bound : ℕ
  pub has_start : token_at s (wire in0) ≡ some start
  pub has_zero : token_at s (wire in1) ≡ some 0
  pub has_bound : token_at s (wire in2) ≡ some bound

-- a wire's token from its two words
token_of : ℕ × ℕ → Option ℕ
token_of x = token x.0 x.1

module _ (g : List ℕ) (ok : graph_refusal g ≡ 0) where
  -- it is not ready
  never_ready : (s : List ℕ) (i : ℕ) → ZeroStepped g s i → effect_at (net_of g) i s ≡ none
  unfolding step
  never_ready s i Z =
      ap₂ (λ (o : Option Node) (v : View). step_at o v) Z.here seen ∙ by_kind Z.is_stream_lem
    where
      sees : View
      sees =
          record {
            word0 = some Z.start;
            word1 = some 0;
            word2 = some Z.bound;
            room0 = (view (net_of g) i s).room0;
            room1 = (view (net_of g) i s).room1;
            own = rest;
          }

      seen : view (net_of g) i s ≡ sees
      seen =
          let a = ap (token_on s) (Z.wires in0) ∙ Z.has_start in
          let b = ap (token_on s) (Z.wires in1) ∙ Z.has_zero in
          let c = ap (token_on s) (Z.wires in2) ∙ Z.has_bound in
          let d = Z.idle in
          λ i'. record { word0 = a i'; word1 = b i'; word2 = c i'; room0 = (view (net_of g) i s).room0; room1 = (view (net_of g) i s).room1; own = d i' }

      by_kind : Z.node.kind ≡ STREAM → step Z.node.kind Z.node.code sees ≡ none
      by_kind e = rw e

  pub zero_step_stays : (s a : List ℕ) (i j : ℕ) → ZeroStepped g s i → fire (net_of g) j s ≡ some a → ZeroStepped g a i
  unfolding token_of
  zero_step_stays s a i j Z f =
      record {
        node = Z.node;
        here = Z.here;
        is_stream_lem = Z.is_stream_lem;
        idle = ap (λ (z : List ℕ). record_at (wire_count g) z i) (sym E.2) ∙ own_after N local wired j s E.0 E.1 i (λ d. other (sym d)) ∙ Z.idle;
        wire = Z.wire;
        wires = Z.wires;
        start = Z.start;
        bound = Z.bound;
        has_start = still in0 Z.start Z.has_start;
        has_zero = still in1 0 Z.has_zero;
        has_bound = still in2 Z.bound Z.has_bound;
      }
    where
      N : Net
      N = net_of g

      local : (i : ℕ) → Local ((net_of g).node i)
      local = nodes_are_local g

      wired : Wired (net_of g)
      wired = accepted_is_wired g ok

      E : (e : Effect) × (effect_at (net_of g) j s ≡ some e) × (stored (stores (net_of g) j e) s ≡ a)
      E = effect_of (net_of g) j s a f

      other : j ≢ i
      other d = let n = never_ready s i Z in let e : effect_at N i s ≡ some E.0 = ap (λ (z : ℕ). effect_at N z s) (sym d) ∙ E.1 in let z : ◌≡◌ {A = ℕ} 0 1 = cc in omega arith

      full_not_empty : (f x y : ℕ) → token f x ≡ some y → is_empty f ≡ true → ⊥
      full_not_empty zero x y h k = let z : ◌≡◌ {A = ℕ} 0 1 = cc in omega arith
      full_not_empty (suc f) x y h k = let z : ◌≡◌ {A = ℕ} 0 1 = cc in omega arith

      still : (k : Input) (x : ℕ) → token_at s (Z.wire k) ≡ some x → token_at a (Z.wire k) ≡ some x
      still k x h = go (touch N j E.0 (Z.wire k))
        where
          go : Touch N j E.0 (Z.wire k) → token_at a (Z.wire k) ≡ some x
          go (takes_it l p q) = absurd (other (wired.one_reader j i l k (Z.wire k) p (Z.wires k)).0)
          go (gives_it l y p q) = absurd (full_not_empty (get_or s (full_place (Z.wire k)) 0) (get_or s (word_place (Z.wire k)) 0) x h (given_empty N local wired j s E.0 E.1 l (Z.wire k) y p q))
          go (leaves_it un) =
              ap (λ (z : List ℕ). token_at z (Z.wire k)) (sym E.2)
              ∙ ap token_of (still_after N local wired j s E.0 E.1 (Z.wire k) (wired.input_below_lem i k (Z.wire k) (Z.wires k)) un) ∙ h

  pub zero_step_lasts : (order s u : List ℕ) (i : ℕ) → ZeroStepped g s i → Fires g order s u → ZeroStepped g u i
  zero_step_lasts [] s u i Z f = subst (λ (z : List ℕ). ZeroStepped g z i) (fires_end (fire (net_of g)) s u f) Z
  zero_step_lasts (j ∷ order) s u i Z f =
      let x = fires_first (fire (net_of g)) j order s u f in
      zero_step_lasts order x.0 u i (zero_step_stays s x.0 i j Z x.1) x.2

-- ---- the answer

-- the number found passes the test, if one below the bound does, and none lower passes it
first_passes : (test : ℕ → Bool) (m from : ℕ) → first_from m from test < from + m → test (first_from m from test) ≡ true
unfolding first_from
first_passes test zero from l = absurd (omega arith)
first_passes test (suc m) from l = go (test from) refl l (λ k. first_passes test m (from + 1) k)
  where
    go : (c : Bool) → test from ≡ c → (elim c [ true ↦ from | false ↦ first_from m (from + 1) test ]) < from + suc m
        → (first_from m (from + 1) test < from + 1 + m → test (first_from m (from + 1) test) ≡ true) → test (elim c [ true ↦ from | false ↦ first_from m (from + 1) test ]) ≡ true
    go true e l ih = e
    go false e l ih = ih (omega arith)

first_lowest : (test : ℕ → Bool) (m from i : ℕ) → from ≤ i → test i ≡ true → first_from m from test ≤ i
unfolding first_from
first_lowest test zero from i a h = a
first_lowest test (suc m) from i a h = go (test from) refl (λ l. first_lowest test m (from + 1) i l h)
  where
    go : (c : Bool) → test from ≡ c → (from + 1 ≤ i → first_from m (from + 1) test ≤ i) → (elim c [ true ↦ from | false ↦ first_from m (from + 1) test ]) ≤ i
    go true e ih = a
    go false e ih =
        elim (ℕ_discrete from i) [
          | yes d ↦ (let z : test i ≡ false = ap test (sym d) ∙ e in let z : ◌≡◌ {A = ℕ} 0 1 = cc in absurd (omega arith))
          | no d ↦ ih (omega arith)
        ]

pub zero_step_seen : (g s : List ℕ) (i : ℕ) → ZeroStepped g s i → zero_step_at g s i ≡ true
unfolding zero_step_at
zero_step_seen g s i Z =
    let a = ap (token_on s) (Z.wires in0) ∙ Z.has_start in
    let b = ap (token_on s) (Z.wires in1) ∙ Z.has_zero in
    let c = ap (token_on s) (Z.wires in2) ∙ Z.has_bound in
    let d : (record_at (wire_count g) s i).phase ≡ 0 = ap (λ (r : Record). r.phase) Z.idle in
    rw (stream, d, a, b, c)
  where
    stream : is_stream (node_at g i) ≡ true
    stream = ap is_stream Z.here ∙ rw Z.is_stream_lem

-- Node i waits so, and o is ZERO STEP and names the lowest node that the run's rule finds: a STREAM in phase 0 that has its three tokens, and
-- its step is 0.
pub record ZeroStepNamed (g s : List ℕ) (i : ℕ) (o : Outcome) : Type 0 where
  pub waits : ZeroStepped g s i
  pub answer : o.answer ≡ ZERO-STEP
  pub named : zero_step_at g s o.node ≡ true
  pub lowest : (j : ℕ) → zero_step_at g s j ≡ true → o.node ≤ j
  pub at_most : o.node ≤ i

pub answers_zero_step : (g s : List ℕ) (i : ℕ) → i < node_count g → ZeroStepped g s i → Rests (fire (net_of g)) s → complete g s ≡ false → ZeroStepNamed g s i (outcome g s)
unfolding outcome
answers_zero_step g s i l Z h c =
    let low : (j : ℕ) → zero_step_at g s j ≡ true → zero_step g s ≤ j = λ j e. first_lowest (zero_step_at g s) (node_count g) 0 j (omega arith) e in
    let f : zero_step g s ≤ i = low i (zero_step_seen g s i Z) in
    subst (ZeroStepNamed g s i) (sym (rw (none_ready_if_rests g s h, c, lt-ltb (zero_step g s) (node_count g) (omega arith))))
    (record {
      waits = Z;
      answer = refl;
      named = first_passes (zero_step_at g s) (node_count g) 0 (let z : zero_step g s < 0 + node_count g = omega arith in z);
      lowest = low;
      at_most = f;
    })
