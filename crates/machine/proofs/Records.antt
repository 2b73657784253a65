-- Legal records by cases, as the code's arms find them.
-- Assumes nothing.
use Prim.Native.Nat.{ℕ, ◌+◌, ◌*◌, ◌<◌}
use mathlib.Core.Path.{◌≡◌, refl, sym, ap, ap₂, ◌∙◌}
use mathlib.Core.List.{List}
use mathlib.Core.Option.{Option, none, some}
use mathlib.Core.Bool.{Bool, true, false, not, ◌&&◌}
use borrow.Author.Tests.{lt-ltb}
use lib.Dec.{eqb}
use Rattle.word.specs.Words.{word_limit}
use lib.ListN.{get_or}
use Rattle.step.specs.Kinds.{Kind, kind_of}
use Rattle.step.specs.Kept.{fits, legal_stream}
use Rattle.step.specs.declared.Record.{Record}
use Rattle.graph.specs.Graph.{Node, node_of, node_count, wire_count, row_place, sort_at}
use Rattle.state.specs.State.{record_at}
use Rattle.state.specs.Legal.{legal_token, legal_kind, legal_for, legal_wire, legal_node}
use Rattle.firing.specs.Acted.{Reads}
use Rattle.firing.specs.declared.Row.{Row}
use Rattle.firing.proofs.Fired.{node_read}

-- words of a state are below 2^32, so of a STREAM in phase 1 only its step has to be looked at
pub stream_held_lem : (a b c : ℕ) → a < word_limit → b < word_limit → c < word_limit → not (eqb b 0) ≡ legal_stream 1 a b c
stream_held_lem a b c ha hb hc =
    kept (not (eqb b 0)) ∙ sym (ap (λ (x : Bool). x && ((not (eqb b 0) && fits 0 b) && fits 0 c)) (lt-ltb a word_limit ha)
    ∙ ap (λ (x : Bool). (not (eqb b 0) && x) && fits 0 c) (lt-ltb b word_limit hb)
    ∙ ap (λ (x : Bool). (not (eqb b 0) && true) && x) (lt-ltb c word_limit hc))
  where
    kept : (t : Bool) → t ≡ (t && true) && true
    kept true = refl
    kept false = refl

-- ---- a wire and a node of a state

pub wire_legal_is : (g s : List ℕ) (w sort : ℕ) {r : Bool} → sort ≡ sort_at g w → r ≡ legal_token sort (get_or s (2 * w) 0) (get_or s (2 * w + 1) 0) → r ≡ legal_wire g s w
unfolding legal_wire
wire_legal_is g s w sort e h = h ∙ ap (λ (x : ℕ). legal_token x (get_or s (2 * w) 0) (get_or s (2 * w + 1) 0)) e

node_legal_of : (o : Option Kind) (c s w0 w1 w2 f : ℕ) (r : Record) → legal_kind o s r ≡ legal_for (node_of o c s w0 w1 w2 f) r
node_legal_of none c s w0 w1 w2 f r = refl
node_legal_of (some κ) c s w0 w1 w2 f r = refl

pub node_legal_is : (g s : List ℕ) (i : ℕ) → i < node_count g → (row : Row) → Reads g i row → (W : ℕ) → W ≡ wire_count g
    → {own : Record} → own ≡ record_at W s i → {b : Bool} → b ≡ legal_kind (kind_of row.kind) row.sort own → b ≡ legal_node g s i
unfolding legal_node
node_legal_is g s i h row R W eW {own = own} O B =
    B ∙ ap₂ (λ (k t : ℕ). legal_kind (kind_of k) t own) R.kind R.sort
    ∙ node_legal_of (kind_of (get_or g (row_place g i) 0)) (get_or g (row_place g i + 1) 0) (get_or g (row_place g i + 2) 0) (get_or g (row_place g i + 3) 0)
    (get_or g (row_place g i + 4) 0) (get_or g (row_place g i + 5) 0) (get_or g (row_place g i + 6) 0) own
    ∙ ap₂ (λ (o : Option Node) (r : Record). legal_for o r) (sym (node_read g i h refl)) (O ∙ ap (λ (n : ℕ). record_at n s i) eW)
