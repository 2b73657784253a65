-- The counts of a table's graph, as the code sums them, and whether they are in their limits.
-- Assumes nothing.
use Prim.Native.Nat.{ℕ, ◌+◌, ◌<◌, ◌≤◌}
use mathlib.Core.Path.{◌≡◌, refl, sym, ap, ap₂, ◌∙◌, subst}
use mathlib.Core.Bool.{Bool, true, false, cond, ◌&&◌, false≢true}
use mathlib.Core.List.{List}
use native.Mathlib.Omega.{arith}
use native.Mathlib.Decide.{dec_le}
use borrow.Author.Tests.{le-leb, lt-leb, leb-true}
use lib.Dec.{leb}
use lib.ListN.{get_or}
use Rattle.step.specs.Kept.{and_true as both}
use Rattle.graph.specs.Below.{joined}
use Rattle.table.specs.Rows.{size}
use Rattle.table.specs.Check.{answer}
use Rattle.structure.specs.Structure.{Structure}
use Rattle.lowered.specs.Lower.{plain_nodes, plain_wires, all_users, all_fork_nodes, all_fork_wires, node_total, wire_total, start_total, result_total}
use Rattle.lowered.specs.Room.{in_limits}
use Rattle.written.specs.Plain.{Laid, Outs}
use Rattle.written.specs.Numbers.{use_count}
use Rattle.forking.specs.Tallied.{Below, tallied_below}
use Rattle.forking.specs.Forked.{Freed}
use Rattle.forking.specs.Written.{row_inputs, row_outs, Scratch, uses_of, joined_long}
use Rattle.carrying.specs.Checked.{and_false, and_true}
use Rattle.measuring.specs.Ready.{starts_few, results_few, scratch_of, uses_of_lem, wires_added, wire_total_of, node_total_of, Ready, Measured}

-- ---- the limits

pub over_nodes : (n w : ℕ) → 4096 < n → false ≡ leb n 4096 && leb w 8192
over_nodes n w h = rw (lt-leb n 4096 h)

pub in_nodes : (n w : ℕ) → n ≤ 4096 → leb w 8192 ≡ leb n 4096 && leb w 8192
in_nodes n w h = rw (le-leb n 4096 h)

-- in the limits before forks
unfoldable with_forks : List ℕ → Bool
with_forks t = leb (plain_nodes t) 4096 && leb (plain_wires t) 8192

module _ (t : List ℕ) where
  -- forks only add
  no_room : with_forks t ≡ false → in_limits t ≡ false
  unfolding with_forks in_limits node_total wire_total
  no_room h = go (dec_le (plain_nodes t) 4096) (dec_le (plain_wires t) 8192)
    where
      go : Dec (plain_nodes t ≤ 4096) → Dec (plain_wires t ≤ 8192) → in_limits t ≡ false
      go (no a) d = rw (lt-leb (plain_nodes t + all_fork_nodes (all_users t)) 4096 (omega arith))
      go (yes a) (no b) = rw (lt-leb (plain_wires t + all_fork_wires (all_users t)) 8192 (omega arith)) (and_false (leb (plain_nodes t + all_fork_nodes (all_users t)) 4096))
      go (yes a) (yes b) = absurd (false≢true (sym h ∙ (rw (le-leb (plain_nodes t) 4096 a, le-leb (plain_wires t) 8192 b))))

  room : Structure t → leb (node_total t) 4096 && leb (wire_total t) 8192 ≡ in_limits t
  unfolding in_limits
  room S = rw (le-leb (start_total t) 512 (starts_few t S), le-leb (result_total t) 512 (results_few t S)) (ap (λ (b : Bool). leb (node_total t) 4096 && b) (sym (and_true (leb (wire_total t) 8192))))

module _ (t : List ℕ) {n w s r : ℕ} (en : n ≡ plain_nodes t) (ew : w ≡ plain_wires t) (es : s ≡ start_total t) (er : r ≡ result_total t) {b : Bool}
    (eb : b ≡ leb n 4096 && leb w 8192) where
  with_forks_lem : with_forks t ≡ b
  unfolding with_forks
  with_forks_lem = sym (eb ∙ ap₂ (λ (x y : ℕ). leb x 4096 && leb y 8192) en ew)

  -- over a limit before forks
  pub crowded : (rows outs uses free : List ℕ) → b ≡ false → Measured t rows outs uses free n w n w s r false
  crowded rows outs uses free f =
      record {
        room = sym (no_room t (with_forks_lem ∙ f));
        ready = λ q. absurd (false≢true q);
      }

  -- in the limits before forks
  pub few_nodes : b ≡ true → n ≤ 4096
  few_nodes h = leb-true n 4096 (both (leb n 4096) (leb w 8192) (sym eb ∙ h)).0

  pub few_wires : b ≡ true → w ≤ 8192
  few_wires h = leb-true w 8192 (both (leb n 4096) (leb w 8192) (sym eb ∙ h)).1

-- ---- the sums

module _ (t : List ℕ) (S : Structure t) (rows outs zeros uses free : List ℕ) (L : Laid t rows) (O : Outs t outs) (Z : Below 0 zeros)
    (few : plain_nodes t ≤ 4096) (wide : plain_wires t ≤ 8192) (made : uses ≡ uses_of rows (plain_nodes t) outs (result_total t) zeros) (more added : ℕ)
    (F : Freed uses (plain_wires t) free more added) where
  right : (w : ℕ) → w < 8192 → get_or uses w 0 ≡ use_count t w
  right w h = ap (λ (s : List ℕ). get_or s w 0) made ∙ uses_of_lem t S rows outs zeros L O Z w h

  small : Below 40000 uses
  unfolding uses_of
  small =
      let n = joined_long (row_inputs rows) 3 (λ j. refl) (plain_nodes t) in
      let m = joined_long (row_outs outs) 1 (λ j. refl) (result_total t) in
      let r = results_few t S in
      subst (λ (s : List ℕ). Below 40000 s) (sym made)
      (tallied_below _ (joined (row_outs outs) (result_total t)) (tallied_below {n = 20000} zeros (joined (row_inputs rows) (plain_nodes t)) Z (omega arith)) (omega arith))

  pub node_sum : plain_nodes t + more ≡ node_total t
  node_sum = ap (λ (n : ℕ). plain_nodes t + n) F.nodes ∙ sym (node_total_of t uses right S wide)

  pub wire_sum : plain_wires t + added ≡ wire_total t
  wire_sum = ap (λ (n : ℕ). plain_wires t + n) F.wires ∙ sym (wire_total_of t uses right S wide)

  pub ready : Ready t rows outs uses free
  ready =
      record {
        structure = S;
        laid = L;
        results = O;
        nodes_few = few;
        wires_few = wide;
        uses_small = small;
        free_small = F.small;
        uses_right = right;
        free_right = λ w h. F.free w h ∙ ap (λ (n : ℕ). plain_wires t + n) (wires_added t uses right w (omega arith));
      }

-- the same of the counts that the code has
module _ (t : List ℕ) (S : Structure t) (rows outs : List ℕ) {n w s r p q : ℕ} (en : n ≡ plain_nodes t) (ew : w ≡ plain_wires t) (es : s ≡ start_total t) (er : r ≡ result_total t)
    (D : plain_nodes t ≤ 4096 → Laid t rows × Outs t outs) (few : n ≤ 4096) (wide : w ≤ 8192) (ep : p ≡ n) (eq : q ≡ r) where
  L : Laid t rows
  L = (D (omega arith)).0

  O : Outs t outs
  O = (D (omega arith)).1

  pub scratch : Scratch rows p outs q w
  scratch = rw (ep ∙ en, eq ∙ er, ew) (scratch_of t S rows outs L O (omega arith) (omega arith))

  module _ (zeros uses free : List ℕ) (Z : Below 0 zeros) (made : uses ≡ uses_of rows p outs q zeros) {more added : ℕ} (F : Freed uses w free more added) where
    made' : uses ≡ uses_of rows (plain_nodes t) outs (result_total t) zeros
    made' = made ∙ ap₂ (λ (a b : ℕ). uses_of rows a outs b zeros) (ep ∙ en) (eq ∙ er)

    F' : Freed uses (plain_wires t) free more added
    F' = subst (λ (z : ℕ). Freed uses z free more added) ew F

    nodes_are : n + more ≡ node_total t
    nodes_are = ap (λ (z : ℕ). z + more) en ∙ node_sum t S rows outs zeros uses free L O Z (omega arith) (omega arith) made' more added F'

    wires_are : w + added ≡ wire_total t
    wires_are = ap (λ (z : ℕ). z + added) ew ∙ wire_sum t S rows outs zeros uses free L O Z (omega arith) (omega arith) made' more added F'

    pub measured : {fits : Bool} → fits ≡ leb (n + more) 4096 && leb (w + added) 8192 → Measured t rows outs uses free n w (n + more) (w + added) s r fits
    measured e =
        record {
          room = e ∙ ap₂ (λ (x y : ℕ). leb x 4096 && leb y 8192) nodes_are wires_are ∙ room t S;
          ready = λ q. (
            ready t S rows outs zeros uses free L O Z (omega arith) (omega arith) made' more added F',
            record { plain = en; plain_wires_lem = ew; nodes = nodes_are; wires = wires_are; starts = es; results = er },
          );
        }

-- ---- the answer

pub told_crowded : (t : List ℕ) {k r n : ℕ} → false ≡ in_limits t → k ≡ 10 → r ≡ n → n ≡ size t → answer k r ≡ cond (in_limits t) (answer 0 0) (answer 10 (size t))
told_crowded t e a b c = ap₂ answer a (b ∙ c) ∙ ap (λ (x : Bool). cond x (answer 0 0) (answer 10 (size t))) e

pub told_fitting : (t : List ℕ) → true ≡ in_limits t → answer 0 0 ≡ cond (in_limits t) (answer 0 0) (answer 10 (size t))
told_fitting t e = ap (λ (x : Bool). cond x (answer 0 0) (answer 10 (size t))) e
