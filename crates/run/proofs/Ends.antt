-- What the answer asks of a state, and the answers of a run, path by path.
-- Assumes nothing.
use Prim.Native.Nat.{ℕ, zero, suc, ◌+◌, ◌-◌, ◌*◌, ◌<◌, ◌≤◌}
use mathlib.Core.Path.{◌≡◌, refl, sym, ap, ◌∙◌, subst}
use mathlib.Core.Bool.{Bool, true, false, not, ◌&&◌, ◌||◌}
use mathlib.Core.List.{List}
use mathlib.Core.Option.{Option, none, some}
use native.Mathlib.Omega.{arith}
use borrow.Author.Tests.{eq-eqb, ne_eqb, lt-ltb, le-ltb, ltb-true}
use lib.Dec.{eqb, ltb}
use lib.ListN.{get_or, length, replicate, length-replicate, get_or-replicate}
use Rattle.word.specs.Words.{pick}
use Rattle.step.specs.Kinds.{Kind, kind_of, STREAM}
use Rattle.step.specs.Named.{named}
use Rattle.step.specs.declared.Kind.{Kind as Code}
use Rattle.step.specs.declared.Kind.TheVariants.{Stream, Gate, Carry, Invariant, Split, Fork, Drain, Op, Pick}
use Rattle.step.specs.contracts.Kind.{the_type}
use denote.Enum.Declared.{tag_of}
use Rattle.step.specs.Shown.{token_of, given}
use Rattle.step.specs.declared.Seen.{Seen}
use Rattle.std.specs.Prelude.{Option as Maybe, None, Some, is_some, Result, Ok, Err}
use Rattle.std.specs.Option.{unwrap_or}
use Rattle.refusal.specs.Numbers.{number_of, answer_number}
use Rattle.refusal.specs.declared.Refusal.{Refusal}
use Rattle.refusal.specs.declared.Refusal.TheVariants.{Order}
use Rattle.step.specs.declared.Record.{Record}
use Rattle.graph.specs.Below.{every, every_each, times}
use Rattle.graph.specs.Counted.{counted, up_to_two, counted_at}
use Rattle.graph.specs.Graph.{node_of, node_at, node_count, wire_count, result_count, result_at, results, row_place}
use Rattle.state.specs.State.{record_at, token_on, is_empty}
use Rattle.state.specs.Net.{net_of}
use Rattle.state.specs.Run.{At, run, follow, finish, SPENT, COMPLETE, ZERO-STEP, STRANDED, Outcome, outcome, any_ready, complete, results_full, others_empty, phases_zero, is_full, is_result, is_stream, holds_token, holds_zero, zero_step_at, first_from, zero_step}
use Rattle.machine.specs.Entries.{first, refusal_is, state_refusal}
use Rattle.machine.proofs.Answers.{skips, stops, not_zero}
use Rattle.firing.specs.Acted.{Reads, Sees}
use Rattle.firing.specs.declared.Row.{Row}
use Rattle.firing.proofs.Fired.{node_read}
use Rattle.run.specs.Entry.{at, order_below, run_refusal, run_at, run_state, run_firings, ran_by, run_answer, Below, idle, other_empty, at_rest}
use Rattle.run.specs.Numbers.{RunAnswer, run_answers}
use Rattle.run.specs.declared.Ran.{Ran}
use Rattle.run.specs.declared.Ran.TheVariants.{Spent, Complete, ZeroStep, Stranded}

pub true_not_false : ◌≡◌ {A = Bool} true false → ⊥
true_not_false e = let z : ◌≡◌ {A = ℕ} 0 1 = cc in omega arith

pub not_is : {r t : Bool} → r ≡ t → r ≡ true → not t ≡ false
not_is e h = ap not (sym e ∙ h)

pub not_isnt : {r t : Bool} → r ≡ t → r ≡ false → not t ≡ true
not_isnt e h = ap not (sym e ∙ h)

-- ---- results

module _ (g s : List ℕ) (k : ℕ) {w v : ℕ} (ew : w ≡ result_at g k) (ev : v ≡ w) {b : Bool} (e : b ≡ is_empty (get_or s (2 * v) 0)) where
  mark_is : is_empty (get_or s (2 * result_at g k) 0) ≡ b
  mark_is = ap (λ (x : ℕ). is_empty (get_or s (2 * x) 0)) (sym (ev ∙ ew)) ∙ sym e

  pub result_empty : b ≡ true → is_full s (result_at g k) ≡ false
  result_empty t = ap not (mark_is ∙ t)

  pub result_full : b ≡ false → is_full s (result_at g k) ≡ true
  result_full t = ap not (mark_is ∙ t)

-- ---- wires that are no results

counted_none : (t : ℕ) → ltb 0 (up_to_two t) ≡ ltb 0 t
counted_none zero = refl
counted_none (suc zero) = refl
counted_none (suc (suc t)) = sym (lt-ltb 0 (suc (suc t)) (omega arith))

pub marks_result : (g : List ℕ) (w n : ℕ) {m : ℕ} → w < n → m ≡ get_or (counted (replicate n 0) (results g (result_count g))) w 0 → ltb 0 m ≡ is_result g w
marks_result g w n h e =
    let zeros : List ℕ = replicate n 0 in
    let there : w < length zeros = subst (λ (k : ℕ). w < k) (sym (length-replicate {A = ℕ} n 0)) h in
    let none : 0 + times w (results g (result_count g)) ≡ times w (results g (result_count g)) = omega arith in
    ap (ltb 0) (e ∙ counted_at (results g (result_count g)) zeros w 0 there (get_or-replicate n w 0 0 h) ∙ ap up_to_two none)
    ∙ counted_none (times w (results g (result_count g)))

pub other_is : (g s : List ℕ) (w : ℕ) → w < 8192 → {marks : List ℕ} → marks ≡ counted (replicate 8192 0) (results g (result_count g))
    → {b : Bool} → b ≡ (ltb 0 (get_or marks w 0) || not (is_full s w)) → b ≡ other_empty g s w
other_is g s w h e B =
    B ∙ ap (λ (x : Bool). x || not (is_full s w)) (marks_result g w 8192 h (ap (λ (l : List ℕ). get_or l w 0) e))

-- ---- phases

module _ (g s : List ℕ) (i : ℕ) {W : ℕ} (e : W ≡ wire_count g) where
  pub phase_zero : get_or s (2 * W + 4 * i) 0 ≡ 0 → at_rest g s i ≡ true
  phase_zero h = eq-eqb _ 0 (ap (λ (n : ℕ). get_or s (2 * n + 4 * i) 0) (sym e) ∙ h)

  pub phase_not : (get_or s (2 * W + 4 * i) 0 ≡ 0 → ⊥) → at_rest g s i ≡ false
  phase_not h = ne_eqb _ 0 (λ z. h (ap (λ (n : ℕ). get_or s (2 * n + 4 * i) 0) e ∙ z))

-- ---- a stalled STREAM

pub holds_token_lem : (t : Maybe ℕ) → holds_token (token_of t) ≡ is_some t
holds_token_lem None = refl
holds_token_lem (Some x) = refl

-- whatever word stands for one that is not there
pub holds_zero_lem : (t : Maybe ℕ) (x : ℕ) → holds_zero (token_of t) ≡ is_some t && eqb (unwrap_or t x) 0
holds_zero_lem None x = refl
holds_zero_lem (Some w) x = refl

-- only the first kind is a STREAM, and what is no kind is none
pub not_stream : {o : Option Kind} (κ : Code) → (tag_of the_type κ ≡ 0 → ⊥) → some (named κ) ≡ o → (c s w0 w1 w2 f : ℕ) → is_stream (node_of o c s w0 w1 w2 f) ≡ false
not_stream Stream h e c s w0 w1 w2 f = absurd (h refl)
not_stream Gate h e c s w0 w1 w2 f = rw (← e)
not_stream Carry h e c s w0 w1 w2 f = rw (← e)
not_stream Invariant h e c s w0 w1 w2 f = rw (← e)
not_stream Split h e c s w0 w1 w2 f = rw (← e)
not_stream Fork h e c s w0 w1 w2 f = rw (← e)
not_stream Drain h e c s w0 w1 w2 f = rw (← e)
not_stream Op h e c s w0 w1 w2 f = rw (← e)
not_stream Pick h e c s w0 w1 w2 f = rw (← e)

pub no_kind_no_stream : {o : Option Kind} → none ≡ o → (c s w0 w1 w2 f : ℕ) → is_stream (node_of o c s w0 w1 w2 f) ≡ false
no_kind_no_stream e c s w0 w1 w2 f = rw (← e)

module _ (g s : List ℕ) (i : ℕ) (h : i < node_count g) (r : Row) (R : Reads g i r) where
  abbrev p : ℕ
  p = row_place g i

  stream_read : is_stream (node_at g i) ≡ is_stream (node_of (kind_of r.kind) (get_or g (p + 1) 0) (get_or g (p + 2) 0) (get_or g (p + 3) 0) (get_or g (p + 4) 0) (get_or g (p + 5) 0) (get_or g (p + 6) 0))
  stream_read =
      ap is_stream (node_read g i h refl)
      ∙ ap (λ (k : ℕ). is_stream (node_of (kind_of k) (get_or g (p + 1) 0) (get_or g (p + 2) 0) (get_or g (p + 3) 0) (get_or g (p + 4) 0) (get_or g (p + 5) 0) (get_or g (p + 6) 0))) (sym R.kind)

  pub other_kind : is_stream (node_of (kind_of r.kind) (get_or g (p + 1) 0) (get_or g (p + 2) 0) (get_or g (p + 3) 0) (get_or g (p + 4) 0) (get_or g (p + 5) 0) (get_or g (p + 6) 0)) ≡ false → false ≡ zero_step_at g s i
  unfolding zero_step_at
  other_kind n = sym (rw (stream_read ∙ n))

  is_stream_lem : kind_of r.kind ≡ some STREAM → is_stream (node_at g i) ≡ true
  is_stream_lem e = stream_read ∙ rw e

  module _ (W : ℕ) (eW : W ≡ wire_count g) {own : Record} (O : own ≡ record_at W s i) where
    phase_is : own.phase ≡ (record_at (wire_count g) s i).phase
    phase_is = ap (λ (q : Record). q.phase) (O ∙ ap (λ (n : ℕ). record_at n s i) eW)

    pub other_phase : kind_of r.kind ≡ some STREAM → (own.phase ≡ 0 → ⊥) → false ≡ zero_step_at g s i
    unfolding zero_step_at
    other_phase e n = sym (rw (is_stream_lem e, ne_eqb (record_at (wire_count g) s i).phase 0 (λ z. n (phase_is ∙ z))))

    pub stalled_stream : kind_of r.kind ≡ some STREAM → own.phase ≡ 0 → {v : Seen} → Sees s r v → {b : Bool}
        → b ≡ holds_token (given v.inputs 0) && (holds_zero (given v.inputs 1) && holds_token (given v.inputs 2)) → b ≡ zero_step_at g s i
    unfolding zero_step_at
    stalled_stream e z {v = v} S B =
        together (S.input0 ∙ ap (token_on s) R.input0) (S.input1 ∙ ap (token_on s) R.input1) (S.input2 ∙ ap (token_on s) R.input2)
        (is_stream_lem e) (eq-eqb (record_at (wire_count g) s i).phase 0 (sym phase_is ∙ z)) B
      where
        together : {x0 y0 x1 y1 x2 y2 : Option ℕ} {a b d : Bool} → x0 ≡ y0 → x1 ≡ y1 → x2 ≡ y2 → a ≡ true → b ≡ true
            → d ≡ (holds_token x0 && (holds_zero x1 && holds_token x2)) → d ≡ (a && (b && (holds_token y0 && (holds_zero y1 && holds_token y2))))
        together e0 e1 e2 ea eb ed = rw (ea, eb, ← e0, ← e1, ← e2) ed

-- ---- the first that passes a test

module _ (test : ℕ → Bool) (n i : ℕ) where
  less : i < n → n - i ≡ suc (n - (i + 1))
  less h = omega arith

  abbrev chosen : Bool → ℕ
  chosen b = elim b [ true ↦ i | false ↦ first_from (n - (i + 1)) (i + 1) test ]

  opened : i < n → first_from (n - i) i test ≡ chosen (test i)
  unfolding first_from
  opened h = ap (λ (m : ℕ). first_from m i test) (less h)

  pub first_found : {b : Bool} → i < n → b ≡ test i → b ≡ true → first_from (n - i) i test ≡ i
  first_found h e t = opened h ∙ ap chosen (sym e ∙ t)

  pub first_later : {b : Bool} → i < n → b ≡ test i → b ≡ false → first_from (n - i) i test ≡ first_from (n - (i + 1)) (i + 1) test
  first_later h e t = opened h ∙ ap chosen (sym e ∙ t)

  pub first_none : n ≤ i → first_from (n - i) i test ≡ i
  unfolding first_from
  first_none h = let z : n - i ≡ 0 = omega arith in ap (λ (m : ℕ). first_from m i test) z

-- ---- the outcome

module _ (g s : List ℕ) where
  pub complete_all : {a b c : Bool} → a ≡ results_full g s → a ≡ true → b ≡ others_empty g s → b ≡ true → c ≡ phases_zero g s → c ≡ complete g s
  unfolding complete
  complete_all ea ta eb tb ec = ec ∙ sym (rw (← ea, ta, ← eb, tb))

  pub others_not : {a b : Bool} → a ≡ results_full g s → a ≡ true → b ≡ others_empty g s → b ≡ false → false ≡ complete g s
  unfolding complete
  others_not ea ta eb tb = sym (rw (← ea, ta, ← eb, tb))

  pub results_not : {a : Bool} → a ≡ results_full g s → a ≡ false → false ≡ complete g s
  unfolding complete
  results_not ea ta = sym (rw (← ea, ta))

  module _ (f : ℕ) where
    by : (a n : ℕ) → outcome g s ≡ record { answer = a; node = n } → ran_by (record { answer = a; node = n }) f ≡ ran_by (outcome g s) f
    by a n e = ap (λ (o : Outcome). ran_by o f) (sym e)

    pub ended_spent : {r : Bool} → r ≡ every (node_count g) (idle g s) → r ≡ false → Spent f ≡ ran_by (outcome g s) f
    unfolding outcome any_ready
    ended_spent e t = by SPENT 0 (rw (← e, t))

    module _ {r : Bool} (e : r ≡ every (node_count g) (idle g s)) (t : r ≡ true) where
      pub ended_complete : {c : Bool} → c ≡ complete g s → c ≡ true → Complete f ≡ ran_by (outcome g s) f
      unfolding outcome any_ready
      ended_complete ec tc = by COMPLETE 0 (rw (← e, t, ← ec, tc))

      module _ {c : Bool} (ec : c ≡ complete g s) (tc : c ≡ false) where
        pub ended_zero : {z : ℕ} → z ≡ zero_step g s → z < node_count g → ZeroStep f z ≡ ran_by (outcome g s) f
        unfolding outcome any_ready
        ended_zero {z = z} ez h = by ZERO-STEP z (rw (← e, t, ← ec, tc, ← ez, lt-ltb _ _ h))

        pub ended_stranded : {z : ℕ} → z ≡ zero_step g s → node_count g ≤ z → Stranded f ≡ ran_by (outcome g s) f
        unfolding outcome any_ready
        ended_stranded ez h = by STRANDED 0 (rw (← e, t, ← ec, tc, ← ez, le-ltb _ _ h))

-- ---- the entry

module _ (g s order : List ℕ) (a : ℕ) where
  pub below_known : order_below g order ≡ true → Below g order
  unfolding order_below
  below_known e k h = ltb-true _ _ (every_each (λ k. ltb (get_or order k 0) (node_count g)) (length order) e k h)

  refused : (e : Refusal) → number_of e ≡ run_refusal g s order → RunAnswer g s order a (Err e) s
  unfolding run_state run_answer
  refused e q =
      let z = ne_eqb (number_of e) 0 (not_zero e) in
      run_answers g s order a (Err e) s (rw (← q, z, refusal_is e)) (rw (← q, z))

  pub run_state_lem : {A : Type 0} {r : Result A Refusal} → answer_number r ≡ state_refusal g s → (e : Refusal) → r ≡ Err e → RunAnswer g s order a (Err e) s
  unfolding run_refusal
  run_state_lem q e w =
      let n : number_of e ≡ state_refusal g s = sym (ap answer_number w) ∙ q in
      refused e (n ∙ sym (stops (pick (order_below g order) 0 18) (λ z. not_zero e (n ∙ z))))

  pub run_order : state_refusal g s ≡ 0 → {b : Bool} → b ≡ order_below g order → b ≡ false → RunAnswer g s order a (Err Order) s
  unfolding run_refusal
  run_order z eb tb = refused Order (sym (skips _ z ∙ rw (← eb, tb)))

  pub run_ends : {l1 l2 : ℕ} {b : Bool} {s1 s2 : List ℕ} {r : Ran} → state_refusal g s ≡ 0 → b ≡ order_below g order → b ≡ true
      → at s1 l1 ≡ follow (net_of g) order (at s a) → at s2 l2 ≡ finish (net_of g) (node_count g) (at s1 l1) → r ≡ ran_by (outcome g s2) (a - l2)
      → RunAnswer g s order a (Ok r) s2
  unfolding run_refusal run_state run_answer run_firings run_at run
  run_ends {l2 = l2} {s2 = s2} {r = r} z eb tb f1 f2 E =
      let q : first (state_refusal g s) (pick (order_below g order) 0 18) ≡ 0 = skips _ z ∙ rw (← eb, tb) in
      let p : at s2 l2 ≡ finish (net_of g) (node_count g) (follow (net_of g) order (at s a)) = f2 ∙ ap (finish (net_of g) (node_count g)) f1 in
      run_answers g s order a (Ok r) s2 (ap Ok (E ∙ ap (λ (x : At). ran_by (outcome g x.state) (a - x.left)) p) ∙ sym (rw q)) (ap (λ (x : At). x.state) p ∙ sym (rw q))
