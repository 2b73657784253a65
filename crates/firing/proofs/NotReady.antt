-- A node that waits is not ready: `waiting_is_not_ready`, kind by kind.
-- Assumes nothing.
use Rattle.std.specs.Prelude.{ℕ, zero, suc, ◌/◌, ◌%◌, ◌≡◌, refl, Bool, true, false, not, ◌||◌, List}
use Rattle.std.proofs.Common.{ap, arith}
use Rattle.std.proofs.Math.Option.{Option, none, some}
use Rattle.word.specs.Words.{condition, update, operate}
use Rattle.step.specs.Kinds.{Kind, STREAM, GATE, CARRY, INVARIANT, SPLIT, FORK, DRAIN, OP, PICK, Input, in0, in1, in2}
use Rattle.step.specs.Firing.{View, Program, stop, ask, give, perform, waits, also_taking, with_word, giving}
use Rattle.step.specs.Machines.{rest, in_phase, holding, whether, stream, stream_pair, gate, carry, invariant, split, fork, drain, operator, picker, step}
use Rattle.step.specs.declared.Record.{Record}
use Rattle.graph.specs.Graph.{Node, node_at}
use Rattle.state.specs.Net.{view, after, fire, step_at, net_of}
use Rattle.firing.specs.Waiting.{waits_on, is_none, waiting, waiting_at}

-- ---- programs that ask for what is not there

module _ (v : View) where
  asks : (k : Input) (f : ℕ → Program) → is_none (waits v k) ≡ true → perform (ask k f) v ≡ none
  asks k f = go (waits v k)
    where
      go : (o : Option ℕ) → is_none o ≡ true → with_word o (λ x. also_taking k (perform (f x) v)) ≡ none
      go none h = refl
      go (some x) h = let z : ◌≡◌ {A = ℕ} 0 1 = cc in absurd (omega arith)

  -- the next input is asked for whatever word the first one holds
  asks_then : (k l : Input) (f : ℕ → ℕ → Program) → is_none (waits v l) ≡ true → perform (ask k (λ x. ask l (f x))) v ≡ none
  asks_then k l f h = go (waits v k)
    where
      go : (o : Option ℕ) → with_word o (λ x. also_taking k (perform (ask l (f x)) v)) ≡ none
      go none = refl
      go (some x) = ap (also_taking k) (asks l (f x) h)

  asks_either : (k l : Input) (f : ℕ → ℕ → Program) → (is_none (waits v k) || is_none (waits v l)) ≡ true → perform (ask k (λ x. ask l (f x))) v ≡ none
  asks_either k l f h = go (is_none (waits v k)) refl h
    where
      go : (b : Bool) → is_none (waits v k) ≡ b → (b || is_none (waits v l)) ≡ true → perform (ask k (λ x. ask l (f x))) v ≡ none
      go true e t = asks k (λ x. ask l (f x)) e
      go false e t = asks_then k l f t

  gives_both : (x y : ℕ) (r : Record) → not v.room0 ≡ true → perform (give (some x) (some y) r) v ≡ none
  gives_both x y r = go v.room0 v.room1
    where
      go : (a b : Bool) → not a ≡ true → giving a b (some x) (some y) r ≡ none
      go true b h = let z : ◌≡◌ {A = ℕ} 0 1 = cc in absurd (omega arith)
      go false b h = refl

  -- ---- the nine kinds

  stream_waits : (code p : ℕ) (r : Record) → waits_on STREAM p (is_none v.word0) (is_none v.word1) (is_none v.word2) v.room0 ≡ true
      → perform (stream code r p) v ≡ none
  stream_waits code zero r h = asks in0 (λ start. ask in1 (λ by. ask in2 (λ bound. whether by (give none none (holding start by bound)) stop))) h
  stream_waits code (suc zero) r h = pair (condition (code % 5) r.r0 r.r2)
    where
      pair : (c : ℕ) → perform (stream_pair c code r.r0 r.r1 r.r2) v ≡ none
      pair zero = gives_both r.r0 0 rest h
      pair (suc c) = gives_both r.r0 1 (holding (update (code / 5) r.r0 r.r1) r.r1 r.r2) h
  stream_waits code (suc (suc p)) r h = refl

  gate_waits : (p : ℕ) → (is_none v.word0 || is_none v.word1) ≡ true → perform (gate p) v ≡ none
  gate_waits zero h = asks_either in0 in1 (λ x c. whether c (give (some x) none (in_phase 1)) (give none none rest)) h
  gate_waits (suc zero) h = asks_either in0 in1 (λ x c. whether c (give (some x) (some 1) (in_phase 1)) (give none (some 0) rest)) h
  gate_waits (suc (suc p)) h = refl

  carry_waits : (p : ℕ) → waits_on CARRY p (is_none v.word0) (is_none v.word1) (is_none v.word2) v.room0 ≡ true → perform (carry p) v ≡ none
  carry_waits zero h = asks in1 (λ a. give (some a) none (in_phase 1)) h
  carry_waits (suc zero) h = asks in0 (λ d. whether d (give none none (in_phase 2)) (give none none rest)) h
  carry_waits (suc (suc zero)) h = asks in2 (λ b. give (some b) none (in_phase 1)) h
  carry_waits (suc (suc (suc p))) h = refl

  invariant_waits : (p : ℕ) (r : Record) → waits_on INVARIANT p (is_none v.word0) (is_none v.word1) (is_none v.word2) v.room0 ≡ true
      → perform (invariant r p) v ≡ none
  invariant_waits zero r h = asks in1 (λ a. give (some a) none (holding a 0 0)) h
  invariant_waits (suc zero) r h = asks in0 (λ d. whether d (give (some r.r0) none (holding r.r0 0 0)) (give none none rest)) h
  invariant_waits (suc (suc p)) r h = refl

  split_waits : (p : ℕ) → (is_none v.word0 || is_none v.word1) ≡ true → perform (split p) v ≡ none
  split_waits zero h = asks_either in0 in1 (λ f x. whether f (give (some x) none rest) (give none (some x) rest)) h
  split_waits (suc p) h = refl

  fork_waits : (p : ℕ) → (is_none v.word0 || not v.room0) ≡ true → perform (fork p) v ≡ none
  fork_waits zero h = go v.word0 h
    where
      go : (o : Option ℕ) → (is_none o || not v.room0) ≡ true → with_word o (λ x. also_taking in0 (perform (give (some x) (some x) rest) v)) ≡ none
      go none t = refl
      go (some x) t = ap (also_taking in0) (gives_both x x rest t)
  fork_waits (suc p) h = refl

  drain_waits : (p : ℕ) → is_none v.word0 ≡ true → perform (drain p) v ≡ none
  drain_waits zero h = asks in0 (λ x. give none none rest) h
  drain_waits (suc p) h = refl

  operator_waits : (code p : ℕ) → (is_none v.word0 || is_none v.word1) ≡ true → perform (operator code p) v ≡ none
  operator_waits code zero h = asks_either in0 in1 (λ x y. give (some (operate code x y)) none rest) h
  operator_waits code (suc p) h = refl

  picker_waits : (p : ℕ) → (is_none v.word0 || is_none v.word1) ≡ true → perform (picker p) v ≡ none
  picker_waits zero h = asks_either in0 in1 (λ f x. ask in2 (λ y. whether f (give (some x) none rest) (give (some y) none rest))) h
  picker_waits (suc p) h = refl

  kind_waits : (κ : Kind) (code : ℕ) → waiting κ v ≡ true → step κ code v ≡ none
  unfolding step
  kind_waits STREAM code h = stream_waits code v.own.phase v.own h
  kind_waits GATE code h = gate_waits v.own.phase h
  kind_waits CARRY code h = carry_waits v.own.phase h
  kind_waits INVARIANT code h = invariant_waits v.own.phase v.own h
  kind_waits SPLIT code h = split_waits v.own.phase h
  kind_waits FORK code h = fork_waits v.own.phase h
  kind_waits DRAIN code h = drain_waits v.own.phase h
  kind_waits OP code h = operator_waits code v.own.phase h
  kind_waits PICK code h = picker_waits v.own.phase h

  node_waits : (o : Option Node) → waiting_at o v ≡ true → step_at o v ≡ none
  node_waits none h = refl
  node_waits (some nd) h = kind_waits nd.kind nd.code h

pub waiting_is_not_ready : (g : List ℕ) (i : ℕ) (s : List ℕ) → waiting_at (node_at g i) (view (net_of g) i s) ≡ true → fire (net_of g) i s ≡ none
unfolding fire
waiting_is_not_ready g i s h = ap (after (net_of g) i s) (node_waits (view (net_of g) i s) (node_at g i) h)
