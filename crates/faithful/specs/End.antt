-- The steps of END; the two are put together in proofs/End.
--
--   step_again                another turn: each CARRY takes `b` and STREAM gives a pair; GATE gives index and condition, each CARRY takes `d`, each
--                             ARG's SPLIT gives it; each INVARIANT gives its word again
--   step_leave                the loop is left: STREAM gives its last pair, the ARGs' SPLITs give the exit words, and GATE's last false clears
--                             each INVARIANT
--
-- The first stage empties the CARRYs' `b` uses before GATE and SPLIT refill the body. As at FOR, what is known of the machines stands in the tables.
-- Assumes nothing.
use Rattle.std.specs.Prelude.{◌≡◌, refl, true, false, ℕ, suc}
use Rattle.std.proofs.Common.{inl, inr}
use Rattle.std.proofs.Math.Option.{none, some}
use Rattle.word.specs.Words.{condition, update}
use Rattle.step.specs.Machines.{rest, in_phase, holding}
use Rattle.table.specs.Bodies.{for}
use Rattle.lowered.specs.Roles.{op_node, stream, gate, guard, copy_split, copy_invariant, carry, arg_split}
use Rattle.uses.specs.Machine.{State}
use Rattle.faithful.specs.Table.{Table, named}
use Rattle.faithful.specs.Good.{Good}
use Rattle.faithful.specs.Gamma.{Env, Gamma}
use Rattle.faithful.specs.Stages.{Effects}
use Rattle.faithful.specs.Turn.{eff, at_an_end, turn, exit, nexts_to, turn_env}
use Rattle.faithful.specs.Course.{Course, stream_turns, copy_turns}
use Rattle.faithful.specs.For.{pair_yes, pair_no}

module _ (tb : Table) (g : Good tb) (L s t b u c : ℕ) (q : tb.row L ≡ for s t b u c) (env : Env) (σ : State) (G : Gamma tb (tb.last L) env σ) where
  -- the next index, and what each ARG's NEXT names
  abbrev pub index : ℕ
  index = update u (env L) (env t)

  abbrev pub news : Env
  news a = env (named (tb.row (tb.next_of a)))

  -- another turn
  abbrev pub a1 : Effects
  a1 (op_node r) = none
  a1 (stream M) = eff false false false (some index) (some 1) (holding (update u index (env t)) (env t) (env b))
  a1 (gate M) = none
  a1 (guard M) = none
  a1 (copy_split M v) = none
  a1 (copy_invariant M v) = none
  a1 (carry a) = eff false false true (some (news a)) none (in_phase 1)
  a1 (arg_split a) = none

  abbrev pub a2 : Effects
  a2 (op_node r) = none
  a2 (stream M) = none
  a2 (gate M) = eff true true false (some index) (some 1) (in_phase 1)
  a2 (guard M) = none
  a2 (copy_split M v) = none
  a2 (copy_invariant M v) = none
  a2 (carry a) = eff true false false none none (in_phase 2)
  a2 (arg_split a) = eff true true false (some (news a)) none rest

  abbrev pub a3 : Effects
  a3 (op_node r) = none
  a3 (stream M) = none
  a3 (gate M) = none
  a3 (guard M) = none
  a3 (copy_split M v) = none
  a3 (copy_invariant M v) = eff true false false (some (env v)) none (holding (env v) 0 0)
  a3 (carry a) = none
  a3 (arg_split a) = none

  -- none
  abbrev pub l1 : Effects
  l1 (op_node r) = none
  l1 (stream M) = eff false false false (some index) (some 0) rest
  l1 (gate M) = none
  l1 (guard M) = none
  l1 (copy_split M v) = none
  l1 (copy_invariant M v) = none
  l1 (carry a) = eff false false true (some (news a)) none (in_phase 1)
  l1 (arg_split a) = none

  abbrev pub l2 : Effects
  l2 (op_node r) = none
  l2 (stream M) = none
  l2 (gate M) = eff true true false none (some 0) rest
  l2 (guard M) = none
  l2 (copy_split M v) = none
  l2 (copy_invariant M v) = none
  l2 (carry a) = eff true false false none none rest
  l2 (arg_split a) = eff true true false none (some (news a)) rest

  abbrev pub l3 : Effects
  l3 (op_node r) = none
  l3 (stream M) = none
  l3 (gate M) = none
  l3 (guard M) = none
  l3 (copy_split M v) = none
  l3 (copy_invariant M v) = eff true false false none none rest
  l3 (carry a) = none
  l3 (arg_split a) = none

  -- ---- another turn
  module _ (k : ℕ) (yes-turn : condition c index (env b) ≡ suc k) where
    abbrev pub env1 : Env
    env1 = turn_env tb L index news env

    -- of each role: stages 1, 2 and 3, its inputs, its record
    pub repeats : Course tb g L s t b u c q env at_an_end (turn index news) a1 a2 a3
    repeats =
        record {
          of_stream = (inr (λ _ _ _. rw q (pair_yes u c index (env t) (env b) k none none none (g.for_code L s t b u c q) yes-turn)), inl refl, inl refl, refl, stream_turns tb g L s t b u c q env index news);
          of_gate = (inl refl, inr (λ _ _ _. refl), inl refl, refl, refl);
          of_guard = (inl refl, inl refl, inl refl, refl, refl);
          of_split = λ v h. (inl refl, inl refl, inl refl, refl, refl);
          of_invariant = λ v h. (inl refl, inl refl, inr (λ _ _ _. refl), refl, copy_turns tb g L s t b u c q env index news v h);
          of_carry = λ a i h l. (inr (λ _ _ _. refl), inr (λ _ _ _. refl), inl refl, refl, refl);
          of_arg = λ a i h l. (inl refl, inr (λ _ _ _. refl), inl refl, refl, refl);
          index = (refl, refl, refl);
          args = λ a. (refl, refl, refl);
          copies = λ v. (refl, refl, refl);
          nexts = λ v. (refl, refl, refl);
        }

  -- ---- the loop is left
  module _ (no-turn : condition c index (env b) ≡ 0) where
    abbrev pub leaving : Env
    leaving x = news (tb.arg_of x)

    abbrev pub env0 : Env
    env0 = nexts_to tb L leaving env

    pub leaves : Course tb g L s t b u c q env at_an_end (exit leaving) l1 l2 l3
    leaves =
        record {
          of_stream = (inr (λ _ _ _. rw q (pair_no u c index (env t) (env b) none none none (g.for_code L s t b u c q) no-turn)), inl refl, inl refl, refl, refl);
          of_gate = (inl refl, inr (λ _ _ _. refl), inl refl, refl, refl);
          of_guard = (inl refl, inl refl, inl refl, refl, refl);
          of_split = λ v h. (inl refl, inl refl, inl refl, refl, refl);
          of_invariant = λ v h. (inl refl, inl refl, inr (λ _ _ _. refl), refl, refl);
          of_carry = λ a i h l. (inr (λ _ _ _. refl), inr (λ _ _ _. refl), inl refl, refl, refl);
          of_arg = λ a i h l. (inl refl, inr (λ _ _ _. refl), inl refl, refl, refl);
          index = (refl, refl, refl);
          args = λ a. (refl, refl, refl);
          copies = λ v. (refl, refl, refl);
          nexts = λ v. (refl, refl, refl);
        }
