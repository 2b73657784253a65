-- The steps of FOR; the two are put together in proofs/For.
--
--   step_open                 a turn starts: STREAM latches, the guard compares, each CARRY takes its initial; STREAM gives the first pair, each copy's
--                             SPLIT lets its word in; GATE gives the index, each CARRY takes `d`, each ARG's SPLIT gives it, each INVARIANT takes its seed
--   step_none                 no turn: the same, but each copy's SPLIT turns its word away and each ARG's SPLIT gives the exit word
--
-- All that is known of STREAM, GATE, CARRY, INVARIANT and SPLIT at an opening stands here: latch_run, pair_yes, pair_no, guard_run, split_yes,
-- split_no and the tables of effects. Another edition of the machines has other tables; that tables make the step is proved once (Course).
-- Assumes nothing.
use Rattle.std.specs.Prelude.{◌≡◌, refl, ◌≢◌, Bool, true, false, [], ℕ, zero, suc, ◌+◌, ◌*◌, ◌<◌, ◌/◌, ◌%◌, ◌-◌}
use Rattle.std.proofs.Common.{ap, ◌∙◌, inl, inr, arith}
use Rattle.std.proofs.Math.Option.{Option, none, some}
use Rattle.word.specs.Laws.{operate_is_condition}
use Rattle.word.specs.Words.{condition, update, operate}
use Rattle.step.specs.Kinds.{STREAM, SPLIT, OP}
use Rattle.step.specs.Firing.{perform}
use Rattle.step.specs.Machines.{program, rest, in_phase, holding}
use Rattle.table.specs.Bodies.{for}
use Rattle.lowered.specs.Roles.{op_node, stream, gate, guard, copy_split, copy_invariant, carry, arg_split}
use Rattle.uses.specs.Machine.{State}
use Rattle.faithful.specs.Table.{Table, named}
use Rattle.faithful.specs.Good.{Good}
use Rattle.faithful.specs.Gamma.{Env, Gamma}
use Rattle.faithful.specs.Rows.{sight}
use Rattle.faithful.specs.Stages.{Effects, say_if}
use Rattle.faithful.specs.Turn.{eff, at_a_for, turn, exit, nexts_to, turn_env}
use Rattle.faithful.specs.Course.{Course, stream_turns, copy_turns}

pub say_nil : (b : Bool) → say_if b [] ≡ []
say_nil true = refl
say_nil false = refl

code_rem : (u c : ℕ) → c < 5 → (5 * u + c) % 5 ≡ c
code_rem u c h = omega arith

code_quo : (u c : ℕ) → c < 5 → (5 * u + c) / 5 ≡ u
code_quo u c h = omega arith

-- the guard compares as the STREAM's first pair does
pub guard_compares : (c x y : ℕ) → operate (suc (suc (suc c))) x y ≡ condition c x y
guard_compares c x y = operate_is_condition (suc (suc (suc c))) x y (omega arith) ∙ ap (λ (z : ℕ). condition z x y) (let e : suc (suc (suc c)) - 3 ≡ c = omega arith in e)

pub guard_run : (c x y : ℕ) (z : Option ℕ) → perform (program OP (suc (suc (suc c))) rest) (sight (some x) (some y) z rest) ≡ eff true true false (some (condition c x y)) none rest
guard_run c x y z = ap (λ (w : ℕ). eff true true false (some w) none rest) (guard_compares c x y)

-- STREAM's firings
pub latch_run : (code a s b : ℕ) → s ≢ 0 → perform (program STREAM code rest) (sight (some a) (some s) (some b) rest) ≡ eff true true true none none (holding a s b)
latch_run code a zero b h = absurd (h refl)
latch_run code a (suc s) b h = refl

pub pair_yes : (u c a s b k : ℕ) (x y z : Option ℕ) → c < 5 → condition c a b ≡ suc k
    → perform (program STREAM (5 * u + c) (holding a s b)) (sight x y z (holding a s b)) ≡ eff false false false (some a) (some 1) (holding (update u a s) s b)
pair_yes u c a s b k x y z h e = rw (code_rem u c h, e, code_quo u c h)

pub pair_no : (u c a s b : ℕ) (x y z : Option ℕ) → c < 5 → condition c a b ≡ 0
    → perform (program STREAM (5 * u + c) (holding a s b)) (sight x y z (holding a s b)) ≡ eff false false false (some a) (some 0) rest
pair_no u c a s b x y z h e = rw (code_rem u c h, e)

-- a SPLIT by its condition
pub split_yes : (x k w : ℕ) (y : Option ℕ) → x ≡ suc k → perform (program SPLIT 0 rest) (sight (some x) (some w) y rest) ≡ eff true true false (some w) none rest
split_yes x k w y e = rw e

pub split_no : (x w : ℕ) (y : Option ℕ) → x ≡ 0 → perform (program SPLIT 0 rest) (sight (some x) (some w) y rest) ≡ eff true true false none (some w) rest
split_no x w y e = rw e

module _ (tb : Table) (g : Good tb) (L s t b u c : ℕ) (q : tb.row L ≡ for s t b u c) (env : Env) (σ : State) (G : Gamma tb L env σ) (nz : env t ≢ 0) where
  abbrev pub initials : Env
  initials a = env (named (tb.row a))

  -- stage 1
  abbrev pub f1 : Effects
  f1 (op_node r) = none
  f1 (stream M) = eff true true true none none (holding (env s) (env t) (env b))
  f1 (gate M) = none
  f1 (guard M) = eff true true false (some (condition c (env s) (env b))) none rest
  f1 (copy_split M v) = none
  f1 (copy_invariant M v) = none
  f1 (carry a) = eff false true false (some (initials a)) none (in_phase 1)
  f1 (arg_split a) = none

  -- stages 2 and 3 where a turn starts
  abbrev pub o2 : Effects
  o2 (op_node r) = none
  o2 (stream M) = eff false false false (some (env s)) (some 1) (holding (update u (env s) (env t)) (env t) (env b))
  o2 (gate M) = none
  o2 (guard M) = none
  o2 (copy_split M v) = eff true true false (some (env v)) none rest
  o2 (copy_invariant M v) = none
  o2 (carry a) = none
  o2 (arg_split a) = none

  abbrev pub o3 : Effects
  o3 (op_node r) = none
  o3 (stream M) = none
  o3 (gate M) = eff true true false (some (env s)) none (in_phase 1)
  o3 (guard M) = none
  o3 (copy_split M v) = none
  o3 (copy_invariant M v) = eff false true false (some (env v)) none (holding (env v) 0 0)
  o3 (carry a) = eff true false false none none (in_phase 2)
  o3 (arg_split a) = eff true true false (some (initials a)) none rest

  -- and where none does
  abbrev pub n2 : Effects
  n2 (op_node r) = none
  n2 (stream M) = eff false false false (some (env s)) (some 0) rest
  n2 (gate M) = none
  n2 (guard M) = none
  n2 (copy_split M v) = eff true true false none (some (env v)) rest
  n2 (copy_invariant M v) = none
  n2 (carry a) = none
  n2 (arg_split a) = none

  abbrev pub n3 : Effects
  n3 (op_node r) = none
  n3 (stream M) = none
  n3 (gate M) = eff true true false none none rest
  n3 (guard M) = none
  n3 (copy_split M v) = none
  n3 (copy_invariant M v) = none
  n3 (carry a) = eff true false false none none rest
  n3 (arg_split a) = eff true true false none (some (initials a)) rest

  -- ---- a turn starts
  module _ (k : ℕ) (yes-turn : condition c (env s) (env b) ≡ suc k) where
    abbrev pub env1 : Env
    env1 = turn_env tb L (env s) initials env

    -- of each role: stages 1, 2 and 3, its inputs, its record
    pub opens : Course tb g L s t b u c q env at_a_for (turn (env s) initials) f1 o2 o3
    opens =
        record {
          of_stream = (
            inr (λ _ _ _. rw q (latch_run (5 * u + c) (env s) (env t) (env b) nz)),
            inr (λ _ _ _. rw q (pair_yes u c (env s) (env t) (env b) k none none none (g.for_code L s t b u c q) yes-turn)),
            inl refl,
            refl,
            stream_turns tb g L s t b u c q env (env s) initials,
          );
          of_gate = (inl refl, inl refl, inr (λ _ _ _. refl), refl, refl);
          of_guard = (inr (λ _ _ y. rw q (guard_run c (env s) (env b) y)), inl refl, inl refl, refl, refl);
          of_split = λ v h. (inl refl, inr (λ _ _ y. split_yes (condition c (env s) (env b)) k (env v) y yes-turn), inl refl, refl, refl);
          of_invariant = λ v h. (inl refl, inl refl, inr (λ _ _ _. refl), refl, copy_turns tb g L s t b u c q env (env s) initials v h);
          of_carry = λ a i h l. (inr (λ _ _ _. refl), inl refl, inr (λ _ _ _. refl), refl, refl);
          of_arg = λ a i h l. (inl refl, inl refl, inr (λ _ _ _. refl), refl, refl);
          index = (refl, refl, refl);
          args = λ a. (refl, refl, refl);
          copies = λ v. (refl, refl, refl);
          nexts = λ v. (refl, refl, refl);
        }

  -- ---- no turn
  module _ (no-turn : condition c (env s) (env b) ≡ 0) where
    abbrev pub exits : Env
    exits x = initials (tb.arg_of x)

    abbrev pub env0 : Env
    env0 = nexts_to tb L exits env

    pub passes : Course tb g L s t b u c q env at_a_for (exit exits) f1 n2 n3
    passes =
        record {
          of_stream = (inr (λ _ _ _. rw q (latch_run (5 * u + c) (env s) (env t) (env b) nz)), inr (λ _ _ _. rw q (pair_no u c (env s) (env t) (env b) none none none (g.for_code L s t b u c q) no-turn)), inl refl, refl, refl);
          of_gate = (inl refl, inl refl, inr (λ _ _ _. refl), refl, refl);
          of_guard = (inr (λ _ _ y. rw q (guard_run c (env s) (env b) y)), inl refl, inl refl, refl, refl);
          of_split = λ v h. (inl refl, inr (λ _ _ y. split_no (condition c (env s) (env b)) (env v) y no-turn), inl refl, refl, refl);
          of_invariant = λ v h. (inl refl, inl refl, inl refl, refl, refl);
          of_carry = λ a i h l. (inr (λ _ _ _. refl), inl refl, inr (λ _ _ _. refl), refl, refl);
          of_arg = λ a i h l. (inl refl, inl refl, inr (λ _ _ _. refl), refl, refl);
          index = (refl, refl, refl);
          args = λ a. (refl, refl, refl);
          copies = λ v. (refl, refl, refl);
          nexts = λ v. (refl, refl, refl);
        }
