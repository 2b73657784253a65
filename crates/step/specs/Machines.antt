-- The nine kinds of node as programs: the table of docs/RULES.md, section 'Firing'. 'What it would do follows from its kind, then its phase, then
-- the flag it takes'.
--
--   program κ code record         what a node of kind κ does next
--   step κ code view              one firing, or not ready
--   step_of                        the same from a kind's number
--
-- Assumes nothing.
use Rattle.std.proofs.Math.Option.{Option, none, some}
use Rattle.std.specs.Prelude.{ℕ, zero, suc, ◌/◌, ◌%◌}
use Rattle.word.specs.Words.{condition, update, operate}
use Rattle.step.specs.Kinds.{Kind, STREAM, GATE, CARRY, INVARIANT, SPLIT, FORK, DRAIN, OP, PICK, kind_of, in0, in1, in2}
use Rattle.step.specs.Firing.{View, Effect, Program, stop, ask, give, perform}
use Rattle.step.specs.declared.Record.{Record}

-- Records: the first phase with empty registers, a later phase with empty registers, and phase 1 with three words held.
abbrev pub rest : Record
rest = record { phase = 0; r0 = 0; r1 = 0; r2 = 0 }

abbrev pub in_phase : ℕ → Record
in_phase p = record { phase = p; r0 = 0; r1 = 0; r2 = 0 }

abbrev pub holding : ℕ → ℕ → ℕ → Record
holding a b c = record { phase = 1; r0 = a; r1 = b; r2 = c }

-- by the flag taken: the first if it is true, the second if it is false
abbrev pub whether : ℕ → Program → Program → Program
whether zero p q = q
whether (suc f) p q = p

-- STREAM, phase 0: it takes start, step and bound and gives nothing; with a step of 0 it is not ready.
-- Phase 1: one pair (index, condition) a firing; after a true condition the index is updated, after a false one it is in phase 0 again.
-- 'What waits on a STREAM's inputs in phase 1 changes nothing.'
abbrev pub stream_pair : ℕ → ℕ → ℕ → ℕ → ℕ → Program
stream_pair zero code index step bound = give (some index) (some 0) rest
stream_pair (suc c) code index step bound = give (some index) (some 1) (holding (update (code / 5) index step) step bound)

abbrev pub stream : ℕ → Record → ℕ → Program
stream code r zero = ask in0 (λ start. ask in1 (λ step. ask in2 (λ bound. whether step (give none none (holding start step bound)) stop)))
stream code r (suc zero) = stream_pair (condition (code % 5) r.r0 r.r2) code r.r0 r.r1 r.r2
stream code r (suc (suc p)) = stop

-- GATE, phase 0: a true condition gives the value alone; a false one gives nothing and the phase stays.
-- Phase 1: a true condition gives value and condition; a false one gives the condition alone, back to phase 0.
abbrev pub gate : ℕ → Program
gate zero = ask in0 (λ value. ask in1 (λ c. whether c (give (some value) none (in_phase 1)) (give none none rest)))
gate (suc zero) = ask in0 (λ value. ask in1 (λ c. whether c (give (some value) (some 1) (in_phase 1)) (give none (some 0) rest)))
gate (suc (suc p)) = stop

-- CARRY, phase 0: takes `a` and gives it. Phase 1: takes `d`; true leads to phase 2, false to phase 0. Phase 2: takes `b` and gives it, back to
-- phase 1. 'a CARRY never takes `d` together with `b`'.
abbrev pub carry : ℕ → Program
carry zero = ask in1 (λ a. give (some a) none (in_phase 1))
carry (suc zero) = ask in0 (λ d. whether d (give none none (in_phase 2)) (give none none rest))
carry (suc (suc zero)) = ask in2 (λ b. give (some b) none (in_phase 1))
carry (suc (suc (suc p))) = stop

-- INVARIANT, phase 0: takes `a`, stores it and gives it. Phase 1: takes `d`; true gives the stored word again, false gives nothing, clears the
-- store and leads to phase 0.
abbrev pub invariant : Record → ℕ → Program
invariant r zero = ask in1 (λ a. give (some a) none (holding a 0 0))
invariant r (suc zero) = ask in0 (λ d. whether d (give (some r.r0) none (holding r.r0 0 0)) (give none none rest))
invariant r (suc (suc p)) = stop

-- The others have phase 0 alone. SPLIT gives on one leg and needs room there alone. PICK takes all three.
abbrev pub split : ℕ → Program
split zero = ask in0 (λ f. ask in1 (λ value. whether f (give (some value) none rest) (give none (some value) rest)))
split (suc p) = stop

abbrev pub fork : ℕ → Program
fork zero = ask in0 (λ value. give (some value) (some value) rest)
fork (suc p) = stop

abbrev pub drain : ℕ → Program
drain zero = ask in0 (λ value. give none none rest)
drain (suc p) = stop

abbrev pub operator : ℕ → ℕ → Program
operator code zero = ask in0 (λ x. ask in1 (λ y. give (some (operate code x y)) none rest))
operator code (suc p) = stop

abbrev pub picker : ℕ → Program
picker zero = ask in0 (λ f. ask in1 (λ x. ask in2 (λ y. whether f (give (some x) none rest) (give (some y) none rest))))
picker (suc p) = stop

abbrev pub program : Kind → ℕ → Record → Program
program STREAM code r = stream code r r.phase
program GATE code r = gate r.phase
program CARRY code r = carry r.phase
program INVARIANT code r = invariant r r.phase
program SPLIT code r = split r.phase
program FORK code r = fork r.phase
program DRAIN code r = drain r.phase
program OP code r = operator code r.phase
program PICK code r = picker r.phase

unfoldable pub step : Kind → ℕ → View → Option Effect
step κ code v = perform (program κ code v.own) v

-- A number that is no kind is never ready.
abbrev pub step_by : Option Kind → ℕ → View → Option Effect
step_by none code v = none
step_by (some κ) code v = step κ code v

abbrev pub step_of : ℕ → ℕ → View → Option Effect
step_of kind code v = step_by (kind_of kind) code v
