-- Legal records and sorts: a step keeps a legal record legal, and gives words of the sort that its outputs have.
--
--   fits                          a word may stand where this sort is asked
--   legal_record                   'every record is one its kind may have'
--   step_keeps_legal              a firing of a legal record leaves a legal record
--   step_gives_fitting            and gives words that fit their outputs
--
-- Both are stated over the row's sort, once for all kinds: so FORK, DRAIN, SPLIT and INVARIANT of words and of flags share them.
-- Assumes nothing.
use Rattle.std.specs.Prelude.{◌≡◌, refl, Bool, true, false, not, ◌&&◌, ℕ, zero, suc, ◌<◌, ◌/◌, ◌%◌, ltb, eqb}
use Rattle.std.proofs.Common.{sym, ap, ◌∙◌, subst, arith, lt-ltb, ltb-true, ltb-false}
use Rattle.std.proofs.Math.Option.{Option, none, some}
use Rattle.std.proofs.Math.Dec.{eqb-suc-zero}
use Rattle.word.specs.Words.{pick, word_limit, condition, update, operate}
use Rattle.word.specs.Laws.{update_word, operate_word, operate_flag}
use Rattle.step.specs.Kinds.{Kind, STREAM, GATE, CARRY, INVARIANT, SPLIT, FORK, DRAIN, OP, PICK, Input, Output, out0, out1, limit, own_sorts, input_sort, output_sort, operator_sort}
use Rattle.step.specs.Firing.{View, Effect, Program, stop, ask, give, perform, waits, gives, fillable}
use Rattle.step.specs.Machines.{rest, in_phase, holding, whether, stream_pair, stream, gate, carry, invariant, split, fork, drain, operator, picker, program, step}
use Rattle.step.specs.Locality.{giving_inv, asking_inv, taking_gives, taking_next}
use Rattle.step.specs.declared.Record.{Record}

-- 'a word that fits the wire's sort, so a flag is 0 or 1'; other words are below 2^32.
abbrev pub fits : ℕ → ℕ → Bool
fits sort x = ltb x (limit sort)

-- empty registers are 0
abbrev pub empty : ℕ → ℕ → ℕ → Bool
empty a b c = eqb a 0 && (eqb b 0 && eqb c 0)

-- 'a STREAM in phase 0 with empty registers, or in phase 1 holding index, bound and a step that is not 0'
abbrev pub legal_stream : ℕ → ℕ → ℕ → ℕ → Bool
legal_stream zero a b c = empty a b c
legal_stream (suc zero) a b c = fits 0 a && ((not (eqb b 0) && fits 0 b) && fits 0 c)
legal_stream (suc (suc p)) a b c = false

-- 'an INVARIANT in phase 0 with empty registers, or in phase 1 with a word of its sort in r0'
abbrev pub legal_invariant : ℕ → ℕ → ℕ → ℕ → ℕ → Bool
legal_invariant sort zero a b c = empty a b c
legal_invariant sort (suc zero) a b c = fits sort a && (eqb b 0 && eqb c 0)
legal_invariant sort (suc (suc p)) a b c = false

-- 'a GATE in phase 0 or 1, a CARRY in phase 0 to 2, all others in phase 0, with empty registers'
abbrev pub legal_phase : ℕ → Record → Bool
legal_phase phases r = ltb r.phase phases && empty r.r0 r.r1 r.r2

abbrev pub legal_record : Kind → ℕ → Record → Bool
legal_record STREAM sort r = legal_stream r.phase r.r0 r.r1 r.r2
legal_record GATE sort r = legal_phase 2 r
legal_record CARRY sort r = legal_phase 3 r
legal_record INVARIANT sort r = legal_invariant sort r.phase r.r0 r.r1 r.r2
legal_record SPLIT sort r = legal_phase 1 r
legal_record FORK sort r = legal_phase 1 r
legal_record DRAIN sort r = legal_phase 1 r
legal_record OP sort r = legal_phase 1 r
legal_record PICK sort r = legal_phase 1 r

-- ---- programs that keep their sorts

pub and_true : (a b : Bool) → (a && b) ≡ true → (a ≡ true) × (b ≡ true)
and_true true b h = (refl, h)
and_true false b h = let z : ◌≡◌ {A = ℕ} 0 1 = cc in absurd (omega arith)

pub both_true : {a b : Bool} → a ≡ true → b ≡ true → (a && b) ≡ true
both_true p q = rw (p, q)

abbrev Given : (ℕ → Type 0) → Option ℕ → Type 0
Given P none = Unit {0}
Given P (some x) = P x

given_at : (P : ℕ → Type 0) (o : Option ℕ) (x : ℕ) → Given P o → o ≡ some x → P x
given_at P none x h e = let z : ◌≡◌ {A = ℕ} 0 1 = cc in absurd (omega arith)
given_at P (some y) x h e = let z : y ≡ x = cc in subst P z h

-- which words may stand on an input, on an output, and which records may be left
module _ (In : Input → ℕ → Type 0) (Out : Output → ℕ → Type 0) (Rec : Record → Type 0) where
  -- a program that, taking words that may stand there, gives words that may stand there and leaves a record that may be left
  abbrev Keeps : Program → Type 0
  Keeps stop = Unit {0}
  Keeps (ask k f) = (x : ℕ) → In k x → Keeps (f x)
  Keeps (give x y r) = Given (Out out0) x × Given (Out out1) y × Rec r

  abbrev Waiting : View → Type 0
  Waiting v = (k : Input) (x : ℕ) → waits v k ≡ some x → In k x

  pub keeps_next : (p : Program) (v : View) (e : Effect) → perform p v ≡ some e → Keeps p → Waiting v → Rec e.next
  keeps_next stop v e h t w = let z : ◌≡◌ {A = ℕ} 0 1 = cc in absurd (omega arith)
  keeps_next (give x y r) v e h t w =
      let g = giving_inv (fillable x v.room0) (fillable y v.room1) x y r e h in
      subst (λ (d : Effect). Rec d.next) g.2 t.2
  keeps_next (ask k f) v e h t w =
      let g = asking_inv k f v e h in
      subst (λ (d : Effect). Rec d.next) g.4
      (subst Rec (sym (taking_next k g.1)) (keeps_next (f g.0) v g.1 g.3 (t g.0 (w k g.0 g.2)) w))

  pub keeps_gives : (p : Program) (v : View) (e : Effect) → perform p v ≡ some e → Keeps p → Waiting v
      → (k : Output) (x : ℕ) → gives e k ≡ some x → Out k x
  keeps_gives stop v e h t w k x q = let z : ◌≡◌ {A = ℕ} 0 1 = cc in absurd (omega arith)
  keeps_gives (give a b r) v e h t w out0 x q =
      let g = giving_inv (fillable a v.room0) (fillable b v.room1) a b r e h in
      given_at (Out out0) a x t.0 (ap (λ (d : Effect). d.gives0) g.2 ∙ q)
  keeps_gives (give a b r) v e h t w out1 x q =
      let g = giving_inv (fillable a v.room0) (fillable b v.room1) a b r e h in
      given_at (Out out1) b x t.1 (ap (λ (d : Effect). d.gives1) g.2 ∙ q)
  keeps_gives (ask l f) v e h t w k x q =
      let g = asking_inv l f v e h in
      keeps_gives (f g.0) v g.1 g.3 (t g.0 (w l g.0 g.2)) w k x
      (sym (taking_gives l g.1 k) ∙ ap (λ (d : Effect). gives d k) g.4 ∙ q)

-- ---- the nine kinds

abbrev pub FitsIn : Kind → ℕ → Input → ℕ → Type 0
FitsIn κ s k x = fits (input_sort κ s k) x ≡ true

abbrev pub FitsOut : Kind → ℕ → ℕ → Output → ℕ → Type 0
FitsOut κ c s k x = fits (output_sort κ c s k) x ≡ true

abbrev KindKeeps : Kind → ℕ → ℕ → Program → Type 0
KindKeeps κ c s = Keeps (FitsIn κ s) (FitsOut κ c s) (λ r. legal_record κ s r ≡ true)

whether_keeps : (κ : Kind) (c s f : ℕ) (p q : Program) → KindKeeps κ c s p → KindKeeps κ c s q → KindKeeps κ c s (whether f p q)
whether_keeps κ c s zero p q a b = b
whether_keeps κ c s (suc f) p q a b = a

word_fits : (x : ℕ) → x < word_limit → fits 0 x ≡ true
word_fits x h = lt-ltb x word_limit h

latch_keeps : (c start step bound : ℕ) → fits 0 start ≡ true → fits 0 step ≡ true → fits 0 bound ≡ true
    → KindKeeps STREAM c 0 (whether step (give none none (holding start step bound)) stop)
latch_keeps c start zero bound a b d = tt
latch_keeps c start (suc step) bound a b d = (tt, tt, both_true a (both_true (both_true (ap not (eqb-suc-zero step)) b) d))

pair_keeps : (c h index step bound : ℕ) → fits 0 index ≡ true → not (eqb step 0) ≡ true → fits 0 step ≡ true → fits 0 bound ≡ true
    → KindKeeps STREAM c 0 (stream_pair h c index step bound)
pair_keeps c zero index step bound a n b d = (a, refl, refl)
pair_keeps c (suc h) index step bound a n b d =
    (a, refl, both_true (word_fits (update (c / 5) index step) (update_word (c / 5) index step (ltb-true index word_limit a))) (both_true (both_true n b) d))

stream_keeps : (c : ℕ) (r : Record) (p : ℕ) → legal_stream p r.r0 r.r1 r.r2 ≡ true → KindKeeps STREAM c 0 (stream c r p)
stream_keeps c r zero h = λ start a step b bound d. latch_keeps c start step bound a b d
stream_keeps c r (suc zero) h =
    let l = and_true (fits 0 r.r0) ((not (eqb r.r1 0) && fits 0 r.r1) && fits 0 r.r2) h in
    let m = and_true (not (eqb r.r1 0) && fits 0 r.r1) (fits 0 r.r2) l.1 in
    let n = and_true (not (eqb r.r1 0)) (fits 0 r.r1) m.0 in
    pair_keeps c (condition (c % 5) r.r0 r.r2) r.r0 r.r1 r.r2 l.0 n.0 n.1 m.1
stream_keeps c r (suc (suc p)) h = tt

gate_keeps : (c s p : ℕ) → KindKeeps GATE c s (gate p)
gate_keeps c s zero =
    λ v a f b. whether_keeps GATE c s f (give (some v) none (in_phase 1)) (give none none rest) (a, tt, refl) (tt, tt, refl)
gate_keeps c s (suc zero) =
    λ v a f b. whether_keeps GATE c s f (give (some v) (some 1) (in_phase 1)) (give none (some 0) rest) (a, refl, refl) (tt, refl, refl)
gate_keeps c s (suc (suc p)) = tt

carry_keeps : (c s p : ℕ) → KindKeeps CARRY c s (carry p)
carry_keeps c s zero = λ x a. (a, tt, refl)
carry_keeps c s (suc zero) =
    λ d a. whether_keeps CARRY c s d (give none none (in_phase 2)) (give none none rest) (tt, tt, refl) (tt, tt, refl)
carry_keeps c s (suc (suc zero)) = λ x b. (b, tt, refl)
carry_keeps c s (suc (suc (suc p))) = tt

invariant_keeps : (c s : ℕ) (r : Record) (p : ℕ) → legal_invariant s p r.r0 r.r1 r.r2 ≡ true → KindKeeps INVARIANT c s (invariant r p)
invariant_keeps c s r zero h = λ x a. (a, tt, both_true a refl)
invariant_keeps c s r (suc zero) h =
    let l = and_true (fits s r.r0) (eqb r.r1 0 && eqb r.r2 0) h in
    λ d a.
    whether_keeps INVARIANT c s d (give (some r.r0) none (holding r.r0 0 0)) (give none none rest)
    (l.0, tt, both_true l.0 refl) (tt, tt, refl)
invariant_keeps c s r (suc (suc p)) h = tt

split_keeps : (c s p : ℕ) → KindKeeps SPLIT c s (split p)
split_keeps c s zero =
    λ f a v b. whether_keeps SPLIT c s f (give (some v) none rest) (give none (some v) rest) (b, tt, refl) (tt, b, refl)
split_keeps c s (suc p) = tt

fork_keeps : (c s p : ℕ) → KindKeeps FORK c s (fork p)
fork_keeps c s zero = λ v a. (a, a, refl)
fork_keeps c s (suc p) = tt

drain_keeps : (c s p : ℕ) → KindKeeps DRAIN c s (drain p)
drain_keeps c s zero = λ v a. (tt, tt, refl)
drain_keeps c s (suc p) = tt

operator_fits : (c x y : ℕ) → fits (operator_sort c) (operate c x y) ≡ true
operator_fits c x y = go (ltb c 3) refl
  where
    go : (b : Bool) → ltb c 3 ≡ b → fits (pick b 0 1) (operate c x y) ≡ true
    go true e = word_fits (operate c x y) (operate_word c x y)
    go false e = lt-ltb (operate c x y) 2 (operate_flag c x y (ltb-false c 3 e))

operator_keeps : (c s p : ℕ) → KindKeeps OP c s (operator c p)
operator_keeps c s zero = λ x a y b. (operator_fits c x y, tt, refl)
operator_keeps c s (suc p) = tt

picker_keeps : (c s p : ℕ) → KindKeeps PICK c s (picker p)
picker_keeps c s zero =
    λ f a x b y d. whether_keeps PICK c s f (give (some x) none rest) (give (some y) none rest) (b, tt, refl) (d, tt, refl)
picker_keeps c s (suc p) = tt

only_zero : (s : ℕ) → s < 1 → s ≡ 0
only_zero s h = omega arith

program_keeps : (κ : Kind) (c s : ℕ) (r : Record) → s < own_sorts κ → legal_record κ s r ≡ true → KindKeeps κ c s (program κ c r)
program_keeps STREAM c s r l h = subst (λ (s : ℕ). KindKeeps STREAM c s (program STREAM c r)) (sym (only_zero s l)) (stream_keeps c r r.phase h)
program_keeps GATE c s r l h = gate_keeps c s r.phase
program_keeps CARRY c s r l h = carry_keeps c s r.phase
program_keeps INVARIANT c s r l h = invariant_keeps c s r r.phase h
program_keeps SPLIT c s r l h = split_keeps c s r.phase
program_keeps FORK c s r l h = fork_keeps c s r.phase
program_keeps DRAIN c s r l h = drain_keeps c s r.phase
program_keeps OP c s r l h = operator_keeps c s r.phase
program_keeps PICK c s r l h = picker_keeps c s r.phase

-- THE LAWS: of any kind, code and sort that a row may have
module _ (κ : Kind) (c s : ℕ) (v : View) (e : Effect) (l : s < own_sorts κ) (h : legal_record κ s v.own ≡ true)
    (w : (k : Input) (x : ℕ) → waits v k ≡ some x → FitsIn κ s k x) (f : step κ c v ≡ some e) where
  pub step_keeps_legal : legal_record κ s e.next ≡ true
  unfolding step
  step_keeps_legal =
      keeps_next (FitsIn κ s) (FitsOut κ c s) (λ r. legal_record κ s r ≡ true) (program κ c v.own) v e f (program_keeps κ c s v.own l h) w

  pub step_gives_fitting : (k : Output) (x : ℕ) → gives e k ≡ some x → FitsOut κ c s k x
  unfolding step
  step_gives_fitting =
      keeps_gives (FitsIn κ s) (FitsOut κ c s) (λ r. legal_record κ s r ≡ true) (program κ c v.own) v e f (program_keeps κ c s v.own l h) w
