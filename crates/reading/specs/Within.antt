-- THE READING WITHIN AN ALLOWANCE OF TURNS: the reading's own steps, stopped before a turn that is not allowed.
-- Main names: `turns_made`, `Within`, `read_within`; `Reach` (the reading comes from one state to another).
-- Assumes nothing.
use Prim.Native.Nat.{ℕ, zero, suc, ◌+◌, ◌≤◌}
use Rattle.std.specs.Prelude.{Bool, true, false, cond, eqb, leb}
use Rattle.std.proofs.Math.Option.{Option, none, some}
use mathlib.Core.List.{List, [], ◌∷◌, ◌++◌, reverse, reverse-cons}
use Rattle.std.proofs.Math.Path.{◌≡◌, refl, sym, ap}
use Rattle.std.proofs.Common.{subst}
use native.Mathlib.Omega.{arith}
use Rattle.std.proofs.Math.Decide.{dec_lt}
use Rattle.table.specs.Rows.{size}
use Rattle.table.specs.Scan.{body_of}
use Rattle.table.specs.Bodies.{Row, input, const, op, pick, for, arg, next, end, out, unknown, row_at}
use Rattle.word.specs.Words.{condition, update}
use Rattle.reading.specs.Reading.{Env, Opening, State, Outcome, ended, zero_step, Step, on, stop, one_turn, for_step, end_step, end_by, row_step, step, and_then, read_from}
use Rattle.reading.specs.Steps.{step_below, step_past}

-- the turns of all openings together
unfoldable pub turns_made : List Opening → ℕ
turns_made [] = 0
turns_made (o ∷ os) = o.turns + turns_made os

-- it comes to the reading's outcome, or is spent
pub data Within : Type 0 where
  comes : Outcome → Within
  spent : Within

-- a step, and what comes behind it unless it made a turn too many
abbrev pub allowed : ℕ → Step → (State → Option Within) → Option Within
allowed A (on s) rest = cond (leb (turns_made s.openings) A) (rest s) (some spent)
allowed A (stop o) rest = some (comes o)

-- what so many steps bring it to, with A turns allowed
unfoldable pub read_within : ℕ → ℕ → List ℕ → State → Option Within
read_within zero A t s = none
read_within (suc k) A t s = allowed A (step t s) (λ s₁. read_within k A t s₁)

abbrev pub openings_of : Outcome → List Opening
openings_of (ended rs os) = os
openings_of (zero_step L os) = os

-- ---- the turns of a step
-- a step makes no turn, or one
pub record Grown (a b : ℕ) : Type 0 where
  pub least : a ≤ b
  pub most : b ≤ suc a

grown : (a b : ℕ) → a ≤ b → b ≤ suc a → Grown a b
grown a b p q = record { least = p; most = q }

same_grown : (a : ℕ) → Grown a a
same_grown a = grown a a (omega arith) (omega arith)

one_turn_grows : (L : ℕ) (os : List Opening) → Grown (turns_made os) (turns_made (one_turn L os))
unfolding turns_made
one_turn_grows L [] = same_grown 0
one_turn_grows L (o ∷ os) = go (eqb o.loop L) (one_turn_grows L os)
  where
    go : (b : Bool) → Grown (turns_made os) (turns_made (one_turn L os))
        → Grown (o.turns + turns_made os) (turns_made (cond b (record { loop = L; turns = suc o.turns } ∷ os) (o ∷ one_turn L os)))
    go true g = grown _ _ (omega arith) (omega arith)
    go false g = let p = g.least in let q = g.most in grown _ _ (omega arith) (omega arith)

append_made : (os ps : List Opening) → turns_made (os ++ ps) ≡ turns_made os + turns_made ps
unfolding turns_made
append_made [] ps = omega arith
append_made (o ∷ os) ps = let e = append_made os ps in omega arith

pub reverse_made : (os : List Opening) → turns_made (reverse os) ≡ turns_made os
unfolding turns_made
reverse_made [] = refl
reverse_made (o ∷ os) =
    let e = append_made (reverse os) (o ∷ []) in
    let f = reverse_made os in
    let g = ap turns_made (reverse-cons o os) in
    omega arith

module _ (t : List ℕ) where
  -- what a step says of the turns, on or stopping
  abbrev Says : ℕ → Step → Type 0
  Says n (on s) = Grown n (turns_made s.openings)
  Says n (stop o) = turns_made (openings_of o) ≡ n

  for_says : (L start : ℕ) (env : Env) (os : List Opening) (st c : ℕ) → Says (turns_made os) (for_step t L start env os st c)
  unfolding turns_made
  for_says L start env os zero c = reverse_made os
  for_says L start env os (suc k) zero = grown _ _ (omega arith) (omega arith)
  for_says L start env os (suc k) (suc c) = grown _ _ (omega arith) (omega arith)

  end_says : (L pc index : ℕ) (env : Env) (os : List Opening) (c : ℕ) → Says (turns_made os) (end_step t L pc index env os c)
  end_says L pc index env os zero = same_grown (turns_made os)
  end_says L pc index env os (suc c) = one_turn_grows L os

  by_says : (d : Row) (L pc : ℕ) (env : Env) (os : List Opening) → Says (turns_made os) (end_by d t L pc env os)
  by_says input L pc env os = same_grown (turns_made os)
  by_says (const w) L pc env os = same_grown (turns_made os)
  by_says (op c x y) L pc env os = same_grown (turns_made os)
  by_says (pick f x y) L pc env os = same_grown (turns_made os)
  by_says (for s st b u c) L pc env os = end_says L pc (update u (env L) (env st)) env os (condition c (update u (env L) (env st)) (env b))
  by_says (arg i) L pc env os = same_grown (turns_made os)
  by_says (next v) L pc env os = same_grown (turns_made os)
  by_says end L pc env os = same_grown (turns_made os)
  by_says (out x) L pc env os = same_grown (turns_made os)
  by_says unknown L pc env os = same_grown (turns_made os)

  row_says : (d : Row) (pc : ℕ) (env : Env) (os : List Opening) → Says (turns_made os) (row_step d t pc env os)
  row_says input pc env os = same_grown (turns_made os)
  row_says (const w) pc env os = same_grown (turns_made os)
  row_says (op c x y) pc env os = same_grown (turns_made os)
  row_says (pick f x y) pc env os = same_grown (turns_made os)
  row_says (for s st b u c) pc env os = for_says pc (env s) env os (env st) (condition c (env s) (env b))
  row_says (arg i) pc env os = same_grown (turns_made os)
  row_says (next v) pc env os = same_grown (turns_made os)
  row_says end pc env os = by_says (row_at t (body_of t pc)) (body_of t pc) pc env os
  row_says (out x) pc env os = same_grown (turns_made os)
  row_says unknown pc env os = same_grown (turns_made os)

  step_says : (s : State) → Says (turns_made s.openings) (step t s)
  step_says s =
      elim (dec_lt s.pc (size t)) [
        | yes l ↦ subst (Says (turns_made s.openings)) (sym (step_below t s l)) (row_says (row_at t s.pc) s.pc s.env s.openings)
        | no n ↦ subst (Says (turns_made s.openings)) (sym (step_past t s (omega arith))) (reverse_made s.openings)
      ]

  pub step_grows : (s s₁ : State) → step t s ≡ on s₁ → Grown (turns_made s.openings) (turns_made s₁.openings)
  step_grows s s₁ e = subst (Says (turns_made s.openings)) e (step_says s)

  pub stops_so : (s : State) (o : Outcome) → step t s ≡ stop o → turns_made (openings_of o) ≡ turns_made s.openings
  stops_so s o e = subst (Says (turns_made s.openings)) e (step_says s)

  -- an outcome has made no fewer turns than a state before it
  pub outcome_made : (k : ℕ) (s : State) (o : Outcome) → read_from k t s ≡ some o → turns_made s.openings ≤ turns_made (openings_of o)
  unfolding read_from
  outcome_made zero s o h = let z : ◌≡◌ {A = ℕ} 0 1 = cc in absurd (omega arith)
  outcome_made (suc k) s o h = go (step t s) refl h (outcome_made k)
    where
      go : (x : Step) → step t s ≡ x → and_then x (λ s₁. read_from k t s₁) ≡ some o
          → ((s : State) (o : Outcome) → read_from k t s ≡ some o → turns_made s.openings ≤ turns_made (openings_of o))
          → turns_made s.openings ≤ turns_made (openings_of o)
      go (on s₁) e d ih = let g = (step_grows s s₁ e).least in let q = ih s₁ o d in omega arith
      go (stop p) e d ih = let f : p ≡ o = cc in let g = stops_so s p e in let h = ap (λ (x : Outcome). turns_made (openings_of x)) f in omega arith

-- ---- states on the way
-- the reading comes from one state to another
pub data Reach (t : List ℕ) : State → State → Type 0 where
  here : {s : State} → Reach t s s
  then : {s s₁ s₂ : State} → step t s ≡ on s₁ → Reach t s₁ s₂ → Reach t s s₂

pub joined : {t : List ℕ} {a b c : State} → Reach t a b → Reach t b c → Reach t a c
joined here q = q
joined (then e p) q = then e (joined p q)

pub reach_grows : {t : List ℕ} {a b : State} → Reach t a b → turns_made a.openings ≤ turns_made b.openings
reach_grows here = omega arith
reach_grows {t} {a} {b} (then {s₁ = s₁} e p) = let g = (step_grows t a s₁ e).least in let q = reach_grows p in omega arith

-- THE TURNS OF A SPENT READING ARE THE ALLOWANCE: it stands where so many are made and one more is due
pub record Due (t : List ℕ) (A : ℕ) (s : State) : Type 0 where
  pub last : State
  pub reach : Reach t s last
  pub made : turns_made last.openings ≡ A
  pub over : State
  pub next : step t last ≡ on over
  pub one_more_lem : turns_made over.openings ≡ suc A
