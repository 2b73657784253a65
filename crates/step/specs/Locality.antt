-- Locality, the one law that the theorems about any order know of the machines: what is taken was there, what is given has room, and nothing
-- else that the node sees matters.
--
--   Local                     the law, of any step
--   every_program_is_local    it holds of every program, so a new kind or another edition needs no proof of its own
--   step_is_local             so it holds of each of the nine kinds
--
-- Idea: a program looks at an input only by taking it, and at an output only by giving on it.
-- Assumes nothing.
use Rattle.std.specs.Prelude.{◌≡◌, refl, ◌≢◌, ◌⊎◌, Bool, true, false, ℕ}
use Rattle.std.proofs.Common.{sym, ap, ◌∙◌, subst, inl, inr, arith}
use Rattle.std.proofs.Math.Option.{Option, none, some}
use Rattle.step.specs.Kinds.{Kind, Input, in0, in1, in2, Output, out0, out1}
use Rattle.step.specs.Firing.{View, Effect, Program, stop, ask, give, perform, taking, also_taking, with_word, waits, room, takes, gives, giving, fillable}
use Rattle.step.specs.Machines.{program, step, step_by}
use Rattle.step.specs.declared.Record.{Record}

pub record Local (node : View → Option Effect) : Type 0 where
  -- what is taken was there
  pub full : (v : View) (e : Effect) → node v ≡ some e → (k : Input) → takes e k ≡ true → waits v k ≢ none
  -- what is given has room
  pub free : (v : View) (e : Effect) → node v ≡ some e → (k : Output) (x : ℕ) → gives e k ≡ some x → room v k ≡ true
  -- where the record and what is taken are the same, and there is room for what is given, it fires with the same effect
  pub same : (v v' : View) (e : Effect) → node v ≡ some e → v'.own ≡ v.own
      → ((k : Input) → takes e k ≡ true → waits v' k ≡ waits v k)
      → ((k : Output) (x : ℕ) → gives e k ≡ some x → room v' k ≡ true) → node v' ≡ some e

-- ---- what performing a program has done

abbrev pub plain : Option ℕ → Option ℕ → Record → Effect
plain x y r = record { takes0 = false; takes1 = false; takes2 = false; gives0 = x; gives1 = y; next = r }

-- a program that gives: there was room
pub giving_inv : (a b : Bool) (x y : Option ℕ) (r : Record) (e : Effect) → giving a b x y r ≡ some e → (a ≡ true) × (b ≡ true) × (plain x y r ≡ e)
giving_inv true true x y r e h = (refl, refl, cc)
giving_inv true false x y r e h = let z : ◌≡◌ {A = ℕ} 0 1 = cc in absurd (omega arith)
giving_inv false b x y r e h = let z : ◌≡◌ {A = ℕ} 0 1 = cc in absurd (omega arith)

-- a program that asks: the word was there, and the rest was performed
pub asking_inv : (k : Input) (f : ℕ → Program) (v : View) (e : Effect) → perform (ask k f) v ≡ some e
    → (x : ℕ) × (d : Effect) × (waits v k ≡ some x) × (perform (f x) v ≡ some d) × (taking k d ≡ e)
asking_inv k f v e h = go (waits v k) refl h
  where
    Done : Type 0
    Done = (x : ℕ) × (d : Effect) × (waits v k ≡ some x) × (perform (f x) v ≡ some d) × (taking k d ≡ e)

    after : (x : ℕ) → waits v k ≡ some x → (o : Option Effect) → perform (f x) v ≡ o → also_taking k o ≡ some e → Done
    after x p none q g = let z : ◌≡◌ {A = ℕ} 0 1 = cc in absurd (omega arith)
    after x p (some d) q g = (x, d, p, q, cc)

    go : (o : Option ℕ) → waits v k ≡ o → with_word o (λ x. also_taking k (perform (f x) v)) ≡ some e → Done
    go none p g = let z : ◌≡◌ {A = ℕ} 0 1 = cc in absurd (omega arith)
    go (some x) p g = after x p (perform (f x) v) refl g

-- ---- taking one input more

taking_self : (k : Input) (e : Effect) → takes (taking k e) k ≡ true
taking_self in0 e = refl
taking_self in1 e = refl
taking_self in2 e = refl

taking_more : (k : Input) (e : Effect) (l : Input) → takes e l ≡ true → takes (taking k e) l ≡ true
taking_more in0 e in0 h = refl
taking_more in0 e in1 h = h
taking_more in0 e in2 h = h
taking_more in1 e in0 h = h
taking_more in1 e in1 h = refl
taking_more in1 e in2 h = h
taking_more in2 e in0 h = h
taking_more in2 e in1 h = h
taking_more in2 e in2 h = refl

taking_cases : (k : Input) (e : Effect) (l : Input) → takes (taking k e) l ≡ true → (l ≡ k) ⊎ (takes e l ≡ true)
taking_cases in0 e in0 h = inl refl
taking_cases in0 e in1 h = inr h
taking_cases in0 e in2 h = inr h
taking_cases in1 e in0 h = inr h
taking_cases in1 e in1 h = inl refl
taking_cases in1 e in2 h = inr h
taking_cases in2 e in0 h = inr h
taking_cases in2 e in1 h = inr h
taking_cases in2 e in2 h = inl refl

pub taking_gives : (k : Input) (e : Effect) (l : Output) → gives (taking k e) l ≡ gives e l
taking_gives in0 e out0 = refl
taking_gives in0 e out1 = refl
taking_gives in1 e out0 = refl
taking_gives in1 e out1 = refl
taking_gives in2 e out0 = refl
taking_gives in2 e out1 = refl

pub taking_next : (k : Input) (e : Effect) → (taking k e).next ≡ e.next
taking_next in0 e = refl
taking_next in1 e = refl
taking_next in2 e = refl

plain_takes : (x y : Option ℕ) (r : Record) (k : Input) → takes (plain x y r) k ≡ false
plain_takes x y r in0 = refl
plain_takes x y r in1 = refl
plain_takes x y r in2 = refl

fillable_room : (o : Option ℕ) (b : Bool) (x : ℕ) → fillable o b ≡ true → o ≡ some x → b ≡ true
fillable_room none b x h e = let z : ◌≡◌ {A = ℕ} 0 1 = cc in absurd (omega arith)
fillable_room (some y) b x h e = h

room_fillable : (o : Option ℕ) (b : Bool) → ((x : ℕ) → o ≡ some x → b ≡ true) → fillable o b ≡ true
room_fillable none b h = refl
room_fillable (some y) b h = h y refl

plain_room : (x y : Option ℕ) (r : Record) (v : View) → fillable x v.room0 ≡ true → fillable y v.room1 ≡ true
    → (k : Output) (z : ℕ) → gives (plain x y r) k ≡ some z → room v k ≡ true
plain_room x y r v a b out0 z g = fillable_room x v.room0 z a g
plain_room x y r v a b out1 z g = fillable_room y v.room1 z b g

giving_is : (a b : Bool) (x y : Option ℕ) (r : Record) → a ≡ true → b ≡ true → giving a b x y r ≡ some (plain x y r)
giving_is a b x y r p q = rw (p, q)

-- ---- the law, by induction on the program

program_full : (p : Program) (v : View) (e : Effect) → perform p v ≡ some e → (k : Input) → takes e k ≡ true → waits v k ≢ none
program_full stop v e h k t n = let z : ◌≡◌ {A = ℕ} 0 1 = cc in omega arith
program_full (give x y r) v e h k t n =
    let g = giving_inv (fillable x v.room0) (fillable y v.room1) x y r e h in
    let m : takes (plain x y r) k ≡ true = subst (λ (d : Effect). takes d k ≡ true) (sym g.2) t in
    let f = plain_takes x y r k in
    let z : ◌≡◌ {A = ℕ} 0 1 = cc in omega arith
program_full (ask l f) v e h k t n =
    let g = asking_inv l f v e h in
    elim (taking_cases l g.1 k (subst (λ (d : Effect). takes d k ≡ true) (sym g.4) t)) [
      | inl q ↦
          let w = g.2 in
          let n' : waits v l ≡ none = subst (λ (j : Input). waits v j ≡ none) q n in
          let z : ◌≡◌ {A = ℕ} 0 1 = cc in omega arith
      | inr q ↦ program_full (f g.0) v g.1 g.3 k q n
    ]

program_free : (p : Program) (v : View) (e : Effect) → perform p v ≡ some e → (k : Output) (x : ℕ) → gives e k ≡ some x → room v k ≡ true
program_free stop v e h k x t = let z : ◌≡◌ {A = ℕ} 0 1 = cc in absurd (omega arith)
program_free (give x y r) v e h k z t =
    let g = giving_inv (fillable x v.room0) (fillable y v.room1) x y r e h in
    plain_room x y r v g.0 g.1 k z (subst (λ (d : Effect). gives d k ≡ some z) (sym g.2) t)
program_free (ask l f) v e h k x t =
    let g = asking_inv l f v e h in
    program_free (f g.0) v g.1 g.3 k x (sym (taking_gives l g.1 k) ∙ subst (λ (d : Effect). gives d k ≡ some x) (sym g.4) t)

program_same : (p : Program) (v v' : View) (e : Effect) → perform p v ≡ some e
    → ((k : Input) → takes e k ≡ true → waits v' k ≡ waits v k)
    → ((k : Output) (x : ℕ) → gives e k ≡ some x → room v' k ≡ true) → perform p v' ≡ some e
program_same stop v v' e h a b = h
program_same (give x y r) v v' e h a b =
    let g = giving_inv (fillable x v.room0) (fillable y v.room1) x y r e h in
    let b' = subst (λ (d : Effect). (k : Output) (x : ℕ) → gives d k ≡ some x → room v' k ≡ true) (sym g.2) b in
    giving_is (fillable x v'.room0) (fillable y v'.room1) x y r (room_fillable x v'.room0 (b' out0)) (room_fillable y v'.room1 (b' out1)) ∙ ap some g.2
program_same (ask l f) v v' e h a b =
    let g = asking_inv l f v e h in
    let a' : (k : Input) → takes (taking l g.1) k ≡ true → waits v' k ≡ waits v k
    = subst (λ (d : Effect). (k : Input) → takes d k ≡ true → waits v' k ≡ waits v k) (sym g.4) a in
    let b' : (k : Output) (x : ℕ) → gives (taking l g.1) k ≡ some x → room v' k ≡ true
    = subst (λ (d : Effect). (k : Output) (x : ℕ) → gives d k ≡ some x → room v' k ≡ true) (sym g.4) b in
    let w : waits v' l ≡ some g.0 = a' l (taking_self l g.1) ∙ g.2 in
    let ih = program_same (f g.0) v v' g.1 g.3 (λ k t. a' k (taking_more l g.1 k t)) (λ k x t. b' k x (taking_gives l g.1 k ∙ t)) in
    ap (λ (o : Option ℕ). with_word o (λ x. also_taking l (perform (f x) v'))) w ∙ ap (also_taking l) ih ∙ ap some g.4

-- THE LAW: a node whose program depends on its record alone is local
pub every_program_is_local : (f : Record → Program) → Local (λ v. perform (f v.own) v)
every_program_is_local f =
    record {
      full = λ v e h. program_full (f v.own) v e h;
      free = λ v e h. program_free (f v.own) v e h;
      same = λ v v' e h r a b. program_same (f v'.own) v v' e (subst (λ (q : Record). perform (f q) v ≡ some e) (sym r) h) a b;
    }

pub step_is_local : (κ : Kind) (code : ℕ) → Local (step κ code)
unfolding step
step_is_local κ code = every_program_is_local (program κ code)

-- what is never ready is local
pub nothing_is_local : Local (λ v. none)
nothing_is_local =
    record {
      full = λ v e h k t n. let z : ◌≡◌ {A = ℕ} 0 1 = cc in omega arith;
      free = λ v e h k x t. let z : ◌≡◌ {A = ℕ} 0 1 = cc in absurd (omega arith);
      same = λ v v' e h r a b. h;
    }

pub any_step_is_local : (o : Option Kind) (code : ℕ) → Local (step_by o code)
any_step_is_local none code = nothing_is_local
any_step_is_local (some κ) code = step_is_local κ code
