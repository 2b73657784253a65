-- What the code's structs say, and readiness apart from decision: a firing is decided by kind, phase and flag from the words on the inputs,
-- full or not; it is made if the inputs it takes are full and the outputs it fills have room. `ready_apart` says that this is `perform`, for
-- every program.
--
--   token_of, view_of, shown         an optional word, Seen and an optional Act of the code, as an optional word, a View and an optional Effect
--   decided                        a program followed by the words on the inputs, whether they are there or not
--   when_ready                      an effect, if its inputs are full and its outputs have room
--   ready_apart                    perform p v ≡ when_ready v (decided p (the words of v))
--
-- Assumes nothing.
use Rattle.std.specs.Prelude.{◌≡◌, refl, Bool, true, false, ◌&&◌, ℕ, List, [], ◌∷◌, get_or, Option as Maybe, None, Some, is_some}
use Rattle.std.specs.Option.{unwrap_or}
use Rattle.std.proofs.Common.{sym, ap, ◌∙◌}
use Rattle.std.proofs.Math.Option.{Option, none, some}
use Rattle.word.specs.Words.{pick}
use Rattle.step.specs.Kinds.{Kind, kind_of, Input, in0, in1, in2}
use Rattle.step.specs.Firing.{View, Effect, Program, stop, ask, give, perform, taking, also_taking, with_word, waits, giving, fillable}
use Rattle.step.specs.Machines.{program}
use Rattle.step.specs.declared.Record.{Record}
use Rattle.step.specs.declared.Seen.{Seen}
use Rattle.step.specs.declared.Act.{Act}

-- An optional word of the code, as these definitions have it.
abbrev pub token_of : Maybe ℕ → Option ℕ
token_of None = none
token_of (Some w) = some w

-- what stands on input k of these, and what is given on output k; none past the last
abbrev pub given : List (Maybe ℕ) → ℕ → Option ℕ
given ts k = token_of (get_or ts k None)

abbrev pub view_of : Seen → Record → View
view_of s r =
    record { word0 = given s.inputs 0; word1 = given s.inputs 1; word2 = given s.inputs 2; room0 = get_or s.room 0 false; room1 = get_or s.room 1 false; own = r }

abbrev pub effect : List Bool → Option ℕ → Option ℕ → Record → Effect
effect t x y r = record { takes0 = get_or t 0 false; takes1 = get_or t 1 false; takes2 = get_or t 2 false; gives0 = x; gives1 = y; next = r }

abbrev pub effect_of : Act → Effect
effect_of a = effect a.takes (given a.gives 0) (given a.gives 1) a.next

abbrev pub shown : Maybe Act → Option Effect
shown None = none
shown (Some a) = some (effect_of a)

-- the words on the inputs: 0 of an input that is empty
abbrev pub words_seen : Seen → List ℕ
words_seen s = unwrap_or (get_or s.inputs 0 None) 0 ∷ unwrap_or (get_or s.inputs 1 None) 0 ∷ unwrap_or (get_or s.inputs 2 None) 0 ∷ []

abbrev pub words_in : List ℕ → Input → ℕ
words_in ws in0 = get_or ws 0 0
words_in ws in1 = get_or ws 1 0
words_in ws in2 = get_or ws 2 0

abbrev pub words_of : Seen → Input → ℕ
words_of s k = words_in (words_seen s) k

abbrev pub plain : Option ℕ → Option ℕ → Record → Effect
plain x y r = record { takes0 = false; takes1 = false; takes2 = false; gives0 = x; gives1 = y; next = r }

unfoldable pub decided : Program → (Input → ℕ) → Option Effect
decided stop w = none
decided (ask k f) w = also_taking k (decided (f (w k)) w)
decided (give x y r) w = some (plain x y r)

abbrev pub decided_by : Option Kind → ℕ → Record → (Input → ℕ) → Option Effect
decided_by none code r w = none
decided_by (some κ) code r w = decided (program κ code r) w

abbrev pub decided_of : ℕ → ℕ → Record → (Input → ℕ) → Option Effect
decided_of kind code r w = decided_by (kind_of kind) code r w

abbrev pub unless : Bool → Bool → Bool
unless true b = b
unless false b = true

-- every input it would take is full, and every output it would fill has room
unfoldable pub ready : Seen → Effect → Bool
ready s e =
    (unless e.takes0 (is_some (get_or s.inputs 0 None)) && (unless e.takes1 (is_some (get_or s.inputs 1 None)) && unless e.takes2 (is_some (get_or s.inputs 2 None))))
    && (fillable e.gives0 (get_or s.room 0 false) && fillable e.gives1 (get_or s.room 1 false))

abbrev pub when_ready : Seen → Option Effect → Option Effect
when_ready s none = none
when_ready s (some e) = pick (ready s e) (some e) none

-- ---- readiness apart from decision

unless_true : (t : Bool) → unless t true ≡ true
unless_true true = refl
unless_true false = refl

never : (a : Bool) → (a && false) ≡ false
never true = refl
never false = refl

abbrev full : Seen → Input → Bool
full s in0 = is_some (get_or s.inputs 0 None)
full s in1 = is_some (get_or s.inputs 1 None)
full s in2 = is_some (get_or s.inputs 2 None)

-- an input that is full may be taken too; one that is empty may not
taking_full : (s : Seen) (k : Input) (e : Effect) → full s k ≡ true → ready s (taking k e) ≡ ready s e
unfolding ready
taking_full s in0 e h = simp (h, unless_true e.takes0)
taking_full s in1 e h = simp (h, unless_true e.takes1)
taking_full s in2 e h = simp (h, unless_true e.takes2)

taking_empty : (s : Seen) (k : Input) (e : Effect) → full s k ≡ false → ready s (taking k e) ≡ false
unfolding ready
taking_empty s in0 e h = simp h
taking_empty s in1 e h = simp (h, never)
taking_empty s in2 e h = simp (h, never)

also_full : (s : Seen) (k : Input) (o : Option Effect) → full s k ≡ true → also_taking k (when_ready s o) ≡ when_ready s (also_taking k o)
also_full s k none h = refl
also_full s k (some e) h = rw (taking_full s k e h) (either (ready s e))
  where
    either : (b : Bool) → also_taking k (pick b (some e) none) ≡ pick b (some (taking k e)) none
    either true = refl
    either false = refl

also_empty : (s : Seen) (k : Input) (o : Option Effect) → full s k ≡ false → when_ready s (also_taking k o) ≡ none
also_empty s k none h = refl
also_empty s k (some e) h = rw (taking_empty s k e h)

giving_ready : (a b : Bool) (x y : Option ℕ) (r : Record) → giving a b x y r ≡ pick (a && b) (some (plain x y r)) none
giving_ready true true x y r = refl
giving_ready true false x y r = refl
giving_ready false b x y r = refl

full_or_not : (t : Maybe ℕ) → token_of t ≡ pick (is_some t) (some (unwrap_or t 0)) none
full_or_not None = refl
full_or_not (Some w) = refl

waits_full : (s : Seen) (r : Record) (k : Input) → waits (view_of s r) k ≡ pick (full s k) (some (words_of s k)) none
waits_full s r in0 = full_or_not (get_or s.inputs 0 None)
waits_full s r in1 = full_or_not (get_or s.inputs 1 None)
waits_full s r in2 = full_or_not (get_or s.inputs 2 None)

asking : (s : Seen) (k : Input) (g : ℕ → Option Effect) (o : Option Effect) → g (words_of s k) ≡ also_taking k (when_ready s o) → (b : Bool) → full s k ≡ b
    → with_word (pick b (some (words_of s k)) none) g ≡ when_ready s (also_taking k o)
asking s k g o h true e = h ∙ also_full s k o e
asking s k g o h false e = sym (also_empty s k o e)

pub ready_apart : (p : Program) (s : Seen) (r : Record) → perform p (view_of s r) ≡ when_ready s (decided p (words_of s))
unfolding decided ready
ready_apart stop s r = refl
ready_apart (give x y q) s r = giving_ready (fillable x (get_or s.room 0 false)) (fillable y (get_or s.room 1 false)) x y q
ready_apart (ask k f) s r =
    ap (λ (t : Option ℕ). with_word t (λ x. also_taking k (perform (f x) (view_of s r)))) (waits_full s r k)
    ∙ asking s k (λ x. also_taking k (perform (f x) (view_of s r))) (decided (f (words_of s k)) (words_of s))
    (ap (also_taking k) (ready_apart (f (words_of s k)) s r)) (full s k) refl
