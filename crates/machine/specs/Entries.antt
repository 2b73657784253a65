-- The entries load and fire: docs/RULES.md, sections 'Firing' and 'Refusal numbers'. Each fixes its answer and every lent word, for any words at
-- all. 'A graph is looked at first, by 11 to 15; then comes 17; then 16 for load, 18 for fire and run.'
--
--   refusal_of                         the refusal of a number; Told: a number is 0 or has one
--   state_refusal                      11 to 15, then 17 for a state that is not legal
--   load_refusal, load_state            the number that load answers, and the state after it
--   fire_refusal, fire_answer, fire_state
--   fired_number, fired_flag            the number for each case of the answer of fire; fire_number, fire_flag: of the answer itself
--   FireAnswer, LoadAnswer            what fire and load promise
--   Given                             what loading relies on
--
-- 'It leaves every lent word as it was': each of the states is the lent one where its number is not 0. Of a refusal 'its row is 0 for 11 to 18', so the entries of
-- graphs answer a number alone, and say no row.
-- Assumes nothing.
use Rattle.std.specs.Prelude.{ℕ, pred, ◌<◌, ◌≡◌, refl, Bool, true, false, List, [], ◌∷◌, eqb, ltb, get_or, length, Result, Ok, Err}
use Rattle.std.proofs.Common.{sym, ap, ◌∙◌, eqb-true, arith}
use Rattle.std.proofs.lemmas.Bool.{eqb-false}
use Rattle.refusal.specs.Numbers.{number_of, answer_number}
use Rattle.refusal.specs.declared.Refusal.{Refusal}
use Rattle.refusal.specs.declared.Refusal.TheVariants.{Length, Kind, Spare, Code, Place, Depth, Name, «Type», Open, Room, Shape, Node, Wire, Readers, Sort, Inputs, State, Order, Text}
use Rattle.word.specs.Words.{pick}
use Rattle.graph.specs.Graph.{node_count}
use Rattle.graph.specs.Refusal.{has_shape, rows_right, wires_below, read_once, sorts_agree, graph_refusal}
use Rattle.state.specs.Net.{fire, is_ready, or_else, net_of}
use Rattle.graph.specs.Accepted.{Accepted}
use Rattle.state.specs.Legal.{right_length, legal}
use Rattle.state.specs.Load.{input_count, loaded}
use Rattle.machine.specs.declared.Fired.{Fired}
use Rattle.machine.specs.declared.Fired.TheVariants.{NotReady, Done}

-- the first number that is not 0
abbrev pub first : ℕ → ℕ → ℕ
first a b = pick (eqb a 0) b a

abbrev refusals : List Refusal
refusals = Length ∷ Kind ∷ Spare ∷ Code ∷ Place ∷ Depth ∷ Name ∷ «Type» ∷ Open ∷ Room ∷ Shape ∷ Node ∷ Wire ∷ Readers ∷ Sort ∷ Inputs ∷ State ∷ Order ∷ Text ∷ []

-- The refusal of a number, 1 to 19.
unfoldable pub refusal_of : ℕ → Refusal
refusal_of k = get_or refusals (pred k) Length

-- A number is 0, or a refusal's.
abbrev pub Told : ℕ → Type 0
Told k = (k ≡ 0 → ⊥) → number_of (refusal_of k) ≡ k

pub refusal_is : (e : Refusal) → refusal_of (number_of e) ≡ e
unfolding refusal_of
refusal_is Length = refl
refusal_is Kind = refl
refusal_is Spare = refl
refusal_is Code = refl
refusal_is Place = refl
refusal_is Depth = refl
refusal_is Name = refl
refusal_is «Type» = refl
refusal_is Open = refl
refusal_is Room = refl
refusal_is Shape = refl
refusal_is Node = refl
refusal_is Wire = refl
refusal_is Readers = refl
refusal_is Sort = refl
refusal_is Inputs = refl
refusal_is State = refl
refusal_is Order = refl
refusal_is Text = refl

pub number_above_0 : (e : Refusal) → 0 < number_of e
number_above_0 Length = omega arith
number_above_0 Kind = omega arith
number_above_0 Spare = omega arith
number_above_0 Code = omega arith
number_above_0 Place = omega arith
number_above_0 Depth = omega arith
number_above_0 Name = omega arith
number_above_0 «Type» = omega arith
number_above_0 Open = omega arith
number_above_0 Room = omega arith
number_above_0 Shape = omega arith
number_above_0 Node = omega arith
number_above_0 Wire = omega arith
number_above_0 Readers = omega arith
number_above_0 Sort = omega arith
number_above_0 Inputs = omega arith
number_above_0 State = omega arith
number_above_0 Order = omega arith
number_above_0 Text = omega arith

pub told_pick : (b : Bool) {x y : ℕ} → Told x → Told y → Told (pick b x y)
told_pick true p q = p
told_pick false p q = q

pub told_0 : Told 0
told_0 h = absurd (h refl)

pub told_18 : Told 18
unfolding refusal_of
told_18 h = refl

-- 17 STATE: 'the state's length is not 2W + 4n; for fire and run also: the state is not legal'
unfoldable pub state_refusal : List ℕ → List ℕ → ℕ
state_refusal g s = first (graph_refusal g) (pick (legal g s) 0 17)

graph_told : (g : List ℕ) → Told (graph_refusal g)
unfolding graph_refusal refusal_of
graph_told g =
    told_pick (has_shape g)
    (told_pick (rows_right g)
    (told_pick (wires_below g) (told_pick (read_once g) (told_pick (sorts_agree g) told_0 (λ h. refl)) (λ h. refl)) (λ h. refl)) (λ h. refl)) (λ h. refl)

pub state_told : (g s : List ℕ) → Told (state_refusal g s)
unfolding state_refusal refusal_of
state_told g s = told_pick (eqb (graph_refusal g) 0) (told_pick (legal g s) told_0 (λ h. refl)) (graph_told g)

-- 16 INPUTS: 'loading: there are more or fewer input words than inputs among the starts'
unfoldable pub load_refusal : List ℕ → List ℕ → List ℕ → ℕ
load_refusal g inputs s = first (graph_refusal g) (first (pick (right_length g s) 0 17) (pick (eqb (length inputs) (input_count g)) 0 16))

unfoldable pub load_state : List ℕ → List ℕ → List ℕ → List ℕ
load_state g inputs s = pick (eqb (load_refusal g inputs s) 0) (loaded g inputs) s

-- 18 ORDER: 'fire: the node is not below n'
unfoldable pub fire_refusal : List ℕ → List ℕ → ℕ → ℕ
fire_refusal g s i = first (state_refusal g s) (pick (ltb i (node_count g)) 0 18)

unfoldable pub fire_answer : List ℕ → List ℕ → ℕ → Result Fired Refusal
fire_answer g s i = pick (eqb (fire_refusal g s i) 0) (Ok (pick (is_ready (fire (net_of g) i s)) Done NotReady)) (Err (refusal_of (fire_refusal g s i)))

unfoldable pub fire_state : List ℕ → List ℕ → ℕ → List ℕ
fire_state g s i = pick (eqb (fire_refusal g s i) 0) (or_else (fire (net_of g) i s) s) s

-- The answer of fire by number: the refusal's number or 0, and whether the node fired
abbrev pub fired_number : Result Fired Refusal → ℕ
fired_number r = answer_number r

abbrev pub fired_flag : Result Fired Refusal → Bool
fired_flag (Err e) = false
fired_flag (Ok NotReady) = false
fired_flag (Ok Done) = true

-- ---- the numbers of the answer of fire

fire_told : (g s : List ℕ) (i : ℕ) → Told (fire_refusal g s i)
unfolding fire_refusal
fire_told g s i = told_pick (eqb (state_refusal g s) 0) (told_pick (ltb i (node_count g)) told_0 told_18) (state_told g s)

chosen : (b : Bool) (k : ℕ) (t : Bool) → eqb k 0 ≡ b → Told k
    → (fired_number (pick b (Ok (pick t Done NotReady)) (Err (refusal_of k))) ≡ k) × (fired_flag (pick b (Ok (pick t Done NotReady)) (Err (refusal_of k))) ≡ pick b t false)
chosen true k true e n = (sym (eqb-true k 0 e), refl)
chosen true k false e n = (sym (eqb-true k 0 e), refl)
chosen false k t e n = (n (eqb-false k 0 e), refl)

pub fire_number : (g s : List ℕ) (i : ℕ) → fired_number (fire_answer g s i) ≡ fire_refusal g s i
unfolding fire_answer
fire_number g s i = (chosen (eqb (fire_refusal g s i) 0) (fire_refusal g s i) (is_ready (fire (net_of g) i s)) refl (fire_told g s i)).0

pub fire_flag : (g s : List ℕ) (i : ℕ) → fired_flag (fire_answer g s i) ≡ pick (eqb (fire_refusal g s i) 0) (is_ready (fire (net_of g) i s)) false
unfolding fire_answer
fire_flag g s i = (chosen (eqb (fire_refusal g s i) 0) (fire_refusal g s i) (is_ready (fire (net_of g) i s)) refl (fire_told g s i)).1

-- what fire promises of its answer and of the lent state
pub record FireAnswer (g s : List ℕ) (i : ℕ) (r : Result Fired Refusal) (exit : List ℕ) : Type 0 where
  pub answer : r ≡ fire_answer g s i
  pub number : fired_number r ≡ fire_refusal g s i
  pub fired : fired_flag r ≡ pick (eqb (fire_refusal g s i) 0) (is_ready (fire (net_of g) i s)) false
  pub state : exit ≡ fire_state g s i

pub fire_answers : (g s : List ℕ) (i : ℕ) (r : Result Fired Refusal) (exit : List ℕ) → r ≡ fire_answer g s i → exit ≡ fire_state g s i → FireAnswer g s i r exit
fire_answers g s i r exit e h =
    record { answer = e; number = ap fired_number e ∙ fire_number g s i; fired = ap fired_flag e ∙ fire_flag g s i; state = h }

-- what load promises of its answer and of the lent state
pub record LoadAnswer (g inputs s : List ℕ) (r : ℕ) (exit : List ℕ) : Type 0 where
  pub number : r ≡ load_refusal g inputs s
  pub state : exit ≡ load_state g inputs s

-- what loading may rely on: the graph is accepted, and there is one word per input
pub record Given (g : List ℕ) (len : ℕ) : Type 0 where
  pub accepted : Accepted g
  pub inputs : len ≡ input_count g
