-- A STEP OF A LOOP, from three tables of effects. At a FOR and at an END the loop's nodes fire in three stages; a table says what each role does at
-- its stage. What the tables must satisfy is a record, whose fields are computed from the tables; that they then make the step is proved once.
--
--   Course                    what the tables must satisfy
--   made                      a course is made: the firings, the configuration where the step leads, the words on the conditions
--
-- The idea. Every token that a node of the loop finds is known: an inner link holds what the stages before have left on it, a use of the row where
-- the step begins holds its word until it is taken, and a use of the other row is empty. So whether a stage is ready is one computed equation a role.
-- Of the other uses, the loop takes none, and gives on a value's wire only what is due where the step leads.
-- Assumes nothing.
use Rattle.std.specs.Prelude.{◌≡◌, refl, ◌≢◌, ◌⊎◌, Bool, true, false, not, ◌&&◌, ◌||◌, List, ◌++◌, ℕ, suc, ◌≤◌, ◌<◌, eqb}
use Rattle.std.proofs.Common.{sym, ap, ap₂, ◌∙◌, subst, inl, inr, arith}
use Rattle.std.proofs.Math.Option.{Option, none, some}
use Rattle.std.proofs.Math.Decide.{dec_le}
use Rattle.word.specs.Words.{update}
use Rattle.step.specs.Kinds.{Input, in0, in1, in2, Output, out0, out1}
use Rattle.step.specs.Firing.{Effect, perform}
use Rattle.step.specs.Machines.{rest, holding}
use Rattle.step.specs.declared.Record.{Record}
use Rattle.table.specs.Bodies.{Row, for, arg, next}
use Rattle.lowered.specs.Roles.{Role, stream, gate, guard, copy_split, copy_invariant, carry, arg_split, output, Use, into}
use Rattle.uses.specs.Machine.{State, give_by, take_by, next_by, put, unless_taken, listed, given, taken, Ready}
use Rattle.faithful.specs.Table.{Table, val, inner, absent, IsFor, wire_of, since, slot, Real, program_of, plan}
use Rattle.faithful.specs.Members.{in_loop}
use Rattle.faithful.specs.Good.{Used, Good}
use Rattle.faithful.specs.Gamma.{Env, stream_held, Live, Inside, Shows, scope, held, Gamma, shows_same, shows_none, shows_some, for_not_end}
use Rattle.faithful.specs.Rows.{sight, put_drop_none, real_body, recs_same, token_at_lem, Path}
use Rattle.faithful.specs.Loop.{only, reads_not, Fill, fills_index, fills_arg, fills_copy, fills_exit, fills_none, fill, Taking, taken_by, taken_by_none, takes_yes, taking}
use Rattle.faithful.specs.Stages.{drop_none, drop_either, put_none, no_gift, put_late, put_nothing, Effects, Link, tokv, own_in, by_role, real_in, ready_all, Runs, to_runs, S1, S2, S3, at1, at2, inner3, room2, room3, own2, own3, own_still, fired3, hist3, say_if}
use Rattle.faithful.specs.Ports.{Port, link, waits, nothing, port, PortIs, port_is, kinds}
use Rattle.faithful.specs.Turn.{From, at_a_for, at_an_end, To, turn, exit, row_of, body_of, row_to, words_to, Stays, and_both, is_next, nexts_to, nexts_same, turn_env, turn_low, turn_idx, turn_arg, begins_edge, leads_edge, live_same, word_same, inside_same, outer_same, gone, body_live, exit_live, scope_not}

-- ---- tests on tables

-- what is given finds room
abbrev pub finds : Option ℕ → Option ℕ → Bool
finds none t = true
finds (some y) none = true
finds (some y) (some z) = false

abbrev pub empty : Option ℕ → Bool
empty none = true
empty (some y) = false

abbrev never : Bool → Bool → Bool → Bool
never t1 t2 t3 = not t1 && (not t2 && not t3)

-- at which stages a step takes a use that waits until a row: of the row where it begins, before the loop gives there; of the other, never
abbrev pub takes_rightly : (from at : From) → Bool → Bool → Bool → Bool
takes_rightly at_a_for at_a_for t1 t2 t3 = (t1 || t2) && not t3
takes_rightly at_a_for at_an_end t1 t2 t3 = never t1 t2 t3
takes_rightly at_an_end at_a_for t1 t2 t3 = never t1 t2 t3
takes_rightly at_an_end at_an_end t1 t2 t3 = t1 && (not t2 && not t3)

finds_none : (o t : Option ℕ) (y : ℕ) → finds o t ≡ true → o ≡ some y → t ≡ none
finds_none none t y h e = let z : ◌≡◌ {A = ℕ} 0 1 = cc in absurd (omega arith)
finds_none (some x) none y h e = refl
finds_none (some x) (some z) y h e = let z : ◌≡◌ {A = ℕ} 0 1 = cc in absurd (omega arith)

empty_none : (o : Option ℕ) → empty o ≡ true → o ≡ none
empty_none none h = refl
empty_none (some y) h = let z : ◌≡◌ {A = ℕ} 0 1 = cc in absurd (omega arith)

not_true : (b : Bool) → not b ≡ true → b ≡ false
not_true true h = let z : ◌≡◌ {A = ℕ} 0 1 = cc in absurd (omega arith)
not_true false h = refl

and_three : (a b c : Bool) → (a && (b && c)) ≡ true → (a ≡ true) × (b ≡ true) × (c ≡ true)
and_three a b c h = let x = and_both a (b && c) h in let y = and_both b c x.1 in (x.0, y.0, y.1)

never_taken : (t1 t2 t3 : Bool) → never t1 t2 t3 ≡ true → (t1 ≡ false) × (t2 ≡ false) × (t3 ≡ false)
never_taken t1 t2 t3 h = let x = and_three (not t1) (not t2) (not t3) h in (not_true t1 x.0, not_true t2 x.1, not_true t3 x.2)

not_late : (from at : From) (t1 t2 t3 : Bool) → takes_rightly from at t1 t2 t3 ≡ true → t3 ≡ false
not_late at_a_for at_a_for t1 t2 t3 h = not_true t3 (and_both (t1 || t2) (not t3) h).1
not_late at_a_for at_an_end t1 t2 t3 h = (never_taken t1 t2 t3 h).2
not_late at_an_end at_a_for t1 t2 t3 h = (never_taken t1 t2 t3 h).2
not_late at_an_end at_an_end t1 t2 t3 h = not_true t3 (and_three t1 (not t2) (not t3) h).2

module _ (tb : Table) (g : Good tb) (L s t b u c : ℕ) (q : tb.row L ≡ for s t b u c) (env : Env) where
  abbrev isfor : IsFor tb L
  isfor = (s, t, b, u, c, q)

  -- what a node of the loop holds where the step begins, and where it leads
  abbrev pub holds : From → Role → Record
  holds at_a_for n = rest
  holds at_an_end n = held tb n env

  abbrev pub holds_to : To → Role → Record
  holds_to (turn x h) n = held tb n (turn_env tb L x h env)
  holds_to (exit h) n = rest

  -- what is due on the wire of the index, of an ARG, of a copy, of a NEXT
  abbrev pub due_index : To → Option ℕ
  due_index (turn x h) = some x
  due_index (exit h) = none

  abbrev pub due_arg : To → ℕ → Option ℕ
  due_arg (turn x h) a = some (h a)
  due_arg (exit h) a = none

  abbrev pub due_copy : To → ℕ → Option ℕ
  due_copy (turn x h) v = some (env v)
  due_copy (exit h) v = none

  abbrev pub due_next : To → ℕ → Option ℕ
  due_next (turn x h) v = none
  due_next (exit h) v = some (h v)

  -- the word of a use that waits until a row, where the step begins
  abbrev pub word_at : (from at : From) → ℕ → Option ℕ
  word_at at_a_for at_a_for v = some (env v)
  word_at at_a_for at_an_end v = none
  word_at at_an_end at_a_for v = none
  word_at at_an_end at_an_end v = some (env v)

  module _ (from : From) (to : To) (e1 e2 e3 : Effects) where
    -- what the stages leave on a link to output o of m, whose other end is taken at them or not
    abbrev pub flow1 : Role → Output → Bool → Option ℕ
    flow1 m o t1 = put (give_by (e1 m) o) (unless_taken t1 none)

    abbrev pub flow2 : Role → Output → Bool → Bool → Option ℕ
    flow2 m o t1 t2 = put (give_by (e2 m) o) (unless_taken t2 (flow1 m o t1))

    abbrev pub flow3 : Role → Output → Bool → Bool → Bool → Option ℕ
    flow3 m o t1 t2 t3 = put (give_by (e3 m) o) (unless_taken t3 (flow2 m o t1 t2))

    -- what stands at an input before each stage; y where nothing is known
    abbrev pub look1 : Port → Option ℕ → Option ℕ
    look1 (link m o) y = none
    look1 (waits at v) y = word_at from at v
    look1 nothing y = y

    abbrev pub look2 : Port → Bool → Option ℕ → Option ℕ
    look2 (link m o) took y = flow1 m o took
    look2 (waits at v) took y = unless_taken took (word_at from at v)
    look2 nothing took y = y

    abbrev pub look3 : Port → Bool → Bool → Option ℕ → Option ℕ
    look3 (link m o) t1 t2 y = flow2 m o t1 t2
    look3 (waits at v) t1 t2 y = y
    look3 nothing t1 t2 y = y

    -- a role does nothing at a stage, or its program does what the table says
    abbrev pub Does : Effects → Record → (Input → Option ℕ → Option ℕ) → Role → Type 0
    Does e r see n = (e n ≡ none) ⊎ ((y0 y1 y2 : Option ℕ) → perform (program_of tb n r) (sight (see in0 y0) (see in1 y1) (see in2 y2) r) ≡ e n)

    -- an inner link has room for what is put on it, and none is left over; a value's use is taken when it must be
    abbrev pub serves : Port → Bool → Bool → Bool → Bool
    serves (link m o) t1 t2 t3 = finds (give_by (e2 m) o) (flow1 m o t1) && (finds (give_by (e3 m) o) (flow2 m o t1 t2) && empty (flow3 m o t1 t2 t3))
    serves (waits at v) t1 t2 t3 = takes_rightly from at t1 t2 t3
    serves nothing t1 t2 t3 = true

    abbrev pub serves_at : Role → Input → Bool
    serves_at n k = serves (port tb s t b n k) (take_by (e1 n) k) (take_by (e2 n) k) (take_by (e3 n) k)

    -- of a role: what it does at the three stages, its inputs, and the record that it is left with
    abbrev pub Fits : Role → Type 0
    Fits n =
        Does e1 (holds from n) (λ k. look1 (port tb s t b n k)) n
        × Does e2 (next_by (e1 n) (holds from n)) (λ k. look2 (port tb s t b n k) (take_by (e1 n) k)) n
        × Does e3 (next_by (e2 n) (next_by (e1 n) (holds from n))) (λ k. look3 (port tb s t b n k) (take_by (e1 n) k) (take_by (e2 n) k)) n
        × ((serves_at n in0 && (serves_at n in1 && serves_at n in2)) ≡ true)
        × (next_by (e3 n) (next_by (e2 n) (next_by (e1 n) (holds from n))) ≡ holds_to to n)

    -- on a value's wire a word is put once, not at the first stage, and it is the one that is due
    abbrev pub Gives : Role → Output → Option ℕ → Type 0
    Gives n o due = (give_by (e1 n) o ≡ none) × (finds (give_by (e3 n) o) (give_by (e2 n) o) ≡ true) × (put (give_by (e3 n) o) (give_by (e2 n) o) ≡ due)

    -- WHAT THE TABLES MUST SATISFY
    pub record Course : Type 0 where
      pub of_stream : Fits (stream L)
      pub of_gate : Fits (gate L)
      pub of_guard : Fits (guard L)
      pub of_split : (v : ℕ) → tb.carried L v ≡ true → Fits (copy_split L v)
      pub of_invariant : (v : ℕ) → tb.carried L v ≡ true → Fits (copy_invariant L v)
      pub of_carry : (a i : ℕ) → tb.row a ≡ arg i → tb.loop a ≡ L → Fits (carry a)
      pub of_arg : (a i : ℕ) → tb.row a ≡ arg i → tb.loop a ≡ L → Fits (arg_split a)
      pub index : Gives (gate L) out0 (due_index to)
      pub args : (a : ℕ) → Gives (arg_split a) out0 (due_arg to a)
      pub copies : (v : ℕ) → Gives (copy_invariant L v) out0 (due_copy to v)
      pub nexts : (v : ℕ) → Gives (arg_split (tb.arg_of v)) out1 (due_next to v)

  -- ---- THE STEP
  module _ (from : From) (to : To) (e1 e2 e3 : Effects) (C : Course from to e1 e2 e3) (σ : State) (G : Gamma tb (row_of tb L from) env σ) where
    abbrev T1 : State
    T1 = S1 tb g L isfor e1 e2 e3 σ G.inners

    abbrev T2 : State
    T2 = S2 tb g L isfor e1 e2 e3 σ G.inners

    abbrev T3 : State
    T3 = S3 tb g L isfor e1 e2 e3 σ G.inners

    abbrev pc' : ℕ
    pc' = row_to tb L to

    abbrev env' : Env
    env' = words_to tb L env to

    -- what a stage takes at a use, and gives on the wire of a value
    abbrev took : Effects → Use → Bool
    took e p = taken (only tb L e) p

    abbrev gave : Effects → ℕ → ℕ → Option ℕ
    gave e v B = given (only tb L e) (some (wire_of tb v B))

    fits : (n : Role) → in_loop tb L n ≡ true → Fits from to e1 e2 e3 n
    fits = by_role tb g L isfor (Fits from to e1 e2 e3) C.of_stream C.of_gate C.of_guard C.of_split C.of_invariant C.of_carry C.of_arg

    in_last : Inside tb L (tb.last L)
    in_last = let fl = g.for_last L isfor in (omega arith, omega arith)

    not_yet : (B : ℕ) → B ≡ L → Inside tb B L → ⊥
    not_yet B e l = let k = subst (λ (z : ℕ). Inside tb z L) e l in let k0 = k.0 in let a = g.for_first L isfor in omega arith

    -- ---- the records where the step begins

    rests : (n : Role) → Real tb n → held tb n env ≡ rest → σ.own n ≡ rest
    rests n rl h =
        elim (dec_le (tb.first (scope tb n)) (row_of tb L from)) [
          | yes x ↦ elim (dec_le (row_of tb L from) (tb.last (scope tb n))) [
            | yes y ↦ G.records_in n rl (x, y) ∙ h
            | no y ↦ G.records_out n rl (λ l. y l.1)
          ]
          | no x ↦ G.records_out n rl (λ l. x l.0)
        ]

    begins : (n : Role) → in_loop tb L n ≡ true → σ.own n ≡ holds from n
    begins n h = go (kinds tb g L s t b u c q n h)
      where
        in_body : (f : From) → Gamma tb (row_of tb L f) env σ → scope tb n ≡ L → σ.own n ≡ holds f n
        in_body at_a_for H e = H.records_out n (real_in tb g L isfor n h) (not_yet (scope tb n) e)
        in_body at_an_end H e = H.records_in n (real_in tb g L isfor n h) (subst (λ (z : ℕ). Inside tb z (tb.last L)) (sym e) in_last)

        at_rest_lem : (f : From) → held tb n env ≡ rest → rest ≡ holds f n
        at_rest_lem at_a_for e = refl
        at_rest_lem at_an_end e = sym e

        go : (scope tb n ≡ L) ⊎ ((e : Env) → held tb n e ≡ rest) → σ.own n ≡ holds from n
        go (inl e) = in_body from G e
        go (inr e) = rests n (real_in tb g L isfor n h) (e env) ∙ at_rest_lem from (e env)

    -- ---- the wires of values

    -- nothing at stage 1, one word at most after that, and which
    abbrev On : ℕ → ℕ → Option ℕ → Type 0
    On v B due = (gave e1 v B ≡ none) × (finds (gave e3 v B) (gave e2 v B) ≡ true) × (put (gave e3 v B) (gave e2 v B) ≡ due)

    on : (v B : ℕ) (n : Role) (o : Output) (due : Option ℕ) → ((e : Effects) → gave e v B ≡ give_by (e n) o) → Gives from to e1 e2 e3 n o due → On v B due
    on v B n o due m w = (m e1 ∙ w.0, ap₂ finds (m e3) (m e2) ∙ w.1, ap₂ put (m e3) (m e2) ∙ w.2)

    -- its uses are empty after stage 1
    abbrev Vacant : ℕ → ℕ → Type 0
    Vacant v B = (B ≡ L) ⊎ (since tb v B ≡ suc (tb.last L))

    -- a value in a body gets its word in this step, or keeps it
    data Fate (k : To) (v B : ℕ) : Type 0 where
      fresh : (y : ℕ) → On v B (some y) → y ≡ words_to tb L env k v → Vacant v B → ((d : ℕ) → Used tb v B d → Live tb v B d (row_to tb L k)) → Fate k v B
      stays : On v B none → Stays tb g L isfor k v B → Fate k v B

    index_fate : (k : To) (v B : ℕ) → On v B (due_index k) → v ≡ L → B ≡ L → since tb v B ≡ 0 → Fate k v B
    index_fate (turn x h) v B o a e z = fresh x o (sym (ap (turn_env tb L x h env) a ∙ turn_idx tb g L isfor x h env)) (inl e) (λ d us. body_live tb g L isfor v B d us e z)
    index_fate (exit h) v B o a e z = stays o (λ x r _ _. let r' : tb.row L ≡ next x = ap tb.row (sym a) ∙ r in let z : ◌≡◌ {A = ℕ} 0 1 = cc in omega arith)

    arg_fate : (k : To) (v B i : ℕ) → On v B (due_arg k v) → tb.row v ≡ arg i → tb.loop v ≡ L → B ≡ L → since tb v B ≡ 0 → Fate k v B
    arg_fate (turn x h) v B i o a l e z = fresh (h v) o (sym (turn_arg tb g L isfor v i x h env a l)) (inl e) (λ d us. body_live tb g L isfor v B d us e z)
    arg_fate (exit h) v B i o a l e z = stays o (λ x r _ _. let z : ◌≡◌ {A = ℕ} 0 1 = cc in omega arith)

    copy_fate : (k : To) (v B : ℕ) → On v B (due_copy k v) → tb.carried L v ≡ true → B ≡ L → since tb v B ≡ 0 → Fate k v B
    copy_fate (turn x h) v B o a e z = fresh (env v) o (sym (turn_low tb g L isfor v x h env (g.in_before L v a))) (inl e) (λ d us. body_live tb g L isfor v B d us e z)
    copy_fate (exit h) v B o a e z = stays o (λ x r _ y. g.in_home L v a (y ∙ e))

    next_fate : (k : To) (v B x : ℕ) → On v B (due_next k v) → tb.row v ≡ next x → tb.loop v ≡ L → B ≡ tb.reads L → since tb v B ≡ suc (tb.last L) → Fate k v B
    next_fate (turn x h) v B i o a l e z = stays o (λ e. omega arith)
    next_fate (exit h) v B i o a l e z = fresh (h v) o (sym (nexts_same tb L h env v l (ap is_next a))) (inr z) (λ d us. exit_live tb g L isfor v B d us e z)

    none_fate : (k : To) (v B : ℕ) → On v B none → (B ≡ L → since tb v B ≢ 0) → ((x : ℕ) → tb.row v ≡ next x → tb.loop v ≡ L → tb.home v ≡ B → ⊥) → Fate k v B
    none_fate (turn x h) v B o a l = stays o a
    none_fate (exit h) v B o a l = stays o l

    fate : (p : Use) (v B d : ℕ) → slot tb p ≡ val v B d → Fate to v B
    fate p v B d r = go (fill tb g L isfor v B (g.uses p v B d r).away)
      where
        go : Fill tb g L isfor v B → Fate to v B
        go (fills_index a e z m) = index_fate to v B (on v B (gate L) out0 (due_index to) m C.index) a e z
        go (fills_arg i a l e z m) = arg_fate to v B i (on v B (arg_split v) out0 (due_arg to v) m (C.args v)) a l e z
        go (fills_copy a e z m) = copy_fate to v B (on v B (copy_invariant L v) out0 (due_copy to v) m (C.copies v)) a e z
        go (fills_exit x a l e w z m) = next_fate to v B x (on v B (arg_split (tb.arg_of v)) out1 (due_next to v) m (C.nexts v)) a l e z
        go (fills_none a l m) = none_fate to v B (m e1, ap₂ finds (m e3) (m e2), ap₂ put (m e3) (m e2)) a l

    on_first : (p : Use) (v B d : ℕ) → slot tb p ≡ val v B d → gave e1 v B ≡ none
    on_first p v B d r = elim (fate p v B d r) [ fresh y o e w l ↦ o.0 | stays o w ↦ o.0 ]

    -- ---- the uses of values

    serves_at_lem : (n : Role) → in_loop tb L n ≡ true → (k : Input) → serves_at from to e1 e2 e3 n k ≡ true
    serves_at_lem n h = go
      where
        all : (serves_at from to e1 e2 e3 n in0 ≡ true) × (serves_at from to e1 e2 e3 n in1 ≡ true) × (serves_at from to e1 e2 e3 n in2 ≡ true)
        all = and_three (serves_at from to e1 e2 e3 n in0) (serves_at from to e1 e2 e3 n in1) (serves_at from to e1 e2 e3 n in2) (fits n h).3

        go : (k : Input) → serves_at from to e1 e2 e3 n k ≡ true
        go in0 = all.0
        go in1 = all.1
        go in2 = all.2

    -- a use that waits until the FOR, until the END, or until neither
    data Waiting (p : Use) (B d : ℕ) : Type 0 where
      until : (at : From) → d ≡ row_of tb L at → B ≡ body_of tb L at → takes_rightly from at (took e1 p) (took e2 p) (took e3 p) ≡ true → Waiting p B d
      elsewhere : ((f : From) → d ≢ row_of tb L f) → ((e : Effects) → took e p ≡ false) → Waiting p B d

    waiting : (p : Use) (v B d : ℕ) → slot tb p ≡ val v B d → Waiting p B d
    waiting p v B d r = go (taking tb g L isfor p v B d r)
      where
        by_port : (n : Role) (k : Input) → p ≡ into n k → in_loop tb L n ≡ true → (x : Port) → PortIs tb g L s t b u c q n k x
            → serves from to e1 e2 e3 x (took e1 p) (took e2 p) (took e3 p) ≡ true → Waiting p B d
        by_port n k e h (link m o) i y = let z : inner (output m o) ≡ val v B d = sym i.reads ∙ ap (slot tb) (sym e) ∙ r in let z : ◌≡◌ {A = ℕ} 0 1 = cc in absurd (omega arith)
        by_port n k e h (waits at w) i y =
            let z : val w (body_of tb L at) (row_of tb L at) ≡ val v B d = sym i ∙ ap (slot tb) (sym e) ∙ r in
            until at (cc) (cc) y
        by_port n k e h nothing i y = let z : absent ≡ val v B d = sym i ∙ ap (slot tb) (sym e) ∙ r in let z : ◌≡◌ {A = ℕ} 0 1 = cc in absurd (omega arith)

        neither : d ≢ L → d ≢ tb.last L → (f : From) → d ≢ row_of tb L f
        neither a x at_a_for = a
        neither a x at_an_end = x

        go : Taking tb g L isfor p d → Waiting p B d
        go (taken_by n k e h) =
            by_port n k e h (port tb s t b n k) (port_is tb g L s t b u c q n h k)
            ((λ i. serves from to e1 e2 e3 (port tb s t b n k) (takes_yes tb g L isfor p n k e h e1 i) (takes_yes tb g L isfor p n k e h e2 i) (takes_yes tb g L isfor p n k e h e3 i)) ∙ serves_at_lem n h k)
        go (taken_by_none a x y) = elsewhere (neither a x) y

    after1 : (p : Use) (v B d : ℕ) → slot tb p ≡ val v B d → T1.tok p ≡ unless_taken (took e1 p) (σ.tok p)
    after1 p v B d r = tokv tb g L isfor e1 σ p v B d r ∙ ap (λ (x : Option ℕ). put x (unless_taken (took e1 p) (σ.tok p))) (on_first p v B d r)

    after3 : (p : Use) (v B d : ℕ) → slot tb p ≡ val v B d → T3.tok p ≡ put (gave e3 v B) (unless_taken (took e3 p) (put (gave e2 v B) (unless_taken (took e2 p) (T1.tok p))))
    after3 p v B d r = tokv tb g L isfor e3 T2 p v B d r ∙ ap (λ (x : Option ℕ). put (gave e3 v B) (unless_taken (took e3 p) x)) (tokv tb g L isfor e2 T1 p v B d r)

    not_taken_late : (p : Use) (v B d : ℕ) → slot tb p ≡ val v B d → took e3 p ≡ false
    not_taken_late p v B d r = elim (waiting p v B d r) [ until at e y k ↦ not_late from at (took e1 p) (took e2 p) (took e3 p) k | elsewhere n y ↦ y e3 ]

    -- where a word is due, no other stands after stage 1
    vacated : (p : Use) (v B d : ℕ) → slot tb p ≡ val v B d → Vacant v B → T1.tok p ≡ none
    vacated p v B d r w = after1 p v B d r ∙ go w
      where
        unborn : (f : From) → Gamma tb (row_of tb L f) env σ → since tb v B ≡ suc (tb.last L) → σ.tok p ≡ none
        unborn at_a_for H z = let ff = g.for_first L isfor in let fl = g.for_last L isfor in (H.values p v B d r).off (λ l. let l2 = l.2 in omega arith)
        unborn at_an_end H z = (H.values p v B d r).off (λ l. let l2 = l.2 in omega arith)

        passed : (f : From) → Gamma tb (row_of tb L f) env σ → B ≡ L → d ≢ row_of tb L f → σ.tok p ≡ none
        passed at_a_for H e n = (H.values p v B d r).off (λ l. not_yet B e (l.0, l.1))
        passed at_an_end H e n =
            let hi : d ≤ tb.last B = (g.uses p v B d r).place.high in
            let le : tb.last B ≡ tb.last L = ap tb.last e in
            (H.values p v B d r).off (λ l. let l3 : tb.last L ≤ d = l.3 in omega arith)

        ended : (f : From) → Gamma tb (row_of tb L f) env σ → B ≡ L → takes_rightly f at_an_end (took e1 p) (took e2 p) (took e3 p) ≡ true → unless_taken (took e1 p) (σ.tok p) ≡ none
        ended at_a_for H e k = drop_none (took e1 p) (σ.tok p) ((H.values p v B d r).off (λ l. not_yet B e (l.0, l.1)))
        ended at_an_end H e k = ap (λ (z : Bool). unless_taken z (σ.tok p)) (and_three (took e1 p) (not (took e2 p)) (not (took e3 p)) k).0

        in_body : B ≡ L → Waiting p B d → unless_taken (took e1 p) (σ.tok p) ≡ none
        in_body e (until at_a_for x y k) = absurd (reads_not tb g L isfor (sym y ∙ e))
        in_body e (until at_an_end x y k) = ended from G e k
        in_body e (elsewhere n y) = drop_none (took e1 p) (σ.tok p) (passed from G e (n from))

        go : Vacant v B → unless_taken (took e1 p) (σ.tok p) ≡ none
        go (inl e) = in_body e (waiting p v B d r)
        go (inr z) = drop_none (took e1 p) (σ.tok p) (unborn from G z)

    -- a use on whose wire nothing is due
    kept : (p : Use) (v B d : ℕ) → slot tb p ≡ val v B d → On v B none → Stays tb g L isfor to v B → Shows tb (T3.tok p) v B d pc' env'
    kept p v B d r o w = go (waiting p v B d r)
      where
        left : T3.tok p ≡ unless_taken (took e2 p) (unless_taken (took e1 p) (σ.tok p))
        left =
            after3 p v B d r ∙ put_nothing (gave e3 v B) (gave e2 v B) (took e2 p) (took e3 p) (T1.tok p) (not_taken_late p v B d r) o.2
            ∙ ap (unless_taken (took e2 p)) (after1 p v B d r)

        -- taken, if it waits until the row where the step begins
        settled : (f at : From) → takes_rightly f at (took e1 p) (took e2 p) (took e3 p) ≡ true → d ≡ row_of tb L at
            → (unless_taken (took e2 p) (unless_taken (took e1 p) (σ.tok p)) ≡ none) ⊎ ((d ≢ row_of tb L f) × (took e1 p ≡ false) × (took e2 p ≡ false))
        settled at_a_for at_a_for k e = inl (drop_either (took e1 p) (took e2 p) (σ.tok p) (and_both (took e1 p || took e2 p) (not (took e3 p)) k).0)
        settled at_a_for at_an_end k e = let x = never_taken (took e1 p) (took e2 p) (took e3 p) k in inr (λ z. for_not_end tb g L (tb.last L) isfor (g.for_end L isfor) (sym z ∙ e), x.0, x.1)
        settled at_an_end at_a_for k e = let x = never_taken (took e1 p) (took e2 p) (took e3 p) k in inr (λ z. for_not_end tb g L (tb.last L) isfor (g.for_end L isfor) (sym e ∙ z), x.0, x.1)
        settled at_an_end at_an_end k e =
            inl (drop_none (took e2 p) (unless_taken (took e1 p) (σ.tok p)) (ap (λ (z : Bool). unless_taken z (σ.tok p)) (and_three (took e1 p) (not (took e2 p)) (not (took e3 p)) k).0))

        stay : d ≢ row_of tb L from → took e1 p ≡ false → took e2 p ≡ false → Shows tb (T3.tok p) v B d pc' env'
        stay n t1 t2 =
            let us = g.uses p v B d r in
            let lv = live_same tb g L isfor from to v B d us n w in
            shows_same tb (σ.tok p) (T3.tok p) v B d (row_of tb L from) pc' env env' (left ∙ rw (t1, t2)) lv.0 lv.1 (word_same tb g L isfor env to v B d us w) (G.values p v B d r)

        go : Waiting p B d → Shows tb (T3.tok p) v B d pc' env'
        go (until at e y k) =
            elim (settled from at k e) [
              | inl z ↦ shows_none tb (T3.tok p) v B d pc' env' (left ∙ z) (gone tb g L isfor at to v B d (g.uses p v B d r) e w)
              | inr z ↦ stay z.0 z.1 z.2
            ]
        go (elsewhere n y) = stay (n from) (y e1) (y e2)

    values : (p : Use) (v B d : ℕ) → slot tb p ≡ val v B d → Shows tb (T3.tok p) v B d pc' env'
    values p v B d r =
        elim (fate p v B d r) [
          | fresh y o e w l ↦
              shows_some tb (T3.tok p) v B d pc' env'
              (after3 p v B d r ∙ put_late (gave e3 v B) (gave e2 v B) (took e2 p) (took e3 p) (T1.tok p) (not_taken_late p v B d r) (vacated p v B d r w) ∙ o.2 ∙ ap some e)
              (l d (g.uses p v B d r))
          | stays o w ↦ kept p v B d r o w
        ]

    -- ---- the stages are ready

    room_two : (p : Use) (v B d y : ℕ) → slot tb p ≡ val v B d → gave e2 v B ≡ some y → T1.tok p ≡ none
    room_two p v B d y r k =
        elim (fate p v B d r) [
          | fresh x o e w l ↦ vacated p v B d r w
          | stays o w ↦ no_gift (gave e2 v B) y (put_none (gave e3 v B) (gave e2 v B) o.2).1 k
        ]

    room_three : (p : Use) (v B d y : ℕ) → slot tb p ≡ val v B d → gave e3 v B ≡ some y → T2.tok p ≡ none
    room_three p v B d y r k =
        elim (fate p v B d r) [
          | fresh x o e w l ↦
              tokv tb g L isfor e2 T1 p v B d r ∙ put_drop_none (gave e2 v B) (took e2 p) (T1.tok p) (finds_none (gave e3 v B) (gave e2 v B) y o.1 k) (vacated p v B d r w)
          | stays o w ↦ no_gift (gave e3 v B) y (put_none (gave e3 v B) (gave e2 v B) o.2).0 k
        ]

    word_at_lem : (f at : From) → Gamma tb (row_of tb L f) env σ → (p : Use) (v : ℕ) → slot tb p ≡ val v (body_of tb L at) (row_of tb L at) → σ.tok p ≡ word_at f at v
    word_at_lem at_a_for at_a_for H p v r = token_at_lem tb g L env σ H p v (tb.reads L) r
    word_at_lem at_a_for at_an_end H p v r = (H.values p v L (tb.last L) r).off (λ l. not_yet L refl (l.0, l.1))
    word_at_lem at_an_end at_a_for H p v r = let ff = g.for_first L isfor in let fl = g.for_last L isfor in (H.values p v (tb.reads L) L r).off (λ l. let l3 = l.3 in omega arith)
    word_at_lem at_an_end at_an_end H p v r = token_at_lem tb g (tb.last L) env σ H p v L r

    seen1 : (n : Role) (k : Input) (x : Port) → PortIs tb g L s t b u c q n k x → σ.tok (into n k) ≡ look1 from to e1 e2 e3 x (σ.tok (into n k))
    seen1 n k (link m o) l = G.inners (into n k) (output m o) l.reads
    seen1 n k (waits at v) m = word_at_lem from at G (into n k) v m
    seen1 n k nothing m = refl

    seen2 : (n : Role) (k : Input) (x : Port) → in_loop tb L n ≡ true → PortIs tb g L s t b u c q n k x → T1.tok (into n k) ≡ look2 from to e1 e2 e3 x (take_by (e1 n) k) (T1.tok (into n k))
    seen2 n k (link m o) h l = at1 tb g L isfor e1 e2 e3 σ G.inners n k m o l
    seen2 n k (waits at v) h m = after1 (into n k) v (body_of tb L at) (row_of tb L at) m ∙ ap₂ unless_taken (takes_yes tb g L isfor (into n k) n k refl h e1) (word_at_lem from at G (into n k) v m)
    seen2 n k nothing h m = refl

    seen3 : (n : Role) (k : Input) (x : Port) → PortIs tb g L s t b u c q n k x → T2.tok (into n k) ≡ look3 from to e1 e2 e3 x (take_by (e1 n) k) (take_by (e2 n) k) (T2.tok (into n k))
    seen3 n k (link m o) l = at2 tb g L isfor e1 e2 e3 σ G.inners n k m o l
    seen3 n k (waits at v) m = refl
    seen3 n k nothing m = refl

    runs : (e : Effects) (ς : State) (r : Record) (see : Input → Option ℕ → Option ℕ) (n : Role) → ((k : Input) → ς.tok (into n k) ≡ see k (ς.tok (into n k))) → ς.own n ≡ r
        → Does from to e1 e2 e3 e r see n → Runs tb g L isfor e ς n
    runs e ς r see n w o (inl z) = inl z
    runs e ς r see n w o (inr z) =
        inr ((λ i. perform (program_of tb n (o i)) (record { word0 = w in0 i; word1 = w in1 i; word2 = w in2 i; room0 = true; room1 = true; own = o i }))
        ∙ z (ς.tok (into n in0)) (ς.tok (into n in1)) (ς.tok (into n in2)))

    -- an inner link, at stages 2 and 3 and after
    links : (n : Role) (k : Input) (m : Role) (o : Output) → Link tb g L isfor n k m o
        → (finds (give_by (e2 m) o) (flow1 from to e1 e2 e3 m o (take_by (e1 n) k)) ≡ true)
        × (finds (give_by (e3 m) o) (flow2 from to e1 e2 e3 m o (take_by (e1 n) k) (take_by (e2 n) k)) ≡ true)
        × (empty (flow3 from to e1 e2 e3 m o (take_by (e1 n) k) (take_by (e2 n) k) (take_by (e3 n) k)) ≡ true)
    links n k m o l =
        and_three (finds (give_by (e2 m) o) (flow1 from to e1 e2 e3 m o (take_by (e1 n) k))) (finds (give_by (e3 m) o) (flow2 from to e1 e2 e3 m o (take_by (e1 n) k) (take_by (e2 n) k)))
        (empty (flow3 from to e1 e2 e3 m o (take_by (e1 n) k) (take_by (e2 n) k) (take_by (e3 n) k)))
        (go (port tb s t b n k) (port_is tb g L s t b u c q n l.node_in k) (serves_at_lem n l.node_in k))
      where
        go : (x : Port) → PortIs tb g L s t b u c q n k x → serves from to e1 e2 e3 x (take_by (e1 n) k) (take_by (e2 n) k) (take_by (e3 n) k) ≡ true
            → serves from to e1 e2 e3 (link m o) (take_by (e1 n) k) (take_by (e2 n) k) (take_by (e3 n) k) ≡ true
        go (link m' o') i h =
            let z : inner (output m' o') ≡ inner (output m o) = sym i.reads ∙ l.reads in
            let a : m ≡ m' = cc in
            let b : o ≡ o' = cc in
            (λ j. serves from to e1 e2 e3 (link (a j) (b j)) (take_by (e1 n) k) (take_by (e2 n) k) (take_by (e3 n) k)) ∙ h
        go (waits at v) i h = let z : val v (body_of tb L at) (row_of tb L at) ≡ inner (output m o) = sym i ∙ l.reads in let z : ◌≡◌ {A = ℕ} 0 1 = cc in absurd (omega arith)
        go nothing i h = let z : absent ≡ inner (output m o) = sym i ∙ l.reads in let z : ◌≡◌ {A = ℕ} 0 1 = cc in absurd (omega arith)

    ready1 : (n : Role) (d : Effect) → in_loop tb L n ≡ true → e1 n ≡ some d → Ready (plan tb) n d σ
    ready1 =
        ready_all tb g L isfor e1 σ
        (to_runs tb g L isfor e1 σ (λ n h. runs e1 σ (holds from n) (λ k. look1 from to e1 e2 e3 (port tb s t b n k)) n (λ k. seen1 n k (port tb s t b n k) (port_is tb g L s t b u c q n h k)) (begins n h) (fits n h).0))
        (λ p w y r k. G.inners p w r) (λ p v B d y r k. no_gift (gave e1 v B) y (on_first p v B d r) k)

    ready2 : (n : Role) (d : Effect) → in_loop tb L n ≡ true → e2 n ≡ some d → Ready (plan tb) n d T1
    ready2 =
        ready_all tb g L isfor e2 T1
        (to_runs tb g L isfor e2 T1
        (λ n h. runs e2 T1 (next_by (e1 n) (holds from n)) (λ k. look2 from to e1 e2 e3 (port tb s t b n k) (take_by (e1 n) k)) n (λ k. seen2 n k (port tb s t b n k) h (port_is tb g L s t b u c q n h k))
        (own_in tb g L isfor e1 σ n h ∙ ap (next_by (e1 n)) (begins n h)) (fits n h).1))
        (room2 tb g L isfor e1 e2 e3 σ G.inners (λ n k m o l y z. finds_none (give_by (e2 m) o) (flow1 from to e1 e2 e3 m o (take_by (e1 n) k)) y (links n k m o l).0 z)) room_two

    ready3 : (n : Role) (d : Effect) → in_loop tb L n ≡ true → e3 n ≡ some d → Ready (plan tb) n d T2
    ready3 =
        ready_all tb g L isfor e3 T2
        (to_runs tb g L isfor e3 T2
        (λ n h. runs e3 T2 (next_by (e2 n) (next_by (e1 n) (holds from n))) (λ k. look3 from to e1 e2 e3 (port tb s t b n k) (take_by (e1 n) k) (take_by (e2 n) k)) n (λ k. seen3 n k (port tb s t b n k) (port_is tb g L s t b u c q n h k))
        (own2 tb g L isfor e1 e2 e3 σ G.inners n h ∙ ap (λ (z : Record). next_by (e2 n) (next_by (e1 n) z)) (begins n h)) (fits n h).2))
        (room3 tb g L isfor e1 e2 e3 σ G.inners (λ n k m o l y z. finds_none (give_by (e3 m) o) (flow2 from to e1 e2 e3 m o (take_by (e1 n) k) (take_by (e2 n) k)) y (links n k m o l).1 z)) room_three

    -- ---- the records where the step leads

    abbrev Recorded : ℕ → Env → Role → Type 0
    Recorded pc e n = (Inside tb (scope tb n) pc → T3.own n ≡ held tb n e) × ((Inside tb (scope tb n) pc → ⊥) → T3.own n ≡ rest)

    recorded : (n : Role) → Real tb n → Recorded pc' env' n
    recorded n rl = go (in_loop tb L n) refl
      where
        in_loop_lem : (k : To) → T3.own n ≡ holds_to k n → (scope tb n ≡ L) ⊎ ((e : Env) → held tb n e ≡ rest) → Recorded (row_to tb L k) (words_to tb L env k) n
        in_loop_lem (turn x h) o (inl e) = let fl = g.for_last L isfor in (λ l. o, λ l. absurd (l (subst (λ (z : ℕ). Inside tb z (tb.first L)) (sym e) (omega arith, omega arith))))
        in_loop_lem (turn x h) o (inr e) = (λ l. o, λ l. o ∙ e (turn_env tb L x h env))
        in_loop_lem (exit h) o (inl e) = (λ l. let k = subst (λ (z : ℕ). Inside tb z (suc (tb.last L))) e l in let k1 = k.1 in absurd (omega arith), λ l. o)
        in_loop_lem (exit h) o (inr e) = (λ l. o ∙ sym (e (nexts_to tb L h env)), λ l. o)

        go : (x : Bool) → in_loop tb L n ≡ x → Recorded pc' env' n
        go true h =
            in_loop_lem to (own3 tb g L isfor e1 e2 e3 σ G.inners n h ∙ ap (λ (z : Record). next_by (e3 n) (next_by (e2 n) (next_by (e1 n) z))) (begins n h) ∙ (fits n h).4) (kinds tb g L s t b u c q n h)
        go false h =
            let sn = scope_not tb g L isfor n rl h in
            let io = inside_same tb g L isfor (scope tb n) (row_of tb L from) pc' (real_body tb g n rl) sn (begins_edge tb g L isfor from) (leads_edge tb g L isfor to) in
            recs_same tb g (row_of tb L from) pc' env env' n rl σ T3 G (own_still tb g L isfor e1 e2 e3 σ G.inners n h) io.0 io.1 (λ l v fs le. outer_same tb g L isfor env to (scope tb n) v fs sn l le)

    -- the words that the three stages put on an output
    abbrev pub put3 : Role → Output → List ℕ
    put3 n o = listed (give_by (e1 n) o) ++ (listed (give_by (e2 n) o) ++ listed (give_by (e3 n) o))

    -- THE STEP is made
    pub made : (raw gated : ℕ → List ℕ) → ((M : ℕ) → say_if (eqb M L) (put3 (stream M) out1) ≡ raw M) → ((M : ℕ) → say_if (eqb M L) (put3 (gate M) out1) ≡ gated M)
        → Path tb g env σ pc' env' raw gated
    made raw gated r k =
        let fd = fired3 tb g L isfor e1 e2 e3 σ G.inners ready1 ready2 ready3 in (
          fd.0,
          T3,
          fd.1,
          record {
            values = values;
            inners = inner3 tb g L isfor e1 e2 e3 σ G.inners (λ n k m o l. empty_none (flow3 from to e1 e2 e3 m o (take_by (e1 n) k) (take_by (e2 n) k) (take_by (e3 n) k)) (links n k m o l).2);
            records_in = λ n rl. (recorded n rl).0;
            records_out = λ n rl. (recorded n rl).1;
          },
          λ M. hist3 tb g L isfor e1 e2 e3 σ G.inners (stream M) out1 ∙ ap (λ (z : List ℕ). σ.hist (stream M) out1 ++ z) (r M),
          λ M. hist3 tb g L isfor e1 e2 e3 σ G.inners (gate M) out1 ∙ ap (λ (z : List ℕ). σ.hist (gate M) out1 ++ z) (k M),
        )

  -- ---- what STREAM and an INVARIANT hold at a turn
  pub stream_turns : (x : ℕ) (h : Env) → holding (update u x (env t)) (env t) (env b) ≡ held tb (stream L) (turn_env tb L x h env)
  stream_turns x h =
      let ut : t < L = (g.uses (into (stream L) in1) t (tb.reads L) L (rw q)).before in
      let ub : b < L = (g.uses (into (stream L) in2) b (tb.reads L) L (rw q)).before in
      let et = turn_low tb g L isfor t x h env ut in
      let eb = turn_low tb g L isfor b x h env ub in
      let el = turn_idx tb g L isfor x h env in
      sym (ap (λ (z : Row). stream_held z L (turn_env tb L x h env)) q ∙ (λ i. holding (update u (el i) (et i)) (et i) (eb i)))

  pub copy_turns : (x : ℕ) (h : Env) (v : ℕ) → tb.carried L v ≡ true → holding (env v) 0 0 ≡ held tb (copy_invariant L v) (turn_env tb L x h env)
  copy_turns x h v m = ap (λ (z : ℕ). holding z 0 0) (sym (turn_low tb g L isfor v x h env (g.in_before L v m)))
