-- The reading's steps of one row that opens and shuts no loop.
--
--   step_plain                INPUT, CONST, NEXT, OUT: nothing fires, and the configuration is that of the next row
--   step_op, step_pick        OP and PICK: the node fires
--   Path                      firings that lead to where the reading stands next, with their words on the loops' conditions
--   token_at_lem              what waits until row pc is there at pc
--
-- Assumes nothing.
use Rattle.std.proofs.Math.Path.{◌≡◌, refl, ap, subst}
use Rattle.std.proofs.Common.{sym, ap₂, ◌∙◌, inl, inr, eqb→eq}
use Rattle.std.specs.Prelude.{◌≢◌, ◌⊎◌, Bool, false, T, eqb}
use Rattle.std.proofs.Math.Bool.{true}
use Rattle.std.proofs.Math.Option.{Option, none, some}
use mathlib.Core.List.{List, [], ◌∷◌, ◌++◌}
use Prim.Native.Nat.{ℕ, zero, suc, ◌≤◌, ◌<◌}
use native.Mathlib.Omega.{arith}
use Rattle.std.proofs.Math.Decide.{ℕ_discrete}
use Rattle.std.proofs.Math.Dec.{eqb_refl}
use Rattle.word.specs.Words.{operate}
use Rattle.step.specs.Kinds.{Input, in0, in1, in2, Output, out0, out1, PICK}
use Rattle.step.specs.Firing.{View, Effect, Program, perform, takes}
use Rattle.step.specs.Machines.{program, rest}
use Rattle.step.specs.declared.Record.{Record}
use Rattle.table.specs.Bodies.{Row, input, const, op, pick, for, arg, next, end, out, unknown}
use Rattle.lowered.specs.Roles.{Role, same_role, op_node, stream, gate, guard, copy_split, copy_invariant, carry, arg_split, Wire, start, output, Use, into, result}
use Rattle.uses.specs.Machine.{State, give_by, take_by, next_by, put, unless_taken, listed, given, taken, view_of, after, one, one_same, one_other, Steps}
use Rattle.faithful.specs.Table.{Table, Slot, val, inner, absent, IsFor, wire_of, since, slot, slot_wire, src, is_op, is_start, Real, program_of, plan}
use Rattle.faithful.specs.Good.{Inner, Good, Source, from_start, from_op, from_for, from_arg, from_next, from_copy, source, When, by_op, by_for, by_end, by_out, when, Inward, inward}
use Rattle.faithful.specs.Members.{no_op}
use Rattle.faithful.specs.Gamma.{Env, Inside, Shows, scope, held, Gamma, shows_same, shows_none, shows_some, head_row, held_same}

-- env with the word w at row r
abbrev pub set_by : Bool → ℕ → ℕ → ℕ
set_by true w x = w
set_by false w x = x

unfoldable pub set_to : ℕ → ℕ → Env → Env
set_to r w env v = set_by (eqb v r) w (env v)

pub set_same : (r w : ℕ) (env : Env) → set_to r w env r ≡ w
unfolding set_to
set_same r w env = go (eqb r r) refl
  where
    go : (b : Bool) → eqb r r ≡ b → set_by b w (env r) ≡ w
    go true e = refl
    go false e = absurd (subst T e (eqb_refl r))

pub set_other : (r w : ℕ) (env : Env) (v : ℕ) → v ≢ r → set_to r w env v ≡ env v
unfolding set_to
set_other r w env v n = go (eqb v r) refl
  where
    go : (b : Bool) → eqb v r ≡ b → set_by b w (env v) ≡ env v
    go true e = absurd (n (eqb→eq v r (subst T (sym e) tt)))
    go false e = refl

-- what runs, by the tokens that stand there
abbrev pub sight : Option ℕ → Option ℕ → Option ℕ → Record → View
sight a b c r = record { word0 = a; word1 = b; word2 = c; room0 = true; room1 = true; own = r }

pub runs_by : (f : Record → Program) (s : State) (n : Role) (a b c : Option ℕ) (r : Record) (e : Effect) → s.tok (into n in0) ≡ a → s.tok (into n in1) ≡ b → s.tok (into n in2) ≡ c → s.own n ≡ r
    → perform (f r) (sight a b c r) ≡ some e → perform (f (s.own n)) (view_of s n) ≡ some e
runs_by f s n a b c r e p q t o h = (λ i. perform (f (o i)) (record { word0 = p i; word1 = q i; word2 = t i; room0 = true; room1 = true; own = o i })) ∙ h

pub put_drop_none : (g : Option ℕ) (b : Bool) (t : Option ℕ) → g ≡ none → t ≡ none → put g (unless_taken b t) ≡ none
put_drop_none g true t p q = rw p
put_drop_none g false t p q = rw (p, q)

pub four : (f l s c r : ℕ) → f ≢ suc r → l ≢ r → s ≢ suc r → c ≢ r → (f ≤ r) × (r ≤ l) × (s ≤ r) × (r ≤ c) → (f ≤ suc r) × (suc r ≤ l) × (s ≤ suc r) × (suc r ≤ c)
four f l s c r a b d e h = (omega arith, omega arith, omega arith, omega arith)

pub back : (f l s c r : ℕ) → f ≢ suc r → l ≢ r → s ≢ suc r → c ≢ r → (f ≤ suc r) × (suc r ≤ l) × (s ≤ suc r) × (suc r ≤ c) → (f ≤ r) × (r ≤ l) × (s ≤ r) × (r ≤ c)
back f l s c r a b d e h = (omega arith, omega arith, omega arith, omega arith)

-- by a flag
abbrev pub choose : ℕ → ℕ → ℕ → ℕ
choose zero x y = y
choose (suc f) x y = x

module _ (tb : Table) (g : Good tb) where
  -- no body begins or ends at a row that is no FOR, ARG or END
  pub body_quiet : (r : ℕ) → r < tb.size → (IsFor tb r → ⊥) → ((i : ℕ) → tb.row r ≡ arg i → ⊥) → (tb.row r ≡ end → ⊥)
      → (B : ℕ) → (B ≡ tb.size) ⊎ IsFor tb B → (tb.first B ≢ suc r) × (tb.last B ≢ r)
  body_quiet r l nf na ne B (inl e) =
      let a : tb.first B ≡ 0 = ap tb.first e ∙ g.outer_first in
      let b : tb.last B ≡ suc tb.size = ap tb.last e ∙ g.outer_last in
      (omega arith, omega arith)
  body_quiet r l nf na ne B (inr f) =
      let a = g.for_first B f in (
        λ h. elim (head_row tb g B r f (omega arith) (omega arith)) [ inl q ↦ nf q | inr q ↦ na q.0 q.1 ],
        λ h. ne (ap tb.row (sym h) ∙ g.for_end B f),
      )

  pub real_body : (n : Role) → Real tb n → (scope tb n ≡ tb.size) ⊎ IsFor tb (scope tb n)
  real_body (op_node r) rl = inl refl
  real_body (stream L) rl = inr rl
  real_body (gate L) rl = inr rl
  real_body (guard L) rl = inl refl
  real_body (copy_split L v) rl = inl refl
  real_body (copy_invariant L v) rl = inr rl.0
  real_body (carry a) rl = inr (g.arg_for a rl.0 rl.1)
  real_body (arg_split a) rl = inl refl

  -- the records where the same loops are open and their words the same
  pub recs_same : (pc pc' : ℕ) (env env' : Env) (n : Role) → Real tb n → (s s' : State) → Gamma tb pc env s → s'.own n ≡ s.own n
      → (Inside tb (scope tb n) pc → Inside tb (scope tb n) pc') → (Inside tb (scope tb n) pc' → Inside tb (scope tb n) pc)
      → (Inside tb (scope tb n) pc' → (v : ℕ) → IsFor tb (scope tb n) → v ≤ scope tb n → env' v ≡ env v)
      → (Inside tb (scope tb n) pc' → s'.own n ≡ held tb n env') × ((Inside tb (scope tb n) pc' → ⊥) → s'.own n ≡ rest)
  recs_same pc pc' env env' n rl s s' G e f h k = (
    λ i. e ∙ G.records_in n rl (h i) ∙ sym (held_same tb g n rl env env' (k i)),
    λ o. e ∙ G.records_out n rl (λ i. o (f i)),
  )

  -- ---- a row that does nothing
  abbrev pub plain_row : Row → Bool
  plain_row input = true
  plain_row (const w) = true
  plain_row (op c x y) = false
  plain_row (pick f x y) = false
  plain_row (for s t b u c) = false
  plain_row (arg i) = false
  plain_row (next v) = true
  plain_row end = false
  plain_row unknown = false
  plain_row (out x) = true

  -- when a value is born, an OP, a PICK or an END stands
  pub since_row : (v B r : ℕ) → since tb v B ≡ suc r → ((v ≡ r) × (tb.home v ≡ B) × (is_op tb (tb.row r) ≡ true)) ⊎ (tb.row r ≡ end)
  since_row v B r h =
      elim (source tb v B) [
        | from_start _ _ _ z ↦ absurd (omega arith)
        | from_op _ e q z ↦ let d : v ≡ r = omega arith in inl (d, e, subst (λ (y : ℕ). is_op tb (tb.row y) ≡ true) d q)
        | from_for _ _ _ z ↦ absurd (omega arith)
        | from_arg i _ _ _ z ↦ absurd (omega arith)
        | from_next x _ _ q z ↦ let d : tb.last (tb.loop v) ≡ r = omega arith in inr (subst (λ (y : ℕ). tb.row y ≡ end) d (g.for_end (tb.loop v) (g.next_for v x q)))
        | from_copy _ _ z ↦ absurd (omega arith)
      ]

  when_plain : (r : ℕ) → plain_row (tb.row r) ≡ true → r < tb.size → (p : Use) (v B c : ℕ) → When tb p v B c → c ≢ r
  when_plain r h l p v B c (by_op k _ q) e =
      let q' : is_op tb (tb.row r) ≡ true = subst (λ (z : ℕ). is_op tb (tb.row z) ≡ true) e q in go (tb.row r) h q'
    where
      go : (w : Row) → plain_row w ≡ true → is_op tb w ≡ true → ⊥
      go input a b = let z : ◌≡◌ {A = ℕ} 0 1 = cc in omega arith
      go (const x) a b = let z : ◌≡◌ {A = ℕ} 0 1 = cc in omega arith
      go (op d x y) a b = let z : ◌≡◌ {A = ℕ} 0 1 = cc in omega arith
      go (pick f x y) a b = let z : ◌≡◌ {A = ℕ} 0 1 = cc in omega arith
      go (for s t b' u d) a b = let z : ◌≡◌ {A = ℕ} 0 1 = cc in omega arith
      go (arg i) a b = let z : ◌≡◌ {A = ℕ} 0 1 = cc in omega arith
      go (next x) a b = let z : ◌≡◌ {A = ℕ} 0 1 = cc in omega arith
      go end a b = let z : ◌≡◌ {A = ℕ} 0 1 = cc in omega arith
      go unknown a b = let z : ◌≡◌ {A = ℕ} 0 1 = cc in omega arith
      go (out x) a b = let z : ◌≡◌ {A = ℕ} 0 1 = cc in omega arith
  when_plain r h l p v B c (by_for f _ _ _ _ _) e = let q = subst (IsFor tb) e f in let k = q.5 in let z : ◌≡◌ {A = ℕ} 0 1 = cc in omega arith
  when_plain r h l p v B c (by_end L f _ _ _ _ d _) e =
      let k : tb.row r ≡ end = ap tb.row (sym e ∙ d) ∙ g.for_end L f in let z : ◌≡◌ {A = ℕ} 0 1 = cc in omega arith
  when_plain r h l p v B c (by_out q _ d _) e = omega arith

  pub step_plain : (r : ℕ) → r < tb.size → plain_row (tb.row r) ≡ true → (env : Env) (s : State) → Gamma tb r env s → Gamma tb (suc r) env s
  step_plain r l h env s G =
      record {
        values = λ p v B c q.
            let u = g.uses p v B c q in
            let nc : c ≢ r = when_plain r h l p v B c (when tb g p v B c q) in
            let b = quiet B u.body in
            let b0 : tb.first B ≢ suc r = b.0 in
            let b1 : tb.last B ≢ r = b.1 in
            let ns : since tb v B ≢ suc r = λ e. born_not v B e in
            shows_same tb (s.tok p) (s.tok p) v B c r (suc r) env env refl
            (four (tb.first B) (tb.last B) (since tb v B) c r b0 b1 ns nc) (back (tb.first B) (tb.last B) (since tb v B) c r b0 b1 ns nc) (λ _. refl) (G.values p v B c q);
        inners = G.inners;
        records_in = λ n rl. (both n rl).0;
        records_out = λ n rl. (both n rl).1;
      }
    where
      quiet : (B : ℕ) → (B ≡ tb.size) ⊎ IsFor tb B → (tb.first B ≢ suc r) × (tb.last B ≢ r)
      quiet = body_quiet r l (λ f. let k = f.5 in let z : ◌≡◌ {A = ℕ} 0 1 = cc in omega arith) (λ i e. let z : ◌≡◌ {A = ℕ} 0 1 = cc in omega arith) (λ e. let z : ◌≡◌ {A = ℕ} 0 1 = cc in omega arith)

      born_not : (v B : ℕ) → since tb v B ≡ suc r → ⊥
      born_not v B e =
          elim (since_row v B r e) [
            | inl q ↦ when_plain r h l (into (op_node r) in0) v B r (by_op in0 refl q.2) refl
            | inr q ↦ let z : ◌≡◌ {A = ℕ} 0 1 = cc in omega arith
          ]

      both : (n : Role) → Real tb n → (Inside tb (scope tb n) (suc r) → s.own n ≡ held tb n env) × ((Inside tb (scope tb n) (suc r) → ⊥) → s.own n ≡ rest)
      both n rl =
          let b = quiet (scope tb n) (real_body n rl) in
          let b0 : tb.first (scope tb n) ≢ suc r = b.0 in
          let b1 : tb.last (scope tb n) ≢ r = b.1 in
          recs_same r (suc r) env env n rl s s G refl (λ i. (omega arith, omega arith)) (λ i. (omega arith, omega arith)) (λ _ v _ _. refl)

  -- ---- OP and PICK
  module _ (r : ℕ) (isop : is_op tb (tb.row r) ≡ true) (e : Effect) (w : ℕ) (g0 : e.gives0 ≡ some w) (g1 : e.gives1 ≡ none) (nx : e.next ≡ rest)
      (tk : (k : Input) (v B c : ℕ) → slot tb (into (op_node r) k) ≡ val v B c → takes e k ≡ true) (env : Env) (s : State) (G : Gamma tb r env s) where
    unfoldable pub E : Role → Option Effect
    E = one (op_node r) e

    not_taken : (p : Use) → ((k : Input) → p ≡ into (op_node r) k → ⊥) → taken E p ≡ false
    unfolding E
    not_taken (result q) h = refl
    not_taken (into n k) h = ap (λ (z : Option Effect). take_by z k) (one_other (op_node r) n e (λ c. h k (ap (λ (z : Role). into z k) c)))

    not_given : (u : Wire) → ((o : Output) → u ≡ output (op_node r) o → ⊥) → given E (some u) ≡ none
    unfolding E
    not_given (start v) h = refl
    not_given (output n o) h = ap (λ (z : Option Effect). give_by z o) (one_other (op_node r) n e (λ c. h o (ap (λ (z : Role). output z o) c)))

    no_for : IsFor tb r → ⊥
    no_for f = let k = f.5 in let z : ◌≡◌ {A = ℕ} 0 1 = cc in omega arith

    no_arg : (i : ℕ) → tb.row r ≡ arg i → ⊥
    no_arg i k = let z : ◌≡◌ {A = ℕ} 0 1 = cc in omega arith

    no_end : tb.row r ≡ end → ⊥
    no_end k = let z : ◌≡◌ {A = ℕ} 0 1 = cc in omega arith

    quiet : (B : ℕ) → (B ≡ tb.size) ⊎ IsFor tb B → (tb.first B ≢ suc r) × (tb.last B ≢ r)
    quiet = body_quiet r (g.op_size r isop) no_for no_arg no_end

    -- the wire of another value, or of this one in another body
    other_wire : (v B : ℕ) → (v ≡ r → tb.home v ≡ B → ⊥) → given E (some (wire_of tb v B)) ≡ none
    other_wire v B h = not_given (wire_of tb v B) (λ o q. go (source tb v B) o q)
      where
        go : Source tb v B → (o : Output) → wire_of tb v B ≡ output (op_node r) o → ⊥
        go (from_start a b t c) o q = let z : ◌≡◌ {A = ℕ} 0 1 = cc in omega arith
        go (from_op a b c d) o q = h (cc) b
        go (from_for a b c d) o q = let z : ◌≡◌ {A = ℕ} 0 1 = cc in omega arith
        go (from_arg i a b c d) o q = let z : ◌≡◌ {A = ℕ} 0 1 = cc in omega arith
        go (from_next x a b c d) o q = let z : ◌≡◌ {A = ℕ} 0 1 = cc in omega arith
        go (from_copy a b c) o q = let z : ◌≡◌ {A = ℕ} 0 1 = cc in omega arith

    starts : (d : Row) → is_start tb d ≡ true → is_op tb d ≡ true → ◌≡◌ {A = ℕ} 0 1
    starts input a b = cc
    starts (const x) a b = cc
    starts (op d x y) a b = cc
    starts (pick f x y) a b = cc
    starts (for s t b' u d) a b = cc
    starts (arg i) a b = cc
    starts (next x) a b = cc
    starts end a b = cc
    starts unknown a b = cc
    starts (out x) a b = cc

    -- its own wire, at home
    own_wire : (v B : ℕ) → v ≡ r → tb.home v ≡ B → (given E (some (wire_of tb v B)) ≡ some w) × (since tb v B ≡ suc r)
    unfolding E
    own_wire v B d h = go (source tb v B)
      where
        isop' : is_op tb (tb.row v) ≡ true
        isop' = subst (λ (z : ℕ). is_op tb (tb.row z) ≡ true) (sym d) isop

        go : Source tb v B → (given E (some (wire_of tb v B)) ≡ some w) × (since tb v B ≡ suc r)
        go (from_start a b t c) = let z : ◌≡◌ {A = ℕ} 0 1 = starts (tb.row v) t isop' in absurd (omega arith)
        go (from_op a b c z) =
            (ap (λ (y : Wire). given E (some y)) (a ∙ ap (λ (y : ℕ). output (op_node y) out0) d) ∙ ap (λ (y : Option Effect). give_by y out0) (one_same (op_node r) e) ∙ g0, z ∙ ap suc d)
        go (from_for a b c z) = let k = c.5 in let z : ◌≡◌ {A = ℕ} 0 1 = cc in absurd (omega arith)
        go (from_arg i a b c z) = let z : ◌≡◌ {A = ℕ} 0 1 = cc in absurd (omega arith)
        go (from_next x a b c z) = let z : ◌≡◌ {A = ℕ} 0 1 = cc in absurd (omega arith)
        go (from_copy a b z) = absurd (b h)

    -- a use of another node
    kept : (p : Use) (v B c : ℕ) → slot tb p ≡ val v B c → c ≢ r → ((k : Input) → p ≡ into (op_node r) k → ⊥) → Shows tb ((after (plan tb) E s).tok p) v B c (suc r) (set_to r w env)
    kept p v B c q nc np =
        let u = g.uses p v B c q in
        let b = quiet B u.body in
        let b0 : tb.first B ≢ suc r = b.0 in
        let b1 : tb.last B ≢ r = b.1 in
        let bf : v < c = u.before in
        let same : (after (plan tb) E s).tok p ≡ put (given E (some (wire_of tb v B))) (s.tok p)
        = ap₂ (λ (y : Slot) (z : Bool). put (given E (slot_wire tb y)) (unless_taken z (s.tok p))) q (not_taken p np) in
        elim (ℕ_discrete v r) [
          | yes d ↦ elim (ℕ_discrete (tb.home v) B) [
            | yes h ↦
                let o = own_wire v B d h in
                let i = subst (λ (y : ℕ). Inner tb y r) (sym (g.op_home r isop) ∙ ap tb.home (sym d) ∙ h) (g.op_place r isop) in
                let lo : tb.first B ≤ r = i.low in
                let hi : r ≤ tb.last B = i.high in
                let si : since tb v B ≡ suc r = o.1 in
                shows_some tb ((after (plan tb) E s).tok p) v B c (suc r) (set_to r w env)
                (same ∙ ap (λ (y : Option ℕ). put y (s.tok p)) o.0 ∙ ap some (sym (ap (set_to r w env) d ∙ set_same r w env)))
                (omega arith, omega arith, omega arith, omega arith)
            | no h ↦
                let f = g.in_for B v (u.away h) in
                let lt = g.in_before B v (u.away h) in
                let ff = g.for_first B f in
                shows_none tb ((after (plan tb) E s).tok p) v B c (suc r) (set_to r w env)
                (same ∙ ap₂ put (other_wire v B (λ _ y. h y)) ((G.values p v B c q).off (λ l. let l0 = l.0 in omega arith)))
                (λ l. let l0 = l.0 in omega arith)
          ]
          | no d ↦
              let ns : since tb v B ≢ suc r = λ y. born_not v B d y in
              shows_same tb (s.tok p) ((after (plan tb) E s).tok p) v B c r (suc r) env (set_to r w env)
              (same ∙ ap (λ (y : Option ℕ). put y (s.tok p)) (other_wire v B (λ y _. d y)))
              (four (tb.first B) (tb.last B) (since tb v B) c r b0 b1 ns nc) (back (tb.first B) (tb.last B) (since tb v B) c r b0 b1 ns nc)
              (λ _. set_other r w env v d) (G.values p v B c q)
        ]
      where
        born_not : (v B : ℕ) → v ≢ r → since tb v B ≡ suc r → ⊥
        born_not v B d y = elim (since_row v B r y) [ inl z ↦ d z.0 | inr z ↦ no_end z ]

    -- its own use
    took : (p : Use) (k : Input) (v B c : ℕ) → slot tb p ≡ val v B c → p ≡ into (op_node r) k → c ≡ r → Shows tb ((after (plan tb) E s).tok p) v B c (suc r) (set_to r w env)
    unfolding E
    took p k v B c q d h =
        let u = g.uses p v B c q in
        let bf : v < c = u.before in
        let t : taken E p ≡ true = ap (taken E) d ∙ ap (λ (z : Option Effect). take_by z k) (one_same (op_node r) e) ∙ tk k v B c (ap (slot tb) (sym d) ∙ q) in
        shows_none tb ((after (plan tb) E s).tok p) v B c (suc r) (set_to r w env)
        (ap₂ (λ (y : Slot) (z : Bool). put (given E (slot_wire tb y)) (unless_taken z (s.tok p))) q t
        ∙ ap (λ (y : Option ℕ). put y none) (other_wire v B (λ y _. let z : ⊥ = omega arith in z)))
        (λ l. let l3 = l.3 in omega arith)

    vals_op : (p : Use) (v B c : ℕ) → slot tb p ≡ val v B c → Shows tb ((after (plan tb) E s).tok p) v B c (suc r) (set_to r w env)
    vals_op p v B c q = go (when tb g p v B c q)
      where
        go : When tb p v B c → Shows tb ((after (plan tb) E s).tok p) v B c (suc r) (set_to r w env)
        go (by_op k d h) =
            elim (ℕ_discrete c r) [
              | yes y ↦ took p k v B c q (d ∙ ap (λ (z : ℕ). into (op_node z) k) y) y
              | no y ↦ kept p v B c q y (λ k' d'. y (cc))
            ]
        go (by_for f n k d i h) = kept p v B c q (λ y. no_for (subst (IsFor tb) y f)) (λ k' d'. no_op tb c r n i (cc))
        go (by_end L f n k d i l h) = kept p v B c q (λ y. no_end (ap tb.row (sym y ∙ l) ∙ g.for_end L f)) (λ k' d'. no_op tb L r n i (cc))
        go (by_out x d l _) = kept p v B c q (λ y. let z = g.op_size r isop in omega arith) (λ k' d'. let z : ◌≡◌ {A = ℕ} 0 1 = cc in omega arith)

    inns_op : (p : Use) (u : Wire) → slot tb p ≡ inner u → (after (plan tb) E s).tok p ≡ none
    inns_op p u q =
        ap (λ (y : Slot). put (given E (slot_wire tb y)) (unless_taken (taken E p) (s.tok p))) q
        ∙ put_drop_none (given E (some u)) (taken E p) (s.tok p) (not_given u (λ o h. go (inward tb p u q) o h)) (G.inners p u q)
      where
        go : Inward tb p u → (o : Output) → u ≡ output (op_node r) o → ⊥
        go i o h = let e = i.wire_is in no_op tb i.loop r i.from i.from_in (cc)

    recs_op : (n : Role) → Real tb n → (Inside tb (scope tb n) (suc r) → (after (plan tb) E s).own n ≡ held tb n (set_to r w env))
        × ((Inside tb (scope tb n) (suc r) → ⊥) → (after (plan tb) E s).own n ≡ rest)
    unfolding E
    recs_op n rl =
        elim (same_role n (op_node r)) [
          | yes d ↦
              let o : (after (plan tb) E s).own n ≡ rest = ap (λ (y : Role). next_by (E y) (s.own n)) d ∙ ap (λ (y : Option Effect). next_by y (s.own n)) (one_same (op_node r) e) ∙ nx in
              (λ i. o ∙ ap (λ (y : Role). held tb y (set_to r w env)) (sym d), λ i. o)
          | no d ↦
              let b = quiet (scope tb n) (real_body n rl) in
              let b0 : tb.first (scope tb n) ≢ suc r = b.0 in
              let b1 : tb.last (scope tb n) ≢ r = b.1 in
              recs_same r (suc r) env (set_to r w env) n rl s (after (plan tb) E s) G (ap (λ (y : Option Effect). next_by y (s.own n)) (one_other (op_node r) n e d))
              (λ i. (omega arith, omega arith)) (λ i. (omega arith, omega arith))
              (λ i v f h. set_other r w env v (λ y. no_for (subst (IsFor tb) (let a = g.for_first (scope tb n) f in let k = i.0 in let z : scope tb n ≡ r = omega arith in z) f)))
        ]

    pub gamma_op : Gamma tb (suc r) (set_to r w env) (after (plan tb) E s)
    gamma_op = record { values = vals_op; inners = inns_op; records_in = λ n rl. (recs_op n rl).0; records_out = λ n rl. (recs_op n rl).1 }

  -- what reads wire w is a value's use, or an inner one
  pub src_cases : (p : Use) (w : Wire) → src tb p ≡ some w
      → ((v : ℕ) × (B : ℕ) × (c : ℕ) × (slot tb p ≡ val v B c) × (wire_of tb v B ≡ w)) ⊎ (slot tb p ≡ inner w)
  src_cases p w h = go (slot tb p) refl h
    where
      go : (l : Slot) → slot tb p ≡ l → slot_wire tb l ≡ some w → ((v : ℕ) × (B : ℕ) × (c : ℕ) × (slot tb p ≡ val v B c) × (wire_of tb v B ≡ w)) ⊎ (slot tb p ≡ inner w)
      go (val v B c) q k = inl (v, B, c, q, cc)
      go (inner u) q k = inr (q ∙ ap inner (cc))
      go absent q k = let z : ◌≡◌ {A = ℕ} 0 1 = cc in absurd (omega arith)

  -- what waits until row c is there at c
  pub token_at_lem : (pc : ℕ) (env : Env) (s : State) → Gamma tb pc env s → (p : Use) (v B : ℕ) → slot tb p ≡ val v B pc → s.tok p ≡ some (env v)
  token_at_lem pc env s G p v B q =
      let u = g.uses p v B pc q in
      let a : tb.first B ≤ pc = u.place.low in
      let b : pc ≤ tb.last B = u.place.high in
      let c : since tb v B ≤ pc = u.named_before in
      (G.values p v B pc q).on (a, b, c, omega arith)

  room_op : (r : ℕ) → is_op tb (tb.row r) ≡ true → (env : Env) (s : State) → Gamma tb r env s → (p : Use) (o : Output) → src tb p ≡ some (output (op_node r) o) → s.tok p ≡ none
  room_op r isop env s G p o h =
      elim (src_cases p (output (op_node r) o) h) [
        | inl q ↦ go q.0 q.1 q.2 q.3 q.4 (source tb q.0 q.1)
        | inr q ↦ G.inners p (output (op_node r) o) q
      ]
    where
      go : (v B c : ℕ) → slot tb p ≡ val v B c → wire_of tb v B ≡ output (op_node r) o → Source tb v B → s.tok p ≡ none
      go v B c q w (from_start a b t z) = let z : ◌≡◌ {A = ℕ} 0 1 = cc in absurd (omega arith)
      go v B c q w (from_op a b t z) = let d : v ≡ r = cc in (G.values p v B c q).off (λ l. let k = l.2 in omega arith)
      go v B c q w (from_for a b t z) = let z : ◌≡◌ {A = ℕ} 0 1 = cc in absurd (omega arith)
      go v B c q w (from_arg i a b t z) = let z : ◌≡◌ {A = ℕ} 0 1 = cc in absurd (omega arith)
      go v B c q w (from_next x a b t z) = let z : ◌≡◌ {A = ℕ} 0 1 = cc in absurd (omega arith)
      go v B c q w (from_copy a b z) = let z : ◌≡◌ {A = ℕ} 0 1 = cc in absurd (omega arith)

  -- from s the use machine comes to where the reading stands at (pc', env'), with these words on each loop's raw and gated condition
  abbrev pub Path : (env : Env) (s : State) (pc' : ℕ) (env' : Env) (raw gated : ℕ → List ℕ) → Type 0
  Path env s pc' env' raw gated =
      (xs : List Role) × (t : State) × Steps (plan tb) xs s t × Gamma tb pc' env' t
      × ((M : ℕ) → t.hist (stream M) out1 ≡ s.hist (stream M) out1 ++ raw M) × ((M : ℕ) → t.hist (gate M) out1 ≡ s.hist (gate M) out1 ++ gated M)

  abbrev pub silent : ℕ → List ℕ
  silent M = []

  one_silent : (r : ℕ) (e : Effect) (s : State) (n : Role) → n ≢ op_node r → (after (plan tb) (one (op_node r) e) s).hist n out1 ≡ s.hist n out1 ++ []
  one_silent r e s n h = ap (λ (z : Option Effect). s.hist n out1 ++ listed (give_by z out1)) (one_other (op_node r) n e h)

  -- the node of an OP or PICK keeps no record
  op_rests : (r : ℕ) → is_op tb (tb.row r) ≡ true → (env : Env) (s : State) → Gamma tb r env s → s.own (op_node r) ≡ rest
  op_rests r isop env s G =
      let l = g.op_size r isop in
      G.records_in (op_node r) (l, isop) (let a = g.outer_first in omega arith, let b = g.outer_last in omega arith)

  pub step_op : (r c x y : ℕ) → tb.row r ≡ op c x y → (env : Env) (s : State) → Gamma tb r env s → Path env s (suc r) (set_to r (operate c (env x) (env y)) env) silent silent
  unfolding E
  step_op r c x y q env s G =
      let isop : is_op tb (tb.row r) ≡ true = rw q in
      let w = operate c (env x) (env y) in
      let e : Effect = record { takes0 = true; takes1 = true; takes2 = false; gives0 = some w; gives1 = none; next = rest } in
      let t0 = token_at_lem r env s G (into (op_node r) in0) x (tb.reads r) (rw q) in
      let t1 = token_at_lem r env s G (into (op_node r) in1) y (tb.reads r) (rw q) in (
        op_node r ∷ [],
        after (plan tb) (one (op_node r) e) s,
        (
          e,
          record {
            real = (g.op_size r isop, isop);
            runs = runs_by (program_of tb (op_node r)) s (op_node r) (some (env x)) (some (env y)) (s.tok (into (op_node r) in2)) rest e t0 t1 refl (op_rests r isop env s G) (rw q);
            room = λ p o z h k. room_op r isop env s G p o h;
          },
          refl,
        ),
        gamma_op r isop e w refl refl refl (takes_op (tb.row r) q) env s G,
        λ M. one_silent r e s (stream M) (λ c. let z : ◌≡◌ {A = ℕ} 0 1 = cc in omega arith),
        λ M. one_silent r e s (gate M) (λ c. let z : ◌≡◌ {A = ℕ} 0 1 = cc in omega arith),
      )
    where
      takes_op : (d : Row) → d ≡ op c x y → (k : Input) (v B c' : ℕ) → slot tb (into (op_node r) k) ≡ val v B c' → takes (record { takes0 = true; takes1 = true; takes2 = false; gives0 = some (operate c (env x) (env y)); gives1 = none; next = rest }) k ≡ true
      takes_op d h in0 v B c' k = refl
      takes_op d h in1 v B c' k = refl
      takes_op d h in2 v B c' k = let k' : absent ≡ val v B c' = rw q at k in let z : ◌≡◌ {A = ℕ} 0 1 = cc in absurd (omega arith)

  pub step_pick : (r f x y : ℕ) → tb.row r ≡ pick f x y → (env : Env) (s : State) → Gamma tb r env s → Path env s (suc r) (set_to r (choose (env f) (env x) (env y)) env) silent silent
  unfolding E
  step_pick r f x y q env s G =
      let isop : is_op tb (tb.row r) ≡ true = rw q in
      let w = choose (env f) (env x) (env y) in
      let e : Effect = record { takes0 = true; takes1 = true; takes2 = true; gives0 = some w; gives1 = none; next = rest } in
      let t0 = token_at_lem r env s G (into (op_node r) in0) f (tb.reads r) (rw q) in
      let t1 = token_at_lem r env s G (into (op_node r) in1) x (tb.reads r) (rw q) in
      let t2 = token_at_lem r env s G (into (op_node r) in2) y (tb.reads r) (rw q) in (
        op_node r ∷ [],
        after (plan tb) (one (op_node r) e) s,
        (
          e,
          record {
            real = (g.op_size r isop, isop);
            runs = runs_by (program_of tb (op_node r)) s (op_node r) (some (env f)) (some (env x)) (some (env y)) rest e t0 t1 t2 (op_rests r isop env s G) (rw q (picks (env f) (env x) (env y)));
            room = λ p o z h k. room_op r isop env s G p o h;
          },
          refl,
        ),
        gamma_op r isop e w refl refl refl takes_pick env s G,
        λ M. one_silent r e s (stream M) (λ c. let z : ◌≡◌ {A = ℕ} 0 1 = cc in omega arith),
        λ M. one_silent r e s (gate M) (λ c. let z : ◌≡◌ {A = ℕ} 0 1 = cc in omega arith),
      )
    where
      picks : (a b c : ℕ) → perform (program PICK 0 rest) (sight (some a) (some b) (some c) rest)
          ≡ some (record { takes0 = true; takes1 = true; takes2 = true; gives0 = some (choose a b c); gives1 = none; next = rest })
      picks zero b c = refl
      picks (suc a) b c = refl

      takes_pick : (k : Input) (v B c' : ℕ) → slot tb (into (op_node r) k) ≡ val v B c' → takes (record { takes0 = true; takes1 = true; takes2 = true; gives0 = some (choose (env f) (env x) (env y)); gives1 = none; next = rest }) k ≡ true
      takes_pick in0 v B c' k = refl
      takes_pick in1 v B c' k = refl
      takes_pick in2 v B c' k = refl
