-- THE CONFIGURATION in closed form: what stands where in the use machine when the reading stands at row pc with the words env.
--
--   Live                      a use of v in B until c holds a token at pc: pc is inside B, v is born, and c is not passed
--   Inside, scope, held       the records that a loop's nodes hold while pc is inside it
--   Gamma                     so all uses and records
--   rel                       a loop and another body: one before, behind, inside or around the other
--   since_head, since_in, since_own
--                             when a value is born, against a loop's rows
--
-- Assumes nothing.
use Rattle.std.specs.Prelude.{◌≡◌, refl, ◌≢◌, ◌⊎◌, true, ℕ, suc, ◌≤◌, ◌<◌}
use Rattle.std.proofs.Common.{sym, ap, ◌∙◌, subst, inl, inr, arith}
use Rattle.std.proofs.Math.Option.{Option, none, some}
use Rattle.std.proofs.Math.Decide.{ℕ_discrete, dec_le}
use Rattle.word.specs.Words.{update}
use Rattle.step.specs.Kinds.{in1, in2}
use Rattle.step.specs.Machines.{rest, in_phase, holding}
use Rattle.step.specs.declared.Record.{Record}
use Rattle.table.specs.Bodies.{Row, input, const, op, pick, for, arg, next, end, out, unknown}
use Rattle.lowered.specs.Roles.{Role, op_node, stream, gate, guard, copy_split, copy_invariant, carry, arg_split, Wire, Use, into}
use Rattle.uses.specs.Machine.{State}
use Rattle.faithful.specs.Table.{Table, val, inner, IsFor, since, slot, is_op, Real}
use Rattle.faithful.specs.Good.{Inner, Good, from_start, from_op, from_for, from_arg, from_next, from_copy, source}

abbrev pub Env : Type 0
Env = ℕ → ℕ

abbrev pub stream_held : Row → ℕ → Env → Record
stream_held input L env = rest
stream_held (const w) L env = rest
stream_held (op c x y) L env = rest
stream_held (pick f x y) L env = rest
stream_held (for s t b u c) L env = holding (update u (env L) (env t)) (env t) (env b)
stream_held (arg i) L env = rest
stream_held (next v) L env = rest
stream_held end L env = rest
stream_held unknown L env = rest
stream_held (out x) L env = rest

module _ (tb : Table) where
  -- a use of v in B until c holds a token at pc
  abbrev pub Live : (v B c pc : ℕ) → Type 0
  Live v B c pc = (tb.first B ≤ pc) × (pc ≤ tb.last B) × (since tb v B ≤ pc) × (pc ≤ c)

  abbrev pub Inside : (B pc : ℕ) → Type 0
  Inside B pc = (tb.first B ≤ pc) × (pc ≤ tb.last B)

  pub record Shows (t : Option ℕ) (v B c pc : ℕ) (env : Env) : Type 0 where
    pub on : Live v B c pc → t ≡ some (env v)
    pub off : (Live v B c pc → ⊥) → t ≡ none

  -- the record that a node holds while pc is inside its loop
  abbrev pub scope : Role → ℕ
  scope (op_node r) = tb.size
  scope (stream L) = L
  scope (gate L) = L
  scope (guard L) = tb.size
  scope (copy_split L v) = tb.size
  scope (copy_invariant L v) = L
  scope (carry a) = tb.loop a
  scope (arg_split a) = tb.size

  abbrev pub held : Role → Env → Record
  held (op_node r) env = rest
  held (stream L) env = stream_held (tb.row L) L env
  held (gate L) env = in_phase 1
  held (guard L) env = rest
  held (copy_split L v) env = rest
  held (copy_invariant L v) env = holding (env v) 0 0
  held (carry a) env = in_phase 2
  held (arg_split a) env = rest

  -- THE CONFIGURATION
  pub record Gamma (pc : ℕ) (env : Env) (s : State) : Type 0 where
    pub values : (p : Use) (v B c : ℕ) → slot tb p ≡ val v B c → Shows (s.tok p) v B c pc env
    pub inners : (p : Use) (w : Wire) → slot tb p ≡ inner w → s.tok p ≡ none
    pub records_in : (n : Role) → Real tb n → Inside (scope n) pc → s.own n ≡ held n env
    pub records_out : (n : Role) → Real tb n → (Inside (scope n) pc → ⊥) → s.own n ≡ rest

  pub shows_same : (t t' : Option ℕ) (v B c pc pc' : ℕ) (env env' : Env) → t' ≡ t → (Live v B c pc → Live v B c pc') → (Live v B c pc' → Live v B c pc)
      → (Live v B c pc' → env' v ≡ env v) → Shows t v B c pc env → Shows t' v B c pc' env'
  shows_same t t' v B c pc pc' env env' e f g h s =
      record { on = λ l. e ∙ s.on (g l) ∙ ap some (sym (h l)); off = λ n. e ∙ s.off (λ l. n (f l)) }

  -- neither live before nor after
  pub shows_none : (t : Option ℕ) (v B c pc : ℕ) (env : Env) → t ≡ none → (Live v B c pc → ⊥) → Shows t v B c pc env
  shows_none t v B c pc env e n = record { on = λ l. absurd (n l); off = λ _. e }

  pub shows_some : (t : Option ℕ) (v B c pc : ℕ) (env : Env) → t ≡ some (env v) → Live v B c pc → Shows t v B c pc env
  shows_some t v B c pc env e l = record { on = λ _. e; off = λ n. absurd (n l) }

  module _ (g : Good tb) where
    -- ---- numbers

    -- a loop L and another body B
    pub data Rel (B L : ℕ) : Type 0 where
      before : tb.last B < L → Rel B L
      behind : tb.last L < B → B < tb.first B → Rel B L
      inside : tb.first L ≤ B → B < tb.first B → tb.last B < tb.last L → Rel B L
      around : tb.first B ≤ L → tb.last L < tb.last B → Rel B L

    pub for_not_end : (L r : ℕ) → IsFor tb L → tb.row r ≡ end → L ≢ r
    for_not_end L r f h e = let q : tb.row r ≡ for f.0 f.1 f.2 f.3 f.4 = subst (λ (z : ℕ). tb.row z ≡ for f.0 f.1 f.2 f.3 f.4) e f.5 in
        let z : ◌≡◌ {A = ℕ} 0 1 = cc in omega arith

    pub rel : (B L : ℕ) → (B ≡ tb.size) ⊎ IsFor tb B → IsFor tb L → B ≢ L → Rel B L
    rel B L (inl e) f n =
        let a : tb.last L < tb.size = g.for_size L f in
        let b : tb.first B ≡ 0 = ap tb.first e ∙ g.outer_first in
        let c : tb.last B ≡ suc tb.size = ap tb.last e ∙ g.outer_last in
        around (omega arith) (omega arith)
    rel B L (inr h) f n =
        let a = g.for_first B h in let b = g.for_last B h in let c = g.for_first L f in let d = g.for_last L f in
        elim (dec_le B L) [
          | yes l ↦ elim (dec_le L (tb.last B)) [
            | yes m ↦ let q = g.nest B L h f (omega arith) m in around q.0 q.1
            | no m ↦ before (omega arith)
          ]
          | no l ↦ elim (dec_le B (tb.last L)) [
            | yes m ↦ let q = g.nest L B f h (omega arith) m in inside q.0 a q.1
            | no m ↦ behind (omega arith) a
          ]
        ]

    -- rows of a loop's head are no events
    pub head_row : (L r : ℕ) → IsFor tb L → L ≤ r → r < tb.first L → IsFor tb r ⊎ ((i : ℕ) × (tb.row r ≡ arg i))
    head_row L r f a b =
        elim (ℕ_discrete L r) [
          | yes e ↦ inl (subst (IsFor tb) e f)
          | no n ↦ let q = g.for_args L r f (omega arith) b in inr (q.0, q.1)
        ]

    op_not_head : (L r : ℕ) → IsFor tb L → is_op tb (tb.row r) ≡ true → L ≤ r → r < tb.first L → ⊥
    op_not_head L r f h a b =
        elim (head_row L r f a b) [
          | inl q ↦ let k = q.5 in let z : ◌≡◌ {A = ℕ} 0 1 = cc in omega arith
          | inr q ↦ let k = q.1 in let z : ◌≡◌ {A = ℕ} 0 1 = cc in omega arith
        ]

    end_not_head : (L r : ℕ) → IsFor tb L → tb.row r ≡ end → L ≤ r → r < tb.first L → ⊥
    end_not_head L r f h a b =
        elim (head_row L r f a b) [
          | inl q ↦ let k = q.5 in let z : ◌≡◌ {A = ℕ} 0 1 = cc in omega arith
          | inr q ↦ let k = q.1 in let z : ◌≡◌ {A = ℕ} 0 1 = cc in omega arith
        ]

    -- a value born behind a loop's FOR is born behind its head
    pub since_head : (v B L : ℕ) → IsFor tb L → L < since tb v B → tb.first L < since tb v B
    since_head v B L f h =
        elim (source tb v B) [
          | from_start _ _ _ z ↦ absurd (omega arith)
          | from_op _ _ q z ↦ elim (dec_le (tb.first L) v) [ yes m ↦ omega arith | no m ↦ absurd (op_not_head L v f q (omega arith) (omega arith)) ]
          | from_for _ _ _ z ↦ absurd (omega arith)
          | from_arg i _ _ _ z ↦ absurd (omega arith)
          | from_next x _ _ q z ↦
              let m = g.next_for v x q in
              elim (dec_le (tb.first L) (tb.last (tb.loop v))) [
                | yes m ↦ omega arith
                | no k ↦ absurd (end_not_head L (tb.last (tb.loop v)) f (g.for_end (tb.loop v) m) (omega arith) (omega arith))
              ]
          | from_copy _ _ z ↦ absurd (omega arith)
        ]

    -- a value born in a loop L stands in L or deeper, or is a NEXT of L
    pub since_in : (v B L : ℕ) → IsFor tb L → L < since tb v B → since tb v B ≤ suc (tb.last L)
        → ((tb.first L ≤ tb.first B) × (tb.last B ≤ tb.last L)) ⊎ ((x : ℕ) × (tb.row v ≡ next x) × (tb.loop v ≡ L) × (tb.home v ≡ B))
    since_in v B L f h k =
        elim (source tb v B) [
          | from_start _ _ _ z ↦ absurd (omega arith)
          | from_op _ e q z ↦
              let i = subst (λ (y : ℕ). Inner tb y v) (sym (g.op_home v q) ∙ e) (g.op_place v q) in
              let ne : L ≢ v = λ c. op_not_head L v f q (omega arith) (let a = g.for_first L f in omega arith) in
              inl (i.within L f (omega arith) (omega arith))
          | from_for _ _ _ z ↦ absurd (omega arith)
          | from_arg i _ _ _ z ↦ absurd (omega arith)
          | from_next x _ e q z ↦
              let m = g.next_for v x q in
              let a = g.for_first (tb.loop v) m in let b = g.for_last (tb.loop v) m in
              elim (ℕ_discrete (tb.loop v) L) [
                | yes y ↦ inr (x, q, y, e)
                | no y ↦
                    let i = subst (λ (w : ℕ). Inner tb w (tb.loop v)) (sym (g.next_home v x q) ∙ e) (g.for_reads (tb.loop v) m) in
                    elim (dec_le (tb.loop v) L) [
                      | yes c ↦ let d = g.nest (tb.loop v) L m f (omega arith) (omega arith) in absurd (omega arith)
                      | no c ↦ inl (i.within L f (omega arith) (omega arith))
                    ]
              ]
          | from_copy _ _ z ↦ absurd (omega arith)
        ]

    -- in its own loop a value stands from the start or is born behind the head
    pub since_own : (v L : ℕ) → IsFor tb L → (since tb v L ≡ 0) ⊎ (tb.first L < since tb v L)
    since_own v L f =
        elim (source tb v L) [
          | from_start _ _ _ z ↦ inl z
          | from_op _ e q z ↦
              let i = subst (λ (y : ℕ). Inner tb y v) (sym (g.op_home v q) ∙ e) (g.op_place v q) in
              let l = i.low in inr (omega arith)
          | from_for _ _ _ z ↦ inl z
          | from_arg i _ _ _ z ↦ inl z
          | from_next x _ e q z ↦
              let m = g.next_for v x q in
              let i = subst (λ (w : ℕ). Inner tb w (tb.loop v)) (sym (g.next_home v x q) ∙ e) (g.for_reads (tb.loop v) m) in
              let a = g.for_first (tb.loop v) m in let b = g.for_last (tb.loop v) m in let l = i.low in
              inr (omega arith)
          | from_copy _ _ z ↦ inl z
        ]

    -- records inside a loop look only at words of rows up to its FOR
    pub held_same : (n : Role) → Real tb n → (env env' : Env) → ((v : ℕ) → IsFor tb (scope n) → v ≤ scope n → env' v ≡ env v) → held n env' ≡ held n env
    held_same (op_node r) rl env env' h = refl
    held_same (stream L) (s, t, b, u, c, q) env env' h =
        let ut : t < L = (g.uses (into (stream L) in1) t (tb.reads L) L (rw q)).before in
        let ub : b < L = (g.uses (into (stream L) in2) b (tb.reads L) L (rw q)).before in
        let f : IsFor tb L = (s, t, b, u, c, q) in
        let et : env' t ≡ env t = h t f (omega arith) in
        let eb : env' b ≡ env b = h b f (omega arith) in
        let el : env' L ≡ env L = h L f (omega arith) in
        rw q (λ i. holding (update u (el i) (et i)) (et i) (eb i))
    held_same (gate L) rl env env' h = refl
    held_same (guard L) rl env env' h = refl
    held_same (copy_split L v) rl env env' h = refl
    held_same (copy_invariant L v) rl env env' h = ap (λ (z : ℕ). holding z 0 0) (h v rl.0 (let k = g.in_before L v rl.1 in omega arith))
    held_same (carry a) rl env env' h = refl
    held_same (arg_split a) rl env env' h = refl
