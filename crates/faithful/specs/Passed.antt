-- What the reading has passed: the nodes of rows and loops before a row of the outermost body hold nothing, and take only from one another and
-- from the starts.
--
--   role_at                    the row of an OP's or PICK's node, the loop of any other
--   rest_outside              a node whose loop is not open is at rest
--   EarlyWire                 a start, or an output of a node before row P
--   use_passed, source_early, tok_none, own_rest
--                             a use of a node before P is over before P, takes an early wire, and is empty once P is reached; the node is at rest
--
-- Assumes nothing.
use Rattle.std.specs.Prelude.{◌≡◌, refl, true, ℕ, ◌≤◌, ◌<◌, eqb}
use Rattle.std.proofs.Common.{sym, ap, ◌∙◌, subst, inl, inr, arith, eqb-true}
use Rattle.std.proofs.Math.Option.{none, some}
use Rattle.std.proofs.Math.Decide.{dec_lt, dec_le}
use Rattle.step.specs.Kinds.{Input}
use Rattle.step.specs.Kept.{and_true}
use Rattle.step.specs.Machines.{rest}
use Rattle.lowered.specs.Roles.{Role, op_node, stream, gate, guard, copy_split, copy_invariant, carry, arg_split, Wire, start, output, into}
use Rattle.uses.specs.Machine.{State}
use Rattle.faithful.specs.Table.{Table, val, IsFor, wire_of, slot, src, is_arg, Real}
use Rattle.faithful.specs.Members.{in_loop}
use Rattle.faithful.specs.Good.{Good, Source, from_start, from_op, from_for, from_arg, from_next, from_copy, source, When, by_op, by_for, by_end, by_out, when, inward}
use Rattle.faithful.specs.Gamma.{Env, Inside, scope, held, Gamma}
use Rattle.faithful.specs.Rows.{src_cases}

module _ (tb : Table) where
  abbrev pub role_at : Role → ℕ
  role_at (op_node r) = r
  role_at (stream L) = L
  role_at (gate L) = L
  role_at (guard L) = L
  role_at (copy_split L v) = L
  role_at (copy_invariant L v) = L
  role_at (carry a) = tb.loop a
  role_at (arg_split a) = tb.loop a

  in_loop_at : (L : ℕ) (n : Role) → in_loop tb L n ≡ true → role_at n ≡ L
  in_loop_at L (op_node r) h = let z : ◌≡◌ {A = ℕ} 0 1 = cc in absurd (omega arith)
  in_loop_at L (stream M) h = eqb-true M L h
  in_loop_at L (gate M) h = eqb-true M L h
  in_loop_at L (guard M) h = eqb-true M L h
  in_loop_at L (copy_split M v) h = eqb-true M L (and_true (eqb M L) (tb.carried M v) h).0
  in_loop_at L (copy_invariant M v) h = eqb-true M L (and_true (eqb M L) (tb.carried M v) h).0
  in_loop_at L (carry a) h = eqb-true (tb.loop a) L (and_true (eqb (tb.loop a) L) (is_arg (tb.row a)) h).0
  in_loop_at L (arg_split a) h = eqb-true (tb.loop a) L (and_true (eqb (tb.loop a) L) (is_arg (tb.row a)) h).0

  pub rest_outside : Good tb → (pc : ℕ) (env : Env) (t : State) → Gamma tb pc env t → (n : Role) → Real tb n → ((L : ℕ) → IsFor tb L → role_at n ≡ L → Inside tb L pc → ⊥) → t.own n ≡ rest
  rest_outside g pc env t G n rl shut = go n rl shut
    where
      always : (n : Role) → Real tb n → held tb n env ≡ rest → t.own n ≡ rest
      always n rl h =
          elim (dec_le (tb.first (scope tb n)) pc) [
            | yes x ↦ elim (dec_le pc (tb.last (scope tb n))) [ yes y ↦ G.records_in n rl (x, y) ∙ h | no y ↦ G.records_out n rl (λ l. y l.1) ]
            | no x ↦ G.records_out n rl (λ l. x l.0)
          ]

      go : (n : Role) → Real tb n → ((L : ℕ) → IsFor tb L → role_at n ≡ L → Inside tb L pc → ⊥) → t.own n ≡ rest
      go (op_node r) rl shut = always (op_node r) rl refl
      go (stream L) rl shut = G.records_out (stream L) rl (shut L rl refl)
      go (gate L) rl shut = G.records_out (gate L) rl (shut L rl refl)
      go (guard L) rl shut = always (guard L) rl refl
      go (copy_split L v) rl shut = always (copy_split L v) rl refl
      go (copy_invariant L v) rl shut = G.records_out (copy_invariant L v) rl (shut L rl.0 refl)
      go (carry a) rl shut = G.records_out (carry a) rl (shut (tb.loop a) (g.arg_for a rl.0 rl.1) refl)
      go (arg_split a) rl shut = always (arg_split a) rl refl

-- ---- before a loop P of the outermost body
module _ (tb : Table) (g : Good tb) (P : ℕ) (here : IsFor tb P) (outside : tb.reads P ≡ tb.size) where
  -- a loop that starts before it has ended before it
  loop_passed : (M : ℕ) → IsFor tb M → M < P → tb.last M < P
  loop_passed M f l =
      elim (dec_lt (tb.last M) P) [
        | yes x ↦ x
        | no x ↦
            let w = ((g.for_reads P here).within M f l (omega arith)).0 in
            let a = g.for_first M f in
            let e : tb.first (tb.reads P) ≡ 0 = ap tb.first outside ∙ g.outer_first in
            absurd (omega arith)
      ]

  abbrev pub EarlyWire : Wire → Type 0
  EarlyWire (start v) = Unit {0}
  EarlyWire (output n o) = role_at tb n < P

  use_passed : (n : Role) (k : Input) (v B c : ℕ) → slot tb (into n k) ≡ val v B c → role_at tb n < P → c < P
  use_passed n k v B c q l = go (when tb g (into n k) v B c q)
    where
      go : When tb (into n k) v B c → c < P
      go (by_op i e x) = let d : n ≡ op_node c = cc in let r = ap (role_at tb) d in omega arith
      go (by_for f m i e h _) = let d : n ≡ m = cc in let r = ap (role_at tb) d in let s = in_loop_at tb c m h in omega arith
      go (by_end L f m i e h d _) =
          let b : n ≡ m = cc in
          let r = ap (role_at tb) b in
          let s = in_loop_at tb L m h in
          let p = loop_passed L f (omega arith) in
          omega arith
      go (by_out r e _ _) = let z : ◌≡◌ {A = ℕ} 0 1 = cc in absurd (omega arith)

  pub source_early : (n : Role) (k : Input) (w : Wire) → src tb (into n k) ≡ some w → role_at tb n < P → EarlyWire w
  source_early n k w h l =
      elim (src_cases tb g (into n k) w h) [
        | inl q ↦ subst EarlyWire q.4 (value q.0 q.1 q.2 q.3 (source tb q.0 q.1))
        | inr q ↦
            let i = inward tb (into n k) w q in
            let e = i.use_is in
            let d : n ≡ i.node = cc in
            let r = ap (role_at tb) d in
            let s = in_loop_at tb i.loop i.node i.node_in in
            let m = in_loop_at tb i.loop i.from i.from_in in
            subst EarlyWire (sym i.wire_is) (omega arith)
      ]
    where
      value : (v B c : ℕ) → slot tb (into n k) ≡ val v B c → Source tb v B → EarlyWire (wire_of tb v B)
      value v B c q (from_start a _ _ _) = subst EarlyWire (sym a) tt
      value v B c q (from_op a _ _ _) = subst EarlyWire (sym a) (let u = (g.uses (into n k) v B c q).before in let p = use_passed n k v B c q l in omega arith)
      value v B c q (from_for a _ _ _) = subst EarlyWire (sym a) (let u = (g.uses (into n k) v B c q).before in let p = use_passed n k v B c q l in omega arith)
      value v B c q (from_arg i a _ r _) = subst EarlyWire (sym a) (let u = (g.uses (into n k) v B c q).before in let p = use_passed n k v B c q l in let b = g.arg_low v i r in omega arith)
      value v B c q (from_next x a _ r _) =
          subst EarlyWire (sym a)
          (let u = (g.uses (into n k) v B c q).before in
          let p = use_passed n k v B c q l in
          let b = g.next_arg_loop v x r in
          let d = g.for_first (tb.loop v) (g.next_for v x r) in
          let e = g.next_low v x r in
          omega arith)
      value v B c q (from_copy a b _) =
          subst EarlyWire (sym a)
          (let u = g.uses (into n k) v B c q in
          let p = use_passed n k v B c q l in
          let d = g.for_first B (g.in_for B v (u.away b)) in
          let e = u.place.low in
          omega arith)

  -- ---- once the reading has come to P
  module _ (pc : ℕ) (env : Env) (t : State) (G : Gamma tb pc env t) (come : P ≤ pc) where
    pub tok_none : (n : Role) (k : Input) (w : Wire) → src tb (into n k) ≡ some w → role_at tb n < P → t.tok (into n k) ≡ none
    tok_none n k w h l =
        elim (src_cases tb g (into n k) w h) [
          | inl q ↦ (G.values (into n k) q.0 q.1 q.2 q.3).off (λ x. let a = x.3 in let p = use_passed n k q.0 q.1 q.2 q.3 l in omega arith)
          | inr q ↦ G.inners (into n k) w q
        ]

    pub own_rest : (n : Role) → Real tb n → role_at tb n < P → t.own n ≡ rest
    own_rest n rl l = rest_outside tb g pc env t G n rl (λ L f e i. let p = loop_passed L f (omega arith) in let a = i.1 in omega arith)
