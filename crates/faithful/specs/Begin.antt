-- The beginning: the loaded starts are spread to their uses, and that is where the reading stands at row 0.
--
--   Begun                     the first m starts have been spread
--   begin_all                 from the loaded tokens all starts are spread, and nothing is put on a node's output
--   state0, shown0, gamma0    the use machine's first state, shown by the graph, is the reading's at row 0
--
-- Assumes nothing.
use Rattle.std.specs.Prelude.{◌≡◌, refl, ◌≢◌, Bool, true, false, List, [], ◌∷◌, ◌++◌, ℕ, zero, suc, ◌+◌, ◌≤◌, ◌<◌}
use Rattle.std.proofs.Common.{sym, ap, ◌∙◌, subst, inl, inr, arith}
use Rattle.std.proofs.Math.Option.{Option, none, some}
use Rattle.std.proofs.Math.Decide.{ℕ_discrete}
use Rattle.step.specs.Kinds.{Output, out0, out1}
use Rattle.step.specs.Machines.{rest}
use Rattle.state.specs.Net.{Net}
use Rattle.lowered.specs.Lists.{Among, Once}
use Rattle.lowered.specs.Roles.{Role, op_node, stream, gate, guard, copy_split, copy_invariant, carry, arg_split, Wire, start, output, Use}
use Rattle.uses.specs.Machine.{State}
use Rattle.uses.specs.Wires.{Tokens, Steps2, steps2_append, puts2, puts2_both, Spreads, spread}
use Rattle.uses.specs.Layout.{Layout, Made, Tree, UseOf, Shown, use_in_tree, use_tree, among_use}
use Rattle.faithful.specs.Table.{Table, Slot, val, is_in, IsFor, wire_of, slot, slot_wire, src, Real, plan}
use Rattle.faithful.specs.Good.{Good, Source, from_start, from_op, from_for, from_arg, from_next, from_copy, source, Inward, inward}
use Rattle.faithful.specs.Gamma.{Env, Live, Inside, Shows, scope, held, Gamma, shows_none, shows_some}

module _ (tb : Table) (net : Net) (y : Layout (plan tb) net) (env : Env) where
  -- the first m starts have been spread
  pub record Begun (m : ℕ) (Z : Tokens) : Type 0 where
    pub done_hit : (v : ℕ) → v < m → Made (plan tb) (start v) → (x : ℕ) → UseOf (plan tb) net y x (start v) → Z.wt x ≡ some (env v)
    pub done_miss : (v : ℕ) → v < m → Made (plan tb) (start v) → (x : ℕ) → Tree (plan tb) net y x (start v) → (UseOf (plan tb) net y x (start v) → ⊥) → Z.wt x ≡ none
    pub todo_root : (v : ℕ) → m ≤ v → Made (plan tb) (start v) → Z.wt (y.ww (start v)) ≡ some (env v)
    pub todo_tail : (v : ℕ) → m ≤ v → Made (plan tb) (start v) → (x : ℕ) → Among x (y.tail (start v)) → Z.wt x ≡ none
    pub inner_wires : (n : Role) (o : Output) → Made (plan tb) (output n o) → (x : ℕ) → Tree (plan tb) net y x (output n o) → Z.wt x ≡ none
    pub idle : (j : ℕ) → Z.wr j ≡ rest

  apart : (v : ℕ) (w : Wire) → Made (plan tb) (start v) → Made (plan tb) w → (x : ℕ) → Tree (plan tb) net y x (start v) → Tree (plan tb) net y x w → w ≡ start v
  apart v w a b x t u = sym (y.tree_apart (start v) w a b x t u)

  -- nothing is put on a role's output
  abbrev pub Silent : (is : List ℕ) (Z B : Tokens) → Steps2 net is Z B → Type 0
  Silent is Z B q = (n : Role) (o : Output) → Made (plan tb) (output n o) → puts2 net is Z B q (y.ww (output n o)) ≡ []

  begin_one : (m : ℕ) (Z : Tokens) → Begun m Z → Made (plan tb) (start m) → (is : List ℕ) × (B : Tokens) × (q : Steps2 net is Z B) × Begun (suc m) B × Silent is Z B q
  begin_one m Z b md =
      let p = y.sp (start m) md in
      let r = spread net y.pw p.0 (env m) Z (b.todo_root m (omega arith) md) (subst (λ (l : List ℕ). Once (y.ww (start m) ∷ l)) (sym p.1) (y.tree_once (start m) md))
      (λ x h. b.todo_tail m (omega arith) md x (subst (λ (l : List ℕ). Among x l) p.1 h)) (λ j h. b.idle j) in (
        r.0,
        r.1,
        r.2,
        onward r.1 r.3,
        λ n o mo. r.4 (y.ww (output n o)) (λ h. let d : start m ≡ output n o = y.tree_apart (start m) (output n o) md mo (y.ww (output n o)) (inr (subst (λ (l : List ℕ). Among (y.ww (output n o)) l) p.1 h)) (inl refl) in
            let z : ◌≡◌ {A = ℕ} 0 1 = cc in omega arith),
      )
    where
      onward : (B : Tokens) → Spreads net y.pw (y.ww (start m)) (env m) (y.users (start m)) Z B → Begun (suc m) B
      onward B u =
          record {
            done_hit = λ v l mv x t. elim (ℕ_discrete v m) [
              | yes e ↦ u.reached x (subst (λ (z : ℕ). UseOf (plan tb) net y x (start z)) e t) ∙ ap (λ (z : ℕ). some (env z)) (sym e)
              | no e ↦ same v mv e x (use_tree (plan tb) net y x (start v) mv t) ∙ b.done_hit v (omega arith) mv x t
            ];
            done_miss = λ v l mv x t k. elim (ℕ_discrete v m) [
              | yes e ↦ missing x (subst (λ (z : ℕ). Tree (plan tb) net y x (start z)) e t) (λ h. k (subst (λ (z : ℕ). UseOf (plan tb) net y x (start z)) (sym e) h))
              | no e ↦ same v mv e x t ∙ b.done_miss v (omega arith) mv x t k
            ];
            todo_root = λ v l mv. same v mv (omega arith) (y.ww (start v)) (inl refl) ∙ b.todo_root v (omega arith) mv;
            todo_tail = λ v l mv x t. same v mv (omega arith) x (inr t) ∙ b.todo_tail v (omega arith) mv x t;
            inner_wires = λ n o mo x t. other (output n o) mo (λ d. let z : ◌≡◌ {A = ℕ} 0 1 = cc in omega arith) x t ∙ b.inner_wires n o mo x t;
            idle = λ j. u.recs j ∙ b.idle j;
          }
        where
          other : (w : Wire) → Made (plan tb) w → w ≢ start m → (x : ℕ) → Tree (plan tb) net y x w → B.wt x ≡ Z.wt x
          other w mw ne x t =
              u.others x (λ c. ne (apart m w md mw x (inl c) t)) (λ h. ne (apart m w md mw x (use_tree (plan tb) net y x (start m) md h) t))

          same : (v : ℕ) → Made (plan tb) (start v) → v ≢ m → (x : ℕ) → Tree (plan tb) net y x (start v) → B.wt x ≡ Z.wt x
          same v mv e x t = other (start v) mv (λ d. e (cc)) x t

          missing : (x : ℕ) → Tree (plan tb) net y x (start m) → (UseOf (plan tb) net y x (start m) → ⊥) → B.wt x ≡ none
          missing x (inl c) k = ap B.wt c ∙ u.root (λ h. k (subst (λ (z : ℕ). UseOf (plan tb) net y z (start m)) (sym c) h))
          missing x (inr t) k =
              u.others x (λ c. (y.tree_once (start m) md).0 (subst (λ (z : ℕ). Among z (y.tail (start m))) c t)) k ∙ b.todo_tail m (omega arith) md x t

  begin_skip : (m : ℕ) (Z : Tokens) → Begun m Z → (Made (plan tb) (start m) → ⊥) → Begun (suc m) Z
  begin_skip m Z b n =
      record {
        done_hit = λ v l mv x t. elim (ℕ_discrete v m) [ yes e ↦ absurd (n (subst (λ (z : ℕ). Made (plan tb) (start z)) e mv)) | no e ↦ b.done_hit v (omega arith) mv x t ];
        done_miss = λ v l mv x t k. elim (ℕ_discrete v m) [ yes e ↦ absurd (n (subst (λ (z : ℕ). Made (plan tb) (start z)) e mv)) | no e ↦ b.done_miss v (omega arith) mv x t k ];
        todo_root = λ v l mv. b.todo_root v (omega arith) mv;
        todo_tail = λ v l mv x t. b.todo_tail v (omega arith) mv x t;
        inner_wires = b.inner_wires;
        idle = b.idle;
      }

  begin_row : (m : ℕ) → m < tb.size → (Z : Tokens) → Begun m Z → (is : List ℕ) × (B : Tokens) × (q : Steps2 net is Z B) × Begun (suc m) B × Silent is Z B q
  begin_row m l Z b = go (is_in (tb.row m)) refl
    where
      go : (c : Bool) → is_in (tb.row m) ≡ c → (is : List ℕ) × (B : Tokens) × (q : Steps2 net is Z B) × Begun (suc m) B × Silent is Z B q
      go true e = begin_one m Z b (l, e)
      go false e = ([], Z, refl, begin_skip m Z b (λ h. let h1 = h.1 in let z : ◌≡◌ {A = ℕ} 0 1 = cc in omega arith), λ n o mo. refl)

  pub begin_all : (k m : ℕ) → m + k ≡ tb.size → (Z : Tokens) → Begun m Z → (is : List ℕ) × (B : Tokens) × (q : Steps2 net is Z B) × Begun tb.size B × Silent is Z B q
  begin_all zero m e Z b = ([], Z, refl, subst (λ (z : ℕ). Begun z Z) (let d : m ≡ tb.size = omega arith in d) b, λ n o mo. refl)
  begin_all (suc k) m e Z b =
      let r = begin_row m (omega arith) Z b in
      let q = begin_all k (suc m) (omega arith) r.1 r.3 in (
        r.0 ++ q.0,
        q.1,
        steps2_append net r.0 q.0 Z r.1 q.1 r.2 q.2,
        q.3,
        λ n o mo. puts2_both net r.0 q.0 Z r.1 q.1 r.2 q.2 (y.ww (output n o)) [] [] (r.4 n o mo) (q.4 n o mo),
      )

  -- the use machine's first state
  abbrev pub start_tok : Option Wire → Option ℕ
  start_tok none = none
  start_tok (some (start v)) = some (env v)
  start_tok (some (output n o)) = none

  abbrev pub state0 : State
  state0 = record { tok = λ p. start_tok (src tb p); own = λ n. rest; hist = λ n o. [] }

  pub shown0 : (Z : Tokens) → Begun tb.size Z → Shown (plan tb) net y Z state0
  shown0 Z b =
      record {
        at_use = λ p w h. use_token p w h ∙ ap start_tok (sym h);
        between = between';
        at_node = λ n rl. b.idle (y.num n);
        at_fork = λ w m j h. b.idle j;
        nowhere = λ p h. ap start_tok h;
      }
    where
      use_token : (p : Use) (w : Wire) → src tb p ≡ some w → Z.wt (y.pw p) ≡ start_tok (some w)
      use_token p (start v) h = let u = y.users_full p (start v) h in b.done_hit v u.1.0 u.1 (y.pw p) (among_use (plan tb) net y p (y.users (start v)) u.0)
      use_token p (output n o) h = let u = y.users_full p (output n o) h in b.inner_wires n o u.1 (y.pw p) (use_in_tree (plan tb) net y p (output n o) h)

      between' : (w : Wire) → Made (plan tb) w → (x : ℕ) → Tree (plan tb) net y x w → (UseOf (plan tb) net y x w → ⊥) → Z.wt x ≡ none
      between' (start v) m x t k = b.done_miss v m.0 m x t k
      between' (output n o) m x t k = b.inner_wires n o m x t

  pub gamma0 : Good tb → Gamma tb 0 env state0
  gamma0 g =
      record {
        values = λ p v B c q. go p v B c q (source tb v B);
        inners = λ p w q. ap (λ (z : Slot). start_tok (slot_wire tb z)) q ∙ inner_none p w (inward tb p w q);
        records_in = λ n rl l. rin n rl l;
        records_out = λ n rl l. refl;
      }
    where
      inner_none : (p : Use) (w : Wire) → Inward tb p w → start_tok (some w) ≡ none
      inner_none p w i = ap (λ (z : Wire). start_tok (some z)) i.wire_is

      no_loop : (B : ℕ) → IsFor tb B → tb.first B ≤ 0 → ⊥
      no_loop B f l = let a = g.for_first B f in omega arith

      rin : (n : Role) → Real tb n → Inside tb (scope tb n) 0 → rest ≡ held tb n env
      rin (op_node r) rl l = refl
      rin (stream L) rl l = absurd (no_loop L rl l.0)
      rin (gate L) rl l = absurd (no_loop L rl l.0)
      rin (guard L) rl l = refl
      rin (copy_split L v) rl l = refl
      rin (copy_invariant L v) rl l = absurd (no_loop L rl.0 l.0)
      rin (carry a) rl l = absurd (no_loop (tb.loop a) (g.arg_for a rl.0 rl.1) l.0)
      rin (arg_split a) rl l = refl

      off : (p : Use) (v B c : ℕ) (w : Wire) → slot tb p ≡ val v B c → wire_of tb v B ≡ w → start_tok (some w) ≡ none → (Live tb v B c 0 → ⊥) → Shows tb (state0.tok p) v B c 0 env
      off p v B c w q e h n = shows_none tb (state0.tok p) v B c 0 env (ap (λ (z : Slot). start_tok (slot_wire tb z)) q ∙ ap (λ (z : Wire). start_tok (some z)) e ∙ h) n

      go : (p : Use) (v B c : ℕ) → slot tb p ≡ val v B c → Source tb v B → Shows tb (state0.tok p) v B c 0 env
      go p v B c q (from_start w h t z) =
          let e : tb.first B ≡ 0 = ap tb.first (sym h ∙ g.start_home v t) ∙ g.outer_first in
          shows_some tb (state0.tok p) v B c 0 env (ap (λ (z : Slot). start_tok (slot_wire tb z)) q ∙ ap (λ (z : Wire). start_tok (some z)) w) (omega arith, omega arith, omega arith, omega arith)
      go p v B c q (from_op w h t z) = off p v B c (output (op_node v) out0) q w refl (λ l. let l2 = l.2 in omega arith)
      go p v B c q (from_for w h t z) = off p v B c (output (gate v) out0) q w refl (λ l. no_loop B (subst (IsFor tb) (sym (g.for_home v t) ∙ h) t) l.0)
      go p v B c q (from_arg i w h t z) = off p v B c (output (arg_split v) out0) q w refl (λ l. no_loop B (subst (IsFor tb) (sym (g.arg_home v i t) ∙ h) (g.arg_for v i t)) l.0)
      go p v B c q (from_next x w h t z) = off p v B c (output (arg_split (tb.arg_of v)) out1) q w refl (λ l. let l2 = l.2 in omega arith)
      go p v B c q (from_copy w h z) = off p v B c (output (copy_invariant B v) out0) q w refl (λ l. no_loop B (g.in_for B v ((g.uses p v B c q).away h)) l.0)
