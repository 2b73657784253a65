-- Three stages of one loop's nodes, one after the other, from tables of effects by role.
--
--   Effects                   an effect or none for each role
--   put_late, put_nothing     the second and third stage at a use that is empty before them; at one on which they give nothing
--   Link, link, flow          an inner use of a loop, and what a stage does to one
--   S1, S2, S3                the states after one, two and three stages
--   left1, at1, .., inner3    what stands on the inner uses
--   tokv, own3, hist3         one stage at a value's use; the records, and the words put
--   fired3                    the stages are firings, if each role is ready in its turn
--
-- Assumes nothing.
use Rattle.std.specs.Prelude.{◌≡◌, refl, ◌⊎◌, Bool, true, false, ◌||◌, List, [], ◌++◌, ℕ}
use Rattle.std.proofs.Common.{sym, ap, ap₂, ◌∙◌, subst, inl, inr, append_assoc, append-nil, arith}
use Rattle.std.proofs.Math.Option.{Option, none, some}
use Rattle.std.proofs.Math.Decide.{ℕ_discrete}
use Rattle.step.specs.Kinds.{Input, Output}
use Rattle.step.specs.Firing.{Effect, perform, gives}
use Rattle.table.specs.Bodies.{arg}
use Rattle.lowered.specs.Roles.{Role, op_node, stream, gate, guard, copy_split, copy_invariant, carry, arg_split, Wire, output, Use, into}
use Rattle.uses.specs.Machine.{State, give_by, take_by, next_by, put, unless_taken, listed, given, taken, view_of, after, Ready, Steps, steps_append}
use Rattle.faithful.specs.Table.{Table, Slot, val, inner, IsFor, wire_of, slot, slot_wire, src, Real, program_of, plan}
use Rattle.faithful.specs.Members.{in_loop, arg_row, in_two, in_arg, is_eqb, in_one}
use Rattle.faithful.specs.Good.{Good, inward}
use Rattle.faithful.specs.Rows.{put_drop_none, src_cases}
use Rattle.faithful.specs.Loop.{only, only_yes, only_no, loop_stage, takes_no}

abbrev pub say_if : Bool → List ℕ → List ℕ
say_if true l = l
say_if false l = []

abbrev pub Effects : Type 0
Effects = Role → Option Effect

-- ---- what a stage does to a token

pub drop_none : (b : Bool) (x : Option ℕ) → x ≡ none → unless_taken b x ≡ none
drop_none true x h = refl
drop_none false x h = h

pub drop_either : (a b : Bool) (x : Option ℕ) → (a || b) ≡ true → unless_taken b (unless_taken a x) ≡ none
drop_either true b x h = drop_none b none refl
drop_either false true x h = refl
drop_either false false x h = let z : ◌≡◌ {A = ℕ} 0 1 = cc in absurd (omega arith)

pub put_none : (a b : Option ℕ) → put a b ≡ none → (a ≡ none) × (b ≡ none)
put_none none b h = (refl, h)
put_none (some x) b h = let z : ◌≡◌ {A = ℕ} 0 1 = cc in absurd (omega arith)

pub no_gift : {A : Type 0} → (o : Option ℕ) (y : ℕ) → o ≡ none → o ≡ some y → A
no_gift o y a b = let z : ◌≡◌ {A = ℕ} 0 1 = cc in absurd (omega arith)

-- stages 2 and 3 at a use that is empty before; at one on which they give nothing
pub put_late : (a b : Option ℕ) (t2 t3 : Bool) (x : Option ℕ) → t3 ≡ false → x ≡ none → put a (unless_taken t3 (put b (unless_taken t2 x))) ≡ put a b
put_late none none t2 t3 x e h = rw e (drop_none t2 x h)
put_late none (some y) t2 t3 x e h = rw e
put_late (some y) b t2 t3 x e h = refl

pub put_nothing : (a b : Option ℕ) (t2 t3 : Bool) (x : Option ℕ) → t3 ≡ false → put a b ≡ none → put a (unless_taken t3 (put b (unless_taken t2 x))) ≡ unless_taken t2 x
put_nothing a b t2 t3 x e h = let n = put_none a b h in let n0 = n.0 in let n1 = n.1 in rw (n0, n1, e)

module _ (tb : Table) (g : Good tb) (L : ℕ) (f : IsFor tb L) where
  -- an inner link of the loop: input k of its node n reads output o of its node m
  pub record Link (n : Role) (k : Input) (m : Role) (o : Output) : Type 0 where
    pub reads : slot tb (into n k) ≡ inner (output m o)
    pub node_in : in_loop tb L n ≡ true
    pub from_in : in_loop tb L m ≡ true

  -- an inner use is a link of this loop, or the loop does not touch it
  pub data Linked (p : Use) (w : Wire) : Type 0 where
    linked : (n : Role) (k : Input) (m : Role) (o : Output) → Link n k m o → p ≡ into n k → w ≡ output m o → Linked p w
    unlinked : ((eff : Effects) → given (only tb L eff) (some w) ≡ none) → ((eff : Effects) → taken (only tb L eff) p ≡ false) → Linked p w

  pub link : (p : Use) (w : Wire) → slot tb p ≡ inner w → Linked p w
  link p w q =
      let i = inward tb p w q in
      elim (ℕ_discrete i.loop L) [
        | yes e ↦
            linked i.node i.place i.from i.leg
            (record {
              reads = ap (slot tb) (sym i.use_is) ∙ q ∙ ap inner i.wire_is;
              node_in = subst (λ (z : ℕ). in_loop tb z i.node ≡ true) e i.node_in;
              from_in = subst (λ (z : ℕ). in_loop tb z i.from ≡ true) e i.from_in;
            })
            i.use_is i.wire_is
        | no e ↦
            unlinked
            (λ eff. ap (λ (z : Wire). given (only tb L eff) (some z)) i.wire_is ∙ ap (λ (z : Option Effect). give_by z i.leg) (only_no tb L eff i.from (in_one tb L i.loop i.from i.from_in e)))
            (takes_no tb g L f p i.node i.place i.use_is (in_one tb L i.loop i.node i.node_in e))
      ]

  -- one stage at an inner use, at a value's use, at a record
  abbrev pub flow : Effects → Role → Input → Role → Output → Option ℕ → Option ℕ
  flow e n k m o t = put (give_by (e m) o) (unless_taken (take_by (e n) k) t)

  pub link_token : (e : Effects) (s : State) (n : Role) (k : Input) (m : Role) (o : Output) → Link n k m o → (t : Option ℕ) → s.tok (into n k) ≡ t
      → (after (plan tb) (only tb L e) s).tok (into n k) ≡ flow e n k m o t
  link_token e s n k m o l t q =
      ap (λ (z : Slot). put (given (only tb L e) (slot_wire tb z)) (unless_taken (taken (only tb L e) (into n k)) (s.tok (into n k)))) l.reads
      ∙ ap₂ (λ (a b : Option Effect). put (give_by a o) (unless_taken (take_by b k) (s.tok (into n k)))) (only_yes tb L e m l.from_in) (only_yes tb L e n l.node_in)
      ∙ ap (flow e n k m o) q

  pub tok_un : (e : Effects) (s : State) (p : Use) (w : Wire) → slot tb p ≡ inner w → given (only tb L e) (some w) ≡ none → taken (only tb L e) p ≡ false
      → s.tok p ≡ none → (after (plan tb) (only tb L e) s).tok p ≡ none
  tok_un e s p w q a b c =
      ap (λ (z : Slot). put (given (only tb L e) (slot_wire tb z)) (unless_taken (taken (only tb L e) p) (s.tok p))) q ∙ put_drop_none (given (only tb L e) (some w)) (taken (only tb L e) p) (s.tok p) a c

  pub tokv : (e : Effects) (s : State) (p : Use) (v B c : ℕ) → slot tb p ≡ val v B c
      → (after (plan tb) (only tb L e) s).tok p ≡ put (given (only tb L e) (some (wire_of tb v B))) (unless_taken (taken (only tb L e) p) (s.tok p))
  tokv e s p v B c q = ap (λ (z : Slot). put (given (only tb L e) (slot_wire tb z)) (unless_taken (taken (only tb L e) p) (s.tok p))) q

  pub own_in : (e : Effects) (s : State) (n : Role) → in_loop tb L n ≡ true → (after (plan tb) (only tb L e) s).own n ≡ next_by (e n) (s.own n)
  own_in e s n h = ap (λ (z : Option Effect). next_by z (s.own n)) (only_yes tb L e n h)

  pub own_out : (e : Effects) (s : State) (n : Role) → in_loop tb L n ≡ false → (after (plan tb) (only tb L e) s).own n ≡ s.own n
  own_out e s n h = ap (λ (z : Option Effect). next_by z (s.own n)) (only_no tb L e n h)

  -- what holds for the roles of L, as they are named
  pub by_role : (P : Role → Type 0) → P (stream L) → P (gate L) → P (guard L) → ((v : ℕ) → tb.carried L v ≡ true → P (copy_split L v)) → ((v : ℕ) → tb.carried L v ≡ true → P (copy_invariant L v))
      → ((a i : ℕ) → tb.row a ≡ arg i → tb.loop a ≡ L → P (carry a)) → ((a i : ℕ) → tb.row a ≡ arg i → tb.loop a ≡ L → P (arg_split a))
      → (n : Role) → in_loop tb L n ≡ true → P n
  by_role P h1 h2 h3 h4 h5 h6 h7 (op_node r) h = let z : ◌≡◌ {A = ℕ} 0 1 = cc in absurd (omega arith)
  by_role P h1 h2 h3 h4 h5 h6 h7 (stream M) h = subst (λ (z : ℕ). P (stream z)) (sym (is_eqb M L h)) h1
  by_role P h1 h2 h3 h4 h5 h6 h7 (gate M) h = subst (λ (z : ℕ). P (gate z)) (sym (is_eqb M L h)) h2
  by_role P h1 h2 h3 h4 h5 h6 h7 (guard M) h = subst (λ (z : ℕ). P (guard z)) (sym (is_eqb M L h)) h3
  by_role P h1 h2 h3 h4 h5 h6 h7 (copy_split M v) h = let q = in_two tb L M v h in subst (λ (z : ℕ). P (copy_split z v)) (sym q.0) (h4 v (subst (λ (z : ℕ). tb.carried z v ≡ true) q.0 q.1))
  by_role P h1 h2 h3 h4 h5 h6 h7 (copy_invariant M v) h = let q = in_two tb L M v h in subst (λ (z : ℕ). P (copy_invariant z v)) (sym q.0) (h5 v (subst (λ (z : ℕ). tb.carried z v ≡ true) q.0 q.1))
  by_role P h1 h2 h3 h4 h5 h6 h7 (carry a) h = let q = in_arg tb L a h in let r = arg_row tb a q.1 in h6 a r.0 r.1 q.0
  by_role P h1 h2 h3 h4 h5 h6 h7 (arg_split a) h = let q = in_arg tb L a h in let r = arg_row tb a q.1 in h7 a r.0 r.1 q.0

  pub real_in : (n : Role) → in_loop tb L n ≡ true → Real tb n
  real_in = by_role (Real tb) f f f (λ v h. (f, h)) (λ v h. (f, h)) (λ a i h _. (i, h)) (λ a i h _. (i, h))

  -- readiness of a stage, from the tokens where it starts
  pub ready_all : (e : Effects) (s : State)
      → ((n : Role) (d : Effect) → in_loop tb L n ≡ true → e n ≡ some d → perform (program_of tb n (s.own n)) (view_of s n) ≡ some d)
      → ((p : Use) (w : Wire) (y : ℕ) → slot tb p ≡ inner w → given (only tb L e) (some w) ≡ some y → s.tok p ≡ none)
      → ((p : Use) (v B c y : ℕ) → slot tb p ≡ val v B c → given (only tb L e) (some (wire_of tb v B)) ≡ some y → s.tok p ≡ none)
      → (n : Role) (d : Effect) → in_loop tb L n ≡ true → e n ≡ some d → Ready (plan tb) n d s
  ready_all e s r a b n d h q =
      record {
        real = real_in n h;
        runs = r n d h q;
        room = λ p o y k z. go p o y k z;
      }
    where
      gv : (o : Output) (y : ℕ) → gives d o ≡ some y → given (only tb L e) (some (output n o)) ≡ some y
      gv o y z = ap (λ (x : Option Effect). give_by x o) (only_yes tb L e n h ∙ q) ∙ z

      go : (p : Use) (o : Output) (y : ℕ) → src tb p ≡ some (output n o) → gives d o ≡ some y → s.tok p ≡ none
      go p o y k z =
          elim (src_cases tb g p (output n o) k) [
            | inl x ↦ b p x.0 x.1 x.2 y x.3 (ap (λ (w : Wire). given (only tb L e) (some w)) x.4 ∙ gv o y z)
            | inr x ↦ a p (output n o) y x (gv o y z)
          ]

  -- a role of the loop does nothing at this stage, or its program does what the table says
  abbrev pub Runs : Effects → State → Role → Type 0
  Runs e s n = (e n ≡ none) ⊎ (perform (program_of tb n (s.own n)) (view_of s n) ≡ e n)

  pub to_runs : (e : Effects) (s : State) → ((n : Role) → in_loop tb L n ≡ true → Runs e s n)
      → (n : Role) (d : Effect) → in_loop tb L n ≡ true → e n ≡ some d → perform (program_of tb n (s.own n)) (view_of s n) ≡ some d
  to_runs e s h n d m q = go (h n m)
    where
      go : Runs e s n → perform (program_of tb n (s.own n)) (view_of s n) ≡ some d
      go (inl z) = let z : ◌≡◌ {A = ℕ} 0 1 = cc in absurd (omega arith)
      go (inr z) = z ∙ q

  -- ---- three stages
  module _ (e1 e2 e3 : Effects) (s : State) (empty : (p : Use) (w : Wire) → slot tb p ≡ inner w → s.tok p ≡ none) where
    abbrev pub S1 : State
    S1 = after (plan tb) (only tb L e1) s

    abbrev pub S2 : State
    S2 = after (plan tb) (only tb L e2) S1

    abbrev pub S3 : State
    S3 = after (plan tb) (only tb L e3) S2

    -- what the stages leave on a link
    abbrev pub left1 : Role → Input → Role → Output → Option ℕ
    left1 n k m o = flow e1 n k m o none

    abbrev pub left2 : Role → Input → Role → Output → Option ℕ
    left2 n k m o = flow e2 n k m o (left1 n k m o)

    abbrev pub left3 : Role → Input → Role → Output → Option ℕ
    left3 n k m o = flow e3 n k m o (left2 n k m o)

    pub at1 : (n : Role) (k : Input) (m : Role) (o : Output) → Link n k m o → S1.tok (into n k) ≡ left1 n k m o
    at1 n k m o l = link_token e1 s n k m o l none (empty (into n k) (output m o) l.reads)

    pub at2 : (n : Role) (k : Input) (m : Role) (o : Output) → Link n k m o → S2.tok (into n k) ≡ left2 n k m o
    at2 n k m o l = link_token e2 S1 n k m o l (left1 n k m o) (at1 n k m o l)

    pub at3 : (n : Role) (k : Input) (m : Role) (o : Output) → Link n k m o → S3.tok (into n k) ≡ left3 n k m o
    at3 n k m o l = link_token e3 S2 n k m o l (left2 n k m o) (at2 n k m o l)

    -- inner uses are empty again
    pub inner3 : ((n : Role) (k : Input) (m : Role) (o : Output) → Link n k m o → left3 n k m o ≡ none) → (p : Use) (w : Wire) → slot tb p ≡ inner w → S3.tok p ≡ none
    inner3 h p w q = go (link p w q)
      where
        go : Linked p w → S3.tok p ≡ none
        go (linked n k m o l a b) = ap S3.tok a ∙ at3 n k m o l ∙ h n k m o l
        go (unlinked a b) = tok_un e3 S2 p w q (a e3) (b e3) (tok_un e2 S1 p w q (a e2) (b e2) (tok_un e1 s p w q (a e1) (b e1) (empty p w q)))

    -- inner uses have room
    link_room : (e : Effects) (m : Role) (o : Output) → in_loop tb L m ≡ true → (w : Wire) (y : ℕ) → w ≡ output m o → given (only tb L e) (some w) ≡ some y → give_by (e m) o ≡ some y
    link_room e m o i w y b k = ap (λ (z : Option Effect). give_by z o) (sym (only_yes tb L e m i)) ∙ ap (λ (z : Wire). given (only tb L e) (some z)) (sym b) ∙ k

    pub room2 : ((n : Role) (k : Input) (m : Role) (o : Output) → Link n k m o → (y : ℕ) → give_by (e2 m) o ≡ some y → left1 n k m o ≡ none)
        → (p : Use) (w : Wire) (y : ℕ) → slot tb p ≡ inner w → given (only tb L e2) (some w) ≡ some y → S1.tok p ≡ none
    room2 h p w y q x = go (link p w q)
      where
        go : Linked p w → S1.tok p ≡ none
        go (linked n k m o l a b) = ap S1.tok a ∙ at1 n k m o l ∙ h n k m o l y (link_room e2 m o l.from_in w y b x)
        go (unlinked a b) = tok_un e1 s p w q (a e1) (b e1) (empty p w q)

    pub room3 : ((n : Role) (k : Input) (m : Role) (o : Output) → Link n k m o → (y : ℕ) → give_by (e3 m) o ≡ some y → left2 n k m o ≡ none)
        → (p : Use) (w : Wire) (y : ℕ) → slot tb p ≡ inner w → given (only tb L e3) (some w) ≡ some y → S2.tok p ≡ none
    room3 h p w y q x = go (link p w q)
      where
        go : Linked p w → S2.tok p ≡ none
        go (linked n k m o l a b) = ap S2.tok a ∙ at2 n k m o l ∙ h n k m o l y (link_room e3 m o l.from_in w y b x)
        go (unlinked a b) = tok_un e2 S1 p w q (a e2) (b e2) (tok_un e1 s p w q (a e1) (b e1) (empty p w q))

    pub own3 : (n : Role) → in_loop tb L n ≡ true → S3.own n ≡ next_by (e3 n) (next_by (e2 n) (next_by (e1 n) (s.own n)))
    own3 n h = own_in e3 S2 n h ∙ ap (next_by (e3 n)) (own_in e2 S1 n h ∙ ap (next_by (e2 n)) (own_in e1 s n h))

    pub own2 : (n : Role) → in_loop tb L n ≡ true → S2.own n ≡ next_by (e2 n) (next_by (e1 n) (s.own n))
    own2 n h = own_in e2 S1 n h ∙ ap (next_by (e2 n)) (own_in e1 s n h)

    pub own_still : (n : Role) → in_loop tb L n ≡ false → S3.own n ≡ s.own n
    own_still n h = own_out e3 S2 n h ∙ own_out e2 S1 n h ∙ own_out e1 s n h

    -- the words put
    pub hist3 : (n : Role) (o : Output)
        → S3.hist n o ≡ s.hist n o ++ say_if (in_loop tb L n) (listed (give_by (e1 n) o) ++ (listed (give_by (e2 n) o) ++ listed (give_by (e3 n) o)))
    hist3 n o = go (in_loop tb L n) refl
      where
        go : (b : Bool) → in_loop tb L n ≡ b → S3.hist n o ≡ s.hist n o ++ say_if b (listed (give_by (e1 n) o) ++ (listed (give_by (e2 n) o) ++ listed (give_by (e3 n) o)))
        go true h = rw (only_yes tb L e1 n h, only_yes tb L e2 n h, only_yes tb L e3 n h) (simp append_assoc)
        go false h = rw (only_no tb L e1 n h, only_no tb L e2 n h, only_no tb L e3 n h) (append-nil (s.hist n o ++ [] ++ []) ∙ append-nil (s.hist n o ++ []))

    -- all three, fired
    pub fired3 :
        ((n : Role) (d : Effect) → in_loop tb L n ≡ true → e1 n ≡ some d → Ready (plan tb) n d s)
        → ((n : Role) (d : Effect) → in_loop tb L n ≡ true → e2 n ≡ some d → Ready (plan tb) n d S1)
        → ((n : Role) (d : Effect) → in_loop tb L n ≡ true → e3 n ≡ some d → Ready (plan tb) n d S2)
        → (xs : List Role) × Steps (plan tb) xs s S3
    fired3 r1 r2 r3 =
        let a = loop_stage tb g L f e1 s r1 in
        let b = loop_stage tb g L f e2 S1 r2 in
        let c = loop_stage tb g L f e3 S2 r3 in
        (a.0 ++ (b.0 ++ c.0), steps_append (plan tb) a.0 (b.0 ++ c.0) s S1 S3 a.1 (steps_append (plan tb) b.0 c.0 S1 S2 S3 b.1 c.1))
