-- One loop: effects of its roles, the values that they give, and the uses that they take.
--
--   only                      effects of the loop's roles alone
--   loop_stage                those of them that are ready fire together
--   Fill, fill                which of the loop's nodes gives on the wire of a value in a body: the index, an ARG, a copy, an exit word, none
--   Taking, taking            whether one of them takes a use
--
-- Assumes nothing.
use Rattle.std.proofs.Math.Path.{◌≡◌, refl, subst}
use Rattle.std.proofs.Common.{sym, ap, ap₂, ◌∙◌, arith}
use Rattle.std.specs.Prelude.{◌≢◌, Bool, ◌&&◌, List, [], ◌∷◌, ◌++◌, ℕ, zero, suc, ◌+◌, ◌≤◌, ◌<◌, eqb}
use Rattle.std.proofs.Math.Logic.{inl, inr}
use Rattle.std.proofs.Math.Bool.{true, false}
use Rattle.std.proofs.Math.Option.{Option, none, some}
use Rattle.std.proofs.Math.Decide.{ℕ_discrete}
use Rattle.step.specs.Kinds.{Input, Output, out0, out1}
use Rattle.step.specs.Firing.{Effect}
use Rattle.table.specs.Bodies.{arg, next}
use Rattle.lowered.specs.Lists.{Among, among_left, among_right}
use Rattle.lowered.specs.Roles.{Role, op_node, stream, gate, guard, copy_split, copy_invariant, carry, arg_split, Wire, output, Use, into}
use Rattle.uses.specs.Machine.{State, give_by, take_by, given, taken, after, Ready, Steps, stage_cover, those}
use Rattle.faithful.specs.Table.{Table, val, IsFor, wire_of, since, slot, is_op, is_arg, plan}
use Rattle.faithful.specs.Good.{Inner, Good, Source, from_start, from_op, from_for, from_arg, from_next, from_copy, source, When, by_op, by_for, by_end, by_out, when}
use Rattle.faithful.specs.Gamma.{for_not_end}
use Rattle.faithful.specs.Members.{eqb_yes, eqb_no, is_eqb, in_loop, arg_row, in_two, in_arg, two_in, arg_in, two_out}

abbrev pub keep_if : Bool → Option Effect → Option Effect
keep_if true x = x
keep_if false x = none

module _ (tb : Table) where
  unfoldable pub only : ℕ → (Role → Option Effect) → Role → Option Effect
  only L eff n = keep_if (in_loop tb L n) (eff n)

  pub only_yes : (L : ℕ) (eff : Role → Option Effect) (n : Role) → in_loop tb L n ≡ true → only L eff n ≡ eff n
  unfolding only
  only_yes L eff n h = rw h

  pub only_no : (L : ℕ) (eff : Role → Option Effect) (n : Role) → in_loop tb L n ≡ false → only L eff n ≡ none
  unfolding only
  only_no L eff n h = rw h

  pub only_some : (L : ℕ) (eff : Role → Option Effect) (n : Role) (e : Effect) → only L eff n ≡ some e → (in_loop tb L n ≡ true) × (eff n ≡ some e)
  unfolding only
  only_some L eff n e h = go (in_loop tb L n) refl h
    where
      go : (b : Bool) → in_loop tb L n ≡ b → keep_if b (eff n) ≡ some e → (in_loop tb L n ≡ true) × (eff n ≡ some e)
      go true q k = (q, k)
      go false q k = let z : ◌≡◌ {A = ℕ} 0 1 = cc in absurd (omega arith)

  -- a list of them
  abbrev pub arg_roles : ℕ → ℕ → List Role
  arg_roles a zero = []
  arg_roles a (suc k) = carry a ∷ arg_split a ∷ arg_roles (suc a) k

  abbrev pub in_roles : ℕ → ℕ → ℕ → List Role
  in_roles L v zero = []
  in_roles L v (suc k) = copy_split L v ∷ copy_invariant L v ∷ in_roles L (suc v) k

  unfoldable pub roles : ℕ → List Role
  roles L = stream L ∷ gate L ∷ guard L ∷ (arg_roles 0 (tb.first L) ++ in_roles L 0 L)

  carry_there : (k a x : ℕ) → a ≤ x → x < a + k → Among (carry x) (arg_roles a k)
  carry_there zero a x p q = absurd (omega arith)
  carry_there (suc k) a x p q = elim (ℕ_discrete x a) [ yes e ↦ inl (ap carry e) | no e ↦ inr (inr (carry_there k (suc a) x (omega arith) (omega arith))) ]

  asplit_there : (k a x : ℕ) → a ≤ x → x < a + k → Among (arg_split x) (arg_roles a k)
  asplit_there zero a x p q = absurd (omega arith)
  asplit_there (suc k) a x p q = elim (ℕ_discrete x a) [ yes e ↦ inr (inl (ap arg_split e)) | no e ↦ inr (inr (asplit_there k (suc a) x (omega arith) (omega arith))) ]

  csplit_there : (L k v x : ℕ) → v ≤ x → x < v + k → Among (copy_split L x) (in_roles L v k)
  csplit_there L zero v x p q = absurd (omega arith)
  csplit_there L (suc k) v x p q = elim (ℕ_discrete x v) [ yes e ↦ inl (ap (copy_split L) e) | no e ↦ inr (inr (csplit_there L k (suc v) x (omega arith) (omega arith))) ]

  inv_there : (L k v x : ℕ) → v ≤ x → x < v + k → Among (copy_invariant L x) (in_roles L v k)
  inv_there L zero v x p q = absurd (omega arith)
  inv_there L (suc k) v x p q = elim (ℕ_discrete x v) [ yes e ↦ inr (inl (ap (copy_invariant L) e)) | no e ↦ inr (inr (inv_there L k (suc v) x (omega arith) (omega arith))) ]

module _ (tb : Table) (g : Good tb) (L : ℕ) (f : IsFor tb L) where
  roles_all : (n : Role) → in_loop tb L n ≡ true → Among n (roles tb L)
  unfolding roles
  roles_all (op_node r) h = let z : ◌≡◌ {A = ℕ} 0 1 = cc in absurd (omega arith)
  roles_all (stream M) h = inl (ap stream (is_eqb M L h))
  roles_all (gate M) h = inr (inl (ap gate (is_eqb M L h)))
  roles_all (guard M) h = inr (inr (inl (ap guard (is_eqb M L h))))
  roles_all (copy_split M v) h =
      let q = in_two tb L M v h in
      let b : v < M = g.in_before M v q.1 in
      let e : M ≡ L = q.0 in
      inr (inr (inr (among_right (copy_split M v) (arg_roles tb 0 (tb.first L)) (in_roles tb L 0 L)
      (subst (λ (z : ℕ). Among (copy_split z v) (in_roles tb L 0 L)) (sym e) (csplit_there tb L L 0 v (omega arith) (omega arith))))))
  roles_all (copy_invariant M v) h =
      let q = in_two tb L M v h in
      let b : v < M = g.in_before M v q.1 in
      let e : M ≡ L = q.0 in
      inr (inr (inr (among_right (copy_invariant M v) (arg_roles tb 0 (tb.first L)) (in_roles tb L 0 L)
      (subst (λ (z : ℕ). Among (copy_invariant z v) (in_roles tb L 0 L)) (sym e) (inv_there tb L L 0 v (omega arith) (omega arith))))))
  roles_all (carry a) h =
      let q = in_arg tb L a h in
      let r = arg_row tb a q.1 in
      let b : a < tb.first L = subst (λ (z : ℕ). a < tb.first z) q.0 (g.arg_high a r.0 r.1) in
      inr (inr (inr (among_left (carry a) (arg_roles tb 0 (tb.first L)) (in_roles tb L 0 L) (carry_there tb (tb.first L) 0 a (omega arith) (omega arith)))))
  roles_all (arg_split a) h =
      let q = in_arg tb L a h in
      let r = arg_row tb a q.1 in
      let b : a < tb.first L = subst (λ (z : ℕ). a < tb.first z) q.0 (g.arg_high a r.0 r.1) in
      inr (inr (inr (among_left (arg_split a) (arg_roles tb 0 (tb.first L)) (in_roles tb L 0 L) (asplit_there tb (tb.first L) 0 a (omega arith) (omega arith)))))

  -- A STAGE of the loop's nodes
  pub loop_stage : (eff : Role → Option Effect) (s : State)
      → ((n : Role) (e : Effect) → in_loop tb L n ≡ true → eff n ≡ some e → Ready (plan tb) n e s)
      → (xs : List Role) × Steps (plan tb) xs s (after (plan tb) (only tb L eff) s)
  loop_stage eff s r = (
    those (plan tb) (only tb L eff) (roles tb L),
    stage_cover (plan tb) (roles tb L) (only tb L eff) s
        (λ n e h. roles_all n (only_some tb L eff n e h).0) (λ n e h. let q = only_some tb L eff n e h in r n e q.0 q.1),
  )

  pub for_below : L < tb.size
  for_below = let a = g.for_size L f in let b = g.for_first L f in let c = g.for_last L f in omega arith

  pub reads_not : tb.reads L ≢ L
  reads_not e = let i = subst (λ (z : ℕ). Inner tb z L) e (g.for_reads L f) in let a = i.low in let b = g.for_first L f in omega arith

  pub is_in_stream : in_loop tb L (stream L) ≡ true
  is_in_stream = eqb_yes L

  -- ---- what the loop gives on the wire of v in B
  pub data Fill (v B : ℕ) : Type 0 where
    fills_index : v ≡ L → B ≡ L → since tb v B ≡ 0 → ((eff : Role → Option Effect) → given (only tb L eff) (some (wire_of tb v B)) ≡ give_by (eff (gate L)) out0) → Fill v B
    fills_arg : (i : ℕ) → tb.row v ≡ arg i → tb.loop v ≡ L → B ≡ L → since tb v B ≡ 0
        → ((eff : Role → Option Effect) → given (only tb L eff) (some (wire_of tb v B)) ≡ give_by (eff (arg_split v)) out0) → Fill v B
    fills_copy : tb.carried L v ≡ true → B ≡ L → since tb v B ≡ 0 → ((eff : Role → Option Effect) → given (only tb L eff) (some (wire_of tb v B)) ≡ give_by (eff (copy_invariant L v)) out0) → Fill v B
    fills_exit : (x : ℕ) → tb.row v ≡ next x → tb.loop v ≡ L → B ≡ tb.reads L → tb.home v ≡ B → since tb v B ≡ suc (tb.last L)
        → ((eff : Role → Option Effect) → given (only tb L eff) (some (wire_of tb v B)) ≡ give_by (eff (arg_split (tb.arg_of v))) out1) → Fill v B
    fills_none : (B ≡ L → since tb v B ≢ 0) → ((x : ℕ) → tb.row v ≡ next x → tb.loop v ≡ L → tb.home v ≡ B → ⊥)
        → ((eff : Role → Option Effect) → given (only tb L eff) (some (wire_of tb v B)) ≡ none) → Fill v B

  gives_yes : (v B : ℕ) (n : Role) (o : Output) → wire_of tb v B ≡ output n o → in_loop tb L n ≡ true → (eff : Role → Option Effect) → given (only tb L eff) (some (wire_of tb v B)) ≡ give_by (eff n) o
  gives_yes v B n o e h eff = ap (λ (z : Wire). given (only tb L eff) (some z)) e ∙ ap (λ (z : Option Effect). give_by z o) (only_yes tb L eff n h)

  gives_no : (v B : ℕ) (n : Role) (o : Output) → wire_of tb v B ≡ output n o → in_loop tb L n ≡ false → (eff : Role → Option Effect) → given (only tb L eff) (some (wire_of tb v B)) ≡ none
  gives_no v B n o e h eff = ap (λ (z : Wire). given (only tb L eff) (some z)) e ∙ ap (λ (z : Option Effect). give_by z o) (only_no tb L eff n h)

  pub fill : (v B : ℕ) → (tb.home v ≢ B → tb.carried B v ≡ true) → Fill v B
  fill v B away = go (source tb v B)
    where
      go : Source tb v B → Fill v B
      go (from_start w h t z) =
          fills_none (λ e _. let k = g.start_home v t in let l = for_below in omega arith) (λ x q _ _. let z : ◌≡◌ {A = ℕ} 0 1 = cc in omega arith)
          (λ eff. ap (λ (z : Wire). given (only tb L eff) (some z)) w)
      go (from_op w h t z) = fills_none (λ e. omega arith) (λ x q _ _. let z : ◌≡◌ {A = ℕ} 0 1 = cc in omega arith) (gives_no v B (op_node v) out0 w refl)
      go (from_for w h t z) =
          elim (ℕ_discrete v L) [
            | yes e ↦ fills_index e (sym h ∙ ap tb.home e ∙ g.for_home L f) z (λ eff. gives_yes v B (gate v) out0 w (ap (λ (y : ℕ). eqb y L) e ∙ eqb_yes L) eff ∙ ap (λ (y : ℕ). give_by (eff (gate y)) out0) e)
            | no e ↦ fills_none (λ d _. e (sym (g.for_home v t) ∙ h ∙ d)) (λ x q _ _. let k = t.5 in let z : ◌≡◌ {A = ℕ} 0 1 = cc in omega arith) (gives_no v B (gate v) out0 w (eqb_no v L e))
          ]
      go (from_arg i w h q z) =
          elim (ℕ_discrete (tb.loop v) L) [
            | yes e ↦ fills_arg i q e (sym h ∙ g.arg_home v i q ∙ e) z (gives_yes v B (arg_split v) out0 w (arg_in tb L v e (ap is_arg q)))
            | no e ↦ fills_none (λ d _. e (sym (g.arg_home v i q) ∙ h ∙ d)) (λ x k _ _. let z : ◌≡◌ {A = ℕ} 0 1 = cc in omega arith) (gives_no v B (arg_split v) out0 w (two_out tb L (tb.loop v) (is_arg (tb.row v)) e))
          ]
      go (from_next x w h q z) =
          elim (ℕ_discrete (tb.loop v) L) [
            | yes e ↦ fills_exit x q e (sym h ∙ g.next_home v x q ∙ ap tb.reads e) h (z ∙ ap (λ (y : ℕ). suc (tb.last y)) e)
                (gives_yes v B (arg_split (tb.arg_of v)) out1 w (arg_in tb L (tb.arg_of v) (g.next_arg_loop v x q ∙ e) (ap is_arg (g.next_arg v x q).1)))
            | no e ↦ fills_none (λ d. omega arith) (λ y k l _. e l)
                (gives_no v B (arg_split (tb.arg_of v)) out1 w (two_out tb L (tb.loop (tb.arg_of v)) (is_arg (tb.row (tb.arg_of v))) (λ l. e (sym (g.next_arg_loop v x q) ∙ l))))
          ]
      go (from_copy w h z) =
          elim (ℕ_discrete B L) [
            | yes e ↦
                let c : tb.carried L v ≡ true = subst (λ (y : ℕ). tb.carried y v ≡ true) e (away h) in
                fills_copy c e z (λ eff. gives_yes v B (copy_invariant B v) out0 w (ap₂ (λ (a b : ℕ). eqb a L && tb.carried b v) e e ∙ two_in tb L v c) eff ∙ ap (λ (y : ℕ). give_by (eff (copy_invariant y v)) out0) e)
            | no e ↦ fills_none (λ d _. e d) (λ x q l d. h d) (gives_no v B (copy_invariant B v) out0 w (two_out tb L B (tb.carried B v) e))
          ]

  -- ---- what the loop takes from a use: it is an input of one of its nodes, or it is not taken, and waits until neither FOR nor END
  pub data Taking (p : Use) (c : ℕ) : Type 0 where
    taken_by : (n : Role) (k : Input) → p ≡ into n k → in_loop tb L n ≡ true → Taking p c
    taken_by_none : c ≢ L → c ≢ tb.last L → ((eff : Role → Option Effect) → taken (only tb L eff) p ≡ false) → Taking p c

  pub takes_yes : (p : Use) (n : Role) (k : Input) → p ≡ into n k → in_loop tb L n ≡ true → (eff : Role → Option Effect) → taken (only tb L eff) p ≡ take_by (eff n) k
  takes_yes p n k e h eff = ap (taken (only tb L eff)) e ∙ ap (λ (z : Option Effect). take_by z k) (only_yes tb L eff n h)

  pub takes_no : (p : Use) (n : Role) (k : Input) → p ≡ into n k → in_loop tb L n ≡ false → (eff : Role → Option Effect) → taken (only tb L eff) p ≡ false
  takes_no p n k e h eff = ap (taken (only tb L eff)) e ∙ ap (λ (z : Option Effect). take_by z k) (only_no tb L eff n h)

  pub taking : (p : Use) (v B c : ℕ) → slot tb p ≡ val v B c → Taking p c
  taking p v B c q = go (when tb g p v B c q)
    where
      by : (n : Role) (k : Input) → p ≡ into n k → (in_loop tb L n ≡ false → (c ≢ L) × (c ≢ tb.last L)) → Taking p c
      by n k e h = at (in_loop tb L n) refl
        where
          at : (x : Bool) → in_loop tb L n ≡ x → Taking p c
          at true i = taken_by n k e i
          at false i = let y = h i in taken_by_none y.0 y.1 (takes_no p n k e i)

      -- not of L, so of another loop
      other : (M : ℕ) (n : Role) → in_loop tb M n ≡ true → in_loop tb L n ≡ false → M ≢ L
      other M n i j e = let z : true ≡ false = sym i ∙ ap (λ (y : ℕ). in_loop tb y n) e ∙ j in let z : ◌≡◌ {A = ℕ} 0 1 = cc in omega arith

      go : When tb p v B c → Taking p c
      go (by_op k e h) =
          by (op_node c) k e
          (λ _. (
            λ y. let r = f.5 in let h' : is_op tb (tb.row L) ≡ true = subst (λ (z : ℕ). is_op tb (tb.row z) ≡ true) y h in let z : ◌≡◌ {A = ℕ} 0 1 = cc in omega arith,
            λ y. let r = g.for_end L f in let h' : is_op tb (tb.row (tb.last L)) ≡ true = subst (λ (z : ℕ). is_op tb (tb.row z) ≡ true) y h in let z : ◌≡◌ {A = ℕ} 0 1 = cc in omega arith,
          ))
      go (by_for h n k e i b) = by n k e (λ j. (other c n i j, for_not_end tb g c (tb.last L) h (g.for_end L f)))
      go (by_end M h n k e i l b) =
          by n k e
          (λ j. (
            λ d. for_not_end tb g L (tb.last M) f (g.for_end M h) (sym d ∙ l),
            λ d. other M n i j (sym (g.end_loop M h) ∙ ap tb.loop (sym l ∙ d) ∙ g.end_loop L f),
          ))
      go (by_out x e l b) = taken_by_none (let a = for_below in omega arith) (let a = g.for_size L f in omega arith) (λ eff. ap (taken (only tb L eff)) e)
