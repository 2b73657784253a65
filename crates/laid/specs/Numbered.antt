-- The rows of a lowered table are right: codes and sorts in their lists, X on absent places, outputs numbered on; and what each takes is
-- below W and of its sort.
--
--   Right, AllRight       a row that is right, where its first output is to be f; rows that are right in order
--   rows_are_right        of the whole graph
--   Fits                  what a row takes
--   rows_fit
--
-- Assumes nothing.
use Rattle.std.specs.Prelude.{ℕ, zero, suc, ◌+◌, ◌<◌, ◌≡◌, Bool, true, false, cond, eqb, leb}
use Rattle.std.proofs.Math.Path.{refl, sym, ap}
use Rattle.std.proofs.Common.{◌∙◌, subst, inl, inr, eqb-true}
use mathlib.Core.List.{List, [], ◌∷◌, ◌++◌}
use Rattle.std.proofs.Math.Option.{some}
use native.Mathlib.Omega.{arith}
use Rattle.std.proofs.Math.ListN.{length, get_elem?, length-append}
use Rattle.step.specs.Kinds.{Kind, STREAM, GATE, CARRY, INVARIANT, SPLIT, OP, PICK, FORK, DRAIN, outputs, codes, own_sorts, input_sort, Input, in0, in1, in2, output_sort_small}
use Rattle.graph.specs.Below.{total}
use Rattle.graph.specs.Graph.{absent, Node, has_input, wire_on, output_count, sort_at}
use Rattle.table.specs.Rows.{kind_at, word, sort_of}
use Rattle.structure.specs.Structure.{Structure}
use Rattle.lowered.specs.Gathered.{each}
use Rattle.lowered.specs.Roles.{Role, op_node, stream, gate, guard, copy_split, copy_invariant, carry, arg_split, Wire, start, output, Use, into}
use Rattle.lowered.specs.Lower.{roles, role_kind, role_code, role_sort, starts, outputs_by, role_outputs, wires, wire_sort, users, drain_node, fork_node, fork_rows, fork_wires, free_at, all_fork_wires, users_each, plain_wires, all_users, stands_by, stands_on, role_node, nodes_from, forks_from, lowered_nodes, wire_total, lowered_words}
use Rattle.laid.specs.Lists.{Among, in_range, none_some}
use Rattle.laid.specs.Indexed.{total_first, sum_of, sum_append}
use Rattle.laid.specs.Listed.{Real, listed_role_is_real}
use Rattle.laid.specs.Uses.{node_use_is_listed}
use Rattle.laid.specs.Made.{op_kind, node_source}
use Rattle.laid.specs.Taken.{present, missing, stands_below, free_high}
use Rattle.laid.specs.Sorted.{wire_sorted, new_wire_sorted, stands_sorted}

pub record Right (f : ℕ) (nd : Node) : Type 0 where
  pub code_below : nd.code < codes nd.kind
  pub sort_below : nd.sort < own_sorts nd.kind
  pub spare : (k : Input) → has_input nd.kind k ≡ false → wire_on nd k ≡ absent
  pub numbered : 0 < outputs nd.kind → nd.first ≡ f
  pub unnumbered : outputs nd.kind ≡ 0 → nd.first ≡ absent

abbrev outs : Node → ℕ
outs nd = outputs nd.kind

abbrev pub AllRight : ℕ → List Node → Type 0
AllRight f [] = Unit {0}
AllRight f (nd ∷ nds) = Right f nd × AllRight (f + outputs nd.kind) nds

right_append : (a b : List Node) (f : ℕ) → AllRight f a → AllRight (f + sum_of outs a) b → AllRight f (a ++ b)
right_append [] b f p q = subst (λ (z : ℕ). AllRight z b) (let e : f + 0 ≡ f = omega arith in e) q
right_append (nd ∷ a) b f p q =
    (p.0, right_append a b (f + outs nd) p.1 (subst (λ (z : ℕ). AllRight z b) (let e : f + (outs nd + sum_of outs a) ≡ f + outs nd + sum_of outs a = omega arith in e) q))

pub right_at : (nds : List Node) (f i : ℕ) (nd : Node) → AllRight f nds → get_elem? nds i ≡ some nd → Right (f + total (λ j. output_count (get_elem? nds j)) i) nd
unfolding total
right_at [] f i nd p h = none_some nd h
right_at (x ∷ nds) f zero nd p h = let e : x ≡ nd = cc in subst (λ (z : ℕ). Right z nd) (let d : f ≡ f + 0 = omega arith in d) (subst (Right f) e p.0)
right_at (x ∷ nds) f (suc i) nd p h =
    let r = right_at nds (f + outs x) i nd p.1 h in
    let q = total_first (λ j. output_count (get_elem? (x ∷ nds) j)) i in
    subst (λ (z : ℕ). Right z nd) (let e : f + outs x + total (λ j. output_count (get_elem? nds j)) i ≡ f + total (λ j. output_count (get_elem? (x ∷ nds) j)) (suc i) = omega arith in e) r

-- ---- forks
drain_spare : (s x : ℕ) (k : Input) → has_input DRAIN k ≡ false → wire_on (drain_node s x) k ≡ absent
drain_spare s x in0 e = let z : ◌≡◌ {A = ℕ} 0 1 = cc in absurd (omega arith)
drain_spare s x in1 e = refl
drain_spare s x in2 e = refl

fork_spare : (s x f : ℕ) (k : Input) → has_input FORK k ≡ false → wire_on (fork_node s x f) k ≡ absent
fork_spare s x f in0 e = let z : ◌≡◌ {A = ℕ} 0 1 = cc in absurd (omega arith)
fork_spare s x f in1 e = refl
fork_spare s x f in2 e = refl

fork_right : (s x : ℕ) (us : List Use) (f : ℕ) → s < 2 → AllRight f (fork_rows s x us f)
fork_right s x [] f h = (record { code_below = omega arith; sort_below = h; spare = drain_spare s x; numbered = λ z. absurd (omega arith); unnumbered = λ z. refl }, tt)
fork_right s x (u ∷ []) f h = tt
fork_right s x (u ∷ v ∷ us) f h = (
  record { code_below = omega arith; sort_below = h; spare = fork_spare s x f; numbered = λ z. refl; unnumbered = λ z. absurd (omega arith) },
  subst (λ (z : ℕ). AllRight z (fork_rows s (suc f) (v ∷ us) (suc (suc f)))) (let e : suc (suc f) ≡ f + 2 = omega arith in e) (fork_right s (suc f) (v ∷ us) (suc (suc f)) h),
)

fork_outs : (s x : ℕ) (us : List Use) (f : ℕ) → sum_of outs (fork_rows s x us f) ≡ fork_wires us
fork_outs s x [] f = refl
fork_outs s x (u ∷ []) f = refl
fork_outs s x (u ∷ v ∷ us) f = let r = fork_outs s (suc f) (v ∷ us) (suc (suc f)) in omega arith

sort_small : (b c : Bool) → cond b (cond c 1 0) 0 < 2
sort_small true true = omega arith
sort_small true false = omega arith
sort_small false c = omega arith

flag_or_word : (t : List ℕ) (v : ℕ) → sort_of t v < 2
unfolding sort_of
flag_or_word t v = sort_small (eqb (kind_at t v) 2) (leb 3 (word t v 1))

role_sort_small : (t : List ℕ) (n : Role) → role_sort t n < 2
role_sort_small t (op_node r) = omega arith
role_sort_small t (stream L) = omega arith
role_sort_small t (gate L) = omega arith
role_sort_small t (guard L) = omega arith
role_sort_small t (copy_split L v) = flag_or_word t v
role_sort_small t (copy_invariant L v) = flag_or_word t v
role_sort_small t (carry a) = omega arith
role_sort_small t (arg_split a) = omega arith

wire_sort_small : (t : List ℕ) (w : Wire) → wire_sort t w < 2
wire_sort_small t (start v) = omega arith
wire_sort_small t (output n o) = output_sort_small (role_kind t n) (role_code t n) (role_sort t n) o (role_sort_small t n)

module _ (t : List ℕ) (S : Structure t) where
  absent_where_missing : (n : Role) → Real t n → (k : Input) → has_input (role_kind t n) k ≡ false → stands_on t (into n k) ≡ absent
  unfolding stands_on
  absent_where_missing n l k h = ap (stands_by t (into n k)) (missing t S n k l h)

  role_spare : (n : Role) (f : ℕ) → Real t n → (k : Input) → has_input (role_kind t n) k ≡ false → wire_on (role_node t f n) k ≡ absent
  role_spare n f l in0 h = absent_where_missing n l in0 h
  role_spare n f l in1 h = absent_where_missing n l in1 h
  role_spare n f l in2 h = absent_where_missing n l in2 h

  code_right_lem : (n : Role) → Real t n → role_code t n < codes (role_kind t n)
  code_right_lem (op_node r) l =
      elim (op_kind t r l.there) [
        | inl e ↦ (let c = S.op_codes r l.row e in rw e (omega arith))
        | inr e ↦ rw e (omega arith)
      ]
  code_right_lem (stream L) l = let c = S.loop_codes L l.row (eqb-true (kind_at t L) 4 l.there) in let u = c.0 in let d = c.1 in omega arith
  code_right_lem (gate L) l = omega arith
  code_right_lem (guard L) l = let c = S.loop_codes L l.row (eqb-true (kind_at t L) 4 l.there) in let d = c.1 in omega arith
  code_right_lem (copy_split L v) l = omega arith
  code_right_lem (copy_invariant L v) l = omega arith
  code_right_lem (carry a) l = omega arith
  code_right_lem (arg_split a) l = omega arith

  sort_right : (n : Role) → Real t n → role_sort t n < own_sorts (role_kind t n)
  sort_right (op_node r) l = elim (op_kind t r l.there) [ inl e ↦ rw e (omega arith) | inr e ↦ rw e (omega arith) ]
  sort_right (stream L) l = omega arith
  sort_right (gate L) l = omega arith
  sort_right (guard L) l = omega arith
  sort_right (copy_split L v) l = flag_or_word t v
  sort_right (copy_invariant L v) l = flag_or_word t v
  sort_right (carry a) l = omega arith
  sort_right (arg_split a) l = omega arith

  some_output : (n : Role) → Real t n → outputs (role_kind t n) ≡ 0 → ⊥
  some_output (op_node r) l = elim (op_kind t r l.there) [ inl e ↦ rw e (λ z. omega arith) | inr e ↦ rw e (λ z. omega arith) ]
  some_output (stream L) l = λ z. omega arith
  some_output (gate L) l = λ z. omega arith
  some_output (guard L) l = λ z. omega arith
  some_output (copy_split L v) l = λ z. omega arith
  some_output (copy_invariant L v) l = λ z. omega arith
  some_output (carry a) l = λ z. omega arith
  some_output (arg_split a) l = λ z. omega arith

  roles_right : (ns : List Role) (f : ℕ) → ((n : Role) → Among n ns → Real t n) → AllRight f (nodes_from t f ns)
  roles_right [] f h = tt
  roles_right (n ∷ ns) f h =
      let l = h n (inl refl) in (
        record {
          code_below = code_right_lem n l;
          sort_below = sort_right n l;
          spare = role_spare n f l;
          numbered = λ z. refl;
          unnumbered = λ z. absurd (some_output n l z);
        },
        roles_right ns (f + outputs (role_kind t n)) (λ m q. h m (inr q)),
      )

  outputs_long : (n : Role) (k : ℕ) → k < 3 → length (outputs_by n k) ≡ k
  outputs_long n zero h = refl
  outputs_long n (suc zero) h = refl
  outputs_long n (suc (suc zero)) h = refl
  outputs_long n (suc (suc (suc k))) h = absurd (omega arith)

  few_outputs : (κ : Kind) → outputs κ < 3
  few_outputs STREAM = omega arith
  few_outputs GATE = omega arith
  few_outputs CARRY = omega arith
  few_outputs INVARIANT = omega arith
  few_outputs SPLIT = omega arith
  few_outputs FORK = omega arith
  few_outputs DRAIN = omega arith
  few_outputs OP = omega arith
  few_outputs PICK = omega arith

  roles_outs : (ns : List Role) (f : ℕ) → sum_of outs (nodes_from t f ns) ≡ length (each (role_outputs t) ns)
  unfolding each
  roles_outs [] f = refl
  roles_outs (n ∷ ns) f =
      let r = roles_outs ns (f + outputs (role_kind t n)) in
      let a = length-append (role_outputs t n) (each (role_outputs t) ns) in
      let b = outputs_long n (outputs (role_kind t n)) (few_outputs (role_kind t n)) in
      omega arith

  forks_right : (ws : List Wire) (x f : ℕ) → AllRight f (forks_from t x ws f)
  forks_right [] x f = tt
  forks_right (w ∷ ws) x f =
      right_append (fork_rows (wire_sort t w) x (users t w) f) (forks_from t (suc x) ws (f + fork_wires (users t w))) f (fork_right (wire_sort t w) x (users t w) f (wire_sort_small t w))
      (subst (λ (z : ℕ). AllRight (f + z) (forks_from t (suc x) ws (f + fork_wires (users t w)))) (sym (fork_outs (wire_sort t w) x (users t w) f)) (forks_right ws (suc x) (f + fork_wires (users t w))))

  forks_outs : (ws : List Wire) (x f : ℕ) → sum_of outs (forks_from t x ws f) ≡ all_fork_wires (users_each t ws)
  forks_outs [] x f = refl
  forks_outs (w ∷ ws) x f =
      let a = sum_append outs (fork_rows (wire_sort t w) x (users t w) f) (forks_from t (suc x) ws (f + fork_wires (users t w))) in
      let b = fork_outs (wire_sort t w) x (users t w) f in
      let r = forks_outs ws (suc x) (f + fork_wires (users t w)) in
      omega arith

  plain_long : length (starts t) + length (each (role_outputs t) (roles t)) ≡ plain_wires t
  unfolding plain_wires wires
  plain_long = sym (length-append (starts t) (each (role_outputs t) (roles t)))

  pub rows_are_right : AllRight (length (starts t)) (lowered_nodes t)
  unfolding lowered_nodes
  rows_are_right =
      right_append (nodes_from t (length (starts t)) (roles t)) (forks_from t 0 (wires t) (plain_wires t)) (length (starts t)) (roles_right (roles t) (length (starts t)) (listed_role_is_real t))
      (subst (λ (z : ℕ). AllRight z (forks_from t 0 (wires t) (plain_wires t)))
      (sym plain_long ∙ ap (λ (z : ℕ). length (starts t) + z) (sym (roles_outs (roles t) (length (starts t))))) (forks_right (wires t) 0 (plain_wires t)))

  pub all_outputs : length (starts t) + sum_of outs (lowered_nodes t) ≡ wire_total t
  unfolding lowered_nodes wire_total all_users
  all_outputs =
      let a = sum_append outs (nodes_from t (length (starts t)) (roles t)) (forks_from t 0 (wires t) (plain_wires t)) in
      let b = roles_outs (roles t) (length (starts t)) in
      let c = forks_outs (wires t) 0 (plain_wires t) in
      let d = plain_long in
      omega arith

  -- ---- what a row takes is below W, and of its sort
  pub record Fits (nd : Node) : Type 0 where
    pub below : (k : Input) → has_input nd.kind k ≡ true → wire_on nd k < wire_total t
    pub sorted : (k : Input) → has_input nd.kind k ≡ true → sort_at (lowered_words t) (wire_on nd k) ≡ input_sort nd.kind nd.sort k

  abbrev AllFit : List Node → Type 0
  AllFit [] = Unit {0}
  AllFit (nd ∷ nds) = Fits nd × AllFit nds

  fit_append : (a b : List Node) → AllFit a → AllFit b → AllFit (a ++ b)
  fit_append [] b p q = q
  fit_append (nd ∷ a) b p q = (p.0, fit_append a b p.1 q)

  pub fit_at : (nds : List Node) (i : ℕ) (nd : Node) → AllFit nds → get_elem? nds i ≡ some nd → Fits nd
  fit_at [] i nd p h = none_some nd h
  fit_at (x ∷ nds) zero nd p h = let e : x ≡ nd = cc in subst Fits e p.0
  fit_at (x ∷ nds) (suc i) nd p h = fit_at nds i nd p.1 h

  -- a role's inputs
  role_below : (n : Role) (k : Input) → Real t n → has_input (role_kind t n) k ≡ true → stands_on t (into n k) < wire_total t
  role_below n k l h = let p = present t S n k l h in stands_below t S (into n k) (node_use_is_listed t n k p.0 l p.1)

  role_sorted : (n : Role) (k : Input) → Real t n → has_input (role_kind t n) k ≡ true → sort_at (lowered_words t) (stands_on t (into n k)) ≡ input_sort (role_kind t n) (role_sort t n) k
  role_sorted n k l h =
      let p = present t S n k l h in
      stands_sorted t S (into n k) p.0 (node_use_is_listed t n k p.0 l p.1) p.1 ∙ (node_source t S n k p.0 l p.1).1

  role_fits : (n : Role) (f : ℕ) → Real t n → Fits (role_node t f n)
  role_fits n f l = record { below = below; sorted = sorted }
    where
      below : (k : Input) → has_input (role_kind t n) k ≡ true → wire_on (role_node t f n) k < wire_total t
      below in0 h = role_below n in0 l h
      below in1 h = role_below n in1 l h
      below in2 h = role_below n in2 l h

      sorted : (k : Input) → has_input (role_kind t n) k ≡ true → sort_at (lowered_words t) (wire_on (role_node t f n) k) ≡ input_sort (role_kind t n) (role_sort t n) k
      sorted in0 h = role_sorted n in0 l h
      sorted in1 h = role_sorted n in1 l h
      sorted in2 h = role_sorted n in2 l h

  roles_fit : (ns : List Role) (f : ℕ) → ((n : Role) → Among n ns → Real t n) → AllFit (nodes_from t f ns)
  roles_fit [] f h = tt
  roles_fit (n ∷ ns) f h = (role_fits n f (h n (inl refl)), roles_fit ns (f + outputs (role_kind t n)) (λ m q. h m (inr q)))

  -- a wire that a FORK or DRAIN takes
  abbrev Sound : ℕ → ℕ → Type 0
  Sound s x = (x < wire_total t) × (sort_at (lowered_words t) x ≡ s)

  fork_fits : (s x : ℕ) (us : List Use) (f : ℕ) → Sound s x → ((j : ℕ) → j < fork_wires us → Sound s (f + j)) → AllFit (fork_rows s x us f)
  fork_fits s x [] f h g = (record { below = below; sorted = sorted }, tt)
    where
      below : (k : Input) → has_input DRAIN k ≡ true → wire_on (drain_node s x) k < wire_total t
      below in0 e = h.0
      below in1 e = let z : ◌≡◌ {A = ℕ} 0 1 = cc in absurd (omega arith)
      below in2 e = let z : ◌≡◌ {A = ℕ} 0 1 = cc in absurd (omega arith)

      sorted : (k : Input) → has_input DRAIN k ≡ true → sort_at (lowered_words t) (wire_on (drain_node s x) k) ≡ input_sort DRAIN s k
      sorted in0 e = h.1
      sorted in1 e = let z : ◌≡◌ {A = ℕ} 0 1 = cc in absurd (omega arith)
      sorted in2 e = let z : ◌≡◌ {A = ℕ} 0 1 = cc in absurd (omega arith)
  fork_fits s x (u ∷ []) f h g = tt
  fork_fits s x (u ∷ v ∷ us) f h g = (
    record { below = below; sorted = sorted },
    fork_fits s (suc f) (v ∷ us) (suc (suc f)) (subst (Sound s) (let e : f + 1 ≡ suc f = omega arith in e) (g 1 (omega arith)))
        (λ j l. subst (Sound s) (let e : f + suc (suc j) ≡ suc (suc f) + j = omega arith in e) (g (suc (suc j)) (omega arith))),
  )
    where
      below : (k : Input) → has_input FORK k ≡ true → wire_on (fork_node s x f) k < wire_total t
      below in0 e = h.0
      below in1 e = let z : ◌≡◌ {A = ℕ} 0 1 = cc in absurd (omega arith)
      below in2 e = let z : ◌≡◌ {A = ℕ} 0 1 = cc in absurd (omega arith)

      sorted : (k : Input) → has_input FORK k ≡ true → sort_at (lowered_words t) (wire_on (fork_node s x f) k) ≡ input_sort FORK s k
      sorted in0 e = h.1
      sorted in1 e = let z : ◌≡◌ {A = ℕ} 0 1 = cc in absurd (omega arith)
      sorted in2 e = let z : ◌≡◌ {A = ℕ} 0 1 = cc in absurd (omega arith)

  forks_fit : (ws : List Wire) (x f : ℕ)
      → ((k : ℕ) (w : Wire) → get_elem? ws k ≡ some w → Sound (wire_sort t w) (x + k) × ((j : ℕ) → j < fork_wires (users t w) → Sound (wire_sort t w) (free_at (users_each t ws) f k + j)))
      → AllFit (forks_from t x ws f)
  forks_fit [] x f h = tt
  forks_fit (w ∷ ws) x f h =
      let a = h 0 w refl in
      fit_append (fork_rows (wire_sort t w) x (users t w) f) (forks_from t (suc x) ws (f + fork_wires (users t w)))
      (fork_fits (wire_sort t w) x (users t w) f (subst (Sound (wire_sort t w)) (let e : x + 0 ≡ x = omega arith in e) a.0) a.1)
      (forks_fit ws (suc x) (f + fork_wires (users t w))
      (λ k v e. let b = h (suc k) v e in (subst (Sound (wire_sort t v)) (let q : x + suc k ≡ suc x + k = omega arith in q) b.0, b.1)))

  wire_sound : (k : ℕ) (w : Wire) → get_elem? (wires t) k ≡ some w → Sound (wire_sort t w) k
  unfolding wire_total plain_wires
  wire_sound k w h = let b = in_range (wires t) k w h in (omega arith, wire_sorted t k w h)

  new_sound : (k : ℕ) (w : Wire) → get_elem? (wires t) k ≡ some w → (j : ℕ) → j < fork_wires (users t w) → Sound (wire_sort t w) (free_at (all_users t) (plain_wires t) k + j)
  unfolding wire_total all_users
  new_sound k w h j l = let b = free_high t (wires t) (plain_wires t) k w h in (omega arith, new_wire_sorted t k j _ w h l refl)

  pub rows_fit : AllFit (lowered_nodes t)
  unfolding lowered_nodes all_users
  rows_fit =
      fit_append (nodes_from t (length (starts t)) (roles t)) (forks_from t 0 (wires t) (plain_wires t)) (roles_fit (roles t) (length (starts t)) (listed_role_is_real t))
      (forks_fit (wires t) 0 (plain_wires t) (λ k w h. (subst (Sound (wire_sort t w)) (let e : k ≡ 0 + k = omega arith in e) (wire_sound k w h), new_sound k w h)))
