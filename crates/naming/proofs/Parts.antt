-- The parts joined are the names of the definition.
--
--   roles_by_parts, copies_by_parts, starts_by_parts      of all rows, of a loop's copies, of all starts
--   Begins                                words that begin with the names of a list, three words each
--   outputs_read, forks_read, legs_read   what is read back from such words is right
--
-- Assumes nothing.
use Prim.Native.Nat.{ℕ, zero, suc, ◌+◌, ◌-◌, ◌*◌, ◌<◌, ◌≤◌}
use mathlib.Core.Path.{◌≡◌, refl, sym, ap, ap₂, ◌∙◌}
use mathlib.Core.Bool.{Bool, true, false, cond}
use mathlib.Core.List.{List, [], ◌∷◌, ◌++◌, append-nil}
use mathlib.Core.Option.{Option, none, some}
use native.Mathlib.Omega.{arith}
use borrow.Author.Tests.{ne_eqb}
use lib.Dec.{eqb}
use lib.ListN.{length, get_or, get_elem?}
use lib.Seq.{sets, length-sets}
use Rattle.step.specs.Kinds.{OP, PICK, outputs}
use Rattle.graph.specs.Below.{joined}
use Rattle.table.specs.Rows.{kind_at, size}
use Rattle.structure.specs.Structure.{Structure}
use Rattle.lowered.specs.Gathered.{gathered, those, each}
use Rattle.lowered.specs.Lists.{in_range, has_elem}
use Rattle.lowered.specs.Roles.{Role, op_node, stream, gate, guard, copy_split, copy_invariant, carry, arg_split, Wire, start, Use}
use Rattle.lowered.specs.Sources.{carried}
use Rattle.lowered.specs.Lower.{carried_into, copy, row_roles, roles, is_start, start_rows, starts, outputs_by, role_outputs, wires, users, plain_nodes, plain_wires}
use Rattle.laid.specs.Indexed.{each_append, each_long, each_at, joined_first, joined_along, joined_same}
use Rattle.laid.specs.Listed.{role_row}
use Rattle.laid.specs.Counts.{users_are_counted}
use Rattle.written.specs.Numbers.{use_count}
use Rattle.laying.proofs.Putting.{sets_in}
use Rattle.naming.specs.Names.{role_number, carried_row, role_name, wire_what, wire_row, wire_carried, wire_name, fork_name, fork_names, leg_names}
use Rattle.naming.specs.Parts.{row_names, copy_names, start_names, first_what, two_outputs, output_names, output_names_by, times_over, forks_of, legs_of, fork_names_by, leg_names_by}

-- lists gathered row by row
pub each_gathered : {A : Type 0} (g : A → List ℕ) (f : ℕ → List A) (n : ℕ) → each g (gathered f n) ≡ joined (λ r. each g (f r)) n
unfolding gathered joined each
each_gathered g f zero = refl
each_gathered g f (suc n) = each_append g (gathered f n) (f n) ∙ ap (λ (l : List ℕ). l ++ each g (f n)) (each_gathered g f n)

pub each_those : (g : ℕ → List ℕ) (test : ℕ → Bool) (n : ℕ) → each g (those test n) ≡ joined (λ v. cond (test v) (g v) []) n
unfolding those joined each
each_those g test zero = refl
each_those g test (suc n) =
    each_append g (those test n) (cond (test n) (n ∷ []) [])
    ∙ ap₂ {C = List ℕ} (λ a b. a ++ b) (each_those g test n) (one (test n))
  where
    one : (b : Bool) → each g (cond b (n ∷ []) []) ≡ cond b (g n) []
    one true = append-nil (g n)
    one false = refl

pub each_each : {A B : Type 0} (g : B → List ℕ) (f : A → List B) (xs : List A) → each g (each f xs) ≡ each (λ x. each g (f x)) xs
unfolding each
each_each g f [] = refl
each_each g f (x ∷ xs) = each_append g (f x) (each f xs) ∙ ap (λ (l : List ℕ). each g (f x) ++ l) (each_each g f xs)

module _ (t : List ℕ) where
  -- a loop's copies
  pub copies_by_parts : (L : ℕ) → each role_name (each (copy L) (carried_into t L)) ≡ joined (copy_names t L) (size t)
  unfolding carried_into each
  copies_by_parts L = each_each role_name (copy L) (those (carried t L) (size t)) ∙ each_those (λ v. 4 ∷ L ∷ v ∷ 5 ∷ L ∷ v ∷ []) (carried t L) (size t)

  pub roles_by_parts : each role_name (roles t) ≡ joined (row_names t) (size t)
  unfolding roles
  roles_by_parts = each_gathered role_name (row_roles t) (size t)

  pub starts_by_parts : each wire_name (starts t) ≡ joined (start_names t) (size t)
  unfolding starts start_rows each
  starts_by_parts = each_each wire_name (λ r. start r ∷ []) (those (is_start t) (size t)) ∙ each_those (λ r. 0 ∷ r ∷ 0 ∷ []) (is_start t) (size t)

  -- the outputs of a node, from its name
  pub outputs_by_name : (n : Role) → each wire_name (role_outputs t n) ≡ output_names (role_number n) (role_row n) (carried_row n)
  unfolding each first_what two_outputs
  outputs_by_name (op_node r) = one (eqb (kind_at t r) 2)
    where
      one : (b : Bool) → each wire_name (outputs_by (op_node r) (outputs (cond b OP PICK))) ≡ 1 ∷ r ∷ 0 ∷ []
      one true = refl
      one false = refl
  outputs_by_name (stream L) = refl
  outputs_by_name (gate L) = refl
  outputs_by_name (guard L) = refl
  outputs_by_name (copy_split L v) = refl
  outputs_by_name (copy_invariant L v) = refl
  outputs_by_name (carry a) = refl
  outputs_by_name (arg_split a) = refl

-- the forks and legs of a wire, by how many uses it has
pub forks_used : (k a b c : ℕ) → forks_of (suc k) a b c ≡ times_over k (16 + a) b c
forks_used k a b c =
    let e : suc k - 1 ≡ k = omega arith in
    rw (ne_eqb (suc k) 0 (λ z. omega arith), e)

pub forks_by_count : (w : Wire) (us : List Use) → fork_names w us ≡ forks_of (length us) (wire_what w) (wire_row w) (wire_carried w)
unfolding joined
forks_by_count w [] = refl
forks_by_count w (u ∷ []) = refl
forks_by_count w (u ∷ v ∷ us) =
    ap (λ (l : List ℕ). fork_name w ++ l) (forks_by_count w (v ∷ us) ∙ forks_used (length us) (wire_what w) (wire_row w) (wire_carried w))
    ∙ sym (forks_used (suc (length us)) (wire_what w) (wire_row w) (wire_carried w) ∙ joined_first (λ i. fork_name w) (length us))

pub legs_by_count : (w : Wire) (us : List Use) → leg_names w us ≡ legs_of (length us) (wire_what w) (wire_row w) (wire_carried w)
unfolding joined
legs_by_count w [] = refl
legs_by_count w (u ∷ []) = refl
legs_by_count w (u ∷ v ∷ us) =
    ap (λ (l : List ℕ). wire_name w ++ (wire_name w ++ l)) (legs_by_count w (v ∷ us)) ∙ first (length us)
  where
    first : (k : ℕ) → wire_name w ++ (wire_name w ++ times_over (2 * (suc k - 1)) (wire_what w) (wire_row w) (wire_carried w)) ≡ times_over (2 * (suc (suc k) - 1)) (wire_what w) (wire_row w) (wire_carried w)
    first k =
        let e : 2 * (suc k - 1) ≡ 2 * k = omega arith in
        let d : 2 * (suc (suc k) - 1) ≡ suc (suc (2 * k)) = omega arith in
        rw (e, d) (sym (joined_first (λ i. wire_name w) (suc (2 * k)) ∙ ap (λ (l : List ℕ). wire_name w ++ l) (joined_first (λ i. wire_name w) (2 * k))))

-- ---- names read back from words that begin with them

-- three words for each element of a list stand from the first word on
pub record Begins {A : Type 0} (f : A → List ℕ) (xs : List A) (names : List ℕ) : Type 0 where
  pub long : 3 * length xs ≤ length names
  pub word : (i k : ℕ) (x : A) → get_elem? xs i ≡ some x → k < 3 → get_or names (3 * i + k) 0 ≡ get_or (f x) k 0

module _ {A : Type 0} where
  pub begins : (f : A → List ℕ) (xs : List A) (lent : List ℕ) {names : List ℕ} → ((x : A) → length (f x) ≡ 3) → length (each f xs) ≤ length lent → names ≡ sets lent 0 (each f xs) → Begins f xs names
  begins f xs lent {names} three room e =
      let n = each_long f 3 three xs in
      let l : length names ≡ length lent = ap length e ∙ length-sets lent 0 (each f xs) in
      record { long = omega arith; word = word }
    where
      word : (i k : ℕ) (x : A) → get_elem? xs i ≡ some x → k < 3 → get_or names (3 * i + k) 0 ≡ get_or (f x) k 0
      word i k x h l =
          let n = each_long f 3 three xs in
          let r = in_range xs i x h in
          let z : 3 * i + k ≡ 0 + (3 * i + k) = omega arith in
          ap₂ (λ (a : List ℕ) (p : ℕ). get_or a p 0) e z ∙ sets_in (each f xs) lent 0 (3 * i + k) (omega arith) (omega arith) ∙ each_at f 3 three xs i k x h l

  -- what is said of each number is said along the list
  pub joined_each : (H : ℕ → List ℕ) (F : A → List ℕ) (xs : List A) → ((i : ℕ) (x : A) → get_elem? xs i ≡ some x → H i ≡ F x) → joined H (length xs) ≡ each F xs
  joined_each H F xs h =
      joined_same H (λ i. given (get_elem? xs i)) (length xs) (λ i l. let m = has_elem xs i l in h i m.0 m.1 ∙ sym (ap given m.1))
      ∙ joined_along given xs
    where
      given : Option A → List ℕ
      given none = []
      given (some x) = F x

  -- what is made of a name's three words
  pub read_back : (f : A → List ℕ) (xs : List A) (names : List ℕ) → Begins f xs names → (G : ℕ → ℕ → ℕ → List ℕ) (i : ℕ) (x : A) → get_elem? xs i ≡ some x
      → G (get_or names (3 * i) 0) (get_or names (3 * i + 1) 0) (get_or names (3 * i + 2) 0) ≡ G (get_or (f x) 0 0) (get_or (f x) 1 0) (get_or (f x) 2 0)
  read_back f xs names B G i x h =
      let z : 3 * i ≡ 3 * i + 0 = omega arith in
      same (ap (λ (p : ℕ). get_or names p 0) z ∙ B.word i 0 x h (omega arith)) (B.word i 1 x h (omega arith)) (B.word i 2 x h (omega arith))
    where
      same : {a b c x y z : ℕ} → a ≡ x → b ≡ y → c ≡ z → G a b c ≡ G x y z
      same p q r = rw (p, q, r)

module _ (t : List ℕ) where
  -- all outputs of the nodes before forks
  pub outputs_read : (names : List ℕ) → Begins role_name (roles t) names → joined (output_names_by names) (plain_nodes t) ≡ each wire_name (each (role_outputs t) (roles t))
  unfolding plain_nodes
  outputs_read names B =
      joined_each (output_names_by names) (λ n. each wire_name (role_outputs t n)) (roles t)
      (λ i n h. read_back role_name (roles t) names B output_names i n h ∙ sym (outputs_by_name t n))
      ∙ sym (each_each wire_name (role_outputs t) (roles t))

  module _ (S : Structure t) (names uses : List ℕ) (B : Begins wire_name (wires t) names) (right : (w : ℕ) → w < 8192 → get_or uses w 0 ≡ use_count t w) (few : plain_wires t ≤ 8192) where
    uses_are : (i : ℕ) (w : Wire) → get_elem? (wires t) i ≡ some w → get_or uses i 0 ≡ length (users t w)
    unfolding plain_wires
    uses_are i w h = let r = in_range (wires t) i w h in right i (omega arith) ∙ sym (users_are_counted t S i w h)

    -- all forks
    pub forks_read : joined (fork_names_by names uses) (plain_wires t) ≡ each (λ w. fork_names w (users t w)) (wires t)
    unfolding plain_wires
    forks_read =
        joined_each (fork_names_by names uses) (λ w. fork_names w (users t w)) (wires t)
        (λ i w h. ap (λ (k : ℕ). forks_of k (get_or names (3 * i) 0) (get_or names (3 * i + 1) 0) (get_or names (3 * i + 2) 0)) (uses_are i w h)
        ∙ read_back wire_name (wires t) names B (forks_of (length (users t w))) i w h ∙ sym (forks_by_count w (users t w)))

    -- all legs
    pub legs_read : joined (leg_names_by names uses) (plain_wires t) ≡ each (λ w. leg_names w (users t w)) (wires t)
    unfolding plain_wires
    legs_read =
        joined_each (leg_names_by names uses) (λ w. leg_names w (users t w)) (wires t)
        (λ i w h. ap (λ (k : ℕ). legs_of k (get_or names (3 * i) 0) (get_or names (3 * i + 1) 0) (get_or names (3 * i + 2) 0)) (uses_are i w h)
        ∙ read_back wire_name (wires t) names B (legs_of (length (users t w))) i w h ∙ sym (legs_by_count w (users t w)))
