-- What each function writes, from the calls that it makes.
-- Assumes nothing.
use Prim.Native.Nat.{ℕ, ◌+◌, ◌-◌, ◌*◌, ◌<◌, ◌≤◌}
use mathlib.Core.Path.{◌≡◌, refl, sym, ap, ◌∙◌}
use mathlib.Core.Logic.{◌≢◌, inl, ◌⊎◌, inr}
use mathlib.Core.Bool.{Bool, true, false}
use mathlib.Core.List.{List, [], ◌∷◌, ◌++◌}
use native.Mathlib.Omega.{arith}
use borrow.Author.Tests.{ne_eqb}
use lib.ListN.{length, get_or, length-append}
use lib.Seq.{sets}
use Rattle.graph.specs.Below.{joined}
use Rattle.table.specs.Rows.{kind_at, size}
use Rattle.lowered.specs.Gathered.{each}
use Rattle.lowered.specs.Sources.{is_op}
use Rattle.laid.specs.Listed.{op_roles, for_roles, arg_roles_lem}
use Rattle.laid.specs.Bases.{no_roles}
use Rattle.laying.proofs.Putting.{sets_other}
use Rattle.forking.specs.Written.{joined_long}
use Rattle.naming.specs.Names.{role_name}
use Rattle.naming.specs.Parts.{row_names, copy_names, first_what, two_outputs, output_names, times_over, forks_of, legs_of, leg_names_by}
use Rattle.naming.proofs.Parts.{copies_by_parts}
use Rattle.naming.proofs.Writing.{Written, two_written}

-- ---- the outputs of a node

module _ (k r v at : ℕ) where
  pub second_room : {b : Bool} {size size₂ : ℕ} → b ≡ two_outputs k → b ≡ true → at + length (output_names k r v) ≤ size → size₂ ≡ size → at + 3 + 3 ≤ size₂
  second_room e y h s = let q : two_outputs k ≡ true = sym e ∙ y in let h' : at + 6 ≤ _ = rw q at h in omega arith

module _ (k r v : ℕ) (l : List ℕ) (at : ℕ) {w : ℕ} {b : Bool} (ew : w ≡ first_what k) (eb : b ≡ two_outputs k) where
  pub one_output : b ≡ false → {l1 : List ℕ} → l1 ≡ sets l at (w ∷ r ∷ v ∷ []) → (at + 3 ≡ at + length (output_names k r v)) × (l1 ≡ sets l at (output_names k r v))
  one_output n h = let q : two_outputs k ≡ false = sym eb ∙ n in rw (q, ← ew) (refl, h)

  pub both_outputs : b ≡ true → {l1 l2 : List ℕ} → l1 ≡ sets l at (w ∷ r ∷ v ∷ []) → l2 ≡ sets l1 (at + 3) ((w + 1) ∷ r ∷ v ∷ [])
      → (at + 6 ≡ at + length (output_names k r v)) × (l2 ≡ sets l at (output_names k r v))
  both_outputs y h h2 =
      let q : two_outputs k ≡ true = sym eb ∙ y in
      rw (q, ← ew) (refl, two_written (w ∷ r ∷ v ∷ []) ((w + 1) ∷ r ∷ v ∷ []) l at (at + 3) h h2 refl)

-- ---- forks

over_long : (k a b c : ℕ) → length (times_over k a b c) ≡ 3 * k
over_long k a b c = joined_long (λ i. a ∷ b ∷ c ∷ []) 3 (λ i. refl) k

module _ (k a b c at : ℕ) where
  pub drain_room : {size : ℕ} → k ≡ 0 → at + length (forks_of k a b c) ≤ size → at + 3 ≤ size
  drain_room e h = rw e at h

  pub drain_named : (l : List ℕ) {after : List ℕ} → k ≡ 0 → after ≡ sets l at ((32 + a) ∷ b ∷ c ∷ []) → (at + 3 ≡ at + length (forks_of k a b c)) × (after ≡ sets l at (forks_of k a b c))
  drain_named l e h = rw e (refl, h)

  pub fork_room : {size : ℕ} → k ≢ 0 → at + length (forks_of k a b c) ≤ size → at + 3 * (k - 1) ≤ size
  fork_room n h =
      let h' : at + length (times_over (k - 1) (16 + a) b c) ≤ _ = rw (ne_eqb k 0 n) at h in
      let s = over_long (k - 1) (16 + a) b c in
      omega arith

  pub forks_named : (l : List ℕ) {after : List ℕ} {w : ℕ} → k ≢ 0 → w ≡ k - 1 → after ≡ sets l at (times_over (k - 1) (16 + a) b c)
      → (at + 3 * w ≡ at + length (forks_of k a b c)) × (after ≡ sets l at (forks_of k a b c))
  forks_named l n e h = let s = over_long (k - 1) (16 + a) b c in rw (ne_eqb k 0 n) (omega arith, h)

-- ---- legs

module _ (k a b c : ℕ) where
  pub legs_long : length (legs_of k a b c) ≡ 6 * (k - 1)
  legs_long = let s = over_long (2 * (k - 1)) a b c in omega arith

  pub no_legs : (l : List ℕ) (at : ℕ) → k ≡ 0 → (at ≡ at + 6 * (k - 1)) × (l ≡ sets l at (legs_of k a b c))
  unfolding joined
  no_legs l at e = rw e (omega arith, refl)

-- a wire's name stands before all legs, so that it is still there
module _ (uses before now : List ℕ) (sources w p : ℕ) (W : Written (leg_names_by before uses) (3 * sources) w p before now) (l : w < sources) where
  kept : (j : ℕ) → j < 3 → get_or now (3 * w + j) 0 ≡ get_or before (3 * w + j) 0
  kept j h = ap (λ (x : List ℕ). get_or x (3 * w + j) 0) W.words ∙ sets_other (joined (leg_names_by before uses) w) before (3 * sources) (3 * w + j) (inl (omega arith))

  pub name_kept : (k : ℕ) → k ≡ get_or uses w 0 → legs_of k (get_or now (3 * w) 0) (get_or now (3 * w + 1) 0) (get_or now (3 * w + 2) 0) ≡ leg_names_by before uses w
  name_kept k e =
      let z : 3 * w ≡ 3 * w + 0 = omega arith in
      let f : get_or now (3 * w) 0 ≡ get_or before (3 * w) 0 = ap (λ (p : ℕ). get_or now p 0) z ∙ kept 0 (omega arith) ∙ sym (ap (λ (p : ℕ). get_or before p 0) z) in
      same e f (kept 1 (omega arith)) (kept 2 (omega arith))
    where
      same : {k a b c k' a' b' c' : ℕ} → k ≡ k' → a ≡ a' → b ≡ b' → c ≡ c' → legs_of k a b c ≡ legs_of k' a' b' c'
      same p q r s = rw (p, q, r, s)

-- ---- rows

-- a list known by another name
module _ {xs ys : List ℕ} (e : ys ≡ xs) (at : ℕ) where
  pub room_as : {size : ℕ} → at + length ys ≤ size → at + length xs ≤ size
  room_as h = let d = ap length e in omega arith

  pub named_as : (l : List ℕ) {p : ℕ} {after : List ℕ} → p ≡ at + length xs → after ≡ sets l at xs → (p ≡ at + length ys) × (after ≡ sets l at ys)
  named_as l d h = (d ∙ ap (λ (zs : List ℕ). at + length zs) (sym e), h ∙ ap (sets l at) (sym e))

module _ (t : List ℕ) where
  op_names : (r : ℕ) → is_op t r ≡ true → row_names t r ≡ 0 ∷ r ∷ 0 ∷ []
  unfolding each
  op_names r h = ap (each role_name) (op_roles t r h)

  pub op_row_names : (r : ℕ) → kind_at t r ≡ 2 → row_names t r ≡ 0 ∷ r ∷ 0 ∷ []
  op_row_names r k = op_names r (rw k)

  pub pick_row_names : (r : ℕ) → kind_at t r ≡ 3 → row_names t r ≡ 0 ∷ r ∷ 0 ∷ []
  pick_row_names r k = op_names r (rw k)

  pub node_row_names : (r : ℕ) {k : ℕ} → k ≡ kind_at t r → (k ≡ 2) ⊎ (k ≡ 3) → row_names t r ≡ 0 ∷ r ∷ 0 ∷ []
  node_row_names r e (inl k) = op_row_names r (sym e ∙ k)
  node_row_names r e (inr k) = pick_row_names r (sym e ∙ k)

  pub arg_row_names : (r : ℕ) → kind_at t r ≡ 5 → row_names t r ≡ 6 ∷ r ∷ 0 ∷ 7 ∷ r ∷ 0 ∷ []
  unfolding each
  arg_row_names r k = ap (each role_name) (arg_roles_lem t r k)

  pub other_row_names : (r : ℕ) → kind_at t r ≢ 2 → kind_at t r ≢ 3 → kind_at t r ≢ 4 → kind_at t r ≢ 5 → row_names t r ≡ []
  unfolding each
  other_row_names r a b c d = ap (each role_name) (no_roles t r a b c d)

  -- a loop's own nodes, then its copies
  pub loop_names : (n L : ℕ) → n ≡ size t → kind_at t L ≡ 4 → row_names t L ≡ (1 ∷ L ∷ 0 ∷ 2 ∷ L ∷ 0 ∷ 3 ∷ L ∷ 0 ∷ []) ++ joined (copy_names t L) n
  unfolding each
  loop_names n L e k =
      ap (each role_name) (for_roles t L k)
      ∙ ap (λ (l : List ℕ). (1 ∷ L ∷ 0 ∷ 2 ∷ L ∷ 0 ∷ 3 ∷ L ∷ 0 ∷ []) ++ l) (copies_by_parts t L ∙ ap (joined (copy_names t L)) (sym e))

-- three names, one behind another, and what follows
pub three_names : (a b c a' b' c' a'' b'' c'' : ℕ) (zs l : List ℕ) (at : ℕ) {l1 l2 l3 l4 : List ℕ} → l1 ≡ sets l at (a ∷ b ∷ c ∷ []) → l2 ≡ sets l1 (at + 3) (a' ∷ b' ∷ c' ∷ [])
    → l3 ≡ sets l2 (at + 6) (a'' ∷ b'' ∷ c'' ∷ []) → l4 ≡ sets l3 (at + 9) zs → l4 ≡ sets l at ((a ∷ b ∷ c ∷ a' ∷ b' ∷ c' ∷ a'' ∷ b'' ∷ c'' ∷ []) ++ zs)
three_names a b c a' b' c' a'' b'' c'' zs l at h1 h2 h3 h4 =
    two_written (a ∷ b ∷ c ∷ a' ∷ b' ∷ c' ∷ a'' ∷ b'' ∷ c'' ∷ []) zs l at (at + 9)
    (two_written (a ∷ b ∷ c ∷ a' ∷ b' ∷ c' ∷ []) (a'' ∷ b'' ∷ c'' ∷ []) l at (at + 6)
    (two_written (a ∷ b ∷ c ∷ []) (a' ∷ b' ∷ c' ∷ []) l at (at + 3) h1 h2 refl) h3 refl) h4 refl

-- the room for a loop's own names and for its copies
pub loop_room : (t : List ℕ) (n L at : ℕ) {most : ℕ} → n ≡ size t → kind_at t L ≡ 4 → at + length (row_names t L) ≤ most → at + 9 + length (joined (copy_names t L) n) ≤ most
loop_room t n L at e k h =
    let r = room_as (loop_names t n L e k) at h in
    let a = length-append (1 ∷ L ∷ 0 ∷ 2 ∷ L ∷ 0 ∷ 3 ∷ L ∷ 0 ∷ []) (joined (copy_names t L) n) in
    omega arith

pub loop_place : (t : List ℕ) (n L at : ℕ) {p : ℕ} → p ≡ at + 9 + length (joined (copy_names t L) n) → p ≡ at + length ((1 ∷ L ∷ 0 ∷ 2 ∷ L ∷ 0 ∷ 3 ∷ L ∷ 0 ∷ []) ++ joined (copy_names t L) n)
loop_place t n L at e =
    let a = length-append (1 ∷ L ∷ 0 ∷ 2 ∷ L ∷ 0 ∷ 3 ∷ L ∷ 0 ∷ []) (joined (copy_names t L) n) in
    omega arith
