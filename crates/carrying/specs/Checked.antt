-- What a caller knows of a table whose check answered 0.
-- Main names: `structure_of`, `few_rows`, `passing`, `fitting`; `refused_by_lem` and `passed_by` for the answers that end with ROOM.
-- Assumes nothing.
use Rattle.std.specs.Prelude.{ℕ, ◌≤◌, ◌≡◌, refl, Bool, true, false, cond, ◌&&◌, not, List}
use Rattle.std.proofs.Common.{sym, ap, ◌∙◌, arith, ne_eqb}
use Rattle.table.specs.Rows.{size}
use Rattle.table.specs.Check.{Refusal, answer, table_refusal}
use Rattle.table.specs.Right.{number_0_is_right, right_table_passes}
use Rattle.structure.specs.Structure.{Structure, passing_table_has_structure}
use Rattle.lowered.specs.Room.{refused_by}
use Rattle.carrying.specs.Kept.{Passing}

pub and_false : (b : Bool) → b && false ≡ false
and_false true = refl
and_false false = refl

pub and_true : (b : Bool) → b && true ≡ b
and_true true = refl
and_true false = refl

-- what a test of `!b` says
pub off : (b : Bool) → not b ≡ true → b ≡ false
off true e = sym e
off false e = refl

pub on : (b : Bool) → not b ≡ false → b ≡ true
on true e = refl
on false e = sym e

-- an answer that refuses nothing says that there is room
pub fitting : (b : Bool) (n : ℕ) → answer 0 0 ≡ cond b (answer 0 0) (answer 10 n) → b ≡ true
fitting true n h = refl
fitting false n h = let q : (answer 0 0).number ≡ (answer 10 n).number = ap (λ (a : Refusal). a.number) h in absurd (omega arith)

pub structure_of : (t : List ℕ) (n : ℕ) → Passing t n → Structure t
structure_of t n P = passing_table_has_structure t (right_table_passes t P.right)

module _ (t : List ℕ) {k r : ℕ} (e : answer k r ≡ table_refusal t) where
  pub number_is : (table_refusal t).number ≡ k
  number_is = ap (λ (a : Refusal). a.number) (sym e)

  pub few_rows : k ≡ 0 → size t ≤ 512
  few_rows z = let R = number_0_is_right t (number_is ∙ z) in (passing_table_has_structure t (right_table_passes t R)).few

  pub passing : {n : ℕ} → k ≡ 0 → n ≡ size t → Passing t n
  passing {n} z h = let f = few_rows z in record { right = number_0_is_right t (number_is ∙ z); rows = h; few = omega arith }

  -- a number of 1 to 9 is the answer, whatever room there is
  pub refused_by_lem : (room : Bool) → (k ≡ 0 → ⊥) → answer k r ≡ refused_by t room
  unfolding refused_by
  refused_by_lem room n = rw (ne_eqb (table_refusal t).number 0 (λ q. n (sym number_is ∙ q))) e

  -- else the room decides
  pub passed_by : (room : Bool) → k ≡ 0 → refused_by t room ≡ cond room (answer 0 0) (answer 10 (size t))
  unfolding refused_by
  passed_by room z = rw (number_is, z)
