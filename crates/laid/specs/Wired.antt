-- The sources of all uses as numbers, row by row: what a program writes down going down the table, from home bodies, running sums and the
-- places of carried values alone.
--
--   home_number           the number of a value's wire at home
--   value_number          the number of the wire on which a value comes to a body
--   value_by_number       of every value that is reached
--
-- Assumes nothing.
use Rattle.std.specs.Prelude.{ℕ, zero, suc, ◌+◌, ◌*◌, ◌≤◌, ◌<◌, ◌≡◌, ◌⊎◌, Bool, List, leb}
use Rattle.std.proofs.Math.Path.{refl, ap}
use Rattle.std.proofs.Common.{◌∙◌, inl, inr}
use Rattle.std.proofs.Math.Bool.{true, false, cond}
use native.Mathlib.Omega.{arith}
use Rattle.std.proofs.lemmas.Bool.{eqb-false}
use Rattle.std.proofs.Math.Dec.{eqb}
use Rattle.step.specs.Kinds.{out0}
use Rattle.table.specs.Rows.{kind_at, size}
use Rattle.table.specs.Scan.{home}
use Rattle.table.specs.Bodies.{arg_of}
use Rattle.structure.specs.Structure.{Structure, in_table}
use Rattle.lowered.specs.Roles.{copy_invariant, output}
use Rattle.lowered.specs.Sources.{home_wire, value_wire, is_op}
use Rattle.lowered.specs.Lower.{wire_number}
use Rattle.laid.specs.Made.{home_of_start, home_of_op, home_of_for, home_of_arg, home_of_next}
use Rattle.laid.specs.Reached.{Reached}
use Rattle.laid.specs.Bases.{wire_base, copy_place, start_number, op_number, gate_number, arg_number, copy_number}

-- INPUT, CONST: the row; OP, PICK: the row's first; FOR: the third; ARG: the second; NEXT: the third of its ARG
unfoldable pub home_number : List ℕ → ℕ → ℕ
home_number t v =
    cond (leb (kind_at t v) 1) v
    (cond (leb (kind_at t v) 3) (wire_base t v)
    (cond (eqb (kind_at t v) 4) (wire_base t v + 2) (cond (eqb (kind_at t v) 5) (wire_base t v + 1) (wire_base t (arg_of t v) + 2))))

-- elsewhere this loop's copy: behind the loop's five wires, the third of its three
unfoldable pub value_number : List ℕ → ℕ → ℕ → ℕ
value_number t v B = cond (eqb (home t v) B) (home_number t v) (wire_base t B + (5 + (3 * copy_place t B v + 2)))

module _ (t : List ℕ) (S : Structure t) where
  home_by_number : (v : ℕ) → v < size t → kind_at t v ≤ 6 → wire_number t (home_wire t v) ≡ home_number t v
  unfolding home_number
  home_by_number v l k = go (kind_at t v) refl k
    where
      of_op : (kind_at t v ≡ 2) ⊎ (kind_at t v ≡ 3) → wire_number t (home_wire t v) ≡ wire_base t v
      of_op h = ap (wire_number t) (home_of_op t v h) ∙ op_number t v l (is_op_lem h) ∙ (let z : wire_base t v + 0 ≡ wire_base t v = omega arith in z)
        where
          is_op_lem : (kind_at t v ≡ 2) ⊎ (kind_at t v ≡ 3) → is_op t v ≡ true
          is_op_lem (inl e) = rw e
          is_op_lem (inr e) = rw e

      go : (k : ℕ) → kind_at t v ≡ k → k ≤ 6 → wire_number t (home_wire t v) ≡ cond (leb k 1) v (cond (leb k 3) (wire_base t v) (cond (eqb k 4) (wire_base t v + 2) (cond (eqb k 5) (wire_base t v + 1) (wire_base t (arg_of t v) + 2))))
      go zero e h = ap (wire_number t) (home_of_start t v (omega arith)) ∙ start_number t S v l (omega arith)
      go (suc zero) e h = ap (wire_number t) (home_of_start t v (omega arith)) ∙ start_number t S v l (omega arith)
      go (suc (suc zero)) e h = of_op (inl e)
      go (suc (suc (suc zero))) e h = of_op (inr e)
      go (suc (suc (suc (suc zero)))) e h = ap (wire_number t) (home_of_for t v e) ∙ (gate_number t v l e).0
      go (suc (suc (suc (suc (suc zero))))) e h = ap (wire_number t) (home_of_arg t v e) ∙ (arg_number t v l e).0
      go (suc (suc (suc (suc (suc (suc zero)))))) e h =
          let a = (S.next_row v l e).arg_kind in
          ap (wire_number t) (home_of_next t v e) ∙ (arg_number t (arg_of t v) (in_table t S (arg_of t v) (λ z. omega arith)) a).1
      go (suc (suc (suc (suc (suc (suc (suc k))))))) e h = absurd (omega arith)

  pub value_by_number : (v B : ℕ) → v < size t → kind_at t v ≤ 6 → Reached t S v B → wire_number t (value_wire t v B) ≡ value_number t v B
  unfolding value_wire value_number
  value_by_number v B l k r = go (eqb (home t v) B) refl r
    where
      go : (b : Bool) → eqb (home t v) B ≡ b → Reached t S v B
          → wire_number t (cond b (home_wire t v) (output (copy_invariant B v) out0)) ≡ cond b (home_number t v) (wire_base t B + (5 + (3 * copy_place t B v + 2)))
      go true e q = home_by_number v l k
      go false e (inl q) = absurd (eqb-false (home t v) B e q)
      go false e (inr q) = let kB = q.1 in copy_number t B v 2 (output (copy_invariant B v) out0) (in_table t S B (λ z. omega arith)) kB l q.0 refl
