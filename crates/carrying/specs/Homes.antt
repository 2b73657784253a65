-- A value's wire at home by noted outputs is its number, once the outputs of all rows are noted.
-- Main name: `home_from_bases`.
-- Assumes nothing.
use Rattle.std.specs.Prelude.{ℕ, zero, suc, ◌+◌, ◌≤◌, ◌<◌, ◌≡◌, refl, cond, List, eqb, leb, get_or}
use Rattle.std.proofs.Common.{ap, arith}
use Rattle.table.specs.Rows.{kind_at, size}
use Rattle.table.specs.Bodies.{arg_of}
use Rattle.structure.specs.Structure.{Structure, in_table}
use Rattle.laid.specs.Bases.{wire_base}
use Rattle.laid.specs.Wired.{home_number}
use Rattle.carrying.specs.Kept.{Bases, home_from}

pub home_from_bases : (t nodes wires : List ℕ) (v : ℕ) → Bases t nodes wires → Structure t → v < size t → kind_at t v ≤ 6 → home_from t wires v ≡ home_number t v
unfolding home_from home_number
home_from_bases t nodes wires v B S l h = go (kind_at t v) refl h
  where
    go : (k : ℕ) → kind_at t v ≡ k → k ≤ 6
        → cond (leb k 1) v (cond (leb k 3) (get_or wires v 0) (cond (eqb k 4) (get_or wires v 0 + 2) (cond (eqb k 5) (get_or wires v 0 + 1) (get_or wires (arg_of t v) 0 + 2))))
        ≡ cond (leb k 1) v (cond (leb k 3) (wire_base t v) (cond (eqb k 4) (wire_base t v + 2) (cond (eqb k 5) (wire_base t v + 1) (wire_base t (arg_of t v) + 2))))
    go zero e h = refl
    go (suc zero) e h = refl
    go (suc (suc zero)) e h = B.wire v l
    go (suc (suc (suc zero))) e h = B.wire v l
    go (suc (suc (suc (suc zero)))) e h = ap (λ (x : ℕ). x + 2) (B.wire v l)
    go (suc (suc (suc (suc (suc zero))))) e h = ap (λ (x : ℕ). x + 1) (B.wire v l)
    go (suc (suc (suc (suc (suc (suc zero)))))) e h =
        let a = (S.next_row v l e).arg_kind in
        ap (λ (x : ℕ). x + 2) (B.wire (arg_of t v) (in_table t S (arg_of t v) (λ z. omega arith)))
    go (suc (suc (suc (suc (suc (suc (suc k))))))) e h = absurd (omega arith)
