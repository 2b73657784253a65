-- The walk that only counts, and the one that lays down: what each starts from, and what it leaves. Assumes nothing.
use Prim.Native.Nat.{ℕ, ◌≤◌, ◌<◌}
use mathlib.Core.Path.{◌≡◌, sym, ◌∙◌}
use mathlib.Core.List.{List}
use native.Mathlib.Omega.{arith}
use lib.ListN.{length, replicate, length-replicate}
use Rattle.table.specs.Rows.{size}
use Rattle.structure.specs.Structure.{Structure, right_table_has_structure}
use Rattle.lowered.specs.Sources.{carried}
use Rattle.lowered.specs.Lower.{carried_into, plain_nodes}
use Rattle.laid.specs.Bases.{copy_place, node_base_for}
use Rattle.written.specs.Plain.{Laid}
use Rattle.written.specs.Places.{RowsRight, all_right}
use Rattle.carrying.specs.Kept.{Passing, Noted, Bases, Low}
use Rattle.carrying.specs.Sized.{sized, bodies_sized}
use Rattle.carrying.specs.Zeros.{zeros, low_zeros}
use Rattle.laying.specs.Entering.{Room}
use Rattle.laying.specs.Using.{Counting, Values}
use Rattle.laying.specs.Rows.{Operands, Known, RowsLaid}
use Rattle.laying.proofs.Nodes.{base_below}
use Rattle.laid.specs.Those.{none_yet, those_few}

no_copies : (t : List ℕ) (L : ℕ) → copy_place t L 0 ≡ 0
unfolding copy_place
no_copies t L = none_yet (carried t L)

few_copies : (t : List ℕ) (L : ℕ) → length (carried_into t L) ≤ size t
unfolding carried_into
few_copies t L = those_few (carried t L) (size t)

pub none_entered : (t : List ℕ) → Counting t 0 (replicate 512 0) (replicate 512 0)
none_entered t =
    record {
      counts_long = length-replicate {A = ℕ} 512 0;
      lasts_long = length-replicate {A = ℕ} 512 0;
      low = λ L. (let z = zeros 512 L in omega arith);
      count = λ L l k. zeros 512 L ∙ sym (no_copies t L);
    }

-- bases that are all 0 leave room
pub room_at_zero : (t : List ℕ) (n : ℕ) → Passing t n → Room t (replicate 512 0) (replicate 512 0)
room_at_zero t n P =
    record {
      node = λ L l k. (let z = zeros 512 L in let c = few_copies t L in let e = P.rows in let f = P.few in omega arith);
      wire = low_zeros 512;
    }

-- and so do the right ones, where all nodes fit
pub room_where_all_fits : (t nodes wires : List ℕ) → Bases t nodes wires → Low wires → plain_nodes t ≤ 4096 → Room t nodes wires
room_where_all_fits t nodes wires B W f =
    record {
      node = λ L l k. (let z = B.node L l in let a = node_base_for t L k in let b = base_below t L l in omega arith);
      wire = W;
    }

module _ (t : List ℕ) (n : ℕ) (bodies pairs heads links : List ℕ) (N : Noted t n bodies pairs heads links) (nodes wires : List ℕ) (B : Bases t nodes wires) where
  abbrev S : Structure t
  S = right_table_has_structure t N.passing.right

  -- every operand names a value below n
  pub operands_known : (counts lasts rows at : List ℕ) → Values t n nodes wires counts lasts rows at → Operands t at
  operands_known counts lasts rows at W r j u =
      let b = (S.operands r j u.0 u.1).before in
      let e = N.passing.rows in
      let l = u.0 in
      (W.right B).value r j u (omega arith)

  pub known : (counts lasts rows at : List ℕ) → Values t n nodes wires counts lasts rows at → Low wires → plain_nodes t ≤ 4096 → Known t bodies pairs nodes wires at
  known counts lasts rows at W low fit =
      record {
        passing = sized t n N.passing;
        bodies_noted = bodies_sized t n N.passing bodies N.bodies_noted;
        pairs_noted = N.pairs_noted;
        bases = B;
        low = low;
        fit = fit;
        operands = operands_known counts lasts rows at W;
      }

  pub all_laid : (counts lasts rows at new : List ℕ) → Values t n nodes wires counts lasts rows at → RowsLaid t n rows new → Laid t new
  all_laid counts lasts rows at new W R = record { long = R.long; row = all_right t new rights }
    where
      inside : (r : ℕ) → r < size t → r < n
      inside r l = let e = N.passing.rows in omega arith

      rights : RowsRight t new
      rights =
          record {
            ops = λ r l h. (R.each r (inside r l)).op h;
            loops = λ L l k. (R.each L (inside L l)).loop k;
            copies = λ L v l k lv c. (let q = (W.right B).copies L v l k (inside v lv) c in (R.stays _ q.split, R.stays _ q.invariant));
            args = λ a l k. (R.each a (inside a l)).arg k;
          }
