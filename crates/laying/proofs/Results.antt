-- The results, OUT row by OUT row. Assumes nothing.
use Prim.Native.Nat.{ℕ, suc, ◌+◌, ◌*◌, ◌≤◌, ◌<◌}
use mathlib.Core.Path.{◌≡◌, sym, ap, ◌∙◌, subst}
use mathlib.Core.Logic.{◌≢◌, inr}
use mathlib.Core.Bool.{true}
use mathlib.Core.List.{List}
use native.Mathlib.Omega.{arith}
use native.Mathlib.Decide.{ℕ_discrete}
use borrow.Author.Tests.{eq-eqb, ne_eqb, eqb-true}
use lib.ListN.{length, get_or, set, length-set}
use lib.Seq.{get_or-set_same, get_or-set_other}
use Rattle.table.specs.Rows.{kind_at, size}
use Rattle.table.specs.Scan.{reads}
use Rattle.table.specs.Bodies.{operand}
use Rattle.structure.specs.Structure.{Structure, right_table_has_structure}
use Rattle.lowered.specs.Gathered.{those}
use Rattle.lowered.specs.Roles.{result}
use Rattle.lowered.specs.Lower.{is_out, out_rows}
use Rattle.laid.specs.Lists.{there, in_range, position_is, those_once}
use Rattle.laid.specs.Made.{result_feed, result_is_fine}
use Rattle.laid.specs.Taken.{out_row}
use Rattle.laid.specs.Bases.{those_at}
use Rattle.laid.specs.Counts.{number_of, source_number}
use Rattle.laid.specs.Wired.{value_by_number}
use Rattle.laid.specs.Sourced.{operand_number}
use Rattle.written.specs.Plain.{Outs}
use Rattle.carrying.specs.Kept.{Passing}
use Rattle.laying.specs.Rows.{Operands, OutsLaid}
use Rattle.laid.specs.Those.{none_yet, one_more_lem, no_more, those_few}
use Rattle.laying.proofs.Nodes.{one_operand}

pub no_outs : (t outs : List ℕ) → length outs ≡ 512 → OutsLaid t 0 0 outs
no_outs t outs long = record { long = long; count = sym (none_yet (is_out t)); out = λ q l h. absurd (omega arith) }

under : (q r : ℕ) → q ≢ r → q < suc r → q < r
under q r y z = omega arith

pub out_skipped : (t : List ℕ) (r k kind : ℕ) (outs : List ℕ) → OutsLaid t r k outs → kind ≡ kind_at t r → kind ≢ 8 → OutsLaid t (r + 1) k outs
out_skipped t r k kind outs O e d =
    subst (λ (x : ℕ). OutsLaid t x k outs) (let z : suc r ≡ r + 1 = omega arith in z)
    (record {
      long = O.long;
      count = (let a = no_more (is_out t) r (ne_eqb (kind_at t r) 8 (λ z. d (e ∙ z))) in let c = O.count in omega arith);
      out = λ q lq h. elim (ℕ_discrete q r) [ yes y ↦ absurd (d (e ∙ ap (kind_at t) (sym y) ∙ eqb-true (kind_at t q) 8 h)) | no y ↦ O.out q (under q r y lq) h ];
    })

module _ (t : List ℕ) (n : ℕ) (P : Passing t n) where
  abbrev S : Structure t
  S = right_table_has_structure t P.right

  pub out_fits : (r k : ℕ) (outs : List ℕ) → r < n → OutsLaid t r k outs → k < 512
  out_fits r k outs l O = let a = those_few (is_out t) r in let c = O.count in let f = P.few in omega arith

  pub out_laid : (at : List ℕ) → Operands t at → (r k kind w : ℕ) (outs : List ℕ) → r < n → OutsLaid t r k outs → kind ≡ kind_at t r → kind ≡ 8 → w ≡ get_or at (3 * r) 0 → OutsLaid t (r + 1) (k + 1) (set outs k w)
  out_laid at K r k kind w outs l O e d ew =
      subst (λ (x : ℕ). OutsLaid t x (k + 1) (set outs k w)) (let z : suc r ≡ r + 1 = omega arith in z)
      (record {
        long = length-set outs k w ∙ O.long;
        count = (let a = one_more_lem (is_out t) r is_out_lem in let c = O.count in omega arith);
        out = λ q lq h. elim (ℕ_discrete q r) [ yes y ↦ here q y | no y ↦ before q (under q r y lq) h ];
      })
    where
      r_in : r < size t
      r_in = let z = P.rows in omega arith

      is_out_lem : is_out t r ≡ true
      is_out_lem = eq-eqb (kind_at t r) 8 (sym e ∙ d)

      number : w ≡ operand_number t r 0
      number =
          let c = one_operand t r (inr (inr (sym e ∙ d))) in
          let z : 3 * r ≡ 3 * r + 0 = omega arith in
          ew ∙ ap (λ (x : ℕ). get_or at x 0) z ∙ K r 0 (r_in, omega arith)

      here : (q : ℕ) → q ≡ r → get_or (set outs k w) (length (those (is_out t) q)) 0 ≡ operand_number t q 0
      here q y =
          let f = out_fits r k outs l O in
          let g = O.long in
          ap (λ (x : ℕ). get_or (set outs k w) (length (those (is_out t) x)) 0) y ∙ ap (λ (x : ℕ). get_or (set outs k w) x 0) (sym O.count)
          ∙ get_or-set_same outs k w 0 (omega arith) ∙ number ∙ ap (λ (x : ℕ). operand_number t x 0) (sym y)

      before : (q : ℕ) → q < r → is_out t q ≡ true → get_or (set outs k w) (length (those (is_out t) q)) 0 ≡ operand_number t q 0
      before q lq h =
          let c = O.count in
          let i = in_range (those (is_out t) r) (length (those (is_out t) q)) q (those_at (is_out t) r q lq h) in
          get_or-set_other outs k (length (those (is_out t) q)) w 0 (λ z. omega arith) ∙ O.out q lq h

  -- an OUT row's result comes from its operand
  result_number : (q : ℕ) → q < size t → is_out t q ≡ true → source_number t (result q) ≡ operand_number t q 0
  unfolding source_number
  result_number q l h =
      let f = result_is_fine t S q l h in
      ap (number_of t) (result_feed t q h) ∙ value_by_number t S (operand t q 0) (reads t q) f.0 f.1 f.2

  pub all_outs : (r k : ℕ) (outs : List ℕ) → r ≤ n → n ≤ r → OutsLaid t r k outs → Outs t outs
  unfolding out_rows
  all_outs r k outs a b O =
      record {
        long = O.long;
        out = λ i q h.
            (let o = out_row t S q (there (out_rows t) i q h) in
            let p : length (those (is_out t) q) ≡ i
            = sym (position_is ℕ_discrete q (out_rows t) (length (those (is_out t) q)) (those_once (is_out t) (size t)) (those_at (is_out t) (size t) q o.0 o.1)) ∙ position_is ℕ_discrete q (out_rows t) i (those_once (is_out t) (size t)) h in
            let l = o.0 in
            let e = P.rows in
            ap (λ (x : ℕ). get_or outs x 0) (sym p) ∙ O.out q (omega arith) o.1 ∙ sym (result_number q o.0 o.1));
      }
