-- The order of kinds, the depth and the codes of a right table.
-- Main names: `starts_first`, `outs_last`, `ends_with_out`, `start_outside`, `out_outside`, `at_most_eight_deep`, `op_code`, `for_codes`, `words_of_rows`.
-- Assumes nothing.
use Prim.Native.Nat.{ℕ, zero, suc, ◌*◌, ◌%◌, ◌<◌, ◌≤◌}
use Rattle.std.proofs.Math.Bool.{true}
use Rattle.std.specs.Prelude.{◌&&◌, List, [], ◌∷◌, ◌≢◌, ◌≡◌, ltb}
use Rattle.std.proofs.lemmas.Bool.{false≢true}
use Rattle.std.proofs.Math.Path.{refl}
use Rattle.std.proofs.Common.{sym, ◌∙◌, subst}
use native.Mathlib.Omega.{arith}
use Rattle.std.proofs.Math.Decide.{ℕ_discrete}
use borrow.Author.Tests.{eqb-true, ltb-true, leb-true}
use Rattle.std.proofs.Math.Dec.{eqb, leb}
use Rattle.std.proofs.Math.ListN.{length}
use Rattle.table.specs.Rows.{kind_at, word, size, field_at}
use Rattle.table.specs.Scan.{Loop, one_arg, one_next, at_head, outward, stack_at}
use Rattle.table.specs.Check.{length_right, kind_right, codes_from, code_right, depth_right, kind_before, outside, end_right}
use Rattle.table.specs.Right.{TableRight}
use Rattle.structure.specs.Place.{both, behind_out, start_behind, out_is_outside, Move, opens, counts, serves, closes, stays, move, stack_opens, stack_arg, stack_next, stack_closes, stack_stays}

same_length : (f : Loop → Loop) (s : List Loop) → length (at_head f s) ≡ length s
same_length f [] = refl
same_length f (l ∷ s) = refl

less_outward : (s : List Loop) → length (outward s) ≤ length s
less_outward [] = omega arith
less_outward (l ∷ s) = omega arith

empty : (s : List Loop) → outside s ≡ true → s ≡ []
empty [] h = refl
empty (l ∷ s) h = absurd (false≢true h)

module _ (t : List ℕ) (ok : TableRight t) where
  pub words_of_rows : length t ≡ 6 * size t
  unfolding length_right
  words_of_rows =
      let p = both (eqb (length t % 6) 0) (leb 1 (size t) && leb (size t) 512) ok.long in
      let z : length t % 6 ≡ 0 = eqb-true (length t % 6) 0 p.0 in
      omega arith

  pub some_rows : 1 ≤ size t
  unfolding length_right
  some_rows = leb-true 1 (size t) (both (leb 1 (size t)) (leb (size t) 512) (both (eqb (length t % 6) 0) (leb 1 (size t) && leb (size t) 512) ok.long).1).0

  pub at_most_512_rows : size t ≤ 512
  unfolding length_right
  at_most_512_rows = leb-true (size t) 512 (both (leb 1 (size t)) (leb (size t) 512) (both (eqb (length t % 6) 0) (leb 1 (size t) && leb (size t) 512) ok.long).1).1

  pub known_kind : (r : ℕ) → r < size t → kind_at t r ≤ 8
  unfolding kind_right
  known_kind r less = leb-true (kind_at t r) 8 (ok.row r less).kind

  -- 'No other kind stands above an INPUT or CONST.'
  pub starts_first : (r s : ℕ) → r < s → s < size t → kind_at t s ≤ 1 → kind_at t r ≤ 1
  starts_first r zero less p k = absurd (omega arith)
  starts_first r (suc s) less p k =
      let IH = starts_first r s in
      let here : kind_at t s ≤ 1 = start_behind t (suc s) (ok.row (suc s) p) k in
      elim (ℕ_discrete r s) [ yes e ↦ rw e here | no e ↦ IH (under r s e less) (omega arith) here ]
    where
      under : (a b : ℕ) → a ≢ b → a < suc b → a < b
      under a b e q = omega arith

  -- 'Below an OUT there are only OUTs.'
  pub outs_last : (r s : ℕ) → r < s → s < size t → kind_at t r ≡ 8 → kind_at t s ≡ 8
  outs_last r zero less p k = absurd (omega arith)
  outs_last r (suc s) less p k =
      let IH = outs_last r s in
      behind_out t (suc s) (ok.row (suc s) p) (elim (ℕ_discrete r s) [ yes e ↦ rw (← e) k | no e ↦ IH (under r s e less) (omega arith) k ])
    where
      under : (a b : ℕ) → a ≢ b → a < suc b → a < b
      under a b e q = omega arith

  pub ends_with_out : (r : ℕ) → suc r ≡ size t → kind_at t r ≡ 8
  unfolding end_right
  ends_with_out r e =
      let h = (both (outside (stack_at t (size t))) (eqb (kind_before t (size t)) 8) ok.ended).1 in
      eqb-true (kind_at t r) 8 (subst (λ (n : ℕ). eqb (kind_before t n) 8 ≡ true) (sym e) h)

  pub nothing_left_open : stack_at t (size t) ≡ []
  unfolding end_right
  nothing_left_open = empty (stack_at t (size t)) (both (outside (stack_at t (size t))) (eqb (kind_before t (size t)) 8) ok.ended).0

  -- 'An OUT stands in no loop', and neither do INPUT and CONST
  pub out_outside : (r : ℕ) → r < size t → kind_at t r ≡ 8 → stack_at t r ≡ []
  out_outside r less k = empty (stack_at t r) (out_is_outside t r (ok.row r less) k)

  pub start_outside : (r : ℕ) → r < size t → kind_at t r ≤ 1 → stack_at t r ≡ []
  unfolding stack_at
  start_outside zero less k = refl
  start_outside (suc r) less k =
      let p : kind_at t r ≤ 1 = start_behind t (suc r) (ok.row (suc r) less) k in
      stack_stays t r (λ e. omega arith) (λ e. omega arith) (λ e. omega arith) (λ e. omega arith) ∙ start_outside r (omega arith) p

  -- a FOR stands where fewer than eight loops are open
  pub loop_room : (r : ℕ) → r < size t → kind_at t r ≡ 4 → length (stack_at t r) < 8
  unfolding depth_right
  loop_room r less k = ltb-true (length (stack_at t r)) 8 (rw k at (ok.row r less).depth)

  pub at_most_eight_deep : (r : ℕ) → r ≤ size t → length (stack_at t r) ≤ 8
  unfolding stack_at
  at_most_eight_deep zero less = omega arith
  at_most_eight_deep (suc r) less = go (at_most_eight_deep r (omega arith)) (move (kind_at t r))
    where
      go : length (stack_at t r) ≤ 8 → Move (kind_at t r) → length (stack_at t (suc r)) ≤ 8
      go h (opens k) = rw (stack_opens t r k) (loop_room r less k)
      go h (counts k) = rw (stack_arg t r k, same_length one_arg (stack_at t r)) h
      go h (serves k) = rw (stack_next t r k, same_length one_next (stack_at t r)) h
      go h (closes k) = rw (stack_closes t r k) (omega (arith, less_outward (stack_at t r)))
      go h (stays n4 n5 n6 n7) = rw (stack_stays t r n4 n5 n6 n7) h

  pub op_code : (r : ℕ) → r < size t → kind_at t r ≡ 2 → word t r 1 ≤ 7
  unfolding field_at codes_from code_right
  op_code r less k =
      let p = both (ltb (word t r 1) 8) true (rw k at (ok.row r less).code) in
      let a = ltb-true (word t r 1) 8 p.0 in
      omega arith

  pub for_codes : (r : ℕ) → r < size t → kind_at t r ≡ 4 → (word t r 4 ≤ 5) × (word t r 5 ≤ 4)
  unfolding field_at codes_from code_right
  for_codes r less k =
      let p = both (ltb (word t r 4) 6) (ltb (word t r 5) 5 && true) (rw k at (ok.row r less).code) in
      let d = ltb-true (word t r 4) 6 p.0 in
      let e = ltb-true (word t r 5) 5 (both (ltb (word t r 5) 5) true p.1).0 in
      (omega arith, omega arith)
