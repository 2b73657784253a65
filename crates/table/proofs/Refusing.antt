-- By which number a row is refused, test after test.
-- Assumes nothing.
use Prim.Native.Nat.{ℕ, ◌<◌, ◌≤◌}
use mathlib.Core.Bool.{true, false}
use mathlib.Core.List.{List}
use mathlib.Core.Path.{◌≡◌}
use native.Mathlib.Omega.{arith}
use borrow.Author.Tests.{ne_eqb, le-leb, lt-leb}
use Rattle.table.specs.Rows.{kind_at}
use Rattle.table.specs.Check.{kind_right, depth_right, row_refusal}
use Rattle.table.specs.Clauses.{spare_word, code_word, place_fault, hidden_word, mistyped_word}
use Rattle.table.specs.Broken.{spare_told, code_told, place_told, names_told, types_told}

module _ (t : List ℕ) (r : ℕ) where
  pub by_kind : 8 < kind_at t r → row_refusal t r ≡ 2
  unfolding row_refusal kind_right
  by_kind h = rw (lt-leb _ 8 h)

  module _ (k : kind_at t r ≤ 8) where
    pub by_spare : {w : ℕ} → w ≡ spare_word t r → 1 ≤ w → row_refusal t r ≡ 3
    unfolding row_refusal kind_right
    by_spare {w} e h = rw (le-leb _ 8 k, spare_told, ← e, ne_eqb w 0 (λ q. omega arith))

    module _ (s : spare_word t r ≡ 0) where
      pub by_code : {w : ℕ} → w ≡ code_word t r → 1 ≤ w → row_refusal t r ≡ 4
      unfolding row_refusal kind_right
      by_code {w} e h = rw (le-leb _ 8 k, spare_told, s, code_told, ← e, ne_eqb w 0 (λ q. omega arith))

      module _ (c : code_word t r ≡ 0) where
        pub by_place : {w : ℕ} → w ≡ place_fault t r → (w ≡ 0 → ⊥) → row_refusal t r ≡ 5
        unfolding row_refusal kind_right
        by_place {w} e h = rw (le-leb _ 8 k, spare_told, s, code_told, c, place_told, ← e, ne_eqb w 0 h)

        module _ (p : place_fault t r ≡ 0) where
          pub by_depth : depth_right t r ≡ false → row_refusal t r ≡ 6
          unfolding row_refusal kind_right
          by_depth e = rw (le-leb _ 8 k, spare_told, s, code_told, c, place_told, p, e)

          module _ (d : depth_right t r ≡ true) where
            pub by_name : (hidden_word t r ≡ 0 → ⊥) → row_refusal t r ≡ 7
            unfolding row_refusal kind_right
            by_name h = rw (le-leb _ 8 k, spare_told, s, code_told, c, place_told, p, d, names_told, ne_eqb _ 0 h)

            module _ (n : hidden_word t r ≡ 0) where
              pub by_type : {w : ℕ} → w ≡ mistyped_word t r → 1 ≤ w → row_refusal t r ≡ 8
              unfolding row_refusal kind_right
              by_type {w} e h = rw (le-leb _ 8 k, spare_told, s, code_told, c, place_told, p, d, names_told, n, types_told, ← e, ne_eqb w 0 (λ q. omega arith))

              pub by_none : mistyped_word t r ≡ 0 → row_refusal t r ≡ 0
              unfolding row_refusal kind_right
              by_none e = rw (le-leb _ 8 k, spare_told, s, code_told, c, place_told, p, d, names_told, n, types_told, e)
