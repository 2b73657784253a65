-- Rows that name rows, and single words set. Assumes nothing.
use Prim.Native.Nat.{ℕ, ◌+◌, ◌≤◌, ◌<◌}
use mathlib.Core.Bool.{cond, true, false}
use denote.Enum.Bare.{sameb}
use borrow.Author.Rules.{rules}
use mathlib.Core.List.{List}
use mathlib.Core.Logic.{◌≢◌}
use mathlib.Core.Path.{◌≡◌, sym, ap, ◌∙◌, subst}
use native.Mathlib.Omega.{arith}
use native.Mathlib.Decide.{ℕ_discrete}
use borrow.Author.Tests.{ne_eqb, eq-eqb}
use lib.Dec.{eqb}
use lib.ListN.{length, get_or, set}
use lib.Seq.{get_or-set_same, get_or-set_other}
use Rattle.table.specs.Rows.{kind_at, word, size, operand_count, first_operand}
use Rattle.table.specs.Kinds.{kind_number}
use Rattle.table.specs.contracts.Kind.{the_type}
use Rattle.table.specs.declared.Kind.{Kind}
use Rattle.table.specs.Right.{TableRight}
use Rattle.structure.specs.Structure.{Structure, right_table_has_structure}
use Rattle.reading.specs.Reading.{set_row}
use Rattle.turning.specs.Words.{Passes, env_of, Names}

module _ (t : List ℕ) (ok : TableRight t) where
  abbrev S : Structure t
  S = right_table_has_structure t ok

  -- the operand j of a row of a kind
  names_at : (kind r j : ℕ) → kind_at t r ≡ kind → r < size t → j < operand_count kind → word t r (first_operand kind + j) < size t
  names_at kind r j e l h =
      let o = (S.operands r j l (subst (λ (x : ℕ). j < operand_count x) (sym e) h)).before in
      let q = ap (λ (x : ℕ). word t r (first_operand x + j)) e in
      omega arith

  pub op_names : (r : ℕ) → r < size t → kind_at t r ≡ 2 → Names t r 2 × Names t r 3
  unfolding operand_count first_operand
  op_names r l k =
      (record { row = l; few = omega arith; named = names_at 2 r 0 k l (omega arith) }, record { row = l; few = omega arith; named = names_at 2 r 1 k l (omega arith) })

  pub pick_names : (r : ℕ) → r < size t → kind_at t r ≡ 3 → Names t r 1 × (Names t r 2 × Names t r 3)
  unfolding operand_count first_operand
  pick_names r l k =
      (record { row = l; few = omega arith; named = names_at 3 r 0 k l (omega arith) }, (record { row = l; few = omega arith; named = names_at 3 r 1 k l (omega arith) }, record { row = l; few = omega arith; named = names_at 3 r 2 k l (omega arith) }))

  pub for_names : (r : ℕ) → r < size t → kind_at t r ≡ 4 → Names t r 1 × (Names t r 2 × Names t r 3)
  unfolding operand_count first_operand
  for_names r l k =
      (record { row = l; few = omega arith; named = names_at 4 r 0 k l (omega arith) }, (record { row = l; few = omega arith; named = names_at 4 r 1 k l (omega arith) }, record { row = l; few = omega arith; named = names_at 4 r 2 k l (omega arith) }))

  pub arg_names : (r : ℕ) → r < size t → kind_at t r ≡ 5 → Names t r 1
  unfolding operand_count first_operand
  arg_names r l k = record { row = l; few = omega arith; named = names_at 5 r 0 k l (omega arith) }

  pub next_names : (r : ℕ) → r < size t → kind_at t r ≡ 6 → Names t r 1
  unfolding operand_count first_operand
  next_names r l k = record { row = l; few = omega arith; named = names_at 6 r 0 k l (omega arith) }

  pub out_names : (r : ℕ) → r < size t → kind_at t r ≡ 8 → Names t r 1
  unfolding operand_count first_operand
  out_names r l k = record { row = l; few = omega arith; named = names_at 8 r 0 k l (omega arith) }

-- what a test of kinds says of their numbers
pub same_kind : (k wanted : Kind) → sameb the_type k wanted ≡ true → kind_number k ≡ kind_number wanted
same_kind k wanted e = search rules

pub other_kind : (k wanted : Kind) → sameb the_type k wanted ≡ false → kind_number k ≢ kind_number wanted
other_kind k wanted e = search rules

-- one word set, word by word and whole
set_at : (e : List ℕ) (r w x : ℕ) → r < length e → get_or (set e r w) x 0 ≡ cond (eqb x r) w (get_or e x 0)
set_at e r w x l =
    elim (ℕ_discrete x r) [
      | yes q ↦ rw (eq-eqb x r q) (ap (λ (y : ℕ). get_or (set e r w) y 0) q ∙ get_or-set_same e r w 0 l)
      | no q ↦ rw (ne_eqb x r q) (get_or-set_other e r x w 0 q)
    ]

pub word_is_set : (e : List ℕ) (r w : ℕ) → r < length e → env_of (set e r w) ≡ set_row r w (env_of e)
unfolding env_of
word_is_set e r w l = λ i x. set_at e r w x l i

pub few_rows : (t : List ℕ) → TableRight t → size t ≤ 512
few_rows t ok = (right_table_has_structure t ok).few

-- a row below the row count is a row of the table
pub row_in : {t : List ℕ} {n r : ℕ} → Passes t n → r < n → r < size t
row_in P l = let e = P.rows in omega arith

-- what reading a named word asks of a row, and of the row named
pub named_asked : (t : List ℕ) → TableRight t → (r k : ℕ) → Names t r k → (r < size t) × (r < 512) × (k < 6)
named_asked t ok r k n = let f = (right_table_has_structure t ok).few in let l = n.row in (l, omega arith, n.few)

pub named_inside : (t : List ℕ) → TableRight t → (r k w len : ℕ) → Names t r k → w ≡ word t r k → len ≡ 512 → w < len
named_inside t ok r k w len n e h = let f = (right_table_has_structure t ok).few in let l = n.named in omega arith
