-- The answers path by path: what each `return` of the entry has to show.
-- Assumes nothing.
use Prim.Native.Nat.{ℕ, ◌≤◌, ◌<◌}
use mathlib.Core.List.{List}
use mathlib.Core.Logic.{◌≢◌}
use mathlib.Core.Path.{◌≡◌, sym, ap, ◌∙◌}
use native.Mathlib.Omega.{arith}
use borrow.Author.Tests.{eq-eqb, ne_eqb, le-leb, lt-leb}
use lib.ListN.{length}
use Rattle.table.specs.Rows.{size}
use Rattle.table.specs.Counted.{rows_of}
use Rattle.table.specs.Check.{Refusal, answer, table_refusal}
use Rattle.table.specs.Right.{TableRight, number_0_is_right}
use Rattle.structure.specs.Structure.{right_table_has_structure}
use Rattle.engine.specs.Answers.{plain_refusal, plain_within, told_by, lent_by, plain_answer, plain_lent, PlainAnswer}
use Rattle.engine.specs.Plain.{Plain, Refused}

-- ---- the refusal, test by test
module _ (t inputs : List ℕ) (lent : ℕ) where
  rows_refuse : (table_refusal t).number ≢ 0 → plain_refusal t inputs lent ≡ table_refusal t
  unfolding plain_refusal
  rows_refuse n = rw (ne_eqb (table_refusal t).number 0 n)

  module _ (z : (table_refusal t).number ≡ 0) where
    inputs_refuse : length inputs ≢ rows_of 0 t (size t) → plain_refusal t inputs lent ≡ answer 16 0
    unfolding plain_refusal
    inputs_refuse n = rw (eq-eqb (table_refusal t).number 0 z, ne_eqb (length inputs) (rows_of 0 t (size t)) n)

    module _ (q : length inputs ≡ rows_of 0 t (size t)) where
      room_refuses : lent < rows_of 8 t (size t) → plain_refusal t inputs lent ≡ answer 10 (size t)
      unfolding plain_refusal
      room_refuses l = rw (eq-eqb (table_refusal t).number 0 z, eq-eqb (length inputs) (rows_of 0 t (size t)) q, lt-leb (rows_of 8 t (size t)) lent l)

      nothing_refuses : rows_of 8 t (size t) ≤ lent → plain_refusal t inputs lent ≡ answer 0 0
      unfolding plain_refusal
      nothing_refuses l = rw (eq-eqb (table_refusal t).number 0 z, eq-eqb (length inputs) (rows_of 0 t (size t)) q, le-leb (rows_of 8 t (size t)) lent l)

-- ---- what the entry knows where it returns
module _ (t : List ℕ) {k r : ℕ} (e : answer k r ≡ table_refusal t) where
  number_is : (table_refusal t).number ≡ k
  number_is = ap (λ (a : Refusal). a.number) (sym e)

  pub is_right : k ≡ 0 → TableRight t
  is_right z = number_0_is_right t (number_is ∙ z)

  pub few_rows : k ≡ 0 → size t ≤ 512
  few_rows z = (right_table_has_structure t (is_right z)).few

  module _ (inputs lent : List ℕ) (A : ℕ) where
    refused : {number row : ℕ} → plain_refusal t inputs (length lent) ≡ answer number row → number ≢ 0 → PlainAnswer t inputs lent A (Refused number row) lent
    unfolding plain_answer plain_lent
    refused {number} {row} h n = record { answer = rw (h, ne_eqb number 0 n); lent_words = rw (h, ne_eqb number 0 n) }

    pub refused_by_rows : k ≢ 0 → PlainAnswer t inputs lent A (Refused k r) lent
    refused_by_rows n = refused by n
      where
        by : plain_refusal t inputs (length lent) ≡ answer k r
        by = rows_refuse t inputs (length lent) (λ z. n (sym number_is ∙ z)) ∙ sym e

    module _ (z : k ≡ 0) where
      pub refused_by_inputs : {n m : ℕ} → n ≡ size t → m ≡ rows_of 0 t n → length inputs ≢ m → PlainAnswer t inputs lent A (Refused 16 0) lent
      refused_by_inputs {n} {m} a b d = refused (inputs_refuse t inputs (length lent) (number_is ∙ z) (λ q. d (q ∙ ap (rows_of 0 t) (sym a) ∙ sym b))) (λ q. omega arith)

      module _ {n m j : ℕ} (a : n ≡ size t) (b : m ≡ rows_of 0 t n) (c : length inputs ≡ m) (d : j ≡ rows_of 8 t n) where
        all_inputs : length inputs ≡ rows_of 0 t (size t)
        all_inputs = c ∙ b ∙ ap (rows_of 0 t) a

        pub refused_by_room : length lent < j → PlainAnswer t inputs lent A (Refused 10 n) lent
        refused_by_room h = refused (room_refuses t inputs (length lent) (number_is ∙ z) all_inputs (let q = ap (rows_of 8 t) a in omega arith) ∙ ap (answer 10) (sym a)) (λ q. omega arith)

        pub read_answer_lem : {p : Plain} {after : List ℕ} → j ≤ length lent → (p ≡ told_by A (plain_within t inputs A)) × (after ≡ lent_by lent (plain_within t inputs A)) → PlainAnswer t inputs lent A p after
        unfolding plain_answer plain_lent
        read_answer_lem h q =
            let f = nothing_refuses t inputs (length lent) (number_is ∙ z) all_inputs (let q = ap (rows_of 8 t) a in omega arith) in
            record { answer = rw f q.0; lent_words = rw f q.1 }
