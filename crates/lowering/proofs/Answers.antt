-- The answers of the entries, path by path: what each `return` of the code has to show.
-- Assumes nothing.
use Prim.Native.Nat.{ℕ, ◌+◌, ◌*◌, ◌<◌, ◌≤◌}
use mathlib.Core.Path.{◌≡◌, refl, sym, ap, ◌∙◌}
use mathlib.Core.Bool.{Bool, true, false, cond, ◌&&◌}
use mathlib.Core.List.{List}
use native.Mathlib.Omega.{arith}
use borrow.Author.Tests.{ne_eqb, le-leb, lt-leb}
use lib.Dec.{leb}
use lib.ListN.{length}
use lib.Seq.{sets}
use Rattle.table.specs.Rows.{size}
use Rattle.table.specs.Check.{Refusal, answer, table_refusal}
use Rattle.lowered.specs.Lower.{lowered_words}
use Rattle.lowered.specs.Room.{in_limits, fits_into, refused_by, check_answer, lower_refusal, lower_answer, lent_after}
use Rattle.laid.specs.Words.{words_long}
use Rattle.carrying.specs.Checked.{and_false, fitting, refused_by_lem, passed_by}
use Rattle.measuring.specs.Ready.{Counted}
use Rattle.lowering.specs.Answers.{LowerAnswer}

-- ---- a table that passes 1 to 9

-- how many words are written
pub words_are : (t : List ℕ) {P W N A S R s r n : ℕ} → Counted t P W N A S R → s ≡ S → r ≡ R → n ≡ N → 4 + 2 * s + r + 7 * n ≡ length (lowered_words t)
words_are t C a b c =
    let long = words_long t in
    let e0 = C.starts in
    let e1 = C.results in
    let e2 = C.nodes in
    omega arith

module _ (t : List ℕ) {k r : ℕ} (e : answer k r ≡ table_refusal t) where
  -- ---- check_table

  pub check_refused : (k ≡ 0 → ⊥) → answer k r ≡ check_answer t
  unfolding check_answer
  check_refused n = refused_by_lem t e (in_limits t) n

  pub check_measured : {a : Refusal} → k ≡ 0 → a ≡ cond (in_limits t) (answer 0 0) (answer 10 (size t)) → a ≡ check_answer t
  unfolding check_answer
  check_measured z h = h ∙ sym (passed_by t e (in_limits t) z)

  -- ---- lower

  module _ (lent : List ℕ) where
    refused : {number row : ℕ} → answer number row ≡ lower_refusal t (length lent) → (number ≡ 0 → ⊥) → LowerAnswer t lent number row 0 lent
    unfolding lower_answer lent_after
    refused {number} {row} h n =
        let q : (lower_refusal t (length lent)).number ≡ number = ap (λ (a : Refusal). a.number) (sym h) in
        let w : (lower_refusal t (length lent)).row ≡ row = ap (λ (a : Refusal). a.row) (sym h) in
        record { answer = rw (q, w, ne_eqb number 0 n); lent_words = rw (q, ne_eqb number 0 n) }

    pub lower_refused : (k ≡ 0 → ⊥) → LowerAnswer t lent k r 0 lent
    unfolding lower_refusal
    lower_refused n = refused (refused_by_lem t e (fits_into t (length lent)) n) n

    without : {n : ℕ} → k ≡ 0 → n ≡ size t → fits_into t (length lent) ≡ false → LowerAnswer t lent 10 n 0 lent
    unfolding lower_refusal
    without z en h =
        refused (ap (answer 10) en ∙ sym (passed_by t e (fits_into t (length lent)) z ∙ ap (λ (x : Bool). cond x (answer 0 0) (answer 10 (size t))) h)) (λ q. omega arith)

    pub lower_crowded : {why row : ℕ} → k ≡ 0 → answer why row ≡ cond (in_limits t) (answer 0 0) (answer 10 (size t)) → (why ≡ 0 → ⊥) → LowerAnswer t lent why row 0 lent
    unfolding fits_into
    lower_crowded {why} {row} z h n = go (in_limits t) refl
      where
        go : (b : Bool) → in_limits t ≡ b → LowerAnswer t lent why row 0 lent
        go true q = absurd (n (ap (λ (a : Refusal). a.number) (h ∙ ap (λ (x : Bool). cond x (answer 0 0) (answer 10 (size t))) q)))
        go false q =
            let d = h ∙ ap (λ (x : Bool). cond x (answer 0 0) (answer 10 (size t))) q in
            let w : why ≡ 10 = ap (λ (a : Refusal). a.number) d in
            let r : row ≡ size t = ap (λ (a : Refusal). a.row) d in
            rw w (without z r (ap (λ (x : Bool). x && leb (length (lowered_words t)) (length lent)) q))

    pub lower_lent : {why n words : ℕ} → k ≡ 0 → why ≡ 10 → n ≡ size t → words ≡ length (lowered_words t) → length lent < words → LowerAnswer t lent why n 0 lent
    unfolding fits_into
    lower_lent z w en h l = rw w (without z en (rw (lt-leb (length (lowered_words t)) (length lent) (omega arith)) (and_false (in_limits t))))

    pub lower_done : {words : ℕ} {after : List ℕ} → k ≡ 0 → answer 0 0 ≡ cond (in_limits t) (answer 0 0) (answer 10 (size t)) → words ≡ length (lowered_words t) → words ≤ length lent
        → after ≡ sets lent 0 (lowered_words t) → LowerAnswer t lent 0 0 words after
    unfolding lower_answer lent_after lower_refusal fits_into
    lower_done z h w l done =
        let room : in_limits t ≡ true = fitting (in_limits t) (size t) h in
        let fits : in_limits t && leb (length (lowered_words t)) (length lent) ≡ true = rw (room, le-leb (length (lowered_words t)) (length lent) (omega arith)) in
        let q : refused_by t (in_limits t && leb (length (lowered_words t)) (length lent)) ≡ answer 0 0 = passed_by t e _ z ∙ ap (λ (x : Bool). cond x (answer 0 0) (answer 10 (size t))) fits in
        record { answer = rw (q, w); lent_words = rw q done }
