-- What callers of the table's entries are answered: no second outcome fits, the check and lowering agree, and what is written passes the graph's check.
--
--   one_check, one_lower              no second outcome fits
--   check_and_lower_agree             with lent words enough, `lower` answers the number and row of `check_table`
--   lower_refuses_too_little          with too few, 10 and the row count, where `check_table` answers 0
--   refused_words_stay                a refusal leaves every lent word
--   written_words                     else the graph's words stand first, and the rest stays
--   written_graph_passes              and `check_graph` answers 0 for them
--
-- Assumes nothing.
use Rattle.std.specs.Prelude.{ℕ, ◌+◌, ◌≤◌, ◌<◌, ◌≡◌, ◌≢◌, List, ◌++◌, length, take, drop}
use Rattle.std.proofs.Common.{sym, ap, ◌∙◌, arith}
use Rattle.std.proofs.Math.Path.{ap₂}
use Rattle.std.proofs.lemmas.List.Edits.{sets-eq}
use Rattle.graph.specs.Refusal.{graph_refusal}
use Rattle.table.specs.Rows.{size}
use Rattle.table.specs.Check.{answer}
use Rattle.lowered.specs.Lower.{lowered_words}
use Rattle.lowered.specs.Room.{ROOM, check_answer, lower_refusal, lower_answer}
use Rattle.laid.specs.Answers.{check_passes_exactly_if_lower_does, refusal_leaves_the_lent_words, success_writes_the_graph_first, lower_refuses_too_little_room, passed_check, written_graph_fits}
use Rattle.lowering.specs.Answers.{LowerAnswer}
use Rattle.demands.specs.Rehearsal.{graph_is_accepted}

pub one_check : (t : List ℕ) (n r m q : ℕ) → answer n r ≡ check_answer t → answer m q ≡ check_answer t → (n ≡ m) × (r ≡ q)
one_check t n r m q a b = (ap (λ x. x.number) (a ∙ sym b), ap (λ x. x.row) (a ∙ sym b))

pub one_lower : (t lent : List ℕ) (n r l m q k : ℕ) (x y : List ℕ) → LowerAnswer t lent n r l x → LowerAnswer t lent m q k y → (n ≡ m) × (r ≡ q) × (l ≡ k) × (x ≡ y)
one_lower t lent n r l m q k x y a b =
    let e = a.answer ∙ sym b.answer in (ap (λ z. z.number) e, ap (λ z. z.row) e, ap (λ z. z.written) e, a.lent_words ∙ sym b.lent_words)

module _ (t lent : List ℕ) (n r l : ℕ) (x : List ℕ) (a : LowerAnswer t lent n r l x) where
  -- number and row are the refusal's
  is_refusal : answer n r ≡ lower_refusal t (length lent)
  unfolding lower_answer
  is_refusal = ap₂ answer (ap (λ z. z.number) a.answer) (ap (λ z. z.row) a.answer)

  number_is : n ≡ (lower_refusal t (length lent)).number
  number_is = ap (λ z. z.number) is_refusal

  pub check_and_lower_agree : (m q : ℕ) → answer m q ≡ check_answer t → length (lowered_words t) ≤ length lent → (n ≡ m) × (r ≡ q)
  check_and_lower_agree m q c h =
      let e = is_refusal ∙ check_passes_exactly_if_lower_does t (length lent) h ∙ sym c in (ap (λ z. z.number) e, ap (λ z. z.row) e)

  pub lower_refuses_too_little : (q : ℕ) → answer 0 q ≡ check_answer t → length lent < length (lowered_words t) → (n ≡ ROOM) × (r ≡ size t)
  lower_refuses_too_little q c h =
      let e = is_refusal ∙ lower_refuses_too_little_room t (length lent) h (passed_check t (sym (ap (λ z. z.number) c))) in (ap (λ z. z.number) e, ap (λ z. z.row) e)

  pub refused_words_stay : n ≢ 0 → x ≡ lent
  refused_words_stay h = a.lent_words ∙ refusal_leaves_the_lent_words t lent (λ z. h (number_is ∙ z))

  module _ (h : n ≡ 0) where
    passes : (lower_refusal t (length lent)).number ≡ 0
    passes = sym number_is ∙ h

    written : (lower_answer t (length lent)).number ≡ 0
    written = sym (ap (λ z. z.number) a.answer) ∙ h

    pub written_words : x ≡ lowered_words t ++ drop (length (lowered_words t)) lent
    written_words =
        let fits = written_graph_fits t (length lent) passes in
        a.lent_words ∙ success_writes_the_graph_first t lent passes ∙ sets-eq (lowered_words t) lent 0 (let z : 0 + length (lowered_words t) ≤ length lent = omega arith in z)
        ∙ ap (λ (i : ℕ). lowered_words t ++ drop i lent) (let z : 0 + length (lowered_words t) ≡ length (lowered_words t) = omega arith in z)

    pub written_graph_passes : graph_refusal (take l x) ≡ 0
    written_graph_passes =
        ap₂ (λ (i : ℕ) (w : List ℕ). graph_refusal (take i w)) (ap (λ z. z.written) a.answer) a.lent_words ∙ graph_is_accepted t lent written
