-- What the two entries' answers have to do with each other.
--
--   check_passes_exactly_if_lower_does        with lent words enough
--   lower_refuses_too_little_room             with too few, and only then, what passes the check is refused by lower
--   refusal_leaves_the_lent_words             all of them
--   success_writes_the_graph_first            and leaves the rest
--   written_graph_is_accepted                 what lower writes, check_graph does not refuse
--
-- Assumes nothing.
use Prim.Native.Nat.{ℕ, zero, suc, ◌+◌, ◌≤◌, ◌<◌}
use Rattle.std.proofs.Math.Path.{◌≡◌, refl, ap}
use Rattle.std.proofs.Common.{◌∙◌, arith}
use Rattle.std.specs.Prelude.{◌≢◌, Bool, ◌&&◌, List, eqb, length}
use Rattle.std.proofs.Math.Bool.{true, false, cond}
use borrow.Author.Tests.{leb-true, le-leb, lt-leb, ne_eqb}
use Rattle.std.proofs.Math.Dec.{leb}
use Rattle.std.proofs.lemmas.List.Edits.{sets}
use Rattle.graph.specs.Refusal.{graph_refusal}
use Rattle.table.specs.Rows.{size}
use Rattle.table.specs.Check.{length_right, end_right, row_refusal, Refusal, answer, rows_from, table_refusal}
use Rattle.lowered.specs.Lower.{lowered_words}
use Rattle.lowered.specs.Room.{ROOM, in_limits, fits_into, refused_by, check_answer, lower_refusal, lent_after}
use Rattle.laid.specs.Listed.{and_both}
use Rattle.laid.specs.Accepts.{accepted_table_lowers_to_an_accepted_graph}

module _ (t : List ℕ) where
  -- ---- with lent words enough, the two tests of room are one
  same_room : (lent : ℕ) → length (lowered_words t) ≤ lent → fits_into t lent ≡ in_limits t
  unfolding fits_into
  same_room lent h = rw (le-leb (length (lowered_words t)) lent h) (and_right (in_limits t))
    where
      and_right : (b : Bool) → b && true ≡ b
      and_right true = refl
      and_right false = refl

  pub check_passes_exactly_if_lower_does : (lent : ℕ) → length (lowered_words t) ≤ lent → lower_refusal t lent ≡ check_answer t
  unfolding lower_refusal check_answer
  check_passes_exactly_if_lower_does lent h = ap (refused_by t) (same_room lent h)

  -- ---- an answer of 0 has passed both
  passed_both : (n : ℕ) (x : Refusal) (room : Bool) → x.number ≡ n → (cond (eqb n 0) (cond room (answer 0 0) (answer ROOM (size t))) x).number ≡ 0 → (n ≡ 0) × (room ≡ true)
  passed_both zero x true e h = (refl, refl)
  passed_both zero x false e h = let z : ◌≡◌ {A = ℕ} 10 0 = h in absurd (omega arith)
  passed_both (suc n) x room e h = let z : x.number ≡ 0 = rw (ne_eqb (suc n) 0 (λ q. omega arith)) at h in absurd (omega arith)

  refused_none : (room : Bool) → (refused_by t room).number ≡ 0 → ((table_refusal t).number ≡ 0) × (room ≡ true)
  unfolding refused_by
  refused_none room h = passed_both (table_refusal t).number (table_refusal t) room refl h

  -- ---- the lent words
  pub refusal_leaves_the_lent_words : (lent : List ℕ) → (lower_refusal t (length lent)).number ≢ 0 → lent_after t lent ≡ lent
  unfolding lent_after
  refusal_leaves_the_lent_words lent n = rw (ne_eqb (lower_refusal t (length lent)).number 0 n)

  pub success_writes_the_graph_first : (lent : List ℕ) → (lower_refusal t (length lent)).number ≡ 0 → lent_after t lent ≡ sets lent 0 (lowered_words t)
  unfolding lent_after
  success_writes_the_graph_first lent e = rw e

  pub lower_refuses_too_little_room : (lent : ℕ) → lent < length (lowered_words t) → (table_refusal t).number ≡ 0 → lower_refusal t lent ≡ answer ROOM (size t)
  unfolding lower_refusal refused_by fits_into
  lower_refuses_too_little_room lent h e = rw (e, lt-leb (length (lowered_words t)) lent h) (no_room (in_limits t))
    where
      no_room : (b : Bool) → cond (b && false) (answer 0 0) (answer ROOM (size t)) ≡ answer ROOM (size t)
      no_room true = refl
      no_room false = refl

  -- ---- a refusal of number 0 is none
  row_zero : (k r : ℕ) (x : Refusal) → (cond (eqb k 0) x (answer k r)).number ≡ 0 → (cond (eqb k 0) x (answer k r) ≡ x) × (x.number ≡ 0)
  row_zero zero r x h = (refl, h)
  row_zero (suc k) r x h = let z : suc k ≡ 0 = rw (ne_eqb (suc k) 0 (λ q. omega arith)) at h in absurd (omega arith)

  rows_zero : (m r : ℕ) → (rows_from m t r).number ≡ 0 → rows_from m t r ≡ answer 0 0
  unfolding rows_from
  rows_zero zero r h = go (end_right t) h
    where
      go : (b : Bool) → (cond b (answer 0 0) (answer 9 r)).number ≡ 0 → cond b (answer 0 0) (answer 9 r) ≡ answer 0 0
      go true h = refl
      go false h = let z : ◌≡◌ {A = ℕ} 9 0 = h in absurd (omega arith)
  rows_zero (suc m) r h = let p = row_zero (row_refusal t r) r (rows_from m t (r + 1)) h in p.0 ∙ rows_zero m (r + 1) p.1

  pub number_0_is_no_refusal : (table_refusal t).number ≡ 0 → table_refusal t ≡ answer 0 0
  unfolding table_refusal
  number_0_is_no_refusal h = go (length_right t) h
    where
      go : (b : Bool) → (cond b (rows_from (size t) t 0) (answer 1 0)).number ≡ 0 → cond b (rows_from (size t) t 0) (answer 1 0) ≡ answer 0 0
      go true h = rows_zero (size t) 0 h
      go false h = let z : ◌≡◌ {A = ℕ} 1 0 = h in absurd (omega arith)

  pub passed_check : (check_answer t).number ≡ 0 → (table_refusal t).number ≡ 0
  unfolding check_answer
  passed_check h = (refused_none (in_limits t) h).0

  -- ---- what is written is accepted
  pub checked_table_lowers : (check_answer t).number ≡ 0 → graph_refusal (lowered_words t) ≡ 0
  unfolding check_answer
  checked_table_lowers h =
      let p = refused_none (in_limits t) h in
      accepted_table_lowers_to_an_accepted_graph t (number_0_is_no_refusal p.0) p.1

  pub written_graph_is_accepted : (lent : ℕ) → (lower_refusal t lent).number ≡ 0 → graph_refusal (lowered_words t) ≡ 0
  unfolding lower_refusal fits_into
  written_graph_is_accepted lent h =
      let p = refused_none (in_limits t && leb (length (lowered_words t)) lent) h in
      accepted_table_lowers_to_an_accepted_graph t (number_0_is_no_refusal p.0) (and_both (in_limits t) (leb (length (lowered_words t)) lent) p.1).0

  pub written_graph_fits : (lent : ℕ) → (lower_refusal t lent).number ≡ 0 → length (lowered_words t) ≤ lent
  unfolding lower_refusal fits_into
  written_graph_fits lent h =
      let p = refused_none (in_limits t && leb (length (lowered_words t)) lent) h in
      leb-true (length (lowered_words t)) lent (and_both (in_limits t) (leb (length (lowered_words t)) lent) p.1).1
