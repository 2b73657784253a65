-- What lower answers, with the lent words after it.
-- Assumes nothing.
use Rattle.std.specs.Prelude.{ℕ, ◌≡◌, List, length, Result, Ok, Err}
use Rattle.refusal.specs.declared.Refused.{Refused}
use Rattle.lowered.specs.Room.{Lowered, lower_answer, lent_after}

abbrev pub lowered : ℕ → ℕ → ℕ → Lowered
lowered k r w = record { number = k; row = r; written = w }

-- how many words were written; none where the table is refused
abbrev pub written : Result ℕ Refused → ℕ
written (Ok n) = n
written (Err e) = 0

pub record LowerAnswer (t lent : List ℕ) (number row written : ℕ) (after : List ℕ) : Type 0 where
  pub answer : lowered number row written ≡ lower_answer t (length lent)
  pub lent_words : after ≡ lent_after t lent
