-- An answer of read_plain, as the statements speak of it: a refusal's number and row; ended, with the turns made; a zero step, with the FOR's row and the
-- turns made; or spent, with the turns made. `made` and `plain_of` read the code's.
-- Assumes nothing.
use Rattle.std.specs.Prelude.{ℕ, Result, Ok, Err}
use Rattle.refusal.specs.Numbers.{number_of}
use Rattle.refusal.specs.declared.Refused.{Refused as RefusedRow}
use Rattle.engine.specs.declared.Plain.{Plain as Made}
use Rattle.engine.specs.declared.Plain.TheVariants.{Ended as MadeEnded, ZeroStep as MadeZeroStep, Spent as MadeSpent}

pub data Plain : Type 0 where
  Refused : ℕ → ℕ → Plain
  Ended : ℕ → Plain
  ZeroStep : ℕ → ℕ → Plain
  Spent : ℕ → Plain

abbrev pub made : Made → Plain
made (MadeEnded turns) = Ended turns
made (MadeZeroStep row turns) = ZeroStep row turns
made (MadeSpent turns) = Spent turns

abbrev pub plain_of : Result Made RefusedRow → Plain
plain_of (Ok p) = made p
plain_of (Err e) = Refused (number_of e.why) e.row
