-- The refusals' numbers: docs/RULES.md, section 'Refusal numbers'.
--
--   number_of                    the number of a refusal, 1 to 19
--   number_above                 no refusal has the number 0
--   answer_number                the number that an answer stands for: 0 where nothing is refused
--   refused_number, refused_row  the same of an answer whose refusals name a row; the row is 0 where nothing is refused
--
-- Assumes nothing.
use Rattle.std.specs.Prelude.{ℕ, ◌≡◌, ◌≤◌, Result, Ok, Err, IsErrAnd}
use Rattle.std.proofs.Common.{ap, arith}
use Rattle.refusal.specs.declared.Refusal.{Refusal}
use Rattle.refusal.specs.declared.Refusal.TheVariants.{Length, Kind, Spare, Code, Place, Depth, Name, «Type», Open, Room, Shape, Node, Wire, Readers, Sort, Inputs, State, Order, Text}
use Rattle.refusal.specs.declared.Refused.{Refused}

abbrev pub number_of : Refusal → ℕ
number_of Length = 1
number_of Kind = 2
number_of Spare = 3
number_of Code = 4
number_of Place = 5
number_of Depth = 6
number_of Name = 7
number_of «Type» = 8
number_of Open = 9
number_of Room = 10
number_of Shape = 11
number_of Node = 12
number_of Wire = 13
number_of Readers = 14
number_of Sort = 15
number_of Inputs = 16
number_of State = 17
number_of Order = 18
number_of Text = 19

abbrev pub answer_number : {A : Type 0} → Result A Refusal → ℕ
answer_number (Ok x) = 0
answer_number (Err e) = number_of e

abbrev pub refused_number : {A : Type 0} → Result A Refused → ℕ
refused_number (Ok x) = 0
refused_number (Err e) = number_of e.why

abbrev pub refused_row : {A : Type 0} → Result A Refused → ℕ
refused_row (Ok x) = 0
refused_row (Err e) = e.row

pub number_above : (r : Refusal) → 1 ≤ number_of r
number_above Length = omega arith
number_above Kind = omega arith
number_above Spare = omega arith
number_above Code = omega arith
number_above Place = omega arith
number_above Depth = omega arith
number_above Name = omega arith
number_above «Type» = omega arith
number_above Open = omega arith
number_above Room = omega arith
number_above Shape = omega arith
number_above Node = omega arith
number_above Wire = omega arith
number_above Readers = omega arith
number_above Sort = omega arith
number_above Inputs = omega arith
number_above State = omega arith
number_above Order = omega arith
number_above Text = omega arith

-- an error that `?` passes on is the one that came
pub passed_on : {A E : Type 0} (r : Result A E) (e : E) → IsErrAnd r (λ x. x ≡ e) → r ≡ Err e
passed_on (Ok x) e h = absurd h
passed_on (Err x) e h = ap Err h
