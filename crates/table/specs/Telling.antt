-- What is told of a refused table, by number: the refusal, the fault, the word, the loop.
--
--   FirstWord                      the first word that breaks a rule is answered, and none where none does
--   place_number, name_number, ..  the number of a fault; 0 where there is none
--   broken_number, broken_detail   the refusal of a broken clause, and all that is told of it
--   told_number .. told_nexts      the seven numbers of an answer: 0 where nothing is refused
--
-- Assumes nothing.
use Rattle.std.specs.Prelude.{ℕ, Option, Some, None, Result, Ok, Err, ◌≡◌, ◌≤◌, MatchOption}
use Rattle.refusal.specs.Numbers.{number_of}
use Rattle.refusal.specs.declared.Refused.{Refused}
use Rattle.table.specs.Clauses.{Detail, detail}
use Rattle.table.specs.declared.Sort.{Sort}
use Rattle.table.specs.declared.Sort.TheVariants.{Word, Flag}
use Rattle.table.specs.declared.LengthFault.{LengthFault}
use Rattle.table.specs.declared.LengthFault.TheVariants.{SplitRow, NoRow, ManyRows}
use Rattle.table.specs.declared.PlaceFault.{PlaceFault}
use Rattle.table.specs.declared.PlaceFault.TheVariants.{BehindOut, BehindNext, LateStart, LateArg, LoneNext, ManyNexts, LoneEnd, EarlyEnd, InnerOut}
use Rattle.table.specs.declared.NameFault.{NameFault}
use Rattle.table.specs.declared.NameFault.TheVariants.{Later, Valueless, Closed, Entered, Unended}
use Rattle.table.specs.declared.OpenFault.{OpenFault}
use Rattle.table.specs.declared.OpenFault.TheVariants.{Unclosed, Outless}
use Rattle.table.specs.declared.Innermost.{Innermost}
use Rattle.table.specs.declared.Broken.{Broken}
use Rattle.table.specs.declared.Broken.TheVariants.{Length, Kind, Spare, Code, Place, Depth, Name, «Type», Open}
use Rattle.table.specs.declared.Clause.{Clause}

-- the word that is answered, 1 to 5 for a to e, is the first that breaks a rule; none is where none does
abbrev pub FirstWord : Option ℕ → ℕ → Type 0
FirstWord r word = MatchOption r (word ≡ 0) (λ k. (k ≡ word) × (1 ≤ k) × (k ≤ 5))

abbrev pub sort_number : Sort → ℕ
sort_number Word = 0
sort_number Flag = 1

-- ---- the faults, as `Clauses` numbers them

abbrev pub length_number : LengthFault → ℕ
length_number SplitRow = 1
length_number NoRow = 2
length_number ManyRows = 3

abbrev pub place_number : PlaceFault → ℕ
place_number BehindOut = 1
place_number BehindNext = 2
place_number LateStart = 3
place_number LateArg = 4
place_number LoneNext = 5
place_number ManyNexts = 6
place_number LoneEnd = 7
place_number EarlyEnd = 8
place_number InnerOut = 9

abbrev pub placed : Option PlaceFault → ℕ
placed None = 0
placed (Some f) = place_number f

abbrev pub name_number : NameFault → ℕ
name_number Later = 1
name_number Valueless = 2
name_number (Closed b) = 3
name_number (Entered b) = 4
name_number (Unended b) = 5

abbrev pub seen : Option NameFault → ℕ
seen None = 0
seen (Some f) = name_number f

-- the loop that hides a value
abbrev pub name_body : NameFault → ℕ
name_body Later = 0
name_body Valueless = 0
name_body (Closed b) = b
name_body (Entered b) = b
name_body (Unended b) = b

abbrev pub hidden_by : Option NameFault → ℕ
hidden_by None = 0
hidden_by (Some f) = name_body f

abbrev pub open_number : OpenFault → ℕ
open_number Unclosed = 1
open_number Outless = 2

-- ---- a broken clause

abbrev pub broken_number : Broken → ℕ
broken_number (Length f) = 1
broken_number Kind = 2
broken_number (Spare w) = 3
broken_number (Code w) = 4
broken_number (Place f l) = 5
broken_number (Depth l) = 6
broken_number (Name w f) = 7
broken_number («Type» w s) = 8
broken_number (Open f l) = 9

abbrev pub loop_told : ℕ → Innermost → Detail
loop_told f l = detail f 0 l.body l.args l.nexts

abbrev pub broken_detail : Broken → Detail
broken_detail (Length f) = detail (length_number f) 0 0 0 0
broken_detail Kind = detail 0 0 0 0 0
broken_detail (Spare w) = detail 0 w 0 0 0
broken_detail (Code w) = detail 0 w 0 0 0
broken_detail (Place f l) = loop_told (place_number f) l
broken_detail (Depth l) = loop_told 0 l
broken_detail (Name w f) = detail (name_number f) w (name_body f) 0 0
broken_detail («Type» w s) = detail (sort_number s) w 0 0 0
broken_detail (Open f l) = loop_told (open_number f) l

-- ---- an answer

abbrev pub told_number : {A : Type 0} → Result A Clause → ℕ
told_number (Ok x) = 0
told_number (Err c) = broken_number c.broken

abbrev pub told_row : {A : Type 0} → Result A Clause → ℕ
told_row (Ok x) = 0
told_row (Err c) = c.row

abbrev pub told_detail : {A : Type 0} → Result A Clause → Detail
told_detail (Ok x) = detail 0 0 0 0 0
told_detail (Err c) = broken_detail c.broken

abbrev pub told_fault : {A : Type 0} → Result A Clause → ℕ
told_fault r = (told_detail r).fault

abbrev pub told_word : {A : Type 0} → Result A Clause → ℕ
told_word r = (told_detail r).word

abbrev pub told_body : {A : Type 0} → Result A Clause → ℕ
told_body r = (told_detail r).body

abbrev pub told_args : {A : Type 0} → Result A Clause → ℕ
told_args r = (told_detail r).args

abbrev pub told_nexts : {A : Type 0} → Result A Clause → ℕ
told_nexts r = (told_detail r).nexts

-- the refusal alone, with its row
abbrev pub Answers : Clause → Refused → Type 0
Answers c r = (number_of r.why ≡ broken_number c.broken) × (r.row ≡ c.row)
