-- One firing of one node: what a node sees, what a firing does, and firings as small programs.
--
--   Record          a node's phase and three registers (the struct of the code)
--   View            what a node sees
--   Effect          what one firing does
--   Program         how a firing is decided: take a word and go on by it, or give and end
--   perform         a program at a view: not ready, or an effect
--
-- Assumes nothing.
use Rattle.std.specs.Prelude.{Bool, true, false, ℕ}
use Rattle.std.proofs.Math.Option.{Option, none, some}
use Rattle.step.specs.Kinds.{Input, in0, in1, in2, Output, out0, out1}
use Rattle.step.specs.declared.Record.{Record}

-- The word that waits on each input, whether each output has room, and the node's own record. A wire has room if it is empty.
-- A place that the node does not have holds no word, and has no room.
pub record View : Type 0 where
  pub word0 : Option ℕ
  pub word1 : Option ℕ
  pub word2 : Option ℕ
  pub room0 : Bool
  pub room1 : Bool
  pub own : Record

-- The inputs taken, the words given, the new record.
pub record Effect : Type 0 where
  pub takes0 : Bool
  pub takes1 : Bool
  pub takes2 : Bool
  pub gives0 : Option ℕ
  pub gives1 : Option ℕ
  pub next : Record

abbrev pub waits : View → Input → Option ℕ
waits v in0 = v.word0
waits v in1 = v.word1
waits v in2 = v.word2

abbrev pub room : View → Output → Bool
room v out0 = v.room0
room v out1 = v.room1

abbrev pub takes : Effect → Input → Bool
takes e in0 = e.takes0
takes e in1 = e.takes1
takes e in2 = e.takes2

abbrev pub gives : Effect → Output → Option ℕ
gives e out0 = e.gives0
gives e out1 = e.gives1

-- What a firing does is decided step by step: by the record, and then by the words it takes.
pub data Program : Type 0 where
  -- not ready
  stop : Program
  -- take the word on this input, and go on by it
  ask : Input → (ℕ → Program) → Program
  -- put these words on the outputs, leave this record, end
  give : Option ℕ → Option ℕ → Record → Program

-- 'A node is ready when every input it would take is full and every output it would fill has room.'
abbrev pub fillable : Option ℕ → Bool → Bool
fillable none r = true
fillable (some x) r = r

abbrev pub giving : Bool → Bool → Option ℕ → Option ℕ → Record → Option Effect
giving true true x y r = some (record { takes0 = false; takes1 = false; takes2 = false; gives0 = x; gives1 = y; next = r })
giving true false x y r = none
giving false b x y r = none

abbrev pub taking : Input → Effect → Effect
taking in0 e = record { takes0 = true; takes1 = e.takes1; takes2 = e.takes2; gives0 = e.gives0; gives1 = e.gives1; next = e.next }
taking in1 e = record { takes0 = e.takes0; takes1 = true; takes2 = e.takes2; gives0 = e.gives0; gives1 = e.gives1; next = e.next }
taking in2 e = record { takes0 = e.takes0; takes1 = e.takes1; takes2 = true; gives0 = e.gives0; gives1 = e.gives1; next = e.next }

abbrev pub also_taking : Input → Option Effect → Option Effect
also_taking k none = none
also_taking k (some e) = some (taking k e)

abbrev pub with_word : Option ℕ → (ℕ → Option Effect) → Option Effect
with_word none f = none
with_word (some x) f = f x

abbrev pub perform : Program → View → Option Effect
perform stop v = none
perform (ask k f) v = with_word (waits v k) (λ x. also_taking k (perform (f x) v))
perform (give x y r) v = giving (fillable x v.room0) (fillable y v.room1) x y r
