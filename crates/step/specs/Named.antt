-- How the code names a kind: `named` reads the code's kinds, `number_of` numbers them, `Decodes` says which number has which.
-- Assumes nothing.
use Rattle.std.specs.Prelude.{◌≡◌, ℕ, Result, Ok, Err}
use Rattle.std.proofs.Math.Option.{Option, none, some}
use Rattle.step.specs.Kinds.{Kind, STREAM, GATE, CARRY, INVARIANT, SPLIT, FORK, DRAIN, OP, PICK, kind_of}
use Rattle.step.specs.declared.Kind.{Kind as Code}
use Rattle.step.specs.declared.Kind.TheVariants.{Stream, Gate, Carry, Invariant, Split, Fork, Drain, Op, Pick}
use Rattle.step.specs.declared.UnknownKind.{UnknownKind}

abbrev pub named : Code → Kind
named Stream = STREAM
named Gate = GATE
named Carry = CARRY
named Invariant = INVARIANT
named Split = SPLIT
named Fork = FORK
named Drain = DRAIN
named Op = OP
named Pick = PICK

-- the number that stands for a kind
abbrev pub number_of : Code → ℕ
number_of Stream = 0
number_of Gate = 1
number_of Carry = 2
number_of Invariant = 3
number_of Split = 4
number_of Fork = 5
number_of Drain = 6
number_of Op = 7
number_of Pick = 8

-- a kind that was read, or none
abbrev pub read_kind : Result Code UnknownKind → Option Kind
read_kind (Ok κ) = some (named κ)
read_kind (Err e) = none

-- the kind of this number; a number over 8 is no kind, and the error has it
abbrev pub Decodes : ℕ → Result Code UnknownKind → Type 0
Decodes number r = read_kind r ≡ kind_of number
