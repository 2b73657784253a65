-- The kinds, the faults and their numbers: two kinds have two numbers, and no fault has 0.
-- Assumes nothing.
use Prim.Native.Nat.{ℕ, zero, suc, ◌≤◌}
use mathlib.Core.Bool.{Bool, true, false, cond}
use mathlib.Core.Logic.{◌⊎◌}
use Rattle.std.proofs.Math.Logic.{inl, inr}
use native.Mathlib.Omega.{arith}
use mathlib.Core.Path.{◌≡◌, refl, sym, ap, ◌∙◌}
use lib.Dec.{leb}
use Rattle.table.specs.Kinds.{kind_number}
use Rattle.table.specs.Telling.{place_number, name_number, broken_number}
use Rattle.table.specs.declared.PlaceFault.{PlaceFault}
use Rattle.table.specs.declared.PlaceFault.TheVariants.{BehindOut, BehindNext, LateStart, LateArg, LoneNext, ManyNexts, LoneEnd, EarlyEnd, InnerOut}
use Rattle.table.specs.declared.NameFault.{NameFault}
use Rattle.table.specs.declared.NameFault.TheVariants.{Later, Valueless, Closed, Entered, Unended}
use Rattle.table.specs.declared.Broken.{Broken}
use Rattle.table.specs.declared.Broken.TheVariants.{Length, Kind as BrokenKind, Spare, Code, Place, Depth, Name, «Type», Open}
use Rattle.refusal.specs.Numbers.{number_of}
use Rattle.refusal.specs.declared.Refusal.{Refusal}
use Rattle.refusal.specs.declared.Refusal.TheVariants.{Length as RefusedLength, Kind as RefusedKind, Spare as RefusedSpare, Code as RefusedCode, Place as RefusedPlace, Depth as RefusedDepth, Name as RefusedName, «Type» as RefusedType, Open as RefusedOpen, Room, Shape, Node, Wire, Readers, Sort, Inputs, State, Order, Text}
use Rattle.table.specs.declared.Kind.{Kind}
use Rattle.table.specs.declared.Kind.TheVariants.{Input, Const, Op, Pick, For, Arg, Next, End, Out}

kind_with : ℕ → Kind
kind_with zero = Input
kind_with (suc zero) = Const
kind_with (suc (suc zero)) = Op
kind_with (suc (suc (suc zero))) = Pick
kind_with (suc (suc (suc (suc zero)))) = For
kind_with (suc (suc (suc (suc (suc zero))))) = Arg
kind_with (suc (suc (suc (suc (suc (suc zero)))))) = Next
kind_with (suc (suc (suc (suc (suc (suc (suc zero))))))) = End
kind_with (suc (suc (suc (suc (suc (suc (suc (suc n)))))))) = Out

back : (k : Kind) → kind_with (kind_number k) ≡ k
unfolding kind_with
back Input = refl
back Const = refl
back Op = refl
back Pick = refl
back For = refl
back Arg = refl
back Next = refl
back End = refl
back Out = refl

pub same_kind : (j k : Kind) → kind_number k ≡ kind_number j → k ≡ j
same_kind j k e = sym (back k) ∙ ap kind_with e ∙ back j

pub other_kind : (j k : Kind) → (k ≡ j → ⊥) → kind_number k ≡ kind_number j → ⊥
other_kind j k n e = n (same_kind j k e)

-- INPUT and CONST are the first two
pub early : (k : Kind) → (k ≡ Input) ⊎ (k ≡ Const) → leb (kind_number k) 1 ≡ true
early k h = elim h [ inl e ↦ rw e | inr e ↦ rw e ]

pub late : (k : Kind) → (k ≡ Input → ⊥) → (k ≡ Const → ⊥) → leb (kind_number k) 1 ≡ false
late Input n m = absurd (n refl)
late Const n m = absurd (m refl)
late Op n m = refl
late Pick n m = refl
late For n m = refl
late Arg n m = refl
late Next n m = refl
late End n m = refl
late Out n m = refl

pub either_way : (b : Bool) → ◌≡◌ {A = ℕ} 0 (cond b 0 0)
either_way true = refl
either_way false = refl

pub place_fault_counts : (f : PlaceFault) → place_number f ≡ 0 → ⊥
place_fault_counts BehindOut e = absurd (omega arith)
place_fault_counts BehindNext e = absurd (omega arith)
place_fault_counts LateStart e = absurd (omega arith)
place_fault_counts LateArg e = absurd (omega arith)
place_fault_counts LoneNext e = absurd (omega arith)
place_fault_counts ManyNexts e = absurd (omega arith)
place_fault_counts LoneEnd e = absurd (omega arith)
place_fault_counts EarlyEnd e = absurd (omega arith)
place_fault_counts InnerOut e = absurd (omega arith)

pub name_fault_counts : (f : NameFault) → name_number f ≡ 0 → ⊥
name_fault_counts Later e = absurd (omega arith)
name_fault_counts Valueless e = absurd (omega arith)
name_fault_counts (Closed b) e = absurd (omega arith)
name_fault_counts (Entered b) e = absurd (omega arith)
name_fault_counts (Unended b) e = absurd (omega arith)

pub broken_counts : (b : Broken) → broken_number b ≡ 0 → ⊥
broken_counts (Length f) e = absurd (omega arith)
broken_counts BrokenKind e = absurd (omega arith)
broken_counts (Spare w) e = absurd (omega arith)
broken_counts (Code w) e = absurd (omega arith)
broken_counts (Place f l) e = absurd (omega arith)
broken_counts (Depth l) e = absurd (omega arith)
broken_counts (Name w f) e = absurd (omega arith)
broken_counts («Type» w s) e = absurd (omega arith)
broken_counts (Open f l) e = absurd (omega arith)

pub kind_few : (k : Kind) → kind_number k ≤ 8
kind_few Input = omega arith
kind_few Const = omega arith
kind_few Op = omega arith
kind_few Pick = omega arith
kind_few For = omega arith
kind_few Arg = omega arith
kind_few Next = omega arith
kind_few End = omega arith
kind_few Out = omega arith

-- a refusal has a number that is not 0
pub refusal_counts : (x : Refusal) → number_of x ≡ 0 → ⊥
refusal_counts RefusedLength e = absurd (omega arith)
refusal_counts RefusedKind e = absurd (omega arith)
refusal_counts RefusedSpare e = absurd (omega arith)
refusal_counts RefusedCode e = absurd (omega arith)
refusal_counts RefusedPlace e = absurd (omega arith)
refusal_counts RefusedDepth e = absurd (omega arith)
refusal_counts RefusedName e = absurd (omega arith)
refusal_counts RefusedType e = absurd (omega arith)
refusal_counts RefusedOpen e = absurd (omega arith)
refusal_counts Room e = absurd (omega arith)
refusal_counts Shape e = absurd (omega arith)
refusal_counts Node e = absurd (omega arith)
refusal_counts Wire e = absurd (omega arith)
refusal_counts Readers e = absurd (omega arith)
refusal_counts Sort e = absurd (omega arith)
refusal_counts Inputs e = absurd (omega arith)
refusal_counts State e = absurd (omega arith)
refusal_counts Order e = absurd (omega arith)
refusal_counts Text e = absurd (omega arith)
