-- One machine driven token by token: lists of words wait on its inputs, and what it gives is kept in order. Its outputs always have room.
--
--   Desk                  the words still to come on each input, the words given on each output, the record
--   drive                 firings by `step`, as long as it is ready, at most so many
--   shown                 what was given on each output, what is left on each input, and the record at the end
--
-- Assumes nothing.
use Rattle.std.specs.Prelude.{ℕ, zero, suc, Bool, true, false, List, [], ◌∷◌, ◌++◌}
use Rattle.std.proofs.Math.Option.{Option, none, some}
use Rattle.step.specs.Kinds.{Kind}
use Rattle.step.specs.Firing.{View, Effect}
use Rattle.step.specs.Machines.{step, rest}
use Rattle.step.specs.declared.Record.{Record}

pub record Desk : Type 0 where
  pub in0 : List ℕ
  pub in1 : List ℕ
  pub in2 : List ℕ
  pub out0 : List ℕ
  pub out1 : List ℕ
  pub own : Record

abbrev next : List ℕ → Option ℕ
next [] = none
next (x ∷ xs) = some x

abbrev left : Bool → List ℕ → List ℕ
left false xs = xs
left true [] = []
left true (x ∷ xs) = xs

abbrev more : List ℕ → Option ℕ → List ℕ
more xs none = xs
more xs (some x) = xs ++ (x ∷ [])

abbrev seen : Desk → View
seen d = record { word0 = next d.in0; word1 = next d.in1; word2 = next d.in2; room0 = true; room1 = true; own = d.own }

abbrev fired : Desk → Effect → Desk
fired d e =
    record {
      in0 = left e.takes0 d.in0;
      in1 = left e.takes1 d.in1;
      in2 = left e.takes2 d.in2;
      out0 = more d.out0 e.gives0;
      out1 = more d.out1 e.gives1;
      own = e.next;
    }

unfoldable pub drive : Kind → ℕ → ℕ → Desk → Desk
drive κ code zero d = d
drive κ code (suc most) d = elim (step κ code (seen d)) [ none ↦ d | some e ↦ drive κ code most (fired d e) ]

abbrev pub start : List ℕ → List ℕ → List ℕ → Desk
start a b c = record { in0 = a; in1 = b; in2 = c; out0 = []; out1 = []; own = rest }

abbrev pub words : Record → List ℕ
words r = r.phase ∷ r.r0 ∷ r.r1 ∷ r.r2 ∷ []

abbrev pub shown : Desk → List (List ℕ)
shown d = d.out0 ∷ d.out1 ∷ d.in0 ∷ d.in1 ∷ d.in2 ∷ words d.own ∷ []
